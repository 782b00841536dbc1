use Rattle.std.proofs.Common.{arith, subst, ◌∙◌}
use Rattle.conntrack_cmd.specs.Internal.Loops.{IsListing}
use Rattle.conntrack_cmd.proofs.Sweeps.{listing_none, listing_pushed}
use Rattle.conntrack_cmd.proofs.sweep.list_all.Goals as goal

pub places-preserved-in-Some : goal.places-preserved-in-Some
places-preserved-in-Some g c = record {
  within = omega (arith, c.places-test.true);
  all = c.places.invariant.all;
  room = omega (arith, c.push.ensures.room, c.places.invariant.room);
  listing = listing_pushed c.desks_go_on.ensures.states c.sweeps_go_on.ensures.place c.desks_go_on.ensures.all c.sweeps_go_on.ensures.visits (g.D.Desk.sight c.args.desk.now) (g.D.Desk.sight c.places.desk)
      (g.D.Desk.sight c.list_place.new.desk) c.places.next c.args.filter.now c.places.rows.items c.push.new.self.items c.in-Some.row
      c.push.ensures.items c.places.invariant.listing c.in-Some.ensures.saw c.in-Some.ensures.row c.in-Some.ensures.placed
      c.in-Some.ensures.visited c.in-Some.ensures.empty c.in-Some.ensures.knows;
}

pub places-preserved : goal.places-preserved
places-preserved g c = record {
  within = omega (arith, c.places-test.true);
  all = c.places.invariant.all;
  room = c.places.invariant.room;
  listing = listing_none c.desks_go_on.ensures.states c.sweeps_go_on.ensures.place c.desks_go_on.ensures.all c.sweeps_go_on.ensures.visits (g.D.Desk.sight c.args.desk.now) (g.D.Desk.sight c.places.desk)
      (g.D.Desk.sight c.list_place.new.desk) c.places.next c.args.filter.now c.places.rows.items c.places.invariant.listing
      c.in_default.ensures.saw c.in_default.ensures.visited c.in_default.ensures.empty c.in_default.ensures.knows;
}

pub returns-clause-listed : goal.returns-clause-listed
returns-clause-listed g c =
    subst (λ n. IsListing c.args.filter.now (g.D.Desk.sight c.args.desk.now) (g.D.Desk.sight c.places.desk) n c.places.rows.items)
    (omega (arith, c.places.invariant.within, c.places-test.false) ∙ c.places.invariant.all) c.places.invariant.listing
