use Rattle.std.proofs.Common.{refl, arith, subst, sym}
use Rattle.conntrack_cmd.specs.Internal.Loops.{IsDestroying}
use Rattle.conntrack_cmd.proofs.Sweeps.{destroying_none, destroying_pushed, destroying_start}
use Rattle.conntrack_cmd.proofs.sweep.destroy_all.Goals as goal

pub places-preserved-in-Destroyed : goal.places-preserved-in-Destroyed
places-preserved-in-Destroyed g c = record {
  within = omega (arith, c.places-test.true);
  all = c.places.invariant.all;
  room = omega (arith, c.push.ensures.room, c.places.invariant.room);
  destroying = destroying_pushed c.desks_go_on.ensures.states c.sweeps_go_on.ensures.place c.desks_go_on.ensures.all c.sweeps_go_on.ensures.visits (g.D.Desk.sight c.args.desk.now)
      (g.D.Desk.sight c.places.desk) (g.D.Desk.sight c.destroy_place.new.desk) c.places.next c.desks_go_on.ensures.events c.args.why
      c.places.rows.items c.push.new.self.items c.in-Destroyed.row c.push.ensures.items c.places.invariant.destroying c.in-Destroyed.ensures.says
      c.in-Destroyed.ensures.empty c.in-Destroyed.ensures.knows;
}

pub places-preserved : goal.places-preserved
places-preserved g c = record {
  within = omega (arith, c.places-test.true);
  all = c.places.invariant.all;
  room = c.places.invariant.room;
  destroying = destroying_none c.desks_go_on.ensures.states c.sweeps_go_on.ensures.place c.desks_go_on.ensures.all c.sweeps_go_on.ensures.visits (g.D.Desk.sight c.args.desk.now)
      (g.D.Desk.sight c.places.desk) (g.D.Desk.sight c.destroy_place.new.desk) c.places.next c.desks_go_on.ensures.events c.args.why
      c.places.rows.items c.places.invariant.destroying c.in-Left.at c.in-Left.ensures.says c.in-Left.ensures.empty c.in-Left.ensures.knows;
}

pub places-init : goal.places-init
places-init g c =
    let s = g.D.Desk.sight c.args.desk.now in
    record {
      within = omega arith;
      all = c.places-places.ensures.exact;
      room = refl;
      destroying = subst (IsDestroying c.args.why s s 0) {y = c.args.rows.now.items} (sym c.requires.none) (destroying_start c.desks_go_on.ensures.all c.args.why s c.requires.empty c.requires.knows);
    }
