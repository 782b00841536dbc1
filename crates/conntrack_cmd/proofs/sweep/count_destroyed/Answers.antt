use Rattle.std.proofs.Common.{arith}
use Rattle.conntrack_cmd.proofs.Sweeps.{counting_none, counting_some, counting_start}
use Rattle.conntrack_cmd.proofs.sweep.count_destroyed.Goals as goal

pub places-preserved-in-Destroyed : goal.places-preserved-in-Destroyed
places-preserved-in-Destroyed g c = record {
  within = omega (arith, c.places-test.true);
  all = c.places.invariant.all;
  counting = counting_some c.desks_go_on.ensures.states c.sweeps_go_on.ensures.place c.desks_go_on.ensures.all c.sweeps_go_on.ensures.visits (g.D.Desk.sight c.args.desk.now)
      (g.D.Desk.sight c.places.desk) (g.D.Desk.sight c.destroy_place.new.desk) c.places.next c.desks_go_on.ensures.events c.args.why
      c.places.ended _ c.places.invariant.counting c.in-Destroyed.ensures.says c.in-Destroyed.ensures.empty c.in-Destroyed.ensures.knows;
}

pub places-preserved : goal.places-preserved
places-preserved g c = record {
  within = omega (arith, c.places-test.true);
  all = c.places.invariant.all;
  counting = counting_none c.desks_go_on.ensures.states c.sweeps_go_on.ensures.place c.desks_go_on.ensures.all c.sweeps_go_on.ensures.visits (g.D.Desk.sight c.args.desk.now)
      (g.D.Desk.sight c.places.desk) (g.D.Desk.sight c.destroy_place.new.desk) c.places.next c.desks_go_on.ensures.events c.args.why
      c.places.ended c.places.invariant.counting c.in-Left.at c.in-Left.ensures.says c.in-Left.ensures.empty c.in-Left.ensures.knows;
}

pub places-init : goal.places-init
places-init g c = record {
  within = omega arith;
  all = c.places-places.ensures.exact;
  counting = counting_start c.desks_go_on.ensures.all c.args.why (g.D.Desk.sight c.args.desk.now) c.requires.empty c.requires.knows;
}
