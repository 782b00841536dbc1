use Rattle.std.proofs.Common.{arith, subst, ap}
use Rattle.history_book.specs.declared.event.Why.TheVariants.{Dropped}
use Rattle.packet_path.specs.Internal.Scan.{IsScanning}
use Rattle.packet_path.proofs.Scanning.{scanning_done, scanning_dropped, scanning_more, scanning_start}
use Rattle.packet_path.proofs.scan.drop_one.Goals as goal

pub places-init : goal.places-init
places-init g c = record {
  within = omega arith;
  all = c.places-places.ensures.exact;
  scanning = scanning_start c.desks_go_on.ensures.resting (Dropped c.args.moment) (g.D.Desk.sight c.args.desk.now) c.args.full_at
      c.requires.seen c.requires.empty c.requires.knows;
}

pub places-preserved : goal.places-preserved
places-preserved g c = record {
  within = omega (arith, c.places-test.true);
  all = c.places.invariant.all;
  scanning = scanning_more (Dropped c.args.moment) c.args.full_at (g.D.Desk.sight c.args.desk.now) (g.D.Desk.sight c.places.desk)
      (g.D.Desk.sight c.destroy_place.new.desk) c.places.next c.places.at c.destroy_place.ensures.knows c.places.invariant.scanning
      c.desks_go_on.ensures.twice c.sweeps_go_on.ensures.visits c.in-Left.left c.in-Left.ensures.says c.destroy_place.ensures.empty;
}

pub returns-in-Destroyed-clause-says : goal.returns-in-Destroyed-clause-says
returns-in-Destroyed-clause-says g c =
    scanning_dropped (Dropped c.args.moment) c.args.full_at (g.D.Desk.sight c.args.desk.now) (g.D.Desk.sight c.places.desk)
    (g.D.Desk.sight c.destroy_place.new.desk) c.places.next c.places.at c.destroy_place.ensures.knows c.places.invariant.scanning
    c.desks_go_on.ensures.all c.sweeps_see_each_entry.ensures.visits c.sweeps_see_each_entry.ensures.rows c.in-Destroyed.row c.in-Destroyed.ensures.says

pub returns-clause-says : goal.returns-clause-says
returns-clause-says g c =
    let now = g.D.Desk.sight c.places.desk in
    let s = c.places.invariant.scanning in
    scanning_done c.sweeps_see_each_entry.ensures.pool c.sweeps_see_each_entry.ensures.rows (Dropped c.args.moment) c.args.full_at (g.D.Desk.sight c.args.desk.now) now c.places.at
    (subst (λ n. IsScanning (Dropped c.args.moment) c.args.full_at (g.D.Desk.sight c.args.desk.now) now n c.places.at)
    (omega (arith, c.places.invariant.within, c.places-test.false, c.places.invariant.all, ap (λ z. z.entries) s.saw.went.pass.sizes)) s)
