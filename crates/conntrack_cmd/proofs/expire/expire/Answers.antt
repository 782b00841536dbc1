use Rattle.std.proofs.Common.{◌≡◌, length}
use Rattle.conntrack_cmd.proofs.Expiry.{expire_speaks, late_spare}
use Rattle.conntrack_cmd.proofs.Fronts.{still_empty}
use Rattle.conntrack_cmd.proofs.expire.expire.Goals as goal

pub end_late-expectations-requires-clause-spare : goal.end_late-expectations-requires-clause-spare
end_late-expectations-requires-clause-spare g c =
    late_spare c.expectations_live_once.ensures.few (g.D.Desk.sight c.args.desk.now) (g.D.Desk.sight c.count-first.new.self) (g.D.Desk.sight c.count_destroyed-entries.new.desk)
    (g.D.Desk.sight c.expects.new.self) c.args.moment c.count-first.result.at c.expects.result c.count_destroyed-entries.result
    c.expects.new.listed.items (λ s. c.count-first.result.live ≡ length s.records) c.requires.spare c.count-first.ensures.says.0
    c.count_destroyed-entries.ensures c.expects.ensures.says.0 c.expects.ensures.knows

pub returns-clause-says : goal.returns-clause-says
returns-clause-says g c =
    let d = g.D.Desk.sight c.end_late-expectations.new.desk in
    let new = g.D.Desk.sight c.count-last.new.self in
    expire_speaks c.desks_go_on.ensures.all c.desks_go_on.ensures.states c.desks_go_on.ensures.events c.sweeps_see_each_entry.ensures.visits c.sweeps_see_each_entry.ensures.rows c.expectations_live_once.ensures.few c.sweeps_see_each_entry.ensures.place c.sweeps_see_each_entry.ensures.pool
    c.expectations_live_once.ensures.expected c.expectations_live_once.ensures.order c.expectations_live_once.ensures.gone
    (g.D.Desk.sight c.args.desk.now) (g.D.Desk.sight c.count-first.new.self) (g.D.Desk.sight c.count_destroyed-entries.new.desk)
    (g.D.Desk.sight c.expects.new.self) d new c.args.moment c.count-first.result.at c.expects.result c.count-last.result.at
    c.count_destroyed-entries.result c.end_late-expectations.result c.expects.new.listed.items
    (λ s. c.count-first.result.live ≡ length s.records) (λ s. c.count-last.result.live ≡ length s.records) c.count-first.ensures.says.0
    c.count_destroyed-entries.ensures c.expects.ensures.says.0 c.expects.ensures.knows c.end_late-expectations.ensures
    c.count-last.ensures.says.0 (still_empty d new c.count-last.ensures.says.1 c.end_late-expectations.ensures.empty) c.count-last.ensures.knows
