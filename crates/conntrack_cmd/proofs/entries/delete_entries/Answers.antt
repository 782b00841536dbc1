use Rattle.std.proofs.Common.{◌≡◌, length}
use Rattle.conntrack_cmd.proofs.Fronts.{still_empty}
use Rattle.conntrack_cmd.proofs.Said.{delete_speaks}
use Rattle.conntrack_cmd.proofs.entries.delete_entries.Goals as goal

pub returns-clause-says : goal.returns-clause-says
returns-clause-says g c =
    let old = g.D.Desk.sight c.args.desk.now in
    let a = g.D.Desk.sight c.count-first.new.self in
    let b = g.D.Desk.sight c.destroy_all.new.desk in
    let new = g.D.Desk.sight c.count-last.new.self in
    delete_speaks c.desks_go_on.ensures.all c.desks_go_on.ensures.states old a b new c.count-first.result.at c.count-last.result.at
    (λ s. c.count-first.result.live ≡ length s.records) (λ s. c.count-last.result.live ≡ length s.records)
    c.count-first.ensures.says.0 c.count-last.ensures.says.0 c.desks_go_on.ensures.events c.sweeps_see_each_entry.ensures.visits c.sweeps_see_each_entry.ensures.rows c.sweeps_see_each_entry.ensures.place
    c.sweeps_see_each_entry.ensures.pool c.entries_live_once.ensures.confirmed
    c.entries_live_once.ensures.gone c.args.filter.now c.destroy_all.new.rows.items c.sort_rows.new.rows
    c.destroy_all.ensures.destroyed c.sort_rows.ensures.permutation c.sort_rows.ensures.sorted
    (still_empty b new c.count-last.ensures.says.1 c.destroy_all.ensures.destroyed.empty) c.count-last.ensures.knows
