use Rattle.std.proofs.Common.{sym, ◌∙◌}
use Rattle.shared_desk.proofs.Lookups.{looks_invalid, looks_valid}
use Rattle.shared_desk.proofs.lookup.find_once.Goals as goal

pub returns-then-is_valid-clause-says : goal.returns-then-is_valid-clause-says
returns-then-is_valid-clause-says c =
    looks_valid c.tuples_tell_entries.ensures c.live_records_are_confirmed.ensures c.args.t.now (sym c.is_valid.ensures ∙ c.if-is_valid.true) c.find_once.result c.args.pass.now c.find_once.new.pass
    c.find_once.ensures.says

pub returns-clause-says : goal.returns-clause-says
returns-clause-says c =
    looks_invalid c.tuples_tell_entries.ensures c.args.t.now (sym c.is_valid.ensures ∙ c.if-is_valid.false) c.history_load.result c.events_in.result c.args.pass.now c.history_load.new.self
    c.history_load.ensures.looks c.history_load.ensures.kept c.events_in.ensures
