use Rattle.std.proofs.Common.{◌≡◌, drop}
use Rattle.std.specs.Prelude.{find}
use Rattle.history_book.specs.Record.{has_id}
use Rattle.history_book.proofs.find.find_id.Given as goal

abbrev pub invariant-loop-index : goal.invariant-loop-index
invariant-loop-index l = find (has_id l.id) (drop l.index l.records) ≡ find (has_id l.id) l.records
