use Rattle.std.specs.Prelude.{◌≡◌, ◌+◌, ◌*◌, ◌≤◌, length, drop}
use Rattle.history_book.specs.Merge.{all_notes}
use Rattle.history_book.proofs.merge.count_events.Given as goal

abbrev pub invariant-lists : goal.invariant-lists
invariant-lists l = record {
  all : l.total + length (all_notes (drop l.notes-index l.lists)) ≡ length (all_notes l.lists);
  few : l.total ≤ l.notes-index * 4294967295;
}
