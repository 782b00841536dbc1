use Rattle.std.proofs.Common.{◌≡◌, ◌++◌, drop, map, take}
use Rattle.history_book.specs.State.{with_part}
use Rattle.history_book.proofs.check.touch.Given as goal

abbrev pub invariant-records : goal.invariant-records
invariant-records l =
    l.records ≡ map (with_part l.fn.id l.fn.after) (take l.r-index l.initial.records) ++ drop l.r-index l.initial.records
