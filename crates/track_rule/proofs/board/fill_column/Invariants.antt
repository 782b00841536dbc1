use Rattle.std.proofs.Common.{◌≡◌, ℕ, ◌+◌, ◌-◌, ◌*◌, ◌%◌, ◌<◌, length}
use Rattle.std.specs.Prelude.{◌==◌, ◌&&◌, nat_lt}
use Rattle.track_rule.specs.Sums.{bit, times}
use Rattle.track_rule.proofs.board.fill_column.Given as goal

abbrev pub invariant-column : goal.invariant-column
invariant-column l = record {
  rem : l.place % 16 ≡ l.column;
  near : l.place < l.entries + 16;
  each : (p : ℕ) → times p l.free.items ≡ times p l.initial.free.items + bit (p % 16 == l.column && nat_lt p l.place);
  long : length l.free.items * 16 + l.column ≡ length l.initial.free.items * 16 + l.place;
  room : l.free.room ≡ l.initial.free.room;
}

abbrev pub decreases-column : goal.decreases-column
decreases-column l = l.entries + 16 - l.place
