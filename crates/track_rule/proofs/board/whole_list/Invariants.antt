use Rattle.std.proofs.Common.{◌≡◌, ℕ, ◌%◌, ◌≤◌, length}
use Rattle.std.specs.Prelude.{◌&&◌, nat_lt}
use Rattle.track_rule.specs.Opening.{before_column}
use Rattle.track_rule.specs.Sums.{bit, times}
use Rattle.track_rule.proofs.board.whole_list.Given as goal

abbrev pub invariant-columns : goal.invariant-columns
invariant-columns l = record {
  each : (p : ℕ) → times p l.free.items ≡ bit (nat_lt (p % 16) l.column && nat_lt p l.entries);
  long : length l.free.items ≡ before_column l.entries l.column;
  room : l.entries ≤ l.free.room;
}
