-- A run whose desk was left has ended with its tracker.
use Rattle.std.proofs.Common.{sym, subst}
use Rattle.history_book.specs.Close.{Closes}
use Rattle.history_book.specs.Sight.{Sight}
use Rattle.replay_runs.specs.Laws.{LeftRunsEnd}

pub left_runs_end : LeftRunsEnd
left_runs_end setup given sizes items captures script numbers desk left outcome closed sized same is_left run closes = record {
  numbers = numbers;
  desk = desk;
  run = rw (← sized, ← same) run;
  closes = subst (λ (s : Sight). Closes s closed) is_left closes;
}
