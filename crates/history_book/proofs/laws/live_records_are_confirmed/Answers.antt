use Rattle.std.specs.Prelude.{◌<◌}
use Rattle.std.proofs.lemmas.List.Elements.{All-from_recursion}
use Rattle.history_book.specs.declared.record.Record.{Record}
use Rattle.history_book.specs.History.{after}
use Rattle.history_book.specs.Laws.{IsConfirmed}
use Rattle.history_book.proofs.Sound.{confirmed_after, sound_after}
use Rattle.history_book.proofs.laws.live_records_are_confirmed.Goals as goal

pub returns : goal.returns
returns c = λ sizes log p legal. (
  All-from_recursion (IsConfirmed log) (after log p).records (confirmed_after sizes p log legal),
  All-from_recursion (λ (r : Record). r.id < p) (after log p).records (sound_after sizes p log legal).older,
)
