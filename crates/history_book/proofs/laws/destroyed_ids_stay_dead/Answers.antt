use Rattle.std.specs.Prelude.{◌≢◌}
use Rattle.std.proofs.lemmas.List.Elements.{All-from_recursion}
use Rattle.history_book.specs.declared.record.Record.{Record}
use Rattle.history_book.specs.History.{after}
use Rattle.history_book.proofs.Sound.{dead_at}
use Rattle.history_book.proofs.laws.destroyed_ids_stay_dead.Goals as goal

pub returns : goal.returns
returns c = λ sizes log n p id why legal at below within.
    All-from_recursion (λ (r : Record). r.id ≢ id) (after log p).records (dead_at sizes n p id why log legal at below)
