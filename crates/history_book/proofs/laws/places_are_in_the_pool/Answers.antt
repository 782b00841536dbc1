use Rattle.std.specs.Prelude.{◌<◌}
use Rattle.std.proofs.lemmas.List.Elements.{All-from_recursion}
use Rattle.history_book.specs.declared.record.Record.{Record}
use Rattle.history_book.specs.History.{after}
use Rattle.history_book.proofs.Gone.{places_after}
use Rattle.history_book.proofs.laws.places_are_in_the_pool.Goals as goal

pub returns : goal.returns
returns c = λ sizes log p legal.
    All-from_recursion (λ (r : Record). r.place < sizes.entries) (after log p).records (places_after sizes log p legal)
