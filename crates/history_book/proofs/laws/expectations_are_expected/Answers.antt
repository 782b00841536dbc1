use Rattle.std.proofs.lemmas.List.Elements.{All-from_recursion}
use Rattle.history_book.specs.History.{after}
use Rattle.history_book.specs.Laws.{IsExpected}
use Rattle.history_book.proofs.Gone.{expected_after}
use Rattle.history_book.proofs.laws.expectations_are_expected.Goals as goal

pub returns : goal.returns
returns c = λ sizes log p legal.
    All-from_recursion (IsExpected log) (after log p).expects (expected_after sizes p log legal)
