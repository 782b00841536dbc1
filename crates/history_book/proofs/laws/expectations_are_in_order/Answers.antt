use Rattle.std.specs.Prelude.{◌<◌}
use Rattle.std.proofs.lemmas.List.Elements.{All-from_recursion}
use Rattle.expect_table.specs.declared.expectation.Expectation.{Expectation}
use Rattle.history_book.specs.History.{after}
use Rattle.history_book.proofs.Expected.{ordered_after}
use Rattle.history_book.proofs.laws.expectations_are_in_order.Goals as goal

pub returns : goal.returns
returns c = λ sizes log p legal.
    let ordered = ordered_after c.adding_keeps_order.ensures c.removing_keeps_order.ensures sizes p log legal in
    (ordered.order, All-from_recursion (λ (e : Expectation). e.id < p) (after log p).expects ordered.older)
