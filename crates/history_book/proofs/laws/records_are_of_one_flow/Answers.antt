use Rattle.std.specs.Prelude.{◌≡◌, true}
use Rattle.std.proofs.lemmas.List.Elements.{All-from_recursion}
use Rattle.history_book.specs.declared.record.Record.{Record}
use Rattle.history_book.specs.History.{after}
use Rattle.history_book.specs.Legality.{is_of_one_flow}
use Rattle.history_book.proofs.OneFlow.{protocol_after}
use Rattle.history_book.proofs.laws.records_are_of_one_flow.Goals as goal

pub returns : goal.returns
returns c = λ sizes log p legal.
    All-from_recursion (λ (r : Record). is_of_one_flow r ≡ true) (after log p).records
    (protocol_after c.accepted_go_on.ensures c.same_part_is_equality.ensures sizes p log legal)
