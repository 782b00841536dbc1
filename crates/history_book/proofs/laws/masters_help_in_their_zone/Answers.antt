use Rattle.std.specs.Prelude.{◌≡◌, true}
use Rattle.std.proofs.lemmas.List.Elements.{All-from_recursion}
use Rattle.expect_table.specs.declared.expectation.Expectation.{Expectation}
use Rattle.history_book.specs.History.{after}
use Rattle.history_book.specs.Legality.{helps_in}
use Rattle.history_book.specs.State.{record_of}
use Rattle.history_book.proofs.Expected.{helped_after}
use Rattle.history_book.proofs.laws.masters_help_in_their_zone.Goals as goal

pub returns : goal.returns
returns c = λ sizes log p legal.
    All-from_recursion (λ (e : Expectation). helps_in e.zone (record_of e.master (after log p)) ≡ true) (after log p).expects
    (helped_after sizes p log legal)
