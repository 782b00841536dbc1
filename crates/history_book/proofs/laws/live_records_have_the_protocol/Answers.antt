use Rattle.std.specs.Prelude.{◌≡◌, true}
use Rattle.std.proofs.lemmas.List.Elements.{recursion_from_All}
use Rattle.history_book.specs.declared.record.Record.{Record}
use Rattle.history_book.specs.Legality.{is_of_one_flow}
use Rattle.history_book.proofs.OneFlow.{live_protocol}
use Rattle.history_book.proofs.laws.live_records_have_the_protocol.Goals as goal

pub returns : goal.returns
returns c = λ t s found each live.
    live_protocol t s found (recursion_from_All (λ (r : Record). is_of_one_flow r ≡ true) s.records each) live
