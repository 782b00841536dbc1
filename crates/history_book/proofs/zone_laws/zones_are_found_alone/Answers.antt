use Rattle.std.specs.Prelude.{◌≡◌, true}
use Rattle.std.proofs.lemmas.List.Elements.{recursion_from_All}
use Rattle.history_book.specs.declared.record.Record.{Record}
use Rattle.history_book.specs.History.{after}
use Rattle.history_book.specs.Legality.{is_of_one_flow}
use Rattle.history_book.proofs.ZoneParts.{free_part, live_part, matching_part}
use Rattle.history_book.proofs.zone_laws.zones_are_found_alone.Goals as goal

pub returns : goal.returns
returns c = λ sizes log p t legal.
    let flows = recursion_from_All (λ (r : Record). is_of_one_flow r ≡ true) (after log p).records
    (c.records_are_of_one_flow.ensures sizes log p legal) in
    record {
      live = live_part t (after log p) flows;
      free = free_part t (after log p) flows;
      expected = λ moment. matching_part t moment (after log p).expects;
    }
