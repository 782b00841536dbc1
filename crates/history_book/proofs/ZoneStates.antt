-- The states of a legal history are zoned.
use Rattle.std.proofs.Common.{◌≡◌, ℕ, ◌<◌, true, List, sym, arith}
use Rattle.std.proofs.lemmas.List.Elements.{recursion_from_All}
use Rattle.expect_table.specs.declared.expectation.Expectation.{Expectation}
use Rattle.history_book.specs.declared.event.Event.{Event}
use Rattle.history_book.specs.declared.record.Record.{Record}
use Rattle.history_book.specs.declared.sizes.Sizes.{Sizes}
use Rattle.history_book.specs.History.{after, is_legal}
use Rattle.history_book.specs.Laws.{AreApart, ExpectationsAreInOrder, MastersHelpInTheirZone, RecordsAreApart, RecordsAreOfOneFlow}
use Rattle.history_book.specs.Legality.{helps_in, is_of_one_flow}
use Rattle.history_book.specs.State.{record_of}
use Rattle.history_book.proofs.Kept.{distinct_of}
use Rattle.history_book.proofs.ZoneParts.{IsZoned}

module _ (apart : RecordsAreApart) (order : ExpectationsAreInOrder) (help : MastersHelpInTheirZone) (flow : RecordsAreOfOneFlow) where
  pub zoned_after : (sizes : Sizes) (log : List Event) (p : ℕ) → is_legal sizes log ≡ true → IsZoned (after log p)
  zoned_after sizes log p legal = record {
    records = distinct_of (λ (r : Record). r.id) AreApart (after log p).records (λ r q h e. h.ids (sym e)) (apart sizes log p legal);
    expects = distinct_of (λ (e : Expectation). e.id) (λ (d e : Expectation). d.id < e.id) (after log p).expects
        (λ d e h k. omega (arith, h, k)) (order sizes log p legal).0.ids;
    helped = recursion_from_All (λ (e : Expectation). helps_in e.zone (record_of e.master (after log p)) ≡ true) (after log p).expects
        (help sizes log p legal);
    flows = recursion_from_All (λ (r : Record). is_of_one_flow r ≡ true) (after log p).records (flow sizes log p legal);
  }
