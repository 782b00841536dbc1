-- The helper of an entry in a longer history.
use Rattle.std.proofs.Common.{◌≡◌, ◌∙◌, ℕ, true, List, Option, None, Some, refl, ap}
use Rattle.std.specs.Prelude.{slice_get}
use Rattle.std.proofs.lemmas.Bool.{false≢true}
use Rattle.history_book.specs.declared.event.Event.{Event}
use Rattle.history_book.specs.Entry.{confirmed_by, is_helped_entry}
use Rattle.history_book.specs.Laws.{EventsStay}
use Rattle.history_book.specs.Legality.{has_helper}
use Rattle.history_book.specs.Point.{StartsWith}

-- an entry has the helper by a longer history
pub helper_stays : EventsStay → (id : ℕ) (front log : List Event) → StartsWith log front → is_helped_entry id front ≡ true → is_helped_entry id log ≡ true
helper_stays stay id front log starts helped = by_event (slice_get front id) refl helped
  where
    by_event : (o : Option Event) → slice_get front id ≡ o → has_helper (confirmed_by o) ≡ true → has_helper (confirmed_by (slice_get log id)) ≡ true
    by_event None there has = absurd (false≢true has)
    by_event (Some e) there has = ap (λ (o : Option Event). has_helper (confirmed_by o)) (stay log front id e starts there) ∙ has
