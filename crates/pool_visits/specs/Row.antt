-- The rows that looks at places give.
use Rattle.std.specs.Prelude.{◌≡◌, ℕ, ◌≤◌, Bool, true, ◌==◌, Some, List}
use Rattle.std.specs.List.{list_any}
use Rattle.history_book.specs.declared.answer.Row.{Row}
use Rattle.history_book.specs.declared.event.Event.{Event}
use Rattle.history_book.specs.declared.event.Event.TheVariants.{Destroy}
use Rattle.history_book.specs.declared.event.Note.{Note}
use Rattle.history_book.specs.declared.event.Why.{Why}
use Rattle.history_book.specs.declared.filter.Filter.{Filter}
use Rattle.history_book.specs.Filter.{selects}
use Rattle.history_book.specs.Point.{At}
use Rattle.history_book.specs.State.{record_of}

abbrev pub has_row : ℕ → List Row → Bool
has_row id rows = list_any (λ (r : Row). r.subject.id == id) rows

-- the row is an entry as it was live at the row's point, between the two, and the filter selects it
pub record IsRow (log : List Event) (filter : Filter) (from to : ℕ) (row : Row) : Type 0 where
  pub low : from ≤ row.at
  pub high : row.at ≤ to
  pub live : At log row.at (λ s. record_of row.subject.id s ≡ Some row.subject)
  pub selects : selects filter row.subject ≡ true

-- the event destroyed the row's entry for the reason; the row has its number, and the entry as it was found
pub record IsDestroyed (log : List Event) (why : Why) (note : Note) (row : Row) : Type 0 where
  pub event : note.event ≡ Destroy row.subject.id why
  pub number : row.at ≡ note.number
  pub found : At log row.at (λ s. record_of row.subject.id s ≡ Some row.subject)
