-- Which record a new flow meets, as one pass over the records remembers it.
use Rattle.std.specs.Prelude.{ℕ, Bool, if◌then◌else◌, Option, Some, None}
use Rattle.tuple_core.specs.declared.Direction.TheVariants.{Original, Reply}
use Rattle.history_book.specs.declared.find.FoundAt.{FoundAt}
use Rattle.book_desk.specs.declared.entries.Candidates.{Candidates}

-- the index that is remembered, else this one where its record passes
abbrev pub first_of : Option ℕ → Bool → ℕ → Option ℕ
first_of (Some before) passes index = Some before
first_of None passes index = (if passes then Some index else None)

-- the first index that there is, and how the flow's tuple names its record
abbrev pub first_met : Option ℕ → Option ℕ → Option ℕ → Option FoundAt
first_met (Some i) b c = Some (record { index = i; direction = Reply })
first_met None (Some i) c = Some (record { index = i; direction = Original })
first_met None None (Some i) = Some (record { index = i; direction = Reply })
first_met None None None = None

-- the candidate that the flow meets
abbrev pub best_of : Candidates → Option FoundAt
best_of c = first_met c.original_by_reply c.reply_by_original c.reply_by_reply
