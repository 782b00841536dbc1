-- What holds of tests, and of states, whoever made them. In the states of a legal history the records
-- are apart.
use Rattle.std.specs.Prelude.{◌≡◌, ◌≢◌, ℕ, true, false, Some, None, slice_get, slice_set, All, AllPairs}
use Rattle.std.specs.List.{remove}
use Rattle.tuple_core.specs.declared.Direction.{Direction}
use Rattle.tuple_core.specs.declared.Segment.{Segment}
use Rattle.tuple_core.specs.declared.Tuple.{Tuple}
use Rattle.history_book.specs.declared.event.Event.TheVariants.{Touch, Destroy}
use Rattle.history_book.specs.declared.event.Why.{Why}
use Rattle.proto_rules.specs.declared.Part.{Part}
use Rattle.proto_rules.specs.Protocol.{proto_of}
use Rattle.history_book.specs.declared.record.Record.{Record}
use Rattle.history_book.specs.Laws.{AreApart}
use Rattle.history_book.specs.Legality.{is_of_one_flow}
use Rattle.history_book.specs.Record.{has_tuple, same_tuple}
use Rattle.history_book.specs.State.{Found, State, is_free, is_unused, live_under, next, record_of}

-- the test of two tuples says exactly whether they are equal
abbrev pub SameTupleIsEquality : Type 0
SameTupleIsEquality = (t u : Tuple) → (same_tuple t u ≡ true → t ≡ u) × (t ≡ u → same_tuple t u ≡ true)

-- a tuple is free exactly where nothing is live under it
abbrev pub FreeIsAbsent : Type 0
FreeIsAbsent =
    (t : Tuple) (s : State)
    → (live_under t s ≡ None → is_free t s ≡ true) × (is_free t s ≡ true → live_under t s ≡ None)

-- where nothing is live under a tuple, what is live under another has it not
abbrev pub AbsentTuplesAreNobodys : Type 0
AbsentTuplesAreNobodys =
    (t u : Tuple) (s : State) (found : Found) → live_under t s ≡ None → live_under u s ≡ Some found
    → has_tuple t found.subject ≡ false

-- where the records are apart, each is the one that is found by its id
abbrev pub IdsNameRecords : Type 0
IdsNameRecords =
    (s : State) (i : ℕ) (r : Record) → AllPairs AreApart s.records → slice_get s.records i ≡ Some r
    → record_of r.id s ≡ Some r

-- a Touch gives one record its new part, and leaves each other as it is
abbrev pub TouchesChangeOne : Type 0
TouchesChangeOne =
    (s : State) (i : ℕ) (r : Record) (direction : Direction) (segment : Segment) (moment : ℕ) (part : Part)
    → AllPairs AreApart s.records → slice_get s.records i ≡ Some r
    → (next s (Touch r.id direction segment moment part)).records ≡ slice_set s.records i (record r { part = part })

-- a Destroy takes one record out, and leaves each other as it is
abbrev pub DestroysTakeOne : Type 0
DestroysTakeOne =
    (s : State) (i : ℕ) (r : Record) (why : Why) → AllPairs AreApart s.records → slice_get s.records i ≡ Some r
    → (next s (Destroy r.id why)).records ≡ remove s.records i

-- where each record is of one flow, what is live under a tuple is of that tuple's
abbrev pub LiveRecordsHaveTheProtocol : Type 0
LiveRecordsHaveTheProtocol =
    (t : Tuple) (s : State) (found : Found) → All (λ r. is_of_one_flow r ≡ true) s.records
    → live_under t s ≡ Some found → proto_of found.subject.part.kind ≡ t.proto

-- no live record has an unused place
abbrev pub UnusedPlacesAreNobodys : Type 0
UnusedPlacesAreNobodys =
    (s : State) (place id : ℕ) (r : Record) → is_unused place s ≡ true → record_of id s ≡ Some r → r.place ≢ place
