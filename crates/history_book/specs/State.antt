-- A state of the table: what is found in it, and how an event changes it.
use Rattle.std.specs.Prelude.{ℕ, Bool, not, if◌then◌else◌, Option, Some, None, List, [], ◌∷◌, ◌++◌, map, filter, find}
use Rattle.std.specs.List.{list_any}
use Rattle.expect_table.specs.Expectations.{with_one, without_id, without_master}
use Rattle.expect_table.specs.declared.expectation.Expectation.{Expectation}
use Rattle.tuple_core.specs.declared.Direction.{Direction}
use Rattle.tuple_core.specs.declared.Direction.TheVariants.{Original, Reply}
use Rattle.tuple_core.specs.declared.Tuple.{Tuple}
use Rattle.history_book.specs.declared.event.Event.{Event}
use Rattle.history_book.specs.declared.event.Event.TheVariants.{Confirm, Touch, Destroy, Expect, Claim, Unexpect}
use Rattle.proto_rules.specs.declared.Part.{Part}
use Rattle.history_book.specs.declared.record.Record.{Record}
use Rattle.history_book.specs.Record.{has_id, has_original, has_place, has_reply, has_tuple}

-- a state has its live records, and what is expected, in order of id
pub record State : Type 0 where
  pub records : List Record
  pub expects : List Expectation

-- these records are live, and nothing is expected
abbrev pub state_of : List Record → State
state_of rs = record { records = rs; expects = [] }

abbrev pub empty_state : State
empty_state = state_of []

-- a live record and the direction in which a tuple names it
pub record Found : Type 0 where
  pub subject : Record
  pub direction : Direction

-- the record with this id, if it is live
abbrev pub record_of : ℕ → State → Option Record
record_of id s = find (has_id id) s.records

-- the record found by its original tuple, else the one found by its reply tuple
abbrev pub original_first : Option Record → Option Record → Option Found
original_first (Some r) _ = Some (record { subject = r; direction = Original })
original_first None (Some r) = Some (record { subject = r; direction = Reply })
original_first None None = None

-- what is live under a tuple
abbrev pub live_under : Tuple → State → Option Found
live_under t s = original_first (find (has_original t) s.records) (find (has_reply t) s.records)

-- what is found by the first of two tuples, else what is found by the second
abbrev pub first_found : Option Found → Option Found → Option Found
first_found (Some f) other = Some f
first_found None other = other

-- the entry that has the first tuple, else the one that has the second: which of them a new flow meets
abbrev pub winner : Tuple → Tuple → State → Option Found
winner original reply s = first_found (live_under original s) (live_under reply s)

-- no live record has the tuple in either direction
abbrev pub is_free : Tuple → State → Bool
is_free t s = not (list_any (has_tuple t) s.records)

-- no live record has the place
abbrev pub is_unused : ℕ → State → Bool
is_unused place s = not (list_any (has_place place) s.records)

-- the record goes on with this part, if it is the one with the id
abbrev pub with_part : ℕ → Part → Record → Record
with_part id part r = (if has_id id r then record r { part = part } else r)

-- the state after an event: a Destroy also ends what was expected for the entry
abbrev pub next : State → Event → State
next s (Confirm r) = record s { records = s.records ++ r ∷ [] }
next s (Touch id direction segment moment after) = record s { records = map (with_part id after) s.records }
next s (Destroy id why) =
    record { records = filter (λ r. not (has_id id r)) s.records; expects = without_master id s.expects }
next s (Expect expectation replaced moment) = record s { expects = with_one s.expects expectation }
next s (Claim expectation master tuple moment) = record s { expects = without_id expectation s.expects }
next s (Unexpect expectation moment) = record s { expects = without_id expectation s.expects }
