-- Zones: the part of a state that is of one zone, the zone of an event, and the events of one zone among those of a history.
use Rattle.std.specs.Prelude.{ℕ, Bool, true, false, ◌==◌, ◌&&◌, ◌||◌, nat_lt, if◌then◌else◌, zero, suc, Option, Some, None, List, [], ◌∷◌, ◌++◌, length, map, filter, find, option_map, slice_get}
use Rattle.std.specs.List.{list_any}
use Rattle.expect_table.specs.Match.{has_id, is_in_zone, is_of}
use Rattle.expect_table.specs.declared.expectation.Expectation.{Expectation}
use Rattle.history_book.specs.declared.event.Event.{Event}
use Rattle.history_book.specs.declared.event.Event.TheVariants.{Confirm, Touch, Destroy, Expect, Claim, Unexpect}
use Rattle.history_book.specs.declared.event.Note.{Note}
use Rattle.history_book.specs.declared.record.Record.{Record}
use Rattle.history_book.specs.declared.sizes.Sizes.{Sizes}
use Rattle.history_book.specs.History.{after}
use Rattle.history_book.specs.Legality.{may_happen}
use Rattle.history_book.specs.State.{State, is_unused, next, record_of}

-- the entry is of the zone
abbrev pub is_of_zone : ℕ → Record → Bool
is_of_zone zone r = r.original.zone == zone

-- the part of a state that is of a zone: its entries and its expectations, in their order
abbrev pub zone_part : State → ℕ → State
zone_part s zone = record { records = filter (is_of_zone zone) s.records; expects = filter (is_in_zone zone) s.expects }

-- the zone of an entry, if it is live
abbrev pub zone_of_live : Option Record → Option ℕ
zone_of_live None = None
zone_of_live (Some r) = Some r.original.zone

-- the zone of an expectation, if it is there
abbrev pub zone_of_expected : Option Expectation → Option ℕ
zone_of_expected None = None
zone_of_expected (Some e) = Some e.zone

-- the zone of an event: that of its tuples, of its entry, or of its expectation, and none where this is not there
abbrev pub event_zone : State → Event → Option ℕ
event_zone s (Confirm r) = Some r.original.zone
event_zone s (Touch id direction segment moment after) = zone_of_live (record_of id s)
event_zone s (Destroy id why) = zone_of_live (record_of id s)
event_zone s (Expect expectation replaced moment) = Some expectation.zone
event_zone s (Claim expectation master tuple moment) = Some tuple.zone
event_zone s (Unexpect expectation moment) = zone_of_expected (find (has_id expectation) s.expects)

-- what zones share: no entry has the place of a Confirm; and for an Expect whose master expects nothing yet, there is
-- room for one expectation more
abbrev pub has_room_for : Sizes → State → Event → Bool
has_room_for sizes s (Confirm r) = is_unused r.place s
has_room_for sizes s (Touch id direction segment moment after) = true
has_room_for sizes s (Destroy id why) = true
has_room_for sizes s (Expect expectation replaced moment) =
    list_any (is_of expectation.master) s.expects || nat_lt (length s.expects) sizes.expectations
has_room_for sizes s (Claim expectation master tuple moment) = true
has_room_for sizes s (Unexpect expectation moment) = true

-- there is a zone, and it is this one
abbrev pub is_zone : ℕ → Option ℕ → Bool
is_zone zone None = false
is_zone zone (Some other) = other == zone

-- event n, if there is one and it is of the zone
abbrev pub note_of_zone : ℕ → State → ℕ → Option Event → List Note
note_of_zone zone s n None = []
note_of_zone zone s n (Some e) = (if is_zone zone (event_zone s e) then record { number = n; event = e } ∷ [] else [])

-- the events of a zone before point p of a history, in their order, under the numbers that they have
abbrev pub zone_events : ℕ → List Event → ℕ → List Note
zone_events zone log zero = []
zone_events zone log (suc p) = zone_events zone log p ++ note_of_zone zone (after log p) p (slice_get log p)

-- the state that events leave, one after another
abbrev pub left_by : State → List Note → State
left_by s [] = s
left_by s (note ∷ notes) = left_by (next s note.event) notes

-- events may happen one after another, each under its number
abbrev pub may_follow : Sizes → State → List Note → Bool
may_follow sizes s [] = true
may_follow sizes s (note ∷ notes) =
    may_happen sizes s note.number note.event && may_follow sizes (next s note.event) notes

-- how many events of the zone come before event n: the number of event n among them, where it is one of them
abbrev pub number_in_zone : ℕ → List Event → ℕ → ℕ
number_in_zone zone log n = length (zone_events zone log n)

-- entries and expectations, and what names them in events, under other numbers
abbrev pub renamed_record : (ℕ → ℕ) → Record → Record
renamed_record f r = record r { id = f r.id; master = option_map f r.master }

abbrev pub renamed_expectation : (ℕ → ℕ) → Expectation → Expectation
renamed_expectation f e = record e { id = f e.id; master = f e.master }

abbrev pub renamed_state : (ℕ → ℕ) → State → State
renamed_state f s = record { records = map (renamed_record f) s.records; expects = map (renamed_expectation f) s.expects }

abbrev pub renamed : (ℕ → ℕ) → Event → Event
renamed f (Confirm r) = Confirm (renamed_record f r)
renamed f (Touch id direction segment moment after) = Touch (f id) direction segment moment after
renamed f (Destroy id why) = Destroy (f id) why
renamed f (Expect expectation replaced moment) = Expect (renamed_expectation f expectation) (option_map f replaced) moment
renamed f (Claim expectation master tuple moment) = Claim (f expectation) (f master) tuple moment
renamed f (Unexpect expectation moment) = Unexpect (f expectation) moment

-- the events of a zone before point p, under their numbers among the events of the zone: 0, 1, 2 and so on
abbrev pub zone_history : ℕ → List Event → ℕ → List Event
zone_history zone log p = map (λ (note : Note). renamed (number_in_zone zone log) note.event) (zone_events zone log p)
