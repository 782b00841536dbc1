-- No zone depends on another: the zones of a tracker share its places and its room for expectations, and nothing else.
use Rattle.std.specs.Prelude.{◌≡◌, ◌≢◌, ◌↔◌, ◌<◌, ℕ, true, Some, None, List, slice_get}
use Rattle.expect_table.specs.Expectations.{matching}
use Rattle.tuple_core.specs.declared.Tuple.{Tuple}
use Rattle.history_book.specs.declared.event.Event.{Event}
use Rattle.history_book.specs.declared.event.Event.TheVariants.{Destroy}
use Rattle.history_book.specs.declared.event.Note.{Note}
use Rattle.history_book.specs.declared.event.Why.TheVariants.{Deleted}
use Rattle.history_book.specs.declared.filter.Filter.{Filter}
use Rattle.history_book.specs.declared.sizes.Sizes.{Sizes}
use Rattle.history_book.specs.History.{after, is_legal, run}
use Rattle.history_book.specs.Legality.{may_happen}
use Rattle.history_book.specs.State.{State, empty_state, is_free, live_under, next}
use Rattle.history_book.specs.Zones.{event_zone, has_room_for, left_by, may_follow, number_in_zone, renamed_state, zone_events, zone_history, zone_part}

-- in any state, each event that may happen has a zone
abbrev pub EventsHaveZones : Type 0
EventsHaveZones =
    (sizes : Sizes) (s : State) (n : ℕ) (e : Event) → may_happen sizes s n e ≡ true → event_zone s e ≢ None

-- in any state, there is room for each event that may happen
abbrev pub EventsHaveRoom : Type 0
EventsHaveRoom =
    (sizes : Sizes) (s : State) (n : ℕ) (e : Event) → may_happen sizes s n e ≡ true → has_room_for sizes s e ≡ true

-- in any state of a legal history, an event that may happen leaves the part of each zone but its own as it is
abbrev pub OtherZonesStay : Type 0
OtherZonesStay =
    (sizes : Sizes) (log : List Event) (p n zone : ℕ) (e : Event) → is_legal sizes log ≡ true
    → may_happen sizes (after log p) n e ≡ true → event_zone (after log p) e ≢ Some zone
    → zone_part (next (after log p) e) zone ≡ zone_part (after log p) zone

-- Two states of legal histories, whose parts of a zone are equal, and an event of this zone, for which there is room
-- in both: it may happen in the one exactly where it may in the other, and the next parts of the zone are equal.
abbrev pub ZonesAreApart : Type 0
ZonesAreApart =
    (sizes : Sizes) (log other : List Event) (p q n zone : ℕ) (e : Event)
    → is_legal sizes log ≡ true → is_legal sizes other ≡ true
    → zone_part (after log p) zone ≡ zone_part (after other q) zone → event_zone (after log p) e ≡ Some zone
    → has_room_for sizes (after log p) e ≡ true → has_room_for sizes (after other q) e ≡ true
    → (may_happen sizes (after log p) n e ≡ may_happen sizes (after other q) n e)
    × (zone_part (next (after log p) e) zone ≡ zone_part (next (after other q) e) zone)

-- at each point of a legal history, the zone's own events may happen one after another, as if there were no others,
-- each under the number that it has; and what they leave is the part of the zone
abbrev pub ZonesStandAlone : Type 0
ZonesStandAlone =
    (sizes : Sizes) (log : List Event) (p zone : ℕ) → is_legal sizes log ≡ true
    → (may_follow sizes empty_state (zone_events zone log p) ≡ true)
    × (left_by empty_state (zone_events zone log p) ≡ zone_part (after log p) zone)

-- the note is an event of the zone before point p, and k events of the zone come before it
pub record IsEventOfZone (zone : ℕ) (log : List Event) (p k : ℕ) (note : Note) : Type 0 where
  pub before : note.number < p
  pub happened : slice_get log note.number ≡ Some note.event
  pub zoned : event_zone (after log note.number) note.event ≡ Some zone
  pub counted : number_in_zone zone log note.number ≡ k

-- in any history, the events of a zone are all that are of it, each at the index that is its number among them
abbrev pub ZonesCountTheirEvents : Type 0
ZonesCountTheirEvents =
    (log : List Event) (p k zone : ℕ) (note : Note)
    → slice_get (zone_events zone log p) k ≡ Some note ↔ IsEventOfZone zone log p k note

-- under their numbers among the events of the zone they are a legal history of their own, in a tracker as large, and
-- what it leaves is the part of the zone under these numbers
abbrev pub ZonesHaveHistories : Type 0
ZonesHaveHistories =
    (sizes : Sizes) (log : List Event) (p zone : ℕ) → is_legal sizes log ≡ true
    → (is_legal sizes (zone_history zone log p) ≡ true)
    × (run empty_state (zone_history zone log p) ≡ renamed_state (number_in_zone zone log) (zone_part (after log p) zone))

-- what is live under a tuple, whether it is free, and which expectation its packet meets is so in the part of its zone alone
pub record IsFoundAlone (t : Tuple) (s : State) : Type 0 where
  pub live : live_under t (zone_part s t.zone) ≡ live_under t s
  pub free : is_free t (zone_part s t.zone) ≡ is_free t s
  pub expected : (moment : ℕ) → matching t moment (zone_part s t.zone).expects ≡ matching t moment s.expects

abbrev pub ZonesAreFoundAlone : Type 0
ZonesAreFoundAlone =
    (sizes : Sizes) (log : List Event) (p : ℕ) (t : Tuple) → is_legal sizes log ≡ true → IsFoundAlone t (after log p)

-- a command that deletes in a zone destroys there alone
abbrev pub ZonedDeletesStayInTheirZone : Type 0
ZonedDeletesStayInTheirZone =
    (sizes : Sizes) (s : State) (n id zone : ℕ) (filter : Filter) → filter.zone ≡ Some zone
    → may_happen sizes s n (Destroy id (Deleted filter)) ≡ true → event_zone s (Destroy id (Deleted filter)) ≡ Some zone
