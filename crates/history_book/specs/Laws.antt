-- What holds of every legal history.
use Rattle.std.specs.Prelude.{◌≡◌, ◌≢◌, ℕ, ◌+◌, ◌<◌, ◌≤◌, true, Option, Some, List, [], ◌∷◌, ◌++◌, length, slice_get, AllPairs, All, None, find}
use Rattle.history_book.specs.declared.event.Event.{Event}
use Rattle.history_book.specs.declared.event.Event.TheVariants.{Confirm, Destroy, Expect}
use Rattle.history_book.specs.declared.event.Why.{Why}
use Rattle.history_book.specs.declared.record.Record.{Record}
use Rattle.history_book.specs.declared.sizes.Sizes.{Sizes}
use Rattle.expect_table.specs.Expectations.{AreOrderedOneAMaster}
use Rattle.expect_table.specs.Match as expected
use Rattle.expect_table.specs.declared.expectation.Expectation.{Expectation}
use Rattle.history_book.specs.Entry.{is_helped_entry, is_of_entry, zone_of_entry}
use Rattle.history_book.specs.Legality.{helps_in, is_of_one_flow, may_happen}
use Rattle.history_book.specs.History.{after, is_legal}
use Rattle.history_book.specs.Point.{StartsWith}
use Rattle.history_book.specs.Sight.{WasConfirmedIn}
use Rattle.history_book.specs.State.{Found, is_unused, live_under, next, record_of}
use Rattle.proto_rules.specs.Protocol.{is_of_protocol}
use Rattle.tuple_core.specs.declared.Segment.{Segment}
use Rattle.tuple_core.specs.declared.Tuple.{Tuple}

-- a legal history goes on with any event that may happen in the state it leaves
abbrev pub LegalHistoriesGoOn : Type 0
LegalHistoriesGoOn =
    (sizes : Sizes) (log : List Event) (e : Event) → is_legal sizes log ≡ true
    → may_happen sizes (after log (length log)) (length log) e ≡ true → is_legal sizes (log ++ e ∷ []) ≡ true

-- each event of a legal history may happen in the state that those before it leave
abbrev pub EventsMayHappen : Type 0
EventsMayHappen =
    (sizes : Sizes) (log : List Event) (n : ℕ) (e : Event) → is_legal sizes log ≡ true → slice_get log n ≡ Some e
    → may_happen sizes (after log n) n e ≡ true

-- the state after one event more is the next of the state before
abbrev pub StatesFollow : Type 0
StatesFollow =
    (log : List Event) (e : Event) → after (log ++ e ∷ []) (length log + 1) ≡ next (after log (length log)) e

-- later events change neither a legal history's first events nor the states at their points
abbrev pub FirstEventsStay : Type 0
FirstEventsStay =
    (sizes : Sizes) (log front : List Event) (p : ℕ) → StartsWith log front → is_legal sizes log ≡ true → p ≤ length front
    → (is_legal sizes front ≡ true) × (after log p ≡ after front p)

-- the state at a point of a history is there, and the same, when the history goes on
abbrev pub StatesStay : Type 0
StatesStay =
    (log front : List Event) (p : ℕ) → StartsWith log front → p ≤ length front
    → (p ≤ length log) × (after log p ≡ after front p)

-- an event of a history has its number when the history goes on
abbrev pub EventsStay : Type 0
EventsStay =
    (log front : List Event) (n : ℕ) (e : Event) → StartsWith log front → slice_get front n ≡ Some e
    → slice_get log n ≡ Some e

-- two records share no id, no place, and no tuple in either direction
pub record AreApart (r s : Record) : Type 0 where
  pub ids : r.id ≢ s.id
  pub places : r.place ≢ s.place
  pub originals : r.original ≢ s.original
  pub original_reply : r.original ≢ s.reply
  pub reply_original : r.reply ≢ s.original
  pub replies : r.reply ≢ s.reply

-- in every state of a legal history any two records are apart
abbrev pub RecordsAreApart : Type 0
RecordsAreApart =
    (sizes : Sizes) (log : List Event) (p : ℕ) → is_legal sizes log ≡ true → AllPairs AreApart (after log p).records

-- all of a record but its part is as it was confirmed
pub record IsSameEntry (s r : Record) : Type 0 where
  pub id : r.id ≡ s.id
  pub place : r.place ≡ s.place
  pub original : r.original ≡ s.original
  pub reply : r.reply ≡ s.reply
  pub helper : r.helper ≡ s.helper
  pub master : r.master ≡ s.master

-- the Confirm at the number of its id made this record
pub record IsConfirmed (log : List Event) (r : Record) : Type 0 where
  pub subject : Record
  pub event : slice_get log r.id ≡ Some (Confirm subject)
  pub same : IsSameEntry subject r

-- each live record is that of the Confirm at its id, which is an event before the point
abbrev pub LiveRecordsAreConfirmed : Type 0
LiveRecordsAreConfirmed =
    (sizes : Sizes) (log : List Event) (p : ℕ) → is_legal sizes log ≡ true
    → All (IsConfirmed log) (after log p).records × All (λ r. r.id < p) (after log p).records

-- an id that was destroyed is never live again
abbrev pub DestroyedIdsStayDead : Type 0
DestroyedIdsStayDead =
    (sizes : Sizes) (log : List Event) (n p id : ℕ) (why : Why) → is_legal sizes log ≡ true
    → slice_get log n ≡ Some (Destroy id why) → n < p → p ≤ length log
    → All (λ r. r.id ≢ id) (after log p).records

-- in every state of a legal history both tuples of each record are valid, of one zone, and of the protocol of its part
abbrev pub RecordsAreOfOneFlow : Type 0
RecordsAreOfOneFlow =
    (sizes : Sizes) (log : List Event) (p : ℕ) → is_legal sizes log ≡ true
    → All (λ r. is_of_one_flow r ≡ true) (after log p).records

-- what is live under a tuple at one point and is live at another is live under the tuple there, in the same
-- direction
abbrev pub FoundAreFoundAgain : Type 0
FoundAreFoundAgain =
    (sizes : Sizes) (log : List Event) (p q : ℕ) (t : Tuple) (found : Found) (r : Record) → is_legal sizes log ≡ true
    → live_under t (after log p) ≡ Some found → record_of found.subject.id (after log q) ≡ Some r
    → live_under t (after log q) ≡ Some (record { subject = r; direction = found.direction })

-- what is live under a tuple at a point, where nothing was at an earlier one, was confirmed from that one on
abbrev pub LateEntriesAreNew : Type 0
LateEntriesAreNew =
    (sizes : Sizes) (log : List Event) (p q : ℕ) (t : Tuple) (found : Found) → is_legal sizes log ≡ true → p ≤ q
    → live_under t (after log p) ≡ None → live_under t (after log q) ≡ Some found → p ≤ found.subject.id

-- a live record is of the protocol of the Confirm that made it
abbrev pub EntriesKeepTheirProtocol : Type 0
EntriesKeepTheirProtocol =
    (sizes : Sizes) (log : List Event) (p : ℕ) (id : ℕ) (r : Record) (segment : Segment) → is_legal sizes log ≡ true
    → record_of id (after log p) ≡ Some r → is_of_entry segment id log ≡ is_of_protocol segment r.part.kind

-- what is live under a tuple is of the protocol of the Confirm that made it
abbrev pub FoundKeepTheirProtocol : Type 0
FoundKeepTheirProtocol =
    (sizes : Sizes) (log : List Event) (p : ℕ) (t : Tuple) (found : Found) (segment : Segment) → is_legal sizes log ≡ true
    → live_under t (after log p) ≡ Some found
    → is_of_entry segment found.subject.id log ≡ is_of_protocol segment found.subject.part.kind

-- in every state of a legal history the master of each expectation is live, has the helper, and is in the expectation's zone
abbrev pub MastersHelpInTheirZone : Type 0
MastersHelpInTheirZone =
    (sizes : Sizes) (log : List Event) (p : ℕ) → is_legal sizes log ≡ true
    → All (λ e. helps_in e.zone (record_of e.master (after log p)) ≡ true) (after log p).expects

-- in every state of a legal history the ids of the expectations rise, no master has two, and each was an event
-- before the point
abbrev pub ExpectationsAreInOrder : Type 0
ExpectationsAreInOrder =
    (sizes : Sizes) (log : List Event) (p : ℕ) → is_legal sizes log ≡ true
    → AreOrderedOneAMaster (after log p).expects × All (λ e. e.id < p) (after log p).expects

-- a live record has the helper where the Confirm that made it gave it the helper, and only there
abbrev pub EntriesKeepTheirHelper : Type 0
EntriesKeepTheirHelper =
    (sizes : Sizes) (log : List Event) (p : ℕ) (id : ℕ) (r : Record) → is_legal sizes log ≡ true
    → record_of id (after log p) ≡ Some r → is_helped_entry id log ≡ r.helper

-- a live record is in the zone in which its entry was confirmed
abbrev pub EntriesKeepTheirZone : Type 0
EntriesKeepTheirZone =
    (sizes : Sizes) (log : List Event) (p : ℕ) (id : ℕ) (r : Record) → is_legal sizes log ≡ true
    → record_of id (after log p) ≡ Some r → zone_of_entry id log ≡ r.original.zone

-- an id below a point that no live record has there is that of no live record later
abbrev pub GoneEntriesStayGone : Type 0
GoneEntriesStayGone =
    (sizes : Sizes) (log : List Event) (p q id : ℕ) → is_legal sizes log ≡ true → id < p → p ≤ q
    → record_of id (after log p) ≡ None → record_of id (after log q) ≡ None

-- in every state of a legal history each record has a place of the pool
abbrev pub PlacesAreInThePool : Type 0
PlacesAreInThePool =
    (sizes : Sizes) (log : List Event) (p : ℕ) → is_legal sizes log ≡ true
    → All (λ r. r.place < sizes.entries) (after log p).records

-- the Expect at the number of its id made this expectation
pub record IsExpected (log : List Event) (e : Expectation) : Type 0 where
  pub replaced : Option ℕ
  pub moment : ℕ
  pub event : slice_get log e.id ≡ Some (Expect e replaced moment)

-- in every state of a legal history each expectation is that of the Expect at its id
abbrev pub ExpectationsAreExpected : Type 0
ExpectationsAreExpected =
    (sizes : Sizes) (log : List Event) (p : ℕ) → is_legal sizes log ≡ true → All (IsExpected log) (after log p).expects

-- an id below a point that no expectation has there is that of no expectation later
abbrev pub GoneExpectationsStayGone : Type 0
GoneExpectationsStayGone =
    (sizes : Sizes) (log : List Event) (p q id : ℕ) → is_legal sizes log ≡ true → id < p → p ≤ q
    → find (expected.has_id id) (after log p).expects ≡ None → find (expected.has_id id) (after log q).expects ≡ None

-- a live record has the place in which its entry was confirmed
abbrev pub EntriesKeepTheirPlace : Type 0
EntriesKeepTheirPlace =
    (sizes : Sizes) (log : List Event) (p id : ℕ) (r : Record) → is_legal sizes log ≡ true
    → record_of id (after log p) ≡ Some r
    → WasConfirmedIn log r.place id × ((place : ℕ) → WasConfirmedIn log place id → r.place ≡ place)

-- two live records of one place are of one entry
abbrev pub PlacesNameEntries : Type 0
PlacesNameEntries =
    (sizes : Sizes) (log : List Event) (p id other : ℕ) (r q : Record) → is_legal sizes log ≡ true
    → record_of id (after log p) ≡ Some r → record_of other (after log p) ≡ Some q → r.place ≡ q.place → id ≡ other

-- where a place of the pool is no entry's, fewer entries are live than there are places
abbrev pub UnusedPlacesAreRoom : Type 0
UnusedPlacesAreRoom =
    (sizes : Sizes) (log : List Event) (p place : ℕ) → is_legal sizes log ≡ true → place < sizes.entries
    → is_unused place (after log p) ≡ true → length (after log p).records < sizes.entries

-- in every state of a legal history no more is expected than there is room for
abbrev pub ExpectationsAreFew : Type 0
ExpectationsAreFew =
    (sizes : Sizes) (log : List Event) (p : ℕ) → is_legal sizes log ≡ true → length (after log p).expects ≤ sizes.expectations
