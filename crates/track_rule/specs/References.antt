-- References. The references word of a place is the number of references that passes keep to it, those of the table that
-- they carry among them, and one more while the place is live. A pass that carries the table's reference to a place also holds
-- that place: it has taken it, or is in the middle of a commit there, or has destroyed its entry. No other place is held. A
-- place is taken for a new entry by one pass, or a live entry has it, or a pass has destroyed its entry and not let go of the
-- table's reference: never two of these. A place that a pass holds for an id is that of the entry of this id.
use Rattle.std.specs.Prelude.{◌≡◌, ℕ, ◌+◌, ◌<◌, ◌≤◌, ◌==◌, ◌&&◌, Bool, true, false, if◌then◌else◌, Some, List, [], ◌∷◌, slice_get}
use Rattle.std.specs.List.{list_any}
use Rattle.history_book.specs.declared.event.Event.{Event}
use Rattle.history_book.specs.declared.event.Event.TheVariants.{Confirm}
use Rattle.history_book.specs.declared.record.Record.{Record}
use Rattle.history_book.specs.declared.sizes.Sizes.{Sizes}
use Rattle.track_rule.specs.declared.view.Keep.{Keep}
use Rattle.track_rule.specs.declared.view.Purpose.{Purpose}
use Rattle.track_rule.specs.declared.view.Purpose.TheVariants.{Taken, Testing, Shown, For}
use Rattle.track_rule.specs.declared.view.View.{View}
use Rattle.track_rule.specs.History.{records_after}
use Rattle.track_rule.specs.Layout.{phase_at, refs_at}
use Rattle.track_rule.specs.Phases.{middle_of, of_place, table_keeps}
use Rattle.track_rule.specs.Sums.{Each, bit, times, total}

abbrev pub is_at : ℕ → Keep → Bool
is_at place k = k.place == place

-- the place is held
abbrev pub is_held : ℕ → List Keep → Bool
is_held place held = list_any (is_at place) held

-- how often it is held
abbrev pub held_times : ℕ → List Keep → ℕ
held_times place held = total (λ k. bit (is_at place k)) held

-- without the newest reference to the place
abbrev pub without : ℕ → List Keep → List Keep
without place [] = []
without place (k ∷ ks) = (if is_at place k then ks else k ∷ without place ks)

-- how many references a pass keeps to the place
abbrev pub keeps : ℕ → View → ℕ
keeps place v = held_times place v.places.held + times place v.places.carried

-- a place is held for a new entry
abbrev pub is_for_new : Purpose → Bool
is_for_new Taken = true
is_for_new Testing = false
is_for_new (Shown id) = false
is_for_new (For id) = false

-- the pass took the place for a new entry
abbrev pub is_taken : ℕ → List Keep → Bool
is_taken place held = list_any (λ k. is_at place k && is_for_new k.purpose) held

-- how often it did
abbrev pub taken_times : ℕ → List Keep → ℕ
taken_times place held = total (λ k. bit (is_at place k && is_for_new k.purpose)) held

abbrev pub takes : ℕ → View → ℕ
takes place v = taken_times place v.places.held

-- how often the pass has destroyed the entry of the place and still carries the table's reference
abbrev pub ends : ℕ → View → ℕ
ends place v = times place v.places.ended

-- the entry of this id was confirmed at this place
pub record WasConfirmed (log : List Event) (id place : ℕ) : Type 0 where
  pub subject : Record
  pub event : slice_get log id ≡ Some (Confirm subject)
  pub its_place : subject.place ≡ place

-- a place is held for this id, or for none
abbrev pub IsKeptFor : List Event → ℕ → Purpose → Type 0
IsKeptFor log place Taken = Unit {0}
IsKeptFor log place Testing = Unit {0}
IsKeptFor log place (Shown id) = WasConfirmed log id place
IsKeptFor log place (For id) = WasConfirmed log id place

abbrev pub AreKept : List Event → List Keep → Type 0
AreKept log [] = Unit {0}
AreKept log (k ∷ ks) = IsKeptFor log k.place k.purpose × AreKept log ks

pub record AreReferences (z : Sizes) (log : List Event) (words : List ℕ) (views : List View) : Type 0 where
  pub counted : (p : ℕ) → p < z.entries → refs_at z words p ≡ total (keeps p) views + table_keeps (phase_at z words p)
  pub beyond : (p : ℕ) → z.entries ≤ p → total (keeps p) views ≡ 0
  pub carried : Each (λ v. (p : ℕ) → times p v.places.carried ≤ held_times p v.places.held) views
  pub carried_for : Each (λ v. (p : ℕ) → times p v.places.carried ≤ takes p v + middle_of (of_place p) v + ends p v) views
  pub taken : (p : ℕ) → total (takes p) views + total (ends p) views + total (of_place p) (records_after log) ≤ 1
  pub purposes : Each (λ v. AreKept log v.places.held) views
