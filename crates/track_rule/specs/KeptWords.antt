-- The tuple words of a place that a pass holds for an id: they are those of the tuples that the id's Confirm names, and no other
-- live entry has the place. They stay so, since a pass stores such words, and confirms an entry, at a place alone that it has
-- taken for a new one, and none has taken a place that one holds for an id.
use Rattle.std.specs.Prelude.{◌≡◌, ℕ, ◌+◌, ◌*◌, ◌<◌, ◌==◌, ◌&&◌, Bool, true, false, List, slice_index}
use Rattle.std.specs.List.{list_any}
use Rattle.tuple_core.specs.declared.Direction.{Direction}
use Rattle.tuple_core.specs.declared.Direction.TheVariants.{Original, Reply}
use Rattle.history_book.specs.declared.event.Event.{Event}
use Rattle.history_book.specs.declared.record.Record.{Record}
use Rattle.history_book.specs.declared.sizes.Sizes.{Sizes}
use Rattle.track_rule.specs.declared.view.Keep.{Keep}
use Rattle.track_rule.specs.declared.view.Pair.{Pair}
use Rattle.track_rule.specs.declared.view.Purpose.{Purpose}
use Rattle.track_rule.specs.declared.view.Purpose.TheVariants.{Taken, Testing, Shown, For}
use Rattle.track_rule.specs.declared.view.View.{View}
use Rattle.track_rule.specs.Chains.{pair_of}
use Rattle.track_rule.specs.History.{records_after}
use Rattle.track_rule.specs.Layout.{first_word, second_word}
use Rattle.track_rule.specs.Phases.{of_both, of_place}
use Rattle.track_rule.specs.References.{WasConfirmed, is_at, takes}
use Rattle.track_rule.specs.Sums.{Each, bit, total}

-- a place is held for this id
abbrev pub is_for : ℕ → Purpose → Bool
is_for id Taken = false
is_for id Testing = false
is_for id (Shown shown) = shown == id
is_for id (For shown) = shown == id

abbrev pub is_kept_for : ℕ → ℕ → List Keep → Bool
is_kept_for place id held = list_any (λ k. is_for id k.purpose && is_at place k) held

-- it is held for an id
abbrev pub is_for_entry : Purpose → Bool
is_for_entry Taken = false
is_for_entry Testing = false
is_for_entry (Shown id) = true
is_for_entry (For id) = true

-- how often a pass holds the place for an id
abbrev pub shown_times : ℕ → List Keep → ℕ
shown_times place held = total (λ k. bit (is_for_entry k.purpose && is_at place k)) held

abbrev pub shows_held : ℕ → View → ℕ
shows_held place v = shown_times place v.places.held

-- the link of a place in a direction, and the words of the tuple of a record
abbrev pub link_of : Direction → ℕ → ℕ
link_of Original place = 1 + 2 * place
link_of Reply place = 2 + 2 * place

abbrev pub pair_in : Direction → Record → Pair
pair_in Original r = pair_of r.original
pair_in Reply r = pair_of r.reply

-- the tuple stands in the words of the link
pub record HasPair (z : Sizes) (words : List ℕ) (link : ℕ) (p : Pair) : Type 0 where
  pub first : slice_index words (first_word z link) ≡ p.first
  pub second : slice_index words (second_word z link) ≡ p.second

-- no live record but that of the id has the place
abbrev pub IsOnly : List Event → ℕ → ℕ → Type 0
IsOnly log id place = total (of_place place) (records_after log) ≡ total (of_both place id) (records_after log)

-- the entry of this id was confirmed at this place, both of its tuples stand there, and no other live one has the place
pub record HasTuples (z : Sizes) (log : List Event) (words : List ℕ) (id place : ℕ) : Type 0 where
  pub was : WasConfirmed log id place
  pub stand : (d : Direction) → HasPair z words (link_of d place) (pair_in d was.subject)
  pub only : IsOnly log id place

pub record AreKeptWords (z : Sizes) (log : List Event) (words : List ℕ) (views : List View) : Type 0 where
  pub each : Each (λ v. (place id : ℕ) → is_kept_for place id v.places.held ≡ true → HasTuples z log words id place) views
  pub apart : (p : ℕ) → 0 < total (takes p) views → total (shows_held p) views ≡ 0
