-- The free list. A place on it has no reference and is owed by nobody, and its phase is FREE. Every other place has a
-- reference, or is owed by exactly one pass. A place that a pass has set to FREE it owes, one that it has set to OWNED it has
-- taken, and of one whose entry it destroyed and whose phase it had set to DEAD it carries the table's reference; so they still
-- are. A pass holds and owes four places at most. At most one pass has the turn of the list; that one knows the list, and while
-- none has it the list is at home.
use Rattle.std.specs.Prelude.{◌≡◌, ℕ, ◌+◌, ◌<◌, ◌≤◌, ◌==◌, Bool, min, not, if◌then◌else◌, Option, Some, None, List, [], ◌∷◌, filter, length, slice_index, unwrap_or}
use Rattle.std.specs.List.{list_any}
use mathlib.Core.Option.{Option as Slotted, some}
use lib.ListN.{get_elem?}
use Rattle.room_list.specs.Roomed.{Roomed}
use Rattle.history_book.specs.declared.sizes.Sizes.{Sizes}
use Rattle.track_rule.specs.References.{taken_times}
use Rattle.track_rule.specs.declared.slot.Slot.{Slot}
use Rattle.track_rule.specs.declared.slot.Slot.TheVariants.{Free}
use Rattle.track_rule.specs.declared.view.View.{View}
use Rattle.track_rule.specs.Layout.{phase_at, refs_at}
use Rattle.track_rule.specs.Sums.{Each, times, total}

-- how often a pass owes the place
abbrev pub owes : ℕ → View → ℕ
owes place v = times place v.places.owed

-- a place stands in the list
abbrev pub is_among : ℕ → List ℕ → Bool
is_among place places = list_any (λ p. p == place) places

-- the list without the place, which stands in it once
abbrev pub taken_out : ℕ → List ℕ → List ℕ
taken_out place [] = []
taken_out place (p ∷ ps) = (if p == place then ps else p ∷ taken_out place ps)

-- the owed places that are not on the list
abbrev pub unlisted : List ℕ → List ℕ → List ℕ
unlisted list owed = filter (λ p. not (is_among p list)) owed

-- 1 while the pass has the turn of the list, else 0
abbrev pub turn_of : Option (List ℕ) → ℕ
turn_of None = 0
turn_of (Some list) = 1

abbrev pub has_turn : View → ℕ
has_turn v = turn_of v.free

-- the list as the pass knows it under its turn
abbrev pub known_free : View → List ℕ
known_free v = unwrap_or v.free []

-- the list is at home, with room for all places
pub record IsHome (z : Sizes) (homes : List (Slotted Slot)) (free : List ℕ) : Type 0 where
  pub list : Roomed ℕ
  pub there : get_elem? homes 0 ≡ some (some (Free list))
  pub same : list.items ≡ free
  pub room : z.entries ≤ list.room

pub record IsFreeList (z : Sizes) (words : List ℕ) (homes : List (Slotted Slot)) (views : List View) (free : List ℕ) : Type 0 where
  pub once : (p : ℕ) → p < z.entries → times p free + total (owes p) views + min (refs_at z words p) 1 ≡ 1
  pub beyond : (p : ℕ) → z.entries ≤ p → times p free + total (owes p) views ≡ 0
  pub idle : (p : ℕ) → 0 < times p free → phase_at z words p ≡ 0
  pub turn : slice_index words 1 ≡ total has_turn views
  pub single : slice_index words 1 ≤ 1
  pub home : slice_index words 1 ≡ 0 → IsHome z homes free
  pub away : Each (λ v. (list : List ℕ) → v.free ≡ Some list → list ≡ free) views
  pub few : Each (λ v. length v.places.held + length v.places.owed ≤ 4) views
  pub clear : Each (λ v. (p : ℕ) → 0 < times p v.places.clear → (0 < times p v.places.owed) × (phase_at z words p ≡ 0)) views
  pub owned : Each (λ v. (p : ℕ) → 0 < times p v.places.owned → (0 < taken_times p v.places.held) × (phase_at z words p ≡ 1)) views
  pub ended : Each (λ v. (p : ℕ) → 0 < times p v.places.ended → (0 < times p v.places.carried) × (phase_at z words p ≡ 2)) views
