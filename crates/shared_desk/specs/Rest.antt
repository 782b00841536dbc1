-- What holds of a clerk between its calls.
use Rattle.std.specs.Prelude.{◌≡◌, ℕ, ◌+◌, ◌*◌, ◌≤◌, true, false, None, List, [], length}
use Rattle.std.specs.List.{AllByRecursion}
use Rattle.room_list.specs.Roomed.{Roomed}
use Rattle.history_book.specs.declared.event.Note.{Note}
use Rattle.history_book.specs.Sight.{IsKnown}
use Rattle.track_rule.specs.declared.view.Hook.{Hook}
use Rattle.track_rule.specs.declared.view.Keep.{Keep}
use Rattle.track_rule.specs.declared.view.Middle.TheVariants.{Calm}
use Rattle.track_rule.specs.declared.view.Places.{Places}
use Rattle.track_rule.specs.declared.view.Purpose.{Purpose}
use Rattle.track_rule.specs.declared.view.Purpose.TheVariants.{Taken, Testing, Shown, For}
use Rattle.track_rule.specs.Free.{is_among}
use Rattle.track_rule.specs.Links.{hooks_of, is_up}
use Rattle.track_rule.specs.References.{held_times, is_taken}
use Rattle.track_rule.specs.Sights.{PassSight}
use Rattle.bucket_table.specs.Finding.{has_hook}
use Rattle.shared_desk.specs.Sights.{sight_of}

-- the pass has no turn and no bucket, carries no reference of the table's, and is in the middle of no commit
pub record IsIdle (p : PassSight) : Type 0 where
  pub slots : p.slots ≡ []
  pub free : p.view.free ≡ None
  pub hand : p.view.commit.hand ≡ None
  pub middle : p.view.commit.middle ≡ Calm
  pub expected : p.view.expected ≡ None
  pub shut : p.view.buckets.shut ≡ []
  pub carried : p.view.places.carried ≡ []

-- a place is held for a new entry, or for one whose Confirm the pass has seen
abbrev pub IsSettled : Purpose → Type 0
IsSettled Taken = Unit {0}
IsSettled Testing = ⊥
IsSettled (Shown id) = ⊥
IsSettled (For id) = Unit {0}

-- A place that was taken is held once, and owned, and the pass has one hook at either link of it.
pub record IsPrepared (place : ℕ) (places : Places) (hooks : List Hook) : Type 0 where
  pub once : held_times place places.held ≡ 1
  pub owned : is_among place places.owned ≡ true
  pub original : hooks_of (1 + 2 * place) hooks ≡ 1
  pub reply : hooks_of (2 + 2 * place) hooks ≡ 1

-- Of places that were taken alone the pass has hooks, and owns them; none is in a chain, and none is 0, which is no link. Of owed
-- places alone it has made the phase FREE.
pub record AreSettled (places : Places) (hooks : List Hook) : Type 0 where
  pub purposes : AllByRecursion (λ (k : Keep). IsSettled k.purpose) places.held
  pub taken : (place : ℕ) → is_taken place places.held ≡ true → IsPrepared place places hooks
  pub down : (place : ℕ) → is_up place hooks ≡ false
  pub some : hooks_of 0 hooks ≡ 0
  pub links : (place : ℕ) → has_hook place hooks ≡ true → is_taken place places.held ≡ true
  pub owned : (place : ℕ) → is_among place places.owned ≡ true → is_taken place places.held ≡ true
  pub clear : (place : ℕ) → is_among place places.clear ≡ true → is_among place places.owed ≡ true

-- The notes are the own events, with room for so many further ones.
pub record IsAtRest (p : PassSight) (notes : Roomed Note) (spare : ℕ) : Type 0 where
  pub idle : IsIdle p
  pub settled : AreSettled p.view.places p.view.buckets.hooks
  pub own : notes.items ≡ p.view.seen.own
  pub room : length notes.items + spare ≤ notes.room
  pub knows : IsKnown (sight_of (record { pass = p; spare = spare }))
