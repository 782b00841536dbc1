-- The scan for an entry that may go, one place after the other.
use Rattle.std.proofs.Common.{◌≡◌, ℕ, ◌+◌, ◌<◌, ◌≤◌, Bool, true, false, cond, List, [], ◌∷◌, length, refl, sym, ap, subst, ◌∙◌, Option, Some, None, arith}
use Rattle.std.specs.List.{AllByRecursion, find}
use Rattle.std.proofs.lemmas.List.Elements.{recursion_from_All}
use Rattle.history_book.specs.declared.answer.Row.{Row}
use Rattle.history_book.specs.declared.event.Why.{Why}
use Rattle.history_book.specs.declared.record.Record.{Record}
use Rattle.history_book.specs.declared.sizes.Sizes.{Sizes}
use Rattle.history_book.specs.History.{after, is_legal}
use Rattle.history_book.specs.Laws.{PlacesAreInThePool}
use Rattle.history_book.specs.Legality.{is_reason}
use Rattle.history_book.specs.Places.{HoldsNothing}
use Rattle.history_book.specs.Record.{has_id}
use Rattle.history_book.specs.Sight.{IsKnown, Sight}
use Rattle.history_book.specs.SightLaws.{GoingOnAddsUp, RestingIsSeeing, SeeingAddsUp}
use Rattle.history_book.specs.State.{record_of}
use Rattle.pool_visits.specs.Laws.{AllVisitsStay, BothAreLegal, LivedHaveRows, VisitsAddUp}
use Rattle.pool_visits.specs.Visit.{DestroysRow, LeavesPlace, LivedThroughout, is_live_and}
use Rattle.packet_path.specs.Internal.Scan.{DropsNone, DropsOne, IsScanning}

-- what holds of each holds of the one that is found
found_one : {X : Type 0} (P : X → Type 0) (p : X → Bool) (xs : List X) (y : X) → AllByRecursion P xs → find p xs ≡ Some y → P y
found_one P p [] y h e = cc
found_one P p (x ∷ xs) y (h, hs) e = by_first P x y (p x) h e (found_one P p xs y hs)
  where
    by_first : {X : Type 0} (P : X → Type 0) (x y : X) (b : Bool) {rest : Option X} → P x → cond b (Some x) rest ≡ Some y → (rest ≡ Some y → P y) → P y
    by_first P x y true h e other = subst P (some_one e) h
      where
        some_one : {X : Type 0} {x y : X} → Some x ≡ Some y → x ≡ y
        some_one e = cc
    by_first P x y false h e other = other e

none_is_no_row : false ≡ true → ⊥
none_is_no_row e = cc

-- before the first place
pub scanning_start : RestingIsSeeing → (why : Why) (s : Sight) (from : ℕ) → from ≤ length s.front → HoldsNothing s → IsKnown s
    → IsScanning why from s s 0 from
scanning_start resting why s from within empty known = record {
  saw = resting s;
  low = omega arith;
  within = within;
  visited = λ place below. absurd (none_below place below);
  empty = empty;
  known = known;
}
  where
    none_below : (place : ℕ) → place < 0 → ⊥
    none_below place below = omega (arith, below)

module _ (why : Why) (from : ℕ) (old now new : Sight) (count at : ℕ) (known : IsKnown new) (s : IsScanning why from old now count at) where
  -- two fronts of one desk are legal
  both : now.sizes ≡ new.sizes → Rattle.history_book.specs.Point.StartsWith new.front now.front → BothAreLegal new.sizes new.front now.front
  both same starts = record {
    starts = starts;
    longer_legal = known.legal;
    legal = subst (λ (z : Sizes). is_legal z now.front ≡ true) same s.known.legal;
  }

  -- one place more, that was left
  pub scanning_more : SeeingAddsUp → VisitsAddUp → (left : ℕ) → LeavesPlace why count now new left → HoldsNothing new
      → IsScanning why from old new (count + 1) left
  scanning_more twice add left l empty = record {
    saw = twice old now new s.saw l.saw;
    low = omega (arith, s.low, s.within, l.low);
    within = l.within;
    visited = add new.sizes new.front now.front (is_reason why) count from at (length now.front) left left [] []
        (both (sym l.saw.went.pass.sizes) l.saw.went.front)
        (record {
          first = s.low;
          within = s.within;
          next = s.within;
          between = l.low;
          inside = l.within;
          behind = omega arith;
        })
        s.visited l.visited;
    empty = empty;
    known = known;
  }

  -- the entry of a place was dropped
  pub scanning_dropped : GoingOnAddsUp → AllVisitsStay → LivedHaveRows → (row : Row) → DestroysRow why count now new row
      → DropsOne why from old new row
  scanning_dropped going stay have row d = record {
    made = (going.event old now new row.at _).0 s.saw d.made;
    found = d.destroyed.found;
    first = λ id r live lower lived.
        none_is_no_row (have new.sizes new.front (is_reason why) count from row.at row.at id r [] known.legal
        (stay new.sizes new.front now.front (is_reason why) count from at from row.at []
        (both (sym d.made.went.pass.sizes) d.made.went.front) (omega arith) s.low (omega (arith, s.within, d.made.low)) s.within s.visited)
        lived live (omega (arith, lower, d.placed)));
  }

-- no place is left
pub scanning_done : PlacesAreInThePool → LivedHaveRows → (why : Why) (from : ℕ) (old now : Sight) (at : ℕ)
    → IsScanning why from old now now.sizes.entries at → DropsNone why from old now at
scanning_done pool have why from old now at s = record {
  saw = s.saw;
  low = s.low;
  within = s.within;
  none = λ id lived. by_last id lived (record_of id (after now.front at)) refl;
}
  where
    by_last : (id : ℕ) → LivedThroughout now.front (is_reason why) from at id → (o : Option Record) → record_of id (after now.front at) ≡ o → ⊥
    by_last id lived None e = none_is_no_row (ap (is_live_and (is_reason why)) (sym e) ∙ lived at s.low (omega arith))
    by_last id lived (Some r) e =
        none_is_no_row (have now.sizes now.front (is_reason why) now.sizes.entries from at at id r [] s.known.legal s.visited lived e
        (found_one (λ (q : Record). q.place < now.sizes.entries) (has_id id) (after now.front at).records r
        (recursion_from_All (λ (q : Record). q.place < now.sizes.entries) (after now.front at).records (pool now.sizes now.front at s.known.legal)) e))
