-- How a call changes a place is right of the place.
use Rattle.std.proofs.Common.{◌≡◌, ℕ, ◌+◌, ◌<◌, ◌≤◌, min, zero, suc, true, false, Bool, cond, List, [], ◌∷◌, length, refl, sym, ap, subst, ◌∙◌, ⊎_elim, arith, Option, Some, None}
use Rattle.std.specs.List.{find, list_any}
use Rattle.std.specs.Prelude.{◌||◌, ◌==◌}
use Rattle.std.proofs.lemmas.Bool.{and_from, eq-eqb, not-true, or_cases, or_parts}
use Rattle.tuple_core.specs.declared.Tuple.{Tuple}
use Rattle.history_book.specs.declared.event.Event.{Event}
use Rattle.history_book.specs.declared.outcome.ConfirmOutcome.{ConfirmOutcome}
use Rattle.history_book.specs.declared.outcome.ConfirmOutcome.TheVariants as confirm
use Rattle.history_book.specs.declared.outcome.FindOutcome.{FindOutcome}
use Rattle.history_book.specs.declared.outcome.FindOutcome.TheVariants as look
use Rattle.history_book.specs.declared.outcome.HoldOutcome.{HoldOutcome}
use Rattle.history_book.specs.declared.outcome.HoldOutcome.TheVariants as hold
use Rattle.history_book.specs.declared.outcome.ReleaseOutcome.{ReleaseOutcome}
use Rattle.history_book.specs.declared.outcome.ReleaseOutcome.TheVariants as release
use Rattle.history_book.specs.declared.outcome.TakeOutcome.{TakeOutcome}
use Rattle.history_book.specs.declared.outcome.TakeOutcome.TheVariants as take
use Rattle.history_book.specs.declared.record.Record.{Record}
use Rattle.history_book.specs.declared.sizes.Sizes.{Sizes}
use Rattle.history_book.specs.Desk.{FindSays, HoldSays, RecycleSays, ReleaseSays, TakeSays}
use Rattle.history_book.specs.Held.{is_at, is_held, is_owed}
use Rattle.history_book.specs.History.{after}
use Rattle.history_book.specs.Record.{has_id, has_original, has_place, has_reply}
use Rattle.history_book.specs.State.{Found, State, live_under, original_first}
use Rattle.history_book.specs.WentOn.{Looked}
use Rattle.book_desk.specs.declared.book.Book.{Book}
use Rattle.book_desk.specs.Fields.{IsBook, state_in}
use Rattle.book_desk.specs.Internal.Book.{counted, sight_in}
use Rattle.book_desk.specs.Turn.Change.{IsRightChange, confirmed_change, found_change, held_change, is_entry_in, released_change, taken_change}
use Rattle.book_desk.specs.Uses.{bit, tally, times, uses}
use Rattle.book_desk.proofs.Lists.{same_bit, tally_none, tally_some}
use Rattle.book_desk.proofs.Pool.{place_below}
use Rattle.book_desk.proofs.Positions.{find_passes}
use Rattle.book_desk.proofs.Steps.{used_is}

-- the item that is found counts where it passes another test
found_counts : {X : Type 0} (p q : X → Bool) (xs : List X) (x : X) → find p xs ≡ Some x → q x ≡ true → 1 ≤ tally q xs
found_counts p q [] x found passes = cc
found_counts p q (y ∷ ys) x found passes =
    elim (p y) as (λ b. cond b (Some y) (find p ys) ≡ Some x → 1 ≤ bit (q y) + tally q ys) [
      | true ↦ λ e. let same : y ≡ x = cc in omega (arith, ap bit (ap q same ∙ passes))
      | false ↦ λ e. omega (arith, found_counts p q ys x e passes)
    ] found

-- and so does what is live under a tuple
live_counts : (q : Record → Bool) (t : Tuple) (s : State) (f : Found) → live_under t s ≡ Some f → q f.subject ≡ true → 1 ≤ tally q s.records
live_counts q t s f live passes = first_counts (find (has_original t) s.records) (find (has_reply t) s.records) refl refl live
  where
    first_counts : (a b : Option Record) → find (has_original t) s.records ≡ a → find (has_reply t) s.records ≡ b → original_first a b ≡ Some f
        → 1 ≤ tally q s.records
    first_counts (Some r) b here there is =
        let same : r ≡ f.subject = cc in found_counts (has_original t) q s.records r here (ap q same ∙ passes)
    first_counts None (Some r) here there is =
        let same : r ≡ f.subject = cc in found_counts (has_reply t) q s.records r there (ap q same ∙ passes)
    first_counts None None here there is = cc

module _ (log : List Event) (spare taken : ℕ) (b b' : Book) (old : IsBook log b) (new : IsBook log b') where
  -- what a look found is so of the book
  present : (at : ℕ) (F : State → Type 0) → Looked (sight_in log spare taken b) (sight_in log spare taken b') at F
      → F (state_in b')
  present at F l =
      let here : at ≡ length log = omega (arith, l.low, l.fact.within) in
      subst F (sym new.history.state) (subst (λ (p : ℕ). F (after log p)) here l.fact.fact)

  pub find_right : (t : Tuple) (o : FindOutcome) → FindSays t (sight_in log spare taken b) (sight_in log spare taken b') o
      → IsRightChange (found_change o) b.free.items b'
  find_right t (look.Found place id direction at) (looked, holds) =
      let there = present at _ looked in
      live_counts (is_entry_in place id) t (state_in b') (record { subject = there.subject; direction = direction }) there.live
      (and_from _ _ (eq-eqb there.subject.place place there.placed) (eq-eqb there.subject.id id there.named))
  find_right t (look.Absent at) says = tt

  pub hold_right : (place : ℕ) (o : HoldOutcome) → HoldSays place (sight_in log spare taken b) (sight_in log spare taken b') o
      → IsRightChange (held_change place o) b.free.items b'
  hold_right place (hold.Held id at) (looked, holds) =
      let there = present at _ looked in
      found_counts (has_id id) (is_entry_in place id) b'.records.items there.subject there.is
      (and_from _ _ (eq-eqb there.subject.place place there.placed) (find_passes (has_id id) b'.records.items there.subject there.is))
  hold_right place (hold.Empty at) says = tt

  -- a place in which no entry is live, and that nobody holds or owes, is free
  pub take_right : (o : TakeOutcome) → TakeSays (sight_in log spare taken b) (counted o (sight_in log spare taken b')) o
      → IsRightChange (taken_change o) b.free.items b'
  take_right (take.Taken place) t =
      let unused : list_any (has_place place) b.records.items ≡ false =
      subst (λ (s : State). list_any (has_place place) s.records ≡ false) (sym old.history.state) (not-true _ (t.alone refl)) in
      omega (
        arith,
        old.places.once place t.below,
        tally_none (has_place place) b.records.items unused,
        tally_none (is_at place) b.holds.items t.unheld,
        tally_none (λ q. q == place) b.owed.items t.unowed,
      )
  take_right (take.Full at) says = tt

  -- a place that was held is not owed, so what keeps it in use is an entry or a reference
  pub release_right : (place : ℕ) (o : ReleaseOutcome) → is_held place b.holds.items ≡ true
      → ReleaseSays place (sight_in log spare taken b) (sight_in log spare taken b') o
      → IsRightChange (released_change place o) b.free.items b'
  release_right place release.Kept held k =
      let some : 1 ≤ tally (is_at place) b.holds.items = tally_some (is_at place) b.holds.items held in
      let below : place < b.sizes.entries =
      place_below b.sizes.entries b.records.items b.holds.items b.free.items b.owed.items place old.places (omega (arith, some)) in
      let unowed : times place b'.owed.items ≡ 0 = omega (arith, some, old.places.once place below, ap (times place) k.owed) in
      ⊎_elim
      (λ (e : (list_any (has_place place) b'.records.items || is_held place b'.holds.items) ≡ true).
      ⊎_elim (λ (u : list_any (has_place place) b'.records.items ≡ true). omega (arith, tally_some (has_place place) b'.records.items u))
      (λ (u : is_held place b'.holds.items ≡ true). omega (arith, tally_some (is_at place) b'.holds.items u))
      (or_cases (list_any (has_place place) b'.records.items) (is_held place b'.holds.items) e))
      (λ (e : is_owed place b'.owed.items ≡ true). absurd (omega (arith, unowed, tally_some (λ q. q == place) b'.owed.items e)))
      (or_cases (list_any (has_place place) b'.records.items || is_held place b'.holds.items) (is_owed place b'.owed.items)
      (sym (used_is log spare taken b' place new) ∙ k.alone refl))
  release_right place release.Last held k =
      let owed : times place b'.owed.items ≡ 1 + times place b.owed.items = ap (times place) k.owed ∙ ap (λ (n : ℕ). n + times place b.owed.items) (same_bit place place refl) in
      let below : place < b'.sizes.entries =
      place_below b'.sizes.entries b'.records.items b'.holds.items b'.free.items b'.owed.items place new.places (omega (arith, owed)) in
      none_left (times place b'.free.items) (times place b'.owed.items) (uses place b'.records.items b'.holds.items)
      (new.places.once place below) (omega (arith, owed))
    where
      none_left : (f d u : ℕ) → f + d + min u 1 ≡ 1 → 1 ≤ d → u ≡ 0
      none_left f d zero all some = refl
      none_left f d (suc u) all some = absurd (omega (arith, all, some))

  -- a place in no use is free
  pub recycle_right : (place : ℕ) → is_owed place b.owed.items ≡ true → b'.sizes ≡ b.sizes
      → RecycleSays place (sight_in log spare taken b) (sight_in log spare taken b') → times place b'.free.items ≡ 1
  recycle_right place owed sizes r =
      let some : 1 ≤ times place b.owed.items = tally_some (λ q. q == place) b.owed.items owed in
      let below : place < b.sizes.entries =
      place_below b.sizes.entries b.records.items b.holds.items b.free.items b.owed.items place old.places (omega (arith, some)) in
      let parts = or_parts (list_any (has_place place) b'.records.items || is_held place b'.holds.items) (is_owed place b'.owed.items)
      (sym (used_is log spare taken b' place new) ∙ r.alone refl) in
      let both = or_parts (list_any (has_place place) b'.records.items) (is_held place b'.holds.items) parts.0 in
      omega (
        arith,
        new.places.once place (omega (arith, below, ap (λ (z : Sizes). z.entries) sizes)),
        tally_none (has_place place) b'.records.items both.0,
        tally_none (is_at place) b'.holds.items both.1,
        tally_none (λ q. q == place) b'.owed.items parts.1,
      )

-- a new flow changes no place that needs more than the book says
pub confirm_right : (place : ℕ) (o : ConfirmOutcome) (free : List ℕ) (b : Book) → IsRightChange (confirmed_change place o) free b
confirm_right place (confirm.Confirmed id) free b = tt
confirm_right place (confirm.Clash id direction both at) free b = tt
