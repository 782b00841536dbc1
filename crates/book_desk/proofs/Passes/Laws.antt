-- The places of all passes, as the rule of the turns has them.
use Rattle.std.proofs.Common.{◌≡◌, ◌≢◌, Some, None, ℕ, ◌+◌, ◌<◌, ◌≤◌, min, zero, suc, Bool, Option, List, [], ◌∷◌, refl, ap, sym, subst, ◌∙◌, ◌==◌, ⊎_elim, arith}
use mathlib.Core.Option.{some}
use lib.ListN.{get_elem?}
use Rattle.atomic_table.specs.Table.{State}
use Rattle.history_book.specs.Held.{is_at}
use Rattle.history_book.specs.PlaceUse.{IsPartOf, IsRightUse, PlacesAreRight, UsesExcludeOthers, users_of}
use Rattle.history_book.specs.Record.{has_place}
use Rattle.history_book.specs.declared.event.Event.{Event}
use Rattle.history_book.specs.declared.sizes.Sizes.{Sizes}
use Rattle.book_desk.specs.declared.book.Book.{Book}
use Rattle.book_desk.specs.declared.turn.change.Ending.{Ending}
use Rattle.book_desk.specs.declared.turn.change.PlaceChange.{PlaceChange}
use Rattle.book_desk.specs.declared.turn.change.PlaceChange.TheVariants.{Holds, Releases, Owes, Pays}
use Rattle.book_desk.specs.declared.turn.view.TurnView.{TurnView}
use Rattle.book_desk.specs.Uses.{bit, tally, times, uses}
use Rattle.book_desk.specs.Turn.Change.{IsRightChange}
use Rattle.book_desk.specs.Turn.Laws.{KeepsTurnRule, MayEnd, TurnBookState, debts_of, held_at, owed_at, turn_entries, turn_part, turn_part_in, turn_uses, use_in, views_then}
use Rattle.book_desk.specs.Turn.Places.{AreOfPasses}
use Rattle.book_desk.specs.Turn.Rule.{IsKept}
use Rattle.book_desk.specs.Turn.Steps.{free_in}
use Rattle.book_desk.specs.Turn.Sums.{total}
use Rattle.book_desk.proofs.Passes.Ended.{places_ended}
use Rattle.book_desk.proofs.Passes.Sums.{total_term}
use Rattle.std.proofs.lemmas.Bool.{cases_lt}

-- a count of items is the sum of ones
pub tally_total : {X : Type 0} (p : X → Bool) (xs : List X) → tally p xs ≡ total (λ x. bit (p x)) xs
tally_total p [] = refl
tally_total p (x ∷ xs) = ap (λ (n : ℕ). bit (p x) + n) (tally_total p xs)

-- the users of a place in the book are the entry and the references of all passes
users_same : (b : Book) (views : List TurnView) (place : ℕ) → AreOfPasses b views → uses place b.records.items b.holds.items ≡ users_of (use_in place b views)
users_same b views place h = ap (λ (n : ℕ). tally (has_place place) b.records.items + n)
    (tally_total (is_at place) b.holds.items ∙ h.held (λ k. bit (is_at place k)))

-- the debts of the book are those of all passes
debts_same : (b : Book) (views : List TurnView) (place : ℕ) → AreOfPasses b views → times place b.owed.items ≡ debts_of place views
debts_same b views place h = tally_total (λ p. p == place) b.owed.items ∙ h.owed (λ p. bit (p == place))

module _ (z : Sizes) (log : List Event) (b : Book) (s : State (Option Book) TurnView) (place : ℕ) (kept : IsKept z log b s) where
  pub one_use : place < z.entries → times place b.free.items + debts_of place s.views + min (users_of (use_in place b s.views)) 1 ≡ 1
  one_use below = subst (λ (n : ℕ). times place b.free.items + n + min (users_of (use_in place b s.views)) 1 ≡ 1) (debts_same b s.views place kept.places)
      (subst (λ (n : ℕ). times place b.free.items + times place b.owed.items + min n 1 ≡ 1) (users_same b s.views place kept.places)
      (kept.book.places.once place (subst (λ (y : Sizes). place < y.entries) (sym kept.sizes) below)))

  pub no_other : z.entries ≤ place → times place b.free.items + debts_of place s.views + users_of (use_in place b s.views) ≡ 0
  no_other beyond =
      let none = kept.book.places.beyond place (subst (λ (y : Sizes). y.entries ≤ place) (sym kept.sizes) beyond) in
      omega (arith, none, users_same b s.views place kept.places, debts_same b s.views place kept.places)

-- one pass holds and owes no more than all
among_all : (place : ℕ) (views : List TurnView) (i : ℕ)
    → IsPartOf (turn_part place (get_elem? views i)) (record { kept = total (λ v. held_at place v) views; owed = debts_of place views })
among_all place [] i = record { kept = omega arith; owed = omega arith }
among_all place (v ∷ views) zero = record { kept = omega arith; owed = omega arith }
among_all place (v ∷ views) (suc i) =
    let rest = among_all place views i in record { kept = omega (arith, rest.kept); owed = omega (arith, rest.owed) }

module _ (others : UsesExcludeOthers) where
  right_use : (b : TurnBookState) (place : ℕ) → KeepsTurnRule b → IsRightUse (turn_entries b) place (turn_uses b place)
  right_use b place kept = record {
    one = one_use b.sizes b.log b.book b.table place kept;
    beyond = no_other b.sizes b.log b.book b.table place kept;
  }

  pub right_places : PlacesAreRight KeepsTurnRule turn_entries turn_uses turn_part_in
  right_places = record {
    one = λ b place kept. (right_use b place kept).one;
    beyond = λ b place kept. (right_use b place kept).beyond;
    part = λ b pass place kept. among_all place b.table.views pass;
    nobodys = λ b place kept. others.nobodys (turn_entries b) place (turn_uses b place) (right_use b place kept);
    held = λ b pass place kept. others.held (turn_entries b) place (turn_uses b place) (turn_part_in b pass place) (right_use b place kept) (among_all place b.table.views pass);
    last = λ b pass place kept. others.last (turn_entries b) place (turn_uses b place) (turn_part_in b pass place) (right_use b place kept) (among_all place b.table.views pass);
    kept = λ b b' place kept kept' same.
        others.kept (turn_entries b) place (turn_uses b place) (turn_uses b' place) (right_use b place kept)
        (subst (λ (n : ℕ). IsRightUse n place (turn_uses b' place)) same (right_use b' place kept'));
  }

-- where the first of three is one, the others are nothing
only_first : (f d n : ℕ) → f + d + min n 1 ≡ 1 → f ≡ 1 → d + n ≡ 0
only_first f d zero all one = omega (arith, all, one)
only_first f d (suc n) all one = absurd (omega (arith, all, one))

-- a pass with the turn ends it
module _ (z : Sizes) (log : List Event) (b : Book) (s : State (Option Book) TurnView) (i place : ℕ) (v : TurnView) (e : Ending) (new : Book)
    (m : MayEnd z log b s i v e new) where
  -- it knows the book
  known : v.book ≡ Some b
  known = (m.kept.away i v m.at m.can.turn).0

  right : (c : PlaceChange) → e.places ≡ c → IsRightChange c b.free.items new
  right c is =
      subst (λ (x : PlaceChange). IsRightChange x b.free.items new) is
      (subst (λ (o : Option Book). IsRightChange e.places (free_in o) new) known m.can.right)

  -- the places of the book that it leaves are those of the passes then
  places_then : AreOfPasses new (views_then s.views i v e)
  places_then =
      places_ended z e v b new s i m.at m.can known
      (subst (λ (l : List Event). IsKept z l b s) (sym (m.kept.away i v m.at m.can.turn).1) m.kept)

  pub nobodys : e.places ≡ Holds (record { place = place; id = None }) → debts_of place s.views + users_of (use_in place b s.views) ≡ 0
  nobodys is =
      let free : times place b.free.items ≡ 1 = right (Holds (record { place = place; id = None })) is in
      ⊎_elim (λ (below : place < z.entries). only_first (times place b.free.items) (debts_of place s.views) (users_of (use_in place b s.views))
      (one_use z log b s place m.kept below) free)
      (λ (beyond : z.entries ≤ place). absurd (omega (arith, free, no_other z log b s place m.kept beyond)))
      (cases_lt place z.entries)

  pub not_given : (j : ℕ) (u : TurnView) → get_elem? s.views j ≡ some u → 0 < held_at place u + owed_at place u
      → e.places ≢ Holds (record { place = place; id = None })
  not_given j u at has is =
      let held : held_at place u ≤ total (λ w. held_at place w) s.views = total_term (λ w. held_at place w) s.views j u at in
      let owed : owed_at place u ≤ debts_of place s.views = total_term (λ w. owed_at place w) s.views j u at in
      omega (arith, has, held, owed, nobodys is)

  pub use_left : e.places ≡ Releases place → 0 < users_of (use_in place new (views_then s.views i v e))
  use_left is = subst (λ (n : ℕ). 0 < n) (users_same new (views_then s.views i v e) place places_then) (right (Releases place) is)

  pub no_use_left : e.places ≡ Owes place → users_of (use_in place new (views_then s.views i v e)) ≡ 0
  no_use_left is = sym (users_same new (views_then s.views i v e) place places_then) ∙ right (Owes place) is

  pub free_then : e.places ≡ Pays place
      → (times place new.free.items ≡ 1) × (debts_of place (views_then s.views i v e) + users_of (use_in place new (views_then s.views i v e)) ≡ 0)
  free_then is =
      let free : times place new.free.items ≡ 1 = right (Pays place) is in
      let none : times place new.owed.items + uses place new.records.items new.holds.items ≡ 0 =
      ⊎_elim (λ (below : place < new.sizes.entries). only_first (times place new.free.items) (times place new.owed.items)
      (uses place new.records.items new.holds.items) (m.can.book.places.once place below) free)
      (λ (beyond : new.sizes.entries ≤ place). absurd (omega (arith, free, m.can.book.places.beyond place beyond)))
      (cases_lt place new.sizes.entries) in (
        free,
        omega (
          arith,
          none,
          users_same new (views_then s.views i v e) place places_then,
          debts_same new (views_then s.views i v e) place places_then,
        ),
      )
