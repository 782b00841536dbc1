-- The laws of all passes.
use Rattle.std.specs.Prelude.{min, unwrap_or}
use Rattle.std.specs.List.{All}
use Rattle.std.proofs.Common.{◌≡◌, ℕ, ◌+◌, ◌<◌, ◌≤◌, zero, suc, Option, Some, None, List, [], ◌∷◌, length, refl, ap, subst, ◌∙◌, arith}
use lib.ListN.{get_elem?}
use Rattle.history_book.specs.Laws.{PlacesAreInThePool}
use Rattle.history_book.specs.PlaceUse.{IsPartOf, IsRightUse, PlacesAreRight, UsesExcludeOthers}
use Rattle.history_book.specs.declared.record.Record.{Record}
use Rattle.history_book.specs.declared.sizes.Sizes.{Sizes}
use Rattle.track_rule.specs.declared.view.View.{View}
use Rattle.track_rule.specs.Free.{has_turn, owes, turn_of}
use Rattle.track_rule.specs.History.{records_after}
use Rattle.track_rule.specs.Laws.{KeepsTableRule, KeptLeavesAUse, LastReferenceIsAlone, OnePassHasTheList, ReleasesStayOut, TableState, TakenPlacesAreNew, TheListIsKnown, WordsCountUsers, entries_of, part_in, part_of, uses_in}
use Rattle.track_rule.specs.Layout.{phase_at, refs_at}
use Rattle.track_rule.specs.Phases.{middle_of, of_place, table_keeps}
use Rattle.track_rule.specs.References.{keeps}
use Rattle.track_rule.specs.Sums.{times, total}
use Rattle.track_rule.proofs.Hooks.{middle_kept}
use Rattle.track_rule.proofs.Lists.{other_bit}
use Rattle.track_rule.proofs.Sums.{total_le, total_same, total_term, total_two}

some_users : (m n : ℕ) → 0 < m → 0 < n → min m 1 ≡ min n 1
some_users zero n a b = absurd (omega (arith, a))
some_users (suc m) zero a b = absurd (omega (arith, b))
some_users (suc m) (suc n) a b = omega arith

-- a place has a reference exactly where it has users: k of passes and t of the table, l live entries and m in the middle
same_users : (k t l m : ℕ) → l ≡ t + m → m ≤ k → min (k + t) 1 ≡ min (l + k) 1
same_users zero t l m live low = ap (λ (n : ℕ). min n 1) (omega (arith, live, low))
same_users (suc k) t l m live low = some_users (suc k + t) (l + suc k) (omega arith) (omega arith)

pub words_count : WordsCountUsers
words_count b place h below =
    let word : refs_at b.sizes b.table.words place ≡ total (keeps place) b.table.views + table_keeps (phase_at b.sizes b.table.words place) =
    h.references.counted place below in
    let used : total (of_place place) (records_after b.ledger.log)
    ≡ table_keeps (phase_at b.sizes b.table.words place) + total (middle_of (of_place place)) b.table.views =
    h.phases.used place below in
    record {
      kept = omega (arith, word);
      most = omega (arith, word, used);
      some =
          ap (λ (n : ℕ). min n 1) word
          ∙ same_users (total (keeps place) b.table.views) (table_keeps (phase_at b.sizes b.table.words place))
          (total (of_place place) (records_after b.ledger.log)) (total (middle_of (of_place place)) b.table.views) used
          (total_le (middle_of (of_place place)) (keeps place) b.table.views (λ i u at. middle_kept b.sizes b.ledger.log place u.commit.middle u (h.commits i u at)));
    }

none_beyond : (n place : ℕ) (rs : List Record) → All (λ r. r.place < n) rs → n ≤ place → total (of_place place) rs ≡ 0
none_beyond n place [] low above = refl
none_beyond n place (r ∷ rs) low above =
    omega (
      arith,
      other_bit r.place place (λ e. omega (arith, e, above, low 0 r (omega arith))),
      none_beyond n place rs (λ k d short. low (suc k) d (omega (arith, short))) above,
    )

-- one pass keeps and owes no more than all
among_all : (place : ℕ) (views : List View) (i : ℕ)
    → IsPartOf (part_of place (get_elem? views i)) (record { kept = total (keeps place) views; owed = total (owes place) views })
among_all place [] i = record { kept = omega arith; owed = omega arith }
among_all place (v ∷ views) zero = record { kept = omega arith; owed = omega arith }
among_all place (v ∷ views) (suc i) =
    let rest = among_all place views i in record { kept = omega (arith, rest.kept); owed = omega (arith, rest.owed) }

module _ (others : UsesExcludeOthers) (low : PlacesAreInThePool) where
  right_use : (b : TableState) (place : ℕ) → KeepsTableRule b → IsRightUse (entries_of b) place (uses_in b place)
  right_use b place h = record {
    one = λ below.
        subst (λ (n : ℕ). times place b.ledger.free + total (owes place) b.table.views + n ≡ 1) (words_count b place h below).some
        (h.free_list.once place below);
    beyond = λ above.
        omega (
          arith,
          h.free_list.beyond place above,
          h.references.beyond place above,
          none_beyond b.sizes.entries place (records_after b.ledger.log) (low b.sizes b.ledger.log (length b.ledger.log) h.history.legal) above,
        );
  }

  pub right : PlacesAreRight KeepsTableRule entries_of uses_in part_in
  right = record {
    one = λ b place h. (right_use b place h).one;
    beyond = λ b place h. (right_use b place h).beyond;
    part = λ b pass place h. among_all place b.table.views pass;
    nobodys = λ b place h. others.nobodys (entries_of b) place (uses_in b place) (right_use b place h);
    held = λ b pass place h. others.held (entries_of b) place (uses_in b place) (part_in b pass place) (right_use b place h) (among_all place b.table.views pass);
    last = λ b pass place h. others.last (entries_of b) place (uses_in b place) (part_in b pass place) (right_use b place h) (among_all place b.table.views pass);
    kept = λ b b' place h h' same.
        others.kept (entries_of b) place (uses_in b place) (uses_in b' place) (right_use b place h)
        (subst (λ (n : ℕ). IsRightUse n place (uses_in b' place)) same (right_use b' place h'));
  }

pub stays_out : ReleasesStayOut
stays_out b b' i place v w k = record {
  free = ap (times place) k.free;
  owed = ap (total (owes place)) k.views ∙ total_same (owes place) b.table.views i v w k.at (ap (times place) k.owed);
}

pub use_left : UsesExcludeOthers → PlacesAreInThePool → KeptLeavesAUse
use_left others low b b' i place v w h h' k has =
    (right others low).kept b b' place h h' (ap (λ (z : Sizes). z.entries) k.sizes)
    (omega (arith, has, total_term (keeps place) b.table.views i v k.at)) (stays_out b b' i place v w k)

-- who has the turn knows the list
list_of : (o : Option (List ℕ)) (free : List ℕ) → turn_of o ≡ 1 → ((list : List ℕ) → o ≡ Some list → list ≡ free) → unwrap_or o [] ≡ free
list_of None free turn away = absurd (omega (arith, turn))
list_of (Some list) free turn away = away list refl

pub list_known : TheListIsKnown
list_known z l s i v h at turn = list_of v.free l.free turn (h.free_list.away i v at)

pub one_has_list : OnePassHasTheList
one_has_list z l s i j v u h at at' other turn =
    omega (arith, h.free_list.turn, h.free_list.single, total_two has_turn s.views i j v u at at' other, turn)

pub last_alone : LastReferenceIsAlone
last_alone z l s i j place v u h at at' other one below mine =
    omega (arith, h.references.counted place below, one, total_two (keeps place) s.views i j v u at at' other, mine)

pub taken_new : TakenPlacesAreNew
taken_new z l s place h = h.references.taken place
