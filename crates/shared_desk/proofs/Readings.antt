-- The laws of the tests of words.
use Rattle.std.specs.Prelude.{◌==◌, is_some, nat_le, nat_lt, not, drop, ◌⊎◌}
use Rattle.std.proofs.Common.{◌≡◌, ℕ, ◌+◌, ◌*◌, ◌<◌, ◌≤◌, true, false, List, [], ◌∷◌, ◌++◌, length, refl, ap, arith, inl, inr, ⊎_elim}
use Rattle.std.proofs.lemmas.Bool.{and_from, and_left, and_parts, and_right, cases_Bool, eq-eqb, eqb-true, le-leb, leb-true, ltb-true, ne_eqb, or_from}
use Rattle.history_book.specs.declared.sizes.Sizes.{Sizes}
use Rattle.track_rule.specs.ChangesOnly.{is_of_kind, is_tuple_of}
use Rattle.track_rule.specs.Layout.{phase_word, refs_word, turn_word}
use Rattle.track_rule.specs.Links.{kind_of}
use Rattle.track_rule.specs.Readings.{stored}
use Rattle.track_rule.specs.declared.view.Reading.{Reading}
use Rattle.shared_desk.proofs.WordKinds.{below_places, of_kind}
use Rattle.shared_desk.specs.Laws.{FirstRefsStandAlone, IsNoPlaceWord, LowWordsAreNot, OthersAreNot, PlacesAreNamed, TuplesAreNot}

-- what was added
pub drop_first : {X : Type 0} (xs ys : List X) → drop (length xs) (xs ++ ys) ≡ ys
drop_first [] ys = refl
drop_first (x ∷ xs) ys = drop_first xs ys

pub places : PlacesAreNamed
places z place value = record {
  refs = and_from (is_of_kind 0 z (stored (refs_word z place) value)) true
      (and_from (nat_le (3 + 2 * z.buckets) (refs_word z place)) (kind_of z (refs_word z place) == 0) (le-leb (3 + 2 * z.buckets) (refs_word z place) (omega arith))
      (eq-eqb (kind_of z (refs_word z place)) 0 (omega arith))) refl;
  phase = and_from (is_of_kind 1 z (stored (phase_word z place) value)) (value == value)
      (and_from (nat_le (3 + 2 * z.buckets) (phase_word z place)) (kind_of z (phase_word z place) == 1) (le-leb (3 + 2 * z.buckets) (phase_word z place) (omega arith))
      (eq-eqb (kind_of z (phase_word z place)) 1 (omega arith))) (eq-eqb value value refl);
}

-- a word of none of these kinds
of_none : (z : Sizes) (r : Reading) → ((kind : ℕ) → (kind ≡ 2 → ⊥) → (kind < 3 ⊎ 6 < kind) → is_of_kind kind z r ≡ false) → IsNoPlaceWord z r
of_none z r other = record {
  refs = and_left (is_of_kind 0 z r) (not (is_some r.free)) (other 0 (λ e. omega (arith, e)) (inl (omega arith)));
  phase = λ value. and_left (is_of_kind 1 z r) (r.value == value) (other 1 (λ e. omega (arith, e)) (inl (omega arith)));
  next = or_from (is_of_kind 7 z r) (is_of_kind 8 z r) (other 7 (λ e. omega (arith, e)) (inr (omega arith))) (other 8 (λ e. omega (arith, e)) (inr (omega arith)));
}

pub low : LowWordsAreNot
low z r below = of_none z r (λ kind other far. below_places z kind r below)

pub turns : OthersAreNot
turns z place r e = of_none z r (λ kind other far. of_kind z kind 0 place 2 r (omega arith) (λ k. other (omega (arith, k))) (eqb-true r.word (turn_word z place) e))

pub tuples : TuplesAreNot
tuples z place r e =
    let p = and_parts (nat_le (refs_word z place + 3) r.word) _ e in
    let above : refs_word z place + 3 ≤ r.word = leb-true (refs_word z place + 3) r.word p.0 in
    let under : r.word < refs_word z place + 7 = ltb-true r.word (refs_word z place + 7) p.1 in
    of_none z r (λ kind other far. of_tuple kind above under far)
  where
    of_tuple : (kind : ℕ) → refs_word z place + 3 ≤ r.word → r.word < refs_word z place + 7 → (kind < 3 ⊎ 6 < kind) → is_of_kind kind z r ≡ false
    of_tuple kind above under far =
        and_right (nat_le (3 + 2 * z.buckets) r.word) (kind_of z r.word == kind) (ne_eqb (kind_of z r.word) kind (λ k. ⊎_elim (λ (l : kind < 3). omega (arith, k, above, under, l)) (λ (l : 6 < kind). omega (arith, k, above, under, l)) far))

pub first : FirstRefsStandAlone
first z place r e =
    let p = and_parts (r.word == refs_word z place) (is_some r.free) e in
    let here = eqb-true r.word (refs_word z place) p.0 in
    record {
      refs = λ other. and_right (r.word == refs_word z other) (not (is_some r.free)) (ap not p.1);
      words = record {
        refs = and_right (is_of_kind 0 z r) (not (is_some r.free)) (ap not p.1);
        phase = λ value. and_left (is_of_kind 1 z r) (r.value == value) (of_kind z 1 0 place 0 r (omega arith) (λ k. omega (arith, k)) (omega (arith, here)));
        next = or_from (is_of_kind 7 z r) (is_of_kind 8 z r) (of_kind z 7 0 place 0 r (omega arith) (λ k. omega (arith, k)) (omega (arith, here)))
            (of_kind z 8 0 place 0 r (omega arith) (λ k. omega (arith, k)) (omega (arith, here)));
      };
      turn = λ other. ne_eqb r.word (turn_word z other) (λ k. omega (arith, k, here));
      tuple = λ other. ⊎_elim (λ (k : is_tuple_of other z r ≡ true). absurd (apart other here (and_parts (nat_le (refs_word z other + 3) r.word) _ k)))
          (λ (k : is_tuple_of other z r ≡ false). k) (cases_Bool (is_tuple_of other z r));
      high = omega (arith, here);
    }
  where
    apart : (other : ℕ) → r.word ≡ refs_word z place → (nat_le (refs_word z other + 3) r.word ≡ true) × (nat_lt r.word (refs_word z other + 7) ≡ true) → ⊥
    apart other here k = omega (arith, here, leb-true (refs_word z other + 3) r.word k.0, ltb-true r.word (refs_word z other + 7) k.1)
