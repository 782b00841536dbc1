-- What holds of moving places forward and back.
use Rattle.std.proofs.Common.{◌≡◌, ◌∙◌, ℕ, ◌+◌, ◌-◌, ◌*◌, ◌^◌, ◌%◌, ◌<◌, ◌≤◌, ◌⊎◌, inl, inr, Bool, true, false, ◌||◌, List, [], ◌∷◌, ◌++◌, length, map, take, drop, refl, sym, subst, arith, length-append, length-drop}
use Rattle.std.proofs.lemmas.Bool.{and_parts}
use Rattle.std.proofs.lemmas.Bool.Decides.{nat_tests}
use Rattle.std.proofs.lemmas.List.{length-take-le}
use Rattle.std.specs.Prelude.{nat_lt, nat_le}
use Rattle.std.specs.List.{list_all}
use Rattle.ftp_rewrite.specs.declared.adjust.Edit.{Edit}
use Rattle.ftp_rewrite.specs.Edit.{AreInOrderFrom, back, back_from, end_from, end_of, far, forward, forward_from, offset_of}
use Rattle.ftp_rewrite.specs.Laws.{BackIsThePlace, BackUndoesForward, edit_by, ForwardIsTheLength, is_outside, Replacement, rewritten_from}
use Rattle.ftp_rewrite.proofs.Modulo.{number_of_offset, offset_of_number}

tested : (m n : ℕ) → ((nat_le m n ≡ true) × (m ≤ n)) ⊎ ((nat_le m n ≡ false) × (n < m))
tested m n = either (nat_le m n) refl
  where
    either : (b : Bool) → nat_le m n ≡ b → ((nat_le m n ≡ true) × (m ≤ n)) ⊎ ((nat_le m n ≡ false) × (n < m))
    either true h = inl (h, grind (arith, nat_tests))
    either false h = inr (h, grind (arith, nat_tests))

not_below : (m n : ℕ) → n ≤ m → nat_lt m n ≡ false
not_below m n h = grind (arith, nat_tests)

below : (m n : ℕ) → m < n → nat_lt m n ≡ true
below m n h = grind (arith, nat_tests)

at_most : (m n : ℕ) → m ≤ n → nat_le m n ≡ true
at_most m n h = grind (arith, nat_tests)

not_at_most : (m n : ℕ) → n < m → nat_le m n ≡ false
not_at_most m n h = grind (arith, nat_tests)

-- no less than what was made before
forward_least : (start made : ℕ) (edits : List Edit) (x : ℕ) → made ≤ forward_from start made edits x
forward_least start made [] x = omega arith
forward_least start made (e ∷ es) x =
    let later = forward_least (end_of e) (made + (e.offset - start) + e.new_length) es x in
    grind (arith, nat_tests)

-- no more than each edit can add
forward_most : (start made : ℕ) (edits : List Edit) (x : ℕ) → AreInOrderFrom start edits → list_all (λ e. nat_lt e.new_length (2 ^ 16)) edits ≡ true → start ≤ x
    → forward_from start made edits x ≤ made + (x - start) + 65536 * length edits
forward_most start made [] x order small dealt = omega arith
forward_most start made (e ∷ es) x order small dealt =
    by_test (λ past. forward_most (end_of e) (made + (e.offset - start) + e.new_length) es x order.3 parts.1 past) (tested x e.offset) (tested (end_of e) x)
  where
    parts : (nat_lt e.new_length (2 ^ 16) ≡ true) × (list_all (λ f. nat_lt f.new_length (2 ^ 16)) es ≡ true)
    parts = and_parts (nat_lt e.new_length (2 ^ 16)) (list_all (λ f. nat_lt f.new_length (2 ^ 16)) es) small

    short : (n : ℕ) → nat_lt n (2 ^ 16) ≡ true → n < 65536
    short n h = grind (arith, nat_tests)

    by_test : (end_of e ≤ x → forward_from (end_of e) (made + (e.offset - start) + e.new_length) es x
        ≤ made + (e.offset - start) + e.new_length + (x - end_of e) + 65536 * length es)
        → ((nat_le x e.offset ≡ true) × (x ≤ e.offset)) ⊎ ((nat_le x e.offset ≡ false) × (e.offset < x))
        → ((nat_le (end_of e) x ≡ true) × (end_of e ≤ x)) ⊎ ((nat_le (end_of e) x ≡ false) × (x < end_of e))
        → forward_from start made (e ∷ es) x ≤ made + (x - start) + 65536 * length (e ∷ es)
    by_test later (inl low) any = rw low.0 (omega arith)
    by_test later (inr high) (inl past) =
        let more = later past.1 in
        let few = short e.new_length parts.0 in
        let before : start ≤ e.offset = order.0 in
        rw (high.0, not_below x (end_of e) past.1) (omega arith)
    by_test later (inr high) (inr inside) =
        let before : start ≤ e.offset = order.0 in
        rw (high.0, below x (end_of e) inside.1) (omega (arith, high.1))

-- forward and back again
there_and_back : (start made : ℕ) (edits : List Edit) (x : ℕ) → AreInOrderFrom start edits → start ≤ x → is_outside edits x ≡ true
    → back_from start made edits (forward_from start made edits x) ≡ x
there_and_back start made [] x order dealt outside = omega arith
there_and_back start made (e ∷ es) x order dealt outside =
    by_test (λ past. there_and_back (end_of e) (made + (e.offset - start) + e.new_length) es x order.3 past parts.1) (tested x e.offset)
  where
    parts : (nat_le x e.offset || nat_le (end_of e) x ≡ true) × (is_outside es x ≡ true)
    parts = and_parts (nat_le x e.offset || nat_le (end_of e) x) (is_outside es x) outside

    other : (a b : Bool) → a || b ≡ true → a ≡ false → b ≡ true
    other true b h f = cc
    other false b h f = h

    past_is : nat_le (end_of e) x ≡ true → end_of e ≤ x
    past_is h = grind (arith, nat_tests)

    by_test : (end_of e ≤ x → back_from (end_of e) (made + (e.offset - start) + e.new_length) es
        (forward_from (end_of e) (made + (e.offset - start) + e.new_length) es x) ≡ x)
        → ((nat_le x e.offset ≡ true) × (x ≤ e.offset)) ⊎ ((nat_le x e.offset ≡ false) × (e.offset < x))
        → back_from start made (e ∷ es) (forward_from start made (e ∷ es) x) ≡ x
    by_test later (inl low) =
        rw (low.0, at_most (made + (x - start)) (made + (e.offset - start)) (omega (arith, low.1))) (omega arith)
    by_test later (inr high) =
        let past = past_is (other (nat_le x e.offset) (nat_le (end_of e) x) parts.0 high.0) in
        let made2 : ℕ = made + (e.offset - start) + e.new_length in
        let least = forward_least (end_of e) made2 es x in
        let new : 0 < e.new_length = order.2 in
        rw (
          high.0,
          not_below x (end_of e) past,
          not_at_most (forward_from (end_of e) made2 es x) (made + (e.offset - start)) (omega arith),
          not_below (forward_from (end_of e) made2 es x) made2 least,
        )
        (later past)

pub back_is_the_place : BackIsThePlace
back_is_the_place edits x order outside = there_and_back 0 0 edits x order (omega arith) outside

pub back_undoes_forward : BackUndoesForward
unfolding forward back
back_undoes_forward base number edits small fits are outside near =
    let o : ℕ = offset_of base number in
    let y : ℕ = forward_from 0 0 edits o in
    let most = forward_most 0 0 edits o are.order are.small (omega arith) in
    let few = are.few in
    let close : y < 2 ^ 31 = omega (arith, most, few, near) in
    let same : offset_of base ((base + y) % 2 ^ 32) ≡ y = offset_of_number base y small (omega (arith, close)) in
    let again : back_from 0 0 edits y ≡ o = there_and_back 0 0 edits o are.order (omega arith) outside in
    rw (below o far (omega (arith, near)), same, below y far close, again) (number_of_offset base number small fits)

-- the length of the rewritten first bytes

end_least : (start : ℕ) (edits : List Edit) → AreInOrderFrom start edits → start ≤ end_from start edits
end_least start [] order = omega arith
end_least start (e ∷ es) order =
    let later = end_least (end_of e) es order.3 in
    let before : start ≤ e.offset = order.0 in
    omega arith

length_from : (start made : ℕ) (ended later : List Replacement) (first : List ℕ)
    → AreInOrderFrom start (map edit_by ended) → end_from start (map edit_by ended) ≤ start + length first → AreInOrderFrom (start + length first) (map edit_by later)
    → forward_from start made (map edit_by (ended ++ later)) (start + length first) ≡ made + length (rewritten_from start ended first)
length_from start made [] [] first order fits behind = omega arith
length_from start made [] (r ∷ rs) first order fits behind =
    rw (at_most (start + length first) r.offset behind.0) (omega arith)
length_from start made (r ∷ rs) later first order fits behind =
    let before : start ≤ r.offset = order.0 in
    let old : 0 < r.old_length = order.1 in
    let end : ℕ = r.offset + r.old_length in
    let ends : end ≤ end_from end (map edit_by rs) = end_least end (map edit_by rs) order.3 in
    let rest : List ℕ = drop (end - start) first in
    let rest_is : end + length rest ≡ start + length first = omega (arith, length-drop (end - start) first, fits) in
    let more = length_from end (made + (r.offset - start) + length r.text) rs later rest order.3
    (subst (λ (k : ℕ). end_from end (map edit_by rs) ≤ k) (sym rest_is) fits)
    (subst (λ (k : ℕ). AreInOrderFrom k (map edit_by later)) (sym rest_is) behind) in
    let here : forward_from end (made + (r.offset - start) + length r.text) (map edit_by (rs ++ later)) (start + length first)
    ≡ (made + (r.offset - start) + length r.text) + length (rewritten_from end rs rest) =
    subst (λ (k : ℕ). forward_from end (made + (r.offset - start) + length r.text) (map edit_by (rs ++ later)) k
    ≡ (made + (r.offset - start) + length r.text) + length (rewritten_from end rs rest)) rest_is more in
    let front : length (take (r.offset - start) first) ≡ r.offset - start = length-take-le (r.offset - start) first (omega (arith, fits, ends)) in
    rw (not_at_most (start + length first) r.offset (omega (arith, fits, ends)), not_below (start + length first) end (omega (arith, fits, ends)))
    (here ∙ (omega (arith, front, length-append (take (r.offset - start) first) (r.text ++ rewritten_from end rs rest), length-append r.text (rewritten_from end rs rest))))

pub forward_is_the_length : ForwardIsTheLength
forward_is_the_length ended later first order fits behind =
    subst (λ (k : ℕ). forward_from 0 0 (map edit_by (ended ++ later)) k ≡ length (rewritten_from 0 ended first)) (omega arith)
    (length_from 0 0 ended later first order (omega (arith, fits)) (subst (λ (k : ℕ). AreInOrderFrom k (map edit_by later)) (omega arith) behind) ∙ omega arith)
