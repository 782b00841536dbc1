-- The walks over the edits of a stream, one edit after another.
use Rattle.std.proofs.Common.{◌≡◌, ℕ, suc, zero, ◌+◌, ◌-◌, ◌<◌, ◌≤◌, true, false, List, [], ◌∷◌, ◌++◌, length, get_or, take, drop, refl, ap, subst, arith, drop-cons}
use Rattle.std.proofs.lemmas.Bool.Decides.{nat_tests}
use Rattle.std.proofs.lemmas.List.{take_all, take_more}
use Rattle.std.specs.Prelude.{nat_lt, nat_le, ◌||◌}
use Rattle.ftp_rewrite.specs.declared.adjust.Edit.{Edit}
use Rattle.ftp_rewrite.specs.Edit.{AreInOrderFrom, back_from, end_from, end_of, far, forward_from, overlaps}

-- the edit at a place, and those behind it
from_here : (edits : List Edit) (i : ℕ) (d : Edit) → i < length edits → drop i edits ≡ get_or edits i d ∷ drop (i + 1) edits
from_here edits i d within = subst (λ (k : ℕ). drop i edits ≡ get_or edits i d ∷ drop k edits) one (drop-cons edits i d within)
  where
    one : suc i ≡ i + 1
    one = omega arith

-- none is left
nothing_left : (edits : List Edit) (i : ℕ) → length edits ≤ i → drop i edits ≡ []
nothing_left [] zero past = refl
nothing_left [] (suc i) past = refl
nothing_left (e ∷ es) zero past = absurd (omega arith)
nothing_left (e ∷ es) (suc i) past = nothing_left es i (omega arith)

-- the end of the last

end_append : (start : ℕ) (edits : List Edit) (e : Edit) → end_from start (edits ++ e ∷ []) ≡ end_of e
end_append start [] e = refl
end_append start (x ∷ xs) e = end_append (end_of x) xs e

pub end_next : (edits : List Edit) (i : ℕ) (d : Edit) → i < length edits → end_from 0 (take (i + 1) edits) ≡ end_of (get_or edits i d)
end_next edits i d within = rw (take_more edits i d within) (end_append 0 (take i edits) (get_or edits i d))

pub end_last : (edits : List Edit) (i : ℕ) → length edits ≤ i → end_from 0 (take i edits) ≡ end_from 0 edits
end_last edits i past = ap (end_from 0) (take_all i edits past)

-- what is known of the edits from a place on
pub record StandsAt (start : ℕ) (edits : List Edit) (i : ℕ) (e : Edit) : Type 0 where
  pub before : start ≤ e.offset
  pub old : 0 < e.old_length
  pub new : 0 < e.new_length
  pub later : AreInOrderFrom (end_of e) (drop (i + 1) edits)

pub order_at : (start : ℕ) (edits : List Edit) (i : ℕ) (d : Edit) → i < length edits → AreInOrderFrom start (drop i edits) → StandsAt start edits i (get_or edits i d)
order_at start edits i d within order =
    let h = subst (AreInOrderFrom start) (from_here edits i d within) order in
    record { before = h.0; old = h.1; new = h.2; later = h.3 }

-- the way forward

at_least : (m n : ℕ) → n < m → nat_le m n ≡ false
at_least m n h = grind (arith, nat_tests)

at_most : (m n : ℕ) → m ≤ n → nat_le m n ≡ true
at_most m n h = grind (arith, nat_tests)

below : (m n : ℕ) → m < n → nat_lt m n ≡ true
below m n h = grind (arith, nat_tests)

not_below : (m n : ℕ) → n ≤ m → nat_lt m n ≡ false
not_below m n h = grind (arith, nat_tests)

module _ (edits : List Edit) (start made i x : ℕ) (d : Edit) (within : i < length edits) where
  pub forward_before : x ≤ (get_or edits i d).offset → forward_from start made (drop i edits) x ≡ made + (x - start)
  forward_before low = rw (from_here edits i d within, at_most x (get_or edits i d).offset low) refl

  pub forward_inside : (get_or edits i d).offset < x → x < end_of (get_or edits i d)
      → forward_from start made (drop i edits) x ≡ made + ((get_or edits i d).offset - start)
  forward_inside high inside =
      rw (from_here edits i d within, at_least x (get_or edits i d).offset high, below x (end_of (get_or edits i d)) inside) refl

  pub forward_next : (get_or edits i d).offset < x → end_of (get_or edits i d) ≤ x
      → forward_from start made (drop i edits) x
      ≡ forward_from (end_of (get_or edits i d)) (made + ((get_or edits i d).offset - start) + (get_or edits i d).new_length) (drop (i + 1) edits) x
  forward_next high past =
      rw (from_here edits i d within, at_least x (get_or edits i d).offset high, not_below x (end_of (get_or edits i d)) past) refl

  pub back_before : x ≤ made + ((get_or edits i d).offset - start) → back_from start made (drop i edits) x ≡ start + (x - made)
  back_before low = rw (from_here edits i d within, at_most x (made + ((get_or edits i d).offset - start)) low) refl

  pub back_inside : made + ((get_or edits i d).offset - start) < x → x < made + ((get_or edits i d).offset - start) + (get_or edits i d).new_length
      → back_from start made (drop i edits) x ≡ (get_or edits i d).offset
  back_inside high inside =
      rw (
        from_here edits i d within,
        at_least x (made + ((get_or edits i d).offset - start)) high,
        below x (made + ((get_or edits i d).offset - start) + (get_or edits i d).new_length) inside,
      ) refl

  pub back_next : made + ((get_or edits i d).offset - start) < x → made + ((get_or edits i d).offset - start) + (get_or edits i d).new_length ≤ x
      → back_from start made (drop i edits) x
      ≡ back_from (end_of (get_or edits i d)) (made + ((get_or edits i d).offset - start) + (get_or edits i d).new_length) (drop (i + 1) edits) x
  back_next high past =
      rw (
        from_here edits i d within,
        at_least x (made + ((get_or edits i d).offset - start)) high,
        not_below x (made + ((get_or edits i d).offset - start) + (get_or edits i d).new_length) past,
      ) refl

pub forward_last : (edits : List Edit) (start made i x : ℕ) → length edits ≤ i → forward_from start made (drop i edits) x ≡ made + (x - start)
forward_last edits start made i x past = rw (nothing_left edits i past) refl

pub back_last : (edits : List Edit) (start made i y : ℕ) → length edits ≤ i → back_from start made (drop i edits) y ≡ start + (y - made)
back_last edits start made i y past = rw (nothing_left edits i past) refl

-- one edit more

pub order_append : (start : ℕ) (edits : List Edit) (e : Edit) → AreInOrderFrom start edits → end_from start edits ≤ e.offset → 0 < e.old_length → 0 < e.new_length
    → AreInOrderFrom start (edits ++ e ∷ [])
order_append start [] e order last old new = (last, old, new, tt {0})
order_append start (x ∷ xs) e order last old new = (order.0, order.1, order.2, order_append (end_of x) xs e order.3 last old new)

pub order_more : (edits : List Edit) (e : Edit) → AreInOrderFrom 0 edits → overlaps edits e ≡ false → 0 < e.old_length → 0 < e.new_length
    → AreInOrderFrom 0 (edits ++ e ∷ [])
order_more edits e order apart old new = order_append 0 edits e order (behind (end_from 0 edits) (end_of e) apart) old new
  where
    behind : (last end : ℕ) → nat_lt e.offset last || nat_le far end ≡ false → last ≤ e.offset
    behind last end h = grind (arith, nat_tests)
