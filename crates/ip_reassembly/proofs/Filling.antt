-- Filling free places one after the other, as the code does it.
use Rattle.std.proofs.Common.{◌≡◌, ℕ, ◌+◌, ◌-◌, ◌<◌, ◌≤◌, Bool, true, List, [], ◌∷◌, ◌++◌, length, take, drop, get_or, refl, sym, ◌∙◌, ap, subst, arith, length-append}
use Rattle.std.specs.Prelude.{min, if◌then◌else◌}
use Rattle.std.specs.List.{list_all, insert}
use Rattle.std.proofs.lemmas.Bool.{le-ltb, lt-ltb}
use Rattle.std.proofs.lemmas.Grind.{common_steps}
use Rattle.std.proofs.lemmas.List.{take_at, drop_at, append_assoc, take-append-drop}
use Rattle.ip_reassembly.specs.declared.piece.Part.{Part}
use Rattle.ip_reassembly.specs.Internal.Filling.{AreInOrder, before, behind, ends_by, fill, filled_by, if_any}
use Rattle.ip_reassembly.proofs.Same.{either, up_to}
use Rattle.ip_reassembly.proofs.Order.{order_drop, order_earlier}
use Rattle.ip_reassembly.proofs.Fill.{fill_nothing, fill_skips}

filled_append : (parts others : List Part) → filled_by (parts ++ others) ≡ filled_by parts + filled_by others
filled_append [] others = omega arith
filled_append (p ∷ parts) others = omega (arith, filled_append parts others)

-- the parts before the index are as they will be, and `rest` is still to be put among the others
pub record IsFilling (old : List Part) (part : Part) (parts : List Part) (index : ℕ) (rest : Part) (count : ℕ) : Type 0 where
  pub front : List Part
  pub back : List Part
  pub whole : parts ≡ front ++ back
  pub place : length front ≡ index
  pub same : front ++ fill rest back ≡ fill part old
  pub filled : filled_by parts ≡ filled_by old + count
  pub order : AreInOrder 0 back
  pub low : part.low ≤ rest.low
  pub high : rest.high ≡ part.high
  pub start : rest.start ≡ part.start + (rest.low - part.low)
  pub few : count + part.low ≤ rest.low
  pub most : count ≤ part.high - part.low

pub filling_first : (old : List Part) (part : Part) (index : ℕ) → AreInOrder 0 old → index ≤ length old
    → list_all (ends_by part.low) (take index old) ≡ true → part.low ≤ part.high → IsFilling old part old index part 0
filling_first old part index order within ended proper = record {
  front = take index old;
  back = drop index old;
  whole = sym (take-append-drop index old);
  place = taken index old within;
  same = fill_skips part 0 index old order ended;
  filled = omega arith;
  order = order_drop 0 index old order;
  low = omega arith;
  high = refl;
  start = omega arith;
  few = omega arith;
  most = omega arith;
}
  where
    taken : (index : ℕ) (old : List Part) → index ≤ length old → length (take index old) ≡ index
    taken index old within = grind (arith, common_steps)

-- what is behind the index, where something is
record Next (front back parts : List Part) (index : ℕ) (held : Part) : Type 0 where
  rest : List Part
  is : back ≡ held ∷ rest

next_of : (front back parts : List Part) (index : ℕ) (held : Part) → parts ≡ front ++ back → length front ≡ index → index < length parts
    → held ≡ get_or parts index held → Next front back parts index held
next_of front [] parts index held whole place within read =
    let long : length parts ≡ length front = ap length whole ∙ length-append front [] ∙ omega arith in absurd (omega (arith, long, place, within))
next_of front (p ∷ back) parts index held whole place within read =
    let here : held ≡ p = read ∙ (λ i. get_or (whole i) (sym place i) held) ∙ first_behind front (p ∷ back) held in
    record { rest = back; is = λ i. sym here i ∷ back }
  where
    first_behind : (front back : List Part) (d : Part) → get_or (front ++ back) (length front) d ≡ get_or back 0 d
    first_behind [] back d = refl
    first_behind (q ∷ front) back d = first_behind front back d

no_part : (part : Part) → part.high ≤ part.low → if_any part ≡ []
no_part part h = ap (λ (b : Bool). if b then part ∷ [] else []) (le-ltb part.low part.high h)

a_part : (part : Part) → part.low < part.high → if_any part ≡ part ∷ []
a_part part h = ap (λ (b : Bool). if b then part ∷ [] else []) (lt-ltb part.low part.high h)

-- what is left behind another part
record Left (part rest held next : Part) : Type 0 where
  low : part.low ≤ next.low
  high : next.high ≡ part.high
  start : next.start ≡ part.start + (next.low - part.low)
  behind : held.high ≤ next.low
  forward : rest.low ≤ next.low

left_of : (part rest held next : Part) → part.low ≤ rest.low → rest.high ≡ part.high → rest.start ≡ part.start + (rest.low - part.low)
    → next ≡ behind rest held → Left part rest held next
left_of part rest held next low high start is = either (up_to held.high rest.low)
    (λ h. subst (Left part rest held) (sym (is ∙ same h)) (record { low = low; high = high; start = start; behind = h; forward = omega arith }))
    (λ h. subst (Left part rest held) (sym (is ∙ later h)) (record { low = omega (arith, low, h); high = high; start = omega (arith, start, low, h); behind = omega arith; forward = omega (arith, h) }))
  where
    same : held.high ≤ rest.low → behind rest held ≡ rest
    same h = ap (λ (b : Bool). if b then record { low = held.high; high = rest.high; start = rest.start + (held.high - rest.low) } else rest) (le-ltb rest.low held.high h)

    later : rest.low < held.high → behind rest held ≡ record { low = held.high; high = rest.high; start = rest.start + (held.high - rest.low) }
    later h = ap (λ (b : Bool). if b then record { low = held.high; high = rest.high; start = rest.start + (held.high - rest.low) } else rest) (lt-ltb rest.low held.high h)

-- nothing is free before the next part
pub filling_on : (old : List Part) (part : Part) (parts : List Part) (index : ℕ) (rest : Part) (count : ℕ) (held next : Part)
    → IsFilling old part parts index rest count → index < length parts → held ≡ get_or parts index held → min held.low rest.high ≤ rest.low
    → next ≡ behind rest held → IsFilling old part parts (index + 1) next count
filling_on old part parts index rest count held next so within read none is =
    let found = next_of so.front so.back parts index held so.whole so.place within read in
    let left = left_of part rest held next so.low so.high so.start is in
    let order : AreInOrder 0 (held ∷ found.rest) = subst (AreInOrder 0) found.is so.order in
    record {
      front = so.front ++ held ∷ [];
      back = found.rest;
      whole = so.whole ∙ (λ i. so.front ++ found.is i) ∙ sym (append_assoc so.front (held ∷ []) found.rest);
      place = length-append so.front (held ∷ []) ∙ omega (arith, so.place);
      same = append_assoc so.front (held ∷ []) (fill next found.rest)
          ∙ (λ i. so.front ++ (sym (no_part (before rest held) none) i ++ held ∷ fill (is i) found.rest))
          ∙ (λ i. so.front ++ fill rest (sym found.is i))
          ∙ so.same;
      filled = so.filled;
      order = order_earlier held.high 0 found.rest (omega arith) order.2;
      low = left.low;
      high = left.high;
      start = left.start;
      few = omega (arith, so.few, left.forward);
      most = so.most;
    }

-- a gap before the next part is filled
pub filling_gap : (old : List Part) (part : Part) (parts new : List Part) (index : ℕ) (rest : Part) (count : ℕ) (held gap next : Part) (end : ℕ)
    → IsFilling old part parts index rest count → index < length parts → held ≡ get_or parts index held → end ≡ min held.low rest.high → rest.low < end
    → gap ≡ record rest { high = end } → new ≡ insert parts index gap → next ≡ behind rest held
    → IsFilling old part new (index + 1 + 1) next (count + (end - rest.low))
filling_gap old part parts new index rest count held gap next end so within read ends some gap_is longer is =
    let found = next_of so.front so.back parts index held so.whole so.place within read in
    let left = left_of part rest held next so.low so.high so.start is in
    let order : AreInOrder 0 (held ∷ found.rest) = subst (AreInOrder 0) found.is so.order in
    let whole : parts ≡ so.front ++ held ∷ found.rest = so.whole ∙ (λ i. so.front ++ found.is i) in
    let gap_before : gap ≡ before rest held = gap_is ∙ (λ i. record rest { high = ends i }) in
    let gap_some : (before rest held).low < (before rest held).high = omega (arith, ends, some) in
    let now : new ≡ so.front ++ gap ∷ held ∷ found.rest = longer ∙ (λ i. insert (whole i) (sym so.place i) gap) ∙ put_behind so.front (held ∷ found.rest) gap in
    record {
      front = so.front ++ gap ∷ held ∷ [];
      back = found.rest;
      whole = now ∙ sym (append_assoc so.front (gap ∷ held ∷ []) found.rest);
      place = length-append so.front (gap ∷ held ∷ []) ∙ omega (arith, so.place);
      same = append_assoc so.front (gap ∷ held ∷ []) (fill next found.rest)
          ∙ (λ i. so.front ++ (gap_before i ∷ held ∷ fill (is i) found.rest))
          ∙ (λ i. so.front ++ (sym (a_part (before rest held) gap_some) i ++ held ∷ fill (behind rest held) found.rest))
          ∙ (λ i. so.front ++ fill rest (sym found.is i))
          ∙ so.same;
      filled =
          let parts_are : filled_by parts ≡ filled_by so.front + filled_by (held ∷ found.rest) = ap filled_by whole ∙ filled_append so.front (held ∷ found.rest) in
          let new_are : filled_by new ≡ filled_by so.front + filled_by (gap ∷ held ∷ found.rest) = ap filled_by now ∙ filled_append so.front (gap ∷ held ∷ found.rest) in
          let size : gap.high - gap.low ≡ end - rest.low = λ i. (gap_is i).high - (gap_is i).low in
          omega (arith, so.filled, parts_are, new_are, size);
      order = order_earlier held.high 0 found.rest (omega arith) order.2;
      low = left.low;
      high = left.high;
      start = left.start;
      few = omega (arith, so.few, left.behind, ends, order.1, some);
      most = omega (arith, so.few, so.most, so.high, ends, some);
    }
  where
    put_behind : (front back : List Part) (g : Part) → insert (front ++ back) (length front) g ≡ front ++ g ∷ back
    put_behind front back g = λ i. take_at front back (length front) refl i ++ g ∷ drop_at front back (length front) refl i

-- nothing is left of the part
pub filling_over : (old : List Part) (part : Part) (parts : List Part) (index : ℕ) (rest : Part) (count : ℕ)
    → IsFilling old part parts index rest count → rest.high ≤ rest.low → parts ≡ fill part old
filling_over old part parts index rest count so none = so.whole ∙ (λ i. so.front ++ sym (fill_nothing rest so.back none) i) ∙ so.same

-- what is left stands behind all others
pub filling_last : (old : List Part) (part : Part) (parts new : List Part) (index : ℕ) (rest : Part) (count : ℕ)
    → IsFilling old part parts index rest count → length parts ≤ index → rest.low < rest.high → new ≡ insert parts index rest
    → (new ≡ fill part old) × (filled_by new ≡ filled_by old + (count + (rest.high - rest.low))) × (count + (rest.high - rest.low) ≤ part.high - part.low)
filling_last old part parts new index rest count so over some longer =
    let long : length parts ≡ length so.front + length so.back = ap length so.whole ∙ length-append so.front so.back in
    let nothing : so.back ≡ [] = none_of so.back (omega (arith, long, over, so.place)) in
    let whole : parts ≡ so.front = so.whole ∙ (λ i. so.front ++ nothing i) ∙ append_nothing so.front in
    let now : new ≡ so.front ++ rest ∷ [] = longer ∙ (λ i. insert (whole i) (sym so.place i) rest) ∙ put_last so.front rest in (
      now ∙ (λ i. so.front ++ sym (a_part rest some) i) ∙ (λ i. so.front ++ fill rest (sym nothing i)) ∙ so.same,
      (let parts_are = ap filled_by whole in
          let new_are : filled_by new ≡ filled_by so.front + filled_by (rest ∷ []) = ap filled_by now ∙ filled_append so.front (rest ∷ []) in
          omega (arith, so.filled, parts_are, new_are)),
      omega (arith, so.few, so.high, some),
    )
  where
    none_of : (back : List Part) → length back ≡ 0 → back ≡ []
    none_of [] h = refl
    none_of (p ∷ back) h = absurd (omega (arith, h))

    append_nothing : (xs : List Part) → xs ++ [] ≡ xs
    append_nothing [] = refl
    append_nothing (x ∷ xs) = ap (λ (ys : List Part). x ∷ ys) (append_nothing xs)

    put_last : (front : List Part) (g : Part) → insert front (length front) g ≡ front ++ g ∷ []
    put_last front g = (λ i. insert (sym (append_nothing front) i) (length front) g) ∙ (λ i. take_at front [] (length front) refl i ++ g ∷ drop_at front [] (length front) refl i)
