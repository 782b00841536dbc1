-- What parts have once the free places of one more are filled.
use Rattle.std.proofs.Common.{◌≡◌, ℕ, zero, suc, ◌+◌, ◌-◌, ◌<◌, ◌≤◌, Bool, true, false, ◌⊎◌, List, [], ◌∷◌, ◌++◌, take, drop, refl, sym, ◌∙◌, ap, subst, arith}
use Rattle.std.specs.Prelude.{nat_le, nat_lt, min, if◌then◌else◌, Option, Some, None}
use Rattle.std.specs.List.{list_all, insert}
use Rattle.std.proofs.lemmas.Bool.Decides.{nat_tests}
use Rattle.std.proofs.lemmas.Bool.{and_parts, leb-true, le-ltb, lt-ltb}
use Rattle.ip_reassembly.specs.declared.piece.Part.{Part}
use Rattle.ip_reassembly.specs.Part.{byte_at, covers, value}
use Rattle.ip_reassembly.specs.Internal.Filling.{AreInOrder, StandIn, before, behind, ends_by, fill, if_any}
use Rattle.ip_reassembly.proofs.Same.{either, holds_or_not, covers_from, up_to, less_or}
use Rattle.ip_reassembly.proofs.Order.{none_below}

-- ---- a part that is empty, or not
no_part : (part : Part) → part.high ≤ part.low → if_any part ≡ []
no_part part h = ap (λ (b : Bool). if b then part ∷ [] else []) (le-ltb part.low part.high h)

a_part : (part : Part) → part.low < part.high → if_any part ≡ part ∷ []
a_part part h = ap (λ (b : Bool). if b then part ∷ [] else []) (lt-ltb part.low part.high h)

empty_or_not : (part : Part) → (part.high ≤ part.low) ⊎ (part.low < part.high)
empty_or_not part = grind arith

-- ---- what is behind another
same_part : (part held : Part) → held.high ≤ part.low → behind part held ≡ part
same_part part held h = ap (λ (b : Bool). if b then record { low = held.high; high = part.high; start = part.start + (held.high - part.low) } else part) (le-ltb part.low held.high h)

later_part : (part held : Part) → part.low < held.high → behind part held ≡ record { low = held.high; high = part.high; start = part.start + (held.high - part.low) }
later_part part held h = ap (λ (b : Bool). if b then record { low = held.high; high = part.high; start = part.start + (held.high - part.low) } else part) (lt-ltb part.low held.high h)

-- it ends where the part does, and begins no earlier than the part and the other's end
behind_high : (part held : Part) → (behind part held).high ≡ part.high
behind_high part held = either (up_to held.high part.low) (λ h. ap (λ (p : Part). p.high) (same_part part held h)) (λ h. ap (λ (p : Part). p.high) (later_part part held h))

behind_low : (part held : Part) → (held.high ≤ (behind part held).low) × (part.low ≤ (behind part held).low)
behind_low part held = either (up_to held.high part.low)
    (λ h. let e = ap (λ (p : Part). p.low) (same_part part held h) in (omega (arith, e, h), omega (arith, e)))
    (λ h. let e = ap (λ (p : Part). p.low) (later_part part held h) in (omega (arith, e), omega (arith, e, h)))

-- ---- a part that is empty changes nothing
pub fill_nothing : (part : Part) (parts : List Part) → part.high ≤ part.low → fill part parts ≡ parts
fill_nothing part [] h = no_part part h
fill_nothing part (held ∷ parts) h =
    let low = behind_low part held in
    let high = behind_high part held in
    λ i. no_part (before part held) (omega (arith, h)) i ++ held ∷ fill_nothing (behind part held) parts (omega (arith, h, low.1, high)) i

-- parts that end before it are passed over
pub fill_skips : (part : Part) (from index : ℕ) (parts : List Part) → AreInOrder from parts → list_all (ends_by part.low) (take index parts) ≡ true
    → take index parts ++ fill part (drop index parts) ≡ fill part parts
fill_skips part from zero parts order ended = refl
fill_skips part from (suc index) [] order ended = refl
fill_skips part from (suc index) (held ∷ parts) (low, some, rest) ended =
    let both = and_parts (ends_by part.low held) (list_all (ends_by part.low) (take index parts)) ended in
    let h = leb-true held.high part.low both.0 in
    ap (λ (xs : List Part). held ∷ xs) (fill_skips part held.high index parts rest both.1)
    ∙ (λ i. sym (no_part (before part held) (omega (arith, h, some))) i ++ held ∷ fill (sym (same_part part held h) i) parts)

-- ---- order
pub fill_order : (from : ℕ) (part : Part) (parts : List Part) → AreInOrder from parts → from ≤ part.low → AreInOrder from (fill part parts)
fill_order from part [] order low =
    either (empty_or_not part)
    (λ h. subst (AreInOrder from) (sym (no_part part h)) order)
    (λ h. subst (AreInOrder from) (sym (a_part part h)) (low, h, order))
fill_order from part (held ∷ parts) (lower, some, rest) low =
    let deep = fill_order held.high (behind part held) parts rest ((behind_low part held).0) in
    either (empty_or_not (before part held))
    (λ h. subst (λ (xs : List Part). AreInOrder from (xs ++ held ∷ fill (behind part held) parts)) (sym (no_part (before part held) h)) (lower, some, deep))
    (λ h. subst (λ (xs : List Part). AreInOrder from (xs ++ held ∷ fill (behind part held) parts)) (sym (a_part (before part held) h))
    (low, h, (omega arith, some, deep)))

-- ---- where the bytes stand
pub fill_stands : (size top : ℕ) (part : Part) (parts : List Part) → StandIn size top parts → part.high ≤ top
    → (part.low < part.high → part.start + (part.high - part.low) ≤ size) → StandIn size top (fill part parts)
fill_stands size top part [] stand high bytes =
    either (empty_or_not part)
    (λ h. subst (StandIn size top) (sym (no_part part h)) stand)
    (λ h. subst (StandIn size top) (sym (a_part part h)) (high, bytes h, stand))
fill_stands size top part (held ∷ parts) (there, held_bytes, rest) high bytes =
    let deep = fill_stands size top (behind part held) parts rest (subst (λ (n : ℕ). n ≤ top) (sym (behind_high part held)) high) (behind_bytes part held bytes) in
    either (empty_or_not (before part held))
    (λ h. subst (λ (xs : List Part). StandIn size top (xs ++ held ∷ fill (behind part held) parts)) (sym (no_part (before part held) h)) (there, held_bytes, deep))
    (λ h. subst (λ (xs : List Part). StandIn size top (xs ++ held ∷ fill (behind part held) parts)) (sym (a_part (before part held) h))
    (omega (arith, high), before_bytes part held h bytes, (there, held_bytes, deep)))
  where
    before_bytes : (part held : Part) → part.low < min held.low part.high → (part.low < part.high → part.start + (part.high - part.low) ≤ size)
        → part.start + (min held.low part.high - part.low) ≤ size
    before_bytes part held h bytes = let all = bytes (omega (arith, h)) in omega (arith, h, all)

    behind_bytes : (part held : Part) → (part.low < part.high → part.start + (part.high - part.low) ≤ size)
        → (behind part held).low < (behind part held).high → (behind part held).start + ((behind part held).high - (behind part held).low) ≤ size
    behind_bytes part held bytes = either (up_to held.high part.low)
        (λ h. subst (λ (p : Part). p.low < p.high → p.start + (p.high - p.low) ≤ size) (sym (same_part part held h)) bytes)
        (λ h. subst (λ (p : Part). p.low < p.high → p.start + (p.high - p.low) ≤ size) (sym (later_part part held h))
        (λ some. let all = bytes (omega (arith, h, some)) in omega (arith, h, some, all)))

-- ---- bytes
pub taken_at : (bytes : List ℕ) (p : Part) (parts : List Part) (x : ℕ) → covers p x ≡ true → byte_at bytes (p ∷ parts) x ≡ Some (value bytes p x)
taken_at bytes p parts x h = ap (λ (b : Bool). if b then Some (value bytes p x) else byte_at bytes parts x) h

pub passed_at : (bytes : List ℕ) (p : Part) (parts : List Part) (x : ℕ) → covers p x ≡ false → byte_at bytes (p ∷ parts) x ≡ byte_at bytes parts x
passed_at bytes p parts x h = ap (λ (b : Bool). if b then Some (value bytes p x) else byte_at bytes parts x) h

covers_at : (p : Part) (x : ℕ) → covers p x ≡ true → (p.low ≤ x) × (x < p.high)
covers_at p x h = grind (arith, nat_tests)

covers_not : (p : Part) (x : ℕ) → covers p x ≡ false → (x < p.low) ⊎ (p.high ≤ x)
covers_not p x h = grind (arith, nat_tests)

not_below : (p : Part) (x : ℕ) → x < p.low → covers p x ≡ false
not_below p x h = grind (arith, nat_tests)

not_behind : (p : Part) (x : ℕ) → p.high ≤ x → covers p x ≡ false
not_behind p x h = grind (arith, nat_tests)

-- nothing covers a place of no byte
pub none_then : (bytes : List ℕ) (parts : List Part) (last : Part) (x : ℕ) → byte_at bytes parts x ≡ None → byte_at bytes (parts ++ last ∷ []) x ≡ byte_at bytes (last ∷ []) x
none_then bytes [] last x none = refl
none_then bytes (p ∷ parts) last x none = either (holds_or_not (covers p x))
    (λ h. absurd (Some (value bytes p x)) (byte_at bytes ((p ∷ parts) ++ last ∷ []) x ≡ byte_at bytes (last ∷ []) x) refl (sym (taken_at bytes p parts x h) ∙ none))
    (λ h. passed_at bytes p (parts ++ last ∷ []) x h ∙ none_then bytes parts last x (sym (passed_at bytes p parts x h) ∙ none))
  where
    absurd : (o : Option ℕ) (P : Type 0) {v : ℕ} → o ≡ Some v → o ≡ None → P
    absurd o P h k = cc

-- two parts that have one byte for a place, behind the same others
alike_behind : (bytes : List ℕ) (parts : List Part) (p q : Part) (x : ℕ) → byte_at bytes (p ∷ []) x ≡ byte_at bytes (q ∷ []) x
    → byte_at bytes (parts ++ p ∷ []) x ≡ byte_at bytes (parts ++ q ∷ []) x
alike_behind bytes [] p q x h = h
alike_behind bytes (r ∷ parts) p q x h = ap (λ (o : Option ℕ). if covers r x then Some (value bytes r x) else o) (alike_behind bytes parts p q x h)

-- outside the place before another and the other itself, a part is what is behind the other
behind_at : (bytes : List ℕ) (part held : Part) (x : ℕ) → covers (before part held) x ≡ false → covers held x ≡ false → held.low < held.high
    → byte_at bytes (behind part held ∷ []) x ≡ byte_at bytes (part ∷ []) x
behind_at bytes part held x not_before not_held some =
    either (up_to held.high part.low)
    (λ h. ap (λ (p : Part). byte_at bytes (p ∷ []) x) (same_part part held h))
    (λ h. ap (λ (p : Part). byte_at bytes (p ∷ []) x) (later_part part held h)
    ∙ either (covers_not held x not_held)
    (λ below. passed_at bytes later [] x (not_below later x (omega (arith, below, some)))
    ∙ sym (passed_at bytes part [] x (either (covers_not (before part held) x not_before)
    (λ under. not_below part x under)
    (λ over. not_behind part x (omega (arith, over, below))))))
    (λ above. either (up_to part.high x)
    (λ over. passed_at bytes later [] x (not_behind later x over) ∙ sym (passed_at bytes part [] x (not_behind part x over)))
    (λ under. taken_at bytes later [] x (covers_from later x above under)
    ∙ ap (λ (n : ℕ). Some (Rattle.std.specs.Prelude.slice_index bytes n)) (omega (arith, h, above))
    ∙ sym (taken_at bytes part [] x (covers_from part x (omega (arith, h, above)) under)))))
  where
    later : Part
    later = record { low = held.high; high = part.high; start = part.start + (held.high - part.low) }

-- the part, if any, before others
if_any_at : (bytes : List ℕ) (part : Part) (parts : List Part) (x : ℕ) → byte_at bytes (if_any part ++ parts) x ≡ byte_at bytes (part ∷ parts) x
if_any_at bytes part parts x = either (empty_or_not part)
    (λ h. ap (λ (xs : List Part). byte_at bytes (xs ++ parts) x) (no_part part h)
    ∙ sym (passed_at bytes part parts x (either (less_or x part.low) (λ k. not_below part x k) (λ k. not_behind part x (omega (arith, h, k))))))
    (λ h. ap (λ (xs : List Part). byte_at bytes (xs ++ parts) x) (a_part part h))

pub fill_bytes : (bytes : List ℕ) (from : ℕ) (part : Part) (parts : List Part) (x : ℕ) → AreInOrder from parts
    → byte_at bytes (fill part parts) x ≡ byte_at bytes (parts ++ part ∷ []) x
fill_bytes bytes from part [] x order = if_any_end bytes part x
  where
    if_any_end : (bytes : List ℕ) (part : Part) (x : ℕ) → byte_at bytes (if_any part) x ≡ byte_at bytes (part ∷ []) x
    if_any_end bytes part x = either (empty_or_not part)
        (λ h. ap (λ (xs : List Part). byte_at bytes xs x) (no_part part h)
        ∙ sym (passed_at bytes part [] x (either (less_or x part.low) (λ k. not_below part x k) (λ k. not_behind part x (omega (arith, h, k))))))
        (λ h. ap (λ (xs : List Part). byte_at bytes xs x) (a_part part h))
fill_bytes bytes from part (held ∷ parts) x (lower, some, rest) =
    if_any_at bytes (before part held) (held ∷ fill (behind part held) parts) x
    ∙ either (holds_or_not (covers (before part held) x))
    (λ h. let within = covers_at (before part held) x h in
    taken_at bytes (before part held) (held ∷ fill (behind part held) parts) x h
    ∙ sym (passed_at bytes held (parts ++ part ∷ []) x (not_below held x (omega (arith, within.1)))
    ∙ none_then bytes parts part x (none_below bytes held.high x parts rest (omega (arith, within.1, some)))
    ∙ taken_at bytes part [] x (covers_from part x within.0 (omega (arith, within.1)))))
    (λ h. passed_at bytes (before part held) (held ∷ fill (behind part held) parts) x h
    ∙ either (holds_or_not (covers held x))
    (λ k. taken_at bytes held (fill (behind part held) parts) x k ∙ sym (taken_at bytes held (parts ++ part ∷ []) x k))
    (λ k. passed_at bytes held (fill (behind part held) parts) x k
    ∙ fill_bytes bytes held.high (behind part held) parts x rest
    ∙ alike_behind bytes parts (behind part held) part x (behind_at bytes part held x h k some)
    ∙ sym (passed_at bytes held (parts ++ part ∷ []) x k)))
