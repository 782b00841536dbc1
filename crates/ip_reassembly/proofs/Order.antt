-- Parts that stand in order.
use Rattle.std.proofs.Common.{◌≡◌, ℕ, zero, suc, ◌+◌, ◌-◌, ◌<◌, ◌≤◌, Bool, true, false, ◌&&◌, List, [], ◌∷◌, length, take, drop, get_or, refl, sym, ◌∙◌, ap, arith}
use Rattle.std.specs.Prelude.{if◌then◌else◌, Option, Some, None}
use Rattle.std.specs.List.{list_all}
use Rattle.std.proofs.lemmas.Bool.Decides.{nat_tests}
use Rattle.std.proofs.lemmas.Grind.{common_steps}
use Rattle.std.proofs.lemmas.Bool.{and_parts, and_from, leb-true, le-leb}
use Rattle.std.proofs.lemmas.List.{drop_more}
use Rattle.ip_reassembly.specs.declared.piece.Part.{Part}
use Rattle.ip_reassembly.specs.Part.{byte_at, covers, give_one_value, same_bytes, value}
use Rattle.ip_reassembly.specs.Internal.Filling.{AreInOrder, StandIn, ends_by, filled_by}
use Rattle.ip_reassembly.proofs.Same.{apart, apart_behind}

pub order_earlier : (from earlier : ℕ) (parts : List Part) → earlier ≤ from → AreInOrder from parts → AreInOrder earlier parts
order_earlier from earlier [] h order = order
order_earlier from earlier (p ∷ parts) h (low, some, rest) = (omega (arith, h, low), some, rest)

pub order_drop : (from index : ℕ) (parts : List Part) → AreInOrder from parts → AreInOrder 0 (drop index parts)
order_drop from zero parts order = order_earlier from 0 parts (omega arith) order
order_drop from (suc index) [] order = order
order_drop from (suc index) (p ∷ parts) (low, some, rest) = order_drop p.high index parts rest

-- no part reaches below the place from which they are in order
pub none_below : (bytes : List ℕ) (from x : ℕ) (parts : List Part) → AreInOrder from parts → x < from → byte_at bytes parts x ≡ None
none_below bytes from x [] order below = refl
none_below bytes from x (p ∷ parts) (low, some, rest) below =
    skipped (covers p x) (value bytes p x) (byte_at bytes parts x) (outside p x (omega (arith, low, below)))
    (none_below bytes p.high x parts rest (omega (arith, low, some, below)))
  where
    outside : (p : Part) (x : ℕ) → x < p.low → covers p x ≡ false
    outside p x h = grind (arith, nat_tests)

    skipped : (test : Bool) (w : ℕ) (rest : Option ℕ) → test ≡ false → rest ≡ None → (if test then Some w else rest) ≡ None
    skipped true w rest holds h = cc
    skipped false w rest holds h = h

-- a part before all of them has no place in common with any
pub all_behind : (bytes : List ℕ) (r : Part) (from : ℕ) (parts : List Part) → AreInOrder from parts → r.high ≤ from → list_all (same_bytes bytes r) parts ≡ true
all_behind bytes r from [] order h = refl
all_behind bytes r from (p ∷ parts) (low, some, rest) h =
    and_from (same_bytes bytes r p) (list_all (same_bytes bytes r) parts) (apart_behind bytes r p (omega (arith, low, h)))
    (all_behind bytes r p.high parts rest (omega (arith, low, some, h)))

-- parts in order have one value for each place
pub order_agrees : (bytes : List ℕ) (from : ℕ) (parts : List Part) → AreInOrder from parts → give_one_value bytes parts ≡ true
order_agrees bytes from [] order = refl
order_agrees bytes from (p ∷ parts) (low, some, rest) =
    and_from (list_all (same_bytes bytes p) parts) (give_one_value bytes parts) (all_behind bytes p p.high parts rest (omega arith)) (order_agrees bytes p.high parts rest)

-- those that end before it have none either
pub skip_ended : (bytes : List ℕ) (r : Part) (index : ℕ) (parts : List Part) → list_all (ends_by r.low) (take index parts) ≡ true
    → list_all (same_bytes bytes r) parts ≡ list_all (same_bytes bytes r) (drop index parts)
skip_ended bytes r zero parts ended = refl
skip_ended bytes r (suc index) [] ended = refl
skip_ended bytes r (suc index) (p ∷ parts) ended =
    let both = and_parts (ends_by r.low p) (list_all (ends_by r.low) (take index parts)) ended in
    first (same_bytes bytes r p) (list_all (same_bytes bytes r) parts) (apart bytes r p (leb-true p.high r.low both.0))
    ∙ skip_ended bytes r index parts both.1
  where
    first : (test others : Bool) → test ≡ true → (test && others) ≡ others
    first true others h = refl
    first false others h = cc

-- the part at an index begins no earlier than all are in order
pub low_at : (from index : ℕ) (parts : List Part) (d : Part) → AreInOrder from parts → index < length parts
    → (from ≤ (get_or parts index d).low) × ((get_or parts index d).low < (get_or parts index d).high)
low_at from index [] d order within = omega (arith, within)
low_at from zero (p ∷ parts) d (low, some, rest) within = (low, some)
low_at from (suc index) (p ∷ parts) d (low, some, rest) within =
    let later = low_at p.high index parts d rest (omega (arith, within)) in
    (omega (arith, low, some, later.0), later.1)

-- a part that ends by a place, and all before it
pub ended_before : (place from index next : ℕ) (parts : List Part) (d : Part) → AreInOrder from parts → index < length parts
    → (get_or parts index d).high ≤ place → next ≡ index + 1 → list_all (ends_by place) (take next parts) ≡ true
ended_before place from index next [] d order within h one = absurd (omega (arith, within))
ended_before place from zero zero (p ∷ parts) d (low, some, rest) within h one = absurd (omega (arith, one))
ended_before place from zero (suc zero) (p ∷ parts) d (low, some, rest) within h one = and_from (ends_by place p) true (le-leb p.high place h) refl
ended_before place from zero (suc (suc next)) (p ∷ parts) d (low, some, rest) within h one = absurd (omega (arith, one))
ended_before place from (suc index) zero (p ∷ parts) d (low, some, rest) within h one = absurd (omega (arith, one))
ended_before place from (suc index) (suc next) (p ∷ parts) d (low, some, rest) within h one =
    let later = low_at p.high index parts d rest (omega (arith, within)) in
    and_from (ends_by place p) (list_all (ends_by place) (take next parts))
    (le-leb p.high place (omega (arith, later.0, later.1, h)))
    (ended_before place p.high index next parts d rest (omega (arith, within)) h (omega (arith, one)))

-- comparing one after the other
pub record HasCompared (bytes : List ℕ) (r : Part) (parts : List Part) (index : ℕ) : Type 0 where
  pub within : index ≤ length parts
  pub same : list_all (same_bytes bytes r) parts ≡ list_all (same_bytes bytes r) (drop index parts)

pub compared_first : (bytes : List ℕ) (r : Part) (parts : List Part) (index : ℕ) → index ≤ length parts
    → list_all (ends_by r.low) (take index parts) ≡ true → HasCompared bytes r parts index
compared_first bytes r parts index within ended = record { within = within; same = skip_ended bytes r index parts ended }

one_more : (bytes : List ℕ) (r : Part) (parts : List Part) (index : ℕ) (d : Part) → index < length parts
    → list_all (same_bytes bytes r) (drop index parts) ≡ (same_bytes bytes r (get_or parts index d) && list_all (same_bytes bytes r) (drop (index + 1) parts))
one_more bytes r parts index d within = ap (list_all (same_bytes bytes r)) (drop_more parts index d within)

pub compared_next : (bytes : List ℕ) (r : Part) (parts : List Part) (index : ℕ) (d : Part) → HasCompared bytes r parts index → index < length parts
    → same_bytes bytes r (get_or parts index d) ≡ true → HasCompared bytes r parts (index + 1)
compared_next bytes r parts index d so within same = record {
  within = omega (arith, within);
  same = so.same ∙ one_more bytes r parts index d within ∙ ap (λ (b : Bool). b && list_all (same_bytes bytes r) (drop (index + 1) parts)) same;
}

pub compared_differs : (bytes : List ℕ) (r : Part) (parts : List Part) (index : ℕ) (d : Part) → HasCompared bytes r parts index → index < length parts
    → same_bytes bytes r (get_or parts index d) ≡ false → false ≡ list_all (same_bytes bytes r) parts
compared_differs bytes r parts index d so within differs =
    sym (so.same ∙ one_more bytes r parts index d within ∙ ap (λ (b : Bool). b && list_all (same_bytes bytes r) (drop (index + 1) parts)) differs)

order_at : (from index : ℕ) (parts : List Part) (d : Part) → AreInOrder from parts → index < length parts
    → AreInOrder (get_or parts index d).low (drop index parts)
order_at from index [] d order within = absurd (omega (arith, within))
order_at from zero (p ∷ parts) d (low, some, rest) within = (omega arith, some, rest)
order_at from (suc index) (p ∷ parts) d (low, some, rest) within = order_at p.high index parts d rest (omega (arith, within))

pub compared_behind : (bytes : List ℕ) (r : Part) (parts : List Part) (index : ℕ) (d : Part) → HasCompared bytes r parts index → index < length parts
    → AreInOrder 0 parts → r.high ≤ (get_or parts index d).low → true ≡ list_all (same_bytes bytes r) parts
compared_behind bytes r parts index d so within order h =
    sym (so.same ∙ all_behind bytes r ((get_or parts index d).low) (drop index parts) (order_at 0 index parts d order within) h)

pub compared_all : (bytes : List ℕ) (r : Part) (parts : List Part) (index : ℕ) → HasCompared bytes r parts index → length parts ≤ index
    → true ≡ list_all (same_bytes bytes r) parts
compared_all bytes r parts index so over = sym (so.same ∙ ap (list_all (same_bytes bytes r)) (nothing parts index over))
  where
    nothing : (parts : List Part) (index : ℕ) → length parts ≤ index → drop index parts ≡ []
    nothing parts index over = grind (arith, common_steps)

-- the bytes of the part at an index
pub stands_at : (size top index : ℕ) (parts : List Part) (d : Part) → StandIn size top parts → index < length parts
    → ((get_or parts index d).high ≤ top) × ((get_or parts index d).start + ((get_or parts index d).high - (get_or parts index d).low) ≤ size)
stands_at size top index [] d stand within = omega (arith, within)
stands_at size top zero (p ∷ parts) d (high, bytes, rest) within = (high, bytes)
stands_at size top (suc index) (p ∷ parts) d (high, bytes, rest) within = stands_at size top index parts d rest (omega (arith, within))

pub stand_lower : (size top higher : ℕ) (parts : List Part) → top ≤ higher → StandIn size top parts → StandIn size higher parts
stand_lower size top higher [] h stand = stand
stand_lower size top higher (p ∷ parts) h (high, bytes, rest) = (omega (arith, high, h), bytes, stand_lower size top higher parts h rest)

-- they cover no more places than there are
pub filled_within : (size top from : ℕ) (parts : List Part) → AreInOrder from parts → StandIn size top parts → from ≤ top → from + filled_by parts ≤ top
filled_within size top from [] order stand h = omega (arith, h)
filled_within size top from (p ∷ parts) (low, some, rest) (high, bytes, others) h =
    omega (arith, low, some, high, filled_within size top p.high parts rest others high)
