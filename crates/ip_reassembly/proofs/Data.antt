-- The parts of a complete group, one after the other, are its data.
use Rattle.std.proofs.Common.{◌≡◌, ℕ, zero, suc, ◌+◌, ◌-◌, ◌<◌, ◌≤◌, Bool, true, false, List, [], ◌∷◌, ◌++◌, length, drop, refl, sym, ◌∙◌, ap, subst, arith}
use Rattle.std.specs.Prelude.{◌==◌, map, slice_index, Option, Some, None, IfSome, unwrap_or}
use Rattle.std.specs.List.{flat_map, range_with_len}
use Rattle.std.proofs.lemmas.Bool.Decides.{nat_tests}
use Rattle.std.proofs.lemmas.Bool.{and_parts, eqb-true}
use Rattle.std.proofs.lemmas.List.{ext_get_or, get_or-drop, get_or-take, map-append}
use Rattle.std.proofs.lemmas.Grind.{common_steps}
use Rattle.std.proofs.lemmas.List.FromFn.{length-map-range_with_len, get_or-map-range_with_len}
use Rattle.ip_reassembly.specs.declared.piece.Part.{Part}
use Rattle.ip_reassembly.specs.declared.piece.Piece.{Piece}
use Rattle.ip_reassembly.specs.declared.gathering.Gathering.{Gathering}
use Rattle.ip_reassembly.specs.Part.{byte_at, covers, give_one_value, value}
use Rattle.ip_reassembly.specs.Group.{end_of, fit_end, parts_of}
use Rattle.ip_reassembly.specs.Datagram.{data_bytes, data_end, datagram, header_bytes}
use Rattle.ip_reassembly.specs.Internal.Filling.{AreInOrder, StandIn, filled_by}
use Rattle.ip_reassembly.specs.Internal.Gathering.{Gathers, IsSound, part_bytes, whole_test}
use Rattle.ip_reassembly.proofs.Same.{covers_from}
use Rattle.ip_reassembly.proofs.Order.{filled_within, stand_lower}
use Rattle.ip_reassembly.proofs.Fill.{passed_at, taken_at}
use Rattle.ip_reassembly.proofs.Complete.{top_within}

range_split : (from a b : ℕ) → range_with_len from (a + b) ≡ range_with_len from a ++ range_with_len (from + a) b
range_split from zero b = λ i. range_with_len (at i) (none i)
  where
    at : from ≡ from + 0
    at = omega arith

    none : 0 + b ≡ b
    none = omega arith
range_split from (suc a) b = (λ i. range_with_len from (shift i)) ∙ ap (λ (xs : List ℕ). from ∷ xs) (range_split (from + 1) a b ∙ (λ i. range_with_len (from + 1) a ++ range_with_len (at i) b))
  where
    at : from + 1 + a ≡ from + suc a
    at = omega arith

    shift : suc a + b ≡ suc (a + b)
    shift = omega arith

range_same : (f g : ℕ → ℕ) (from count : ℕ) → ((x : ℕ) → from ≤ x → x < from + count → f x ≡ g x) → map f (range_with_len from count) ≡ map g (range_with_len from count)
range_same f g from zero same = refl
range_same f g from (suc count) same =
    λ i. same from (omega arith) (omega arith) i ∷ range_same f g (from + 1) count (λ x low high. same x (omega (arith, low)) (omega (arith, high))) i

not_behind : (p : Part) (x : ℕ) → p.high ≤ x → covers p x ≡ false
not_behind p x h = grind (arith, nat_tests)

-- the bytes of one part
one_part : (bytes : List ℕ) (p : Part) → p.low < p.high → p.start + (p.high - p.low) ≤ length bytes
    → part_bytes bytes p ≡ map (value bytes p) (range_with_len p.low (p.high - p.low))
one_part bytes p some there =
    ext_get_or 0 (part_bytes bytes p) (map (value bytes p) (range_with_len p.low (p.high - p.low))) (long ∙ sym (length-map-range_with_len (value bytes p) p.low (p.high - p.low)))
    (λ k below. let short : k < p.high - p.low = omega (arith, below, long) in
    get_or-take (p.high - p.low) (drop p.start bytes) k 0 short ∙ get_or-drop p.start bytes k 0
    ∙ (λ i. slice_index bytes (at k i))
    ∙ sym (get_or-map-range_with_len (value bytes p) p.low (p.high - p.low) k (p.low + k) 0 short refl))
  where
    at : (k : ℕ) → p.start + k ≡ p.start + ((p.low + k) - p.low)
    at k = omega arith

    long : length (part_bytes bytes p) ≡ p.high - p.low
    long = grind (arith, common_steps)

pub data_is : (bytes : List ℕ) (top from : ℕ) (parts : List Part) → AreInOrder from parts → StandIn (length bytes) top parts → from + filled_by parts ≡ top
    → flat_map (part_bytes bytes) parts ≡ map (λ x. unwrap_or (byte_at bytes parts x) 0) (range_with_len from (top - from))
data_is bytes top from [] order stand filled = λ i. map (λ x. unwrap_or (byte_at bytes [] x) 0) (range_with_len from (none i))
  where
    none : 0 ≡ top - from
    none = omega (arith, filled)
data_is bytes top from (p ∷ parts) (lower, some, rest) (high, there, others) filled =
    let most = filled_within (length bytes) top p.high parts rest others high in
    let here : p.low ≡ from = omega (arith, lower, some, filled, most) in
    let split : top - from ≡ (p.high - p.low) + (top - p.high) = omega (arith, here, some, high) in
    let next : from + (p.high - p.low) ≡ p.high = omega (arith, here, some) in
    let f : ℕ → ℕ = λ x. unwrap_or (byte_at bytes (p ∷ parts) x) 0 in
    (λ i. one_part bytes p some there i ++ data_is bytes top p.high parts rest others (omega (arith, filled, here, some)) i)
    ∙ (λ i. range_same (value bytes p) f p.low (p.high - p.low) (λ x low below. sym (λ j. unwrap_or (taken_at bytes p parts x (covers_from p x low (omega (arith, below, some))) j) 0)) i
    ++ range_same (λ x. unwrap_or (byte_at bytes parts x) 0) f p.high (top - p.high) (λ x low below. sym (λ j. unwrap_or (passed_at bytes p parts x (not_behind p x low) j) 0)) i)
    ∙ (λ i. map f (range_with_len (here i) (p.high - p.low)) ++ map f (range_with_len (sym next i) (top - p.high)))
    ∙ sym (map-append f (range_with_len from (p.high - p.low)) (range_with_len (from + (p.high - p.low)) (top - p.high)))
    ∙ ap (map f) (sym (range_split from (p.high - p.low) (top - p.high)) ∙ (λ i. range_with_len from (sym split i)))

-- what a complete state has
pub record Whole (g : Gathering) : Type 0 where
  pub agrees : g.agrees ≡ true
  pub end : g.end ≡ Some g.filled

pub whole_has : (agrees : Bool) (header end : Option ℕ) (filled : ℕ) → whole_test agrees header end filled ≡ true → (agrees ≡ true) × (end ≡ Some filled)
whole_has agrees None end filled whole = cc
whole_has agrees (Some at) None filled whole = cc
whole_has agrees (Some at) (Some end) filled whole =
    let both = and_parts agrees (end == filled) whole in (both.0, λ i. Some (eqb-true end filled both.1 i))

pub whole_header : (agrees : Bool) (header end : Option ℕ) (filled size : ℕ) → whole_test agrees header end filled ≡ true → IfSome header (λ at. at + 20 ≤ size)
    → unwrap_or header 0 + 20 ≤ size
whole_header agrees None end filled size whole stands = cc
whole_header agrees (Some at) end filled size whole stands = stands

pub datagram_is : (bytes : List ℕ) (group : List Piece) (g : Gathering) → Gathers bytes group g → IsSound (length bytes) g → whole_test g.agrees g.header g.end g.filled ≡ true
    → header_bytes bytes (unwrap_or g.header 0) (20 + g.filled) ++ flat_map (part_bytes bytes) g.parts.items ≡ datagram bytes group
unfolding datagram
datagram_is bytes group g so sound whole =
    let has = whole_has g.agrees g.header g.end g.filled whole in
    let ends : end_of group ≡ Some g.filled = sym so.end ∙ has.1 in
    let both = and_parts (give_one_value bytes (parts_of group)) (fit_end (end_of group) group) (sym so.agrees ∙ has.0) in
    let within = top_within g.top g.filled group so.top (subst (λ (o : Option ℕ). fit_end o group ≡ true) ends both.1) in
    let stand = stand_lower (length bytes) g.top g.filled g.parts.items within sound.stand in
    let long : g.filled ≡ data_end group = λ i. unwrap_or (sym ends i) 0 in
    let minus : g.filled - 0 ≡ g.filled = omega arith in
    (λ i. header_bytes bytes (unwrap_or (so.header i) 0) (20 + long i)
    ++ (data_is bytes g.filled 0 g.parts.items sound.order stand (omega (arith, sound.filled))
    ∙ (λ j. map (λ x. unwrap_or (byte_at bytes g.parts.items x) 0) (range_with_len 0 (minus j)))
    ∙ range_same (λ x. unwrap_or (byte_at bytes g.parts.items x) 0) (λ x. unwrap_or (byte_at bytes (parts_of group) x) 0) 0 g.filled (λ x low high. λ j. unwrap_or (so.values (has.0) x j) 0)
    ∙ (λ j. data_bytes bytes group (long j))) i)

pub length_is : (bytes : List ℕ) (group : List Piece) (g : Gathering) → Gathers bytes group g → whole_test g.agrees g.header g.end g.filled ≡ true → g.filled ≡ data_end group
length_is bytes group g so whole = λ i. unwrap_or ((sym ((whole_has g.agrees g.header g.end g.filled whole).1) ∙ so.end) i) 0
