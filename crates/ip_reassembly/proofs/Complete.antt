-- When the parts of a group cover all its data.
use Rattle.std.proofs.Common.{◌≡◌, ℕ, ◌+◌, ◌<◌, ◌≤◌, Bool, true, false, ◌&&◌, ◌||◌, not, ◌⊎◌, List, [], ◌∷◌, refl, sym, ◌∙◌, ap, subst, arith}
use Rattle.std.specs.Prelude.{◌==◌, nat_le, if◌then◌else◌, Option, Some, None, IfSome, is_some}
use Rattle.std.specs.List.{list_all}
use Rattle.std.proofs.lemmas.Bool.Decides.{nat_tests}
use Rattle.std.proofs.lemmas.Bool.{and_parts, and_from, leb-true, eqb-true, eq-eqb, false_from_ne_true, false≢true}
use Rattle.ip_reassembly.specs.declared.piece.Part.{Part}
use Rattle.ip_reassembly.specs.declared.piece.Piece.{Piece}
use Rattle.ip_reassembly.specs.declared.gathering.Gathering.{Gathering}
use Rattle.ip_reassembly.specs.Part.{byte_at, covers, give_one_value}
use Rattle.ip_reassembly.specs.Group.{agree, end_of, fit_end, fits_end, is_complete, is_covered, parts_of}
use Rattle.ip_reassembly.specs.Datagram.{header_of}
use Rattle.ip_reassembly.specs.Internal.Filling.{AreInOrder, StandIn, filled_by}
use Rattle.ip_reassembly.specs.Internal.Gathering.{Gathers, IsSound, whole_test}
use Rattle.ip_reassembly.proofs.Same.{covers_from, either, equal_tests, range_all, range_all_at}
use Rattle.ip_reassembly.proofs.Order.{filled_within, none_below, stand_lower}
use Rattle.ip_reassembly.proofs.Fill.{passed_at, taken_at}

below_or_not : (x y : ℕ) → (x < y) ⊎ (y ≤ x)
below_or_not x y = grind arith

not_behind : (p : Part) (x : ℕ) → p.high ≤ x → covers p x ≡ false
not_behind p x h = grind (arith, nat_tests)

some_of : (o : Option ℕ) {v : ℕ} → o ≡ Some v → is_some o ≡ true
some_of o h = ap is_some h

-- as many places as there are: each is covered
pub covered_if_filled : (bytes : List ℕ) (size top from : ℕ) (parts : List Part) → AreInOrder from parts → StandIn size top parts → from + filled_by parts ≡ top
    → (x : ℕ) → from ≤ x → x < top → is_some (byte_at bytes parts x) ≡ true
covered_if_filled bytes size top from [] order stand filled x low high = absurd (omega (arith, filled, low, high))
covered_if_filled bytes size top from (p ∷ parts) (lower, some, rest) (high, there, others) filled x low below =
    let most = filled_within size top p.high parts rest others high in
    either (below_or_not x p.high)
    (λ h. some_of (byte_at bytes (p ∷ parts) x) (taken_at bytes p parts x (covers_from p x (omega (arith, lower, some, filled, most, low)) h)))
    (λ h. ap is_some (passed_at bytes p parts x (not_behind p x h))
    ∙ covered_if_filled bytes size top p.high parts rest others (omega (arith, lower, some, filled, most)) x h below)

-- each place is covered: they are as many
pub filled_if_covered : (bytes : List ℕ) (size top from : ℕ) (parts : List Part) → AreInOrder from parts → StandIn size top parts → from ≤ top
    → ((x : ℕ) → from ≤ x → x < top → is_some (byte_at bytes parts x) ≡ true) → from + filled_by parts ≡ top
filled_if_covered bytes size top from [] order stand low each = either (below_or_not from top)
    (λ h. never (each from (omega arith) h))
    (λ h. omega (arith, low, h))
  where
    never : false ≡ true → from + 0 ≡ top
    never h = cc
filled_if_covered bytes size top from (p ∷ parts) (lower, some, rest) (high, there, others) low each =
    either (below_or_not from p.low)
    (λ h. never (sym (ap is_some (none_below bytes p.low from (p ∷ parts) (omega arith, some, rest) h)) ∙ each from (omega arith) (omega (arith, h, some, high))))
    (λ h. let deep = filled_if_covered bytes size top p.high parts rest others high (λ x after below.
    sym (ap is_some (passed_at bytes p parts x (not_behind p x after))) ∙ each x (omega (arith, after, some, lower)) below) in
    omega (arith, deep, h, lower, some))
  where
    never : false ≡ true → from + filled_by (p ∷ parts) ≡ top
    never h = cc

-- ---- no piece begins the data: its first byte is not covered
pub no_header : (bytes : List ℕ) (group : List Piece) → header_of group ≡ None → byte_at bytes (parts_of group) 0 ≡ None
no_header bytes [] none = refl
no_header bytes (p ∷ group) none = one (λ gone. no_header bytes group gone) (p.part.low == 0) refl none
  where
    outside : (p : Part) → (p.low == 0) ≡ false → covers p 0 ≡ false
    outside p h = grind (arith, nat_tests)

    one : (header_of group ≡ None → byte_at bytes (parts_of group) 0 ≡ None) → (b : Bool) → b ≡ (p.part.low == 0) → (if b then Some p.header else header_of group) ≡ None → byte_at bytes (parts_of (p ∷ group)) 0 ≡ None
    one deeper true here gone = cc
    one deeper false here gone = passed_at bytes p.part (parts_of group) 0 (outside p.part (sym here)) ∙ deeper gone

-- ---- the test of the state
pub top_within : (top end : ℕ) (group : List Piece) → ((h : ℕ) → list_all (λ (p : Piece). nat_le p.part.high h) group ≡ nat_le top h) → list_all (fits_end end) group ≡ true → top ≤ end
top_within top end group tops fits = leb-true top end (sym (tops end) ∙ within group fits)
  where
    within : (group : List Piece) → list_all (fits_end end) group ≡ true → list_all (λ (p : Piece). nat_le p.part.high end) group ≡ true
    within [] h = refl
    within (p ∷ group) h =
        let both = and_parts (fits_end end p) (list_all (fits_end end) group) h in
        and_from (nat_le p.part.high end) (list_all (λ (p : Piece). nat_le p.part.high end) group)
        ((and_parts (nat_le p.part.high end) (not p.last || p.part.high == end) both.0).0) (within group both.1)

and_false : (b : Bool) → (b && false) ≡ false
and_false true = refl
and_false false = refl

module _ (bytes : List ℕ) (size : ℕ) (group : List Piece) (g : Gathering) (so : Gathers bytes group g) (sound : IsSound size g) where
  -- where the pieces agree, the state covers what the group does
  covered_is : (end : ℕ) → agree bytes group ≡ true → end_of group ≡ Some end → 0 < end → (end == g.filled) ≡ is_covered bytes group (Some end)
  covered_is end agrees ends some =
      let both = and_parts (give_one_value bytes (parts_of group)) (fit_end (end_of group) group) agrees in
      let within = top_within g.top end group so.top (subst (λ (o : Option ℕ). fit_end o group ≡ true) ends both.1) in
      let stand = stand_lower size g.top end g.parts.items within sound.stand in
      let same = so.values (so.agrees ∙ agrees) in
      equal_tests _ _
      (λ h. range_all (λ x. is_some (byte_at bytes (parts_of group) x)) 0 end (λ x low high.
      sym (ap is_some (same x)) ∙ covered_if_filled bytes size end 0 g.parts.items sound.order stand (omega (arith, eqb-true end g.filled h, sound.filled)) x low (omega (arith, high))))
      (λ h. eq-eqb end g.filled (omega (
        arith,
        sound.filled,
        filled_if_covered bytes size end 0 g.parts.items sound.order stand (omega arith) (λ x low high.
            ap is_some (same x) ∙ range_all_at (λ x. is_some (byte_at bytes (parts_of group) x)) 0 end x h low (omega (arith, high))),
      )))

  -- with no header nothing is complete
  uncovered : (end : ℕ) → 0 < end → header_of group ≡ None → is_covered bytes group (Some end) ≡ false
  uncovered end some none = false_from_ne_true (is_covered bytes group (Some end)) (λ h.
      false≢true (sym (ap is_some (no_header bytes group none)) ∙ range_all_at (λ x. is_some (byte_at bytes (parts_of group) x)) 0 end 0 h (omega arith) (omega (arith, some))))

  by_cases : (agrees : Bool) (header end : Option ℕ) → agrees ≡ agree bytes group → header ≡ header_of group → end ≡ end_of group → IfSome end (λ e. 0 < e)
      → whole_test agrees header end g.filled ≡ (agree bytes group && is_covered bytes group (end_of group))
  by_cases agrees None None is at ends some = sym ((λ i. agree bytes group && is_covered bytes group (sym ends i)) ∙ and_false (agree bytes group))
  by_cases agrees None (Some end) is at ends some = sym ((λ i. agree bytes group && (ap (is_covered bytes group) (sym ends) ∙ uncovered end some (sym at)) i) ∙ and_false (agree bytes group))
  by_cases agrees (Some header) None is at ends some = sym ((λ i. agree bytes group && is_covered bytes group (sym ends i)) ∙ and_false (agree bytes group))
  by_cases true (Some header) (Some end) is at ends some = covered_is end (sym is) (sym ends) some ∙ (λ i. is_covered bytes group (ends i)) ∙ (λ i. is i && is_covered bytes group (end_of group))
  by_cases false (Some header) (Some end) is at ends some = λ i. is i && is_covered bytes group (end_of group)

  pub whole_is : whole_test g.agrees g.header g.end g.filled ≡ is_complete bytes group
  unfolding is_complete
  whole_is = by_cases g.agrees g.header g.end so.agrees so.header so.end sound.end
