-- Groups, piece by piece.
use Rattle.std.proofs.Common.{◌≡◌, ℕ, zero, suc, ◌≤◌, Bool, true, false, ◌||◌, not, List, [], ◌∷◌, refl, sym, ◌∙◌, ap, subst, arith}
use Rattle.std.specs.Prelude.{◌==◌, nat_le, if◌then◌else◌, Option, Some, None, is_some, slice_get}
use Rattle.std.specs.List.{list_all}
use Rattle.std.proofs.lemmas.Bool.{and_parts, and_from, leb-true, le-leb, eqb-true, eq-eqb}
use Rattle.ip_reassembly.specs.declared.piece.Piece.{Piece}
use Rattle.ip_reassembly.specs.Part.{byte_at, covers, give_one_value, same_bytes, value}
use Rattle.ip_reassembly.specs.Group.{agree, end_of, fit_end, fits_end, is_complete, is_covered, parts_of}
use Rattle.ip_reassembly.specs.Laws.{CompleteGroupsAreWhole, IsWhole, PiecesAgreeByTwo}
use Rattle.ip_reassembly.proofs.Same.{HasSame, either, holds_or_not, is_same, range_all, range_all_at, same_is}
use Rattle.ip_reassembly.proofs.Fill.{passed_at, taken_at}

some_is : {X : Type 0} (x y : X) → Some x ≡ Some y → x ≡ y
some_is x y h = cc

-- ---- a test of all pieces, and of each
all_at : {X : Type 0} (test : X → Bool) (xs : List X) (i : ℕ) (x : X) → list_all test xs ≡ true → slice_get xs i ≡ Some x → test x ≡ true
all_at test [] i x all at = cc
all_at test (y ∷ xs) zero x all at = ap test (sym (some_is y x at)) ∙ (and_parts (test y) (list_all test xs) all).0
all_at test (y ∷ xs) (suc i) x all at = all_at test xs i x ((and_parts (test y) (list_all test xs) all).1) at

each_at : {X : Type 0} (test : X → Bool) (xs : List X) → ((i : ℕ) (x : X) → slice_get xs i ≡ Some x → test x ≡ true) → list_all test xs ≡ true
each_at test [] each = refl
each_at test (y ∷ xs) each = and_from (test y) (list_all test xs) (each zero y refl) (each_at test xs (λ i x at. each (suc i) x at))

part_at : (group : List Piece) (i : ℕ) (p : Piece) → slice_get group i ≡ Some p → slice_get (parts_of group) i ≡ Some p.part
part_at [] i p at = cc
part_at (q ∷ group) zero p at = ap (λ (r : Piece). Some r.part) (some_is q p at)
part_at (q ∷ group) (suc i) p at = part_at group i p at

-- ---- bytes
two_values : (bytes : List ℕ) (group : List Piece) → give_one_value bytes (parts_of group) ≡ true
    → (i j : ℕ) (p q : Piece) → slice_get group i ≡ Some p → slice_get group j ≡ Some q → HasSame bytes p.part q.part
two_values bytes [] one i j p q here there x in_p in_q = cc
two_values bytes (r ∷ group) one zero zero p q here there x in_p in_q =
    λ i. value bytes ((sym (some_is r p here) ∙ some_is r q there) i).part x
two_values bytes (r ∷ group) one zero (suc j) p q here there x in_p in_q =
    let is = some_is r p here in
    let same = all_at (same_bytes bytes r.part) (parts_of group) j q.part ((and_parts (list_all (same_bytes bytes r.part) (parts_of group)) (give_one_value bytes (parts_of group)) one).0) (part_at group j q there) in
    same_is bytes p.part q.part (subst (λ (s : Piece). same_bytes bytes s.part q.part ≡ true) is same) x in_p in_q
two_values bytes (r ∷ group) one (suc i) zero p q here there x in_p in_q =
    let is = some_is r q there in
    let same = all_at (same_bytes bytes r.part) (parts_of group) i p.part ((and_parts (list_all (same_bytes bytes r.part) (parts_of group)) (give_one_value bytes (parts_of group)) one).0) (part_at group i p here) in
    sym (same_is bytes q.part p.part (subst (λ (s : Piece). same_bytes bytes s.part p.part ≡ true) is same) x in_q in_p)
two_values bytes (r ∷ group) one (suc i) (suc j) p q here there x in_p in_q =
    two_values bytes group ((and_parts (list_all (same_bytes bytes r.part) (parts_of group)) (give_one_value bytes (parts_of group)) one).1) i j p q here there x in_p in_q

one_value : (bytes : List ℕ) (group : List Piece)
    → ((i j : ℕ) (p q : Piece) → slice_get group i ≡ Some p → slice_get group j ≡ Some q → HasSame bytes p.part q.part)
    → give_one_value bytes (parts_of group) ≡ true
one_value bytes [] two = refl
one_value bytes (r ∷ group) two = and_from (list_all (same_bytes bytes r.part) (parts_of group)) (give_one_value bytes (parts_of group))
    (first group (λ j q there. two zero (suc j) r q refl there))
    (one_value bytes group (λ i j p q here there. two (suc i) (suc j) p q here there))
  where
    first : (others : List Piece) → ((j : ℕ) (q : Piece) → slice_get others j ≡ Some q → HasSame bytes r.part q.part) → list_all (same_bytes bytes r.part) (parts_of others) ≡ true
    first [] each = refl
    first (q ∷ others) each = and_from (same_bytes bytes r.part q.part) (list_all (same_bytes bytes r.part) (parts_of others))
        (is_same bytes r.part q.part (each zero q refl)) (first others (λ j s there. each (suc j) s there))

-- ---- ends
-- a last piece, and where it ends
record Final (group : List Piece) (end : ℕ) : Type 0 where
  index : ℕ
  piece : Piece
  there : slice_get group index ≡ Some piece
  last : piece.last ≡ true
  high : piece.part.high ≡ end

final_of : (group : List Piece) (end : ℕ) → end_of group ≡ Some end → Final group end
final_of [] end is = cc
final_of (q ∷ group) end is = one (λ h. final_of group end h) q.last refl is
  where
    later : Final group end → Final (q ∷ group) end
    later f = record { index = suc f.index; piece = f.piece; there = f.there; last = f.last; high = f.high }

    one : (end_of group ≡ Some end → Final group end) → (last : Bool) → last ≡ q.last → (if last then Some q.part.high else end_of group) ≡ Some end → Final (q ∷ group) end
    one deeper true here this = record { index = zero; piece = q; there = refl; last = sym here; high = some_is q.part.high end this }
    one deeper false here this = later (deeper this)

-- where a piece is last, the group has an end
none_last : (group : List Piece) (i : ℕ) (p : Piece) → end_of group ≡ None → slice_get group i ≡ Some p → p.last ≡ true → ⊥
none_last [] i p none at last = cc
none_last (q ∷ group) i p none at last = one (λ j gone there. none_last group j p gone there last) q.last refl i none at
  where
    cc_false : false ≡ true → ⊥
    cc_false h = cc

    one : ((j : ℕ) → end_of group ≡ None → slice_get group j ≡ Some p → ⊥) → (b : Bool) → b ≡ q.last → (i : ℕ) → (if b then Some q.part.high else end_of group) ≡ None → slice_get (q ∷ group) i ≡ Some p → ⊥
    one deeper true here i gone at = cc
    one deeper false here zero gone at = let is = some_is q p at in
        cc_false (here ∙ ap (λ (r : Piece). r.last) is ∙ last)
    one deeper false here (suc i) gone at = deeper i gone at

ends_of : (end : Option ℕ) (group : List Piece) → end_of group ≡ end → fit_end end group ≡ true → (i j : ℕ) (p q : Piece)
    → slice_get group i ≡ Some p → slice_get group j ≡ Some q → p.last ≡ true → q.part.high ≤ p.part.high
ends_of None group is fits i j p q here there last = absurd (none_last group i p is here last)
ends_of (Some end) group is fits i j p q here there last =
    bound p q last (all_at (fits_end end) group i p fits here) (all_at (fits_end end) group j q fits there)
  where
    bound : (p q : Piece) → p.last ≡ true → fits_end end p ≡ true → fits_end end q ≡ true → q.part.high ≤ p.part.high
    bound p q last a b =
        let first = and_parts (nat_le p.part.high end) (not p.last || p.part.high == end) a in
        let second = and_parts (nat_le q.part.high end) (not q.last || q.part.high == end) b in
        let same = eqb-true p.part.high end (subst (λ (l : Bool). (not l || p.part.high == end) ≡ true) last first.1) in
        omega (arith, same, leb-true q.part.high end second.0)

fit_from : (end : Option ℕ) (group : List Piece) → end_of group ≡ end
    → ((i j : ℕ) (p q : Piece) → slice_get group i ≡ Some p → slice_get group j ≡ Some q → p.last ≡ true → q.part.high ≤ p.part.high)
    → fit_end end group ≡ true
fit_from None group is ends = refl
fit_from (Some end) group is ends =
    let final = final_of group end is in
    each_at (fits_end end) group (λ j q there.
    fits q (omega (arith, final.high, ends final.index j final.piece q final.there there final.last))
    (λ last. omega (arith, final.high, ends j final.index q final.piece there final.there last)))
  where
    fits : (q : Piece) → q.part.high ≤ end → (q.last ≡ true → end ≤ q.part.high) → fits_end end q ≡ true
    fits q low high = and_from (nat_le q.part.high end) (not q.last || q.part.high == end) (le-leb q.part.high end low) (one q.last refl)
      where
        one : (b : Bool) → b ≡ q.last → (not b || q.part.high == end) ≡ true
        one true here = eq-eqb q.part.high end (let h = high (sym here) in omega (arith, low, h))
        one false here = refl

pub pieces_agree_by_two : PiecesAgreeByTwo
pieces_agree_by_two bytes group = (
  (λ agrees. let both = and_parts (give_one_value bytes (parts_of group)) (fit_end (end_of group) group) agrees in record {
    values = λ i j place p q here there in_p in_q. two_values bytes group both.0 i j p q here there place in_p in_q;
    ends = λ i j p q here there last. ends_of (end_of group) group refl both.1 i j p q here there last;
  }),
  (λ two. and_from (give_one_value bytes (parts_of group)) (fit_end (end_of group) group)
      (one_value bytes group (λ i j p q here there x in_p in_q. two.values i j x p q here there in_p in_q))
      (fit_from (end_of group) group refl (λ i j p q here there last. two.ends i j p q here there last))),
)

-- ---- covered places
record CoveredBy (group : List Piece) (place : ℕ) : Type 0 where
  index : ℕ
  piece : Piece
  there : slice_get group index ≡ Some piece
  covered : covers piece.part place ≡ true

covered_by : (bytes : List ℕ) (group : List Piece) (place : ℕ) → is_some (byte_at bytes (parts_of group) place) ≡ true → CoveredBy group place
covered_by bytes [] place some = cc
covered_by bytes (p ∷ group) place some = either (holds_or_not (covers p.part place))
    (λ h. record { index = zero; piece = p; there = refl; covered = h })
    (λ h. later (covered_by bytes group place (sym (ap is_some (passed_at bytes p.part (parts_of group) place h)) ∙ some)))
  where
    later : CoveredBy group place → CoveredBy (p ∷ group) place
    later c = record { index = suc c.index; piece = c.piece; there = c.there; covered = c.covered }

some_if_covered : (bytes : List ℕ) (group : List Piece) (place i : ℕ) (q : Piece) → slice_get group i ≡ Some q → covers q.part place ≡ true
    → is_some (byte_at bytes (parts_of group) place) ≡ true
some_if_covered bytes [] place i q at covered = cc
some_if_covered bytes (p ∷ group) place i q at covered = either (holds_or_not (covers p.part place))
    (λ h. ap is_some (taken_at bytes p.part (parts_of group) place h))
    (λ h. ap is_some (passed_at bytes p.part (parts_of group) place h) ∙ deeper (λ j there. some_if_covered bytes group place j q there covered) i at h)
  where
    never : false ≡ true → is_some (byte_at bytes (parts_of group) place) ≡ true
    never h = cc

    deeper : ((j : ℕ) → slice_get group j ≡ Some q → is_some (byte_at bytes (parts_of group) place) ≡ true) → (i : ℕ) → slice_get (p ∷ group) i ≡ Some q → covers p.part place ≡ false → is_some (byte_at bytes (parts_of group) place) ≡ true
    deeper further zero at h = never (sym h ∙ ap (λ (r : Piece). covers r.part place) (some_is p q at) ∙ covered)
    deeper further (suc i) at h = further i at

whole_of : (bytes : List ℕ) (group : List Piece) (end : Option ℕ) → end_of group ≡ end → agree bytes group ≡ true → is_covered bytes group end ≡ true → IsWhole bytes group
whole_of bytes group None is agrees covered = cc
whole_of bytes group (Some end) is agrees covered =
    let final = final_of group end is in record {
      agree = (pieces_agree_by_two bytes group).0 agrees;
      index = final.index;
      final = final.piece;
      there = final.there;
      last = final.last;
      covered = λ place below.
          let c = covered_by bytes group place (range_all_at (λ x. is_some (byte_at bytes (parts_of group) x)) 0 end place covered (omega arith) (omega (arith, below, final.high))) in
          (c.index, c.piece, c.there, c.covered);
    }

covered_of : (bytes : List ℕ) (group : List Piece) (end : Option ℕ) → end_of group ≡ end → fit_end end group ≡ true → IsWhole bytes group → is_covered bytes group end ≡ true
covered_of bytes group None is fits whole = absurd (none_last group whole.index whole.final is whole.there whole.last)
covered_of bytes group (Some end) is fits whole =
    let here = and_parts (nat_le whole.final.part.high end) (not whole.final.last || whole.final.part.high == end) (all_at (fits_end end) group whole.index whole.final fits whole.there) in
    let same = eqb-true whole.final.part.high end (subst (λ (l : Bool). (not l || whole.final.part.high == end) ≡ true) whole.last here.1) in
    range_all (λ x. is_some (byte_at bytes (parts_of group) x)) 0 end (λ place low high.
    let c = whole.covered place (omega (arith, high, same)) in some_if_covered bytes group place c.0 c.1 c.2 c.3)

pub complete_groups_are_whole : CompleteGroupsAreWhole
unfolding is_complete
complete_groups_are_whole bytes group = (
  (λ complete. let both = and_parts (agree bytes group) (is_covered bytes group (end_of group)) complete in
      whole_of bytes group (end_of group) refl both.0 both.1),
  (λ whole. let agrees = (pieces_agree_by_two bytes group).1 whole.agree in
      and_from (agree bytes group) (is_covered bytes group (end_of group)) agrees
      (covered_of bytes group (end_of group) refl ((and_parts (give_one_value bytes (parts_of group)) (fit_end (end_of group) group) agrees).1) whole)),
)
