-- What the states for all keys know once one piece more is in them.
use Rattle.std.proofs.Common.{◌≡◌, ℕ, ◌+◌, Bool, true, false, cond, ◌&&◌, ◌||◌, List, [], ◌∷◌, ◌++◌, refl, sym, ◌∙◌, ap, subst, arith}
use Rattle.std.specs.Prelude.{◌==◌, nat_le, if◌then◌else◌, Option, Some, None, IfSome}
use Rattle.std.specs.List.{filter, fold}
use Rattle.std.specs.Ordering.{is_eq, nat_cmp, ordering_then}
use Rattle.std.specs.declared.cmp.Ordering.{Ordering}
use Rattle.std.specs.declared.cmp.Ordering.TheVariants.{Less, Equal, Greater}
use Rattle.std.specs.BTreeMap.{BTreeMap, get, is_at}
use Rattle.std.proofs.lemmas.Bool.Decides.{nat_tests}
use Rattle.std.proofs.lemmas.Bool.{and_parts, eqb-true}
use Rattle.std.proofs.lemmas.List.Elements.{filter-append}
use Rattle.std.proofs.lemmas.List.Sums.{fold-append}
use Rattle.ip_reassembly.specs.declared.piece.Key.{Key}
use Rattle.ip_reassembly.specs.declared.piece.Piece.{Piece}
use Rattle.ip_reassembly.specs.declared.gathering.Gathering.{Gathering}
use Rattle.ip_reassembly.specs.Piece.{same_key}
use Rattle.ip_reassembly.specs.Group.{group_of, group_with, has_key, is_complete, leads, patience}
use Rattle.ip_reassembly.specs.Internal.Gathering.{Begun, Gathers, IsSound, Joined, leader_moment, whole_test}
use Rattle.ip_reassembly.specs.Internal.Knowing.{AreSound, Completes, Knows, Puts, Tells, key_cmp}
use Rattle.ip_reassembly.proofs.Same.{either, holds_or_not}
use Rattle.ip_reassembly.proofs.Complete.{whole_is}
use Rattle.ip_reassembly.proofs.Join.{begun_gathers, joined_gathers}

-- ---- keys
equal_then : (a b : Ordering) → is_eq (ordering_then a b) ≡ (is_eq a && is_eq b)
equal_then Less b = refl
equal_then Equal b = refl
equal_then Greater b = refl

equal_numbers : (m n : ℕ) → is_eq (nat_cmp m n) ≡ (m == n)
equal_numbers m n = grind (arith, nat_tests)

pub equal_keys : (a b : Key) → is_eq (key_cmp a b) ≡ same_key a b
equal_keys a b =
    equal_then (nat_cmp a.source b.source) (ordering_then (nat_cmp a.destination b.destination) (ordering_then (nat_cmp a.protocol b.protocol) (nat_cmp a.identification b.identification)))
    ∙ (λ i. equal_numbers a.source b.source i && equal_then (nat_cmp a.destination b.destination) (ordering_then (nat_cmp a.protocol b.protocol) (nat_cmp a.identification b.identification)) i)
    ∙ (λ i. a.source == b.source && (equal_numbers a.destination b.destination i && equal_then (nat_cmp a.protocol b.protocol) (nat_cmp a.identification b.identification) i))
    ∙ (λ i. a.source == b.source && (a.destination == b.destination && (equal_numbers a.protocol b.protocol i && equal_numbers a.identification b.identification i)))

pub one_key : (a b : Key) → same_key a b ≡ true → a ≡ b
one_key a b same =
    let first = and_parts (a.source == b.source) (a.destination == b.destination && (a.protocol == b.protocol && a.identification == b.identification)) same in
    let second = and_parts (a.destination == b.destination) (a.protocol == b.protocol && a.identification == b.identification) first.1 in
    let third = and_parts (a.protocol == b.protocol) (a.identification == b.identification) second.1 in
    λ i. record {
      source = eqb-true a.source b.source first.0 i;
      destination = eqb-true a.destination b.destination second.0 i;
      protocol = eqb-true a.protocol b.protocol third.0 i;
      identification = eqb-true a.identification b.identification third.1 i;
    }

own_key : (a : Key) → same_key a a ≡ true
own_key a = grind (arith, nat_tests)

-- ---- one piece more
pub group_more : (bytes : List ℕ) (key : Key) (pieces : List Piece) (p : Piece) → same_key key p.key ≡ true
    → group_of bytes key (pieces ++ p ∷ []) ≡ group_with bytes (group_of bytes key pieces) p
unfolding group_of
group_more bytes key pieces p same =
    ap (fold (group_with bytes) []) (filter-append (has_key key) pieces (p ∷ []) ∙ (λ i. filter (has_key key) pieces ++ cond (same i) (p ∷ []) []))
    ∙ fold-append (group_with bytes) [] (filter (has_key key) pieces) (p ∷ [])

pub group_other : (bytes : List ℕ) (key : Key) (pieces : List Piece) (p : Piece) → same_key key p.key ≡ false
    → group_of bytes key (pieces ++ p ∷ []) ≡ group_of bytes key pieces
unfolding group_of
group_other bytes key pieces p other =
    ap (fold (group_with bytes) []) (filter-append (has_key key) pieces (p ∷ []) ∙ (λ i. filter (has_key key) pieces ++ cond (other i) (p ∷ []) []) ∙ nothing_more (filter (has_key key) pieces))
  where
    nothing_more : (xs : List Piece) → xs ++ [] ≡ xs
    nothing_more [] = refl
    nothing_more (x ∷ xs) = ap (λ (ys : List Piece). x ∷ ys) (nothing_more xs)

-- ---- whom a piece follows
leads_by : (bytes : List ℕ) (group : List Piece) (p : Piece) (m : ℕ) → leader_moment group ≡ Some m → is_complete bytes group ≡ false
    → leads bytes group p ≡ nat_le (m + patience) p.moment
leads_by bytes [] p m h still = cc
leads_by bytes (leader ∷ others) p m h still =
    (λ i. still i || nat_le (leader.moment + patience) p.moment) ∙ (λ i. nat_le (moment i + patience) p.moment)
  where
    moment : leader.moment ≡ m
    moment = cc

leads_complete : (bytes : List ℕ) (group : List Piece) (m : ℕ) → leader_moment group ≡ Some m → is_complete bytes group ≡ true
    → (p : Piece) → leads bytes group p ≡ true
leads_complete bytes [] m h whole p = refl
leads_complete bytes (leader ∷ others) m h whole p = λ i. whole i || nat_le (leader.moment + patience) p.moment

new_group : (bytes : List ℕ) (group : List Piece) (p : Piece) (g : Gathering) → leads bytes group p ≡ true → Begun p g → Gathers bytes (group_with bytes group p) g
new_group bytes group p g leads_it begun =
    subst (λ (b : Bool). Gathers bytes (if b then p ∷ [] else group ++ p ∷ []) g) (sym leads_it) (begun_gathers bytes p g begun)

pub with_first : (bytes : List ℕ) (p : Piece) (g : Gathering) → Begun p g → (group : List Piece) → Tells bytes group None → Gathers bytes (group_with bytes group p) g
with_first bytes p g begun group tells = new_group bytes group p g (tells p) begun

pub with_late : (bytes : List ℕ) (p : Piece) (old g : Gathering) → nat_le (old.began + patience) p.moment ≡ true → Begun p g
    → (group : List Piece) → Tells bytes group (Some old) → Gathers bytes (group_with bytes group p) g
with_late bytes p old g late begun group tells =
    new_group bytes group p g (leads_by bytes group p old.began (tells.0.began) (tells.1) ∙ late) begun

pub with_more : (bytes : List ℕ) (p : Piece) (size : ℕ) (old g : Gathering) → nat_le (old.began + patience) p.moment ≡ false → IsSound size old → Joined bytes p old g
    → (group : List Piece) → Tells bytes group (Some old) → Gathers bytes (group_with bytes group p) g
with_more bytes p size old g early sound joined group tells =
    subst (λ (b : Bool). Gathers bytes (if b then p ∷ [] else group ++ p ∷ []) g) (sym (leads_by bytes group p old.began (tells.0.began) (tells.1) ∙ early))
    (joined_gathers bytes group p size old g (tells.0) sound joined)

-- ---- all keys
pub now_tells : (bytes : List ℕ) (group : List Piece) (g : Gathering) → Gathers bytes group g → is_complete bytes group ≡ true → Tells bytes group None
now_tells bytes group g gathers whole = leads_complete bytes group g.began gathers.began whole

pub knows_more : (bytes : List ℕ) (pieces : List Piece) (p : Piece) (old new : BTreeMap Key Gathering) (now : Option Gathering)
    → Knows bytes pieces old → Puts old new p.key now → Tells bytes (group_of bytes p.key (pieces ++ p ∷ [])) now → Knows bytes (pieces ++ p ∷ []) new
knows_more bytes pieces p old new now knows puts tells q = either (holds_or_not (same_key p.key q))
    (λ same. subst (Tells bytes (group_of bytes q (pieces ++ p ∷ []))) (sym (puts q ∙ (λ i. cond ((equal_keys p.key q ∙ same) i) now (get key_cmp old q))))
    (subst (λ (k : Key). Tells bytes (group_of bytes k (pieces ++ p ∷ [])) now) (one_key p.key q same) tells))
    (λ other. subst (Tells bytes (group_of bytes q (pieces ++ p ∷ []))) (sym (puts q ∙ (λ i. cond ((equal_keys p.key q ∙ other) i) now (get key_cmp old q))))
    (subst (λ (group : List Piece). Tells bytes group (get key_cmp old q)) (sym (group_other bytes q pieces p (turned q other))) (knows q)))
  where
    turned : (q : Key) → same_key p.key q ≡ false → same_key q p.key ≡ false
    turned q h = grind (arith, nat_tests)

pub sound_more : (size : ℕ) (key : Key) (old new : BTreeMap Key Gathering) (now : Option Gathering)
    → AreSound size old → Puts old new key now → IfSome now (IsSound size) → AreSound size new
sound_more size key old new now sound puts fits q =
    subst (λ (o : Option Gathering). IfSome o (IsSound size)) (sym (puts q)) (chosen (is_at (key_cmp key) q) now (get key_cmp old q) fits (sound q))
  where
    chosen : (b : Bool) (x y : Option Gathering) → IfSome x (IsSound size) → IfSome y (IsSound size) → IfSome (cond b x y) (IsSound size)
    chosen true x y h k = h
    chosen false x y h k = k

-- two changes at one key are the last
pub puts_again : (old mid new : BTreeMap Key Gathering) (key : Key) (first last : Option Gathering) → Puts old mid key first → Puts mid new key last → Puts old new key last
puts_again old mid new key first last puts again q = again q ∙ (λ i. cond (is_at (key_cmp key) q) last (puts q i)) ∙ twice (is_at (key_cmp key) q) (get key_cmp old q)
  where
    twice : (b : Bool) (o : Option Gathering) → cond b last (cond b first o) ≡ cond b last o
    twice true o = refl
    twice false o = refl

-- what take_in says, where the group is complete and where it is not
module _ (bytes : List ℕ) (size : ℕ) (p : Piece) (old mid : BTreeMap Key Gathering) (before : Option Gathering) (g : Gathering)
    (was : before ≡ get key_cmp old p.key) (out : Puts old mid p.key None) (sound : IsSound size g)
    (gathers : (group : List Piece) → Tells bytes group before → Gathers bytes (group_with bytes group p) g) where
  now_gathers : (pieces : List Piece) → Knows bytes pieces old → Gathers bytes (group_of bytes p.key (pieces ++ p ∷ [])) g
  now_gathers pieces knows = subst (λ (group : List Piece). Gathers bytes group g) (sym (group_more bytes p.key pieces p (own_key p.key)))
      (gathers (group_of bytes p.key pieces) (subst (Tells bytes (group_of bytes p.key pieces)) (sym was) (knows p.key)))

  pub complete_now : whole_test g.agrees g.header g.end g.filled ≡ true → (pieces : List Piece) → Knows bytes pieces old
      → Completes bytes (group_of bytes p.key (pieces ++ p ∷ [])) (Some g)
  complete_now whole pieces knows = (now_gathers pieces knows, sym (whole_is bytes size (group_of bytes p.key (pieces ++ p ∷ [])) g (now_gathers pieces knows) sound) ∙ whole)

  pub knows_complete : whole_test g.agrees g.header g.end g.filled ≡ true → (pieces : List Piece) → Knows bytes pieces old → Knows bytes (pieces ++ p ∷ []) mid
  knows_complete whole pieces knows = let now = complete_now whole pieces knows in
      knows_more bytes pieces p old mid None knows out (now_tells bytes (group_of bytes p.key (pieces ++ p ∷ [])) g now.0 now.1)

  pub open_now : whole_test g.agrees g.header g.end g.filled ≡ false → (pieces : List Piece) → Knows bytes pieces old
      → Completes bytes (group_of bytes p.key (pieces ++ p ∷ [])) None
  open_now still pieces knows = sym (whole_is bytes size (group_of bytes p.key (pieces ++ p ∷ [])) g (now_gathers pieces knows) sound) ∙ still

  pub knows_open : (new : BTreeMap Key Gathering) → Puts mid new p.key (Some g) → whole_test g.agrees g.header g.end g.filled ≡ false
      → (pieces : List Piece) → Knows bytes pieces old → Knows bytes (pieces ++ p ∷ []) new
  knows_open new puts still pieces knows =
      knows_more bytes pieces p old new (Some g) knows (puts_again old mid new p.key None (Some g) out puts) (now_gathers pieces knows, open_now still pieces knows)
