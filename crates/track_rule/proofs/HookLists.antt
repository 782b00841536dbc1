-- Hooks as lists: the one at a link, and what changes where it does. Chains of buckets that are shut, as lists.
use Rattle.std.proofs.Common.{◌≡◌, ◌≢◌, ℕ, zero, suc, ◌+◌, ◌-◌, ◌<◌, ◌≤◌, Bool, true, false, List, [], ◌∷◌, map, refl, sym, ap, subst, ◌∙◌, ⊎_elim, arith}
use Rattle.std.specs.Prelude.{◌==◌, ◌&&◌, ◌||◌, if◌then◌else◌}
use Rattle.std.specs.List.{list_any}
use Rattle.std.proofs.lemmas.Bool.{and_parts, cases_Bool, cond_both, eq-eqb, eqb-true, false≢true, ne_eqb}
use mathlib.Core.Option.{some-injective, some-ne-none}
use Rattle.track_rule.specs.declared.view.ChainLink.{ChainLink}
use Rattle.track_rule.specs.declared.view.Hook.{Hook}
use Rattle.track_rule.specs.declared.view.Shut.{Shut}
use Rattle.track_rule.specs.BucketSteps.{with_chain, without_link}
use Rattle.track_rule.specs.Chains.{IsOrdered, chain_in, is_at_link}
use Rattle.track_rule.specs.Links.{hook_of, hooks_of}
use Rattle.track_rule.specs.Sums.{Each, bit, total}
use Rattle.track_rule.specs.Walks.{rev_onto}
use Rattle.track_rule.proofs.Lists.{same_bit}

module _ (x : ℕ) where
  -- a hook that passes a test is there
  pub some_hook : (t : Hook → Bool) (hooks : List Hook) → list_any (λ (h : Hook). h.link == x && t h) hooks ≡ true → 0 < hooks_of x hooks
  some_hook t [] e = cc
  some_hook t (h ∷ hs) e =
      ⊎_elim
      (λ (f : (h.link == x && t h) ≡ true). omega (arith, ap bit (and_parts (h.link == x) (t h) f).0))
      (λ (f : (h.link == x && t h) ≡ false). omega (arith, some_hook t hs (sym (ap (λ (k : Bool). k || list_any (λ (h : Hook). h.link == x && t h) hs) f) ∙ e)))
      (cases_Bool (h.link == x && t h))

  -- where there is one hook at the link, it is the one that passes
  pub hook_test : (t : Hook → Bool) (hooks : List Hook) → hooks_of x hooks ≤ 1 → list_any (λ (h : Hook). h.link == x && t h) hooks ≡ true → t (hook_of x hooks) ≡ true
  hook_test t [] one e = cc
  hook_test t (h ∷ hs) one e =
      cond_both (h.link == x) h (hook_of x hs) (λ k. t k ≡ true)
      (λ here.
      ⊎_elim
      (λ (f : (h.link == x && t h) ≡ true). (and_parts (h.link == x) (t h) f).1)
      (λ (f : (h.link == x && t h) ≡ false).
      absurd (omega (arith, one, ap bit here, some_hook t hs (sym (ap (λ (k : Bool). k || list_any (λ (h : Hook). h.link == x && t h) hs) f) ∙ e))))
      (cases_Bool (h.link == x && t h)))
      (λ other. hook_test t hs (omega (arith, one)) (sym (ap (λ (k : Bool). (k && t h) || list_any (λ (h : Hook). h.link == x && t h) hs) other) ∙ e))

  -- what is so of each hook is so of that one, and it is at the link
  pub hook_there : (P : Hook → Type 0) (hooks : List Hook) → 0 < hooks_of x hooks → Each P hooks → P (hook_of x hooks) × ((hook_of x hooks).link ≡ x)
  hook_there P [] any each = absurd (omega (arith, any))
  hook_there P (h ∷ hs) any each =
      cond_both (h.link == x) h (hook_of x hs) (λ k. P k × (k.link ≡ x))
      (λ e. (each 0 h refl, eqb-true h.link x e))
      (λ e. hook_there P hs (omega (arith, any, ap bit e)) (λ i k at. each (suc i) k at))

  -- and where that one passes, one passes
  pub test_there : (t : Hook → Bool) (hooks : List Hook) → 0 < hooks_of x hooks → t (hook_of x hooks) ≡ true
      → list_any (λ (h : Hook). h.link == x && t h) hooks ≡ true
  test_there t [] any e = absurd (omega (arith, any))
  test_there t (h ∷ hs) any e =
      ⊎_elim
      (λ (f : (h.link == x) ≡ true).
      let here : t h ≡ true = sym (ap (λ (b : Bool). t (if b then h else hook_of x hs)) f) ∙ e in
      (λ i. (f i && here i) || list_any (λ (h : Hook). h.link == x && t h) hs))
      (λ (f : (h.link == x) ≡ false).
      ap (λ (b : Bool). (b && t h) || list_any (λ (h : Hook). h.link == x && t h) hs) f
      ∙ test_there t hs (omega (arith, any, ap bit f)) (sym (ap (λ (b : Bool). t (if b then h else hook_of x hs)) f) ∙ e))
      (cases_Bool (h.link == x))

  module _ (f : Hook → Hook) where
    total_others : (F : Hook → ℕ) (hooks : List Hook) → Each (λ h. h.link ≢ x → f h ≡ h) hooks → hooks_of x hooks ≡ 0 → total F (map f hooks) ≡ total F hooks
    total_others F [] others none = refl
    total_others F (h ∷ hs) others none =
        let other : h.link ≢ x = λ e. omega (arith, none, same_bit h.link x e) in
        omega (arith, ap F (others 0 h refl other), total_others F hs (λ i k at. others (suc i) k at) (omega (arith, none)))

    -- a sum over hooks where the one at the link changes
    pub total_change : (F : Hook → ℕ) (hooks : List Hook) → Each (λ h. h.link ≢ x → f h ≡ h) hooks → 0 < hooks_of x hooks → hooks_of x hooks ≤ 1
        → total F (map f hooks) + F (hook_of x hooks) ≡ total F hooks + F (f (hook_of x hooks))
    total_change F [] others any one = absurd (omega (arith, any))
    total_change F (h ∷ hs) others any one =
        cond_both (h.link == x) h (hook_of x hs) (λ k. F (f h) + total F (map f hs) + F k ≡ F h + total F hs + F (f k))
        (λ e. omega (arith, total_others F hs (λ i k at. others (suc i) k at) (omega (arith, one, ap bit e))))
        (λ e.
        let other : h.link ≢ x = λ same. false≢true (sym e ∙ eq-eqb h.link x same) in
        omega (arith, ap F (others 0 h refl other), total_change F hs (λ i k at. others (suc i) k at) (omega (arith, any, ap bit e)) (omega (arith, one))))

  -- the links of hooks stay
  pub links_kept : (f : Hook → Hook) → ((h : Hook) → (f h).link ≡ h.link) → (hooks : List Hook) → hooks_of x (map f hooks) ≡ hooks_of x hooks
  links_kept f same [] = refl
  links_kept f same (h ∷ hs) = omega (arith, ap (λ (k : ℕ). bit (k == x)) (same h), links_kept f same hs)

pub each_change : (P Q : Hook → Type 0) (f : Hook → Hook) (hooks : List Hook) → Each P hooks → ((h : Hook) → P h → Q (f h)) → Each Q (map f hooks)
each_change P Q f [] each change i k at = absurd (some-ne-none k (sym at))
each_change P Q f (h ∷ hs) each change zero k at = subst Q (some-injective (f h) k at) (change h (each 0 h refl))
each_change P Q f (h ∷ hs) each change (suc i) k at = each_change P Q f hs (λ j m at'. each (suc j) m at') change i k at

-- the chain of a bucket that is shut is another one
module _ (b : ℕ) (es : List ChainLink) where
  pub with_here : (shut : List Shut) → 0 < total (λ (s : Shut). bit (s.bucket == b)) shut → chain_in b (with_chain b es shut) ≡ es
  with_here [] any = absurd (omega (arith, any))
  with_here (s ∷ rest) any =
      cond_both (s.bucket == b) (record s { chain = es } ∷ rest) (s ∷ with_chain b es rest) (λ xs. chain_in b xs ≡ es)
      (λ e. ap (λ (k : Bool). if k then es else chain_in b rest) e)
      (λ e. ap (λ (k : Bool). if k then s.chain else chain_in b (with_chain b es rest)) e ∙ with_here rest (omega (arith, any, ap bit e)))

  pub with_else : (c : ℕ) → c ≢ b → (shut : List Shut) → chain_in c (with_chain b es shut) ≡ chain_in c shut
  with_else c other [] = refl
  with_else c other (s ∷ rest) =
      cond_both (s.bucket == b) (record s { chain = es } ∷ rest) (s ∷ with_chain b es rest) (λ xs. chain_in c xs ≡ (if s.bucket == c then s.chain else chain_in c rest))
      (λ e.
      let not_c : (s.bucket == c) ≡ false = ne_eqb s.bucket c (λ k. other (sym k ∙ eqb-true s.bucket b e)) in
      ap (λ (k : Bool). if k then es else chain_in c rest) not_c ∙ sym (ap (λ (k : Bool). if k then s.chain else chain_in c rest) not_c))
      (λ e. ap (λ (xs : List ChainLink). if s.bucket == c then s.chain else xs) (with_else c other rest))

  pub with_shuts : (c : ℕ) (shut : List Shut) → total (λ (s : Shut). bit (s.bucket == c)) (with_chain b es shut) ≡ total (λ (s : Shut). bit (s.bucket == c)) shut
  with_shuts c [] = refl
  with_shuts c (s ∷ rest) =
      cond_both (s.bucket == b) (record s { chain = es } ∷ rest) (s ∷ with_chain b es rest)
      (λ xs. total (λ (s : Shut). bit (s.bucket == c)) xs ≡ bit (s.bucket == c) + total (λ (s : Shut). bit (s.bucket == c)) rest)
      (λ e. refl) (λ e. omega (arith, with_shuts c rest))

-- a link that is taken out stands behind those that were passed
module _ (x : ℕ) where
  pub without_rev : (passed es : List ChainLink) → total (is_at_link x) passed ≡ 0 → without_link x (rev_onto passed es) ≡ rev_onto passed (without_link x es)
  without_rev [] es none = refl
  without_rev (p ∷ ps) es none =
      without_rev ps (p ∷ es) (omega (arith, none))
      ∙ ap (λ (k : Bool). rev_onto ps (if k then es else p ∷ without_link x es)) (ne_eqb p.link x (λ e. omega (arith, none, same_bit p.link x e)))

  pub without_first : (e : ChainLink) (es : List ChainLink) → e.link ≡ x → without_link x (e ∷ es) ≡ es
  without_first e es here = ap (λ (k : Bool). if k then es else e ∷ without_link x es) (eq-eqb e.link x here)

-- fewer entries behind those that were passed leave the order
pub ordered_rev : (passed es es' : List ChainLink) → ((x : ℕ) → total (is_at_link x) es' ≤ total (is_at_link x) es) → (IsOrdered es → IsOrdered es')
    → IsOrdered (rev_onto passed es) → IsOrdered (rev_onto passed es')
ordered_rev [] es es' fewer order h = order h
ordered_rev (p ∷ ps) es es' fewer order h =
    ordered_rev ps (p ∷ es) (p ∷ es') (λ x. omega (arith, fewer x)) (λ o. ((λ reply. omega (arith, o.0 reply, fewer (p.link - 1))), order o.1)) h
