-- Links of a pass come out of their chains: what becomes of its hooks.
use Rattle.std.proofs.Common.{◌≡◌, ℕ, Bool, true, false, None, List, [], ◌∷◌, map, refl, sym, ap, ◌∙◌, ⊎_elim}
use Rattle.std.specs.Prelude.{◌==◌, not, if◌then◌else◌}
use Rattle.std.proofs.lemmas.Bool.{cases_Bool, cond_both, eq-eqb, eqb-true, false≢true, or_from, or_parts}
use Rattle.track_rule.specs.BucketSteps.{lower}
use Rattle.track_rule.specs.Layout.{place_of}
use Rattle.track_rule.specs.Steps.{hooks_else}
use Rattle.track_rule.specs.declared.view.Hook.{Hook}
use Rattle.shared_desk.specs.Commit.{is_any_up}
use Rattle.bucket_table.specs.Finding.{has_hook}

lower_link : (x : ℕ) (h : Hook) → (lower x h).link ≡ h.link
lower_link x h = cond_both (h.link == x) (record h { next = None; up = false }) h (λ (t : Hook). t.link ≡ h.link) (λ e. refl) (λ e. refl)

lower_here : (x : ℕ) (h : Hook) → h.link ≡ x → (lower x h).up ≡ false
lower_here x h e = ap (λ (b : Bool). (if b then record h { next = None; up = false } else h).up) (eq-eqb h.link x e)

lower_else : (x : ℕ) (h : Hook) → (h.link == x) ≡ false → lower x h ≡ h
lower_else x h e = ap (λ (b : Bool). if b then record h { next = None; up = false } else h) e

-- what is down stays so
lower_down : (x : ℕ) (h : Hook) → h.up ≡ false → (lower x h).up ≡ false
lower_down x h e = cond_both (h.link == x) (record h { next = None; up = false }) h (λ (t : Hook). t.up ≡ false) (λ t. refl) (λ t. e)

lowered_down : (x : ℕ) (hooks : List Hook) → is_any_up hooks ≡ false → is_any_up (map (lower x) hooks) ≡ false
lowered_down x [] e = refl
lowered_down x (h ∷ hs) e =
    let parts = or_parts h.up (is_any_up hs) e in
    or_from (lower x h).up (is_any_up (map (lower x) hs)) (lower_down x h parts.0) (lowered_down x hs parts.1)

-- two links came down, and no other one was up
pub both_down : (x y : ℕ) (g h : Hook) (hooks : List Hook) → g.link ≡ x → h.link ≡ y → is_any_up hooks ≡ false
    → is_any_up (map (lower y) (map (lower x) (g ∷ h ∷ hooks))) ≡ false
both_down x y g h hooks first second low =
    or_from (lower y (lower x g)).up (is_any_up (map (lower y) (map (lower x) (h ∷ hooks)))) (lower_down y (lower x g) (lower_here x g first))
    (or_from (lower y (lower x h)).up (is_any_up (map (lower y) (map (lower x) hooks))) (lower_here y (lower x h) (lower_link x h ∙ second))
    (lowered_down y (map (lower x) hooks) (lowered_down x hooks low)))

-- links of other places are as they were
pub lowered_else : (place x : ℕ) → place_of x ≡ place → (hooks : List Hook) → hooks_else place (map (lower x) hooks) ≡ hooks_else place hooks
lowered_else place x at [] = refl
lowered_else place x at (h ∷ hs) =
    ap (λ (k : ℕ). if not (place_of k == place) then lower x h ∷ hooks_else place (map (lower x) hs) else hooks_else place (map (lower x) hs)) (lower_link x h)
    ∙ ⊎_elim
    (λ (e : (place_of h.link == place) ≡ true).
    ap (λ (b : Bool). if not b then lower x h ∷ hooks_else place (map (lower x) hs) else hooks_else place (map (lower x) hs)) e ∙ lowered_else place x at hs
    ∙ sym (ap (λ (b : Bool). if not b then h ∷ hooks_else place hs else hooks_else place hs) e))
    (λ (e : (place_of h.link == place) ≡ false).
    ap (λ (b : Bool). if not b then lower x h ∷ hooks_else place (map (lower x) hs) else hooks_else place (map (lower x) hs)) e
    ∙ (λ i. lower_else x h (another e) i ∷ lowered_else place x at hs i)
    ∙ sym (ap (λ (b : Bool). if not b then h ∷ hooks_else place hs else hooks_else place hs) e))
    (cases_Bool (place_of h.link == place))
  where
    another : (place_of h.link == place) ≡ false → (h.link == x) ≡ false
    another e =
        ⊎_elim
        (λ (t : (h.link == x) ≡ true). absurd (false≢true (sym e ∙ eq-eqb (place_of h.link) place (ap place_of (eqb-true h.link x t) ∙ at))))
        (λ (t : (h.link == x) ≡ false). t)
        (cases_Bool (h.link == x))

-- a link of the place is not of another one
pub else_gone : (place : ℕ) (h : Hook) (hooks : List Hook) → place_of h.link ≡ place → hooks_else place (h ∷ hooks) ≡ hooks_else place hooks
else_gone place h hooks at = ap (λ (b : Bool). if not b then h ∷ hooks_else place hooks else hooks_else place hooks) (eq-eqb (place_of h.link) place at)

pub else_all : (place : ℕ) (hooks : List Hook) → has_hook place hooks ≡ false → hooks_else place hooks ≡ hooks
else_all place [] e = refl
else_all place (h ∷ hs) e =
    let parts = or_parts (place_of h.link == place) (has_hook place hs) e in
    ap (λ (b : Bool). if not b then h ∷ hooks_else place hs else hooks_else place hs) parts.0 ∙ ap (λ ks. h ∷ ks) (else_all place hs parts.1)
