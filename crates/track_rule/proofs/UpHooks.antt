-- Links of a pass that stand in chains, after its hooks changed: of which places they are.
use Rattle.std.proofs.Common.{◌⊎◌, ◌≡◌, ℕ, Bool, true, false, None, List, [], ◌∷◌, filter, map, sym, ap, ◌∙◌, ⊎_elim, inl, inr}
use Rattle.std.specs.Prelude.{◌==◌, ◌&&◌, ◌||◌, not}
use Rattle.std.proofs.lemmas.Bool.{and_parts, cond_both, eq-eqb, eqb-true, false≢true, or_cases}
use Rattle.std.proofs.Math.Bool.{or-true}
use Rattle.track_rule.specs.declared.view.Hook.{Hook}
use Rattle.track_rule.specs.BucketSteps.{raise}
use Rattle.track_rule.specs.CommitSteps.{dropped}
use Rattle.track_rule.specs.Layout.{place_of}
use Rattle.track_rule.specs.Links.{AreOfOne, is_up}

module _ (q : ℕ) (h : Hook) (hs : List Hook) where
  -- it is the first of the place, or one behind
  up_first : is_up q (h ∷ hs) ≡ true → ((place_of h.link ≡ q) × (h.up ≡ true)) ⊎ (is_up q hs ≡ true)
  up_first e =
      ⊎_elim
      (λ (t : (place_of h.link == q && h.up) ≡ true). let parts = and_parts (place_of h.link == q) h.up t in inl (eqb-true (place_of h.link) q parts.0, parts.1))
      (λ (t : is_up q hs ≡ true). inr t)
      (or_cases (place_of h.link == q && h.up) (is_up q hs) e)

  up_here : place_of h.link ≡ q → h.up ≡ true → is_up q (h ∷ hs) ≡ true
  up_here here up = (λ i. (eq-eqb (place_of h.link) q here i && up i) || is_up q hs)

  up_later : is_up q hs ≡ true → is_up q (h ∷ hs) ≡ true
  up_later e = ap (λ (b : Bool). (place_of h.link == q && h.up) || b) e ∙ or-true (place_of h.link == q && h.up)

  -- a hook in front that is down adds none
  pub up_behind : h.up ≡ false → is_up q (h ∷ hs) ≡ true → is_up q hs ≡ true
  up_behind down e =
      ⊎_elim (λ (t : (place_of h.link ≡ q) × (h.up ≡ true)). absurd (false≢true (sym down ∙ t.1))) (λ (t : is_up q hs ≡ true). t) (up_first e)

-- nor does a change that leaves links where they are and puts none into a chain
pub up_map : (f : Hook → Hook) → ((k : Hook) → (f k).up ≡ true → ((f k).link ≡ k.link) × (k.up ≡ true)) → (q : ℕ) (hooks : List Hook)
    → is_up q (map f hooks) ≡ true → is_up q hooks ≡ true
up_map f keeps q [] e = e
up_map f keeps q (h ∷ hs) e =
    ⊎_elim
    (λ (t : (place_of (f h).link ≡ q) × ((f h).up ≡ true)). let k = keeps h t.1 in up_here q h hs (sym (ap place_of k.0) ∙ t.0) k.1)
    (λ (t : is_up q (map f hs) ≡ true). up_later q h hs (up_map f keeps q hs t))
    (up_first q (f h) (map f hs) e)

-- where hooks are given up none is added
pub up_left : (p q : ℕ) (hooks : List Hook) → is_up q (filter (λ (h : Hook). not (place_of h.link == p)) hooks) ≡ true → is_up q hooks ≡ true
up_left p q [] = λ e. e
up_left p q (h ∷ hs) =
    cond_both (not (place_of h.link == p)) (h ∷ filter (λ (h : Hook). not (place_of h.link == p)) hs) (filter (λ (h : Hook). not (place_of h.link == p)) hs)
    (λ ks. is_up q ks ≡ true → is_up q (h ∷ hs) ≡ true)
    (λ t e.
    ⊎_elim
    (λ (u : (place_of h.link ≡ q) × (h.up ≡ true)). up_here q h hs u.0 u.1)
    (λ (u : is_up q (filter (λ (h : Hook). not (place_of h.link == p)) hs) ≡ true). up_later q h hs (up_left p q hs u))
    (up_first q h (filter (λ (h : Hook). not (place_of h.link == p)) hs) e))
    (λ t e. up_later q h hs (up_left p q hs e))

pub up_dropped : (x q : ℕ) (hooks : List Hook) → is_up q (dropped x hooks) ≡ true → is_up q hooks ≡ true
up_dropped x q [] = λ e. e
up_dropped x q (h ∷ hs) =
    cond_both (h.link == x) hs (h ∷ dropped x hs) (λ ks. is_up q ks ≡ true → is_up q (h ∷ hs) ≡ true) (λ t e. up_later q h hs e)
    (λ t e.
    ⊎_elim
    (λ (u : (place_of h.link ≡ q) × (h.up ≡ true)). up_here q h hs u.0 u.1)
    (λ (u : is_up q (dropped x hs) ≡ true). up_later q h hs (up_dropped x q hs u))
    (up_first q h (dropped x hs) e))

-- a link that comes into a chain is of its place
pub up_raised : (x q : ℕ) (hooks : List Hook) → is_up q (map (raise x) hooks) ≡ true → (q ≡ place_of x) ⊎ (is_up q hooks ≡ true)
up_raised x q [] e = inr e
up_raised x q (h ∷ hs) e =
    ⊎_elim
    (λ (t : (place_of (raise x h).link ≡ q) × ((raise x h).up ≡ true)).
    cond_both (h.link == x) (record h { next = None; up = true }) h
    (λ (k : Hook). place_of k.link ≡ q → k.up ≡ true → (q ≡ place_of x) ⊎ (is_up q (h ∷ hs) ≡ true))
    (λ same here up. inl (sym here ∙ ap place_of (eqb-true h.link x same)))
    (λ other here up. inr (up_here q h hs here up))
    t.0 t.1)
    (λ (t : is_up q (map (raise x) hs) ≡ true).
    ⊎_elim (λ (u : q ≡ place_of x). inl u) (λ (u : is_up q hs ≡ true). inr (up_later q h hs u)) (up_raised x q hs t))
    (up_first q (raise x h) (map (raise x) hs) e)

-- two links of a place come in front of hooks of which none is in a chain
pub up_two : (p : ℕ) (a b : Hook) (hooks : List Hook) → place_of a.link ≡ p → place_of b.link ≡ p → ((q : ℕ) → is_up q hooks ≡ false)
    → (q : ℕ) → is_up q (a ∷ b ∷ hooks) ≡ true → q ≡ p
up_two p a b hooks first second down q e =
    ⊎_elim
    (λ (t : (place_of a.link ≡ q) × (a.up ≡ true)). sym t.0 ∙ first)
    (λ (t : is_up q (b ∷ hooks) ≡ true).
    ⊎_elim
    (λ (u : (place_of b.link ≡ q) × (b.up ≡ true)). sym u.0 ∙ second)
    (λ (u : is_up q hooks ≡ true). absurd (false≢true (sym (down q) ∙ u)))
    (up_first q b hooks t))
    (up_first q a (b ∷ hooks) e)

-- where only such are in chains as were, or only those of one place, it is still one place
pub one_fewer : (old new : List Hook) → ((q : ℕ) → is_up q new ≡ true → is_up q old ≡ true) → AreOfOne old → AreOfOne new
one_fewer old new fewer one p q a b = one p q (fewer p a) (fewer q b)

pub one_only : (r : ℕ) (hooks : List Hook) → ((q : ℕ) → is_up q hooks ≡ true → q ≡ r) → AreOfOne hooks
one_only r hooks only p q a b = only p a ∙ sym (only q b)
