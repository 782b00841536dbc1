-- A link of the pass comes into a chain: what becomes of the chains, and of the hooks.
use Rattle.std.proofs.Common.{◌≡◌, ◌≢◌, ℕ, ◌+◌, ◌<◌, Bool, true, false, None, List, [], ◌∷◌, map, refl, sym, ap, subst, ◌∙◌, arith, ⊎_elim}
use Rattle.std.specs.Prelude.{◌==◌, ◌&&◌, ◌||◌, not, if◌then◌else◌}
use Rattle.std.proofs.lemmas.Bool.{cases_Bool, cond_both, eq-eqb, eqb-true, false≢true, ne_eqb, or_parts}
use Rattle.history_book.specs.declared.sizes.Sizes.{Sizes}
use Rattle.track_rule.specs.BucketSteps.{put_in, raise, with_chain}
use Rattle.track_rule.specs.Chains.{bucket_of, chain_in, chain_link, side}
use Rattle.track_rule.specs.CommitSteps.{dropped}
use Rattle.track_rule.specs.Links.{hook_of, hooks_of, is_down, is_raised, is_up}
use Rattle.track_rule.specs.Sums.{bit, total}
use Rattle.track_rule.specs.declared.view.ChainLink.{ChainLink}
use Rattle.track_rule.specs.declared.view.HeldBuckets.{HeldBuckets}
use Rattle.track_rule.specs.declared.view.Hook.{Hook}
use Rattle.track_rule.specs.declared.view.Shut.{Shut}
use Rattle.shared_desk.specs.Commit.{is_any_up, shut_buckets}
use Rattle.shared_desk.specs.Tuples.{pair_at}

-- HOOKS THAT ARE DOWN

-- a hook at a link, where none is up
pub down_from : (x : ℕ) (hooks : List Hook) → 0 < hooks_of x hooks → is_any_up hooks ≡ false → is_down x hooks ≡ true
down_from x [] any low = absurd (omega (arith, any))
down_from x (h ∷ hs) any low =
    let parts = or_parts h.up (is_any_up hs) low in
    one (h.link == x) h.up parts.0 (λ e. down_from x hs (omega (arith, any, ap bit e)) parts.1)
  where
    one : (b u : Bool) → u ≡ false → (b ≡ false → is_down x hs ≡ true) → ((b && not u) || is_down x hs) ≡ true
    one true u e f = ap (λ (k : Bool). not k || is_down x hs) e
    one false u e f = f refl

pub none_up : (place : ℕ) (hooks : List Hook) → is_any_up hooks ≡ false → is_up place hooks ≡ false
none_up place hooks low = go hooks low
  where
    both : (a u b c : Bool) → u ≡ false → c ≡ false → ((a && u) || c) ≡ false
    both true u b c e f = (λ i. e i || f i)
    both false u b c e f = f

    go : (hooks : List Hook) → is_any_up hooks ≡ false → is_up place hooks ≡ false
    go [] e = refl
    go (h ∷ hs) e =
        let parts = or_parts h.up (is_any_up hs) e in
        both _ h.up h.up (is_up place hs) parts.0 (go hs parts.1)

-- LINKS THAT COME UP

raise_link : (x : ℕ) (h : Hook) → (raise x h).link ≡ h.link
raise_link x h = cond_both (h.link == x) (record h { next = None; up = true }) h (λ (t : Hook). t.link ≡ h.link) (λ e. refl) (λ e. refl)

raise_pair : (x : ℕ) (h : Hook) → (raise x h).pair ≡ h.pair
raise_pair x h = cond_both (h.link == x) (record h { next = None; up = true }) h (λ (t : Hook). t.pair ≡ h.pair) (λ e. refl) (λ e. refl)

raise_here : (x : ℕ) (h : Hook) → (h.link == x) ≡ true → raise x h ≡ record h { next = None; up = true }
raise_here x h e = ap (λ (b : Bool). if b then record h { next = None; up = true } else h) e

raise_else : (x : ℕ) (h : Hook) → (h.link == x) ≡ false → raise x h ≡ h
raise_else x h e = ap (λ (b : Bool). if b then record h { next = None; up = true } else h) e

pub raised_count : (x y : ℕ) (hooks : List Hook) → hooks_of y (map (raise x) hooks) ≡ hooks_of y hooks
raised_count x y [] = refl
raised_count x y (h ∷ hs) = omega (arith, ap (λ (k : ℕ). bit (k == y)) (raise_link x h), raised_count x y hs)

pub raised_pair : (x y : ℕ) (hooks : List Hook) → pair_at y (map (raise x) hooks) ≡ pair_at y hooks
raised_pair x y [] = refl
raised_pair x y (h ∷ hs) =
    ap (λ (k : ℕ). (if k == y then raise x h else hook_of y (map (raise x) hs)).pair) (raise_link x h)
    ∙ ⊎_elim
    (λ (e : (h.link == y) ≡ true).
    ap (λ (b : Bool). (if b then raise x h else hook_of y (map (raise x) hs)).pair) e ∙ raise_pair x h
    ∙ sym (ap (λ (b : Bool). (if b then h else hook_of y hs).pair) e))
    (λ (e : (h.link == y) ≡ false).
    ap (λ (b : Bool). (if b then raise x h else hook_of y (map (raise x) hs)).pair) e ∙ raised_pair x y hs
    ∙ sym (ap (λ (b : Bool). (if b then h else hook_of y hs).pair) e))
    (cases_Bool (h.link == y))

-- it stands then, and what stood before still does
pub now_up : (x : ℕ) (hooks : List Hook) → 0 < hooks_of x hooks → is_raised x (map (raise x) hooks) ≡ true
now_up x [] any = absurd (omega (arith, any))
now_up x (h ∷ hs) any =
    ap (λ (k : ℕ). (k == x && (raise x h).up) || is_raised x (map (raise x) hs)) (raise_link x h)
    ∙ ⊎_elim
    (λ (e : (h.link == x) ≡ true). (λ i. (e i && (raise_here x h e i).up) || is_raised x (map (raise x) hs)))
    (λ (e : (h.link == x) ≡ false). ap (λ (b : Bool). (b && (raise x h).up) || is_raised x (map (raise x) hs)) e ∙ now_up x hs (omega (arith, any, ap bit e)))
    (cases_Bool (h.link == x))

pub still_up : (x y : ℕ) (hooks : List Hook) → is_raised y hooks ≡ true → is_raised y (map (raise x) hooks) ≡ true
still_up x y [] up = up
still_up x y (h ∷ hs) up =
    ap (λ (k : ℕ). (k == y && (raise x h).up) || is_raised y (map (raise x) hs)) (raise_link x h)
    ∙ one (h.link == y) h.up (raise x h).up (is_raised y hs) (is_raised y (map (raise x) hs)) kept (still_up x y hs) up
  where
    kept : h.up ≡ true → (raise x h).up ≡ true
    kept u = cond_both (h.link == x) (record h { next = None; up = true }) h (λ (t : Hook). t.up ≡ true) (λ e. refl) (λ e. u)

    one : (b u u' r r' : Bool) → (u ≡ true → u' ≡ true) → (r ≡ true → r' ≡ true) → ((b && u) || r) ≡ true → ((b && u') || r') ≡ true
    one false u u' r r' f g e = g e
    one true true u' r r' f g e = ap (λ (k : Bool). k || r') (f refl)
    one true false u' r r' f g e = right u' (g e)
      where
        right : (a : Bool) → r' ≡ true → (a || r') ≡ true
        right true e = refl
        right false e = e

-- another link stays down
pub still_down : (x y : ℕ) (hooks : List Hook) → y ≢ x → is_down y (map (raise x) hooks) ≡ is_down y hooks
still_down x y [] other = refl
still_down x y (h ∷ hs) other =
    ap (λ (k : ℕ). (k == y && not (raise x h).up) || is_down y (map (raise x) hs)) (raise_link x h)
    ∙ ⊎_elim
    (λ (e : (h.link == y) ≡ true).
    (λ i. (h.link == y && not (raise_else x h (ne_eqb h.link x (λ k. other (sym (eqb-true h.link y e) ∙ k))) i).up) || still_down x y hs other i))
    (λ (e : (h.link == y) ≡ false).
    (λ i. (e i && not (raise x h).up) || still_down x y hs other i) ∙ sym (ap (λ (b : Bool). (b && not h.up) || is_down y hs) e))
    (cases_Bool (h.link == y))

-- SUMS

-- no other hook is at the link
raise_none : (x : ℕ) (hooks : List Hook) → hooks_of x hooks ≡ 0 → map (raise x) hooks ≡ hooks
raise_none x [] e = refl
raise_none x (h ∷ hs) e =
    ⊎_elim
    (λ (t : (h.link == x) ≡ true). absurd (omega (arith, e, ap bit t)))
    (λ (t : (h.link == x) ≡ false). (λ i. raise_else x h t i ∷ raise_none x hs (omega (arith, e)) i))
    (cases_Bool (h.link == x))

-- what stands weighs more by the link that came up
pub raised_weight : (z : Sizes) (c x : ℕ) (w : ChainLink → ℕ) (hooks : List Hook) → hooks_of x hooks ≡ 1 → is_down x hooks ≡ true
    → total (λ (h : Hook). (if h.up then side z c w (chain_link h) else 0)) (map (raise x) hooks)
    ≡ total (λ (h : Hook). (if h.up then side z c w (chain_link h) else 0)) hooks + side z c w (chain_link (hook_of x hooks))
raised_weight z c x w [] one down = absurd (omega (arith, one))
raised_weight z c x w (h ∷ hs) one down =
    ⊎_elim
    (λ (e : (h.link == x) ≡ true).
    let rest : map (raise x) hs ≡ hs = raise_none x hs (omega (arith, one, ap bit e)) in
    let low : h.up ≡ false = first_down (h.link == x) h.up e (down_else e) down in
    omega (
      arith,
      ap (λ (t : Hook). (if t.up then side z c w (chain_link t) else 0)) (raise_here x h e),
      ap (total (λ (h : Hook). (if h.up then side z c w (chain_link h) else 0))) rest,
      ap (λ (b : Bool). (if b then side z c w (chain_link h) else 0)) low,
      ap (λ (b : Bool). side z c w (chain_link (if b then h else hook_of x hs))) e,
    ))
    (λ (e : (h.link == x) ≡ false).
    omega (
      arith,
      ap (λ (t : Hook). (if t.up then side z c w (chain_link t) else 0)) (raise_else x h e),
      raised_weight z c x w hs (omega (arith, one, ap bit e)) (sym (ap (λ (b : Bool). (b && not h.up) || is_down x hs) e) ∙ down),
      ap (λ (b : Bool). side z c w (chain_link (if b then h else hook_of x hs))) e,
    ))
    (cases_Bool (h.link == x))
  where
    none_down : (hs : List Hook) → hooks_of x hs ≡ 0 → is_down x hs ≡ false
    none_down [] e = refl
    none_down (h ∷ hs) e =
        ⊎_elim
        (λ (t : (h.link == x) ≡ true). absurd (omega (arith, e, ap bit t)))
        (λ (t : (h.link == x) ≡ false). ap (λ (b : Bool). (b && not h.up) || is_down x hs) t ∙ none_down hs (omega (arith, e)))
        (cases_Bool (h.link == x))

    down_else : (h.link == x) ≡ true → is_down x hs ≡ false
    down_else e = none_down hs (omega (arith, one, ap bit e))

    first_down : (b u : Bool) → b ≡ true → is_down x hs ≡ false → ((b && not u) || is_down x hs) ≡ true → u ≡ false
    first_down b u e f g = last u (sym (λ i. (e i && not u) || f i) ∙ g)
      where
        last : (u : Bool) → (not u || false) ≡ true → u ≡ false
        last true k = absurd (false≢true k)
        last false k = refl

-- the buckets that are shut are the same ones
pub same_buckets : (b : ℕ) (es : List ChainLink) (shut : List Shut) → shut_buckets (with_chain b es shut) ≡ shut_buckets shut
same_buckets b es [] = refl
same_buckets b es (s ∷ rest) =
    cond_both (s.bucket == b) (record s { chain = es } ∷ rest) (s ∷ with_chain b es rest) (λ xs. shut_buckets xs ≡ s.bucket ∷ shut_buckets rest)
    (λ e. refl) (λ e. ap (λ bs. s.bucket ∷ bs) (same_buckets b es rest))

pub same_shuts : (c : ℕ) (a b : List Shut) → shut_buckets a ≡ shut_buckets b → total (λ (s : Shut). bit (s.bucket == c)) a ≡ total (λ (s : Shut). bit (s.bucket == c)) b
same_shuts c a b e =
    let f : ℕ → ℕ = λ k. bit (k == c) in
    sym (over a) ∙ ap (total f) e ∙ over b
  where
    over : (xs : List Shut) → total (λ (k : ℕ). bit (k == c)) (shut_buckets xs) ≡ total (λ (s : Shut). bit (s.bucket == c)) xs
    over [] = refl
    over (s ∷ rest) = ap (λ (n : ℕ). bit (s.bucket == c) + n) (over rest)

-- a chain that changes, and another one
pub chain_here : (b : ℕ) (es : List ChainLink) (shut : List Shut) → 0 < total (λ (s : Shut). bit (s.bucket == b)) shut → chain_in b (with_chain b es shut) ≡ es
chain_here b es [] any = absurd (omega (arith, any))
chain_here b es (s ∷ rest) any =
    ⊎_elim
    (λ (e : (s.bucket == b) ≡ true).
    ap (λ (k : Bool). chain_in b (if k then record s { chain = es } ∷ rest else s ∷ with_chain b es rest)) e
    ∙ ap (λ (k : Bool). if k then es else chain_in b rest) e)
    (λ (e : (s.bucket == b) ≡ false).
    ap (λ (k : Bool). chain_in b (if k then record s { chain = es } ∷ rest else s ∷ with_chain b es rest)) e
    ∙ ap (λ (k : Bool). if k then s.chain else chain_in b (with_chain b es rest)) e ∙ chain_here b es rest (omega (arith, any, ap bit e)))
    (cases_Bool (s.bucket == b))

pub chain_else : (b c : ℕ) (es : List ChainLink) (shut : List Shut) → c ≢ b → chain_in c (with_chain b es shut) ≡ chain_in c shut
chain_else b c es [] other = refl
chain_else b c es (s ∷ rest) other =
    ⊎_elim
    (λ (e : (s.bucket == b) ≡ true).
    let away : (s.bucket == c) ≡ false = ne_eqb s.bucket c (λ k. other (sym k ∙ eqb-true s.bucket b e)) in
    ap (λ (k : Bool). chain_in c (if k then record s { chain = es } ∷ rest else s ∷ with_chain b es rest)) e
    ∙ ap (λ (k : Bool). if k then es else chain_in c rest) away ∙ sym (ap (λ (k : Bool). if k then s.chain else chain_in c rest) away))
    (λ (e : (s.bucket == b) ≡ false).
    ap (λ (k : Bool). chain_in c (if k then record s { chain = es } ∷ rest else s ∷ with_chain b es rest)) e
    ∙ cond_both (s.bucket == c) s.chain (chain_in c (with_chain b es rest)) (λ xs. xs ≡ (if s.bucket == c then s.chain else chain_in c rest))
    (λ t. sym (ap (λ (k : Bool). if k then s.chain else chain_in c rest) t))
    (λ t. chain_else b c es rest other ∙ sym (ap (λ (k : Bool). if k then s.chain else chain_in c rest) t)))
    (cases_Bool (s.bucket == b))

-- A link comes into the chain of its bucket: the chain, and what of the pass stands there, weigh more by the same.
pub put_balance : (z : Sizes) (b x c : ℕ) (w : ChainLink → ℕ) (s : HeldBuckets) → b ≡ bucket_of z (hook_of x s.hooks).pair → hooks_of x s.hooks ≡ 1 → is_down x s.hooks ≡ true
    → 0 < total (λ (k : Shut). bit (k.bucket == b)) s.shut
    → total w (chain_in c (put_in b x s).shut) + total (λ (h : Hook). (if h.up then side z c w (chain_link h) else 0)) s.hooks
    ≡ total w (chain_in c s.shut) + total (λ (h : Hook). (if h.up then side z c w (chain_link h) else 0)) (put_in b x s).hooks
put_balance z b x c w s placed one down mine =
    let e : ChainLink = chain_link (hook_of x s.hooks) in
    ⊎_elim
    (λ (t : (b == c) ≡ true).
    let same : b ≡ c = eqb-true b c t in
    omega (
      arith,
      raised_weight z c x w s.hooks one down,
      ap (total w) (subst (λ (k : ℕ). chain_in k (with_chain b (chain_link (hook_of x s.hooks) ∷ chain_in b s.shut) s.shut) ≡ chain_link (hook_of x s.hooks) ∷ chain_in k s.shut) same
          (chain_here b (chain_link (hook_of x s.hooks) ∷ chain_in b s.shut) s.shut mine)),
      ap (λ (k : Bool). if k then w (chain_link (hook_of x s.hooks)) else 0) (eq-eqb (bucket_of z (hook_of x s.hooks).pair) c (sym placed ∙ same)),
    ))
    (λ (t : (b == c) ≡ false).
    let other : c ≢ b = λ k. false≢true (sym t ∙ eq-eqb b c (sym k)) in
    omega (
      arith,
      raised_weight z c x w s.hooks one down,
      ap (total w) (chain_else b c (chain_link (hook_of x s.hooks) ∷ chain_in b s.shut) s.shut other),
      ap (λ (k : Bool). if k then w (chain_link (hook_of x s.hooks)) else 0) (ne_eqb (bucket_of z (hook_of x s.hooks).pair) c (λ k. other (sym k ∙ sym placed))),
    ))
    (cases_Bool (b == c))

-- HOOKS THAT GO

dropped_raised : (x : ℕ) (hooks : List Hook) → hooks_of x hooks ≡ 1 → dropped x (map (raise x) hooks) ≡ dropped x hooks
dropped_raised x [] one = refl
dropped_raised x (h ∷ hs) one =
    ap (λ (k : ℕ). if k == x then map (raise x) hs else raise x h ∷ dropped x (map (raise x) hs)) (raise_link x h)
    ∙ ⊎_elim
    (λ (e : (h.link == x) ≡ true).
    ap (λ (b : Bool). if b then map (raise x) hs else raise x h ∷ dropped x (map (raise x) hs)) e ∙ raise_none x hs (omega (arith, one, ap bit e))
    ∙ sym (ap (λ (b : Bool). if b then hs else h ∷ dropped x hs) e))
    (λ (e : (h.link == x) ≡ false).
    ap (λ (b : Bool). if b then map (raise x) hs else raise x h ∷ dropped x (map (raise x) hs)) e
    ∙ (λ i. raise_else x h e i ∷ dropped_raised x hs (omega (arith, one, ap bit e)) i)
    ∙ sym (ap (λ (b : Bool). if b then hs else h ∷ dropped x hs) e))
    (cases_Bool (h.link == x))

dropped_else : (x y : ℕ) (hooks : List Hook) → dropped x (map (raise y) hooks) ≡ map (raise y) (dropped x hooks)
dropped_else x y [] = refl
dropped_else x y (h ∷ hs) =
    ap (λ (k : ℕ). if k == x then map (raise y) hs else raise y h ∷ dropped x (map (raise y) hs)) (raise_link y h)
    ∙ ⊎_elim
    (λ (e : (h.link == x) ≡ true).
    ap (λ (b : Bool). if b then map (raise y) hs else raise y h ∷ dropped x (map (raise y) hs)) e ∙ sym (ap (λ (b : Bool). map (raise y) (if b then hs else h ∷ dropped x hs)) e))
    (λ (e : (h.link == x) ≡ false).
    ap (λ (b : Bool). if b then map (raise y) hs else raise y h ∷ dropped x (map (raise y) hs)) e ∙ ap (λ ks. raise y h ∷ ks) (dropped_else x y hs)
    ∙ sym (ap (λ (b : Bool). map (raise y) (if b then hs else h ∷ dropped x hs)) e))
    (cases_Bool (h.link == x))

pub dropped_count : (x y : ℕ) (hooks : List Hook) → y ≢ x → hooks_of y (dropped x hooks) ≡ hooks_of y hooks
dropped_count x y [] other = refl
dropped_count x y (h ∷ hs) other =
    ⊎_elim
    (λ (e : (h.link == x) ≡ true).
    omega (
      arith,
      ap (λ (b : Bool). hooks_of y (if b then hs else h ∷ dropped x hs)) e,
      ap bit (ne_eqb h.link y (λ k. other (sym k ∙ eqb-true h.link x e))),
    ))
    (λ (e : (h.link == x) ≡ false). omega (arith, ap (λ (b : Bool). hooks_of y (if b then hs else h ∷ dropped x hs)) e, dropped_count x y hs other))
    (cases_Bool (h.link == x))

-- both links came up, and their hooks go: the others are as they were
pub both_gone : (x y : ℕ) (hooks : List Hook) → y ≢ x → hooks_of x hooks ≡ 1 → hooks_of y hooks ≡ 1
    → dropped y (dropped x (map (raise x) (map (raise y) hooks))) ≡ dropped y (dropped x hooks)
both_gone x y hooks other one one' =
    ap (dropped y) (dropped_raised x (map (raise y) hooks) (omega (arith, one, raised_count y x hooks)) ∙ dropped_else x y hooks)
    ∙ dropped_raised y (dropped x hooks) (omega (arith, one', dropped_count x y hooks other))
