-- Hooks of which some change, but not in their links, nor in whether they are in their chains.
use Rattle.std.proofs.Common.{◌≡◌, ◌≢◌, ℕ, ◌+◌, ◌<◌, Bool, true, false, List, [], ◌∷◌, map, refl, sym, ap, ◌∙◌, arith, ⊎_elim}
use Rattle.std.specs.Prelude.{◌==◌, ◌&&◌, ◌||◌, not, if◌then◌else◌}
use Rattle.std.specs.List.{list_any}
use Rattle.std.proofs.lemmas.Bool.{and_from, cases_Bool, cond_both, eq-eqb, eqb-true, ne_eqb}
use Rattle.history_book.specs.declared.sizes.Sizes.{Sizes}
use Rattle.tuple_core.specs.declared.Tuple.{Tuple}
use Rattle.track_rule.specs.BucketSteps.{is_own_tuple, tuple_in, tuple_stored}
use Rattle.track_rule.specs.Chains.{pair_of}
use Rattle.track_rule.specs.Free.{is_among}
use Rattle.track_rule.specs.Layout.{first_word, place_of, second_word}
use Rattle.track_rule.specs.Links.{hook_of, hooks_of, is_down, is_up}
use Rattle.track_rule.specs.Sights.{PassSight, sizes_of}
use Rattle.track_rule.specs.Sums.{bit, total}
use Rattle.track_rule.specs.declared.view.Hook.{Hook}
use Rattle.track_rule.specs.declared.view.View.{View}
use Rattle.shared_desk.specs.Tuples.{StoresTuple, pair_at, standing}

-- what is known by links, and by whether they stand

total_over : (f : ℕ × Bool → ℕ) (hooks : List Hook) → total f (standing hooks) ≡ total (λ (h : Hook). f (h.link, h.up)) hooks
total_over f [] = refl
total_over f (h ∷ hs) = ap (λ (n : ℕ). f (h.link, h.up) + n) (total_over f hs)

any_over : (t : ℕ × Bool → Bool) (hooks : List Hook) → list_any t (standing hooks) ≡ list_any (λ (h : Hook). t (h.link, h.up)) hooks
any_over t [] = refl
any_over t (h ∷ hs) = ap (λ (b : Bool). t (h.link, h.up) || b) (any_over t hs)

pub same_any : (t : ℕ × Bool → Bool) (a b : List Hook) → standing a ≡ standing b
    → list_any (λ (h : Hook). t (h.link, h.up)) a ≡ list_any (λ (h : Hook). t (h.link, h.up)) b
same_any t a b e = sym (any_over t a) ∙ ap (list_any t) e ∙ any_over t b

pub same_count : (x : ℕ) (a b : List Hook) → standing a ≡ standing b → hooks_of x a ≡ hooks_of x b
same_count x a b e =
    let f : ℕ × Bool → ℕ = λ p. bit (p.0 == x) in
    sym (total_over f a) ∙ ap (total f) e ∙ total_over f b

pub same_up : (place : ℕ) (a b : List Hook) → standing a ≡ standing b → is_up place a ≡ is_up place b
same_up place a b e = same_any (λ p. place_of p.0 == place && p.1) a b e

pub same_down : (x : ℕ) (a b : List Hook) → standing a ≡ standing b → is_down x a ≡ is_down x b
same_down x a b e = same_any (λ p. p.0 == x && not p.1) a b e

-- one change of each hook

module _ (f : Hook → Hook) (links : (h : Hook) → (f h).link ≡ h.link) where
  pub at_map : (x : ℕ) (hooks : List Hook) → 0 < hooks_of x hooks → hook_of x (map f hooks) ≡ f (hook_of x hooks)
  at_map x [] any = absurd (omega (arith, any))
  at_map x (h ∷ hs) any =
      ap (λ (k : ℕ). if k == x then f h else hook_of x (map f hs)) (links h)
      ∙ cond_both (h.link == x) h (hook_of x hs) (λ (t : Hook). (if h.link == x then f h else hook_of x (map f hs)) ≡ f t)
      (λ e. ap (λ (b : Bool). if b then f h else hook_of x (map f hs)) e)
      (λ e. ap (λ (b : Bool). if b then f h else hook_of x (map f hs)) e ∙ at_map x hs (omega (arith, any, ap bit e)))

  -- hooks at another link stay
  pub else_map : (x : ℕ) → ((h : Hook) → h.link ≡ x → f h ≡ h) → (hooks : List Hook) → hook_of x (map f hooks) ≡ hook_of x hooks
  else_map x same [] = refl
  else_map x same (h ∷ hs) =
      ap (λ (k : ℕ). if k == x then f h else hook_of x (map f hs)) (links h)
      ∙ ⊎_elim
      (λ (e : (h.link == x) ≡ true).
      ap (λ (b : Bool). if b then f h else hook_of x (map f hs)) e ∙ same h (eqb-true h.link x e)
      ∙ sym (ap (λ (b : Bool). if b then h else hook_of x hs) e))
      (λ (e : (h.link == x) ≡ false).
      ap (λ (b : Bool). if b then f h else hook_of x (map f hs)) e ∙ else_map x same hs
      ∙ sym (ap (λ (b : Bool). if b then h else hook_of x hs) e))
      (cases_Bool (h.link == x))

pub is_at : (x : ℕ) (hooks : List Hook) → 0 < hooks_of x hooks → (hook_of x hooks).link ≡ x
is_at x [] any = absurd (omega (arith, any))
is_at x (h ∷ hs) any =
    cond_both (h.link == x) h (hook_of x hs) (λ (t : Hook). t.link ≡ x) (λ e. eqb-true h.link x e) (λ e. is_at x hs (omega (arith, any, ap bit e)))

-- a store of a word of a tuple

tuple_link : (z : Sizes) (word to : ℕ) (h : Hook) → (tuple_in z word to h).link ≡ h.link
tuple_link z word to h =
    cond_both (first_word z h.link == word) (record h { pair = record h.pair { first = to } })
    (if second_word z h.link == word then record h { pair = record h.pair { second = to } } else h) (λ (t : Hook). t.link ≡ h.link) (λ e. refl)
    (λ e. cond_both (second_word z h.link == word) (record h { pair = record h.pair { second = to } }) h (λ (t : Hook). t.link ≡ h.link) (λ f. refl) (λ f. refl))

tuple_up : (z : Sizes) (word to : ℕ) (h : Hook) → (tuple_in z word to h).up ≡ h.up
tuple_up z word to h =
    cond_both (first_word z h.link == word) (record h { pair = record h.pair { first = to } })
    (if second_word z h.link == word then record h { pair = record h.pair { second = to } } else h) (λ (t : Hook). t.up ≡ h.up) (λ e. refl)
    (λ e. cond_both (second_word z h.link == word) (record h { pair = record h.pair { second = to } }) h (λ (t : Hook). t.up ≡ h.up) (λ f. refl) (λ f. refl))

pub tuple_stands : (z : Sizes) (word to : ℕ) (hooks : List Hook) → standing (map (tuple_in z word to) hooks) ≡ standing hooks
tuple_stands z word to [] = refl
tuple_stands z word to (h ∷ hs) = (λ i. (tuple_link z word to h i, tuple_up z word to h i) ∷ tuple_stands z word to hs i)

-- words of different links are apart
first_apart : (z : Sizes) (x y : ℕ) → 0 < x → 0 < y → x ≢ y → first_word z x ≢ first_word z y
first_apart z x y a b other = λ e. other (omega (arith, e, a, b))

second_apart : (z : Sizes) (x y : ℕ) → 0 < x → 0 < y → x ≢ y → second_word z x ≢ second_word z y
second_apart z x y a b other = λ e. other (omega (arith, e, a, b))

sides_apart : (z : Sizes) (x y : ℕ) → first_word z x ≢ second_word z y
sides_apart z x y = λ e. omega (arith, e)

first_else : (z : Sizes) (x to : ℕ) (h : Hook) → 0 < x → 0 < h.link → h.link ≢ x → tuple_in z (first_word z x) to h ≡ h
first_else z x to h some some' other =
    ap (λ (b : Bool). if b then record h { pair = record h.pair { first = to } } else (if second_word z h.link == first_word z x then record h { pair = record h.pair { second = to } } else h))
    (ne_eqb (first_word z h.link) (first_word z x) (first_apart z h.link x some' some other))
    ∙ ap (λ (b : Bool). if b then record h { pair = record h.pair { second = to } } else h)
    (ne_eqb (second_word z h.link) (first_word z x) (λ e. sides_apart z x h.link (sym e)))

second_else : (z : Sizes) (x to : ℕ) (h : Hook) → 0 < x → 0 < h.link → h.link ≢ x → tuple_in z (second_word z x) to h ≡ h
second_else z x to h some some' other =
    ap (λ (b : Bool). if b then record h { pair = record h.pair { first = to } } else (if second_word z h.link == second_word z x then record h { pair = record h.pair { second = to } } else h))
    (ne_eqb (first_word z h.link) (second_word z x) (sides_apart z h.link x))
    ∙ ap (λ (b : Bool). if b then record h { pair = record h.pair { second = to } } else h)
    (ne_eqb (second_word z h.link) (second_word z x) (second_apart z h.link x some' some other))

first_here : (z : Sizes) (x to : ℕ) (h : Hook) → h.link ≡ x → tuple_in z (first_word z x) to h ≡ record h { pair = record h.pair { first = to } }
first_here z x to h at =
    ap (λ (b : Bool). if b then record h { pair = record h.pair { first = to } } else (if second_word z h.link == first_word z x then record h { pair = record h.pair { second = to } } else h))
    (eq-eqb (first_word z h.link) (first_word z x) (ap (first_word z) at))

second_here : (z : Sizes) (x to : ℕ) (h : Hook) → h.link ≡ x → tuple_in z (second_word z x) to h ≡ record h { pair = record h.pair { second = to } }
second_here z x to h at =
    ap (λ (b : Bool). if b then record h { pair = record h.pair { first = to } } else (if second_word z h.link == second_word z x then record h { pair = record h.pair { second = to } } else h))
    (ne_eqb (first_word z h.link) (second_word z x) (sides_apart z h.link x))
    ∙ ap (λ (b : Bool). if b then record h { pair = record h.pair { second = to } } else h)
    (eq-eqb (second_word z h.link) (second_word z x) (ap (second_word z) at))

-- both words of a tuple
pub both_pair : (z : Sizes) (x a b : ℕ) (hooks : List Hook) → 0 < hooks_of x hooks
    → pair_at x (map (tuple_in z (second_word z x) b) (map (tuple_in z (first_word z x) a) hooks)) ≡ record { first = a; second = b }
both_pair z x a b hooks any =
    let any' : 0 < hooks_of x (map (tuple_in z (first_word z x) a) hooks) = omega (arith, any, same_count x (map (tuple_in z (first_word z x) a) hooks) hooks (tuple_stands z (first_word z x) a hooks)) in
    let one : hook_of x (map (tuple_in z (first_word z x) a) hooks) ≡ record (hook_of x hooks) { pair = record (hook_of x hooks).pair { first = a } } =
    at_map (tuple_in z (first_word z x) a) (tuple_link z (first_word z x) a) x hooks any ∙ first_here z x a (hook_of x hooks) (is_at x hooks any) in
    ap (λ (h : Hook). h.pair)
    (at_map (tuple_in z (second_word z x) b) (tuple_link z (second_word z x) b) x (map (tuple_in z (first_word z x) a) hooks) any'
    ∙ second_here z x b (hook_of x (map (tuple_in z (first_word z x) a) hooks)) (is_at x (map (tuple_in z (first_word z x) a) hooks) any'))
    ∙ ap (λ (h : Hook). record h.pair { second = b }) one

pub both_else : (z : Sizes) (x y a b : ℕ) (hooks : List Hook) → 0 < x → 0 < y → y ≢ x
    → pair_at y (map (tuple_in z (second_word z x) b) (map (tuple_in z (first_word z x) a) hooks)) ≡ pair_at y hooks
both_else z x y a b hooks some some' other =
    ap (λ (h : Hook). h.pair)
    (else_map (tuple_in z (second_word z x) b) (tuple_link z (second_word z x) b) y (λ h e. second_else z x b h some (omega (arith, e, some')) (λ k. other (sym e ∙ k))) (map (tuple_in z (first_word z x) a) hooks)
    ∙ else_map (tuple_in z (first_word z x) a) (tuple_link z (first_word z x) a) y (λ h e. first_else z x a h some (omega (arith, e, some')) (λ k. other (sym e ∙ k))) hooks)

-- a word of the tuple of a link is the pass's own
pub own_word : (z : Sizes) (x word : ℕ) (v : View) → 0 < hooks_of x v.buckets.hooks → is_up (place_of x) v.buckets.hooks ≡ false → is_among (place_of x) v.places.owned ≡ true
    → ((first_word z x == word) || (second_word z x == word)) ≡ true → is_own_tuple z word v.buckets v.places.owned ≡ true
own_word z x word v any low owned here = find v.buckets.hooks any
  where
    find : (hooks : List Hook) → 0 < hooks_of x hooks
        → list_any (λ (h : Hook). (not (is_up (place_of h.link) v.buckets.hooks) && (first_word z h.link == word || second_word z h.link == word)) && is_among (place_of h.link) v.places.owned) hooks ≡ true
    find [] some = absurd (omega (arith, some))
    find (h ∷ hs) some =
        ⊎_elim
        (λ (e : (h.link == x) ≡ true).
        let at : h.link ≡ x = eqb-true h.link x e in
        or_true ((not (is_up (place_of h.link) v.buckets.hooks) && (first_word z h.link == word || second_word z h.link == word)) && is_among (place_of h.link) v.places.owned)
        (list_any (λ (h : Hook). (not (is_up (place_of h.link) v.buckets.hooks) && (first_word z h.link == word || second_word z h.link == word)) && is_among (place_of h.link) v.places.owned) hs)
        ((λ i. (not (is_up (place_of (at i)) v.buckets.hooks) && (first_word z (at i) == word || second_word z (at i) == word)) && is_among (place_of (at i)) v.places.owned)
        ∙ and_from (not (is_up (place_of x) v.buckets.hooks) && (first_word z x == word || second_word z x == word)) (is_among (place_of x) v.places.owned)
        (and_from (not (is_up (place_of x) v.buckets.hooks)) (first_word z x == word || second_word z x == word) (ap not low) here) owned))
        (λ (e : (h.link == x) ≡ false).
        or_later ((not (is_up (place_of h.link) v.buckets.hooks) && (first_word z h.link == word || second_word z h.link == word)) && is_among (place_of h.link) v.places.owned)
        (list_any (λ (h : Hook). (not (is_up (place_of h.link) v.buckets.hooks) && (first_word z h.link == word || second_word z h.link == word)) && is_among (place_of h.link) v.places.owned) hs)
        (find hs (omega (arith, some, ap bit e))))
        (cases_Bool (h.link == x))
      where
        or_true : (a b : Bool) → a ≡ true → (a || b) ≡ true
        or_true a b e = ap (λ (k : Bool). k || b) e

        or_later : (a b : Bool) → b ≡ true → (a || b) ≡ true
        or_later true b e = refl
        or_later false b e = e

pub own_first : (z : Sizes) (x word : ℕ) (v : View) → 0 < hooks_of x v.buckets.hooks → is_up (place_of x) v.buckets.hooks ≡ false → is_among (place_of x) v.places.owned ≡ true
    → word ≡ first_word z x → is_own_tuple z word v.buckets v.places.owned ≡ true
own_first z x word v any low owned at =
    own_word z x word v any low owned (ap (λ (b : Bool). b || second_word z x == word) (eq-eqb (first_word z x) word (sym at)))

or_right : (a b : Bool) → b ≡ true → (a || b) ≡ true
or_right true b e = refl
or_right false b e = e

-- after the first store too
pub own_second : (z : Sizes) (x word word' to : ℕ) (v u : PassSight) → 0 < hooks_of x v.view.buckets.hooks → is_up (place_of x) v.view.buckets.hooks ≡ false
    → is_among (place_of x) v.view.places.owned ≡ true → z ≡ sizes_of v → word' ≡ second_word z x → u ≡ record v { view = tuple_stored word to v.view }
    → is_own_tuple (sizes_of u) word' u.view.buckets u.view.places.owned ≡ true
own_second z x word word' to v u any low owned sizes at stored =
    let stands : standing u.view.buckets.hooks ≡ standing v.view.buckets.hooks =
    ap (λ (k : PassSight). standing k.view.buckets.hooks) stored ∙ tuple_stands (sizes_of v) word to v.view.buckets.hooks in
    let same : sizes_of u ≡ sizes_of v = ap sizes_of stored in
    own_word (sizes_of u) x word' u.view (omega (arith, any, same_count x u.view.buckets.hooks v.view.buckets.hooks stands))
    (same_up (place_of x) u.view.buckets.hooks v.view.buckets.hooks stands ∙ low) (ap (λ (k : PassSight). is_among (place_of x) k.view.places.owned) stored ∙ owned)
    (or_right (first_word (sizes_of u) x == word') (second_word (sizes_of u) x == word')
    (eq-eqb (second_word (sizes_of u) x) word' (sym (at ∙ ap (λ (y : Sizes). second_word y x) (sizes ∙ sym same)))))

-- the two stores of a tuple
pub tuple_done : (z : Sizes) (x first second word word' : ℕ) (t : Tuple) (v u w : PassSight) → z ≡ sizes_of v → 0 < x → 0 < hooks_of x v.view.buckets.hooks
    → word ≡ first_word z x → word' ≡ second_word z x → record { first = first; second = second } ≡ pair_of t
    → u ≡ record v { view = tuple_stored word first v.view } → w ≡ record u { view = tuple_stored word' second u.view } → StoresTuple x t v w
tuple_done z x first second word word' t v u w sizes some any word_is word_is' tuple stored stored' =
    let at : word ≡ first_word (sizes_of v) x = word_is ∙ ap (λ (y : Sizes). first_word y x) sizes in
    let at' : word' ≡ second_word (sizes_of v) x = word_is' ∙ ap (λ (y : Sizes). second_word y x) sizes in
    let whole : w ≡ record v { view = tuple_stored word' second (tuple_stored word first v.view) } = stored' ∙ ap (λ (k : PassSight). record k { view = tuple_stored word' second k.view }) stored in
    let hooks : w.view.buckets.hooks ≡ map (tuple_in (sizes_of v) (second_word (sizes_of v) x) second) (map (tuple_in (sizes_of v) (first_word (sizes_of v) x) first) v.view.buckets.hooks) =
    ap (λ (k : PassSight). k.view.buckets.hooks) whole ∙ (λ i. map (tuple_in (sizes_of v) (at' i) second) (map (tuple_in (sizes_of v) (at i) first) v.view.buckets.hooks)) in
    record {
      same = whole ∙ (λ i. record v {
        view = record v.view {
          buckets = record v.view.buckets { hooks = sym (ap (λ (k : PassSight). k.view.buckets.hooks) whole) i };
          readings = sym (ap (λ (k : PassSight). k.view.readings) whole) i;
        };
      });
      stands = ap standing hooks
          ∙ tuple_stands (sizes_of v) (second_word (sizes_of v) x) second (map (tuple_in (sizes_of v) (first_word (sizes_of v) x) first) v.view.buckets.hooks)
          ∙ tuple_stands (sizes_of v) (first_word (sizes_of v) x) first v.view.buckets.hooks;
      pair = ap (pair_at x) hooks ∙ both_pair (sizes_of v) x first second v.view.buckets.hooks any ∙ tuple;
      others = λ y some' other. ap (pair_at y) hooks ∙ both_else (sizes_of v) x y first second v.view.buckets.hooks some some' other;
    }
