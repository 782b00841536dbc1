-- Both links of a place, one after the other; and a walk along a locked chain.
use Rattle.std.proofs.Common.{◌≡◌, ◌≢◌, ℕ, suc, ◌+◌, ◌-◌, ◌<◌, ◌≤◌, Bool, true, false, Option, Some, None, List, [], ◌∷◌, map, refl, sym, ap, subst, ◌∙◌, ⊎_elim, inl, inr, ◌⊎◌, arith}
use mathlib.Core.Option.{some}
use lib.ListN.{get_elem?}
use Rattle.std.specs.Prelude.{◌==◌, ◌&&◌, ◌||◌, not, if◌then◌else◌}
use Rattle.std.proofs.lemmas.Bool.{cases_Bool, cases_eq, cond_both, eq-eqb, eqb-true, ne_eqb}
use Rattle.history_book.specs.declared.sizes.Sizes.{Sizes}
use Rattle.tuple_core.specs.declared.Direction.{Direction}
use Rattle.tuple_core.specs.declared.Direction.TheVariants.{Original, Reply}
use Rattle.track_rule.specs.BucketSteps.{IsChainOf, IsShutAt, LoadsLink, lower, put_in, raise, taken_from, with_chain, without_link}
use Rattle.track_rule.specs.Chains.{bucket_of, chain_in, chain_link, shuts_of}
use Rattle.track_rule.specs.Layout.{head_word, next_word, place_of, side_of}
use Rattle.track_rule.specs.Links.{hook_of, is_down, is_raised, last_link}
use Rattle.track_rule.specs.Sights.{PassSight, sizes_of}
use Rattle.track_rule.specs.Sums.{bit, total}
use Rattle.track_rule.specs.declared.view.ChainLink.{ChainLink}
use Rattle.track_rule.specs.declared.view.Hook.{Hook}
use Rattle.track_rule.specs.declared.view.Shut.{Shut}
use Rattle.track_rule.specs.declared.view.HeldBuckets.{HeldBuckets}
use Rattle.track_rule.specs.declared.view.View.{View}
use Rattle.bucket_table.specs.Following.{has_words}
use Rattle.bucket_table.specs.LockedChain.{ChangesBuckets, IsPassing, IsWalking, OnlyLoads, found_from, found_in, has_bucket, hook_bucket, link_with, original_first}
use Rattle.bucket_table.specs.Locks.{AreShut, Buckets}
use Rattle.bucket_table.proofs.Passing.{passing_on, passing_some, passing_start}
use Rattle.bucket_table.proofs.Stringing.{lower_else, lower_link, raise_else, raise_link, test_map}

-- a bucket that is one of the locked ones is shut
pub bucket_shut : (locked : Buckets) (b : ℕ) (v : View) → AreShut locked v → has_bucket locked b ≡ true → 0 < shuts_of b v
bucket_shut locked b v shut e =
    ⊎_elim
    (λ (t : (b == locked.lower) ≡ true). subst (λ (k : ℕ). 0 < shuts_of k v) (sym (eqb-true b locked.lower t)) shut.lower)
    (λ (t : (b == locked.lower) ≡ false).
    subst (λ (k : ℕ). 0 < shuts_of k v) (sym (eqb-true b locked.upper (sym (ap (λ (k : Bool). k || b == locked.upper) t) ∙ e))) shut.upper)
    (cases_Bool (b == locked.lower))

-- the shut buckets stay, where a chain changes
shuts_with : (b : ℕ) (es : List ChainLink) (c : ℕ) (shut : List Shut) → total (λ (s : Shut). bit (s.bucket == c)) (with_chain b es shut) ≡ total (λ (s : Shut). bit (s.bucket == c)) shut
shuts_with b es c [] = refl
shuts_with b es c (s ∷ rest) =
    cond_both (s.bucket == b) (record s { chain = es } ∷ rest) (s ∷ with_chain b es rest)
    (λ xs. total (λ (s : Shut). bit (s.bucket == c)) xs ≡ bit (s.bucket == c) + total (λ (s : Shut). bit (s.bucket == c)) rest)
    (λ e. refl) (λ e. omega (arith, shuts_with b es c rest))

-- what of another link a change of one leaves
pub record KeepsOther (z : Sizes) (y : ℕ) (s s' : HeldBuckets) (test : ℕ → List Hook → Bool) : Type 0 where
  pub shuts : (c : ℕ) → total (λ (k : Shut). bit (k.bucket == c)) s'.shut ≡ total (λ (k : Shut). bit (k.bucket == c)) s.shut
  pub passes : test y s'.hooks ≡ test y s.hooks
  pub bucket : hook_bucket z y s'.hooks ≡ hook_bucket z y s.hooks

other_hook : (f : Hook → Hook) → ((h : Hook) → (f h).link ≡ h.link) → (x y : ℕ) → ((h : Hook) → h.link ≢ x → f h ≡ h) → y ≢ x → (hooks : List Hook)
    → hook_of y (map f hooks) ≡ hook_of y hooks
other_hook f links x y same other [] = refl
other_hook f links x y same other (h ∷ hs) =
    ap (λ (k : ℕ). if k == y then f h else hook_of y (map f hs)) (links h)
    ∙ ⊎_elim
    (λ (e : (h.link == y) ≡ true).
    ap (λ (b : Bool). if b then f h else hook_of y (map f hs)) e ∙ same h (λ k. other (sym (eqb-true h.link y e) ∙ k))
    ∙ sym (ap (λ (b : Bool). if b then h else hook_of y hs) e))
    (λ (e : (h.link == y) ≡ false).
    ap (λ (b : Bool). if b then f h else hook_of y (map f hs)) e ∙ other_hook f links x y same other hs
    ∙ sym (ap (λ (b : Bool). if b then h else hook_of y hs) e))
    (cases_Bool (h.link == y))

pub put_keeps : (z : Sizes) (b x y : ℕ) (s : HeldBuckets) → y ≢ x → KeepsOther z y s (put_in b x s) is_down
put_keeps z b x y s other = record {
  shuts = λ c. shuts_with b (chain_link (hook_of x s.hooks) ∷ chain_in b s.shut) c s.shut;
  passes = test_map (raise x) (raise_link x) (λ (h : Hook). not h.up) y (λ h e. ap (λ (k : Hook). not k.up) (raise_else x h (λ k. other (sym e ∙ k)))) s.hooks;
  bucket = ap (λ (h : Hook). bucket_of z h.pair) (other_hook (raise x) (raise_link x) x y (raise_else x) other s.hooks);
}

pub take_keeps : (z : Sizes) (b x y : ℕ) (s : HeldBuckets) → y ≢ x → KeepsOther z y s (taken_from b x s) is_raised
take_keeps z b x y s other = record {
  shuts = λ c. shuts_with b (without_link x (chain_in b s.shut)) c s.shut;
  passes = test_map (lower x) (lower_link x) (λ (h : Hook). h.up) y (λ h e. ap (λ (k : Hook). k.up) (lower_else x h (λ k. other (sym e ∙ k)))) s.hooks;
  bucket = ap (λ (h : Hook). bucket_of z h.pair) (other_hook (lower x) (lower_link x) x y (lower_else x) other s.hooks);
}

-- what the first of two calls leaves for the second
pub second_of : (z : Sizes) (y : ℕ) (test : ℕ → List Hook → Bool) (change : HeldBuckets → HeldBuckets) (o u w : PassSight) → OnlyLoads o u → ChangesBuckets (change u.view.buckets) u w
    → KeepsOther z y o.view.buckets (change o.view.buckets) test
    → KeepsOther z y o.view.buckets w.view.buckets test × (sizes_of w ≡ sizes_of o)
second_of z y test change o u w loads changes keeps =
    let buckets : w.view.buckets ≡ change o.view.buckets = ap (λ (k : PassSight). k.view.buckets) changes.same ∙ ap (λ (k : PassSight). change k.view.buckets) loads.same in
    (subst (λ (s : HeldBuckets). KeepsOther z y o.view.buckets s test) (sym buckets) keeps, ap sizes_of changes.same ∙ ap sizes_of loads.same)

-- WALKS

-- what a walk finds is the original link, else the reply link
pub found_is : (first second : ℕ) (reply : ℕ) (es : List ChainLink) → 0 < reply
    → found_from first second reply es ≡ original_first (link_with 0 first second es) (Some reply)
found_is first second reply [] any =
    ap (λ (b : Bool). if b then None else Some (place_of reply, Reply)) (ne_eqb reply 0 (λ e. omega (arith, e, any)))
found_is first second reply (e ∷ es) any =
    let rest = found_is first second reply es any in
    let keep : (if reply == 0 then e.link else reply) ≡ reply = ap (λ (b : Bool). if b then e.link else reply) (ne_eqb reply 0 (λ k. omega (arith, k, any))) in
    by_tests (has_words first second e) (side_of e.link == 0) (found_from first second (if reply == 0 then e.link else reply) es)
    (ap (λ (k : ℕ). found_from first second k es) keep ∙ rest) rest
  where
    by_tests : (a b : Bool) (on : Option (ℕ × Direction)) → on ≡ original_first (link_with 0 first second es) (Some reply)
        → found_from first second reply es ≡ original_first (link_with 0 first second es) (Some reply)
        → (if a then (if b then Some (place_of e.link, Original) else on) else found_from first second reply es)
        ≡ original_first (if a && b then Some e.link else link_with 0 first second es) (Some reply)
    by_tests true true on p q = refl
    by_tests true false on p q = p
    by_tests false b on p q = q

pub finds : (first second : ℕ) (es : List ChainLink) → ((i : ℕ) (e : ChainLink) → get_elem? es i ≡ some e → 0 < e.link) → found_from first second 0 es ≡ found_in first second es
finds first second [] each = refl
finds first second (e ∷ es) each =
    let rest = finds first second es (λ i x at. each (suc i) x at) in
    by_tests (has_words first second e) (side_of e.link) (half e.link) (found_is first second e.link es (each 0 e refl)) rest
  where
    half : (x : ℕ) → (side_of x ≡ 0) ⊎ (side_of x ≡ 1)
    half x = ⊎_elim (λ (t : side_of x ≡ 0). inl t) (λ (t : side_of x ≢ 0). inr (omega (arith, t, two x))) (cases_eq (side_of x) 0)
      where
        two : (x : ℕ) → side_of x < 2
        two x = omega arith

    by_tests : (a : Bool) (d : ℕ) → (d ≡ 0) ⊎ (d ≡ 1) → found_from first second e.link es ≡ original_first (link_with 0 first second es) (Some e.link)
        → found_from first second 0 es ≡ original_first (link_with 0 first second es) (link_with 1 first second es)
        → (if a then (if d == 0 then Some (place_of e.link, Original) else found_from first second e.link es) else found_from first second 0 es)
        ≡ original_first (if a && d == 0 then Some e.link else link_with 0 first second es) (if a && d == 1 then Some e.link else link_with 1 first second es)
    by_tests false d h p q = q
    by_tests true d h p q =
        ⊎_elim
        (λ (t : d ≡ 0).
        subst (λ (k : ℕ). (if k == 0 then Some (place_of e.link, Original) else found_from first second e.link es)
        ≡ original_first (if k == 0 then Some e.link else link_with 0 first second es) (if k == 1 then Some e.link else link_with 1 first second es)) (sym t) refl)
        (λ (t : d ≡ 1).
        subst (λ (k : ℕ). (if k == 0 then Some (place_of e.link, Original) else found_from first second e.link es)
        ≡ original_first (if k == 0 then Some e.link else link_with 0 first second es) (if k == 1 then Some e.link else link_with 1 first second es)) (sym t) p)
        h

-- the load of the head begins the walk
pub walk_start : (z : Sizes) (b n word first second : ℕ) (v w : PassSight) → z ≡ sizes_of v → word ≡ head_word z b → b < (sizes_of v).buckets → 0 < shuts_of b v.view
    → LoadsLink word v.view n w.view → w ≡ record v { view = w.view } → IsWalking b first second w n (last_link z) 0
walk_start z b n word first second v w same word_is below mine loads kept =
    let here : word ≡ head_word (sizes_of v) b = word_is ∙ ap (λ (y : Sizes). head_word y b) same in
    let buckets : w.view.buckets ≡ v.view.buckets = ap (λ (k : View). k.buckets) loads.view in
    record {
      passed = [];
      rest = chain_in b v.view.buckets.shut;
      passing = subst (λ (k : ℕ). IsPassing b w n k [] (chain_in b v.view.buckets.shut)) (ap last_link (sym same))
          (passing_start b n v w below mine (subst (λ (k : ℕ). LoadsLink k v.view n w.view) here loads) kept);
      finds = ap (λ (s : HeldBuckets). found_from first second 0 (chain_in b s.shut)) buckets;
      low = omega arith;
    }

pub walk_some : (b first second link left reply : ℕ) (v : PassSight) → IsWalking b first second v link left reply → link ≢ 0 → (0 < link) × (0 < left)
walk_some b first second link left reply v s some_link = by_rest s.passed s.rest s.passing
  where
    by_rest : (passed rest : List ChainLink) → IsPassing b v link left passed rest → (0 < link) × (0 < left)
    by_rest passed [] p = absurd (some_link p.link_is)
    by_rest passed (e ∷ rest) p = passing_some b link left e passed rest v p

-- one link more
pub walk_on : (b first second link left reply n word : ℕ) (has : Bool) (o v w : PassSight) → b < (sizes_of o).buckets → IsWalking b first second o link left reply → link ≢ 0
    → OnlyLoads o v
    → ((passed : List ChainLink) (e : ChainLink) (rest : List ChainLink) → IsShutAt b o.view passed (e ∷ rest) → link ≡ e.link → has ≡ has_words first second e)
    → (has ≡ true → side_of link ≢ 0) → word ≡ next_word (sizes_of o) link → LoadsLink word v.view n w.view → w ≡ record v { view = w.view }
    → IsWalking b first second w n (left - 1) (if has then (if reply == 0 then link else reply) else reply)
walk_on b first second link left reply n word has o v w below s some_link loads there not_original word_is next kept = by_rest s.passed s.rest s.passing s.finds
  where
    by_rest : (passed rest : List ChainLink) → IsPassing b o link left passed rest → found_from first second 0 (chain_in b o.view.buckets.shut) ≡ found_from first second reply rest
        → IsWalking b first second w n (left - 1) (if has then (if reply == 0 then link else reply) else reply)
    by_rest passed [] p finds = absurd (some_link p.link_is)
    by_rest passed (e ∷ rest) p finds =
        let buckets : v.view.buckets ≡ o.view.buckets = ap (λ (k : PassSight). k.view.buckets) loads.same in
        let sizes : sizes_of v ≡ sizes_of o = ap sizes_of loads.same in
        let stand' : w.view.buckets ≡ o.view.buckets = ap (λ (k : View). k.buckets) next.view ∙ buckets in
        let sizes' : sizes_of w ≡ sizes_of o = ap sizes_of kept ∙ ap (λ (k : View). k.passes.sizes) next.view ∙ sizes in
        let p' : IsPassing b v link left passed (e ∷ rest) = record {
          at = record {
            mine = omega (arith, p.at.mine, ap (λ (k : HeldBuckets). shuts_of b (record o.view { buckets = k })) buckets);
            all = ap (λ (k : HeldBuckets). chain_in b k.shut) buckets ∙ p.at.all;
          };
          link_is = p.link_is;
          count = p.count ∙ ap last_link (sym sizes);
          low = omega (arith, p.low, ap last_link sizes);
          right = subst (λ (k : HeldBuckets). IsChainOf (sizes_of v) b (chain_in b k.shut)) (sym buckets) (subst (λ (y : Sizes). IsChainOf y b (chain_in b o.view.buckets.shut)) (sym sizes) p.right);
        } in
        let here : has ≡ has_words first second e = there passed e rest (record { mine = p.at.mine; all = p.at.all }) p.link_is in
        record {
          passed = e ∷ passed;
          rest = rest;
          passing = passing_on b link left n e passed rest v w (subst (λ (y : Sizes). b < y.buckets) (sym sizes) below) p'
              (subst (λ (k : ℕ). LoadsLink k v.view n w.view) (word_is ∙ ap (λ (y : Sizes). next_word y link) (sym sizes)) next) kept;
          finds = ap (λ (k : HeldBuckets). found_from first second 0 (chain_in b k.shut)) stand' ∙ finds
              ∙ step e rest has here (ap side_of (sym p.link_is)) p.link_is not_original;
          low = subst (λ (y : Sizes). (if has then (if reply == 0 then link else reply) else reply) ≤ last_link y) (sym sizes') (low_then has (reply == 0) p.low s.low);
        }
      where
        low_then : (a c : Bool) → link ≤ last_link (sizes_of o) → reply ≤ last_link (sizes_of o) → (if a then (if c then link else reply) else reply) ≤ last_link (sizes_of o)
        low_then true true p q = p
        low_then true false p q = q
        low_then false c p q = q

        step : (e : ChainLink) (rest : List ChainLink) (h : Bool) → h ≡ has_words first second e → side_of e.link ≡ side_of link → link ≡ e.link → (h ≡ true → side_of link ≢ 0)
            → found_from first second reply (e ∷ rest) ≡ found_from first second (if h then (if reply == 0 then link else reply) else reply) rest
        step e rest true is side link_is not_first =
            ap (λ (k : Bool). if k then (if side_of e.link == 0 then Some (place_of e.link, Original) else found_from first second (if reply == 0 then e.link else reply) rest) else found_from first second reply rest) (sym is)
            ∙ ap (λ (k : Bool). if k then Some (place_of e.link, Original) else found_from first second (if reply == 0 then e.link else reply) rest)
            (ne_eqb (side_of e.link) 0 (λ k. not_first refl (sym side ∙ k)))
            ∙ ap (λ (k : ℕ). found_from first second (if reply == 0 then k else reply) rest) (sym link_is)
        step e rest false is side link_is not_first =
            ap (λ (k : Bool). if k then (if side_of e.link == 0 then Some (place_of e.link, Original) else found_from first second (if reply == 0 then e.link else reply) rest) else found_from first second reply rest) (sym is)

-- an original link with the tuple is the answer
pub walk_found : (b first second link left reply : ℕ) (v : PassSight) → IsWalking b first second v link left reply → link ≢ 0
    → ((passed : List ChainLink) (e : ChainLink) (rest : List ChainLink) → IsShutAt b v.view passed (e ∷ rest) → link ≡ e.link → true ≡ has_words first second e)
    → side_of link ≡ 0 → found_from first second 0 (chain_in b v.view.buckets.shut) ≡ Some (place_of link, Original)
walk_found b first second link left reply v s some_link there original = by_rest s.passed s.rest s.passing s.finds
  where
    by_rest : (passed rest : List ChainLink) → IsPassing b v link left passed rest → found_from first second 0 (chain_in b v.view.buckets.shut) ≡ found_from first second reply rest
        → found_from first second 0 (chain_in b v.view.buckets.shut) ≡ Some (place_of link, Original)
    by_rest passed [] p finds = absurd (some_link p.link_is)
    by_rest passed (e ∷ rest) p finds =
        let here : true ≡ has_words first second e = there passed e rest (record { mine = p.at.mine; all = p.at.all }) p.link_is in
        finds
        ∙ ap (λ (k : Bool). if k then (if side_of e.link == 0 then Some (place_of e.link, Original) else found_from first second (if reply == 0 then e.link else reply) rest) else found_from first second reply rest) (sym here)
        ∙ ap (λ (k : Bool). if k then Some (place_of e.link, Original) else found_from first second (if reply == 0 then e.link else reply) rest)
        (eq-eqb (side_of e.link) 0 (ap side_of (sym p.link_is) ∙ original))
        ∙ ap (λ (k : ℕ). Some (place_of k, Original)) (sym p.link_is)

-- at the end the reply link is, if there is one
pub walk_end : (b first second link left reply : ℕ) (v : PassSight) → IsWalking b first second v link left reply → link ≡ 0
    → found_from first second 0 (chain_in b v.view.buckets.shut) ≡ (if reply == 0 then None else Some (place_of reply, Reply))
walk_end b first second link left reply v s none = by_rest s.passed s.rest s.passing s.finds
  where
    by_rest : (passed rest : List ChainLink) → IsPassing b v link left passed rest → found_from first second 0 (chain_in b v.view.buckets.shut) ≡ found_from first second reply rest
        → found_from first second 0 (chain_in b v.view.buckets.shut) ≡ (if reply == 0 then None else Some (place_of reply, Reply))
    by_rest passed [] p finds = finds
    by_rest passed (e ∷ rest) p finds = absurd (omega (arith, none, (passing_some b link left e passed rest v p).0))

-- what the walk finds is what is there
pub walk_finds : (b first second link left reply : ℕ) (v w : PassSight) → IsWalking b first second w link left reply → OnlyLoads v w
    → found_from first second 0 (chain_in b w.view.buckets.shut) ≡ found_in first second (chain_in b v.view.buckets.shut)
walk_finds b first second link left reply v w s loads =
    finds first second (chain_in b w.view.buckets.shut) (λ i e at. (s.passing.right.each i e at).some)
    ∙ ap (λ (k : PassSight). found_in first second (chain_in b k.view.buckets.shut)) loads.same
