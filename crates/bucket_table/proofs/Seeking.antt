-- A walk along a locked chain to the link of one direction that has a tuple.
use Rattle.std.proofs.Common.{◌≡◌, ◌≢◌, ℕ, ◌-◌, ◌<◌, Bool, true, false, Some, None, List, [], ◌∷◌, sym, ap, subst, ◌∙◌, arith}
use Rattle.std.specs.Prelude.{◌==◌, ◌&&◌, if◌then◌else◌}
use Rattle.history_book.specs.declared.sizes.Sizes.{Sizes}
use Rattle.track_rule.specs.BucketSteps.{IsChainOf, IsShutAt, LoadsLink}
use Rattle.track_rule.specs.Chains.{chain_in, shuts_of}
use Rattle.track_rule.specs.Layout.{head_word, next_word, side_of}
use Rattle.track_rule.specs.Links.{last_link}
use Rattle.track_rule.specs.Sights.{PassSight, sizes_of}
use Rattle.track_rule.specs.declared.view.ChainLink.{ChainLink}
use Rattle.track_rule.specs.declared.view.HeldBuckets.{HeldBuckets}
use Rattle.track_rule.specs.declared.view.View.{View}
use Rattle.bucket_table.specs.Following.{has_words}
use Rattle.bucket_table.specs.LockedChain.{IsLooking, IsPassing, OnlyLoads, link_with}
use Rattle.bucket_table.proofs.Passing.{passing_on, passing_some, passing_start}

-- loads leave how far the walk is
passing_after : (b link left : ℕ) (passed rest : List ChainLink) (v w : PassSight) → OnlyLoads v w → IsPassing b v link left passed rest → IsPassing b w link left passed rest
passing_after b link left passed rest v w loads p =
    let buckets : w.view.buckets ≡ v.view.buckets = ap (λ (k : PassSight). k.view.buckets) loads.same in
    let sizes : sizes_of w ≡ sizes_of v = ap sizes_of loads.same in
    record {
      at = record {
        mine = omega (arith, p.at.mine, ap (λ (k : HeldBuckets). shuts_of b (record v.view { buckets = k })) buckets);
        all = ap (λ (k : HeldBuckets). chain_in b k.shut) buckets ∙ p.at.all;
      };
      link_is = p.link_is;
      count = p.count ∙ ap last_link (sym sizes);
      low = omega (arith, p.low, ap last_link sizes);
      right = subst (λ (k : HeldBuckets). IsChainOf (sizes_of w) b (chain_in b k.shut)) (sym buckets) (subst (λ (y : Sizes). IsChainOf y b (chain_in b v.view.buckets.shut)) (sym sizes) p.right);
    }

-- the load of the head
pub look_start : (z : Sizes) (b side n word first second : ℕ) (v w : PassSight) → z ≡ sizes_of v → word ≡ head_word z b → b < (sizes_of v).buckets → 0 < shuts_of b v.view
    → LoadsLink word v.view n w.view → w ≡ record v { view = w.view } → IsLooking b side first second w n (last_link z)
look_start z b side n word first second v w same word_is below mine loads kept =
    let here : word ≡ head_word (sizes_of v) b = word_is ∙ ap (λ (y : Sizes). head_word y b) same in
    let buckets : w.view.buckets ≡ v.view.buckets = ap (λ (k : View). k.buckets) loads.view in
    record {
      passed = [];
      rest = chain_in b v.view.buckets.shut;
      passing = subst (λ (k : ℕ). IsPassing b w n k [] (chain_in b v.view.buckets.shut)) (ap last_link (sym same))
          (passing_start b n v w below mine (subst (λ (k : ℕ). LoadsLink k v.view n w.view) here loads) kept);
      finds = ap (λ (s : HeldBuckets). link_with side first second (chain_in b s.shut)) buckets;
    }

pub look_some : (b side first second link left : ℕ) (v : PassSight) → IsLooking b side first second v link left → link ≢ 0 → (0 < link) × (0 < left)
look_some b side first second link left v s some_link = by_rest s.passed s.rest s.passing
  where
    by_rest : (passed rest : List ChainLink) → IsPassing b v link left passed rest → (0 < link) × (0 < left)
    by_rest passed [] p = absurd (some_link p.link_is)
    by_rest passed (e ∷ rest) p = passing_some b link left e passed rest v p

-- one link more, which is not the one
pub look_on : (b side first second link left n word : ℕ) (has : Bool) (o v w : PassSight) → b < (sizes_of o).buckets → IsLooking b side first second o link left → link ≢ 0
    → OnlyLoads o v
    → ((passed : List ChainLink) (e : ChainLink) (rest : List ChainLink) → IsShutAt b o.view passed (e ∷ rest) → link ≡ e.link → has ≡ has_words first second e)
    → (has && side_of link == side) ≡ false → word ≡ next_word (sizes_of o) link → LoadsLink word v.view n w.view → w ≡ record v { view = w.view }
    → IsLooking b side first second w n (left - 1)
look_on b side first second link left n word has o v w below s some_link loads there other word_is next kept = by_rest s.passed s.rest s.passing s.finds
  where
    by_rest : (passed rest : List ChainLink) → IsPassing b o link left passed rest → link_with side first second (chain_in b o.view.buckets.shut) ≡ link_with side first second rest
        → IsLooking b side first second w n (left - 1)
    by_rest passed [] p finds = absurd (some_link p.link_is)
    by_rest passed (e ∷ rest) p finds =
        let sizes : sizes_of v ≡ sizes_of o = ap sizes_of loads.same in
        let here : has ≡ has_words first second e = there passed e rest (record { mine = p.at.mine; all = p.at.all }) p.link_is in
        let away : (has_words first second e && side_of e.link == side) ≡ false = (λ i. sym here i && side_of (sym p.link_is i) == side) ∙ other in
        record {
          passed = e ∷ passed;
          rest = rest;
          passing = passing_on b link left n e passed rest v w (subst (λ (y : Sizes). b < y.buckets) (sym sizes) below) (passing_after b link left passed (e ∷ rest) o v loads p)
              (subst (λ (k : ℕ). LoadsLink k v.view n w.view) (word_is ∙ ap (λ (y : Sizes). next_word y link) (sym sizes)) next) kept;
          finds = ap (λ (k : View). link_with side first second (chain_in b k.buckets.shut)) next.view
              ∙ ap (λ (k : PassSight). link_with side first second (chain_in b k.view.buckets.shut)) loads.same ∙ finds
              ∙ ap (λ (k : Bool). if k then Some e.link else link_with side first second rest) away;
        }

-- the one is found
pub look_found : (b side first second link left : ℕ) (has : Bool) (v : PassSight) → IsLooking b side first second v link left → link ≢ 0
    → ((passed : List ChainLink) (e : ChainLink) (rest : List ChainLink) → IsShutAt b v.view passed (e ∷ rest) → link ≡ e.link → has ≡ has_words first second e)
    → (has && side_of link == side) ≡ true → link_with side first second (chain_in b v.view.buckets.shut) ≡ Some link
look_found b side first second link left has v s some_link there here = by_rest s.passed s.rest s.passing s.finds
  where
    by_rest : (passed rest : List ChainLink) → IsPassing b v link left passed rest → link_with side first second (chain_in b v.view.buckets.shut) ≡ link_with side first second rest
        → link_with side first second (chain_in b v.view.buckets.shut) ≡ Some link
    by_rest passed [] p finds = absurd (some_link p.link_is)
    by_rest passed (e ∷ rest) p finds =
        finds
        ∙ ap (λ (k : Bool). if k then Some e.link else link_with side first second rest)
        ((λ i. sym (there passed e rest (record { mine = p.at.mine; all = p.at.all }) p.link_is) i && side_of (sym p.link_is i) == side) ∙ here)
        ∙ ap (λ (k : ℕ). Some k) (sym p.link_is)

-- at the end there is none
pub look_end : (b side first second link left : ℕ) (v : PassSight) → IsLooking b side first second v link left → link ≡ 0
    → link_with side first second (chain_in b v.view.buckets.shut) ≡ None
look_end b side first second link left v s none = by_rest s.passed s.rest s.passing s.finds
  where
    by_rest : (passed rest : List ChainLink) → IsPassing b v link left passed rest → link_with side first second (chain_in b v.view.buckets.shut) ≡ link_with side first second rest
        → link_with side first second (chain_in b v.view.buckets.shut) ≡ None
    by_rest passed [] p finds = finds
    by_rest passed (e ∷ rest) p finds = absurd (omega (arith, none, (passing_some b link left e passed rest v p).0))
