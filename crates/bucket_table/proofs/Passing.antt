-- A locked chain is walked, link after link.
use Rattle.std.proofs.Common.{◌≡◌, ◌≢◌, ℕ, suc, ◌+◌, ◌-◌, ◌<◌, Bool, true, List, [], ◌∷◌, length, refl, sym, ap, subst, ◌∙◌, inr, arith}
use Rattle.std.specs.Prelude.{◌||◌, not}
use Rattle.std.proofs.lemmas.Bool.{false≢true, ne_eqb}
use Rattle.std.proofs.lemmas.List.{append-nil}
use Rattle.history_book.specs.declared.sizes.Sizes.{Sizes}
use Rattle.track_rule.specs.BucketSteps.{IsChainOf, IsLinkIn, IsShutAt, LoadsLink, MayString, Strings, end_word, first_of, has_link, strung, taken_from}
use Rattle.track_rule.specs.Chains.{chain_in, shuts_of}
use Rattle.track_rule.specs.Layout.{head_word, next_word}
use Rattle.track_rule.specs.Links.{is_link_word, is_raised, last_link}
use Rattle.track_rule.specs.Notes.{link_note}
use Rattle.track_rule.specs.Readings.{found, noted}
use Rattle.track_rule.specs.Sights.{PassSight, sizes_of}
use Rattle.track_rule.specs.Sums.{Each}
use Rattle.track_rule.specs.Walks.{rev_onto}
use Rattle.track_rule.specs.declared.view.ChainLink.{ChainLink}
use Rattle.track_rule.specs.declared.view.HeldBuckets.{HeldBuckets}
use Rattle.track_rule.specs.declared.view.View.{View}
use Rattle.bucket_table.specs.LockedChain.{ChangesBuckets, IsPassing, IsSeeking, OnlyLoads, hook_bucket}
use Rattle.bucket_table.proofs.Reading.{More, more_found, more_join, more_of, more_own, more_stand, more_stored, more_weak}
use Rattle.bucket_table.proofs.Stringing.{stand_frame}

pub length_rev : (passed rest : List ChainLink) → length (rev_onto passed rest) ≡ length passed + length rest
length_rev [] rest = omega arith
length_rev (p ∷ ps) rest = omega (arith, length_rev ps (p ∷ rest))

each_behind : (F : ChainLink → Type 0) (passed rest : List ChainLink) → Each F (rev_onto passed rest) → Each F rest
each_behind F [] rest e = e
each_behind F (p ∷ ps) rest e = λ i x at. each_behind F ps (p ∷ rest) e (suc i) x at

-- what a call that only loads adds
pub loads_more : (v w : PassSight) → OnlyLoads v w → More (λ word. true) v.view.readings w.view.readings
loads_more v w a = more_of (λ word. true) v.view.readings w.view.readings a.stand a.own

more_loads : (u v w : PassSight) → OnlyLoads u v → OnlyLoads v w → More (λ word. true) u.view.readings w.view.readings
more_loads u v w a b = more_join (λ word. true) u.view.readings v.view.readings w.view.readings (loads_more u v a) (loads_more v w b)

-- a pass that only loads stays as it was
pub loads_join : (u v w : PassSight) → OnlyLoads u v → OnlyLoads v w → OnlyLoads u w
loads_join u v w a b = record {
  same = b.same ∙ ap (λ (x : PassSight). record x { view = record x.view { walk = w.view.walk; readings = w.view.readings } }) a.same;
  stand = more_stand (λ word. true) u.view.readings w.view.readings (more_loads u v w a b);
  own = more_own (λ word. true) u.view.readings w.view.readings (more_loads u v w a b);
}

-- no load
pub no_loads : (v : PassSight) → OnlyLoads v v
no_loads v =
    let none : More (λ k. true) v.view.readings v.view.readings = record { more = []; all = sym (append-nil v.view.readings); own = refl } in
    record {
      same = refl;
      stand = more_stand (λ k. true) v.view.readings v.view.readings none;
      own = more_own (λ k. true) v.view.readings v.view.readings none;
    }

-- one load
pub load_only : (v w : PassSight) (word n : ℕ) → w ≡ record v { view = w.view } → LoadsLink word v.view n w.view → OnlyLoads v w
load_only v w word n kept loads =
    let one : More (λ k. true) v.view.readings w.view.readings =
    more_found (λ k. true) word n v.view.readings w.view.readings (ap (λ (x : View). x.readings) loads.view) in
    record {
      same = kept ∙ ap (λ (x : View). record v { view = x }) (stand_frame v.view w.view v.view.buckets _ _ loads.view);
      stand = more_stand (λ k. true) v.view.readings w.view.readings one;
      own = more_own (λ k. true) v.view.readings w.view.readings one;
    }

-- a call that only loads changes no words but those of links
pub loads_links : (z : Sizes) (v w : PassSight) → OnlyLoads v w → More (λ word. not (is_link_word z word)) v.view.readings w.view.readings
loads_links z v w a = more_weak (λ word. true) (λ word. not (is_link_word z word)) v.view.readings w.view.readings (λ word e. refl) (loads_more v w a)

-- and neither does one that puts links in or takes them out
pub links_more : (b : HeldBuckets) (v w : PassSight) → ChangesBuckets b v w → More (λ word. not (is_link_word (sizes_of v) word)) v.view.readings w.view.readings
links_more b v w a = more_of (λ word. not (is_link_word (sizes_of v) word)) v.view.readings w.view.readings a.stand a.own

-- first loads, and then two changes
pub changes_join : (b c d : HeldBuckets) (o u v w : PassSight) → OnlyLoads o u → ChangesBuckets b u v → ChangesBuckets c v w → c ≡ d → ChangesBuckets d o w
changes_join b c d o u v w loads first second same = record {
  same = second.same
      ∙ ap (λ (x : PassSight). record x { view = record x.view { buckets = c; walk = w.view.walk; readings = w.view.readings } }) (first.same
      ∙ ap (λ (x : PassSight). record x { view = record x.view { buckets = b; walk = v.view.walk; readings = v.view.readings } }) loads.same)
      ∙ ap (λ (s : HeldBuckets). record o { view = record o.view { buckets = s; walk = w.view.walk; readings = w.view.readings } }) same;
  stand = more_stand (λ word. not (is_link_word (sizes_of o) word)) o.view.readings w.view.readings (whole b c o u v w loads first second);
  own = more_own (λ word. not (is_link_word (sizes_of o) word)) o.view.readings w.view.readings (whole b c o u v w loads first second);
}
  where
    whole : (b c : HeldBuckets) (o u v w : PassSight) → OnlyLoads o u → ChangesBuckets b u v → ChangesBuckets c v w
        → More (λ word. not (is_link_word (sizes_of o) word)) o.view.readings w.view.readings
    whole b c o u v w loads first second =
        let sizes : sizes_of u ≡ sizes_of o = ap sizes_of loads.same in
        let sizes' : sizes_of v ≡ sizes_of o = ap sizes_of first.same ∙ sizes in
        more_join (λ word. not (is_link_word (sizes_of o) word)) o.view.readings u.view.readings w.view.readings (loads_links (sizes_of o) o u loads)
        (more_join (λ word. not (is_link_word (sizes_of o) word)) u.view.readings v.view.readings w.view.readings
        (subst (λ (z : Sizes). More (λ word. not (is_link_word z word)) u.view.readings v.view.readings) sizes (links_more b u v first))
        (subst (λ (z : Sizes). More (λ word. not (is_link_word z word)) v.view.readings w.view.readings) sizes' (links_more c v w second)))

-- first loads, and then a change
pub changes_after : (b d : HeldBuckets) (o u w : PassSight) → OnlyLoads o u → ChangesBuckets b u w → b ≡ d → ChangesBuckets d o w
changes_after b d o u w loads change same =
    let more : More (λ word. not (is_link_word (sizes_of o) word)) o.view.readings w.view.readings =
    more_join (λ word. not (is_link_word (sizes_of o) word)) o.view.readings u.view.readings w.view.readings (loads_links (sizes_of o) o u loads)
    (subst (λ (z : Sizes). More (λ word. not (is_link_word z word)) u.view.readings w.view.readings) (ap sizes_of loads.same) (links_more b u w change)) in
    record {
      same = change.same
          ∙ ap (λ (x : PassSight). record x { view = record x.view { buckets = b; walk = w.view.walk; readings = w.view.readings } }) loads.same
          ∙ ap (λ (s : HeldBuckets). record o { view = record o.view { buckets = s; walk = w.view.walk; readings = w.view.readings } }) same;
      stand = more_stand (λ word. not (is_link_word (sizes_of o) word)) o.view.readings w.view.readings more;
      own = more_own (λ word. not (is_link_word (sizes_of o) word)) o.view.readings w.view.readings more;
    }

-- the load of the head
pub passing_start : (b n : ℕ) (v w : PassSight) → b < (sizes_of v).buckets → 0 < shuts_of b v.view → LoadsLink (head_word (sizes_of v) b) v.view n w.view
    → w ≡ record v { view = w.view } → IsPassing b w n (last_link (sizes_of v)) [] (chain_in b v.view.buckets.shut)
passing_start b n v w below mine loads kept =
    let buckets : w.view.buckets ≡ v.view.buckets = ap (λ (k : View). k.buckets) loads.view in
    let sizes : sizes_of w ≡ sizes_of v = ap sizes_of kept ∙ ap (λ (k : View). k.passes.sizes) loads.view in
    record {
      at = record { mine = omega (arith, mine, ap (λ (s : HeldBuckets). shuts_of b (record v.view { buckets = s })) buckets); all = ap (λ (s : HeldBuckets). chain_in b s.shut) buckets };
      link_is = loads.next b [] (chain_in b v.view.buckets.shut) below (record { mine = mine; all = refl }) refl;
      count = omega (arith, ap last_link sizes);
      low = omega (arith, loads.link, ap last_link sizes);
      right = subst (λ (k : HeldBuckets). IsChainOf (sizes_of w) b (chain_in b k.shut)) (sym buckets) (subst (λ (y : Sizes). IsChainOf y b (chain_in b v.view.buckets.shut)) (sym sizes) (loads.whole b below mine));
    }

-- the load of the next link
pub passing_on : (b link left n : ℕ) (e : ChainLink) (passed rest : List ChainLink) (v w : PassSight) → b < (sizes_of v).buckets → IsPassing b v link left passed (e ∷ rest)
    → LoadsLink (next_word (sizes_of v) link) v.view n w.view → w ≡ record v { view = w.view } → IsPassing b w n (left - 1) (e ∷ passed) rest
passing_on b link left n e passed rest v w below p loads kept =
    let buckets : w.view.buckets ≡ v.view.buckets = ap (λ (k : View). k.buckets) loads.view in
    let sizes : sizes_of w ≡ sizes_of v = ap sizes_of kept ∙ ap (λ (k : View). k.passes.sizes) loads.view in
    record {
      at = record { mine = omega (arith, p.at.mine, ap (λ (s : HeldBuckets). shuts_of b (record v.view { buckets = s })) buckets); all = ap (λ (s : HeldBuckets). chain_in b s.shut) buckets ∙ p.at.all };
      link_is = loads.next b (e ∷ passed) rest below (record { mine = p.at.mine; all = p.at.all }) (ap (next_word (sizes_of v)) p.link_is);
      count = omega (arith, p.count, some_left b link left e passed rest v p, ap last_link sizes);
      low = omega (arith, loads.link, ap last_link sizes);
      right = subst (λ (k : HeldBuckets). IsChainOf (sizes_of w) b (chain_in b k.shut)) (sym buckets) (subst (λ (y : Sizes). IsChainOf y b (chain_in b v.view.buckets.shut)) (sym sizes) p.right);
    }
  where
    some_left : (b link left : ℕ) (e : ChainLink) (passed rest : List ChainLink) (v : PassSight) → IsPassing b v link left passed (e ∷ rest) → 0 < left
    some_left b link left e passed rest v p = omega (arith, p.count, p.right.few, ap (λ (es : List ChainLink). length es) p.at.all, length_rev passed (e ∷ rest))

-- what is there of the next link
pub passing_some : (b link left : ℕ) (e : ChainLink) (passed rest : List ChainLink) (v : PassSight) → IsPassing b v link left passed (e ∷ rest) → (0 < link) × (0 < left)
passing_some b link left e passed rest v p =
    let each = each_behind (IsLinkIn (sizes_of v) b) passed (e ∷ rest) (subst (Each (IsLinkIn (sizes_of v) b)) p.at.all p.right.each) in (
      omega (arith, p.link_is, (each 0 e refl).some),
      omega (arith, p.count, p.right.few, ap (λ (es : List ChainLink). length es) p.at.all, length_rev passed (e ∷ rest)),
    )

-- SEEKING A LINK

pub seek_start : (z : Sizes) (b x n word : ℕ) (v w : PassSight) → z ≡ sizes_of v → word ≡ head_word z b → b < (sizes_of v).buckets → 0 < shuts_of b v.view
    → is_raised x v.view.buckets.hooks ≡ true → hook_bucket (sizes_of v) x v.view.buckets.hooks ≡ b
    → LoadsLink word v.view n w.view → w ≡ record v { view = w.view } → IsSeeking b x w word n (last_link z)
seek_start z b x n word v w same word_is below mine up placed loads kept =
    let sizes : sizes_of w ≡ sizes_of v = ap sizes_of kept ∙ ap (λ (k : View). k.passes.sizes) loads.view in
    let here : word ≡ head_word (sizes_of v) b = word_is ∙ ap (λ (y : Sizes). head_word y b) same in
    let p = passing_start b n v w below mine (subst (λ (k : ℕ). LoadsLink k v.view n w.view) here loads) kept in
    record {
      passed = [];
      rest = chain_in b v.view.buckets.shut;
      passing = subst (λ (k : ℕ). IsPassing b w n k [] (chain_in b v.view.buckets.shut)) (ap last_link (sym same)) p;
      word_is = here ∙ ap (λ (y : Sizes). head_word y b) (sym sizes);
      there = loads.up b x below mine up placed;
    }

-- the link is not this one
pub seek_on : (b x word link left n word' : ℕ) (v w : PassSight) → b < (sizes_of v).buckets → IsSeeking b x v word link left → link ≢ x
    → word' ≡ next_word (sizes_of v) link → LoadsLink word' v.view n w.view → w ≡ record v { view = w.view } → IsSeeking b x w word' n (left - 1)
seek_on b x word link left n word' v w below s other word_is loads kept = by_rest s.passed s.rest s.passing s.there
  where
    by_rest : (passed rest : List ChainLink) → IsPassing b v link left passed rest → has_link x rest ≡ true → IsSeeking b x w word' n (left - 1)
    by_rest passed [] p there = absurd (false≢true there)
    by_rest passed (e ∷ rest) p there =
        let sizes : sizes_of w ≡ sizes_of v = ap sizes_of kept ∙ ap (λ (k : View). k.passes.sizes) loads.view in
        record {
          passed = e ∷ passed;
          rest = rest;
          passing = passing_on b link left n e passed rest v w below p (subst (λ (k : ℕ). LoadsLink k v.view n w.view) word_is loads) kept;
          word_is = word_is ∙ (λ i. next_word (sym sizes i) (p.link_is i));
          there = sym (ap (λ (k : Bool). k || has_link x rest) (ne_eqb e.link x (λ k. other (p.link_is ∙ k)))) ∙ there;
        }

pub seek_some : (b x word link left : ℕ) (v : PassSight) → IsSeeking b x v word link left → (0 < link) × (0 < left)
seek_some b x word link left v s = by_rest s.passed s.rest s.passing s.there
  where
    by_rest : (passed rest : List ChainLink) → IsPassing b v link left passed rest → has_link x rest ≡ true → (0 < link) × (0 < left)
    by_rest passed [] p there = absurd (false≢true there)
    by_rest passed (e ∷ rest) p there = passing_some b link left e passed rest v p

-- it is this one: it may be taken out
pub take_may : (b x word left n word' : ℕ) (v w : PassSight) → b < (sizes_of v).buckets → IsSeeking b x v word x left → is_raised x v.view.buckets.hooks ≡ true
    → word' ≡ next_word (sizes_of v) x → LoadsLink word' v.view n w.view → w ≡ record v { view = w.view }
    → MayString word n w.view × ((y : View) → Strings word n w.view y → y ≡ strung word n (taken_from b x v.view.buckets) w.view)
take_may b x word left n word' v w below s up word_is loads kept = by_rest s.passed s.rest s.passing s.there s.word_is
  where
    by_rest : (passed rest : List ChainLink) → IsPassing b v x left passed rest → has_link x rest ≡ true → word ≡ end_word (sizes_of v) b passed
        → MayString word n w.view × ((y : View) → Strings word n w.view y → y ≡ strung word n (taken_from b x v.view.buckets) w.view)
    by_rest passed [] p there end = absurd (false≢true there)
    by_rest passed (e ∷ rest) p there end =
        let buckets : w.view.buckets ≡ v.view.buckets = ap (λ (k : View). k.buckets) loads.view in
        let sizes : w.view.passes.sizes ≡ sizes_of v = ap (λ (k : View). k.passes.sizes) loads.view in
        let next : n ≡ first_of rest =
        loads.next b (e ∷ passed) rest below (record { mine = p.at.mine; all = p.at.all }) (word_is ∙ ap (next_word (sizes_of v)) p.link_is) in
        let here : IsShutAt b w.view passed (e ∷ rest) = record {
          mine = omega (arith, p.at.mine, ap (λ (k : HeldBuckets). shuts_of b (record v.view { buckets = k })) buckets);
          all = ap (λ (k : HeldBuckets). chain_in b k.shut) buckets ∙ p.at.all;
        } in
        let end' : word ≡ end_word w.view.passes.sizes b passed = end ∙ ap (λ (y : Sizes). end_word y b passed) (sym sizes) in
        let below' : b < w.view.passes.sizes.buckets = subst (λ (y : Sizes). b < y.buckets) (sym sizes) below in (
          inr (inr (record {
            bucket = b;
            below = below';
            passed = passed;
            link = e;
            rest = rest;
            at = here;
            word_is = end';
            to_is = next;
            up = (λ i. is_raised (sym p.link_is i) (buckets i).hooks) ∙ up;
          })),
          λ y strings. strings.cuts b passed e rest below' here end' next ∙ (λ i. strung word n (taken_from b (sym p.link_is i) (buckets i)) w.view),
        )

pub take_done : (b x word n word' : ℕ) (o v w y : PassSight) → is_link_word (sizes_of o) word ≡ true → OnlyLoads o v → LoadsLink word' v.view n w.view → w ≡ record v { view = w.view }
    → y.view ≡ strung word n (taken_from b x v.view.buckets) w.view → y ≡ record w { view = y.view } → ChangesBuckets (taken_from b x o.view.buckets) o y
take_done b x word n word' o v w y link only loads kept cut kept' =
    let whole : y.view ≡ strung word n (taken_from b x v.view.buckets) (noted (found word' n) (record v.view { walk = link_note (sizes_of v) word' n v.view.walk })) =
    cut ∙ ap (strung word n (taken_from b x v.view.buckets)) loads.view in
    let more : More (λ k. not (is_link_word (sizes_of o) k)) o.view.readings y.view.readings =
    more_join (λ k. not (is_link_word (sizes_of o) k)) o.view.readings w.view.readings y.view.readings
    (loads_links (sizes_of o) o w (loads_join o v w only (load_only v w word' n kept loads)))
    (more_stored (λ k. not (is_link_word (sizes_of o) k)) word n w.view.readings y.view.readings (ap not link) (ap (λ (k : View). k.readings) cut)) in
    record {
      stand = more_stand (λ k. not (is_link_word (sizes_of o) k)) o.view.readings y.view.readings more;
      own = more_own (λ k. not (is_link_word (sizes_of o) k)) o.view.readings y.view.readings more;
      same = kept' ∙ ap (λ (k : PassSight). record k { view = y.view }) kept
          ∙ ap (λ (k : View). record v { view = k }) (stand_frame v.view y.view (taken_from b x v.view.buckets) _ _ whole)
          ∙ (λ i. record (only.same i) { view = record (only.same i).view { buckets = taken_from b x (ap (λ (k : PassSight). k.view.buckets) only.same i); walk = y.view.walk; readings = y.view.readings } });
    }
