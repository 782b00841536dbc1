-- What the loads of a walk leave in its note.
use Rattle.std.proofs.Common.{◌≡◌, ◌≢◌, ℕ, ◌+◌, ◌<◌, ◌≤◌, Bool, true, false, Option, Some, None, List, [], ◌∷◌, ◌++◌, refl, sym, ap, subst, ◌∙◌, arith, append_assoc}
use Rattle.std.specs.Prelude.{◌==◌, ◌&&◌, ◌||◌, not, if◌then◌else◌, nat_le}
use Rattle.std.specs.List.{list_all, slice_get}
use Rattle.std.proofs.lemmas.Bool.{and_from, and_parts, cond_both, eq-eqb, eqb-true, false≢true, le-leb, ne_eqb, or_left, or_right}
use Rattle.history_book.specs.declared.sizes.Sizes.{Sizes}
use Rattle.track_rule.specs.BucketSteps.{LoadsTuple}
use Rattle.track_rule.specs.KeptWords.{is_kept_for, link_of, pair_in}
use Rattle.track_rule.specs.Layout.{first_word, second_word}
use Rattle.track_rule.specs.Notes.{is_changed, just_met, met_read, read_then, tuple_note, tuple_noted}
use Rattle.track_rule.specs.Readings.{found, noted}
use Rattle.track_rule.specs.Sights.{PassSight, sizes_of}
use Rattle.track_rule.specs.declared.view.MetLink.{MetLink}
use Rattle.track_rule.specs.declared.view.Reading.{Reading}
use Rattle.track_rule.specs.declared.view.View.{View}
use Rattle.track_rule.specs.declared.view.Walk.{Walk}
use Rattle.bucket_table.specs.Following.{Compares, HasMet, HasPassed, WalksOn, is_of_walk, met_with, walk_on}
use Rattle.bucket_table.specs.declared.lookup.Goal.{Goal}

-- a link of which the first word was read
abbrev half_met : ℕ → ℕ → MetLink
half_met link n = record { link = link; first = Some n; second = None }

abbrev whole_met : ℕ → ℕ → ℕ → MetLink
whole_met link n m = record { link = link; first = Some n; second = Some m }

module _ (z : Sizes) (g : Goal) (link : ℕ) (before : List MetLink) where
  read_first : (n : ℕ) → tuple_noted z (first_word z link) n (walk_on g (just_met link ∷ before)) ≡ walk_on g (half_met link n ∷ before)
  read_first n =
      let here : (first_word z link == first_word z link) ≡ true = eq-eqb (first_word z link) (first_word z link) refl in
      let other : (second_word z link == first_word z link) ≡ false = ne_eqb (second_word z link) (first_word z link) (λ e. omega (arith, e)) in
      let after : Bool → Bool → Walk = λ a b. record {
        bucket = g.bucket;
        generation = g.generation;
        met = (if a then half_met link n else (if b then record (just_met link) { second = Some n } else just_met link)) ∷ before;
        ended = false;
        at = None;
        passed = (a && false) || (b && false);
      } in
      (λ i. after (here i) (other i))

  read_second : (n m : ℕ) → tuple_noted z (second_word z link) m (walk_on g (half_met link n ∷ before)) ≡ walk_on g (whole_met link n m ∷ before)
  read_second n m =
      let other : (first_word z link == second_word z link) ≡ false = ne_eqb (first_word z link) (second_word z link) (λ e. omega (arith, e)) in
      let here : (second_word z link == second_word z link) ≡ true = eq-eqb (second_word z link) (second_word z link) refl in
      let after : Bool → Bool → Walk = λ a b. record {
        bucket = g.bucket;
        generation = g.generation;
        met = (if a then half_met link n else (if b then whole_met link n m else half_met link n)) ∷ before;
        ended = false;
        at = None;
        passed = (a && not (n == m)) || (b && false);
      } in
      (λ i. after (other i) (here i))

-- one load of such a word
pub one_walk : (v w : PassSight) (word n : ℕ) (walk : Option Walk) → w ≡ record v { view = w.view }
    → w.view ≡ noted (found word n) (record v.view { walk = walk }) → 3 + (sizes_of v).buckets ≤ word → WalksOn v w
one_walk v w word n noted_is kept view high = record {
  more = found word n ∷ [];
  same = kept ∙ ap (λ (x : View). record v { view = x }) (view_is v.view w.view word n noted_is view);
  quiet = and_from (nat_le (3 + (sizes_of v).buckets) word && not false) true (and_from (nat_le (3 + (sizes_of v).buckets) word) (not false) (le-leb (3 + (sizes_of v).buckets) word high) refl) refl;
}
  where
    view_is : (v w : View) (word n : ℕ) (walk : Option Walk) → w ≡ noted (found word n) (record v { walk = walk })
        → w ≡ record v { walk = w.walk; readings = v.readings ++ found word n ∷ [] }
    view_is v w word n noted_is e = e ∙ ap (λ (o : Option Walk). record v { walk = o; readings = v.readings ++ found word n ∷ [] }) (sym (ap (λ (x : View). x.walk) e))

pub all_append : {X : Type 0} (p : X → Bool) (xs ys : List X) → list_all p xs ≡ true → list_all p ys ≡ true → list_all p (xs ++ ys) ≡ true
all_append p [] ys e f = f
all_append p (x ∷ xs) ys e f = let t = and_parts (p x) (list_all p xs) e in and_from (p x) (list_all p (xs ++ ys)) t.0 (all_append p xs ys t.1 f)

-- two walks one after the other
pub walks_on : (u v w : PassSight) → WalksOn u v → WalksOn v w → WalksOn u w
walks_on u v w a b = record {
  more = a.more ++ b.more;
  same = b.same ∙ joined u v w a.more b.more a.same;
  quiet = all_append (is_of_walk (sizes_of u)) a.more b.more a.quiet (subst (λ (z : Sizes). list_all (is_of_walk z) b.more ≡ true) (ap sizes_of a.same) b.quiet);
}
  where
    joined : (u v w : PassSight) (xs ys : List Reading) → v ≡ record u { view = record u.view { walk = v.view.walk; readings = u.view.readings ++ xs } }
        → record v { view = record v.view { walk = w.view.walk; readings = v.view.readings ++ ys } }
        ≡ record u { view = record u.view { walk = w.view.walk; readings = u.view.readings ++ (xs ++ ys) } }
    joined u v w xs ys e =
        ap (λ (x : PassSight). record x { view = record x.view { walk = w.view.walk; readings = x.view.readings ++ ys } }) e
        ∙ ap (λ (rs : List Reading). record u { view = record u.view { walk = w.view.walk; readings = rs } }) (append_assoc u.view.readings xs ys)

-- a link that was met with the tuple, after a load of a word of a tuple
module _ (z : Sizes) (g : Goal) (x word n : ℕ) (v w : View) (walk : w.walk ≡ tuple_note z word n v.walk) (h : HasMet g x v) where
  head_stays : (m : MetLink) → m ≡ met_with x g.first g.second → (if first_word z m.link == word then record m { first = read_then n m.first } else
      (if second_word z m.link == word then record m { second = read_then n m.second } else m)) ≡ met_with x g.first g.second
  head_stays m is =
      ap (λ (k : MetLink). if first_word z k.link == word then record k { first = read_then n k.first } else
      (if second_word z k.link == word then record k { second = read_then n k.second } else k)) is
      ∙ cond_both (first_word z x == word) (met_with x g.first g.second) (if second_word z x == word then met_with x g.first g.second else met_with x g.first g.second)
      (λ k. k ≡ met_with x g.first g.second) (λ e. refl)
      (λ e. cond_both (second_word z x == word) (met_with x g.first g.second) (met_with x g.first g.second) (λ k. k ≡ met_with x g.first g.second) (λ f. refl) (λ f. refl))

  met_stays : HasMet g x w
  met_stays = record {
    note = tuple_noted z word n h.note;
    walk = walk ∙ ap (tuple_note z word n) h.walk;
    is = record {
      its = record { bucket_is = h.is.its.bucket_is; generation_is = h.is.its.generation_is };
      before = h.is.before;
      met = ap (met_read z word n) h.is.met ∙ ap (λ (m : MetLink). m ∷ h.is.before) (head_stays (met_with x g.first g.second) refl);
    };
  }

  -- where it is another value
  met_lost : is_changed z word n (met_with x g.first g.second ∷ h.is.before) ≡ true → HasPassed g w
  met_lost changed = record {
    note = tuple_noted z word n h.note;
    walk = walk ∙ ap (tuple_note z word n) h.walk;
    its = record { bucket_is = h.is.its.bucket_is; generation_is = h.is.its.generation_is };
    passed = ap (λ (met : List MetLink). h.note.passed || is_changed z word n met) h.is.met ∙ or_right h.note.passed _ changed;
  }

  first_lost : word ≡ first_word z x → n ≢ g.first → HasPassed g w
  first_lost here other =
      met_lost (or_left (first_word z x == word && not (g.first == n)) (second_word z x == word && not (g.second == n))
      (and_from (first_word z x == word) (not (g.first == n)) (eq-eqb (first_word z x) word (sym here)) (ap not (ne_eqb g.first n (λ e. other (sym e))))))

  second_lost : word ≡ second_word z x → n ≢ g.second → HasPassed g w
  second_lost here other =
      met_lost (or_right (first_word z x == word && not (g.first == n)) (second_word z x == word && not (g.second == n))
      (and_from (second_word z x == word) (not (g.second == n)) (eq-eqb (second_word z x) word (sym here)) (ap not (ne_eqb g.second n (λ e. other (sym e))))))

-- the first word differs
pub compares_first : (g : Goal) (link n : ℕ) (v w : PassSight) → 0 < link → LoadsTuple (first_word (sizes_of v) link) v.view n w.view
    → w ≡ record v { view = w.view } → n ≢ g.first → Compares g link false v w
compares_first g link n v w some loads kept other = record {
  walks = one_walk v w (first_word (sizes_of v) link) n (tuple_note (sizes_of v) (first_word (sizes_of v) link) n v.view.walk) kept loads.view (omega arith);
  has = λ e. absurd (false≢true e);
  another = λ e before walk. (
    half_met link n,
    ap (λ (x : View). x.walk) loads.view ∙ ap (tuple_note (sizes_of v) (first_word (sizes_of v) link) n) walk
        ∙ ap (λ (x : Walk). Some x) (read_first (sizes_of v) g link before n),
    refl,
    ap (λ (b : Bool). not b || false) (ne_eqb n g.first other),
  );
  stays = λ x h. met_stays (sizes_of v) g x (first_word (sizes_of v) link) n v.view w.view (ap (λ (k : View). k.walk) loads.view) h;
  lost = λ e h. first_lost (sizes_of v) g link (first_word (sizes_of v) link) n v.view w.view (ap (λ (k : View). k.walk) loads.view) h refl other;
  kept = λ place id subject d held told here.
      let its : n ≡ (pair_in d subject).first = (loads.kept place id subject d held told).first (ap (first_word (sizes_of v)) here) in
      sym (ap (λ (b : Bool). b && (pair_in d subject).second == g.second) (ne_eqb (pair_in d subject).first g.first (λ e. other (its ∙ e))));
}

-- the first is the same; then the second decides
pub compares_second : (g : Goal) (link n m : ℕ) (same : Bool) (u v w : PassSight) → 0 < link → LoadsTuple (first_word (sizes_of u) link) u.view n v.view
    → v ≡ record u { view = v.view } → n ≡ g.first → LoadsTuple (second_word (sizes_of u) link) v.view m w.view
    → w ≡ record v { view = w.view } → same ≡ (m == g.second) → Compares g link same u w
compares_second g link n m same u v w some loads kept here loads' kept' decides =
    let sizes : sizes_of v ≡ sizes_of u = ap sizes_of kept ∙ ap (λ (x : View). x.passes.sizes) loads.view in
    let second : w.view.walk ≡ tuple_note (sizes_of u) (second_word (sizes_of u) link) m v.view.walk =
    ap (λ (x : View). x.walk) loads'.view ∙ ap (λ (z : Sizes). tuple_note z (second_word (sizes_of u) link) m v.view.walk) sizes in
    let whole : (before : List MetLink) → u.view.walk ≡ Some (walk_on g (just_met link ∷ before)) → w.view.walk ≡ Some (walk_on g (whole_met link n m ∷ before)) =
    λ before walk.
    second
    ∙ ap (tuple_note (sizes_of u) (second_word (sizes_of u) link) m)
    (ap (λ (x : View). x.walk) loads.view ∙ ap (tuple_note (sizes_of u) (first_word (sizes_of u) link) n) walk
    ∙ ap (λ (x : Walk). Some x) (read_first (sizes_of u) g link before n))
    ∙ ap (λ (x : Walk). Some x) (read_second (sizes_of u) g link before n m) in
    record {
      walks = walks_on u v w
          (one_walk u v (first_word (sizes_of u) link) n (tuple_note (sizes_of u) (first_word (sizes_of u) link) n u.view.walk) kept loads.view (omega arith))
          (one_walk v w (second_word (sizes_of u) link) m (tuple_note (sizes_of v) (second_word (sizes_of u) link) m v.view.walk) kept' loads'.view
          (subst (λ (z : Sizes). 3 + z.buckets ≤ second_word (sizes_of u) link) (sym sizes) (omega arith)));
      has = λ e before walk.
          whole before walk
          ∙ (λ i. Some (walk_on g (whole_met link (here i) (eqb-true m g.second (sym decides ∙ e) i) ∷ before)));
      another = λ e before walk. (
        whole_met link n m,
        whole before walk,
        refl,
        ap (λ (b : Bool). not (n == g.first) || not b) (sym decides ∙ e) ∙ or_true (not (n == g.first)),
      );
      stays = λ x h.
          met_stays (sizes_of u) g x (second_word (sizes_of u) link) m v.view w.view second
          (met_stays (sizes_of u) g x (first_word (sizes_of u) link) n u.view v.view (ap (λ (k : View). k.walk) loads.view) h);
      lost = λ e h.
          second_lost (sizes_of u) g link (second_word (sizes_of u) link) m v.view w.view second
          (met_stays (sizes_of u) g link (first_word (sizes_of u) link) n u.view v.view (ap (λ (k : View). k.walk) loads.view) h) refl
          (λ k. false≢true (sym (sym decides ∙ e) ∙ eq-eqb m g.second k));
      kept = λ place id subject d held told at.
          let first : n ≡ (pair_in d subject).first = (loads.kept place id subject d held told).first (ap (first_word (sizes_of u)) at) in
          let second : m ≡ (pair_in d subject).second =
          (loads'.kept place id subject d (ap (λ (x : View). is_kept_for place id x.places.held) loads.view ∙ held)
          (ap (λ (x : View). slice_get x.seen.front id) loads.view ∙ told)).second
          (ap (second_word (sizes_of u)) at ∙ ap (λ (z : Sizes). second_word z (link_of d place)) (sym sizes)) in
          decides ∙ ap (λ (k : ℕ). k == g.second) second
          ∙ sym (ap (λ (b : Bool). b && (pair_in d subject).second == g.second) (eq-eqb (pair_in d subject).first g.first (sym first ∙ here)));
    }
  where
    or_true : (a : Bool) → (a || true) ≡ true
    or_true true = refl
    or_true false = refl
