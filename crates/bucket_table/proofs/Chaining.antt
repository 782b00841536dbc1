-- The words that are changed where links are put in and taken out, and where buckets are locked.
use Rattle.std.specs.Prelude.{◌==◌, ◌||◌, is_some, nat_le, nat_lt, not}
use Rattle.std.proofs.Common.{◌≡◌, ℕ, ◌+◌, ◌*◌, ◌<◌, ◌≤◌, Bool, true, false, Some, None, List, [], ◌∷◌, refl, sym, ap, ◌∙◌, subst, arith}
use Rattle.std.proofs.lemmas.Bool.{and_from, and_parts, eq-eqb, eqb-true, false≢true, le-leb, lt-ltb, not-false, or_left, or_right}
use Rattle.history_book.specs.declared.sizes.Sizes.{Sizes}
use Rattle.track_rule.specs.BucketSteps.{LoadsLink, Strings, end_word}
use Rattle.track_rule.specs.ChangesOnly.{ChangesWords, changes_only, either, is_gen_of, is_head_of, is_next_of, is_of_kind, is_refs_of, is_some_next, is_some_refs, no_word}
use Rattle.track_rule.specs.Layout.{gen_word, head_word, next_word, place_of, refs_word}
use Rattle.tuple_core.specs.declared.Tuple.{Tuple}
use Rattle.bucket_table.specs.Finding.{FindOnceSays, once_words}
use Rattle.bucket_table.specs.declared.finding.FindOnce.{FindOnce}
use Rattle.bucket_table.specs.declared.finding.FindOnce.TheVariants.{Found, Absent, Moved}
use Rattle.track_rule.specs.Links.{kind_of}
use Rattle.track_rule.specs.Readings.{added, changes, found, stored}
use Rattle.track_rule.specs.Sights.{PassSight, sizes_of}
use Rattle.track_rule.specs.declared.view.ChainLink.{ChainLink}
use Rattle.track_rule.specs.declared.view.Reading.{Reading}
use Rattle.track_rule.specs.declared.view.View.{View}
use Rattle.bucket_table.specs.GoesOn.{ReadingsStand}
use Rattle.bucket_table.specs.LockedChain.{OnlyLoads, heads_of, link_words, unlink_words}
use Rattle.bucket_table.specs.Locks.{Buckets, is_else}
use Rattle.track_rule.specs.ChangeLaws.{by_loads, by_own, by_reading, in_either, in_one, in_other, joined, weaker}

-- one load
pub load_words : (f : Sizes → Reading → Bool) (word n : ℕ) (v w : View) → LoadsLink word v n w → ChangesWords f v w
load_words f word n v w loads =
    by_reading f (found word n) v w (ap (λ (x : View). x.passes.sizes) loads.view) (ap (λ (x : View). x.readings) loads.view) refl

pub only_words : (f : Sizes → Reading → Bool) (v w : PassSight) → OnlyLoads v w → ChangesWords f v.view w.view
only_words f v w only = by_loads f v.view w.view (ap sizes_of only.same) only.stand only.own

-- one store
string_words : (f : Sizes → Reading → Bool) (word n : ℕ) (v w : View) → Strings word n v w → f v.passes.sizes (stored word n) ≡ true → ChangesWords f v w
string_words f word n v w strings may =
    by_reading f (stored word n) v w (ap (λ (x : View). x.passes.sizes) strings.same) (ap (λ (x : View). x.readings) strings.same) may

pub head_in : (z s : Sizes) (word b n : ℕ) → s ≡ z → b < z.buckets → word ≡ head_word s b → is_head_of b z (stored word n) ≡ true
head_in z s word b n same below e =
    and_from (nat_lt b z.buckets) (word == head_word z b) (lt-ltb b z.buckets below) (eq-eqb word (head_word z b) (e ∙ ap (λ (k : Sizes). head_word k b) same))

pub next_in : (z s : Sizes) (word x n : ℕ) → s ≡ z → word ≡ next_word s x → is_next_of (place_of x) z (stored word n) ≡ true
next_in z s word x n same e =
    let here : word ≡ next_word z x = e ∙ ap (λ (k : Sizes). next_word k x) same in
    and_from (nat_le (refs_word z (place_of x) + 7) word) (nat_lt word (refs_word z (place_of x) + 9)) (le-leb (refs_word z (place_of x) + 7) word (omega (arith, here)))
    (lt-ltb word (refs_word z (place_of x) + 9) (omega (arith, here)))

some_next : (z : Sizes) (word x n : ℕ) → word ≡ next_word z x → is_some_next z (stored word n) ≡ true
some_next z word x n e = subst (λ (k : ℕ). is_some_next z (stored k n) ≡ true) (sym e) (by_side (side x) (side_low x) refl)
  where
    side : ℕ → ℕ
    side y = kind_of z (next_word z y)

    side_low : (y : ℕ) → 7 ≤ side y
    side_low y = omega arith

    high : nat_le (3 + 2 * z.buckets) (next_word z x) ≡ true
    high = le-leb (3 + 2 * z.buckets) (next_word z x) (omega arith)

    by_side : (k : ℕ) → 7 ≤ k → k ≡ side x → is_some_next z (stored (next_word z x) n) ≡ true
    by_side k low here = by_test (side x == 7) refl
      where
        by_test : (b : Bool) → (side x == 7) ≡ b → is_some_next z (stored (next_word z x) n) ≡ true
        by_test true t = or_left (is_of_kind 7 z (stored (next_word z x) n)) (is_of_kind 8 z (stored (next_word z x) n)) (and_from (nat_le (3 + 2 * z.buckets) (next_word z x)) (side x == 7) high t)
        by_test false t =
            or_right (is_of_kind 7 z (stored (next_word z x) n)) (is_of_kind 8 z (stored (next_word z x) n))
            (and_from (nat_le (3 + 2 * z.buckets) (next_word z x)) (side x == 8) high (eq-eqb (side x) 8 (omega (arith, low, here, λ (s : side x ≡ 7). false≢true (sym t ∙ eq-eqb (side x) 7 s)))))

-- the word behind entries of a chain
end_in : (z : Sizes) (b word n : ℕ) (passed : List ChainLink) → b < z.buckets → word ≡ end_word z b passed → either (is_head_of b) is_some_next z (stored word n) ≡ true
end_in z b word n [] below e = or_left (is_head_of b z (stored word n)) (is_some_next z (stored word n)) (head_in z z word b n refl below e)
end_in z b word n (e ∷ es) below here = or_right (is_head_of b z (stored word n)) (is_some_next z (stored word n)) (some_next z word e.link n here)

-- LINKS

pub put_words : (z : Sizes) (b x n head next : ℕ) (v u w y : View) → z ≡ v.passes.sizes → b < v.passes.sizes.buckets → head ≡ head_word z b → next ≡ next_word z x
    → LoadsLink head v n u → Strings next n u w → Strings head x w y → ChangesWords (either (is_head_of b) (is_next_of (place_of x))) v y
put_words z b x n head next v u w y same below head_is next_is loads one two =
    let f : Sizes → Reading → Bool = either (is_head_of b) (is_next_of (place_of x)) in
    let s1 : u.passes.sizes ≡ v.passes.sizes = ap (λ (k : View). k.passes.sizes) loads.view in
    let s2 : w.passes.sizes ≡ v.passes.sizes = ap (λ (k : View). k.passes.sizes) one.same ∙ s1 in
    joined f v u y (load_words f head n v u loads)
    (joined f u w y
    (string_words f next n u w one (or_right (is_head_of b u.passes.sizes (stored next n)) (is_next_of (place_of x) u.passes.sizes (stored next n))
    (next_in u.passes.sizes z next x n (same ∙ sym s1) next_is)))
    (string_words f head x w y two (or_left (is_head_of b w.passes.sizes (stored head x)) (is_next_of (place_of x) w.passes.sizes (stored head x))
    (head_in w.passes.sizes z head b x (same ∙ sym s2) (subst (λ (k : Sizes). b < k.buckets) (sym s2) below) head_is))))

pub take_words : (b word n word' : ℕ) (passed : List ChainLink) (o v w y : PassSight) → OnlyLoads o v → b < (sizes_of o).buckets → word ≡ end_word (sizes_of v) b passed
    → LoadsLink word' v.view n w.view → Strings word n w.view y.view → ChangesWords (either (is_head_of b) is_some_next) o.view y.view
take_words b word n word' passed o v w y only below end loads cut =
    let f : Sizes → Reading → Bool = either (is_head_of b) is_some_next in
    let s : sizes_of w ≡ sizes_of v = ap (λ (k : View). k.passes.sizes) loads.view in
    joined f o.view v.view y.view (only_words f o v only)
    (joined f v.view w.view y.view (load_words f word' n v.view w.view loads)
    (string_words f word n w.view y.view cut (end_in (sizes_of w) b word n passed (subst (λ (k : Sizes). b < k.buckets) (sym (s ∙ ap sizes_of only.same)) below)
    (end ∙ ap (λ (k : Sizes). end_word k b passed) (sym s)))))

-- the words of one of two buckets
pub put_one : (a b p k q : ℕ) (v w : View) → k ≡ a → q ≡ p → ChangesWords (either (is_head_of k) (is_next_of q)) v w → ChangesWords (link_words a b p) v w
put_one a b p k q v w bucket place c =
    weaker (either (is_head_of a) (is_next_of p)) (link_words a b p) v w
    (in_either (is_head_of a) (is_next_of p) (link_words a b p)
    (λ z r e. in_one (heads_of a b) (is_next_of p) z r (in_one (is_head_of a) (is_head_of b) z r e)) (in_other (heads_of a b) (is_next_of p)))
    (subst (λ (i : ℕ). ChangesWords (either (is_head_of i) (is_next_of p)) v w) bucket (subst (λ (i : ℕ). ChangesWords (either (is_head_of k) (is_next_of i)) v w) place c))

pub put_other : (a b p k q : ℕ) (v w : View) → k ≡ b → q ≡ p → ChangesWords (either (is_head_of k) (is_next_of q)) v w → ChangesWords (link_words a b p) v w
put_other a b p k q v w bucket place c =
    weaker (either (is_head_of b) (is_next_of p)) (link_words a b p) v w
    (in_either (is_head_of b) (is_next_of p) (link_words a b p)
    (λ z r e. in_one (heads_of a b) (is_next_of p) z r (in_other (is_head_of a) (is_head_of b) z r e)) (in_other (heads_of a b) (is_next_of p)))
    (subst (λ (i : ℕ). ChangesWords (either (is_head_of i) (is_next_of p)) v w) bucket (subst (λ (i : ℕ). ChangesWords (either (is_head_of k) (is_next_of i)) v w) place c))

pub take_one : (a b k : ℕ) (v w : View) → k ≡ a → ChangesWords (either (is_head_of k) is_some_next) v w → ChangesWords (unlink_words a b) v w
take_one a b k v w bucket c =
    weaker (either (is_head_of a) is_some_next) (unlink_words a b) v w
    (in_either (is_head_of a) is_some_next (unlink_words a b)
    (λ z r e. in_one (heads_of a b) is_some_next z r (in_one (is_head_of a) (is_head_of b) z r e)) (in_other (heads_of a b) is_some_next))
    (subst (λ (i : ℕ). ChangesWords (either (is_head_of i) is_some_next) v w) bucket c)

pub take_other : (a b k : ℕ) (v w : View) → k ≡ b → ChangesWords (either (is_head_of k) is_some_next) v w → ChangesWords (unlink_words a b) v w
take_other a b k v w bucket c =
    weaker (either (is_head_of b) is_some_next) (unlink_words a b) v w
    (in_either (is_head_of b) is_some_next (unlink_words a b)
    (λ z r e. in_one (heads_of a b) is_some_next z r (in_other (is_head_of a) (is_head_of b) z r e)) (in_other (heads_of a b) is_some_next))
    (subst (λ (i : ℕ). ChangesWords (either (is_head_of i) is_some_next) v w) bucket c)

-- LOCKS

pub lock_words : (locked : Buckets) (v w : PassSight) → locked.lower < (sizes_of v).buckets → locked.upper < (sizes_of v).buckets → sizes_of w ≡ sizes_of v
    → ReadingsStand v w → changes (is_else (sizes_of v) locked) (added v.view w.view) ≡ false
    → ChangesWords (either (is_gen_of locked.lower) (is_gen_of locked.upper)) v.view w.view
lock_words locked v w low high sizes stand own =
    by_own (is_else (sizes_of v) locked) (either (is_gen_of locked.lower) (is_gen_of locked.upper)) v.view w.view sizes stand own
    (λ r e. one_of (r.word == gen_word (sizes_of v) locked.lower) (r.word == gen_word (sizes_of v) locked.upper) r refl refl e)
  where
    one_of : (a b : Bool) (r : Reading) → (r.word == gen_word (sizes_of v) locked.lower) ≡ a → (r.word == gen_word (sizes_of v) locked.upper) ≡ b → not (a || b) ≡ false
        → either (is_gen_of locked.lower) (is_gen_of locked.upper) (sizes_of v) r ≡ true
    one_of true b r l u e = or_left (is_gen_of locked.lower (sizes_of v) r) (is_gen_of locked.upper (sizes_of v) r)
        (and_from (nat_lt locked.lower (sizes_of v).buckets) (r.word == gen_word (sizes_of v) locked.lower) (lt-ltb locked.lower (sizes_of v).buckets low) l)
    one_of false true r l u e = or_right (is_gen_of locked.lower (sizes_of v) r) (is_gen_of locked.upper (sizes_of v) r)
        (and_from (nat_lt locked.upper (sizes_of v).buckets) (r.word == gen_word (sizes_of v) locked.upper) (lt-ltb locked.upper (sizes_of v).buckets high) u)
    one_of false false r l u e = absurd (false≢true (sym e))

pub one_lock_words : (lower upper : ℕ) (v w : PassSight) → lower < (sizes_of v).buckets → sizes_of w ≡ sizes_of v
    → ReadingsStand v w → changes (λ word. not (word == gen_word (sizes_of v) lower)) (added v.view w.view) ≡ false
    → ChangesWords (either (is_gen_of lower) (is_gen_of upper)) v.view w.view
one_lock_words lower upper v w low sizes stand own =
    by_own (λ word. not (word == gen_word (sizes_of v) lower)) (either (is_gen_of lower) (is_gen_of upper)) v.view w.view sizes stand own
    (λ r e.
    or_left (is_gen_of lower (sizes_of v) r) (is_gen_of upper (sizes_of v) r)
    (and_from (nat_lt lower (sizes_of v).buckets) (r.word == gen_word (sizes_of v) lower) (lt-ltb lower (sizes_of v).buckets low) (not-false (r.word == gen_word (sizes_of v) lower) e)))

-- LOOKING

refs_some : (z : Sizes) (place : ℕ) (r : Reading) → is_refs_of place z r ≡ true → is_some_refs z r ≡ true
refs_some z place r e =
    let p = and_parts (r.word == refs_word z place) (not (is_some r.free)) e in
    let here : r.word ≡ refs_word z place = eqb-true r.word (refs_word z place) p.0 in
    and_from (is_of_kind 0 z r) (not (is_some r.free))
    (and_from (nat_le (3 + 2 * z.buckets) r.word) (kind_of z r.word == 0) (le-leb (3 + 2 * z.buckets) r.word (omega (arith, here)))
    (eq-eqb (kind_of z r.word) 0 (omega (arith, here)))) p.1

-- the references of a place
refs_words : (place : ℕ) (v w : PassSight) → sizes_of w ≡ sizes_of v → ReadingsStand v w → changes_only (is_refs_of place (sizes_of v)) (added v.view w.view) ≡ true
    → ChangesWords (is_refs_of place) v.view w.view
refs_words place v w sizes stand own = record { sizes = sizes; only = record { more = added v.view w.view; all = stand; own = own } }

pub once_changes : (r : FindOnce) (t : Tuple) (v w : PassSight) → FindOnceSays r t v w → ChangesWords (once_words r) v.view w.view
once_changes (Found place id direction at) t v w s = refs_words place v w (ap sizes_of s.same) s.stand s.own
once_changes (Absent at) t v w s = by_loads no_word v.view w.view (ap sizes_of s.reads.same) s.reads.stand s.reads.own
once_changes (Moved word was now None) t v w s =
    weaker (is_refs_of s.tested) is_some_refs v.view w.view (λ z r e. refs_some z s.tested r e) (refs_words s.tested v w (ap sizes_of s.same) s.stand s.own)
once_changes (Moved word was now (Some place)) t v w s =
    subst (λ (k : ℕ). ChangesWords (is_refs_of k) v.view w.view) (sym s.which) (refs_words s.tested v w (ap sizes_of s.same) s.stand s.own)
