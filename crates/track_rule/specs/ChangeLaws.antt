-- How the words add up that calls change, one call after the other. Each law stands with the term that shows it, so that the crates
-- above cite it where they prove what their own calls change, and need not call an empty function for it.
use Rattle.std.specs.Prelude.{◌==◌, ◌&&◌, ◌||◌, not, drop}
use Rattle.std.proofs.Common.{◌≡◌, ℕ, Bool, true, false, List, [], ◌∷◌, ◌++◌, length, refl, sym, ap, ◌∙◌, append_assoc, append-nil, ⊎_elim}
use Rattle.std.proofs.Math.Seq.{drop-append_seam}
use Rattle.std.proofs.lemmas.Bool.{and_from, and_parts, false≢true, or_cases, or_from, or_left, or_parts, or_right}
use Rattle.std.proofs.lemmas.List.Folds.{list_all-append, list_any-append}
use Rattle.history_book.specs.declared.sizes.Sizes.{Sizes}
use Rattle.track_rule.specs.ChangesOnly.{ChangesAndFrees, ChangesWords, changes_only, either, frees_what_it_gave, has_change, is_freeing, is_last_given, no_word}
use Rattle.track_rule.specs.Layout.{phase_word}
use Rattle.track_rule.specs.PhaseSteps.{LoadsPhase}
use Rattle.track_rule.specs.Readings.{changes, found}
use Rattle.track_rule.specs.Sights.{PassSight}
use Rattle.track_rule.specs.Steps.{Looks, found_history}
use Rattle.track_rule.specs.declared.view.Reading.{Reading}
use Rattle.track_rule.specs.declared.view.View.{View}

-- a test passes less than another
abbrev pub Within : (Sizes → Reading → Bool) → (Sizes → Reading → Bool) → Type 0
Within f g = (z : Sizes) (r : Reading) → f z r ≡ true → g z r ≡ true

-- what one of two tests passes, either passes
pub in_one : (f g : Sizes → Reading → Bool) → Within f (either f g)
in_one f g z r e = or_left (f z r) (g z r) e

pub in_other : (f g : Sizes → Reading → Bool) → Within g (either f g)
in_other f g z r e = or_right (f z r) (g z r) e

-- a test that passes what each of two does
pub in_either : (f g h : Sizes → Reading → Bool) → Within f h → Within g h → Within (either f g) h
in_either f g h one other z r e = ⊎_elim (one z r) (other z r) (or_cases (f z r) (g z r) e)

pub in_none : (h : Sizes → Reading → Bool) → Within no_word h
in_none h z r e = absurd (false≢true e)

-- of lists of readings
pub only_weak : (f g : Reading → Bool) (rs : List Reading) → ((r : Reading) → f r ≡ true → g r ≡ true) → changes_only f rs ≡ true → changes_only g rs ≡ true
only_weak f g [] inside e = refl
only_weak f g (r ∷ rs) inside e =
    let p = and_parts (not r.own || f r) (changes_only f rs) e in
    and_from (not r.own || g r) (changes_only g rs)
    (⊎_elim (or_left (not r.own) (g r)) (λ k. or_right (not r.own) (g r) (inside r k)) (or_cases (not r.own) (f r) p.0))
    (only_weak f g rs inside p.1)

pub only_append : (f : Reading → Bool) (xs ys : List Reading) → changes_only f xs ≡ true → changes_only f ys ≡ true → changes_only f (xs ++ ys) ≡ true
only_append f xs ys e h = list_all-append (λ (r : Reading). not r.own || f r) xs ys ∙ and_from (changes_only f xs) (changes_only f ys) e h

-- WHAT CALLS CHANGE

-- a test that passes more says less: for the table at hand, and for each
unfoldable pub weaker_at : (f g : Sizes → Reading → Bool) (v w : View) → ((r : Reading) → f v.passes.sizes r ≡ true → g v.passes.sizes r ≡ true)
    → ChangesWords f v w → ChangesWords g v w
weaker_at f g v w inside c = record {
  sizes = c.sizes;
  only = record { more = c.only.more; all = c.only.all; own = only_weak (f v.passes.sizes) (g v.passes.sizes) c.only.more inside c.only.own };
}

pub weaker : (f g : Sizes → Reading → Bool) (v w : View) → Within f g → ChangesWords f v w → ChangesWords g v w
weaker f g v w inside c = weaker_at f g v w (inside v.passes.sizes) c

-- one call and then another
unfoldable pub joined : (f : Sizes → Reading → Bool) (u v w : View) → ChangesWords f u v → ChangesWords f v w → ChangesWords f u w
joined f u v w c d = record {
  sizes = d.sizes ∙ c.sizes;
  only = record {
    more = c.only.more ++ d.only.more;
    all = d.only.all ∙ ap (λ (rs : List Reading). rs ++ d.only.more) c.only.all ∙ append_assoc u.readings c.only.more d.only.more;
    own = only_append (f u.passes.sizes) c.only.more d.only.more c.only.own (ap (λ (z : Sizes). changes_only (f z) d.only.more) (sym c.sizes) ∙ d.only.own);
  };
}

-- no reading more
pub unchanged : (f : Sizes → Reading → Bool) (v w : View) → w ≡ v → ChangesWords f v w
unchanged f v w e = record {
  sizes = ap (λ (x : View). x.passes.sizes) e;
  only = record { more = []; all = ap (λ (x : View). x.readings) e ∙ sym (append-nil v.readings); own = refl };
}

-- one reading more
pub by_reading : (f : Sizes → Reading → Bool) (r : Reading) (v w : View) → w.passes.sizes ≡ v.passes.sizes → w.readings ≡ v.readings ++ r ∷ []
    → (not r.own || f v.passes.sizes r) ≡ true → ChangesWords f v w
by_reading f r v w sizes more own = record {
  sizes = sizes;
  only = record { more = r ∷ []; all = more; own = and_from (not r.own || f v.passes.sizes r) true own refl };
}

-- the same, where a contract says of the pass afterwards that it is this one
pub by_view : (f : Sizes → Reading → Bool) (r : Reading) (v w x : View) → w ≡ x → x.passes.sizes ≡ v.passes.sizes → x.readings ≡ v.readings ++ r ∷ []
    → (not r.own || f v.passes.sizes r) ≡ true → ChangesWords f v w
by_view f r v w x e sizes more own = by_reading f r v w (ap (λ (k : View). k.passes.sizes) e ∙ sizes) (ap (λ (k : View). k.readings) e ∙ more) own

pub by_pass : (f : Sizes → Reading → Bool) (r : Reading) (v w x : PassSight) → w ≡ x → x.view.passes.sizes ≡ v.view.passes.sizes → x.view.readings ≡ v.view.readings ++ r ∷ []
    → (not r.own || f v.view.passes.sizes r) ≡ true → ChangesWords f v.view w.view
by_pass f r v w x e sizes more own = by_view f r v.view w.view x.view (ap (λ (k : PassSight). k.view) e) sizes more own

-- no reading more, where a contract says so
pub by_none : (f : Sizes → Reading → Bool) (v w x : PassSight) → w ≡ x → x.view ≡ v.view → ChangesWords f v.view w.view
by_none f v w x e same = unchanged f v.view w.view (ap (λ (k : PassSight). k.view) e ∙ same)

-- a load of a phase, and of the history word
pub phase_words : (f : Sizes → Reading → Bool) (place n : ℕ) (v w : View) → LoadsPhase place v n w → ChangesWords f v w
phase_words f place n v w loads = by_view f (found (phase_word v.passes.sizes place) n) v w _ loads.view refl refl refl

pub look_words : (f : Sizes → Reading → Bool) (word : ℕ) (v w : View) → Looks v word w → ChangesWords f v w
look_words f word v w looks = by_view f (found_history word v) v w _ looks.same refl refl refl

-- where a contract says which words no own change is of
pub by_own : (test : ℕ → Bool) (f : Sizes → Reading → Bool) (v w : View) → w.passes.sizes ≡ v.passes.sizes
    → w.readings ≡ v.readings ++ drop (length v.readings) w.readings → changes test (drop (length v.readings) w.readings) ≡ false
    → ((r : Reading) → test r.word ≡ false → f v.passes.sizes r ≡ true) → ChangesWords f v w
by_own test f v w sizes stand none inside = record {
  sizes = sizes;
  only = record { more = drop (length v.readings) w.readings; all = stand; own = each (drop (length v.readings) w.readings) none };
}
  where
    one : (own t m : Bool) → (t ≡ false → m ≡ true) → (own && t) ≡ false → (not own || m) ≡ true
    one false t m i e = refl
    one true t m i e = i e

    each : (rs : List Reading) → changes test rs ≡ false → changes_only (f v.passes.sizes) rs ≡ true
    each [] e = refl
    each (r ∷ rs) e =
        let p = or_parts (r.own && test r.word) (changes test rs) e in
        and_from (not r.own || f v.passes.sizes r) (changes_only (f v.passes.sizes) rs) (one r.own (test r.word) (f v.passes.sizes r) (inside r) p.0) (each rs p.1)

pub by_loads : (f : Sizes → Reading → Bool) (v w : View) → w.passes.sizes ≡ v.passes.sizes
    → w.readings ≡ v.readings ++ drop (length v.readings) w.readings → changes (λ word. true) (drop (length v.readings) w.readings) ≡ false → ChangesWords f v w
by_loads f v w sizes stand none = by_own (λ word. true) f v w sizes stand none (λ r e. absurd (false≢true (sym e)))

-- MAKING PLACES FREE

imp_both : (a b c d : Bool) → (not a || c) ≡ true → (not b || d) ≡ true → (not (a || b) || (c || d)) ≡ true
imp_both true b true d e h = refl
imp_both true b false d e h = absurd (false≢true e)
imp_both false true true true e h = refl
imp_both false true false true e h = refl
imp_both false true c false e h = absurd (false≢true h)
imp_both false false c d e h = refl

frees_append : (z : Sizes) (xs ys : List Reading) → frees_what_it_gave z xs ≡ true → frees_what_it_gave z ys ≡ true → frees_what_it_gave z (xs ++ ys) ≡ true
frees_append z xs ys e h =
    (λ i. not (list_any-append (λ (r : Reading). r.own && is_freeing z r) xs ys i) || list_any-append (λ (r : Reading). r.own && is_last_given z r) xs ys i)
    ∙ imp_both (has_change is_freeing z xs) (has_change is_freeing z ys) (has_change is_last_given z xs) (has_change is_last_given z ys) e h

-- one call and then another
pub frees_joined : (f : Sizes → Reading → Bool) (u v w : View) → ChangesAndFrees f u v → ChangesAndFrees f v w → ChangesAndFrees f u w
unfolding joined
frees_joined f u v w c d = record {
  words = joined f u v w c.words d.words;
  gave = frees_append u.passes.sizes c.words.only.more d.words.only.more c.gave (ap (λ (z : Sizes). frees_what_it_gave z d.words.only.more) (sym c.words.sizes) ∙ d.gave);
}

-- no own change makes a place free
none_freed : (f : Sizes → Reading → Bool) (z : Sizes) (rs : List Reading) → ((r : Reading) → f z r ≡ true → is_freeing z r ≡ false) → changes_only (f z) rs ≡ true
    → has_change is_freeing z rs ≡ false
none_freed f z [] other e = refl
none_freed f z (r ∷ rs) other e =
    let p = and_parts (not r.own || f z r) (changes_only (f z) rs) e in
    or_from (r.own && is_freeing z r) (has_change is_freeing z rs) (by_own_of r.own (f z r) (is_freeing z r) (other r) p.0) (none_freed f z rs other p.1)
  where
    by_own_of : (own may frees : Bool) → (may ≡ true → frees ≡ false) → (not own || may) ≡ true → (own && frees) ≡ false
    by_own_of false may frees o h = refl
    by_own_of true may frees o h = o h

-- a call that makes no place free
pub freeing_none : (f g : Sizes → Reading → Bool) (v w : View) → Within f g → ((z : Sizes) (r : Reading) → f z r ≡ true → is_freeing z r ≡ false)
    → ChangesWords f v w → ChangesAndFrees g v w
unfolding weaker_at
freeing_none f g v w inside other c = record {
  words = weaker_at f g v w (inside v.passes.sizes) c;
  gave = ap (λ (b : Bool). not b || has_change is_last_given v.passes.sizes c.only.more) (none_freed f v.passes.sizes c.only.more (other v.passes.sizes) c.only.own);
}

-- a test that passes more says less
pub frees_weaker : (f g : Sizes → Reading → Bool) (v w : View) → Within f g → ChangesAndFrees f v w → ChangesAndFrees g v w
unfolding weaker_at
frees_weaker f g v w inside c = record { words = weaker_at f g v w (inside v.passes.sizes) c.words; gave = c.gave }

-- a call that gave up the last reference to a place, and then one that may make it free
pub frees_after : (f g h : Sizes → Reading → Bool) (u v w : View) → Within f h → Within g h → ChangesWords f u v
    → has_change is_last_given u.passes.sizes (drop (length u.readings) v.readings) ≡ true → ChangesWords g v w → ChangesAndFrees h u w
unfolding joined weaker_at
frees_after f g h u v w one other c last d = record {
  words = joined h u v w (weaker_at f h u v (one u.passes.sizes) c) (weaker_at g h v w (other v.passes.sizes) d);
  gave = or_right (not (has_change is_freeing u.passes.sizes (c.only.more ++ d.only.more))) (has_change is_last_given u.passes.sizes (c.only.more ++ d.only.more))
      (list_any-append (λ (r : Reading). r.own && is_last_given u.passes.sizes r) c.only.more d.only.more
      ∙ or_left (has_change is_last_given u.passes.sizes c.only.more) (has_change is_last_given u.passes.sizes d.only.more)
      (sym (ap (has_change is_last_given u.passes.sizes) (ap (drop (length u.readings)) c.only.all ∙ drop-append_seam u.readings c.only.more)) ∙ last));
}
