-- The tuple words of places that are held for ids: what leaves them, where a view changes, where words do, and where the
-- history grows.
use Rattle.std.proofs.Common.{◌≡◌, ◌≢◌, ℕ, ◌+◌, ◌<◌, ◌≤◌, Bool, true, false, Some, List, [], ◌∷◌, refl, sym, ap, subst, ◌∙◌, ⊎_elim, arith, set}
use Rattle.std.specs.List.{list_any, slice_get}
use Rattle.std.specs.Prelude.{slice_index, ◌==◌, ◌&&◌, ◌||◌}
use Rattle.std.proofs.Math.Bool.{or-true}
use Rattle.std.proofs.lemmas.Bool.{cases_eq, cond_both, false≢true}
use mathlib.Core.Option.{some}
use lib.ListN.{get_elem?}
use Rattle.tuple_core.specs.declared.Direction.{Direction}
use Rattle.tuple_core.specs.declared.Direction.TheVariants.{Original, Reply}
use Rattle.history_book.specs.declared.event.Event.{Event}
use Rattle.history_book.specs.declared.event.Event.TheVariants.{Confirm}
use Rattle.history_book.specs.declared.record.Record.{Record}
use Rattle.history_book.specs.declared.sizes.Sizes.{Sizes}
use Rattle.history_book.specs.Point.{StartsWith}
use Rattle.track_rule.specs.declared.view.Keep.{Keep}
use Rattle.track_rule.specs.declared.view.Purpose.{Purpose}
use Rattle.track_rule.specs.declared.view.Purpose.TheVariants.{Taken, Testing, Shown, For}
use Rattle.track_rule.specs.declared.view.View.{View}
use Rattle.track_rule.specs.KeptWords.{AreKeptWords, HasPair, HasTuples, IsOnly, is_for, is_for_entry, is_kept_for, link_of, pair_in, shown_times, shows_held}
use Rattle.track_rule.specs.Layout.{first_word, place_of, second_word}
use Rattle.track_rule.specs.References.{held_times, is_at, keeps, taken_times, takes, without}
use Rattle.track_rule.specs.Steps.{keep}
use Rattle.track_rule.specs.Sums.{bit, total}
use Rattle.track_rule.proofs.Carried.{Carries, carries_set}
use Rattle.track_rule.proofs.Events.{get_append}
use Rattle.track_rule.proofs.Frames.{SameLinks}
use Rattle.track_rule.proofs.Lists.{takes_other, takes_testing, takes_without, total_some}
use Rattle.track_rule.proofs.Sums.{each_put, total_le, total_set, total_term}

-- of two tests
bit_second : (b c : Bool) → bit (b && c) ≤ bit c
bit_second true c = omega arith
bit_second false c = omega arith

-- what is held for one id is held for an id
for_entry : (id : ℕ) (why : Purpose) (b : Bool) → bit (is_for id why && b) ≤ bit (is_for_entry why && b)
for_entry id Taken b = omega arith
for_entry id Testing b = omega arith
for_entry id (Shown i) b = bit_second (i == id) b
for_entry id (For i) b = bit_second (i == id) b

pub kept_shown : (p id : ℕ) (held : List Keep) → is_kept_for p id held ≡ true → 0 < shown_times p held
kept_shown p id held is = omega (
  arith,
  total_some (λ k. is_for id k.purpose && is_at p k) held is,
  total_le (λ k. bit (is_for id k.purpose && is_at p k)) (λ k. bit (is_for_entry k.purpose && is_at p k)) held
      (λ i k at. for_entry id k.purpose (is_at p k)),
)

-- and so it is held
pub shown_held : (p : ℕ) (held : List Keep) → shown_times p held ≤ held_times p held
shown_held p held =
    total_le (λ k. bit (is_for_entry k.purpose && is_at p k)) (λ k. bit (is_at p k)) held (λ i k at. bit_second (is_for_entry k.purpose) (is_at p k))

-- without a reference, none is for another id
any_without : (t : Keep → Bool) (q : ℕ) (held : List Keep) → list_any t (without q held) ≡ true → list_any t held ≡ true
any_without t q [] e = e
any_without t q (k ∷ ks) e =
    cond_both (is_at q k) ks (k ∷ without q ks) (λ ys. list_any t ys ≡ true → (t k || list_any t ks) ≡ true)
    (λ c f. ap (λ (b : Bool). t k || b) f ∙ or-true (t k)) (λ c f. both_true (t k) (list_any t (without q ks)) (list_any t ks) (any_without t q ks) f) e
  where
    both_true : (a b c : Bool) → (b ≡ true → c ≡ true) → (a || b) ≡ true → (a || c) ≡ true
    both_true true b c g f = refl
    both_true false b c g f = g f

pub shown_without : (p q : ℕ) (held : List Keep) → shown_times p (without q held) ≤ shown_times p held
shown_without p q [] = omega arith
shown_without p q (k ∷ ks) =
    cond_both (is_at q k) ks (k ∷ without q ks)
    (λ ys. shown_times p ys ≤ bit (is_for_entry k.purpose && is_at p k) + shown_times p ks)
    (λ e. omega arith) (λ e. omega (arith, shown_without p q ks))

-- the links of a place are its own
pub place_link : (d : Direction) (p : ℕ) → place_of (link_of d p) ≡ p
place_link Original p = omega arith
place_link Reply p = omega arith

pub some_link : (d : Direction) (p : ℕ) → 0 < link_of d p
some_link Original p = omega arith
some_link Reply p = omega arith

-- the words of a link are as they were
pub record SamePair (z : Sizes) (ws ws' : List ℕ) (link : ℕ) : Type 0 where
  pub first : slice_index ws' (first_word z link) ≡ slice_index ws (first_word z link)
  pub second : slice_index ws' (second_word z link) ≡ slice_index ws (second_word z link)

-- the words of both links of a place
abbrev pub SamePairs : Sizes → List ℕ → List ℕ → ℕ → Type 0
SamePairs z ws ws' p = (d : Direction) → SamePair z ws ws' (link_of d p)

pub links_pairs : (z : Sizes) (ws ws' : List ℕ) → SameLinks z ws ws' → (p : ℕ) → SamePairs z ws ws' p
links_pairs z ws ws' same p = λ d. record { first = same.firsts (link_of d p); second = same.seconds (link_of d p) }

-- the history has all events that it had, at the same numbers
abbrev pub GrowsTo : List Event → List Event → Type 0
GrowsTo log log' = (id : ℕ) (e : Event) → slice_get log id ≡ Some e → slice_get log' id ≡ Some e

-- and no other record has come to be live at the place
abbrev pub StaysOnly : List Event → List Event → ℕ → Type 0
StaysOnly log log' p = (id : ℕ) → IsOnly log id p → IsOnly log' id p

pub tuples_stay : (z : Sizes) (log log' : List Event) (ws ws' : List ℕ) (id p : ℕ) → GrowsTo log log' → StaysOnly log log' p → SamePairs z ws ws' p
    → HasTuples z log ws id p → HasTuples z log' ws' id p
tuples_stay z log log' ws ws' id p grows only same h = record {
  was = record { subject = h.was.subject; event = grows id (Confirm h.was.subject) h.was.event; its_place = h.was.its_place };
  stand = λ d. record { first = (same d).first ∙ (h.stand d).first; second = (same d).second ∙ (h.stand d).second };
  only = only id h.only;
}

-- the Confirm of the id in a first part of the history is the one whose tuples stand there
pub tuples_told : (z : Sizes) (log front : List Event) (ws : List ℕ) (id p : ℕ) (subject : Record) → StartsWith log front → HasTuples z log ws id p
    → slice_get front id ≡ Some (Confirm subject) → (d : Direction) → HasPair z ws (link_of d p) (pair_in d subject)
tuples_told z log front ws id p subject (rest, same) h told d =
    let there : slice_get log id ≡ Some (Confirm subject) =
    ap (λ (es : List Event). slice_get es id) same ∙ get_append front rest id (Confirm subject) told in
    subst (λ (r : Record). HasPair z ws (link_of d p) (pair_in d r)) (one_confirm h.was.subject subject (sym h.was.event ∙ there)) (h.stand d)
  where
    one_confirm : (a b : Record) → Some (Confirm a) ≡ Some (Confirm b) → a ≡ b
    one_confirm a b e = cc

-- where the words stay at the places that are held for ids, and no record comes there
pub words_stay : (z : Sizes) (log log' : List Event) (ws ws' : List ℕ) (vs : List View) → GrowsTo log log'
    → ((p : ℕ) → 0 < total (shows_held p) vs → StaysOnly log log' p) → ((p : ℕ) → 0 < total (shows_held p) vs → SamePairs z ws ws' p)
    → AreKeptWords z log ws vs → AreKeptWords z log' ws' vs
words_stay z log log' ws ws' vs grows only same h = record {
  each = λ i v at p id is.
      let any : 0 < total (shows_held p) vs = omega (arith, total_term (shows_held p) vs i v at, kept_shown p id v.places.held is) in
      tuples_stay z log log' ws ws' id p grows (only p any) (same p any) (h.each i v at p id is);
  apart = h.apart;
}

-- where all views together hold the same
pub words_carry : (z : Sizes) (log : List Event) (ws : List ℕ) (vs vs' : List View) → Carries (λ (v : View). v.places.held) [] vs vs'
    → AreKeptWords z log ws vs → AreKeptWords z log ws vs'
words_carry z log ws vs vs' c h = record {
  each = c.each (λ (held : List Keep). (p id : ℕ) → is_kept_for p id held ≡ true → HasTuples z log ws id p) (λ p id e. absurd (false≢true e)) h.each;
  apart = λ p any. omega (arith, h.apart p (omega (arith, any, c.sums (taken_times p) refl)), c.sums (shown_times p) refl);
}

-- where one view changes
module _ (z : Sizes) (log : List Event) (ws : List ℕ) (vs : List View) (i : ℕ) (v w : View) (at : get_elem? vs i ≡ some v) where
  -- and holds what it held
  pub words_left : (log' : List Event) (ws' : List ℕ) → GrowsTo log log' → ((p : ℕ) → StaysOnly log log' p) → SameLinks z ws ws' → w.places.held ≡ v.places.held
      → AreKeptWords z log ws vs → AreKeptWords z log' ws' (set vs i w)
  words_left log' ws' grows only same held h =
      words_carry z log' ws' vs (set vs i w) (carries_set (λ (u : View). u.places.held) [] vs i v w at held)
      (words_stay z log log' ws ws' vs grows (λ p any. only p) (λ p any. links_pairs z ws ws' same p) h)

  pub words_same : w.places.held ≡ v.places.held → AreKeptWords z log ws vs → AreKeptWords z log ws (set vs i w)
  words_same held h = words_carry z log ws vs (set vs i w) (carries_set (λ (u : View). u.places.held) [] vs i v w at held) h

  -- or takes no place more, and holds none more for an id
  pub words_fewer : ((p id : ℕ) → is_kept_for p id w.places.held ≡ true → is_kept_for p id v.places.held ≡ true)
      → ((p : ℕ) → takes p w ≤ takes p v) → ((p : ℕ) → shows_held p w ≤ shows_held p v) → AreKeptWords z log ws vs → AreKeptWords z log ws (set vs i w)
  words_fewer kept takes_low shows_low h = record {
    each = each_put (λ u. (p id : ℕ) → is_kept_for p id u.places.held ≡ true → HasTuples z log ws id p) vs i w h.each
        (λ p id is. h.each i v at p id (kept p id is));
    apart = λ p any.
        let before : 0 < total (takes p) vs = omega (arith, any, takes_low p, total_set (takes p) vs i v w at) in
        omega (arith, h.apart p before, shows_low p, total_set (shows_held p) vs i v w at);
  }

-- a reference is given up
pub words_without : (z : Sizes) (log : List Event) (ws : List ℕ) (vs : List View) (i q : ℕ) (v w : View) → get_elem? vs i ≡ some v
    → w.places.held ≡ without q v.places.held → AreKeptWords z log ws vs → AreKeptWords z log ws (set vs i w)
words_without z log ws vs i q v w at held h =
    words_fewer z log ws vs i v w at
    (λ p id is. any_without (λ k. is_for id k.purpose && is_at p k) q v.places.held (sym (ap (is_kept_for p id) held) ∙ is))
    (λ p. omega (arith, ap (taken_times p) held, takes_without p q v.places.held))
    (λ p. omega (arith, ap (shown_times p) held, shown_without p q v.places.held)) h

-- one is made to look what stands there
pub words_testing : (z : Sizes) (log : List Event) (ws : List ℕ) (vs : List View) (i q : ℕ) (v w : View) → get_elem? vs i ≡ some v
    → w.places.held ≡ keep q Testing ∷ v.places.held → AreKeptWords z log ws vs → AreKeptWords z log ws (set vs i w)
words_testing z log ws vs i q v w at held h =
    words_fewer z log ws vs i v w at (λ p id is. sym (ap (is_kept_for p id) held) ∙ is)
    (λ p. omega (arith, ap (taken_times p) held, takes_testing p q)) (λ p. omega (arith, ap (shown_times p) held)) h

-- the first one is made, of a place that had none
pub words_opened : (z : Sizes) (log : List Event) (ws : List ℕ) (vs : List View) (i q : ℕ) (v w : View) → get_elem? vs i ≡ some v
    → w.places.held ≡ keep q Taken ∷ v.places.held → total (keeps q) vs ≡ 0 → AreKeptWords z log ws vs → AreKeptWords z log ws (set vs i w)
words_opened z log ws vs i q v w at held nobody h = record {
  each = each_put (λ u. (p id : ℕ) → is_kept_for p id u.places.held ≡ true → HasTuples z log ws id p) vs i w h.each
      (λ p id is. h.each i v at p id (sym (ap (is_kept_for p id) held) ∙ is));
  apart = λ p any.
      let shown = total_set (shows_held p) vs i v w at in
      let same = ap (shown_times p) held in
      ⊎_elim
      (λ (e : q ≡ p).
      omega (
        arith,
        shown,
        same,
        total_le (shows_held p) (keeps p) vs (λ j u at'. omega (arith, shown_held p u.places.held)),
        ap (λ (k : ℕ). total (keeps k) vs) e,
        nobody,
      ))
      (λ (e : q ≢ p).
      omega (
        arith,
        shown,
        same,
        h.apart p (omega (arith, any, total_set (takes p) vs i v w at, ap (taken_times p) held, takes_other p q true e)),
      ))
      (cases_eq q p);
}
