-- In a table of one pass each word has what the pass read or left there last.
use Rattle.std.specs.Prelude.{◌==◌, if◌then◌else◌, slice_index, slice_set}
use Rattle.std.proofs.Common.{◌≡◌, ◌≢◌, ℕ, ◌<◌, List, [], ◌∷◌, ◌++◌, length, refl, sym, ap, ◌∙◌, ⊎_elim, arith, set, Bool, eq-eqb, ne_eqb}
use Rattle.std.proofs.lemmas.Bool.{cases_eq}
use Rattle.std.proofs.lemmas.List.{get_or-set_other, get_or-set_same}
use mathlib.Core.Option.{some}
use lib.ListN.{get_elem?}
use Rattle.history_book.specs.declared.event.Event.{Event}
use Rattle.history_book.specs.declared.sizes.Sizes.{Sizes}
use Rattle.track_rule.specs.declared.view.Reading.{Reading}
use Rattle.track_rule.specs.declared.view.View.{View}
use Rattle.track_rule.specs.Passes.{ArePasses, shares_of}
use Rattle.track_rule.specs.Readings.{AreRead, last_read, read_from}
use Rattle.track_rule.proofs.Sums.{each_other, total_two}

-- one reading more
read_more : (k m : ℕ) (rs : List Reading) (r : Reading) → read_from m k (rs ++ r ∷ []) ≡ (if r.word == k then r.value else read_from m k rs)
read_more k m [] r = refl
read_more k m (x ∷ rs) r = read_more k (if x.word == k then x.value else m) rs r

-- the reading that a step adds: of this word, with what is there after it
pub record ReadsAt (i n : ℕ) (v w : View) : Type 0 where
  pub reading : Reading
  pub more : w.readings ≡ v.readings ++ reading ∷ []
  pub word : reading.word ≡ i
  pub value : reading.value ≡ n

-- a word was read that is as it was, or was changed
pub read_on : (z : Sizes) (log : List Event) (ws ws' : List ℕ) (vs : List View) (id i n : ℕ) (v w : View) → ArePasses z log vs → get_elem? vs id ≡ some v
    → 0 < v.passes.shares → slice_index ws' i ≡ n → ((k : ℕ) → k ≢ i → slice_index ws' k ≡ slice_index ws k) → ReadsAt i n v w
    → AreRead z ws vs → AreRead z ws' (set vs id w)
read_on z log ws ws' vs id i n v w passes at has_some here others t h one =
    each_other (λ u. 0 < u.passes.shares → (k : ℕ) → slice_index ws' k ≡ last_read k u) vs id w
    (λ j u other at' has_shares. absurd (omega (arith, one, passes.all, has_some, has_shares, total_two shares_of vs id j v u at at' other)))
    (λ has k.
    let after : last_read k w ≡ (if t.reading.word == k then t.reading.value else last_read k v) =
    ap (λ rs. read_from 0 k rs) t.more ∙ read_more k 0 v.readings t.reading in
    ⊎_elim
    (λ (e : i ≡ k).
    sym (after ∙ ap (λ (b : Bool). if b then t.reading.value else last_read k v) (eq-eqb t.reading.word k (t.word ∙ e))
    ∙ t.value ∙ sym here ∙ ap (slice_index ws') e))
    (λ (e : i ≢ k).
    others k (λ x. e (sym x)) ∙ h one id v at has_some k
    ∙ sym (after ∙ ap (λ (b : Bool). if b then t.reading.value else last_read k v) (ne_eqb t.reading.word k (λ x. e (sym t.word ∙ x)))))
    (cases_eq i k))

-- a word was stored
pub stored_on : (z : Sizes) (log : List Event) (ws : List ℕ) (vs : List View) (id i n : ℕ) (v w : View) → ArePasses z log vs → get_elem? vs id ≡ some v
    → 0 < v.passes.shares → i < length ws → ReadsAt i n v w → AreRead z ws vs → AreRead z (slice_set ws i n) (set vs id w)
stored_on z log ws vs id i n v w passes at has_some low t h =
    read_on z log ws (slice_set ws i n) vs id i n v w passes at has_some (get_or-set_same ws i n 0 low) (λ k other. get_or-set_other ws i k n 0 other) t h
