-- What a walk notes stays true at its loads.
use Rattle.std.proofs.Common.{◌≡◌, ◌≢◌, ℕ, ◌%◌, ◌<◌, ◌≤◌, Bool, true, false, cond, Option, Some, None, List, [], ◌∷◌, refl, sym, ap, subst, ◌∙◌, ⊎_elim, arith}
use Rattle.std.specs.Prelude.{slice_index, ◌==◌, ◌&&◌, ◌||◌, not}
use Rattle.std.proofs.lemmas.Bool.{and_parts, cases_Bool, cases_eq, cond_both, eq-eqb, eqb-true, false≢true}
use Rattle.std.proofs.lemmas.Option.{none-some}
use Rattle.history_book.specs.declared.event.Event.{Event}
use Rattle.history_book.specs.declared.sizes.Sizes.{Sizes}
use Rattle.track_rule.specs.declared.view.ChainLink.{ChainLink}
use Rattle.track_rule.specs.declared.view.MetLink.{MetLink}
use Rattle.track_rule.specs.declared.view.View.{View}
use Rattle.track_rule.specs.declared.view.Walk.{Walk}
use Rattle.track_rule.specs.BucketSteps.{IsNoteOf, WasChain, end_word}
use Rattle.track_rule.specs.Chains.{AreChains, IsChain}
use Rattle.track_rule.specs.Layout.{first_word, gen_at, head_word, next_word, place_of, second_word}
use Rattle.track_rule.specs.Notes.{fresh_walk, has_met, is_after, is_changed, is_note_of, is_other, just_met, link_note, link_noted, lost_note, lost_noted, met_read, met_then, note_then, note_where, read_then, tuple_note, tuple_noted}
use Rattle.track_rule.specs.Sums.{total}
use Rattle.track_rule.specs.Walks.{IsRead, IsWalk, Matches, Stands, rev_onto}
use Rattle.track_rule.proofs.ChainLists.{chain_at, chain_of, total_rev}
use Rattle.track_rule.proofs.Lists.{same_bit}
use Rattle.track_rule.proofs.ShutChains.{at_place}

module _ (z : Sizes) (ws : List ℕ) (chains : ℕ → List ChainLink) (front : List Event) where
  -- a walk of which nothing was read
  pub fresh_is : (b n : ℕ) → b < z.buckets → n ≤ gen_at z ws b → IsWalk z ws chains front (fresh_walk b n)
  fresh_is b n below least = record {
    bucket = below;
    least = least;
    stands = λ here even. record { passed = []; rest = chains b; all = refl; matches = tt; ended = λ e. absurd (false≢true e) };
    known = λ point e. absurd (none-some point e);
    gone = λ e even. absurd (false≢true e);
  }

  -- the note after a load of the generation
  pub note_is : (b : ℕ) (o : Option Walk) → b < z.buckets → ((m : Walk) → o ≡ Some m → IsWalk z ws chains front m)
      → IsWalk z ws chains front (note_then b (gen_at z ws b) o)
  note_is b None below h = fresh_is b (gen_at z ws b) below (omega arith)
  note_is b (Some m) below h =
      cond_both (is_note_of b (gen_at z ws b) m) m (fresh_walk b (gen_at z ws b)) (IsWalk z ws chains front) (λ e. h m refl)
      (λ e. fresh_is b (gen_at z ws b) below (omega arith))

  -- one link more, or the end, where the chain goes on with it
  module _ (b : ℕ) (n : ℕ) where
    more_stands : (m : Walk) (chain passed rest : List ChainLink) → chain ≡ rev_onto passed rest → Matches m.met passed
        → (m.ended ≡ true → rest ≡ []) → IsChain z ws b n rest → (n == 0) ≡ false → Stands chain (record m { met = just_met n ∷ m.met })
    more_stands m chain passed [] all matches ended link some = absurd (false≢true (sym some ∙ eq-eqb n 0 link))
    more_stands m chain passed (e ∷ es) all matches ended link some = record {
      passed = e ∷ passed;
      rest = es;
      all = all;
      matches = (link.0, tt, tt, matches);
      ended = λ t. let none : e ∷ es ≡ [] = ended t in cc;
    }

    end_stands : (m : Walk) (chain passed rest : List ChainLink) → chain ≡ rev_onto passed rest → Matches m.met passed
        → IsChain z ws b n rest → (n == 0) ≡ true → Stands chain (record m { ended = true })
    end_stands m chain passed [] all matches link none = record { passed = passed; rest = []; all = all; matches = matches; ended = λ t. refl }
    end_stands m chain passed (e ∷ es) all matches link none = absurd (omega (arith, eqb-true n 0 none, link.0, link.1.some))

  pub met_is : (n : ℕ) (m : Walk) → IsWalk z ws chains front m
      → (gen_at z ws m.bucket ≡ m.generation → m.generation % 2 ≡ 0 → (t : Stands (chains m.bucket) m) → IsChain z ws m.bucket n t.rest)
      → IsWalk z ws chains front (met_then n m)
  met_is n m w next =
      cond_both (n == 0) (record m { ended = true }) (record m { met = just_met n ∷ m.met }) (IsWalk z ws chains front)
      (λ e. record {
        bucket = w.bucket;
        least = w.least;
        stands = λ here even. let t = w.stands here even in end_stands m.bucket n m (chains m.bucket) t.passed t.rest t.all t.matches (next here even t) e;
        known = λ point at. let k = w.known point at in record { seen = k.seen; live = k.live };
        gone = w.gone;
      })
      (λ e. record {
        bucket = w.bucket;
        least = w.least;
        stands = λ here even.
            let t = w.stands here even in more_stands m.bucket n m (chains m.bucket) t.passed t.rest t.all t.matches t.ended (next here even t) e;
        known = λ point at. let k = w.known point at in record { seen = k.seen; live = k.live };
        gone = w.gone;
      })

  -- the word after the newest link that was met is the one after what was passed
  after_met : (b word : ℕ) (met : List MetLink) (passed : List ChainLink) → Matches met passed → is_after z word met ≡ true → end_word z b passed ≡ word
  after_met b word [] passed m e = absurd (false≢true e)
  after_met b word (m ∷ ms) [] t e = absurd t
  after_met b word (m ∷ ms) (p ∷ ps) t e = ap (next_word z) (sym t.0) ∙ eqb-true (next_word z m.link) word e

  -- the note after a load of a link
  pub link_is : (word : ℕ) (m : Walk) → ((b : ℕ) → b < z.buckets → IsChain z ws b (slice_index ws (head_word z b)) (chains b))
      → IsWalk z ws chains front m → IsWalk z ws chains front (link_noted z word (slice_index ws word) m)
  link_is word m linked w =
      cond_both (head_word z m.bucket == word) (met_then (slice_index ws word) (fresh_walk m.bucket m.generation))
      (cond (not m.ended && is_after z word m.met) (met_then (slice_index ws word) m) m) (IsWalk z ws chains front)
      (λ e.
      met_is (slice_index ws word) (fresh_walk m.bucket m.generation) (fresh_is m.bucket m.generation w.bucket w.least)
      (λ here even t. head_chain (eqb-true (head_word z m.bucket) word e) t.passed t.rest t.all t.matches))
      (λ e.
      cond_both (not m.ended && is_after z word m.met) (met_then (slice_index ws word) m) m (IsWalk z ws chains front)
      (λ f.
      met_is (slice_index ws word) m w
      (λ here even t.
      let there : end_word z m.bucket t.passed ≡ word = after_met m.bucket word m.met t.passed t.matches (and_parts (not m.ended) (is_after z word m.met) f).1 in
      subst (λ (k : ℕ). IsChain z ws m.bucket (slice_index ws k) t.rest) there
      (chain_at z ws m.bucket t.passed t.rest (slice_index ws (head_word z m.bucket)) refl
      (subst (IsChain z ws m.bucket (slice_index ws (head_word z m.bucket))) t.all (linked m.bucket w.bucket)))))
      (λ f. w))
    where
      head_chain : head_word z m.bucket ≡ word → (passed rest : List ChainLink) → chains m.bucket ≡ rev_onto passed rest → Matches [] passed
          → IsChain z ws m.bucket (slice_index ws word) rest
      head_chain e [] rest all matches =
          subst (λ (k : ℕ). IsChain z ws m.bucket (slice_index ws k) rest) e
          (subst (IsChain z ws m.bucket (slice_index ws (head_word z m.bucket))) all (linked m.bucket w.bucket))
      head_chain e (p ∷ ps) rest all matches = absurd matches

  -- what is read of the newest link's tuple
  read_is : (n e : ℕ) (o : Option ℕ) → n ≡ e → IsRead o e → IsRead (read_then n o) e
  read_is n e None same r = same
  read_is n e (Some k) same r = r

  not_other : (n e : ℕ) (o : Option ℕ) → n ≡ e → IsRead o e → is_other o n ≡ true → ⊥
  not_other n e None same r other = false≢true other
  not_other n e (Some k) same r other = false≢true (sym (ap not (eq-eqb k n (r ∙ sym same))) ∙ other)

  module _ (b word : ℕ) where
    read_matches : (met : List MetLink) (passed rest : List ChainLink) → Matches met passed → IsChain z ws b (slice_index ws (head_word z b)) (rev_onto passed rest)
        → Matches (met_read z word (slice_index ws word) met) passed
    read_matches [] passed rest t c = t
    read_matches (m ∷ ms) [] rest t c = absurd t
    read_matches (m ∷ ms) (p ∷ ps) rest t c =
        let linked = (chain_at z ws b ps (p ∷ rest) (slice_index ws (head_word z b)) refl c).1 in
        cond_both (first_word z m.link == word) (record m { first = read_then (slice_index ws word) m.first })
        (cond (second_word z m.link == word) (record m { second = read_then (slice_index ws word) m.second }) m) (λ x. Matches (x ∷ ms) (p ∷ ps))
        (λ e.
        let here : slice_index ws word ≡ p.pair.first =
        ap (slice_index ws) (sym (eqb-true (first_word z m.link) word e) ∙ ap (first_word z) t.0) ∙ linked.first in
        (t.0, read_is (slice_index ws word) p.pair.first m.first here t.1, t.2, t.3))
        (λ e.
        cond_both (second_word z m.link == word) (record m { second = read_then (slice_index ws word) m.second }) m (λ x. Matches (x ∷ ms) (p ∷ ps))
        (λ f.
        let here : slice_index ws word ≡ p.pair.second =
        ap (slice_index ws) (sym (eqb-true (second_word z m.link) word f) ∙ ap (second_word z) t.0) ∙ linked.second in
        (t.0, t.1, read_is (slice_index ws word) p.pair.second m.second here t.2, t.3))
        (λ f. t))

    not_changed : (met : List MetLink) (passed rest : List ChainLink) → Matches met passed → IsChain z ws b (slice_index ws (head_word z b)) (rev_onto passed rest)
        → is_changed z word (slice_index ws word) met ≡ true → ⊥
    not_changed [] passed rest t c e = false≢true e
    not_changed (m ∷ ms) [] rest t c e = t
    not_changed (m ∷ ms) (p ∷ ps) rest t c e =
        let linked = (chain_at z ws b ps (p ∷ rest) (slice_index ws (head_word z b)) refl c).1 in
        ⊎_elim
        (λ (f : (first_word z m.link == word && is_other m.first (slice_index ws word)) ≡ true).
        let parts = and_parts (first_word z m.link == word) (is_other m.first (slice_index ws word)) f in
        not_other (slice_index ws word) p.pair.first m.first
        (ap (slice_index ws) (sym (eqb-true (first_word z m.link) word parts.0) ∙ ap (first_word z) t.0) ∙ linked.first) t.1 parts.1)
        (λ (f : (first_word z m.link == word && is_other m.first (slice_index ws word)) ≡ false).
        let parts = and_parts (second_word z m.link == word) (is_other m.second (slice_index ws word))
        (sym (ap (λ (k : Bool). k || (second_word z m.link == word && is_other m.second (slice_index ws word))) f) ∙ e) in
        not_other (slice_index ws word) p.pair.second m.second
        (ap (slice_index ws) (sym (eqb-true (second_word z m.link) word parts.0) ∙ ap (second_word z) t.0) ∙ linked.second) t.2 parts.1)
        (cases_Bool (first_word z m.link == word && is_other m.first (slice_index ws word)))

  -- the note after a load of a word of a tuple
  pub tuple_is : (word : ℕ) (m : Walk) → ((b : ℕ) → b < z.buckets → IsChain z ws b (slice_index ws (head_word z b)) (chains b))
      → IsWalk z ws chains front m → IsWalk z ws chains front (tuple_noted z word (slice_index ws word) m)
  tuple_is word m linked w = record {
    bucket = w.bucket;
    least = w.least;
    stands = λ here even.
        let t = w.stands here even in
        record {
          passed = t.passed;
          rest = t.rest;
          all = t.all;
          matches = read_matches m.bucket word m.met t.passed t.rest t.matches (whole t);
          ended = t.ended;
        };
    known = λ point at. let k = w.known point at in record { seen = k.seen; live = k.live };
    gone = λ e even.
        ⊎_elim
        (λ (f : m.passed ≡ true). w.gone f even)
        (λ (f : m.passed ≡ false).
        let changed : is_changed z word (slice_index ws word) m.met ≡ true = sym (ap (λ (k : Bool). k || is_changed z word (slice_index ws word) m.met) f) ∙ e in
        ⊎_elim
        (λ (g : gen_at z ws m.bucket ≡ m.generation).
        let t = w.stands g even in absurd (not_changed m.bucket word m.met t.passed t.rest t.matches (whole t) changed))
        (λ (g : gen_at z ws m.bucket ≢ m.generation). omega (arith, w.least, g))
        (cases_eq (gen_at z ws m.bucket) m.generation))
        (cases_Bool m.passed);
  }
    where
      whole : (t : Stands (chains m.bucket) m) → IsChain z ws m.bucket (slice_index ws (head_word z m.bucket)) (rev_onto t.passed t.rest)
      whole t = subst (IsChain z ws m.bucket (slice_index ws (head_word z m.bucket))) t.all (linked m.bucket w.bucket)

-- a link of a place that was met is of an entry that was passed
met_there : (place : ℕ) (met : List MetLink) (passed : List ChainLink) → Matches met passed → has_met place met ≡ true → 0 < total (at_place place) passed
met_there place [] passed t e = absurd (false≢true e)
met_there place (m ∷ ms) [] t e = absurd t
met_there place (m ∷ ms) (p ∷ ps) t e =
    ⊎_elim
    (λ (f : (place_of m.link == place) ≡ true). omega (arith, same_bit (place_of p.link) place (ap place_of (sym t.0) ∙ eqb-true (place_of m.link) place f)))
    (λ (f : (place_of m.link == place) ≡ false).
    omega (arith, met_there place ms ps t.3 (sym (ap (λ (k : Bool). k || has_met place ms) f) ∙ e)))
    (cases_Bool (place_of m.link == place))

module _ (z : Sizes) (ws : List ℕ) (chains : ℕ → List ChainLink) (front : List Event) (place : ℕ)
    (none : (b : ℕ) → b < z.buckets → gen_at z ws b % 2 ≡ 0 → total (at_place place) (chains b) ≡ 0) where
  -- the note, where no chain that stands has an entry of the place
  lost_is : (m : Walk) → IsWalk z ws chains front m → IsWalk z ws chains front (lost_noted place m)
  lost_is m w = record {
    bucket = w.bucket;
    least = w.least;
    stands = λ here even.
        let t = w.stands here even in record { passed = t.passed; rest = t.rest; all = t.all; matches = t.matches; ended = t.ended };
    known = λ point at. let k = w.known point at in record { seen = k.seen; live = k.live };
    gone = λ e even.
        ⊎_elim
        (λ (f : m.passed ≡ true). w.gone f even)
        (λ (f : m.passed ≡ false).
        let met : has_met place m.met ≡ true = sym (ap (λ (k : Bool). k || has_met place m.met) f) ∙ e in
        ⊎_elim
        (λ (g : gen_at z ws m.bucket ≡ m.generation).
        let t = w.stands g even in
        absurd (omega (
          arith,
          none m.bucket w.bucket (omega (arith, g, even)),
          ap (total (at_place place)) t.all,
          total_rev (at_place place) t.passed t.rest,
          met_there place m.met t.passed t.matches met,
        )))
        (λ (g : gen_at z ws m.bucket ≢ m.generation). omega (arith, w.least, g))
        (cases_eq (gen_at z ws m.bucket) m.generation))
        (cases_Bool m.passed);
  }

  pub lost_note_is : (o : Option Walk) → ((m : Walk) → o ≡ Some m → IsWalk z ws chains front m)
      → (m : Walk) → lost_note place o ≡ Some m → IsWalk z ws chains front m
  lost_note_is None h m e = absurd (none-some m e)
  lost_note_is (Some n) h m e = let same : lost_noted place n ≡ m = cc in subst (IsWalk z ws chains front) same (lost_is n (h n refl))

-- the note of a pass after a load that may show so
pub note_where_is : (z : Sizes) (ws : List ℕ) (chains : ℕ → List ChainLink) (front : List Event) (lost : Bool) (place : ℕ) (o : Option Walk)
    → (lost ≡ true → (b : ℕ) → b < z.buckets → gen_at z ws b % 2 ≡ 0 → total (at_place place) (chains b) ≡ 0)
    → ((m : Walk) → o ≡ Some m → IsWalk z ws chains front m) → (m : Walk) → note_where lost place o ≡ Some m → IsWalk z ws chains front m
note_where_is z ws chains front false place o none h m e = h m e
note_where_is z ws chains front true place o none h m e = lost_note_is z ws chains front place (none refl) o h m e

-- the note of a pass after a load of a walk
pub link_note_is : (z : Sizes) (ws : List ℕ) (chains : ℕ → List ChainLink) (front : List Event) (word : ℕ) (o : Option Walk)
    → ((b : ℕ) → b < z.buckets → IsChain z ws b (slice_index ws (head_word z b)) (chains b)) → ((m : Walk) → o ≡ Some m → IsWalk z ws chains front m)
    → (m : Walk) → link_note z word (slice_index ws word) o ≡ Some m → IsWalk z ws chains front m
link_note_is z ws chains front word None linked h m e = absurd (none-some m e)
link_note_is z ws chains front word (Some n) linked h m e =
    let same : link_noted z word (slice_index ws word) n ≡ m = cc in
    subst (IsWalk z ws chains front) same (link_is z ws chains front word n linked (h n refl))

pub tuple_note_is : (z : Sizes) (ws : List ℕ) (chains : ℕ → List ChainLink) (front : List Event) (word : ℕ) (o : Option Walk)
    → ((b : ℕ) → b < z.buckets → IsChain z ws b (slice_index ws (head_word z b)) (chains b)) → ((m : Walk) → o ≡ Some m → IsWalk z ws chains front m)
    → (m : Walk) → tuple_note z word (slice_index ws word) o ≡ Some m → IsWalk z ws chains front m
tuple_note_is z ws chains front word None linked h m e = absurd (none-some m e)
tuple_note_is z ws chains front word (Some n) linked h m e =
    let same : tuple_noted z word (slice_index ws word) n ≡ m = cc in
    subst (IsWalk z ws chains front) same (tuple_is z ws chains front word n linked (h n refl))

-- the note is of the generation that was loaded
pub note_of : (b n : ℕ) (o : Option Walk) → IsNoteOf b n (note_then b n o)
note_of b n None = record { bucket_is = refl; generation_is = refl }
note_of b n (Some m) =
    cond_both (is_note_of b n m) m (fresh_walk b n) (IsNoteOf b n)
    (λ e. let parts = and_parts (m.bucket == b) (m.generation == n) e in record { bucket_is = eqb-true m.bucket b parts.0; generation_is = eqb-true m.generation n parts.1 })
    (λ e. record { bucket_is = refl; generation_is = refl })

-- a note that is met again was true
pub was_chain : (z : Sizes) (log : List Event) (ws : List ℕ) (vs : List View) (chains : ℕ → List ChainLink) (front : List Event) (m : Walk)
    → AreChains z log ws vs chains → IsWalk z ws chains front m → gen_at z ws m.bucket ≡ m.generation → m.generation % 2 ≡ 0
    → (m.passed ≡ false) × WasChain z front m
was_chain z log ws vs chains front m h w here even = (
  ⊎_elim (λ (e : m.passed ≡ true). absurd (omega (arith, here, w.gone e even))) (λ (e : m.passed ≡ false). e) (cases_Bool m.passed),
  record {
    chain = chains m.bucket;
    right = chain_of z log ws vs chains h m.bucket w.bucket;
    stands = w.stands here even;
    live = λ point at. let k = w.known point at in (k.seen, k.live here even);
  },
)
