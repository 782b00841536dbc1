-- What is live under a tuple, by the locked chain of its bucket.
use Rattle.std.proofs.Common.{◌≡◌, ℕ, true, false, Option, Some, None, List, ◌∷◌, length, refl, sym, ap, ◌∙◌, arith, ⊎_elim, ◌⊎◌}
use Rattle.std.specs.Prelude.{not, find}
use Rattle.std.proofs.lemmas.Bool.{cases_Bool, eq-eqb, false≢true, ne_eqb}
use Rattle.std.proofs.lemmas.List.Elements.{recursion_from_All}
use Rattle.history_book.specs.History.{is_legal}
use Rattle.history_book.specs.Laws.{AreApart, RecordsAreApart, RecordsAreOfOneFlow}
use Rattle.history_book.specs.Legality.{is_of_one_flow}
use Rattle.history_book.specs.Record.{has_original, has_place, has_reply}
use Rattle.history_book.specs.State.{Found, is_unused, live_under, winner}
use Rattle.history_book.specs.State as state
use Rattle.history_book.specs.StateLaws.{SameTupleIsEquality}
use Rattle.history_book.specs.declared.event.Event.{Event}
use Rattle.history_book.specs.declared.record.Record.{Record}
use Rattle.history_book.specs.declared.sizes.Sizes.{Sizes}
use Rattle.tuple_core.specs.Laws.{WordsDetermineTheTuple}
use Rattle.tuple_core.specs.Tuple.{is_valid}
use Rattle.tuple_core.specs.Words.{address_word, flow_word}
use Rattle.tuple_core.specs.declared.Direction.{Direction}
use Rattle.tuple_core.specs.declared.Direction.TheVariants.{Original, Reply}
use Rattle.tuple_core.specs.declared.Tuple.{Tuple}
use Rattle.track_rule.specs.History.{records_after, state_after}
use Rattle.track_rule.specs.Layout.{place_of}
use Rattle.track_rule.specs.Phases.{of_place}
use Rattle.track_rule.specs.Sums.{bit, total}
use Rattle.track_rule.specs.Walks.{rev_onto}
use Rattle.track_rule.specs.declared.view.ChainLink.{ChainLink}
use Rattle.bucket_table.specs.LockedChain.{found_in, link_with, original_first, place_in}
use Rattle.shared_desk.specs.Rival.{has_both}
use Rattle.shared_desk.specs.TupleLaws.{TuplesTellEntries}
use Rattle.shared_desk.proofs.Members.{IsIn, any_none, found_none, found_only, holds_in, same_or_apart, weighs_in}
use Rattle.shared_desk.proofs.Naming.{AreLinked, original_free, original_owner, reply_free, reply_owner}

some_inj : {X : Type 0} (a b : X) → Some a ≡ Some b → a ≡ b
some_inj a b e = cc

module _ (z : Sizes) (log : List Event) (legal : is_legal z log ≡ true) (laws : TuplesTellEntries) where
  pub valid_in : (r : Record) → IsIn r (records_after log) → is_of_one_flow r ≡ true
  valid_in r i = holds_in (λ r. is_of_one_flow r ≡ true) r (records_after log) (recursion_from_All (λ r. is_of_one_flow r ≡ true) (records_after log) (laws.one z log (length log) legal)) i

  pub one_original : (t : Tuple) (q r : Record) → IsIn q (records_after log) → IsIn r (records_after log) → q.original ≡ t → r.original ≡ t → q ≡ r
  one_original t q r i j e f =
      ⊎_elim (λ (k : q ≡ r). k)
      (λ (k : AreApart q r ⊎ AreApart r q). ⊎_elim (λ (a : AreApart q r). absurd (a.originals (e ∙ sym f))) (λ (a : AreApart r q). absurd (a.originals (f ∙ sym e))) k)
      (same_or_apart (records_after log) (laws.apart z log (length log) legal) q r i j)

  pub one_reply : (t : Tuple) (q r : Record) → IsIn q (records_after log) → IsIn r (records_after log) → q.reply ≡ t → r.reply ≡ t → q ≡ r
  one_reply t q r i j e f =
      ⊎_elim (λ (k : q ≡ r). k)
      (λ (k : AreApart q r ⊎ AreApart r q). ⊎_elim (λ (a : AreApart q r). absurd (a.replies (e ∙ sym f))) (λ (a : AreApart r q). absurd (a.replies (f ∙ sym e))) k)
      (same_or_apart (records_after log) (laws.apart z log (length log) legal) q r i j)

  one_place : (p : ℕ) (q r : Record) → IsIn q (records_after log) → IsIn r (records_after log) → q.place ≡ p → r.place ≡ p → q ≡ r
  one_place p q r i j e f =
      ⊎_elim (λ (k : q ≡ r). k)
      (λ (k : AreApart q r ⊎ AreApart r q). ⊎_elim (λ (a : AreApart q r). absurd (a.places (e ∙ sym f))) (λ (a : AreApart r q). absurd (a.places (f ∙ sym e))) k)
      (same_or_apart (records_after log) (laws.apart z log (length log) legal) q r i j)

  -- no live record has a place that none weighs at
  pub unused_place : (place : ℕ) → total (of_place place) (records_after log) ≡ 0 → is_unused place (state_after log) ≡ true
  unused_place place zero_total =
      ap not (any_none (has_place place) (records_after log)
      (λ q i t. omega (arith, zero_total, weighs_in (of_place place) q (records_after log) i, ap bit t)))

  -- the record that is live under the tuple, and its link
  pub record IsUnder (t : Tuple) (chain : List ChainLink) (place : ℕ) (direction : Direction) : Type 0 where
    pub subject : Record
    pub there : IsIn subject (records_after log)
    pub live : live_under t (state_after log) ≡ Some (record { subject = subject; direction = direction })
    pub placed : subject.place ≡ place
    pub original : direction ≡ Original → subject.original ≡ t
    pub passed : List ChainLink
    pub entry : ChainLink
    pub rest : List ChainLink
    pub all : chain ≡ rev_onto passed (entry ∷ rest)
    pub at : place_of entry.link ≡ place
    pub named : entry.id ≡ Some subject.id

  module _ (t : Tuple) (chain : List ChainLink) (sums : AreLinked z t chain (records_after log)) (valid_t : is_valid t ≡ true) where
    no_original : link_with 0 (address_word t) (flow_word t) chain ≡ None → find (has_original t) (records_after log) ≡ None
    no_original e = found_none (has_original t) (records_after log) (λ q i k. original_free z t chain (records_after log) sums valid_in valid_t laws.words e q i ((laws.same q.original t).0 k))

    no_reply : link_with 1 (address_word t) (flow_word t) chain ≡ None → find (has_reply t) (records_after log) ≡ None
    no_reply e = found_none (has_reply t) (records_after log) (λ q i k. reply_free z t chain (records_after log) sums valid_in valid_t laws.words e q i ((laws.same q.reply t).0 k))

    by_links : (o r : Option ℕ) (place : ℕ) (direction : Direction) → link_with 0 (address_word t) (flow_word t) chain ≡ o → link_with 1 (address_word t) (flow_word t) chain ≡ r
        → original_first o r ≡ Some (place, direction) → IsUnder t chain place direction
    by_links (Some x) r place direction e f g =
        let pair : (place_of x, Original) ≡ (place, direction) = some_inj _ _ g in
        let owns = original_owner z t chain (records_after log) sums valid_in valid_t laws.words x e in
        let found : find (has_original t) (records_after log) ≡ Some owns.subject =
        found_only (has_original t) owns.subject (records_after log) owns.there ((laws.same owns.subject.original t).1 owns.tuple)
        (λ q i k. one_original t q owns.subject i owns.there ((laws.same q.original t).0 k) owns.tuple) in
        let p : place_of x ≡ place = ap (λ (q : ℕ × Direction). q.0) pair in
        let d : Original ≡ direction = ap (λ (q : ℕ × Direction). q.1) pair in
        record {
          subject = owns.subject;
          there = owns.there;
          live = ap (λ (k : Option Record). state.original_first k (find (has_reply t) (records_after log))) found
              ∙ ap (λ (k : Direction). Some (record { subject = owns.subject; direction = k })) d;
          placed = owns.placed ∙ p;
          original = λ k. owns.tuple;
          passed = owns.passed;
          entry = owns.entry;
          rest = owns.rest;
          all = owns.all;
          at = owns.at ∙ p;
          named = owns.named;
        }
    by_links None (Some x) place direction e f g =
        let pair : (place_of x, Reply) ≡ (place, direction) = some_inj _ _ g in
        let owns = reply_owner z t chain (records_after log) sums valid_in valid_t laws.words x f in
        let found : find (has_reply t) (records_after log) ≡ Some owns.subject =
        found_only (has_reply t) owns.subject (records_after log) owns.there ((laws.same owns.subject.reply t).1 owns.tuple)
        (λ q i k. one_reply t q owns.subject i owns.there ((laws.same q.reply t).0 k) owns.tuple) in
        let p : place_of x ≡ place = ap (λ (q : ℕ × Direction). q.0) pair in
        let d : Reply ≡ direction = ap (λ (q : ℕ × Direction). q.1) pair in
        record {
          subject = owns.subject;
          there = owns.there;
          live = ap (λ (k : Option Record). state.original_first k (find (has_reply t) (records_after log))) (no_original e)
              ∙ ap (λ (k : Option Record). state.original_first None k) found
              ∙ ap (λ (k : Direction). Some (record { subject = owns.subject; direction = k })) d;
          placed = owns.placed ∙ p;
          original = λ k. absurd (not_original (d ∙ k));
          passed = owns.passed;
          entry = owns.entry;
          rest = owns.rest;
          all = owns.all;
          at = owns.at ∙ p;
          named = owns.named;
        }
      where
        not_original : Reply ≡ Original → ⊥
        not_original k = cc
    by_links None None place direction e f g = cc

    pub under : (place : ℕ) (direction : Direction) → found_in (address_word t) (flow_word t) chain ≡ Some (place, direction) → IsUnder t chain place direction
    under place direction e = by_links (link_with 0 (address_word t) (flow_word t) chain) (link_with 1 (address_word t) (flow_word t) chain) place direction refl refl e

    none_of : (o r : Option ℕ) → original_first o r ≡ None → (o ≡ None) × (r ≡ None)
    none_of (Some x) r e = cc
    none_of None (Some y) e = cc
    none_of None None e = (refl, refl)

    pub under_none : found_in (address_word t) (flow_word t) chain ≡ None
        → (live_under t (state_after log) ≡ None) × ((r : Record) → IsIn r (records_after log) → has_original t r ≡ false)
    under_none e =
        let parts = none_of (link_with 0 (address_word t) (flow_word t) chain) (link_with 1 (address_word t) (flow_word t) chain) e in (
          ap (λ (k : Option Record). state.original_first k (find (has_reply t) (records_after log))) (no_original parts.0)
              ∙ ap (λ (k : Option Record). state.original_first None k) (no_reply parts.1),
          λ r i. has_not r i parts.0,
        )
      where
        has_not : (r : Record) → IsIn r (records_after log) → link_with 0 (address_word t) (flow_word t) chain ≡ None → has_original t r ≡ false
        has_not r i k =
            ⊎_elim
            (λ (h : has_original t r ≡ true). absurd (original_free z t chain (records_after log) sums valid_in valid_t laws.words k r i ((laws.same r.original t).0 h)))
            (λ (h : has_original t r ≡ false). h)
            (cases_Bool (has_original t r))

    -- of an entry that is found by its reply tuple the tuple is not the original one
    pub not_original : (place : ℕ) (r : Record) → IsIn r (records_after log) → found_in (address_word t) (flow_word t) chain ≡ Some (place, Reply) → has_original t r ≡ false
    not_original place r i e = by_first (link_with 0 (address_word t) (flow_word t) chain) (link_with 1 (address_word t) (flow_word t) chain) refl e
      where
        by_first : (o p : Option ℕ) → link_with 0 (address_word t) (flow_word t) chain ≡ o → original_first o p ≡ Some (place, Reply) → has_original t r ≡ false
        by_first (Some x) p k g = absurd (apart_ways (ap (λ (q : ℕ × Direction). q.1) (some_inj (place_of x, Original) (place, Reply) g)))
          where
            apart_ways : Original ≡ Reply → ⊥
            apart_ways h = cc
        by_first None p k g =
            ⊎_elim
            (λ (h : has_original t r ≡ true). absurd (original_free z t chain (records_after log) sums valid_in valid_t laws.words k r i ((laws.same r.original t).0 h)))
            (λ (h : has_original t r ≡ false). h)
            (cases_Bool (has_original t r))

    -- whether the reply link with the tuple is of an entry's place says whether the entry has it as its reply tuple
    pub reply_is : (place : ℕ) (r : Record) → IsIn r (records_after log) → r.place ≡ place
        → has_both Original (place_in (link_with 1 (address_word t) (flow_word t) chain)) place ≡ has_reply t r
    reply_is place r i placed = by_link (link_with 1 (address_word t) (flow_word t) chain) refl
      where
        by_link : (o : Option ℕ) → link_with 1 (address_word t) (flow_word t) chain ≡ o → has_both Original (place_in o) place ≡ has_reply t r
        by_link None k =
            ⊎_elim
            (λ (h : has_reply t r ≡ true). absurd (reply_free z t chain (records_after log) sums valid_in valid_t laws.words k r i ((laws.same r.reply t).0 h)))
            (λ (h : has_reply t r ≡ false). sym h)
            (cases_Bool (has_reply t r))
        by_link (Some x) k =
            let owns = reply_owner z t chain (records_after log) sums valid_in valid_t laws.words x k in
            ⊎_elim
            (λ (h : has_reply t r ≡ true).
            let one : owns.subject ≡ r = one_reply t owns.subject r owns.there i owns.tuple ((laws.same r.reply t).0 h) in
            eq-eqb (place_of x) place (sym owns.placed ∙ ap (λ (q : Record). q.place) one ∙ placed) ∙ sym h)
            (λ (h : has_reply t r ≡ false).
            ne_eqb (place_of x) place
            (λ e.
            let one : owns.subject ≡ r = one_place place owns.subject r owns.there i (owns.placed ∙ e) placed in
            false≢true (sym h ∙ (laws.same r.reply t).1 (ap (λ (q : Record). q.reply) (sym one) ∙ owns.tuple)))
            ∙ sym h)
            (cases_Bool (has_reply t r))
