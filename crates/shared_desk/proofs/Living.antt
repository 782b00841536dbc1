-- What is live under a tuple, by the words of the tuples of live records.
use Rattle.std.proofs.Common.{◌≡◌, ℕ, Bool, true, false, Option, Some, None, List, [], ◌∷◌, length, refl, sym, ap, ◌∙◌, ⊎_elim, ◌⊎◌, inl, inr}
use Rattle.std.specs.Prelude.{◌==◌, ◌&&◌, find, if◌then◌else◌, slice_get}
use Rattle.std.specs.List.{list_any}
use Rattle.std.proofs.lemmas.Bool.{and_from, and_parts, cases_Bool, eq-eqb, eqb-true, false≢true, or_parts}
use Rattle.std.proofs.lemmas.List.Elements.{recursion_from_All}
use Rattle.history_book.specs.Desk.{IsLiveIn, IsLiveUnder}
use Rattle.history_book.specs.History.{is_legal}
use Rattle.history_book.specs.Laws.{AreApart, IsConfirmed, LiveRecordsAreConfirmed}
use Rattle.history_book.specs.Record.{has_id, has_original, has_reply}
use Rattle.history_book.specs.State.{live_under}
use Rattle.history_book.specs.State as state
use Rattle.history_book.specs.declared.event.Event.{Event}
use Rattle.history_book.specs.declared.event.Event.TheVariants.{Confirm}
use Rattle.history_book.specs.declared.record.Record.{Record}
use Rattle.history_book.specs.declared.sizes.Sizes.{Sizes}
use Rattle.tuple_core.specs.Tuple.{is_valid}
use Rattle.tuple_core.specs.Words.{address_word, flow_word}
use Rattle.tuple_core.specs.declared.Direction.{Direction}
use Rattle.tuple_core.specs.declared.Direction.TheVariants.{Original, Reply}
use Rattle.tuple_core.specs.declared.Tuple.{Tuple}
use Rattle.track_rule.specs.Chains.{pair_of}
use Rattle.track_rule.specs.History.{records_after, state_after}
use Rattle.track_rule.specs.Layout.{side_of}
use Rattle.track_rule.specs.References.{WasConfirmed}
use Rattle.track_rule.specs.declared.view.ChainLink.{ChainLink}
use Rattle.bucket_table.specs.Finding.{direction_by, is_pair}
use Rattle.bucket_table.specs.Following.{has_words}
use Rattle.bucket_table.specs.LockedChain.{link_with, original_first}
use Rattle.shared_desk.proofs.Members.{IsIn, found_none, found_only, holds_in, same_or_apart}
use Rattle.shared_desk.proofs.Naming.{AreLinked, valid_tuples}
use Rattle.shared_desk.proofs.Under.{one_original, one_reply, under_none, valid_in}
use Rattle.shared_desk.specs.TupleLaws.{TuplesTellEntries}

-- one that is found is there, and passes the test
found_in_list : (q : Record → Bool) (rs : List Record) (x : Record) → find q rs ≡ Some x → IsIn x rs × (q x ≡ true)
found_in_list q [] x e = cc
found_in_list q (r ∷ rs) x e =
    ⊎_elim
    (λ (t : q r ≡ true).
    let same : r ≡ x = one r x (sym (ap (λ (b : Bool). if b then Some r else find q rs) t) ∙ e) in (inl same, sym (ap q same) ∙ t))
    (λ (t : q r ≡ false). let rest = found_in_list q rs x (sym (ap (λ (b : Bool). if b then Some r else find q rs) t) ∙ e) in (inr rest.0, rest.1))
    (cases_Bool (q r))
  where
    one : (a b : Record) → Some a ≡ Some b → a ≡ b
    one a b k = cc

-- a chain without the words has no link with them
no_link : (d a b : ℕ) (chain : List ChainLink) → list_any (has_words a b) chain ≡ false → link_with d a b chain ≡ None
no_link d a b [] e = refl
no_link d a b (x ∷ xs) e =
    let parts = or_parts (has_words a b x) (list_any (has_words a b) xs) e in
    ap (λ (t : Bool). if t && side_of x.link == d then Some x.link else link_with d a b xs) parts.0 ∙ no_link d a b xs parts.1

module _ (z : Sizes) (log : List Event) (legal : is_legal z log ≡ true) (laws : TuplesTellEntries) (t : Tuple) where
  -- a tuple that is not valid is nobody's
  pub nobody_invalid : is_valid t ≡ false → live_under t (state_after log) ≡ None
  nobody_invalid invalid =
      (λ i. state.original_first (no_original i) (no_reply i))
    where
      no_original : find (has_original t) (records_after log) ≡ None
      no_original =
          found_none (has_original t) (records_after log)
          (λ q there k.
          false≢true (sym invalid ∙ sym (ap is_valid ((laws.same q.original t).0 k)) ∙ (valid_tuples q (valid_in z log legal laws q there)).0))

      no_reply : find (has_reply t) (records_after log) ≡ None
      no_reply =
          found_none (has_reply t) (records_after log)
          (λ q there k.
          false≢true (sym invalid ∙ sym (ap is_valid ((laws.same q.reply t).0 k)) ∙ (valid_tuples q (valid_in z log legal laws q there)).1))

  module _ (valid_t : is_valid t ≡ true) where
    -- nor is one that no link of the chain of what is live has
    pub nobody_linked : (chain : List ChainLink) → AreLinked z t chain (records_after log) → list_any (has_words (address_word t) (flow_word t)) chain ≡ false
        → live_under t (state_after log) ≡ None
    nobody_linked chain sums none =
        (under_none z log legal laws t chain sums valid_t
        (λ i. original_first (no_link 0 (address_word t) (flow_word t) chain none i) (no_link 1 (address_word t) (flow_word t) chain none i))).0

    -- words tell the tuple
    words_tell : (u : Tuple) → is_valid u ≡ true → is_pair (address_word t) (flow_word t) (pair_of u) ≡ true → u ≡ t
    words_tell u valid_u e =
        let p = and_parts (address_word u == address_word t) (flow_word u == flow_word t) e in
        laws.words u t valid_u valid_t (λ i. eqb-true (address_word u) (address_word t) p.0 i ∷ eqb-true (flow_word u) (flow_word t) p.1 i ∷ [])

    tell_words : (u : Tuple) → u ≡ t → is_pair (address_word t) (flow_word t) (pair_of u) ≡ true
    tell_words u e =
        and_from (address_word u == address_word t) (flow_word u == flow_word t) (eq-eqb (address_word u) (address_word t) (ap address_word e))
        (eq-eqb (flow_word u) (flow_word t) (ap flow_word e))

    -- the entry of an id that is live at a place with the tuple in a direction
    module _ (low : LiveRecordsAreConfirmed) (place id : ℕ) (was : WasConfirmed log id place) (live : IsLiveIn place id (state_after log)) where
      there : IsIn live.subject (records_after log) × (has_id id live.subject ≡ true)
      there = found_in_list (has_id id) (records_after log) live.subject live.is

      its_id : live.subject.id ≡ id
      its_id = eqb-true live.subject.id id there.1

      confirmed : IsConfirmed log live.subject
      confirmed =
          holds_in (IsConfirmed log) live.subject (records_after log) (recursion_from_All (IsConfirmed log) (records_after log) (low z log (length log) legal).0) there.0

      one_confirm : (a b : Record) → Some (Confirm a) ≡ Some (Confirm b) → a ≡ b
      one_confirm a b e = cc

      same_subject : confirmed.subject ≡ was.subject
      same_subject = one_confirm confirmed.subject was.subject (sym confirmed.event ∙ ap (slice_get log) its_id ∙ was.event)

      same_original : live.subject.original ≡ was.subject.original
      same_original = confirmed.same.original ∙ ap (λ (r : Record). r.original) same_subject

      same_reply : live.subject.reply ≡ was.subject.reply
      same_reply = confirmed.same.reply ∙ ap (λ (r : Record). r.reply) same_subject

      valid_both : (is_valid live.subject.original ≡ true) × (is_valid live.subject.reply ≡ true)
      valid_both = valid_tuples live.subject (valid_in z log legal laws live.subject there.0)

      by_original : live.subject.original ≡ t → live_under t (state_after log) ≡ Some (record { subject = live.subject; direction = Original })
      by_original e =
          ap (λ (k : Option Record). state.original_first k (find (has_reply t) (records_after log)))
          (found_only (has_original t) live.subject (records_after log) there.0 ((laws.same live.subject.original t).1 e)
          (λ q i k. one_original z log legal laws t q live.subject i there.0 ((laws.same q.original t).0 k) e))

      by_reply : live.subject.reply ≡ t → (live.subject.original ≡ t → ⊥) → live_under t (state_after log) ≡ Some (record { subject = live.subject; direction = Reply })
      by_reply e other =
          ap (λ (k : Option Record). state.original_first k (find (has_reply t) (records_after log))) no_original
          ∙ ap (λ (k : Option Record). state.original_first None k)
          (found_only (has_reply t) live.subject (records_after log) there.0 ((laws.same live.subject.reply t).1 e)
          (λ q i k. one_reply z log legal laws t q live.subject i there.0 ((laws.same q.reply t).0 k) e))
        where
          no_original : find (has_original t) (records_after log) ≡ None
          no_original =
              found_none (has_original t) (records_after log)
              (λ q i k.
              let its : q.original ≡ t = (laws.same q.original t).0 k in
              ⊎_elim (λ (s : q ≡ live.subject). other (sym (ap (λ (r : Record). r.original) s) ∙ its))
              (λ (s : AreApart q live.subject ⊎ AreApart live.subject q).
              ⊎_elim (λ (a : AreApart q live.subject). a.original_reply (its ∙ sym e)) (λ (a : AreApart live.subject q). a.reply_original (e ∙ sym its)) s)
              (same_or_apart (records_after log) (laws.apart z log (length log) legal) q live.subject i there.0))

      directed : (b c : Bool) (d : Direction) → is_pair (address_word t) (flow_word t) (pair_of was.subject.original) ≡ b
          → is_pair (address_word t) (flow_word t) (pair_of was.subject.reply) ≡ c → (if b then Some Original else (if c then Some Reply else None)) ≡ Some d
          → live_under t (state_after log) ≡ Some (record { subject = live.subject; direction = d })
      directed true c d e f g =
          by_original (words_tell live.subject.original valid_both.0 (ap (λ (u : Tuple). is_pair (address_word t) (flow_word t) (pair_of u)) same_original ∙ e))
          ∙ ap (λ (k : Direction). Some (record { subject = live.subject; direction = k })) (one Original d g)
        where
          one : (x y : Direction) → Some x ≡ Some y → x ≡ y
          one x y k = cc
      directed false true d e f g =
          by_reply (words_tell live.subject.reply valid_both.1 (ap (λ (u : Tuple). is_pair (address_word t) (flow_word t) (pair_of u)) same_reply ∙ f))
          (λ k. false≢true (sym e ∙ sym (ap (λ (u : Tuple). is_pair (address_word t) (flow_word t) (pair_of u)) same_original) ∙ tell_words live.subject.original k))
          ∙ ap (λ (k : Direction). Some (record { subject = live.subject; direction = k })) (one Reply d g)
        where
          one : (x y : Direction) → Some x ≡ Some y → x ≡ y
          one x y k = cc
      directed false false d e f g = cc

      pub live_there : (d : Direction) → direction_by (address_word t) (flow_word t) was.subject ≡ Some d → IsLiveUnder t place id d (state_after log)
      live_there d e = record {
        subject = live.subject;
        live = directed (is_pair (address_word t) (flow_word t) (pair_of was.subject.original)) (is_pair (address_word t) (flow_word t) (pair_of was.subject.reply)) d refl refl e;
        named = its_id;
        placed = live.placed;
      }
