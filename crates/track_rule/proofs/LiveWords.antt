-- The tuple words of a place that is LIVE of an id: its live record has both of its links in chains, whose words are those of
-- its tuples, and these are the ones of its Confirm.
use Rattle.std.proofs.Common.{◌≡◌, ℕ, ◌+◌, ◌*◌, ◌<◌, Bool, Some, refl, sym, ap, subst, ◌∙◌, arith, eq-eqb, ◌≢◌, ◌≤◌, ⊎_elim, List, [], ◌∷◌, ◌-◌, true, false}
use Rattle.std.specs.Prelude.{slice_get, slice_index, ◌==◌, ◌&&◌, if◌then◌else◌}
use Rattle.std.proofs.lemmas.Bool.{and_from, and_parts, eqb-true, cases_eq}
use mathlib.Core.Option.{some}
use lib.ListN.{get_elem?}
use Rattle.atomic_table.specs.Table.{State}
use Rattle.tuple_core.specs.declared.Direction.{Direction}
use Rattle.tuple_core.specs.declared.Direction.TheVariants.{Original, Reply}
use Rattle.history_book.specs.Laws.{LiveRecordsAreConfirmed}
use Rattle.history_book.specs.declared.event.Event.TheVariants.{Confirm}
use Rattle.history_book.specs.declared.record.Record.{Record}
use Rattle.history_book.specs.declared.sizes.Sizes.{Sizes}
use Rattle.track_rule.specs.declared.slot.Slot.{Slot}
use Rattle.track_rule.specs.declared.view.ChainLink.{ChainLink}
use Rattle.track_rule.specs.declared.view.Pair.{Pair}
use Rattle.track_rule.specs.declared.view.View.{View}
use Rattle.track_rule.specs.Chains.{bucket_of, links_in, original_of, pair_of, reply_of, side}
use Rattle.track_rule.specs.History.{records_after}
use Rattle.track_rule.specs.KeptWords.{HasPair, HasTuples, link_of, pair_in, IsOnly, is_kept_for}
use Rattle.track_rule.specs.Layout.{first_word, head_word, phase_at, second_word}
use Rattle.track_rule.specs.Rule.{IsKept, Ledger}
use Rattle.track_rule.specs.Sums.{bit, total}
use Rattle.track_rule.proofs.ChainLists.{chain_each}
use Rattle.track_rule.proofs.Confirms.{bucket_low}
use Rattle.track_rule.proofs.Lists.{counted_there, same_bit, bit_both, bit_low, other_bit}
use Rattle.track_rule.proofs.LivePlaces.{all_confirmed, both_live}
use Rattle.track_rule.proofs.Sums.{total_term, total_le}
use Rattle.track_rule.specs.Phases.{of_both, of_place}

-- it is the link, with this tuple
abbrev is_this : ℕ → Pair → ChainLink → Bool
is_this link p e = e.link == link && (e.pair.first == p.first && e.pair.second == p.second)

-- such an entry weighs one in the bucket of its tuple
this_weighs : (z : Sizes) (link : ℕ) (p : Pair) (e : ChainLink) → e.link ≡ link → e.pair ≡ p → side z (bucket_of z p) (λ x. bit (is_this link p x)) e ≡ 1
this_weighs z link p e here pair =
    ap (λ (t : Bool). if t then bit (is_this link p e) else 0) (eq-eqb (bucket_of z e.pair) (bucket_of z p) (ap (bucket_of z) pair))
    ∙ ap bit (and_from (e.link == link) (e.pair.first == p.first && e.pair.second == p.second) (eq-eqb e.link link here)
    (and_from (e.pair.first == p.first) (e.pair.second == p.second) (eq-eqb e.pair.first p.first (ap (λ (x : Pair). x.first) pair))
    (eq-eqb e.pair.second p.second (ap (λ (x : Pair). x.second) pair))))

module _ (z : Sizes) (l : Ledger) (s : State Slot View) (h : IsKept z l s) where
  -- a link that weighs in its bucket stands there
  standing : (link : ℕ) (p : Pair) → 0 < total (links_in z (bucket_of z p) (λ x. bit (is_this link p x))) (records_after l.log)
      → HasPair z s.words link p
  standing link p any =
      let b : ℕ = bucket_of z p in
      let below : b < z.buckets = bucket_low z p h.limits in
      let there = counted_there (is_this link p) (l.chains b) (omega (arith, any, h.chains.chained b below (λ x. bit (is_this link p x)))) in
      let its = chain_each z s.words b (slice_index s.words (head_word z b)) (l.chains b) (h.chains.linked b below) there.0 there.1 there.2 in
      let parts = and_parts (there.1.link == link) (there.1.pair.first == p.first && there.1.pair.second == p.second) there.3 in
      let pairs = and_parts (there.1.pair.first == p.first) (there.1.pair.second == p.second) parts.1 in
      let here : there.1.link ≡ link = eqb-true there.1.link link parts.0 in
      record {
        first = ap (λ (k : ℕ). slice_index s.words (first_word z k)) (sym here) ∙ its.first ∙ eqb-true there.1.pair.first p.first pairs.0;
        second = ap (λ (k : ℕ). slice_index s.words (second_word z k)) (sym here) ∙ its.second ∙ eqb-true there.1.pair.second p.second pairs.1;
      }

  -- both tuples of a live record
  live_pairs : (j : ℕ) (r : Record) → get_elem? (records_after l.log) j ≡ some r → (d : Direction) → HasPair z s.words (link_of d r.place) (pair_in d r)
  live_pairs j r at Original =
      standing (1 + 2 * r.place) (pair_of r.original) (omega (
        arith,
        total_term (links_in z (bucket_of z (pair_of r.original)) (λ x. bit (is_this (1 + 2 * r.place) (pair_of r.original) x))) (records_after l.log) j r at,
        this_weighs z (1 + 2 * r.place) (pair_of r.original) (original_of r) refl refl,
      ))
  live_pairs j r at Reply =
      standing (2 + 2 * r.place) (pair_of r.reply) (omega (
        arith,
        total_term (links_in z (bucket_of z (pair_of r.reply)) (λ x. bit (is_this (2 + 2 * r.place) (pair_of r.reply) x))) (records_after l.log) j r at,
        this_weighs z (2 + 2 * r.place) (pair_of r.reply) (reply_of r) refl refl,
      ))

  -- a place of one live record has no other
  one_only : (p i : ℕ) → 0 < total (of_both p i) (records_after l.log) → IsOnly l.log i p
  one_only p i any = omega (
    arith,
    any,
    h.references.taken p,
    total_le (of_both p i) (of_place p) (records_after l.log) (λ j x at. bit_both (x.place == p) (x.id == i)),
  )

  pub live_tuples : LiveRecordsAreConfirmed → (p i : ℕ) → p < z.entries → phase_at z s.words p ≡ 3 + i → HasTuples z l.log s.words i p
  live_tuples low p i below shown =
      let t = both_live l.log p i (records_after l.log) (all_confirmed z l s h low)
      (omega (arith, h.phases.shown p i below, same_bit (phase_at z s.words p) (3 + i) shown)) in
      record {
        was = record {
          subject = t.3.subject;
          event = subst (λ (k : ℕ). slice_get l.log k ≡ Some (Confirm t.3.subject)) t.5 t.3.event;
          its_place = sym t.3.same.place ∙ t.4;
        };
        stand = λ d.
            subst (λ (k : ℕ). HasPair z s.words (link_of d k) (pair_in d t.3.subject)) t.4
            (subst (HasPair z s.words (link_of d t.1.place)) (same_pair t.1 t.3.subject t.3.same.original t.3.same.reply d) (live_pairs t.0 t.1 t.2 d));
        only = one_only p i (omega (arith, h.phases.shown p i below, same_bit (phase_at z s.words p) (3 + i) shown));
      }
    where
      same_pair : (a b : Record) → a.original ≡ b.original → a.reply ≡ b.reply → (d : Direction) → pair_in d a ≡ pair_in d b
      same_pair a b original reply Original = ap pair_of original
      same_pair a b original reply Reply = ap pair_of reply

-- live records of two ids at one place are two there
both_apart : (p j i : ℕ) → j ≢ i → (rs : List Record) → total (of_both p j) rs + total (of_both p i) rs ≤ total (of_place p) rs
both_apart p j i other [] = omega arith
both_apart p j i other (r ∷ rs) = omega (arith, one_apart (r.place == p) r.id, both_apart p j i other rs)
  where
    one_apart : (b : Bool) (k : ℕ) → bit (b && k == j) + bit (b && k == i) ≤ bit b
    one_apart false k = omega arith
    one_apart true k =
        ⊎_elim
        (λ (e : k ≡ j). omega (arith, same_bit k j e, other_bit k i (λ t. other (sym e ∙ t))))
        (λ (e : k ≢ j). omega (arith, other_bit k j e, bit_low (k == i)))
        (cases_eq k j)

-- a place that is held for an id is LIVE of no other one
pub kept_phase : (z : Sizes) (l : Ledger) (s : State Slot View) (id : ℕ) (v : View) → IsKept z l s → get_elem? s.views id ≡ some v → (p i : ℕ) → p < z.entries
    → is_kept_for p i v.places.held ≡ true → 3 ≤ phase_at z s.words p → phase_at z s.words p ≡ 3 + i
kept_phase z l s id v h at p i below kept live =
    let n : ℕ = phase_at z s.words p in
    ⊎_elim
    (λ (e : n - 3 ≡ i). omega (arith, e, live))
    (λ (e : n - 3 ≢ i).
    absurd (omega (
      arith,
      h.phases.shown p (n - 3) below,
      same_bit n (3 + (n - 3)) (omega (arith, live)),
      (h.kept_words.each id v at p i kept).only,
      h.references.taken p,
      both_apart p (n - 3) i e (records_after l.log),
    )))
    (cases_eq (n - 3) i)
