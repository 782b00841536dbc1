-- The rule holds where one pass has all shares of a table at which nothing was done yet.
use Rattle.std.proofs.lemmas.Bool.{false≢true}
use Rattle.std.specs.Prelude.{map, slice_index, replicate}
use Rattle.std.proofs.Common.{◌^◌, ◌≡◌, ℕ, ◌+◌, ◌*◌, ◌%◌, ◌<◌, ◌≤◌, zero, suc, true, Some, List, [], ◌∷◌, length, refl, sym, ap, subst, ◌∙◌, arith}
use Rattle.std.proofs.lemmas.Bool.Decides.{nat_tests}
use Rattle.std.proofs.lemmas.List.{length-replicate}
use Rattle.std.proofs.lemmas.Option.{none-some}
use Rattle.std.proofs.lemmas.Bool.{false≢true}
use mathlib.Core.Option.{some, some-injective, some-ne-none}
use lib.ListN.{get_elem?}
use Rattle.atomic_table.specs.Table.{opening}
use Rattle.expect_table.specs.declared.expectation.Expectation.{Expectation}
use Rattle.history_book.specs.declared.sizes.Sizes.{Sizes}
use Rattle.history_book.specs.declared.record.Record.{Record}
use Rattle.history_book.specs.History.{after, is_legal}
use Rattle.history_book.specs.State.{State, empty_state}
use Rattle.track_rule.specs.History.{records_after, state_after}
use Rattle.history_book.specs.Sizes.{AreWithinLimits}
use Rattle.room_list.specs.Roomed.{Roomed}
use Rattle.track_rule.specs.declared.slot.Slot.{Slot}
use Rattle.track_rule.specs.declared.slot.Slot.TheVariants.{Vacant, Free, Expects}
use Rattle.track_rule.specs.declared.view.Hand.{Hand}
use Rattle.track_rule.specs.declared.view.View.{View}
use Rattle.track_rule.specs.KeptWords.{HasTuples, is_kept_for}
use Rattle.track_rule.specs.Layout.{gen_word, head_word, next_word, phase_at, phase_word, place_of, refs_word, turn_word, word_count}
use Rattle.track_rule.specs.Opening.{IsWhole, first_slots}
use Rattle.track_rule.specs.Passes.{IsPass, has_share, no_places}
use Rattle.track_rule.specs.Chains.{chain_in, links_in, shuts_of, each_link, loose_of}
use Rattle.track_rule.specs.Commits.{IsMiddleOf}
use Rattle.track_rule.specs.Phases.{IsMiddlePhase, middle_of, of_both, of_place, shows, table_keeps}
use Rattle.track_rule.specs.Links.{HasHooks}
use Rattle.track_rule.specs.Walks.{IsWalk}
use Rattle.track_rule.specs.declared.view.Walk.{Walk}
use Rattle.track_rule.specs.References.{AreKept, ends, held_times, takes}
use Rattle.track_rule.specs.Readings.{last_read}
use Rattle.track_rule.specs.Records.{IsHand}
use Rattle.track_rule.specs.Rule.{RuleHolds, Ledger, first_view}
use Rattle.track_rule.specs.Sums.{Each, times, total}

-- each word is 0
zero_word : (n k : ℕ) → slice_index (replicate n 0) k ≡ 0
zero_word zero k = refl
zero_word (suc n) zero = refl
zero_word (suc n) (suc k) = zero_word n k

-- each record's slot is vacant
vacant_slot : (n k : ℕ) → k < n → get_elem? (map some (replicate n Vacant)) k ≡ some (some Vacant)
vacant_slot zero k low = absurd (omega (arith, low))
vacant_slot (suc n) zero low = refl
vacant_slot (suc n) (suc k) low = vacant_slot n k (omega (arith, low))

-- the record's slot stands after those of the free list and of the expectations
record_vacant : (n k : ℕ) (a b : Slot) → k < n → get_elem? (map some (a ∷ b ∷ replicate n Vacant)) (2 + k) ≡ some (some Vacant)
record_vacant n k a b low =
    let two : 2 + k ≡ suc (suc k) = omega arith in
    ap (get_elem? (map some (a ∷ b ∷ replicate n Vacant))) two ∙ vacant_slot n k low

-- no event leaves nothing
no_state : state_after [] ≡ empty_state
unfolding after
no_state = refl

no_records : records_after [] ≡ []
no_records = ap (λ (t : State). t.records) no_state

no_history : (z : Sizes) → is_legal z [] ≡ true
unfolding is_legal
no_history z = refl

-- there is one view
one_view : (z : Sizes) (F : View → Type 0) → F (first_view z) → Each F (first_view z ∷ [])
one_view z F first zero v at = subst F (some-injective (first_view z) v at) first
one_view z F first (suc i) v at = absurd (some-ne-none v (sym at))

first_pass : (z : Sizes) → 1 ≤ z.passes → IsPass z [] (first_view z)
first_pass z has_some = record {
  front = ([], refl);
  told = tt;
  own = λ j d short. absurd (omega (arith, short));
  ordered = λ j k d lt short. absurd (omega (arith, short));
  own_few = omega arith;
  gathered = λ j d short. absurd (omega (arith, short));
  gathered_few = omega arith;
  below = omega arith;
  alone = λ one has. refl;
  spent = λ none_left. absurd (omega (arith, none_left, has_some));
}

first_apart : (z : Sizes) (n : ℕ) → total (has_share n) (first_view z ∷ []) ≤ 1
first_apart z n = grind (arith, nat_tests)

pub starts : (z : Sizes) (list : Roomed ℕ) (table : Roomed Expectation) → AreWithinLimits z → IsWhole z.entries list → table.items ≡ []
    → table.room ≡ z.expectations
    → RuleHolds z (opening (replicate (word_count z) 0) (first_slots z.entries list table) (first_view z))
starts z list table limits whole nothing room =
    let ws : List ℕ = replicate (word_count z) 0 in
    let word : (k : ℕ) → slice_index ws k ≡ 0 = zero_word (word_count z) in
    let l : Ledger = record { log = []; free = list.items; chains = λ b. [] } in (
      l,
      record {
        limits = limits;
        count = length-replicate (word_count z) 0;
        passes = record {
          each = one_view z (IsPass z []) (first_pass z limits.some_passes);
          apart = first_apart z;
          all = omega arith;
          made = λ weight. omega arith;
        };
        history = record { legal = no_history z; word = word 0 ∙ sym (ap (λ (rs : List Record). 0 + 2 ^ 40 * length rs) no_records) };
        references = record {
          counted = λ p below. omega (arith, word (refs_word z p), ap table_keeps (word (phase_word z p)));
          beyond = λ p above. omega arith;
          carried = one_view z (λ v. (p : ℕ) → times p v.places.carried ≤ held_times p v.places.held) (λ p. omega arith);
          carried_for = one_view z (λ v. (p : ℕ) → times p v.places.carried ≤ takes p v + middle_of (of_place p) v + ends p v) (λ p. omega arith);
          taken = λ p. omega (arith, ap (total (of_place p)) no_records);
          purposes = one_view z (λ v. AreKept [] v.places.held) tt;
        };
        free_list = record {
          once = λ p below. omega (arith, whole.once p below, word (refs_word z p));
          beyond = λ p above. omega (arith, whole.beyond p above);
          idle = λ p on. word (phase_word z p);
          turn = word 1;
          single = omega (arith, word 1);
          home = λ calm. record { list = list; there = refl; same = refl; room = whole.room };
          away = one_view z (λ v. (places : List ℕ) → v.free ≡ Some places → places ≡ list.items) (λ places e. absurd (none-some places e));
          few = one_view z (λ v. length v.places.held + length v.places.owed ≤ 4) (omega arith);
          clear = one_view z (λ v. (p : ℕ) → 0 < times p v.places.clear → (0 < times p v.places.owed) × (phase_at z ws p ≡ 0))
              (λ p any. absurd (omega (arith, any)));
          ended = one_view z (λ v. (p : ℕ) → 0 < times p v.places.ended → (0 < times p v.places.carried) × (phase_at z ws p ≡ 2)) (λ p any. absurd (omega (arith, any)));
          owned = one_view z (λ v. (p : ℕ) → 0 < times p v.places.owned → (0 < takes p v) × (phase_at z ws p ≡ 1))
              (λ p any. absurd (omega (arith, any)));
        };
        records = record {
          turn = λ p below. word (turn_word z p);
          single = λ p. omega arith;
          home = λ p below calm. record {
            slot = Vacant;
            there = record_vacant z.entries p (Free list) (Expects table) below;
            kind = refl;
            live = λ shown. absurd (omega (arith, shown, word (phase_word z p)));
          };
          away = one_view z (λ v. (x : Hand) → v.commit.hand ≡ Some x → IsHand z [] ws x) (λ x e. absurd (none-some x e));
        };
        phases = record {
          shown = λ p id below. omega (arith, ap (total (of_both p id)) no_records, ap (λ (ph : ℕ). shows ph id) (word (phase_word z p)), no_show id);
          used = λ p below. omega (arith, ap (total (of_place p)) no_records, ap table_keeps (word (phase_word z p)));
          middle = one_view z (λ v. IsMiddlePhase z ws v.commit.middle) tt;
        };
        commits = one_view z (IsMiddleOf z []) tt;
        chains = record {
          linked = λ b below. word (head_word z b);
          ordered = λ b below. tt;
          gens = λ b below. ap (λ (n : ℕ). n % 2) (word (gen_word z b));
          mine = λ b below. one_view z (λ v. 0 < shuts_of b v → chain_in b v.buckets.shut ≡ []) (λ any. absurd (omega (arith, any)));
          chained = λ b below weight. omega (arith, ap (total (links_in z b weight)) no_records);
          home = one_view z (λ v. (b : ℕ) → b < z.buckets → 0 < loose_of z b each_link v → 0 < shuts_of b v) (λ b below any. absurd (omega (arith, any)));
          lone = λ link any. omega (arith, ap (total (of_place (place_of link))) no_records);
        };
        links = record {
          heads = λ b below. omega (arith, word (head_word z b));
          nexts = λ x any below. omega (arith, word (next_word z x));
          gens = λ b below. omega (arith, word (gen_word z b));
          hooks = one_view z (λ v. HasHooks z ws v.places v.buckets.hooks) (no_hooks z ws);
        };
        walks = record { each = one_view z (λ v. (n : Walk) → v.walk ≡ Some n → IsWalk z ws l.chains v.seen.front n) (λ n e. absurd (none-some n e)) };
        readings = λ one. one_view z (λ v. 0 < v.passes.shares → (k : ℕ) → slice_index ws k ≡ last_read k v) (λ has k. word k);
        kept_words = record {
          each = one_view z (λ v. (p id : ℕ) → is_kept_for p id v.places.held ≡ true → HasTuples z [] ws id p) (λ p id e. absurd (false≢true e));
          apart = λ p any. absurd (omega (arith, any));
        };
        expected = record {
          turn = word 2;
          single = omega (arith, word 2);
          home = λ calm. record { table = table; there = refl; same = nothing ∙ sym (ap (λ (t : State). t.expects) no_state); room = room };
          away = one_view z (λ v. (places : List Expectation) → v.expected ≡ Some places → places ≡ (state_after []).expects) (λ places e. absurd (none-some places e));
        };
      },
    )
  where
    no_hooks : (z : Sizes) (ws : List ℕ) → HasHooks z ws no_places []
    no_hooks z ws = record { each = λ i h at. absurd (some-ne-none h (sym at)); held = λ link any. absurd (omega (arith, any)); linked = λ i h at. absurd (some-ne-none h (sym at)); one = λ p q a b. absurd (false≢true a) }

    no_show : (id : ℕ) → shows 0 id ≡ 0
    no_show id = grind (arith, nat_tests)
