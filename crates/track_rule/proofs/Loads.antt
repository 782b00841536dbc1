-- Steps that change no word: a load, and an exchange that fails. What a load tells of the history and of the references.
use Rattle.track_rule.specs.declared.view.Commit.{Commit}
use Rattle.std.specs.Prelude.{nat_lt, ◌==◌, ◌&&◌}
use Rattle.track_rule.proofs.Lists.{bit_low, total_some}
use Rattle.track_rule.proofs.ShutChains.{open_none, open_weighs, shut_weighs}
use Rattle.std.proofs.Common.{◌≡◌, ℕ, ◌+◌, ◌-◌, ◌*◌, ◌/◌, ◌%◌, ◌^◌, ◌<◌, ◌≤◌, suc, Option, Some, None, List, [], ◌∷◌, length, refl, sym, ap, subst, ◌∙◌, ⊎_elim, arith, set, append-nil}
use Rattle.std.specs.Prelude.{slice_index, slice_set}
use Rattle.std.proofs.lemmas.Bool.{cases_lt, eqb-false, eqb-true}
use Rattle.std.proofs.lemmas.List.{set-get_or}
use Rattle.std.proofs.lemmas.Option.{none-some}
use mathlib.Core.Option.{none, some}
use lib.ListN.{get_elem?}
use Rattle.atomic_table.specs.Table.{Allows, State, keeps as unchanged, step}
use Rattle.history_book.specs.declared.event.Event.{Event}
use Rattle.history_book.specs.declared.event.Note.{Note}
use Rattle.history_book.specs.declared.sizes.Sizes.{Sizes}
use Rattle.history_book.specs.Laws.{LiveRecordsAreConfirmed}
use Rattle.history_book.specs.Sight.{notes_from}
use Rattle.track_rule.specs.declared.slot.Slot.{Slot}
use Rattle.track_rule.specs.declared.view.Places.{Places}
use Rattle.track_rule.specs.declared.view.View.{View}
use Rattle.track_rule.specs.declared.view.Walk.{Walk}
use Rattle.track_rule.specs.Walks.{IsWalk}
use Rattle.track_rule.specs.History.{events_in, IsNumber, IsWord, live_in, records_after}
use Rattle.track_rule.specs.Layout.{phase_at, refs_word}
use Rattle.track_rule.specs.Passes.{ArePasses, HasNothing, IsPass, IsSpent, made_weight, shares_of}
use Rattle.track_rule.specs.Phases.{middle_of, middle_weight, of_place, table_keeps}
use Rattle.track_rule.specs.Readings.{found, noted}
use Rattle.track_rule.specs.References.{held_times, is_at, is_for_new, keeps, takes}
use Rattle.track_rule.specs.Rule.{RuleHolds, IsKept, Ledger}
use Rattle.track_rule.specs.Steps.{AreAll, HasOthers, IsCount, LoadStep, LoadsRefs, LookStep, at_point, found_history, read_refs, saw, uses}
use Rattle.track_rule.specs.Sums.{Each, times, total}
use Rattle.track_rule.proofs.LastRead.{ReadsAt, read_on}
use Rattle.track_rule.proofs.Frames.{middle_left}
use Rattle.track_rule.proofs.Fullness.{full, in_use}
use Rattle.track_rule.proofs.KeptWords.{words_same}
use Rattle.track_rule.proofs.TurnsKnown.{empty, gone}
use Rattle.track_rule.proofs.Balance.{Lines, Moves, few_references, free_left, moved, pass_moved, references_left, bucket_lines}
use Rattle.track_rule.proofs.Walking.{note_where_is}
use Rattle.track_rule.proofs.Sums.{length_total, total_gap, total_only, total_term, total_times}

-- a view in which at most the readings and what was seen differ keeps the rule
pub reads : (z : Sizes) (l : Ledger) (s : State Slot View) (id i : ℕ) (v w : View) → IsKept z l s → get_elem? s.views id ≡ some v
    → Moves v w → IsPass z l.log w → w.places ≡ v.places → w.free ≡ v.free → Lines z l s id v w
    → 0 < v.passes.shares → ReadsAt i (slice_index s.words i) v w
    → IsKept z l (record { words = slice_set s.words i (slice_index s.words i); homes = s.homes; views = set s.views id w })
reads z l s id i v w h at m p places free lines has_some read =
    subst (λ (ws : List ℕ). IsKept z l (record { words = ws; homes = s.homes; views = set s.views id w })) (sym (set-get_or s.words i 0))
    (moved z l s id v w s.words s.homes l.free h at m p (λ k a b. refl) refl (λ k a. refl)
    (references_left z l.log s.words s.words s.views id v w at (ap (λ (x : Places). x.held) places) (ap (λ (x : Places). x.carried) places) (ap (λ (x : Places). x.ended) places) (ap (λ (x : Commit). x.middle) m.commit) (λ p. refl)
    (λ p. refl) h.references)
    (free_left z s.words s.words s.homes s.homes s.views id v w l.free at places free (λ p. refl) (λ p. refl) refl refl h.free_list) lines
    (read_on z l.log s.words s.words s.views id i (slice_index s.words i) v w h.passes at has_some refl (λ k other. refl) read h.readings)
    (middle_left z l.log v w m.commit m.expected (ap (λ (x : Places). x.carried) places) lines.shut (h.commits id v at))
    (words_same z l.log s.words s.views id v w at (ap (λ (x : Places). x.held) places) h.kept_words))

-- as many notes as events
pub length-notes : (k : ℕ) (es : List Event) → length (notes_from k es) ≡ length es
length-notes k [] = refl
length-notes k (e ∷ es) = ap suc (length-notes (k + 1) es)

module _ (z : Sizes) (log : List Event) (vs : List View) (h : ArePasses z log vs) where
  -- a pass makes and gathers so many events at most
  pass_few : Each (λ v. made_weight (λ n. 1) v ≤ 2 ^ 30 * shares_of v) vs
  pass_few i v at =
      let p : IsPass z log v = h.each i v at in
      ⊎_elim
      (λ (e : 0 < v.passes.shares). omega (arith, p.own_few, p.gathered_few, length_total v.seen.own, length_total v.seen.gathered, e))
      (λ (e : v.passes.shares ≤ 0).
      omega (arith, ap length (p.spent (omega (arith, e))).own, p.gathered_few, length_total v.seen.own, length_total v.seen.gathered))
      (cases_lt 0 v.passes.shares)

  -- so there are few of them, and room for those that this pass may still make
  pub few_events : (i : ℕ) (v : View) → get_elem? vs i ≡ some v → 0 < v.passes.shares → length log + (2 ^ 30 - length v.seen.own) ≤ 2 ^ 30 * z.passes
  few_events i v at has_some =
      let p : IsPass z log v = h.each i v at in
      let all = h.made (λ (n : Note). 1) in
      let gap = total_gap (made_weight (λ n. 1)) (λ u. 2 ^ 30 * shares_of u) vs i v at pass_few in
      omega (
        arith,
        all,
        gap,
        length_total (notes_from 0 log),
        length-notes 0 log,
        length_total v.seen.own,
        length_total v.seen.gathered,
        p.own_few,
        p.gathered_few,
        total_times (2 ^ 30) shares_of vs,
        h.all,
        has_some,
      )

-- the parts of the word
pub word_events : (e r : ℕ) → e < 2 ^ 40 → (e + 2 ^ 40 * r) % 2 ^ 40 ≡ e
word_events e r few = omega arith

-- a step that tells the word of all events tells their number
pub number_of : (v : View) (word n : ℕ) (log : List Event) → AreAll v log → IsWord word log → n ≡ events_in word → IsNumber n log
number_of v word n log all told is =
    is ∙ ap events_in told ∙ word_events (length log) (length (records_after log)) (omega (arith, all.few, all.passes))

pub word_live : (e r : ℕ) → e < 2 ^ 40 → (e + 2 ^ 40 * r) / 2 ^ 40 ≡ r
word_live e r few = omega arith

-- the note of the walk has the point, at which the chain is what is live
look_note : (z : Sizes) (l : Ledger) (s : State Slot View) (id : ℕ) (v : View) → IsKept z l s → get_elem? s.views id ≡ some v
    → (n : Walk) → at_point (length l.log) v.walk ≡ Some n → IsWalk z s.words l.chains l.log n
look_note z l s id v h at = with_note v.walk (h.walks.each id v at)
  where
    with_note : (o : Option Walk) → ((n : Walk) → o ≡ Some n → IsWalk z s.words l.chains v.seen.front n) → (n : Walk)
        → at_point (length l.log) o ≡ Some n → IsWalk z s.words l.chains l.log n
    with_note None k n e = absurd (none-some n e)
    with_note (Some m) k n e =
        let w = k m refl in
        let there : record m { at = Some (length l.log) } ≡ n = cc in
        subst (λ (x : Walk). IsWalk z s.words l.chains l.log x) there (record {
          bucket = w.bucket;
          least = w.least;
          stands = λ here even. let t = w.stands here even in record { passed = t.passed; rest = t.rest; all = t.all; matches = t.matches; ended = t.ended };
          known = λ point same. record {
            seen = same_number point same;
            live = λ here even weight. open_weighs z l s h m.bucket w.bucket (omega (arith, here, even)) weight;
          };
          gone = w.gone;
        })
      where
        same_number : (point : ℕ) → Some (length l.log) ≡ Some point → point ≡ length l.log
        same_number point e = cc

-- where no other pass has a share, all have what this one has; and where all have more, there is another
module _ (z : Sizes) (l : Ledger) (s : State Slot View) (id : ℕ) (v : View) (h : IsKept z l s) (at : get_elem? s.views id ≡ some v)
    (f : View → ℕ) (none : (u : View) → HasNothing u → f u ≡ 0) where
  pub alone_total : shares_of v ≡ z.passes → total f s.views ≡ f v
  alone_total alone =
      total_only f shares_of s.views id v at (h.passes.all ∙ sym alone)
      (λ i u at' zero. none u ((h.passes.each i u at').spent (omega (arith, zero))).nothing)

  pub fewer_shares : f v < total f s.views → shares_of v < z.passes
  fewer_shares more =
      ⊎_elim (λ (e : shares_of v < z.passes). e)
      (λ (e : z.passes ≤ shares_of v).
      absurd (omega (arith, more, alone_total (omega (arith, e, h.passes.all, total_term shares_of s.views id v at)))))
      (cases_lt (shares_of v) z.passes)

-- so there are more passes than one
pub others_there : (l : Ledger) (s : State Slot View) (id : ℕ) (v : View) → IsKept v.passes.sizes l s → get_elem? s.views id ≡ some v → 0 < v.passes.shares
    → (f : View → ℕ) → ((u : View) → HasNothing u → f u ≡ 0) → f v < total f s.views → HasOthers v
others_there l s id v h at has_some f nothing more =
    let fewer = fewer_shares v.passes.sizes l s id v h at f nothing more in (fewer, omega (arith, fewer, has_some))

-- all events, as a pass knows them
pub all_events : (l : Ledger) (s : State Slot View) (id : ℕ) (v : View) → IsKept v.passes.sizes l s → get_elem? s.views id ≡ some v → 0 < v.passes.shares
    → AreAll v l.log
all_events l s id v h at has_some =
    let p : IsPass v.passes.sizes l.log v = h.passes.each id v at in
    record {
      front = p.front;
      told = p.told;
      legal = h.history.legal;
      few = few_events v.passes.sizes l.log s.views h.passes id v at has_some;
      passes = h.limits.passes;
      shares = omega (arith, total_term shares_of s.views id v at, h.passes.all);
      alone = λ one. p.alone one has_some;
    }

-- a load of the history word keeps the rule, and shows the whole history
pub looks : LiveRecordsAreConfirmed → (slots id : ℕ) (v : View) (c : List (ℕ × Slot)) → 0 < v.passes.shares
    → Allows (RuleHolds v.passes.sizes) slots id (v, c) 0 (λ n. n) (LookStep (step slots 0 0 0 none) (v, c))
looks low slots id v c has_some s (l, h) long at range =
    let z : Sizes = v.passes.sizes in
    let w : View = noted (found_history (slice_index s.words 0) v) (saw l.log v) in
    let p : IsPass z l.log v = h.passes.each id v at in
    let m : Moves v w = record { made = record { passes = refl; own = refl; gathered = refl }; commit = refl; expected = refl } in
    let few = few_events z l.log s.views h.passes id v at has_some in
    let small : length l.log < 2 ^ 40 = omega (arith, few, h.limits.passes) in (
      w,
      unchanged,
      tt,
      (
        l,
        reads z l s id 0 v w h at m (pass_moved z l.log v w p m.made has_some ([], sym (append-nil l.log)) p.told) refl refl
            (bucket_lines z l s id v w h at refl (λ q. omega arith) (λ q. omega arith) (look_note z l s id v h at)) has_some
            (record { reading = found_history (slice_index s.words 0) v; more = refl; word = refl; value = refl }),
      ),
      (
        record {
          same = refl;
          all = all_events l s id v h at has_some;
          events = ap events_in h.history.word ∙ word_events (length l.log) (length (records_after l.log)) small;
          live = ap live_in h.history.word ∙ word_live (length l.log) (length (records_after l.log)) small;
          sole = λ one. h.readings one id v at has_some 0;
          chains = λ b below mine. shut_weighs z l s id v h at b below mine;
          held = record {
            taken = λ q taken.
                omega (arith, h.references.taken q, total_term (takes q) s.views id v at, total_some (λ k. is_at q k && is_for_new k.purpose) v.places.held taken);
            shown = λ q i kept. (h.kept_words.each id v at q i kept).was;
          };
          hand = record {
            subject = λ x turn live. (h.records.away id v at x turn).live live;
            gone = λ x i turn calm kept other. gone z l s id v h at x turn low calm i kept (eqb-false x.phase (3 + i) other);
            empty = λ x turn calm few. empty z l s id v h at x turn calm few;
          };
          free = record {
            full = λ list turn. omega (arith, full z l s h id v at, ap length (h.free_list.away id v at list turn));
            used = λ list turn alone q below. omega (
              arith,
              in_use z l s h q below,
              ap (times q) (h.free_list.away id v at list turn),
              alone_total z l s id v h at (uses q) (λ u n. omega (arith, ap (held_times q) n.held, ap (times q) n.owed)) alone,
            );
          };
          expects = h.expected.away id v at;
        },
        refl,
      ),
    )

-- what every step on a references word tells
pub refs_told : (l : Ledger) (s : State Slot View) (id p : ℕ) (v : View) → IsKept v.passes.sizes l s → get_elem? s.views id ≡ some v
    → p < v.passes.sizes.entries → 0 < v.passes.shares → IsCount p (slice_index s.words (refs_word v.passes.sizes p)) v
refs_told l s id p v h at below has_some =
    let z : Sizes = v.passes.sizes in
    record {
      few = omega (arith, h.references.counted p below, few_references z l s h p, bit_low (nat_lt 2 (phase_at z s.words p)));
      own = omega (arith, h.references.counted p below, total_term (keeps p) s.views id v at);
      alone = λ alone. record {
        log = l.log;
        all = all_events l s id v h at has_some;
        made = λ weight. h.passes.made weight
            ∙ total_only (made_weight weight) shares_of s.views id v at (h.passes.all ∙ sym alone)
            (λ j u at' none_left.
            let sp : IsSpent u = (h.passes.each j u at').spent (omega (arith, none_left)) in
            omega (arith, ap (total weight) sp.own, ap (total weight) sp.gathered));
        exact = omega (
          arith,
          h.references.counted p below,
          h.phases.used p below,
          alone_total z l s id v h at (keeps p) (λ u n. omega (arith, ap (held_times p) n.held, ap (times p) n.carried)) alone,
          alone_total z l s id v h at (middle_of (of_place p)) (λ u n. ap (middle_weight (of_place p)) n.middle) alone,
        );
      };
      sole = λ one. h.readings one id v at has_some (refs_word z p);
    }

-- two places have two words
pub one_place : (z : Sizes) (p q : ℕ) → refs_word z p ≡ refs_word z q → p ≡ q
one_place z p q e = omega (arith, e)

-- a load of the references of a place, or an exchange that found others
pub refs_read : (l : Ledger) (s : State Slot View) (id p : ℕ) (v : View) → IsKept v.passes.sizes l s → get_elem? s.views id ≡ some v
    → p < v.passes.sizes.entries → 0 < v.passes.shares → IsKept v.passes.sizes l (record {
      words = slice_set s.words (refs_word v.passes.sizes p) (slice_index s.words (refs_word v.passes.sizes p));
      homes = s.homes;
      views = set s.views id (read_refs p (slice_index s.words (refs_word v.passes.sizes p)) v);
    })
refs_read l s id p v h at below has_some =
    let z : Sizes = v.passes.sizes in
    let n : ℕ = slice_index s.words (refs_word z p) in
    let w : View = read_refs p n v in
    let one : IsPass z l.log v = h.passes.each id v at in
    let m : Moves v w = record { made = record { passes = refl; own = refl; gathered = refl }; commit = refl; expected = refl } in
    reads z l s id (refs_word z p) v w h at m (pass_moved z l.log v w one m.made has_some one.front one.told) refl refl
    (bucket_lines z l s id v w h at refl (λ q. omega arith) (λ q. omega arith)
    (note_where_is z s.words l.chains v.seen.front (n == 0) p v.walk
    (λ e. open_none z l s h p below (none_kept n (total (keeps p) s.views) (table_keeps (phase_at z s.words p)) (h.references.counted p below) (eqb-true n 0 e)))
    (h.walks.each id v at))) has_some
    (record { reading = found (refs_word z p) n; more = refl; word = refl; value = refl })
  where
    none_kept : (n k t : ℕ) → n ≡ k + t → n ≡ 0 → t ≡ 0
    none_kept n k t e zero = omega (arith, e, zero)

-- a load of the references of a place
pub loads : (slots id p : ℕ) (v : View) (c : List (ℕ × Slot)) → p < v.passes.sizes.entries → 0 < v.passes.shares
    → Allows (RuleHolds v.passes.sizes) slots id (v, c) (refs_word v.passes.sizes p) (λ n. n)
    (LoadStep (step slots (refs_word v.passes.sizes p) 0 0 none) (v, c))
loads slots id p v c below has_some s (l, h) long at range =
    let z : Sizes = v.passes.sizes in
    let n : ℕ = slice_index s.words (refs_word z p) in
    let w : View = read_refs p n v in
    let told : IsCount p n v = refs_told l s id p v h at below has_some in (
      w,
      unchanged,
      tt,
      (l, refs_read l s id p v h at below has_some),
      λ q same. subst (λ (k : ℕ). LoadsRefs k v n w × (c ≡ c)) (one_place z p q same) (record { view = refl; count = told }, refl),
    )
