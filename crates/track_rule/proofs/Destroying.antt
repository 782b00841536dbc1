-- Adding to the history word for a Destroy keeps the rule.
use Rattle.std.proofs.Common.{◌≡◌, ℕ, ◌+◌, ◌%◌, ◌^◌, ◌<◌, Option, Some, None, List, refl, sym, ap, subst, ◌++◌, arith, set}
use Rattle.std.specs.Prelude.{slice_index, slice_set, ◌-◌}
use mathlib.Core.Option.{none}
use Rattle.atomic_table.specs.Table.{Allows, Me, Step, keeps as unchanged, step}
use Rattle.history_book.specs.Laws.{LegalHistoriesGoOn, LiveRecordsAreConfirmed, MastersHelpInTheirZone, StatesFollow}
use Rattle.history_book.specs.declared.record.Record.{Record}
use Rattle.history_book.specs.declared.sizes.Sizes.{Sizes}
use Rattle.expect_table.specs.declared.expectation.Expectation.{Expectation}
use Rattle.track_rule.specs.declared.slot.Slot.{Slot}
use Rattle.track_rule.specs.declared.view.Middle.{Middle}
use Rattle.track_rule.specs.declared.view.Middle.TheVariants.{Calm, Born, Dying}
use Rattle.track_rule.specs.declared.view.View.{View}
use Rattle.track_rule.specs.History.{events_in, IsNumber, IsWord, packed}
use Rattle.track_rule.specs.KillSteps.{CanDestroy, DestroyStep, Destroying, HasDestroyed, MakesDestroy, MayDestroy, OfDying, destroyed, with_destroy, without_its}
use Rattle.track_rule.specs.Rule.{RuleHolds, IsKept}
use Rattle.track_rule.specs.Slots.{expected_number, free_number, hand_number}
use Rattle.track_rule.proofs.Ending.{end_legal, ended_kept, ended_ledger, ended_packed, known_before}
use Rattle.track_rule.proofs.Loads.{all_events, number_of}
use Rattle.track_rule.proofs.Seats.{StaysAt, same_at}

-- what is added: one event, and one live record less
abbrev pub one_less : ℕ
one_less = 2 ^ 64 - 2 ^ 40 + 1

ending : (slots id : ℕ) (v : View) (c : List (ℕ × Slot)) (d : Destroying) (r : Record) → 0 < v.passes.shares → v.commit.middle ≡ Dying r → MayDestroy d v r
    → StatesFollow → LegalHistoriesGoOn → LiveRecordsAreConfirmed → MastersHelpInTheirZone
    → Allows (RuleHolds v.passes.sizes) slots id (v, c) 0 (λ n. (n + one_less) % 2 ^ 64) (DestroyStep (Some d) (step slots 0 one_less 0 none) (v, c))
ending slots id v c d r has_some dying may follow go_on low helped s (l, h) long at range =
    let z : Sizes = v.passes.sizes in
    let all = all_events l s id v h at has_some in
    let next : (slice_index s.words 0 + one_less) % 2 ^ 64 ≡ packed (with_destroy l.log d) =
    omega (arith, h.history.word, ended_packed l s id v d r h at has_some dying may follow go_on low helped, range) in (
      destroyed l.log d r v,
      unchanged,
      tt,
      (
        ended_ledger l d r v,
        subst (λ (k : ℕ). IsKept z (ended_ledger l d r v) (record {
          words = slice_set s.words 0 k;
          homes = s.homes;
          views = set s.views id (destroyed l.log d r v);
        })) (sym next) (ended_kept l s id v d r h at has_some dying may follow go_on low helped),
      ),
      (
        subst (OfDying (MakesDestroy d v (IsWord (slice_index s.words 0)) (destroyed l.log d r v))) (sym dying) (record {
          log = l.log;
          all = all;
          told = h.history.word;
          view = refl;
          legal = end_legal l s id v d r h at has_some dying may follow go_on low helped;
          before = known_before l s id v d r h at has_some dying may follow go_on low helped;
        }),
        refl,
      ),
    )

-- the same, as the event that is added says what it destroys
pub adding_destroy : (slots id : ℕ) (v : View) (c : List (ℕ × Slot)) (o : Option Destroying) → 0 < v.passes.shares → CanDestroy o v → StatesFollow → LegalHistoriesGoOn
    → LiveRecordsAreConfirmed → MastersHelpInTheirZone
    → Allows (RuleHolds v.passes.sizes) slots id (v, c) 0 (λ n. (n + one_less) % 2 ^ 64) (DestroyStep o (step slots 0 one_less 0 none) (v, c))
adding_destroy slots id v c None has_some can follow go_on low helped = absurd can
adding_destroy slots id v c (Some d) has_some can follow go_on low helped = by_middle v.commit.middle refl can
  where
    by_middle : (m : Middle) → v.commit.middle ≡ m → OfDying (MayDestroy d v) m
        → Allows (RuleHolds v.passes.sizes) slots id (v, c) 0 (λ n. (n + one_less) % 2 ^ 64) (DestroyStep (Some d) (step slots 0 one_less 0 none) (v, c))
    by_middle Calm e k = absurd k
    by_middle (Born r) e k = absurd k
    by_middle (Dying r) e k = ending slots id v c d r has_some e k follow go_on low helped

same_number : (i : ℕ) (o : Option (List Expectation)) → expected_number (without_its i o) ≡ expected_number o
same_number i None = refl
same_number i (Some list) = refl

-- the same shares, turns and places
pub stays_destroyed : (o : Option Destroying) (s : Step Slot) (me me' : Me Slot View) (n : ℕ) → CanDestroy o me.0 → DestroyStep o s me n me'
    → StaysAt me.0 me'.0 × (me'.1 ≡ me.1)
stays_destroyed None s me me' n can told = absurd can
stays_destroyed (Some d) s me me' n can told = (by_middle me.0.commit.middle told.0, told.1)
  where
    by_middle : (m : Middle) → OfDying (MakesDestroy d me.0 (IsWord n) me'.0) m → StaysAt me.0 me'.0
    by_middle Calm k = absurd k
    by_middle (Born r) k = absurd k
    by_middle (Dying r) k =
        same_at me.0 me'.0 _ k.view (record {
          passes = refl;
          same = ap (λ (ns : List ℕ). free_number me.0.free ++ hand_number me.0.commit.hand ++ ns) (same_number d.id me.0.expected);
          pool = λ x. record { held = x.held; owed = x.owed };
        })

-- what the call tells
pub has_destroyed : (o : Option Destroying) (s : Step Slot) (me me' : Me Slot View) (word n : ℕ) → CanDestroy o me.0 → DestroyStep o s me word me' → n ≡ events_in word
    → HasDestroyed o me.0 n me'.0
has_destroyed None s me me' word n can told is = absurd can
has_destroyed (Some d) s me me' word n can told is = by_middle me.0.commit.middle told.0
  where
    by_middle : (m : Middle) → OfDying (MakesDestroy d me.0 (IsWord word) me'.0) m → OfDying (MakesDestroy d me.0 (IsNumber n) me'.0) m
    by_middle Calm k = absurd k
    by_middle (Born r) k = absurd k
    by_middle (Dying r) k = record {
      log = k.log;
      all = k.all;
      told = number_of me.0 word n k.log k.all k.told is;
      view = k.view;
      legal = k.legal;
      before = k.before;
    }
