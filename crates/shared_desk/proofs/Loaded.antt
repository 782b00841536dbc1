-- Under the turn of a place's record its phase was loaded, and then the history word.
use Rattle.std.proofs.Common.{◌≡◌, ℕ, ◌-◌, ◌<◌, ◌≤◌, true, Option, Some, None, List, ◌++◌, refl, sym, ap, subst, ◌∙◌, arith, ⊎_elim, append_assoc}
use Rattle.std.proofs.lemmas.Bool.{cases_lt}
use Rattle.history_book.specs.State.{record_of}
use Rattle.history_book.specs.declared.event.Event.{Event}
use Rattle.history_book.specs.declared.record.Record.{Record}
use Rattle.track_rule.specs.History.{events_in, state_after}
use Rattle.track_rule.specs.KeptWords.{is_kept_for}
use Rattle.track_rule.specs.PhaseSteps.{LoadsPhase}
use Rattle.track_rule.specs.Readings.{noted}
use Rattle.track_rule.specs.Records.{record_in, slot_of_record}
use Rattle.track_rule.specs.Sights.{PassSight}
use Rattle.track_rule.specs.Steps.{AreAll, Looks, found_history, saw}
use Rattle.track_rule.specs.TurnSteps.{subject_in}
use Rattle.track_rule.specs.declared.view.View.{View}
use Rattle.shared_desk.specs.Looking.{HasRecord}
use Rattle.shared_desk.specs.Touching.{IsLeft}

pub in_slot : (o : Option Record) → record_in (slot_of_record o) ≡ o
in_slot None = refl
in_slot (Some r) = refl

module _ (place n word : ℕ) (v u w : PassSight) (h : HasRecord place v)
    (loads : LoadsPhase place v.view n u.view) (kept : u ≡ record v { view = u.view })
    (looks : Looks u.view word w.view) (kept' : w ≡ record u { view = w.view }) where
  pub view_is : w ≡ record v {
    view = record v.view { seen = record v.view.seen { front = w.view.seen.front }; walk = w.view.walk; readings = w.view.readings };
  }
  view_is = kept' ∙ (λ i. record (kept i) { view = looked i })
    where
      read : u.view ≡ record v.view { walk = u.view.walk; readings = u.view.readings }
      read = loads.settled h.closed

      both : w.view ≡ noted (found_history word (record v.view { walk = u.view.walk; readings = u.view.readings })) (saw w.view.seen.front (record v.view { walk = u.view.walk; readings = u.view.readings }))
      both = looks.same ∙ ap (λ (x : View). noted (found_history word x) (saw w.view.seen.front x)) read

      looked : w.view ≡ record v.view { seen = record v.view.seen { front = w.view.seen.front }; walk = w.view.walk; readings = w.view.readings }
      looked = both ∙ (λ i. record v.view {
        seen = record v.view.seen { front = w.view.seen.front };
        walk = sym (ap (λ (x : View). x.walk) both) i;
        readings = sym (ap (λ (x : View). x.readings) both) i;
      })

  -- it has seen all events
  pub all_seen : AreAll v.view w.view.seen.front
  all_seen =
      let a = subst (λ (x : View). AreAll x w.view.seen.front) (loads.settled h.closed) looks.all in
      record { front = a.front; told = a.told; legal = a.legal; few = a.few; passes = a.passes; shares = a.shares; alone = a.alone }

  -- it was left so
  pub left_now : (a : ℕ) (F : ℕ → List Event → Type 0) → a ≡ events_in word → ((i : ℕ) → is_kept_for place i v.view.places.held ≡ true → F i w.view.seen.front) → IsLeft place a F v w
  left_now a F point is = record { same = view_is; all = all_seen; point = point ∙ looks.events; is = is }

  -- what it sees later it has seen from before the loads on
  pub all_from : (x : PassSight) (log : List Event) → x ≡ w → AreAll x.view log → AreAll v.view log
  all_from x log still later =
      let a = subst (λ (k : PassSight). AreAll k.view log) (still ∙ view_is) later in
      record {
        front = (
          all_seen.front.0 ++ a.front.0,
          a.front.1 ∙ ap (λ (es : List Event). es ++ a.front.0) all_seen.front.1 ∙ append_assoc v.view.seen.front all_seen.front.0 a.front.0,
        );
        told = a.told;
        legal = a.legal;
        few = a.few;
        passes = a.passes;
        shares = a.shares;
        alone = a.alone;
      }

  -- the place was LIVE, and its record was out
  module _ (live : 3 ≤ n) (before : Record) (out : Some before ≡ subject_in w.slots) where
    pub phase_is : h.hand.phase ≡ n
    phase_is =
        ⊎_elim (λ (e : 2 < h.hand.phase). sym ((loads.hand h.hand h.known h.its_place).0 e))
        (λ (e : h.hand.phase ≤ 2). absurd (omega (arith, live, (loads.hand h.hand h.known h.its_place).1 e)))
        (cases_lt 2 h.hand.phase)

    pub subject_is : h.hand.subject ≡ Some before
    subject_is =
        sym (out ∙ ap (λ (k : PassSight). subject_in k.slots) kept' ∙ ap (λ (k : PassSight). subject_in k.slots) kept ∙ ap subject_in h.out ∙ in_slot h.hand.subject)

    -- the one id for which it holds the place
    pub its_id : (i : ℕ) → is_kept_for place i v.view.places.held ≡ true → i ≡ n - 3
    its_id i held = omega (arith, loads.kept i held live)

    pub live_now : record_of (n - 3) (state_after w.view.seen.front) ≡ Some before
    live_now =
        let hand : u.view.commit.hand ≡ Some h.hand = ap (λ (x : View). x.commit.hand) loads.view ∙ h.known in
        ap (λ (k : ℕ). record_of (k - 3) (state_after w.view.seen.front)) (sym phase_is)
        ∙ sym (looks.hand.subject h.hand hand (omega (arith, live, phase_is))) ∙ subject_is
