-- The turn is given back after a touch.
use Rattle.std.proofs.Common.{◌≡◌, ℕ, ◌<◌, true, Option, Some, None, List, [], ◌∷◌, ◌++◌, length, sym, ap, subst, ◌∙◌}
use Rattle.atomic_table.specs.Table.{rest}
use Rattle.proto_rules.specs.declared.Outcome.TheVariants as outcome
use Rattle.history_book.specs.History.{is_legal}
use Rattle.history_book.specs.declared.event.Event.{Event}
use Rattle.history_book.specs.declared.outcome.TouchOutcome.{TouchOutcome}
use Rattle.history_book.specs.declared.outcome.TouchOutcome.TheVariants as touch
use Rattle.history_book.specs.declared.record.Record.{Record}
use Rattle.history_book.specs.declared.sizes.Sizes.{Sizes}
use Rattle.track_rule.specs.KeptWords.{is_kept_for}
use Rattle.track_rule.specs.Layout.{turn_word}
use Rattle.track_rule.specs.Readings.{stored}
use Rattle.track_rule.specs.Sights.{PassSight, sizes_of}
use Rattle.track_rule.specs.PhaseSteps.{holds_open}
use Rattle.track_rule.specs.Steps.{AreAll}
use Rattle.track_rule.specs.TouchSteps.{goes_on, hand_goes_on, known_record}
use Rattle.track_rule.specs.TurnSteps.{gave_turn, with_subject}
use Rattle.shared_desk.specs.Commit.{HasRecordTurn, seen_with}
use Rattle.shared_desk.specs.Looking.{HasRecord, IsFreeFor}
use Rattle.shared_desk.specs.Touching.{Gives, GoesOn, IsLeft, IsNotLive, IsTouched, IsTouchedUnder, TouchesLive, TouchesUnder, touch_of}
use Rattle.shared_desk.specs.declared.touching.EntryPacket.{EntryPacket}
use Rattle.shared_desk.proofs.Looking.{still_has}

-- nothing was touched
pub left_known : (place at : ℕ) (F : ℕ → List Event → Type 0) (v w : PassSight) → HasRecord place v → IsLeft place at F v w → HasRecord place w
left_known place at F v w h p = still_has place v w h p.same

touched_known : (place : ℕ) (p : EntryPacket) (number : ℕ) (q : Record) (v w : PassSight) → HasRecord place v → IsTouchedUnder place p number q v w → HasRecord place w
touched_known place p number q v w h t =
    let subject : h.hand.subject ≡ Some q = sym (ap known_record h.known) ∙ t.known in
    record {
      hand = record h.hand { subject = Some (record q { part = t.after }) };
      its_place = h.its_place;
      known = ap (λ (k : PassSight). k.view.commit.hand) t.goes.same ∙ ap (hand_goes_on t.after) h.known
          ∙ ap (λ (o : Option Record). Some (record h.hand { subject = goes_on t.after o })) subject;
      others = h.others;
      out = ap (λ (k : PassSight). k.slots) t.goes.same
          ∙ ap (λ ss. with_subject place (Some (record q { part = t.after })) ss) h.out;
      below = subst (λ (z : Sizes). place < z.entries) (sym (ap sizes_of t.goes.same)) h.below;
      calm = ap (λ (k : PassSight). k.view.commit.middle) t.goes.same ∙ h.calm;
      free = ap (λ (k : PassSight). k.view.free) t.goes.same ∙ h.free;
      closed = ap (λ (k : PassSight). holds_open k.view.places.held) t.goes.same ∙ h.closed;
    }

pub still_known : (place : ℕ) (p : EntryPacket) (o : TouchOutcome) (v w : PassSight) → HasRecord place v → TouchesUnder place p o v w → HasRecord place w
still_known place p (touch.Touched number q) v w h t = touched_known place p number q v w h t
still_known place p (touch.Ignored at) v w h t = left_known place at (Gives p outcome.Ignore) v w h t
still_known place p (touch.Invalid at) v w h t = left_known place at (Gives p outcome.Invalid) v w h t
still_known place p (touch.Reopen at) v w h t = left_known place at (Gives p outcome.Reopen) v w h t
still_known place p (touch.Reset at) v w h t = left_known place at (Gives p outcome.Reset) v w h t
still_known place p (touch.Expired at) v w h t = left_known place at (Gives p outcome.Expired) v w h t
still_known place p (touch.Gone at) v w h t = left_known place at IsNotLive v w h t

module _ (place : ℕ) (v w x y : PassSight) (f : IsFreeFor place v) (t : HasRecordTurn place v w)
    (gave : y ≡ record x { view = gave_turn place x.view; slots = rest x.slots }) where
  pub told : (log : List Event) → AreAll w.view log → AreAll v.view log
  told log all =
      let a = subst (λ (k : PassSight). AreAll k.view log) t.same all in
      record { front = a.front; told = a.told; legal = a.legal; few = a.few; passes = a.passes; shares = a.shares; alone = a.alone }

  pub still_held : (i : ℕ) → is_kept_for place i v.view.places.held ≡ true → is_kept_for place i w.view.places.held ≡ true
  still_held i kept = subst (λ (k : PassSight). is_kept_for place i k.view.places.held ≡ true) (sym t.same) kept

  pub left_back : (at : ℕ) (F : ℕ → List Event → Type 0) → IsLeft place at F w x → IsLeft place at F v y
  left_back at F p =
      let whole : y ≡ record v {
        view = record v.view {
          seen = record v.view.seen { front = x.view.seen.front };
          commit = record v.view.commit { hand = None };
          walk = x.view.walk;
          readings = x.view.readings ++ stored (turn_word x.view.passes.sizes place) 0 ∷ [];
        };
      } =
      gave ∙ ap (λ (k : PassSight). record k {
        view = record k.view { commit = record k.view.commit { hand = None }; readings = x.view.readings ++ stored (turn_word x.view.passes.sizes place) 0 ∷ [] };
        slots = rest k.slots;
      }) (p.same ∙ ap (λ (k : PassSight). record k {
        view = record k.view { seen = record k.view.seen { front = x.view.seen.front }; walk = x.view.walk; readings = x.view.readings };
      }) t.same) in
      let front : y.view.seen.front ≡ x.view.seen.front = ap (λ (k : PassSight). k.view.seen.front) whole in
      record {
        same = whole ∙ (λ i. record v {
          view = record v.view {
            seen = record v.view.seen { front = sym front i };
            commit = record v.view.commit { hand = sym f.hand i };
            walk = sym (ap (λ (k : PassSight). k.view.walk) whole) i;
            readings = sym (ap (λ (k : PassSight). k.view.readings) whole) i;
          };
        });
        all = subst (λ (l : List Event). AreAll v.view l) (sym front) (told x.view.seen.front p.all);
        point = p.point ∙ ap (λ (l : List Event). length l) (sym front);
        is = λ id kept. subst (F id) (sym front) (p.is id (still_held id kept));
      }

  touched_back : (p : EntryPacket) (number : ℕ) (q : Record) → IsTouchedUnder place p number q w x → IsTouched place p number q v y
  touched_back p number q u =
      let g : GoesOn place u.id q p u.after number w x = u.goes in
      let whole : y ≡ record v {
        view = record v.view {
          seen = seen_with g.log number (touch_of p u.id u.after) v.view.seen;
          commit = record v.view.commit { hand = None };
          walk = None;
          readings = x.view.readings ++ stored (turn_word x.view.passes.sizes place) 0 ∷ [];
        };
      } =
      gave ∙ ap (λ (k : PassSight). record k {
        view = record k.view { commit = record k.view.commit { hand = None }; readings = x.view.readings ++ stored (turn_word x.view.passes.sizes place) 0 ∷ [] };
        slots = rest k.slots;
      }) (g.same ∙ ap (λ (k : PassSight). record k {
        view = record k.view {
          seen = seen_with g.log number (touch_of p u.id u.after) k.view.seen;
          commit = record k.view.commit { hand = hand_goes_on u.after k.view.commit.hand };
          walk = None;
          readings = x.view.readings;
        };
        slots = with_subject place (Some (record q { part = u.after })) k.slots;
      }) t.same) in
      record {
        id = u.id;
        its = λ i kept. u.its i (still_held i kept);
        log = g.log;
        after = u.after;
        all = told g.log g.all;
        number_is = g.number_is;
        legal = subst (λ (k : PassSight). is_legal (sizes_of k) (g.log ++ touch_of p u.id u.after ∷ []) ≡ true) t.same g.legal;
        found = g.found;
        step = u.step;
        same = whole ∙ (λ i. record v {
          view = record v.view {
            seen = seen_with g.log number (touch_of p u.id u.after) v.view.seen;
            commit = record v.view.commit { hand = sym f.hand i };
            walk = None;
            readings = sym (ap (λ (k : PassSight). k.view.readings) whole) i;
          };
        });
      }

  pub given_back : (p : EntryPacket) (o : TouchOutcome) → TouchesUnder place p o w x → TouchesLive place p o v y
  given_back p (touch.Touched number q) u = touched_back p number q u
  given_back p (touch.Ignored at) u = left_back at (Gives p outcome.Ignore) u
  given_back p (touch.Invalid at) u = left_back at (Gives p outcome.Invalid) u
  given_back p (touch.Reopen at) u = left_back at (Gives p outcome.Reopen) u
  given_back p (touch.Reset at) u = left_back at (Gives p outcome.Reset) u
  given_back p (touch.Expired at) u = left_back at (Gives p outcome.Expired) u
  given_back p (touch.Gone at) u = left_back at IsNotLive u
