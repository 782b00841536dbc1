-- The entry for which a place is held is destroyed, or is left as it is.
use Rattle.std.specs.Prelude.{◌&&◌}
use Rattle.std.proofs.Common.{◌≡◌, ℕ, ◌-◌, ◌≤◌, true, Some, List, [], ◌∷◌, ◌++◌, sym, ap, subst, ◌∙◌, arith, ⊎_elim}
use Rattle.std.proofs.lemmas.Bool.{and_parts, eq-eqb, eqb-true, or_cases, or_left, or_right}
use Rattle.history_book.specs.History.{is_legal}
use Rattle.history_book.specs.Legality.{is_reason}
use Rattle.history_book.specs.Record.{has_id}
use Rattle.history_book.specs.State.{record_of}
use Rattle.history_book.specs.declared.event.Why.{Why}
use Rattle.history_book.specs.declared.outcome.KillOutcome.{KillOutcome}
use Rattle.history_book.specs.declared.outcome.KillOutcome.TheVariants as kill
use Rattle.history_book.specs.declared.record.Record.{Record}
use Rattle.track_rule.specs.History.{events_in, records_after, state_after}
use Rattle.track_rule.specs.KeptWords.{is_for, is_kept_for}
use Rattle.track_rule.specs.KillSteps.{without_its}
use Rattle.track_rule.specs.PhaseSteps.{LoadsPhase}
use Rattle.track_rule.specs.Records.{is_hand_of}
use Rattle.track_rule.specs.References.{is_at, is_held}
use Rattle.track_rule.specs.Sights.{PassSight, sizes_of}
use Rattle.track_rule.specs.Steps.{Looks}
use Rattle.track_rule.specs.Sums.{bit}
use Rattle.track_rule.specs.TouchSteps.{known_phase, known_record}
use Rattle.track_rule.specs.TurnSteps.{subject_in}
use Rattle.track_rule.specs.declared.view.Keep.{Keep}
use Rattle.shared_desk.specs.Commit.{seen_with}
use Rattle.shared_desk.specs.ExpectTurn.{CanTakeExpects}
use Rattle.shared_desk.specs.Killing.{EndsEntry, IsAsFound, IsKilled, Judges, KillsUnder, KnowsRecord, SuitsKill, dead_commit, destroy_of}
use Rattle.shared_desk.specs.Looking.{HasRecord}
use Rattle.shared_desk.specs.Touching.{IsLeft}
use Rattle.shared_desk.proofs.Loaded.{all_from, its_id, left_now, live_now, phase_is, subject_is, view_is}
use Rattle.shared_desk.proofs.Members.{find_passes}

-- a place that is held for an id is held
kept_held : (place id : ℕ) (ks : List Keep) → is_kept_for place id ks ≡ true → is_held place ks ≡ true
kept_held place id [] e = e
kept_held place id (k ∷ ks) e =
    ⊎_elim
    (λ (t : (is_for id k.purpose && is_at place k) ≡ true). or_left (is_at place k) (is_held place ks) (and_parts (is_for id k.purpose) (is_at place k) t).1)
    (λ (t : is_kept_for place id ks ≡ true). or_right (is_at place k) (is_held place ks) (kept_held place id ks t))
    (or_cases (is_for id k.purpose && is_at place k) (is_kept_for place id ks) e)

-- under the turn the phase was loaded, which was LIVE, and then the history word, and the record was out
module _ (place n word : ℕ) (why : Why) (v u w : PassSight) (h : HasRecord place v) (s : SuitsKill place why v)
    (loads : LoadsPhase place v.view n u.view) (kept : u ≡ record v { view = u.view })
    (looks : Looks u.view word w.view) (kept' : w ≡ record u { view = w.view })
    (live : 3 ≤ n) (before : Record) (out : Some before ≡ subject_in w.slots) (x : PassSight) (still : x ≡ w) where
  whole : x ≡ record v {
    view = record v.view { seen = record v.view.seen { front = w.view.seen.front }; walk = w.view.walk; readings = w.view.readings };
  }
  whole = still ∙ view_is place n word v u w h loads kept looks kept'

  live_then : record_of (n - 3) (state_after w.view.seen.front) ≡ Some before
  live_then = live_now place n word v u w h loads kept looks kept' live before out

  its : (i : ℕ) → is_kept_for place i v.view.places.held ≡ true → i ≡ n - 3
  its i held = its_id place n word v u w h loads kept looks kept' live before out i held

  its_record : (i : ℕ) → is_kept_for place i v.view.places.held ≡ true → i ≡ before.id
  its_record i held = its i held ∙ sym (eqb-true before.id (n - 3) (find_passes (has_id (n - 3)) before (records_after w.view.seen.front) live_then))

  pub knows_record : KnowsRecord place before x
  knows_record =
      let phase = phase_is place n word v u w h loads kept looks kept' live before out in
      subst (KnowsRecord place before) (sym whole) (record {
        below = h.below;
        held = kept_held place s.id v.view.places.held s.kept;
        turn = ap (is_hand_of place) h.known ∙ ap bit (eq-eqb h.hand.place place h.its_place);
        live = omega (arith, live, phase, ap known_phase h.known);
        known = ap known_record h.known ∙ subject_is place n word v u w h loads kept looks kept' live before out;
        calm = h.calm;
        clear = record { carried = s.clear.carried; down = s.clear.down; bare = s.clear.bare; few = s.clear.few };
      })

  pub can_take : CanTakeExpects x
  can_take = subst CanTakeExpects (sym whole) (record { expected = s.expected; shut = s.shut; free = h.free; calm = h.calm })

  module _ (at : ℕ) (point : at ≡ events_in word) (y : PassSight) where
    killed : (number : ℕ) → EndsEntry place before why number x y → is_reason why before ≡ true
        → IsKilled place why number before (dead_commit place before) v y
    killed number e reason = record {
      its = its_record;
      reason = reason;
      ended = record {
        log = e.ended.log;
        all = all_from place n word v u w h loads kept looks kept' x e.ended.log still e.ended.all;
        number_is = e.ended.number_is;
        legal = subst (λ (k : PassSight). is_legal (sizes_of k) (e.ended.log ++ destroy_of before why ∷ []) ≡ true) whole e.ended.legal;
        found = e.ended.found;
      };
      same = e.same ∙ ap (λ (k : PassSight). record k {
        view = record k.view {
          seen = seen_with e.ended.log number (destroy_of before why) k.view.seen;
          places = record k.view.places { ended = y.view.places.ended };
          commit = dead_commit place before;
          expected = without_its before.id k.view.expected;
          walk = y.view.walk;
          readings = y.view.readings;
        };
      }) whole ∙ (λ i. record v {
        view = record v.view {
          seen = seen_with e.ended.log number (destroy_of before why) v.view.seen;
          places = record v.view.places { ended = y.view.places.ended };
          commit = dead_commit place before;
          expected = (ap (without_its before.id) s.expected ∙ sym s.expected) i;
          walk = y.view.walk;
          readings = y.view.readings;
        };
      });
    }

    pub judged : (o : KillOutcome) → Judges place before why at o x y → KillsUnder place why o v y
    judged (kill.Killed number subject) e =
        subst (λ (q : Record). IsKilled place why number q (dead_commit place q) v y) (sym e.was) (killed number e.ends e.reason)
    judged (kill.Gone a) e = absurd e
    judged (kill.Not subject a) e = record {
      reason = ap (is_reason why) e.was ∙ e.reason;
      left = subst (λ (z : PassSight). IsLeft place a (IsAsFound subject) v z) (sym (e.same ∙ still))
          (left_now place n word v u w h loads kept looks kept' a (IsAsFound subject) (e.point ∙ point)
          (λ i held. ap (λ (j : ℕ). record_of j (state_after w.view.seen.front)) (its i held) ∙ live_then ∙ ap (λ (q : Record). Some q) (sym e.was)));
    }
