-- The turn is given back after a kill.
use Rattle.std.proofs.Common.{◌≡◌, ℕ, true, Some, None, [], ◌∷◌, ◌++◌, sym, ap, subst, ◌∙◌, arith}
use Rattle.atomic_table.specs.Table.{rest}
use Rattle.history_book.specs.History.{is_legal}
use Rattle.history_book.specs.declared.event.Why.{Why}
use Rattle.history_book.specs.declared.outcome.KillOutcome.{KillOutcome}
use Rattle.history_book.specs.declared.outcome.KillOutcome.TheVariants as kill
use Rattle.history_book.specs.declared.record.Record.{Record}
use Rattle.track_rule.specs.Layout.{turn_word}
use Rattle.track_rule.specs.PhaseSteps.{phase_dead}
use Rattle.track_rule.specs.Readings.{stored}
use Rattle.track_rule.specs.Sights.{PassSight, sizes_of}
use Rattle.track_rule.specs.TurnSteps.{CanGiveTurn, gave_turn}
use Rattle.track_rule.specs.declared.view.Hand.{Hand}
use Rattle.track_rule.specs.declared.view.Middle.TheVariants.{Calm}
use Rattle.shared_desk.specs.Commit.{HasRecordTurn, seen_with}
use Rattle.shared_desk.specs.Killing.{HasEnded, IsAsFound, IsKilled, Kills, KillsUnder, dead_commit, destroy_of}
use Rattle.shared_desk.specs.Looking.{HasRecord, IsFreeFor}
use Rattle.shared_desk.specs.Touching.{IsNotLive}
use Rattle.shared_desk.proofs.Looking.{record_whole}
use Rattle.shared_desk.proofs.Touched.{left_back, left_known, still_held, told}

-- the turn may be given back: the record of a live entry is in its slot, and of one that was destroyed none need be there
pub can_give : (place : ℕ) (why : Why) (o : KillOutcome) (v w : PassSight) → HasRecord place v → KillsUnder place why o v w → CanGiveTurn w.view w.slots
can_give place why (kill.Killed number q) v w h k =
    λ hand is live. absurd (omega (
      arith,
      live,
      ap (λ (x : Hand). x.phase) (one_hand (record { place = place; phase = phase_dead; subject = Some q }) hand (sym (ap (λ (x : PassSight). x.view.commit.hand) k.same) ∙ is)),
    ))
  where
    one_hand : (a b : Hand) → Some a ≡ Some b → a ≡ b
    one_hand a b e = cc
can_give place why (kill.Gone at) v w h k = record_whole place w (left_known place at IsNotLive v w h k)
can_give place why (kill.Not q at) v w h k = record_whole place w (left_known place at (IsAsFound q) v w h k.left)

module _ (place : ℕ) (v w x y : PassSight) (f : IsFreeFor place v) (t : HasRecordTurn place v w)
    (gave : y ≡ record x { view = gave_turn place x.view; slots = rest x.slots }) where
  killed_back : (why : Why) (number : ℕ) (q : Record) → IsKilled place why number q (dead_commit place q) w x → IsKilled place why number q v.view.commit v y
  killed_back why number q u =
      let e : HasEnded q why number w = u.ended in
      let whole : y ≡ record v {
        view = record v.view {
          seen = seen_with e.log number (destroy_of q why) v.view.seen;
          places = record v.view.places { ended = x.view.places.ended };
          commit = record { hand = None; middle = Calm };
          walk = x.view.walk;
          readings = x.view.readings ++ stored (turn_word x.view.passes.sizes place) 0 ∷ [];
        };
      } =
      gave ∙ ap (λ (k : PassSight). record k {
        view = record k.view { commit = record k.view.commit { hand = None }; readings = x.view.readings ++ stored (turn_word x.view.passes.sizes place) 0 ∷ [] };
        slots = rest k.slots;
      }) (u.same ∙ ap (λ (k : PassSight). record k {
        view = record k.view {
          seen = seen_with e.log number (destroy_of q why) k.view.seen;
          places = record k.view.places { ended = x.view.places.ended };
          commit = dead_commit place q;
          walk = x.view.walk;
          readings = x.view.readings;
        };
      }) t.same) in
      record {
        its = λ i kept. u.its i (still_held place v w x y f t gave i kept);
        reason = u.reason;
        ended = record {
          log = e.log;
          all = told place v w x y f t gave e.log e.all;
          number_is = e.number_is;
          legal = subst (λ (k : PassSight). is_legal (sizes_of k) (e.log ++ destroy_of q why ∷ []) ≡ true) t.same e.legal;
          found = e.found;
        };
        same = whole ∙ (λ i. record v {
          view = record v.view {
            seen = seen_with e.log number (destroy_of q why) v.view.seen;
            places = record v.view.places { ended = sym (ap (λ (k : PassSight). k.view.places.ended) whole) i };
            commit = record { hand = sym f.hand i; middle = sym f.calm i };
            walk = sym (ap (λ (k : PassSight). k.view.walk) whole) i;
            readings = sym (ap (λ (k : PassSight). k.view.readings) whole) i;
          };
        });
      }

  pub kill_back : (why : Why) (o : KillOutcome) → KillsUnder place why o w x → Kills place why o v y
  kill_back why (kill.Killed number q) u = killed_back why number q u
  kill_back why (kill.Gone at) u = left_back place v w x y f t gave at IsNotLive u
  kill_back why (kill.Not q at) u = record { reason = u.reason; left = left_back place v w x y f t gave at (IsAsFound q) u.left }
