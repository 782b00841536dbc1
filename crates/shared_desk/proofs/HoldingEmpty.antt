-- Whether no live entry has a place, seen under the turn of the place's record.
use Rattle.std.proofs.Common.{◌≡◌, ℕ, Option, Some, None, List, [], ◌∷◌, ◌++◌, sym, ap, subst, ◌∙◌, length}
use Rattle.atomic_table.specs.Table.{rest}
use Rattle.history_book.specs.Point.{StartsWith}
use Rattle.history_book.specs.declared.event.Event.{Event}
use Rattle.track_rule.specs.History.{records_after}
use Rattle.track_rule.specs.Layout.{turn_word}
use Rattle.track_rule.specs.Phases.{of_place}
use Rattle.track_rule.specs.Readings.{stored}
use Rattle.track_rule.specs.Sights.{PassSight}
use Rattle.track_rule.specs.Steps.{AreAll}
use Rattle.track_rule.specs.Sums.{total}
use Rattle.track_rule.specs.TurnSteps.{gave_turn}
use Rattle.shared_desk.specs.Commit.{HasRecordTurn}
use Rattle.shared_desk.specs.Holding.{Finds, IsEmpty, OnlyLooks}
use Rattle.shared_desk.specs.Looking.{HasRecord, IsFreeFor}
use Rattle.shared_desk.proofs.HoldingFrames.{looks_from}
use Rattle.shared_desk.proofs.Looking.{still_has}
use Rattle.shared_desk.proofs.Touched.{told}

pub has_found : (place : ℕ) (o : Option ℕ) (v w : PassSight) → HasRecord place v → Finds place o v w → HasRecord place w
has_found place (Some at) v w h f = still_has place v w h f.looks.same
has_found place None v w h f = still_has place v w h f.same

-- the turn is given back
module _ (place : ℕ) (v t y w : PassSight) (free : IsFreeFor place v) (turn : HasRecordTurn place v t)
    (gave : w ≡ record y { view = gave_turn place y.view; slots = rest y.slots }) where
  pub looks_back : OnlyLooks t y → OnlyLooks v w
  looks_back l = looks_from v w y.view.seen.front y.view.walk (y.view.readings ++ stored (turn_word y.view.passes.sizes place) 0 ∷ []) as_before
      (subst (λ (log : List Event). StartsWith y.view.seen.front log) (ap (λ (k : PassSight). k.view.seen.front) turn.same) l.front)
    where
      whole : w ≡ record v {
        view = record v.view {
          seen = record v.view.seen { front = y.view.seen.front };
          commit = record v.view.commit { hand = None };
          walk = y.view.walk;
          readings = y.view.readings ++ stored (turn_word y.view.passes.sizes place) 0 ∷ [];
        };
      }
      whole = gave ∙ ap (λ (k : PassSight). record k {
        view = record k.view { commit = record k.view.commit { hand = None }; readings = y.view.readings ++ stored (turn_word y.view.passes.sizes place) 0 ∷ [] };
        slots = rest k.slots;
      }) (l.same ∙ ap (λ (k : PassSight). record k {
        view = record k.view { seen = record k.view.seen { front = y.view.seen.front }; walk = y.view.walk; readings = y.view.readings };
      }) turn.same)

      as_before : w ≡ record v {
        view = record v.view {
          seen = record v.view.seen { front = y.view.seen.front };
          walk = y.view.walk;
          readings = y.view.readings ++ stored (turn_word y.view.passes.sizes place) 0 ∷ [];
        };
      }
      as_before = whole ∙ (λ i. record v {
        view = record v.view {
          seen = record v.view.seen { front = y.view.seen.front };
          commit = record v.view.commit { hand = sym free.hand i };
          walk = y.view.walk;
          readings = y.view.readings ++ stored (turn_word y.view.passes.sizes place) 0 ∷ [];
        };
      })

  pub empty_back : (at : ℕ) → IsEmpty place at t y → IsEmpty place at v w
  empty_back at e = record {
    looks = looks_back e.looks;
    all = subst (λ (log : List Event). AreAll v.view log) (sym front) (told place v t y w free turn gave y.view.seen.front e.all);
    point = e.point ∙ ap length (sym front);
    unused = ap (λ (log : List Event). total (of_place place) (records_after log)) front ∙ e.unused;
  }
    where
      front : w.view.seen.front ≡ y.view.seen.front
      front = ap (λ (k : PassSight). k.view.seen.front) gave
