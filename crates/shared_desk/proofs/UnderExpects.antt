-- What was done under the turn of the expectations, when the turn is given back.
use Rattle.std.proofs.Common.{◌≡◌, ℕ, true, None, List, [], ◌∷◌, ◌++◌, length, sym, ap, subst, ◌∙◌}
use Rattle.std.specs.Prelude.{find}
use Rattle.expect_table.specs.Expectations.{matching}
use Rattle.expect_table.specs.Match.{has_id}
use Rattle.tuple_core.specs.declared.Tuple.{Tuple}
use Rattle.expect_table.specs.declared.expectation.Want.{Want}
use Rattle.expect_table.specs.declared.table.AddOutcome.{AddOutcome}
use Rattle.expect_table.specs.declared.table.AddOutcome.TheVariants as add
use Rattle.history_book.specs.Entry.{zone_of_entry}
use Rattle.history_book.specs.declared.outcome.ExpectOutcome.{ExpectOutcome}
use Rattle.history_book.specs.declared.outcome.ExpectOutcome.TheVariants as expect
use Rattle.track_rule.specs.KeptWords.{is_kept_for}
use Rattle.history_book.specs.declared.event.Why.{Why}
use Rattle.history_book.specs.declared.record.Record.{Record}
use Rattle.track_rule.specs.KillSteps.{without_its}
use Rattle.shared_desk.specs.Killing.{EndsEntry, dead_commit, destroy_of}
use Rattle.shared_desk.specs.Touching.{IsLeft, IsNotLive}
use Rattle.shared_desk.specs.Expecting.{Expects, IsRefused}
use Rattle.history_book.specs.DeskExpectations.{IsDueUntil, expectation_at}
use Rattle.history_book.specs.History.{is_legal}
use Rattle.history_book.specs.State.{State}
use Rattle.history_book.specs.declared.event.Event.{Event}
use Rattle.history_book.specs.declared.event.Event.TheVariants.{Claim, Expect, Unexpect}
use Rattle.history_book.specs.declared.outcome.ClaimOutcome.{ClaimOutcome}
use Rattle.history_book.specs.declared.outcome.ClaimOutcome.TheVariants as claim
use Rattle.history_book.specs.declared.outcome.UnexpectOutcome.{UnexpectOutcome}
use Rattle.history_book.specs.declared.outcome.UnexpectOutcome.TheVariants as unexpect
use Rattle.track_rule.specs.ExpectTurns.{before_expects, gave_expected}
use Rattle.track_rule.specs.History.{state_after}
use Rattle.track_rule.specs.Sights.{PassSight, sizes_of}
use Rattle.track_rule.specs.Steps.{AreAll}
use Rattle.shared_desk.specs.Claiming.{Claims, HasLooked, HasMade, Unexpects}
use Rattle.shared_desk.specs.Commit.{seen_with}
use Rattle.shared_desk.specs.ExpectTurn.{aside}
use Rattle.shared_desk.proofs.ExpectTurn.{IsUnder, done_before, seen_before, told_aside, told_before}

module _ (v w x y : PassSight) (h : IsUnder v w)
    (gave : y ≡ record x { view = gave_expected x.view; slots = before_expects x.slots }) where
  pub made_given : (number : ℕ) (e : Event) → HasMade number e (aside w) (aside x) → HasMade number e v y
  made_given number e m = record {
    log = m.log;
    all = told_before v w h m.log m.all;
    number_is = m.number_is;
    legal = subst (λ (k : PassSight). is_legal (sizes_of k) (m.log ++ e ∷ []) ≡ true) h m.legal;
    same = seen_before v w x y h gave (seen_with m.log number e) m.same;
  }

  -- it looked
  module _ (same : aside x ≡ record (aside w) {
    view = record (aside w).view { seen = record w.view.seen { front = x.view.seen.front }; walk = x.view.walk; readings = x.view.readings };
  }) (all : AreAll (aside w).view x.view.seen.front) where
    own_front : y ≡ record v {
      view = record v.view { seen = record v.view.seen { front = x.view.seen.front }; walk = y.view.walk; readings = y.view.readings };
    }
    own_front = seen_before v w x y h gave (λ s. record s { front = x.view.seen.front }) same

    front_is : y.view.seen.front ≡ x.view.seen.front
    front_is = ap (λ (k : PassSight). k.view.seen.front) own_front

    same_then : y ≡ record v {
      view = record v.view { seen = record v.view.seen { front = y.view.seen.front }; walk = y.view.walk; readings = y.view.readings };
    }
    same_then = own_front ∙ ap (λ (es : List Event). record v {
      view = record v.view { seen = record v.view.seen { front = es }; walk = y.view.walk; readings = y.view.readings };
    }) (sym front_is)

    all_then : AreAll v.view y.view.seen.front
    all_then = subst (λ (es : List Event). AreAll v.view es) (sym front_is) (told_before v w h x.view.seen.front all)

    point_then : (at : ℕ) → at ≡ length x.view.seen.front → at ≡ length y.view.seen.front
    point_then at point = point ∙ ap (λ (es : List Event). length es) (sym front_is)

  pub looked_given : (at : ℕ) (F : State → Type 0) → HasLooked at F (aside w) (aside x) → HasLooked at F v y
  looked_given at F l = record {
    same = same_then l.same l.all;
    all = all_then l.same l.all;
    point = point_then l.same l.all at l.point;
    is = subst (λ (es : List Event). F (state_after es)) (sym (front_is l.same l.all)) l.is;
  }

  held_then : (place id : ℕ) → is_kept_for place id v.view.places.held ≡ true → is_kept_for place id w.view.places.held ≡ true
  held_then place id kept = subst (λ (k : PassSight). is_kept_for place id k.view.places.held ≡ true) (sym h) kept

  pub left_given : (place at : ℕ) (F : ℕ → List Event → Type 0) → IsLeft place at F (aside w) (aside x) → IsLeft place at F v y
  left_given place at F l = record {
    same = same_then l.same l.all;
    all = all_then l.same l.all;
    point = point_then l.same l.all at l.point;
    is = λ id kept. subst (F id) (sym (front_is l.same l.all)) (l.is id (held_then place id kept));
  }

  pub claim_given : (t : Tuple) (moment : ℕ) (o : ClaimOutcome) → Claims t moment o (aside w) (aside x) → Claims t moment o v y
  claim_given t moment (claim.Claimed number expectation master) c = made_given number (Claim expectation master t moment) c
  claim_given t moment (claim.Unclaimed at) c = looked_given at (λ s. matching t moment s.expects ≡ None) c

  pub unexpect_given : (id moment : ℕ) (o : UnexpectOutcome) → Unexpects id moment o (aside w) (aside x) → Unexpects id moment o v y
  unexpect_given id moment (unexpect.Removed number) u = made_given number (Unexpect id moment) u
  unexpect_given id moment (unexpect.Gone at) u = looked_given at (λ s. find (has_id id) s.expects ≡ None) u
  unexpect_given id moment (unexpect.Not deadline at) u = (looked_given at (IsDueUntil id deadline) u.0, u.1)

  refused_given : (place at : ℕ) (want : Want) (moment : ℕ) (o : AddOutcome)
      → IsLeft place at (IsRefused (sizes_of w).expectations at w.view.seen.front want moment o) (aside w) (aside x)
      → IsLeft place at (IsRefused (sizes_of v).expectations at v.view.seen.front want moment o) v y
  refused_given place at want moment o l =
      subst (λ (k : PassSight). IsLeft place at (IsRefused (sizes_of k).expectations at k.view.seen.front want moment o) v y) h
      (left_given place at (IsRefused (sizes_of w).expectations at w.view.seen.front want moment o) l)

  pub expect_given : (place : ℕ) (want : Want) (moment : ℕ) (o : ExpectOutcome) → Expects place want moment o (aside w) (aside x) → Expects place want moment o v y
  expect_given place want moment (expect.Expected id replaced) e = record {
    master = e.master;
    its = λ i kept. e.its i (held_then place i kept);
    made = subst (λ (k : PassSight). HasMade id (Expect (expectation_at id e.master (zone_of_entry e.master k.view.seen.front) want moment) replaced moment) v y) h
        (made_given id (Expect (expectation_at id e.master (zone_of_entry e.master w.view.seen.front) want moment) replaced moment) e.made);
  }
  expect_given place want moment (expect.MasterGone at) l = left_given place at IsNotLive l
  expect_given place want moment (expect.Clash id at) l = refused_given place at want moment (add.Clash id) l
  expect_given place want moment (expect.ExpectFull at) l = refused_given place at want moment add.Full l

  pub end_given : v.view.expected ≡ None → (place : ℕ) (r : Record) (why : Why) (number : ℕ) → EndsEntry place r why number w x → EndsEntry place r why number v y
  end_given unturned place r why number e =
      let same : y ≡ record v {
        view = record v.view {
          seen = seen_with e.ended.log number (destroy_of r why) v.view.seen;
          places = record v.view.places { ended = x.view.places.ended };
          commit = dead_commit place r;
          walk = y.view.walk;
          readings = y.view.readings;
        };
      } = done_before v w x y h gave (seen_with e.ended.log number (destroy_of r why)) (λ p. record p { ended = x.view.places.ended })
      (λ d. dead_commit place r) (ap aside e.same) in
      record {
        ended = record {
          log = e.ended.log;
          all = told_before v w h e.ended.log (told_aside w e.ended.log e.ended.all);
          number_is = e.ended.number_is;
          legal = subst (λ (k : PassSight). is_legal (sizes_of k) (e.ended.log ++ destroy_of r why ∷ []) ≡ true) h e.ended.legal;
          found = e.ended.found;
        };
        same = same ∙ (λ i. record v {
          view = record v.view {
            seen = seen_with e.ended.log number (destroy_of r why) v.view.seen;
            places = record v.view.places { ended = sym (ap (λ (k : PassSight). k.view.places.ended) same) i };
            commit = dead_commit place r;
            expected = sym (ap (without_its r.id) unturned ∙ sym unturned) i;
            walk = y.view.walk;
            readings = y.view.readings;
          };
        });
      }
