-- Expectations end by the packets that match them, or in time, and are listed.
use Rattle.std.specs.Prelude.{◌≡◌, ℕ, ◌<◌, true, None, find, List, [], ◌∷◌, ◌++◌, length}
use Rattle.expect_table.specs.Expectations.{matching}
use Rattle.expect_table.specs.Match.{has_id}
use Rattle.tuple_core.specs.declared.Tuple.{Tuple}
use Rattle.history_book.specs.DeskExpectations.{IsDueUntil}
use Rattle.history_book.specs.History.{is_legal}
use Rattle.history_book.specs.State.{State}
use Rattle.history_book.specs.declared.event.Event.{Event}
use Rattle.history_book.specs.declared.event.Event.TheVariants.{Claim, Unexpect}
use Rattle.history_book.specs.declared.outcome.ClaimOutcome.{ClaimOutcome}
use Rattle.history_book.specs.declared.outcome.ClaimOutcome.TheVariants as claim
use Rattle.history_book.specs.declared.outcome.UnexpectOutcome.{UnexpectOutcome}
use Rattle.history_book.specs.declared.outcome.UnexpectOutcome.TheVariants as unexpect
use Rattle.track_rule.specs.History.{state_after}
use Rattle.track_rule.specs.Sights.{PassSight, looked_on, sizes_of}
use Rattle.track_rule.specs.Steps.{AreAll}
use Rattle.shared_desk.specs.Commit.{seen_with}

-- The event was made after all these events, and was lawful. All else is as it was, but the note of a walk and the readings.
pub record HasMade (number : ℕ) (e : Event) (v w : PassSight) : Type 0 where
  pub log : List Event
  pub all : AreAll v.view log
  pub number_is : number ≡ length log
  pub legal : is_legal (sizes_of v) (log ++ e ∷ []) ≡ true
  pub same : w ≡ record v {
    view = record v.view { seen = seen_with log number e v.view.seen; walk = w.view.walk; readings = w.view.readings };
  }

-- The pass has seen all events so far, and this was so after them. All else is as it was, but the note of a walk and the readings.
pub record HasLooked (at : ℕ) (F : State → Type 0) (v w : PassSight) : Type 0 where
  pub same : w ≡ looked_on v w
  pub all : AreAll v.view w.view.seen.front
  pub point : at ≡ length w.view.seen.front
  pub is : F (state_after w.view.seen.front)

-- the first expectation that matches is ended, or none matches
abbrev pub Claims : Tuple → ℕ → ClaimOutcome → PassSight → PassSight → Type 0
Claims t moment (claim.Claimed number expectation master) v w = HasMade number (Claim expectation master t moment) v w
Claims t moment (claim.Unclaimed at) v w = HasLooked at (λ s. matching t moment s.expects ≡ None) v w

-- the one of the id is ended, or there is none, or it is still awaited
abbrev pub Unexpects : ℕ → ℕ → UnexpectOutcome → PassSight → PassSight → Type 0
Unexpects id moment (unexpect.Removed number) v w = HasMade number (Unexpect id moment) v w
Unexpects id moment (unexpect.Gone at) v w = HasLooked at (λ s. find (has_id id) s.expects ≡ None) v w
Unexpects id moment (unexpect.Not deadline at) v w = HasLooked at (IsDueUntil id deadline) v w × (moment < deadline)
