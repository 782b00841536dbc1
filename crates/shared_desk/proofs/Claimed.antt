-- A clerk that claimed an expectation, ended one, or listed them.
use Rattle.std.specs.Prelude.{◌^◌, find}
use Rattle.std.proofs.Common.{◌≡◌, ℕ, ◌<◌, ◌≤◌, Option, None, List, length, arith}
use Rattle.room_list.specs.Roomed.{Roomed}
use Rattle.tuple_core.specs.declared.Tuple.{Tuple}
use Rattle.expect_table.specs.Expectations.{matching}
use Rattle.expect_table.specs.Match.{has_id}
use Rattle.expect_table.specs.declared.expectation.Expectation.{Expectation}
use Rattle.history_book.specs.DeskExpectations.{ClaimSays, IsDueUntil, ListsExpected, UnexpectSays}
use Rattle.history_book.specs.declared.event.Event.TheVariants.{Claim, Unexpect}
use Rattle.history_book.specs.declared.event.Note.{Note}
use Rattle.history_book.specs.declared.outcome.ClaimOutcome.{ClaimOutcome}
use Rattle.history_book.specs.declared.outcome.ClaimOutcome.TheVariants as claim
use Rattle.history_book.specs.declared.outcome.UnexpectOutcome.{UnexpectOutcome}
use Rattle.history_book.specs.declared.outcome.UnexpectOutcome.TheVariants as unexpect
use Rattle.track_rule.specs.Sights.{PassSight}
use Rattle.shared_desk.specs.Claiming.{Claims, HasLooked, Unexpects}
use Rattle.shared_desk.specs.ExpectTurn.{CanTakeExpects}
use Rattle.shared_desk.specs.Noting.{room_after, with_note}
use Rattle.shared_desk.specs.Rest.{IsAtRest}
use Rattle.shared_desk.specs.Sights.{sight_of}
use Rattle.shared_desk.specs.Touching.{Notes}
use Rattle.shared_desk.proofs.Noted.{looks_unmade, rest_made, rest_unmade, says_made}
use Rattle.shared_desk.proofs.Peeking.{looks_at, rest_looking}
use Rattle.shared_desk.proofs.Resting.{clerk_at, then_of}

module _ (v : PassSight) (notes : Roomed Note) (spare : ℕ) (h : IsAtRest v notes spare) where
  pub can_take : CanTakeExpects v
  can_take = record { expected = h.idle.expected; shut = h.idle.shut; free = h.idle.free; calm = h.idle.middle }

  pub few_own : 1 ≤ spare → length v.view.seen.own < 2 ^ 30
  few_own room = omega (arith, room, h.knows.spared)

  -- it listed them
  module _ (at : ℕ) (listed : List Expectation) (w : PassSight) (l : HasLooked at (λ s. listed ≡ s.expects) v w) where
    pub rest_listed : IsAtRest w notes spare
    rest_listed = rest_looking v notes spare h w l.same l.all

    pub lists_says : ListsExpected listed (sight_of (clerk_at v spare)) (then_of v (clerk_at w spare)) at
    lists_says = looks_at v notes spare h w l.same l.all at (λ s. listed ≡ s.expects) l.point l.is

  module _ (room : 1 ≤ spare) (w : PassSight) (made : Option Note) (is : Notes made v.view.seen.own w.view.seen.own) where
    pub rest_claiming : (t : Tuple) (moment : ℕ) (o : ClaimOutcome) → Claims t moment o v w → IsAtRest w (with_note made notes) (room_after made spare)
    rest_claiming t moment (claim.Claimed number expectation master) c =
        rest_made v notes spare h room number (Claim expectation master t moment) w c made is
    rest_claiming t moment (claim.Unclaimed at) c = rest_unmade v notes spare h w c.same c.all made is

    pub says_claiming : (t : Tuple) (moment : ℕ) (o : ClaimOutcome) → Claims t moment o v w
        → ClaimSays t moment (sight_of (clerk_at v spare)) (then_of v (clerk_at w (room_after made spare))) o
    says_claiming t moment (claim.Claimed number expectation master) c =
        says_made v notes spare h room number (Claim expectation master t moment) w c made is
    says_claiming t moment (claim.Unclaimed at) c =
        looks_unmade v notes spare h w c.same c.all made is at (λ s. matching t moment s.expects ≡ None) c.point c.is

    pub rest_unexpecting : (id moment : ℕ) (o : UnexpectOutcome) → Unexpects id moment o v w → IsAtRest w (with_note made notes) (room_after made spare)
    rest_unexpecting id moment (unexpect.Removed number) u = rest_made v notes spare h room number (Unexpect id moment) w u made is
    rest_unexpecting id moment (unexpect.Gone at) u = rest_unmade v notes spare h w u.same u.all made is
    rest_unexpecting id moment (unexpect.Not deadline at) u = rest_unmade v notes spare h w u.0.same u.0.all made is

    pub says_unexpecting : (id moment : ℕ) (o : UnexpectOutcome) → Unexpects id moment o v w
        → UnexpectSays id moment (sight_of (clerk_at v spare)) (then_of v (clerk_at w (room_after made spare))) o
    says_unexpecting id moment (unexpect.Removed number) u = says_made v notes spare h room number (Unexpect id moment) w u made is
    says_unexpecting id moment (unexpect.Gone at) u =
        looks_unmade v notes spare h w u.same u.all made is at (λ s. find (has_id id) s.expects ≡ None) u.point u.is
    says_unexpecting id moment (unexpect.Not deadline at) u =
        let looks = looks_unmade v notes spare h w u.0.same u.0.all made is at (IsDueUntil id deadline) u.0.point u.0.is in
        (looks.0, u.1, looks.1)
