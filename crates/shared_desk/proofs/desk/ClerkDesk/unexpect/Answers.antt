use Rattle.shared_desk.specs.Sights.{sight_of}
use Rattle.shared_desk.proofs.Counting.{no_unexpect, still_taken}
use Rattle.history_book.specs.DeskExpectations.{UnexpectSays}
use Rattle.shared_desk.specs.Changed.{unexpect_words}
use Rattle.shared_desk.specs.Noting.{room_after}
use Rattle.history_book.specs.Sight.{Sight}
use Rattle.shared_desk.proofs.Resting.{clerk_at, now_of}
use Rattle.std.proofs.Common.{◌≤◌, subst, sym}
use Rattle.shared_desk.specs.Sights.{ClerkSight}
use Rattle.shared_desk.proofs.Claimed.{rest_unexpecting, says_unexpecting}
use Rattle.shared_desk.proofs.desk.ClerkDesk.unexpect.Goals as goal

pub invariant_of-self : goal.invariant_of-self
invariant_of-self g c =
    rw (c.note_event.ensures.notes, c.note_event.ensures.spare) (rest_unexpecting c.self.inside.pass c.self.inside.notes c.self.inside.spare c.self.invariant
    (subst (λ (s : ClerkSight). 1 ≤ s.spare) (sym c.self.view_is) c.requires)
    c.unexpect-outcome.new.pass c.unexpect-outcome.result.1 c.unexpect-outcome.ensures.noted c.args.id c.args.moment c.unexpect-outcome.result.0 c.unexpect-outcome.ensures.unexpects)

pub returns-clause-says : goal.returns-clause-says
returns-clause-says g c =
    rw (← c.self.view_is) (rw (c.note_event.ensures.spare) (now_of (λ (s : Sight). UnexpectSays c.args.id c.args.moment (sight_of (clerk_at c.self.inside.pass c.self.inside.spare)) s c.unexpect-outcome.result.0) c.self.inside.pass (clerk_at c.unexpect-outcome.new.pass (room_after c.unexpect-outcome.result.1 c.self.inside.spare))
    (still_taken (unexpect_words c.unexpect-outcome.result.0) c.self.inside.pass c.unexpect-outcome.new.pass (no_unexpect c.unexpect-outcome.result.0) c.unexpect-outcome.ensures.words)
    (says_unexpecting c.self.inside.pass c.self.inside.notes c.self.inside.spare c.self.invariant
    (subst (λ (s : ClerkSight). 1 ≤ s.spare) (sym c.self.view_is) c.requires)
    c.unexpect-outcome.new.pass c.unexpect-outcome.result.1 c.unexpect-outcome.ensures.noted c.args.id c.args.moment c.unexpect-outcome.result.0 c.unexpect-outcome.ensures.unexpects)))

pub returns-clause-knows : goal.returns-clause-knows
returns-clause-knows g c = (invariant_of-self g c).knows

pub returns-clause-own : goal.returns-clause-own
returns-clause-own g c = rw (← c.self.view_is) c.unexpect-outcome.ensures.words
