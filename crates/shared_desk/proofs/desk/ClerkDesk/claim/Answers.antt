use Rattle.shared_desk.specs.Sights.{sight_of}
use Rattle.shared_desk.proofs.Counting.{no_claim, still_taken}
use Rattle.history_book.specs.DeskExpectations.{ClaimSays}
use Rattle.shared_desk.specs.Changed.{claim_words}
use Rattle.shared_desk.specs.Noting.{room_after}
use Rattle.history_book.specs.Sight.{Sight}
use Rattle.shared_desk.proofs.Resting.{clerk_at, now_of}
use Rattle.std.proofs.Common.{◌≤◌, subst, sym}
use Rattle.shared_desk.specs.Sights.{ClerkSight}
use Rattle.shared_desk.proofs.Claimed.{rest_claiming, says_claiming}
use Rattle.shared_desk.proofs.desk.ClerkDesk.claim.Goals as goal

pub invariant_of-self : goal.invariant_of-self
invariant_of-self g c =
    rw (c.note_event.ensures.notes, c.note_event.ensures.spare) (rest_claiming c.self.inside.pass c.self.inside.notes c.self.inside.spare c.self.invariant
    (subst (λ (s : ClerkSight). 1 ≤ s.spare) (sym c.self.view_is) c.requires)
    c.claim-outcome.new.pass c.claim-outcome.result.1 c.claim-outcome.ensures.noted c.args.t.now c.args.moment c.claim-outcome.result.0 c.claim-outcome.ensures.claims)

pub returns-clause-says : goal.returns-clause-says
returns-clause-says g c =
    rw (← c.self.view_is) (rw (c.note_event.ensures.spare) (now_of (λ (s : Sight). ClaimSays c.args.t.now c.args.moment (sight_of (clerk_at c.self.inside.pass c.self.inside.spare)) s c.claim-outcome.result.0) c.self.inside.pass (clerk_at c.claim-outcome.new.pass (room_after c.claim-outcome.result.1 c.self.inside.spare))
    (still_taken (claim_words c.claim-outcome.result.0) c.self.inside.pass c.claim-outcome.new.pass (no_claim c.claim-outcome.result.0) c.claim-outcome.ensures.words)
    (says_claiming c.self.inside.pass c.self.inside.notes c.self.inside.spare c.self.invariant
    (subst (λ (s : ClerkSight). 1 ≤ s.spare) (sym c.self.view_is) c.requires)
    c.claim-outcome.new.pass c.claim-outcome.result.1 c.claim-outcome.ensures.noted c.args.t.now c.args.moment c.claim-outcome.result.0 c.claim-outcome.ensures.claims)))

pub returns-clause-knows : goal.returns-clause-knows
returns-clause-knows g c = (invariant_of-self g c).knows

pub returns-clause-own : goal.returns-clause-own
returns-clause-own g c = rw (← c.self.view_is) c.claim-outcome.ensures.words
