use Rattle.shared_desk.proofs.Counting.{no_turn, still_taken}
use Rattle.history_book.specs.Desk.{PeekSays}
use Rattle.track_rule.specs.ChangesOnly.{is_turn_of}
use Rattle.history_book.specs.Sight.{Sight}
use Rattle.shared_desk.proofs.Resting.{clerk_at, now_of}
use Rattle.std.proofs.Common.{ap, ◌∙◌}
use Rattle.history_book.specs.Held.{is_held_for_entry}
use Rattle.shared_desk.specs.Sights.{ClerkSight, sight_of}
use Rattle.shared_desk.proofs.Peeking.{free_for, rest_peeked, says_peeked}
use Rattle.shared_desk.proofs.desk.ClerkDesk.peek.Goals as goal

pub peek-requires : goal.peek-requires
peek-requires g c =
    free_for c.self.inside.pass c.self.inside.notes c.self.inside.spare c.args.place c.self.invariant
    (ap (λ (s : ClerkSight). is_held_for_entry c.args.place (sight_of s).held) c.self.view_is ∙ c.requires)

pub invariant_of-self : goal.invariant_of-self
invariant_of-self g c =
    rest_peeked c.self.inside.pass c.self.inside.notes c.self.inside.spare c.args.place c.self.invariant
    (ap (λ (s : ClerkSight). is_held_for_entry c.args.place (sight_of s).held) c.self.view_is ∙ c.requires)
    c.peek.result c.peek.new.pass c.peek.ensures.peeks

pub returns-clause-says : goal.returns-clause-says
returns-clause-says g c =
    rw (← c.self.view_is) (now_of (λ (s : Sight). PeekSays c.args.place (sight_of (clerk_at c.self.inside.pass c.self.inside.spare)) s c.peek.result) c.self.inside.pass (clerk_at c.peek.new.pass c.self.inside.spare)
    (still_taken (is_turn_of c.args.place) c.self.inside.pass c.peek.new.pass (no_turn c.args.place) c.peek.ensures.words)
    (says_peeked c.self.inside.pass c.self.inside.notes c.self.inside.spare c.args.place c.self.invariant
    (ap (λ (s : ClerkSight). is_held_for_entry c.args.place (sight_of s).held) c.self.view_is ∙ c.requires)
    c.peek.result c.peek.new.pass c.peek.ensures.peeks))

pub returns-clause-knows : goal.returns-clause-knows
returns-clause-knows g c = (invariant_of-self g c).knows

pub returns-clause-own : goal.returns-clause-own
returns-clause-own g c = rw (← c.self.view_is) c.peek.ensures.words
