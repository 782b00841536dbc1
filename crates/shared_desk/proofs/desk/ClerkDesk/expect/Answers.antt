use Rattle.shared_desk.proofs.Counting.{no_expect, still_taken}
use Rattle.history_book.specs.DeskExpectations.{ExpectSays}
use Rattle.shared_desk.specs.Changed.{expect_words}
use Rattle.shared_desk.specs.Noting.{room_after}
use Rattle.history_book.specs.Sight.{Sight}
use Rattle.shared_desk.proofs.Resting.{clerk_at, now_of}
use Rattle.std.proofs.Common.{◌≤◌, ap, subst, sym, ◌∙◌}
use Rattle.history_book.specs.Entry.{is_helped_entry}
use Rattle.history_book.specs.Held.{held_id, is_held_for_entry}
use Rattle.shared_desk.specs.Sights.{ClerkSight, sight_of}
use Rattle.shared_desk.proofs.Peeking.{free_for}
use Rattle.shared_desk.proofs.Promised.{rest_expecting, says_expecting, suits_expect}
use Rattle.shared_desk.proofs.desk.ClerkDesk.expect.Goals as goal

pub expect-outcome-requires-clause-free : goal.expect-outcome-requires-clause-free
expect-outcome-requires-clause-free g c =
    free_for c.self.inside.pass c.self.inside.notes c.self.inside.spare c.args.place c.self.invariant
    (ap (λ (s : ClerkSight). is_held_for_entry c.args.place (sight_of s).held) c.self.view_is ∙ c.requires.held)

pub expect-outcome-requires-clause-suits : goal.expect-outcome-requires-clause-suits
expect-outcome-requires-clause-suits g c =
    suits_expect c.self.inside.pass c.self.inside.notes c.self.inside.spare c.args.place c.self.invariant
    (ap (λ (s : ClerkSight). is_held_for_entry c.args.place (sight_of s).held) c.self.view_is ∙ c.requires.held)
    (subst (λ (s : ClerkSight). 1 ≤ s.spare) (sym c.self.view_is) c.requires.spare) c.args.moment
    (ap (λ (s : ClerkSight). is_helped_entry (held_id c.args.place (sight_of s).held) (sight_of s).front) c.self.view_is ∙ c.requires.helper)
    c.requires.timely

pub invariant_of-self : goal.invariant_of-self
invariant_of-self g c =
    rw (c.note_event.ensures.notes, c.note_event.ensures.spare) (rest_expecting c.self.inside.pass c.self.inside.notes c.self.inside.spare c.args.place c.self.invariant
    (ap (λ (s : ClerkSight). is_held_for_entry c.args.place (sight_of s).held) c.self.view_is ∙ c.requires.held)
    (subst (λ (s : ClerkSight). 1 ≤ s.spare) (sym c.self.view_is) c.requires.spare) c.args.want c.args.moment
    c.expect-outcome.new.pass c.expect-outcome.result.1 c.expect-outcome.ensures.noted c.expect-outcome.result.0 c.expect-outcome.ensures.expects)

pub returns-clause-says : goal.returns-clause-says
returns-clause-says g c =
    rw (← c.self.view_is) (rw (c.note_event.ensures.spare) (now_of (λ (s : Sight). ExpectSays c.args.place c.args.want c.args.moment (sight_of (clerk_at c.self.inside.pass c.self.inside.spare)) s c.expect-outcome.result.0) c.self.inside.pass (clerk_at c.expect-outcome.new.pass (room_after c.expect-outcome.result.1 c.self.inside.spare))
    (still_taken (expect_words c.args.place c.expect-outcome.result.0) c.self.inside.pass c.expect-outcome.new.pass (no_expect c.args.place c.expect-outcome.result.0) c.expect-outcome.ensures.words)
    (says_expecting c.self.inside.pass c.self.inside.notes c.self.inside.spare c.args.place c.self.invariant
    (ap (λ (s : ClerkSight). is_held_for_entry c.args.place (sight_of s).held) c.self.view_is ∙ c.requires.held)
    (subst (λ (s : ClerkSight). 1 ≤ s.spare) (sym c.self.view_is) c.requires.spare) c.args.want c.args.moment
    c.expect-outcome.new.pass c.expect-outcome.result.1 c.expect-outcome.ensures.noted c.expect-outcome.result.0 c.expect-outcome.ensures.expects)))

pub returns-clause-knows : goal.returns-clause-knows
returns-clause-knows g c = (invariant_of-self g c).knows

pub returns-clause-own : goal.returns-clause-own
returns-clause-own g c = rw (← c.self.view_is) c.expect-outcome.ensures.words
