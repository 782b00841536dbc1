use Rattle.shared_desk.proofs.Counting.{no_kill, still_taken}
use Rattle.history_book.specs.Desk.{KillSays}
use Rattle.shared_desk.specs.Changed.{kill_words}
use Rattle.shared_desk.specs.Noting.{room_after}
use Rattle.history_book.specs.Sight.{Sight}
use Rattle.shared_desk.proofs.Resting.{clerk_at, now_of}
use Rattle.std.proofs.Common.{◌≤◌, ap, subst, sym, ◌∙◌}
use Rattle.history_book.specs.Held.{is_held_for_entry}
use Rattle.shared_desk.specs.Sights.{ClerkSight, sight_of}
use Rattle.shared_desk.proofs.Destroyed.{rest_killing, says_killing, suits_kill}
use Rattle.shared_desk.proofs.Peeking.{free_for}
use Rattle.shared_desk.proofs.desk.ClerkDesk.kill.Goals as goal

pub kill-outcome-requires-clause-free : goal.kill-outcome-requires-clause-free
kill-outcome-requires-clause-free g c =
    free_for c.self.inside.pass c.self.inside.notes c.self.inside.spare c.args.place c.self.invariant
    (ap (λ (s : ClerkSight). is_held_for_entry c.args.place (sight_of s).held) c.self.view_is ∙ c.requires.held)

pub kill-outcome-requires-clause-suits : goal.kill-outcome-requires-clause-suits
kill-outcome-requires-clause-suits g c =
    suits_kill c.self.inside.pass c.self.inside.notes c.self.inside.spare c.args.place c.args.why c.self.invariant
    (ap (λ (s : ClerkSight). is_held_for_entry c.args.place (sight_of s).held) c.self.view_is ∙ c.requires.held)
    (subst (λ (s : ClerkSight). 1 ≤ s.spare) (sym c.self.view_is) c.requires.spare)
    c.requires.timely

pub invariant_of-self : goal.invariant_of-self
invariant_of-self g c =
    rw (c.note_event.ensures.notes, c.note_event.ensures.spare) (rest_killing c.self.inside.pass c.self.inside.notes c.self.inside.spare c.args.place
    c.args.why c.self.invariant
    (ap (λ (s : ClerkSight). is_held_for_entry c.args.place (sight_of s).held) c.self.view_is ∙ c.requires.held)
    (subst (λ (s : ClerkSight). 1 ≤ s.spare) (sym c.self.view_is) c.requires.spare)
    c.kill-outcome.result.0 c.kill-outcome.new.pass c.kill-outcome.result.1 c.kill-outcome.ensures.kills c.kill-outcome.ensures.noted)

pub returns-clause-says : goal.returns-clause-says
returns-clause-says g c =
    rw (← c.self.view_is) (rw (c.note_event.ensures.spare) (now_of (λ (s : Sight). KillSays c.args.place c.args.why (sight_of (clerk_at c.self.inside.pass c.self.inside.spare)) s c.kill-outcome.result.0) c.self.inside.pass (clerk_at c.kill-outcome.new.pass (room_after c.kill-outcome.result.1 c.self.inside.spare))
    (still_taken (kill_words c.args.place c.kill-outcome.result.0) c.self.inside.pass c.kill-outcome.new.pass (no_kill c.args.place c.kill-outcome.result.0) c.kill-outcome.ensures.words)
    (says_killing c.self.inside.pass c.self.inside.notes c.self.inside.spare c.args.place
    c.args.why c.self.invariant
    (ap (λ (s : ClerkSight). is_held_for_entry c.args.place (sight_of s).held) c.self.view_is ∙ c.requires.held)
    (subst (λ (s : ClerkSight). 1 ≤ s.spare) (sym c.self.view_is) c.requires.spare) c.states_stay.ensures
    c.kill-outcome.result.0 c.kill-outcome.new.pass c.kill-outcome.result.1 c.kill-outcome.ensures.kills c.kill-outcome.ensures.noted)))

pub returns-clause-knows : goal.returns-clause-knows
returns-clause-knows g c = (invariant_of-self g c).knows

pub returns-clause-own : goal.returns-clause-own
returns-clause-own g c = rw (← c.self.view_is) c.kill-outcome.ensures.words
