use Rattle.shared_desk.proofs.Counting.{no_touch, still_taken}
use Rattle.history_book.specs.Desk.{TouchSays}
use Rattle.shared_desk.specs.Changed.{touch_words}
use Rattle.shared_desk.specs.Noting.{room_after}
use Rattle.history_book.specs.Sight.{Sight}
use Rattle.shared_desk.proofs.Resting.{clerk_at, now_of}
use Rattle.std.proofs.Common.{◌≤◌, ap, subst, sym, ◌∙◌}
use Rattle.history_book.specs.Entry.{is_of_entry}
use Rattle.history_book.specs.Held.{held_id, is_held_for_entry}
use Rattle.shared_desk.specs.Sights.{ClerkSight, sight_of}
use Rattle.shared_desk.specs.Touching.{touch_note}
use Rattle.shared_desk.proofs.Accepting.{rest_touching, says_touching, suits_entry}
use Rattle.shared_desk.proofs.Peeking.{free_for}
use Rattle.shared_desk.proofs.desk.ClerkDesk.touch.Goals as goal

pub touch-outcome-requires-clause-free : goal.touch-outcome-requires-clause-free
touch-outcome-requires-clause-free g c =
    free_for c.self.inside.pass c.self.inside.notes c.self.inside.spare c.args.place c.self.invariant
    (ap (λ (s : ClerkSight). is_held_for_entry c.args.place (sight_of s).held) c.self.view_is ∙ c.requires.held)

pub touch-outcome-requires-clause-suits : goal.touch-outcome-requires-clause-suits
touch-outcome-requires-clause-suits g c =
    suits_entry c.self.inside.pass c.self.inside.notes c.self.inside.spare c.args.place
    (record { direction = c.args.direction; segment = c.args.segment; moment = c.args.moment }) c.self.invariant
    (ap (λ (s : ClerkSight). is_held_for_entry c.args.place (sight_of s).held) c.self.view_is ∙ c.requires.held)
    (subst (λ (s : ClerkSight). 1 ≤ s.spare) (sym c.self.view_is) c.requires.spare)
    (ap (λ (s : ClerkSight). is_of_entry c.args.segment (held_id c.args.place (sight_of s).held) (sight_of s).front) c.self.view_is ∙ c.requires.protocol)
    c.requires.timely

pub invariant_of-self : goal.invariant_of-self
invariant_of-self g c =
    rw (c.note_touch.ensures.notes, c.note_touch.ensures.spare) (rest_touching c.self.inside.pass c.self.inside.notes c.self.inside.spare c.args.place
    (record { direction = c.args.direction; segment = c.args.segment; moment = c.args.moment }) c.self.invariant
    (ap (λ (s : ClerkSight). is_held_for_entry c.args.place (sight_of s).held) c.self.view_is ∙ c.requires.held)
    (subst (λ (s : ClerkSight). 1 ≤ s.spare) (sym c.self.view_is) c.requires.spare)
    c.touch-outcome.result.0 c.touch-outcome.new.pass (touch_note (record { direction = c.args.direction; segment = c.args.segment; moment = c.args.moment }) c.touch-outcome.result.1) c.touch-outcome.ensures.touches c.touch-outcome.ensures.noted)

pub returns-clause-says : goal.returns-clause-says
returns-clause-says g c =
    rw (← c.self.view_is) (rw (c.note_touch.ensures.spare) (now_of (λ (s : Sight). TouchSays c.args.place c.args.direction c.args.segment c.args.moment (sight_of (clerk_at c.self.inside.pass c.self.inside.spare)) s c.touch-outcome.result.0) c.self.inside.pass (clerk_at c.touch-outcome.new.pass (room_after (touch_note (record { direction = c.args.direction; segment = c.args.segment; moment = c.args.moment }) c.touch-outcome.result.1) c.self.inside.spare))
    (still_taken (touch_words c.args.place c.touch-outcome.result.0) c.self.inside.pass c.touch-outcome.new.pass (no_touch c.args.place c.touch-outcome.result.0) c.touch-outcome.ensures.words)
    (says_touching c.self.inside.pass c.self.inside.notes c.self.inside.spare c.args.place
    (record { direction = c.args.direction; segment = c.args.segment; moment = c.args.moment }) c.self.invariant
    (ap (λ (s : ClerkSight). is_held_for_entry c.args.place (sight_of s).held) c.self.view_is ∙ c.requires.held)
    (subst (λ (s : ClerkSight). 1 ≤ s.spare) (sym c.self.view_is) c.requires.spare) c.states_stay.ensures
    c.touch-outcome.result.0 c.touch-outcome.new.pass (touch_note (record { direction = c.args.direction; segment = c.args.segment; moment = c.args.moment }) c.touch-outcome.result.1) c.touch-outcome.ensures.touches c.touch-outcome.ensures.noted)))

pub returns-clause-knows : goal.returns-clause-knows
returns-clause-knows g c = (invariant_of-self g c).knows

pub returns-clause-own : goal.returns-clause-own
returns-clause-own g c = rw (← c.self.view_is) c.touch-outcome.ensures.words
