use Rattle.shared_desk.proofs.Counting.{no_confirm, still_taken}
use Rattle.history_book.specs.Desk.{ConfirmSays}
use Rattle.shared_desk.specs.Changed.{confirm_words}
use Rattle.history_book.specs.Sight.{Sight}
use Rattle.shared_desk.proofs.Resting.{clerk_at, now_of}
use Rattle.std.proofs.Common.{◌≤◌, ap, subst, sym, ◌∙◌}
use Rattle.history_book.specs.Held.{is_taken as is_taken_by}
use Rattle.shared_desk.specs.Sights.{ClerkSight, sight_of}
use Rattle.shared_desk.proofs.Making.{can_confirm_flow, rest_confirming, says_confirming}
use Rattle.shared_desk.proofs.desk.ClerkDesk.confirm.Goals as goal

pub confirm-outcome-requires : goal.confirm-outcome-requires
confirm-outcome-requires g c =
    can_confirm_flow c.self.inside.pass c.self.inside.notes c.self.inside.spare c.args.place c.args.flow.now c.self.invariant
    (ap (λ (s : ClerkSight). is_taken_by c.args.place (sight_of s).held) c.self.view_is ∙ c.requires.taken) c.requires.protocol
    (subst (λ (s : ClerkSight). 1 ≤ s.spare) (sym c.self.view_is) c.requires.spare)

pub invariant_of-self : goal.invariant_of-self
invariant_of-self g c =
    rest_confirming c.self.inside.pass c.self.inside.notes c.self.inside.spare c.args.place c.args.flow.now c.self.invariant
    (ap (λ (s : ClerkSight). is_taken_by c.args.place (sight_of s).held) c.self.view_is ∙ c.requires.taken)
    c.confirm-outcome.result c.confirm-outcome.new.pass c.note_confirm.new.notes c.note_confirm.new.spare c.confirm-outcome.ensures.confirms
    (subst (λ (s : ClerkSight). 1 ≤ s.spare) (sym c.self.view_is) c.requires.spare) c.note_confirm.ensures.notes c.note_confirm.ensures.spare

pub returns-clause-says : goal.returns-clause-says
returns-clause-says g c =
    rw (← c.self.view_is) (now_of (λ (s : Sight). ConfirmSays c.args.place c.args.flow.now (sight_of (clerk_at c.self.inside.pass c.self.inside.spare)) s c.confirm-outcome.result) c.self.inside.pass (clerk_at c.confirm-outcome.new.pass c.note_confirm.new.spare)
    (still_taken (confirm_words c.args.flow.now c.args.place c.confirm-outcome.result) c.self.inside.pass c.confirm-outcome.new.pass (no_confirm c.args.flow.now c.args.place c.confirm-outcome.result) c.confirm-outcome.ensures.words)
    (says_confirming c.self.inside.pass c.self.inside.notes c.self.inside.spare c.args.place c.args.flow.now c.self.invariant
    (ap (λ (s : ClerkSight). is_taken_by c.args.place (sight_of s).held) c.self.view_is ∙ c.requires.taken)
    c.confirm-outcome.result c.confirm-outcome.new.pass c.note_confirm.new.spare c.confirm-outcome.ensures.confirms
    (subst (λ (s : ClerkSight). 1 ≤ s.spare) (sym c.self.view_is) c.requires.spare) c.note_confirm.ensures.spare))

pub returns-clause-knows : goal.returns-clause-knows
returns-clause-knows g c = (invariant_of-self g c).knows

pub returns-clause-own : goal.returns-clause-own
returns-clause-own g c = rw (← c.self.view_is) c.confirm-outcome.ensures.words
