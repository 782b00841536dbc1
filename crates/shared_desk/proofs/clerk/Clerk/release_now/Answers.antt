use Rattle.shared_desk.proofs.Counting.{no_refs, still_taken}
use Rattle.history_book.specs.Desk.{ReleaseSays}
use Rattle.track_rule.specs.ChangesOnly.{is_refs_of}
use Rattle.history_book.specs.Sight.{Sight}
use Rattle.shared_desk.proofs.Resting.{clerk_at, now_of}
use Rattle.std.proofs.Common.{◌≡◌, true, ap, sym, ◌∙◌}
use Rattle.history_book.specs.Held.{is_held as is_hold}
use Rattle.track_rule.specs.References.{is_held}
use Rattle.shared_desk.specs.Sights.{ClerkSight, sight_of}
use Rattle.shared_desk.proofs.GivingUp.{release_own, release_says, rest_released}
use Rattle.shared_desk.proofs.Resting.{holds_held}
use Rattle.shared_desk.proofs.clerk.Clerk.release_now.Goals as goal

pub release-requires-clause-held : goal.release-requires-clause-held
release-requires-clause-held g c =
    sym (holds_held c.args.place c.self.inside.pass.view.places.held)
    ∙ ap (λ (s : ClerkSight). is_hold c.args.place (sight_of s).held) c.self.view_is ∙ c.requires

pub invariant_of-self : goal.invariant_of-self
invariant_of-self g c =
    let there : is_held c.args.place c.self.inside.pass.view.places.held ≡ true =
    sym (holds_held c.args.place c.self.inside.pass.view.places.held)
    ∙ ap (λ (s : ClerkSight). is_hold c.args.place (sight_of s).held) c.self.view_is ∙ c.requires in
    rest_released c.args.place c.self.inside.pass c.self.inside.notes c.self.inside.spare c.self.invariant there c.release.result c.release.new.pass c.release.ensures

pub returns-clause-says : goal.returns-clause-says
returns-clause-says g c =
    let there : is_held c.args.place c.self.inside.pass.view.places.held ≡ true =
    sym (holds_held c.args.place c.self.inside.pass.view.places.held)
    ∙ ap (λ (s : ClerkSight). is_hold c.args.place (sight_of s).held) c.self.view_is ∙ c.requires in
    rw (← c.self.view_is) (now_of (λ (s : Sight). ReleaseSays c.args.place (sight_of (clerk_at c.self.inside.pass c.self.inside.spare)) s c.release.result) c.self.inside.pass (clerk_at c.release.new.pass c.self.inside.spare)
    (still_taken (is_refs_of c.args.place) c.self.inside.pass c.release.new.pass (no_refs c.args.place) (release_own c.args.place c.self.inside.pass c.self.inside.notes c.self.inside.spare c.self.invariant there c.release.result c.release.new.pass c.release.ensures))
    (release_says c.args.place c.self.inside.pass c.self.inside.notes c.self.inside.spare c.self.invariant there c.release.result c.release.new.pass c.release.ensures))

pub returns-clause-own : goal.returns-clause-own
returns-clause-own g c =
    let there : is_held c.args.place c.self.inside.pass.view.places.held ≡ true =
    sym (holds_held c.args.place c.self.inside.pass.view.places.held)
    ∙ ap (λ (s : ClerkSight). is_hold c.args.place (sight_of s).held) c.self.view_is ∙ c.requires in
    rw (← c.self.view_is) (release_own c.args.place c.self.inside.pass c.self.inside.notes c.self.inside.spare c.self.invariant there c.release.result c.release.new.pass c.release.ensures)

pub returns-clause-knows : goal.returns-clause-knows
returns-clause-knows g c = (invariant_of-self g c).knows
