use Rattle.shared_desk.proofs.Counting.{no_hold, still_taken}
use Rattle.history_book.specs.Desk.{HoldSays}
use Rattle.shared_desk.specs.Changed.{hold_words}
use Rattle.history_book.specs.Sight.{Sight}
use Rattle.shared_desk.proofs.Resting.{clerk_at, now_of}
use Rattle.std.proofs.Common.{◌≤◌, ◌<◌, ◌+◌, length, sym, subst}
use Rattle.shared_desk.specs.Sights.{ClerkSight, sight_of}
use Rattle.shared_desk.proofs.HoldingRest.{can_hold, rest_holding, says_holding}
use Rattle.shared_desk.proofs.desk.ClerkDesk.hold.Goals as goal

pub hold-requires : goal.hold-requires
hold-requires g c =
    can_hold c.self.inside.pass c.self.inside.notes c.self.inside.spare c.args.place c.self.invariant
    (subst (λ (s : ClerkSight). c.args.place < (sight_of s).sizes.entries) (sym c.self.view_is) c.requires.below)
    (subst (λ (s : ClerkSight). length (sight_of s).held + length (sight_of s).owed ≤ 3) (sym c.self.view_is) c.requires.room)

pub invariant_of-self : goal.invariant_of-self
invariant_of-self g c =
    rest_holding c.self.inside.pass c.self.inside.notes c.self.inside.spare c.args.place c.self.invariant
    (subst (λ (s : ClerkSight). c.args.place < (sight_of s).sizes.entries) (sym c.self.view_is) c.requires.below)
    (subst (λ (s : ClerkSight). length (sight_of s).held + length (sight_of s).owed ≤ 3) (sym c.self.view_is) c.requires.room)
    c.hold.result c.hold.new.pass c.hold.ensures.holds

pub returns-clause-says : goal.returns-clause-says
returns-clause-says g c =
    rw (← c.self.view_is) (now_of (λ (s : Sight). HoldSays c.args.place (sight_of (clerk_at c.self.inside.pass c.self.inside.spare)) s c.hold.result) c.self.inside.pass (clerk_at c.hold.new.pass c.self.inside.spare)
    (still_taken (hold_words c.args.place) c.self.inside.pass c.hold.new.pass (no_hold c.args.place) c.hold.ensures.words.words)
    (says_holding c.self.inside.pass c.self.inside.notes c.self.inside.spare c.args.place c.self.invariant
    (subst (λ (s : ClerkSight). c.args.place < (sight_of s).sizes.entries) (sym c.self.view_is) c.requires.below)
    (subst (λ (s : ClerkSight). length (sight_of s).held + length (sight_of s).owed ≤ 3) (sym c.self.view_is) c.requires.room)
    c.hold.result c.hold.new.pass c.hold.ensures.holds))

pub returns-clause-knows : goal.returns-clause-knows
returns-clause-knows g c = (invariant_of-self g c).knows

pub returns-clause-own : goal.returns-clause-own
returns-clause-own g c = rw (← c.self.view_is) c.hold.ensures.words
