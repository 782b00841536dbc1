use Rattle.std.proofs.Common.{◌≤◌, ◌+◌, length, sym, subst}
use Rattle.shared_desk.specs.Sights.{ClerkSight, sight_of}
use Rattle.shared_desk.proofs.Taking.{rest_taking, shows_none, take_says}
use Rattle.shared_desk.proofs.desk.ClerkDesk.take.Goals as goal

pub invariant_of-self : goal.invariant_of-self
invariant_of-self g c =
    rest_taking c.self.inside.pass c.self.inside.notes c.self.inside.spare c.self.invariant c.take.result c.take.new.pass c.take.ensures.says c.take.ensures.below
    (subst (λ (s : ClerkSight). length (sight_of s).held + length (sight_of s).owed ≤ 3) (sym c.self.view_is) c.requires)

pub returns-clause-says : goal.returns-clause-says
returns-clause-says g c =
    rw (← c.self.view_is) (take_says c.self.inside.pass c.self.inside.notes c.self.inside.spare c.self.invariant c.take.result c.take.new.pass c.take.ensures.says c.take.ensures.below
    (subst (λ (s : ClerkSight). length (sight_of s).held + length (sight_of s).owed ≤ 3) (sym c.self.view_is) c.requires) c.take.ensures.words)

pub returns-clause-shows : goal.returns-clause-shows
returns-clause-shows g c =
    rw (← c.self.view_is) (shows_none c.self.inside.pass c.self.inside.notes c.self.inside.spare c.self.invariant c.take.result c.take.new.pass c.take.ensures.says)

pub returns-clause-knows : goal.returns-clause-knows
returns-clause-knows g c = (invariant_of-self g c).knows

pub returns-clause-own : goal.returns-clause-own
returns-clause-own g c = rw (← c.self.view_is) c.take.ensures.words
