use Rattle.bucket_table.specs.Finding.{once_words}
use Rattle.shared_desk.proofs.Counting.{no_once, still_taken}
use Rattle.std.proofs.Common.{◌+◌, ◌≤◌, length, subst, sym}
use Rattle.shared_desk.specs.Sights.{ClerkSight, sight_of}
use Rattle.shared_desk.proofs.FoundOnce.{can_test, rest_once, says_once}
use Rattle.shared_desk.proofs.clerk.Clerk.find_once.Goals as goal

pub find_once-requires-clause-can : goal.find_once-requires-clause-can
find_once-requires-clause-can g c =
    can_test c.self.inside.pass c.self.inside.notes c.self.inside.spare c.self.invariant
    (subst (λ (s : ClerkSight). length (sight_of s).held + length (sight_of s).owed ≤ 3) (sym c.self.view_is) c.requires)

pub invariant_of-self : goal.invariant_of-self
invariant_of-self g c =
    rest_once c.self.inside.pass c.self.inside.notes c.self.inside.spare c.self.invariant
    (subst (λ (s : ClerkSight). length (sight_of s).held + length (sight_of s).owed ≤ 3) (sym c.self.view_is) c.requires)
    c.find_once.result c.args.t.now c.find_once.new.pass c.find_once.ensures.says

pub returns-clause-says : goal.returns-clause-says
returns-clause-says g c =
    rw (← c.self.view_is) (says_once c.self.inside.pass c.self.inside.notes c.self.inside.spare c.self.invariant
    (subst (λ (s : ClerkSight). length (sight_of s).held + length (sight_of s).owed ≤ 3) (sym c.self.view_is) c.requires)
    c.find_once.result c.args.t.now c.find_once.new.pass c.find_once.ensures.says
    (still_taken (once_words c.find_once.result) c.self.inside.pass c.find_once.new.pass (no_once c.find_once.result) c.find_once.ensures.words))

pub returns-clause-knows : goal.returns-clause-knows
returns-clause-knows g c = (invariant_of-self g c).knows

pub returns-clause-own : goal.returns-clause-own
returns-clause-own g c = rw (← c.self.view_is) c.find_once.ensures.words
