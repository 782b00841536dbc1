use Rattle.shared_desk.proofs.Counting.{no_expect_turn, still_taken}
use Rattle.history_book.specs.DeskExpectations.{ListsExpected}
use Rattle.track_rule.specs.ChangesOnly.{is_expect_turn}
use Rattle.shared_desk.specs.Sights.{sight_of}
use Rattle.history_book.specs.Sight.{Sight}
use Rattle.shared_desk.proofs.Resting.{clerk_at, now_of}
use Rattle.shared_desk.proofs.Claimed.{lists_says, rest_listed}
use Rattle.shared_desk.proofs.desk.ClerkDesk.expects.Goals as goal

pub invariant_of-self : goal.invariant_of-self
invariant_of-self g c =
    rest_listed c.self.inside.pass c.self.inside.notes c.self.inside.spare c.self.invariant c.list_expects.result c.list_expects.new.listed.items
    c.list_expects.new.pass c.list_expects.ensures.lists

pub returns-clause-says : goal.returns-clause-says
returns-clause-says g c =
    rw (← c.self.view_is) (now_of (λ (s : Sight). ListsExpected c.list_expects.new.listed.items (sight_of (clerk_at c.self.inside.pass c.self.inside.spare)) s c.list_expects.result) c.self.inside.pass (clerk_at c.list_expects.new.pass c.self.inside.spare)
    (still_taken is_expect_turn c.self.inside.pass c.list_expects.new.pass no_expect_turn c.list_expects.ensures.words)
    (lists_says c.self.inside.pass c.self.inside.notes c.self.inside.spare c.self.invariant c.list_expects.result c.list_expects.new.listed.items
    c.list_expects.new.pass c.list_expects.ensures.lists))

pub returns-clause-knows : goal.returns-clause-knows
returns-clause-knows g c = (invariant_of-self g c).knows

pub returns-clause-own : goal.returns-clause-own
returns-clause-own g c = rw (← c.self.view_is) c.list_expects.ensures.words
