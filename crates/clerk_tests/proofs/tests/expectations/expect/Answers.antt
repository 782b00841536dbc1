use Rattle.std.proofs.Common.{ℕ}
use Rattle.expect_table.specs.declared.expectation.Want.{Want}
use Rattle.history_book.specs.DeskExpectations.{ExpectSays}
use Rattle.history_book.specs.Point.{StartsWith}
use Rattle.history_book.specs.Sight.{Sight}
use Rattle.history_book.specs.declared.outcome.ExpectOutcome.{ExpectOutcome}
use Rattle.history_book.specs.declared.outcome.ExpectOutcome.TheVariants as expect
use Rattle.shared_desk.specs.Sights.{sight_of}
use Rattle.clerk_tests.proofs.Helped.{helper_stays}
use Rattle.clerk_tests.proofs.tests.expectations.expect.Goals as goal

-- what was seen is seen still
starts : (place : ℕ) (want : Want) (moment : ℕ) (old new : Sight) (o : ExpectOutcome) → ExpectSays place want moment old new o → StartsWith new.front old.front
starts place want moment old new (expect.Expected id replaced) s = s.0.went.front
starts place want moment old new (expect.MasterGone at) s = s.0.saw.went.front
starts place want moment old new (expect.Clash id at) s = s.0.saw.went.front
starts place want moment old new (expect.ExpectFull at) s = s.0.saw.went.front

pub returns-clause-helper : goal.returns-clause-helper
returns-clause-helper g c =
    helper_stays c.events_stay.ensures c.args.id (sight_of c.args.clerk.now).front (sight_of c.expect.new.self).front
    (starts c.args.place c.want.result c.args.moment (sight_of c.args.clerk.now) (sight_of c.expect.new.self) c.expect.result c.expect.ensures.says) c.requires.helper
