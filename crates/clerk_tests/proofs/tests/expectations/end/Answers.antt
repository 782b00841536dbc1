use Rattle.shared_desk.specs.Sights.{sight_of}
use Rattle.clerk_tests.proofs.Helped.{helper_stays}
use Rattle.clerk_tests.proofs.tests.expectations.end.Goals as goal

pub returns-clause-helper : goal.returns-clause-helper
returns-clause-helper g c =
    helper_stays c.events_stay.ensures c.args.id (sight_of c.args.clerk.now).front (sight_of c.kill.new.self).front c.in-Killed.ensures.says.made.went.front c.requires.helper
