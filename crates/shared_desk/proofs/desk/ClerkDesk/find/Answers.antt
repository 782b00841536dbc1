use Rattle.track_rule.specs.ChangeLaws.{frees_joined}
use Rattle.shared_desk.specs.Changed.{find_words}
use Rattle.shared_desk.proofs.desk.ClerkDesk.find.Goals as goal

pub returns-in-None-clause-own : goal.returns-in-None-clause-own
returns-in-None-clause-own g c =
    frees_joined find_words c.args.self.now.pass.view c.look.new.self.pass.view c.look_on.new.self.pass.view c.look.ensures.own c.look_on.ensures.own
