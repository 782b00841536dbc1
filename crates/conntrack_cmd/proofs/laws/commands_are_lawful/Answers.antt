use Rattle.conntrack_cmd.proofs.Lawful.{lawful_script}
use Rattle.conntrack_cmd.proofs.laws.commands_are_lawful.Goals as goal

pub returns : goal.returns
returns c = lawful_script c.numbers_stay_within.ensures c.ports_are_small.ensures c.addresses_are_small.ensures
