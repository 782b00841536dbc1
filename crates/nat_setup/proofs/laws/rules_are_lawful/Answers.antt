use Rattle.nat_setup.proofs.Lawful.{lawful_file}
use Rattle.nat_setup.proofs.laws.rules_are_lawful.Goals as goal

pub returns : goal.returns
returns c = lawful_file c.numbers_stay_within.ensures
