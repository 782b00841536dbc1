use Rattle.proto_rules.proofs.Steps.{goes_on}
use Rattle.proto_rules.proofs.laws.accepted_go_on.Goals as goal

pub returns : goal.returns
returns c = goes_on
