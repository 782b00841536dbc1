use Rattle.proto_rules.proofs.Steps.{begins_fresh}
use Rattle.proto_rules.proofs.laws.entries_begin_fresh.Goals as goal

pub returns : goal.returns
returns c = begins_fresh
