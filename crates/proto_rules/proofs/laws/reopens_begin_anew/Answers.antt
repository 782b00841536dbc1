use Rattle.proto_rules.proofs.Reopens.{begins_anew}
use Rattle.proto_rules.proofs.laws.reopens_begin_anew.Goals as goal

pub returns : goal.returns
returns c = begins_anew
