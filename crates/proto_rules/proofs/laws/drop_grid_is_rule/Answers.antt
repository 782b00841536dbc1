use Rattle.proto_rules.proofs.DropGrid.{grid_is_rule}
use Rattle.proto_rules.proofs.laws.drop_grid_is_rule.Goals as goal

pub returns : goal.returns
returns c = λ part. grid_is_rule part.kind part.assured
