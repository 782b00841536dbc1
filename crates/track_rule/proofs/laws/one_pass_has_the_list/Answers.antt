use Rattle.track_rule.proofs.AllPasses.{list_known, one_has_list}
use Rattle.track_rule.proofs.laws.one_pass_has_the_list.Goals as goal

pub returns-clause-known : goal.returns-clause-known
returns-clause-known c = λ z l s i v h at turn. list_known z l s i v h at turn

pub returns-clause-alone : goal.returns-clause-alone
returns-clause-alone c = λ z l s i j v u h at other-at apart turn. one_has_list z l s i j v u h at other-at apart turn
