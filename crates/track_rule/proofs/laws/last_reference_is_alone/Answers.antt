use Rattle.track_rule.proofs.AllPasses.{last_alone}
use Rattle.track_rule.proofs.laws.last_reference_is_alone.Goals as goal

pub returns : goal.returns
returns c = λ z l s i j place v u h at other-at apart one below mine. last_alone z l s i j place v u h at other-at apart one below mine
