use Rattle.conntrack_cmd.specs.Script.{script_of}
use Rattle.conntrack_cmd.proofs.LineLaws.{same_script}
use Rattle.conntrack_cmd.proofs.laws.scripts_are_unique.Goals as goal

pub returns : goal.returns
returns c = λ bytes. same_script (script_of bytes)
