use Rattle.conntrack_cmd.proofs.LineLaws.{either}
use Rattle.conntrack_cmd.proofs.laws.bytes_have_script_or_fault.Goals as goal

pub returns : goal.returns
returns c = either
