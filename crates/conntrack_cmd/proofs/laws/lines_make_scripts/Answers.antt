use Rattle.conntrack_cmd.proofs.LineLaws.{make_script}
use Rattle.conntrack_cmd.proofs.laws.lines_make_scripts.Goals as goal

pub returns : goal.returns
returns c = make_script
