use Rattle.conntrack_cmd.proofs.LineLaws.{scripts_say}
use Rattle.conntrack_cmd.proofs.laws.scripts_say_their_commands.Goals as goal

pub returns : goal.returns
returns c = scripts_say
