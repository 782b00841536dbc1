use Rattle.std.proofs.Common.{length}
use Rattle.conntrack_cmd.proofs.ScriptLines.{HasRead}
use Rattle.conntrack_cmd.proofs.read.read_script.Given as goal

abbrev pub invariant-lines : goal.invariant-lines
invariant-lines l = HasRead l.bytes l.rest l.commands.items l.wait l.number

abbrev pub decreases-lines : goal.decreases-lines
decreases-lines l = length l.rest
