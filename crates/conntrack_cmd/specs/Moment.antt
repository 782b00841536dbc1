-- The moment that a command names.
use Rattle.std.specs.Prelude.{ℕ}
use Rattle.conntrack_cmd.specs.declared.command.Command.{Command}
use Rattle.conntrack_cmd.specs.declared.command.Command.TheVariants as command

-- the moment that a command names, in microseconds; 0 where it names none
abbrev pub moment_of : Command → ℕ
moment_of (command.List filter) = 0
moment_of command.ListExpect = 0
moment_of (command.Get t) = 0
moment_of (command.Delete filter) = 0
moment_of command.Flush = 0
moment_of command.Count = 0
moment_of (command.Expire moment) = moment
