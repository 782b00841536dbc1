-- What private functions keep for the clauses of the public ones. A reader of those need not open it.
pub mod Late
pub mod Loops
pub mod Spoken
use Rattle.std.specs.Prelude.{ℕ, Option, Some}
use Rattle.conntrack_cmd.specs.declared.command.LineMeaning.{LineMeaning}
use Rattle.conntrack_cmd.specs.declared.command.LineMeaning.TheVariants as meaning

-- the number of commands before `wait`, if one was said before this or is said by it, behind so many commands
abbrev pub wait_after : Option ℕ → LineMeaning → ℕ → Option ℕ
wait_after wait meaning.Nothing count = wait
wait_after wait (meaning.Command c) count = wait
wait_after wait meaning.Wait count = Some count
