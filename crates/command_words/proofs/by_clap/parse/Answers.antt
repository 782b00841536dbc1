use Rattle.std.proofs.Common.{rules, map}
use Rattle.std.specs.String.{string_bytes}
use Rattle.clap.specs.Words.{app_of}
use Rattle.command_words.proofs.ByClap.{refused, taken}
use Rattle.command_words.proofs.by_clap.parse.Goals as goal
use Rattle.command_words.proofs.by_clap.parse.Goals.{in-OutOfMemory, in_default}

pub returns-in-Ok : goal.returns-in-Ok
returns-in-Ok c = taken (app_of c.in_ok-command.command) (map string_bytes c.args.words.now) c.in-Ok.matches c.in_ok-command.ensures c.in-Ok.ensures.matches c.in-Ok.ensures.kinds

pub returns : goal.returns
returns c = elim c.match-matches.branch [
  | in-OutOfMemory w ↦ search rules
  | in_default w ↦ refused (app_of c.in_ok-command.command) (map string_bytes c.args.words.now) c.in-Err.error c.in_ok-command.ensures c.in-Err.ensures.kinds (search rules)
]
