use Rattle.std.proofs.Common.{rules, map}
use Rattle.std.specs.String.{string_bytes}
use Rattle.command_words.specs.Asked.{IsOrNoMemory, asked_as}
use Rattle.command_words.specs.Words.{asked_of}
use Rattle.command_words.proofs.Within.{all_within, answered}
use Rattle.command_words.proofs.read_words.Goals as goal

pub returns-clause-within : goal.returns-clause-within
unfolding asked_of
returns-clause-within c =
    let exact : IsOrNoMemory asked_as (asked_of (map string_bytes c.args.words.now)) c.limit.result = search rules in
    answered (asked_of (map string_bytes c.args.words.now)) c.limit.result (all_within (map string_bytes c.args.words.now)) exact
