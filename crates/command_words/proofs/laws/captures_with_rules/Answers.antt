use Rattle.command_words.proofs.ShortWords.{with_rules}
use Rattle.command_words.proofs.laws.captures_with_rules.Goals as goal

pub returns : goal.returns
returns c = with_rules
