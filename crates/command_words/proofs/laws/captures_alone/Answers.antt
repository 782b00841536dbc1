use Rattle.command_words.proofs.ShortWords.{alone}
use Rattle.command_words.proofs.laws.captures_alone.Goals as goal

pub returns : goal.returns
returns c = alone
