use Rattle.command_words.proofs.ShortWords.{any_name}
use Rattle.command_words.proofs.laws.captures_of_any_name.Goals as goal

pub returns : goal.returns
returns c = any_name
