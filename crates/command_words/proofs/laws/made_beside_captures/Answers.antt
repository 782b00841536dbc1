use Rattle.command_words.proofs.ShortWords.{beside}
use Rattle.command_words.proofs.laws.made_beside_captures.Goals as goal

pub returns : goal.returns
returns c = beside
