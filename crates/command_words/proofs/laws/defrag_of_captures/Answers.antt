use Rattle.command_words.proofs.ShortWords.{defrag}
use Rattle.command_words.proofs.laws.defrag_of_captures.Goals as goal

pub returns : goal.returns
returns c = defrag
