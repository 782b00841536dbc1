use Rattle.command_words.proofs.ShortWords.{rewrite}
use Rattle.command_words.proofs.laws.rewrite_of_captures.Goals as goal

pub returns : goal.returns
returns c = rewrite
