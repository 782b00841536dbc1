use Rattle.command_words.proofs.ShortWords.{without}
use Rattle.command_words.proofs.laws.words_without_captures.Goals as goal

pub returns : goal.returns
returns c = without
