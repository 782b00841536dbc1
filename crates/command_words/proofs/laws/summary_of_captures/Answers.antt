use Rattle.command_words.proofs.ShortWords.{summary}
use Rattle.command_words.proofs.laws.summary_of_captures.Goals as goal

pub returns : goal.returns
returns c = summary
