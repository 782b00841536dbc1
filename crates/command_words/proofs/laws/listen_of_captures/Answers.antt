use Rattle.command_words.proofs.ShortWords.{listen}
use Rattle.command_words.proofs.laws.listen_of_captures.Goals as goal

pub returns : goal.returns
returns c = listen
