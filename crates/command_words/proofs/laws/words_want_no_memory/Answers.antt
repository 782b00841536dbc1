use Rattle.command_words.proofs.Wanting.{wants_no_memory}
use Rattle.command_words.proofs.laws.words_want_no_memory.Goals as goal

pub returns : goal.returns
returns c = wants_no_memory
