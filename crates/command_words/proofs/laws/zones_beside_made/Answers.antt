use Rattle.command_words.proofs.ShortWords.{beside_made}
use Rattle.command_words.proofs.laws.zones_beside_made.Goals as goal

pub returns : goal.returns
returns c = beside_made
