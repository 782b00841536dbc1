use Rattle.command_words.proofs.ShortWords.{zones}
use Rattle.command_words.proofs.laws.zones_of_captures.Goals as goal

pub returns : goal.returns
returns c = zones
