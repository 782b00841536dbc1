use Rattle.command_words.proofs.ShortWords.{other_zones}
use Rattle.command_words.proofs.laws.zones_of_other_captures.Goals as goal

pub returns : goal.returns
returns c = other_zones
