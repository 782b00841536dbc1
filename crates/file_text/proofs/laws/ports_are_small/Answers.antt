use Rattle.file_text.proofs.Bounds.{small_port}
use Rattle.file_text.proofs.laws.ports_are_small.Goals as goal

pub returns : goal.returns
returns c = small_port
