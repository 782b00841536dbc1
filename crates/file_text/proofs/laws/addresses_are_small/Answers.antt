use Rattle.file_text.proofs.Bounds.{small_address}
use Rattle.file_text.proofs.laws.addresses_are_small.Goals as goal

pub returns : goal.returns
returns c = small_address
