use Rattle.file_text.proofs.Bounds.{below_high}
use Rattle.file_text.proofs.laws.numbers_stay_within.Goals as goal

pub returns : goal.returns
returns c = below_high
