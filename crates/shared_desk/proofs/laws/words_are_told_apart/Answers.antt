use Rattle.shared_desk.proofs.Readings.{first, low, places, tuples, turns}
use Rattle.shared_desk.proofs.laws.words_are_told_apart.Goals as goal

pub returns : goal.returns
returns c = record { places = places; low = low; turns = turns; tuples = tuples; first = first }
