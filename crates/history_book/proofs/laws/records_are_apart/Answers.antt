use Rattle.history_book.specs.History.{after}
use Rattle.history_book.proofs.Pairs.{AllPairs-from_pairs}
use Rattle.history_book.proofs.Sound.{sound_after}
use Rattle.history_book.proofs.laws.records_are_apart.Goals as goal

pub returns : goal.returns
returns c = λ sizes log p legal. AllPairs-from_pairs (after log p).records (sound_after sizes p log legal).apart
