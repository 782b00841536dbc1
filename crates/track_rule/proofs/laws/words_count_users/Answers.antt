use Rattle.track_rule.proofs.AllPasses.{words_count}
use Rattle.track_rule.proofs.laws.words_count_users.Goals as goal

pub returns : goal.returns
returns c = λ b place h below. words_count b place h below
