use Rattle.std.proofs.Common.{sym}
use Rattle.replay_top.proofs.Collecting.{all_collected}
use Rattle.replay_top.proofs.process.collect_words.Goals as goal

pub returns-in-Ok-clause-words : goal.returns-in-Ok-clause-words
returns-in-Ok-clause-words c =
    rw c.in-Ok.is
    (all_collected c.collect.result c.in-Ok.args (λ v. v.items) _ _ (λ v. tt) (λ v xs same. sym same.0) c.collect.ensures.runs)
