use Rattle.std.proofs.Common.{rules}
use Rattle.replay_runs.proofs.Ends.{heard_of_told}
use Rattle.replay_runs.proofs.telling.finish.Goals as goal

pub returns-in_ok-heard-in-Some-Some-clause-heard : goal.returns-in_ok-heard-in-Some-Some-clause-heard
returns-in_ok-heard-in-Some-Some-clause-heard g c = λ made told.
    heard_of_told made c.args.line c.in-Some-Some.line c.args.sendings.items c.in_ok-heard-in-Some-Some.heard (search rules) told c.in_ok-heard-in-Some-Some.ensures.whole
