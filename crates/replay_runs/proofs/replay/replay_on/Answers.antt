use Rattle.replay_runs.proofs.Bounds.{can_replay}
use Rattle.replay_runs.proofs.replay.replay_on.Goals as goal

pub run_all-requires-clause-captures : goal.run_all-requires-clause-captures
run_all-requires-clause-captures g c κs within = can_replay c.args.captures.now c.requires.inside c.requires.timely c.requires.few
