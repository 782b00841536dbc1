use Rattle.std.proofs.Common.{rules}
use Rattle.replay_runs.proofs.beside.run_threads.Goals as goal

pub join_mut-listened-requires-after_bounds : goal.join_mut-listened-requires-after_bounds
join_mut-listened-requires-after_bounds g c κs within = (
  c.requires.hears,
  (
    (search rules, search rules, search rules, c.requires.can),
    (search rules, search rules, search rules),
  ),
)
