use Rattle.std.specs.Prelude.{◌≡◌, length, vec_len}
use Rattle.std.specs.Vec.{vec_capacity}
use Rattle.replay_runs.specs.Internal.Telling.{HandsOut}
use Rattle.replay_runs.proofs.Splitting.{IsSplitting}
use Rattle.replay_runs.proofs.desks.split_off.Given as goal

abbrev pub invariant-captures : goal.invariant-captures
invariant-captures g l = record {
  handed : HandsOut l.fn.sendings.items l.jobs.items l.sendings.items;
  split : IsSplitting g.D.Desk.sight l.captures l.worker (g.D.Desk.sight l.fn.desk) (g.D.Desk.sight l.desk) l.jobs.items;
  room : vec_len l.jobs ≡ l.worker;
  capacity : vec_capacity l.jobs ≡ length l.captures;
}
