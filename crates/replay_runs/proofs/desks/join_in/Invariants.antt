use Rattle.std.specs.Prelude.{◌≡◌, ◌≤◌, ◌+◌, ◌++◌, length, vec_len}
use Rattle.std.specs.Vec.{vec_capacity}
use Rattle.std.specs.Vec.Iter.{into_iter_items, into_iter_len}
use Rattle.replay_runs.specs.Internal.Jobs.{HasJoined}
use Rattle.replay_runs.specs.Internal.Telling.{ends_in}
use Rattle.replay_runs.proofs.desks.join_in.Given as goal

abbrev pub invariant-jobs : goal.invariant-jobs
invariant-jobs g l = record {
  next : (goal.iterator-jobs g).can_next l.job-iterator;
  finite : (goal.iterator-jobs g).is_finite l.job-iterator;
  left : l.yielded ++ into_iter_items l.job-iterator ≡ into_iter_items l.initial.job-iterator;
  count : into_iter_len l.job-iterator ≡ length (into_iter_items l.job-iterator);
  gathered : l.sendings.items ≡ l.fn.sendings.items ++ ends_in l.yielded;
  joined : HasJoined g.D.Desk.sight l.yielded (g.D.Desk.sight l.fn.desk) (g.D.Desk.sight l.desk) l.lists.items l.threads.items;
  room : vec_len l.lists ≡ length l.yielded;
  capacity : vec_capacity l.lists ≡ length (into_iter_items l.initial.job-iterator) + 1;
  told : length l.threads.items ≡ length l.yielded;
  threads : length (into_iter_items l.initial.job-iterator) ≤ l.threads.room;
}
