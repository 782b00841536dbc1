use Rattle.std.proofs.Common.{get_or}
use Rattle.bucket_table.specs.LockedChain.{IsLooking, OnlyLoads}
use Rattle.bucket_table.proofs.locked_chain.walk_reply.Given as goal

abbrev pub invariant-seek : goal.invariant-seek
invariant-seek l = record {
  loads : OnlyLoads l.fn.pass l.pass;
  looks : IsLooking l.bucket 1 (get_or l.goal 0 0) (get_or l.goal 1 0) l.pass l.link l.left;
}

abbrev pub decreases-seek : goal.decreases-seek
decreases-seek l = l.left
