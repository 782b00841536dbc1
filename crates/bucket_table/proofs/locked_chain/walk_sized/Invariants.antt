use Rattle.std.proofs.Common.{get_or}
use Rattle.bucket_table.specs.LockedChain.{IsWalking, OnlyLoads}
use Rattle.bucket_table.proofs.locked_chain.walk_sized.Given as goal

abbrev pub invariant-links : goal.invariant-links
invariant-links l = record {
  loads : OnlyLoads l.fn.pass l.pass;
  walks : IsWalking l.bucket (get_or l.goal 0 0) (get_or l.goal 1 0) l.pass l.link l.left l.reply;
}

abbrev pub decreases-links : goal.decreases-links
decreases-links l = l.left
