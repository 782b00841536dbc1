use Rattle.std.proofs.Common.{◌≡◌, true}
use Rattle.track_rule.specs.Links.{is_link_word}
use Rattle.bucket_table.specs.LockedChain.{IsSeeking, OnlyLoads}
use Rattle.bucket_table.proofs.locked_chain.take_link.Given as goal

abbrev pub invariant-links : goal.invariant-links
invariant-links l = record {
  loads : OnlyLoads l.fn.pass l.pass;
  seeks : IsSeeking l.bucket l.link l.pass l.word l.at l.left;
  word : is_link_word l.sizes l.word ≡ true;
}

abbrev pub decreases-links : goal.decreases-links
decreases-links l = l.left
