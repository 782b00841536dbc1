use Rattle.track_rule.specs.Sights.{sizes_of}
use Rattle.bucket_table.specs.Following.{IsSoFar, WalksOn}
use Rattle.bucket_table.proofs.lookup.search.Given as goal

abbrev pub invariant-links : goal.invariant-links
invariant-links l = record {
  walks : WalksOn l.initial.pass l.pass;
  far : IsSoFar l.goal (sizes_of l.initial.pass) l.link l.left l.pass.view;
}

abbrev pub decreases-links : goal.decreases-links
decreases-links l = l.left
