use Rattle.std.specs.Prelude.{map}
use Rattle.ftp_rewrite.specs.Rewrites.{run_of}
use Rattle.ftp_rewrite.specs.Sent.{recorded}
use Rattle.ftp_rewrite.proofs.Sessions.{SoFar}
use Rattle.ftp_rewrite.proofs.follow.rewrites.Given as goal

abbrev pub invariant-items : goal.invariant-items
invariant-items l = SoFar (run_of l.report (map recorded l.captures.items)) l.report.history.items l.index l.sessions l.lines.items
