use Rattle.std.proofs.Common.{map, refl}
use Rattle.ftp_rewrite.specs.Rewrites.{run_of}
use Rattle.ftp_rewrite.specs.Sent.{recorded}
use Rattle.ftp_rewrite.proofs.Sessions.{follow_confirm}
use Rattle.ftp_rewrite.proofs.follow.follow.Goals as goal

pub returns-in_ok-begin-in-Confirm-clause-sessions : goal.returns-in_ok-begin-in-Confirm-clause-sessions
returns-in_ok-begin-in-Confirm-clause-sessions c =
    follow_confirm (run_of c.args.report.now (map recorded c.args.captures.now.items)) c.args.sessions.now c.begin.new.sessions c.args.item.now c.in-Confirm.subject c.in-Confirm.is
    (λ q. c.in_ok-begin-in-Confirm.ensures (run_of c.args.report.now (map recorded c.args.captures.now.items)) q refl)
