use Rattle.std.proofs.Common.{map, refl, rules, arith}
use Rattle.ftp_rewrite.specs.Rewrites.{run_of}
use Rattle.ftp_rewrite.specs.Sent.{recorded}
use Rattle.ftp_rewrite.proofs.Sessions.{all_lines, none_yet, one_more}
use Rattle.ftp_rewrite.proofs.follow.rewrites.Goals as goal

pub items-init : goal.items-init
items-init c =
    none_yet (run_of c.args.report.now (map recorded c.args.captures.now.items)) c.args.report.now.history.items c.new-sessions.result c.empty-lines.result.items (search rules)
    (λ q. rw c.new-sessions.ensures.empty)

pub items-preserved : goal.items-preserved
items-preserved c =
    one_more (run_of c.args.report.now (map recorded c.args.captures.now.items)) c.args.report.now.history.items c.items.index c.at-item.result c.items.sessions c.follow.new.sessions
    c.items.lines.items c.put.new.lines.items c.in_ok-line.line
    c.at-item.ensures c.items.invariant c.in_ok-line.ensures.sessions c.in_ok-line.ensures.line c.in_ok-put.ensures

pub returns : goal.returns
returns c =
    all_lines (run_of c.args.report.now (map recorded c.args.captures.now.items)) c.args.report.now.history.items c.items.index c.items.sessions c.items.lines.items
    (omega (arith, c.items-test.false, c.len-index-end.ensures.exact)) c.items.invariant refl
