use Rattle.std.proofs.Common.{sym}
use Rattle.ftp_helper.proofs.Naming.{short, spans}
use Rattle.ftp_helper.proofs.payload.end_span.Goals as goal

pub returns-in-Some-clause-short : goal.returns-in-Some-clause-short
returns-in-Some-clause-short c =
    short c.args.direction c.args.payload.now c.in-Some.naming.span (spans c.args.direction c.args.payload.now c.in-Some.naming (sym c.in-Some.ensures))
