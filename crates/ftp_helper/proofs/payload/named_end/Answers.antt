use Rattle.std.proofs.Common.{sym}
use Rattle.ftp_helper.proofs.Naming.{names}
use Rattle.ftp_helper.proofs.payload.named_end.Goals as goal

pub returns-in-Some-clause-named : goal.returns-in-Some-clause-named
returns-in-Some-clause-named c = names c.args.direction c.args.payload.now c.in-Some.naming (sym c.in-Some.ensures)
