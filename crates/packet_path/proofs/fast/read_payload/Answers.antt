use Rattle.std.proofs.Common.{ap, arith, length, length-append, subst}
use Rattle.history_book.specs.declared.verdict.Class.{Class}
use Rattle.packet_path.specs.Internal.Fast.{Appended}
use Rattle.packet_path.proofs.fast.read_payload.Goals as goal

pub append-requires-clause-first : goal.append-requires-clause-first
append-requires-clause-first g c =
    let f = c.follow_payload-ftp.ensures.follows c.args.number c.requires.happened in
    omega (arith, ap length f.went.own, length-append (g.D.Desk.sight c.args.desk.now).own f.further, c.requires.first)

pub append-requires-clause-few : goal.append-requires-clause-few
append-requires-clause-few g c =
    let f = c.follow_payload-ftp.ensures.follows c.args.number c.requires.happened in
    omega (arith, ap length f.went.own, length-append (g.D.Desk.sight c.args.desk.now).own f.further, f.few, c.requires.few)

pub returns-clause-reads : goal.returns-clause-reads
returns-clause-reads g c =
    let s = g.D.Desk.sight c.args.desk.now in
    let new = g.D.Desk.sight c.follow_payload-ftp.new.desk in
    record {
      ftp = c.follow_payload-ftp.result;
      follows = c.follow_payload-ftp.ensures.follows c.args.number c.requires.happened;
      appended = subst (λ (k : Class). Appended k c.args.first c.args.base new.own c.args.verdicts.now c.append.new.verdicts) c.passed-class.ensures c.append.ensures;
    }
