use Rattle.std.proofs.Common.{◌≡◌, ◌+◌, arith}
use Rattle.report_text.proofs.Digits.{OCTETS_at, four_put, octet_end, octet_short}
use Rattle.report_text.proofs.number.put_octet.Goals as goal

pub returns-clause-text : goal.returns-clause-text
returns-clause-text c =
    let end : c.args.at + 2 + c.from.result + c.from-2.result ≡ c.args.at + octet_end c.args.byte = rw (c.from.ensures, c.from-2.ensures) (omega arith) in
    rw (end, four_put c.args.buffer.now c.args.at _ _ _ _ _ c.requires (octet_short c.args.byte), OCTETS_at c.args.byte c.ranges.byte.fits)
