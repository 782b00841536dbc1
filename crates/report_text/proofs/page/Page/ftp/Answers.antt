-- The three pieces of a clash stand one after the other.
use Rattle.std.proofs.Common.{append_assoc, arith}
use Rattle.report_text.proofs.page.Page.ftp.Goals as goal

pub returns-in-Clash : goal.returns-in-Clash
returns-in-Clash c = record {
  joined = rw (
    c.point.ensures.joined,
    c.number-in-Clash.ensures.joined,
    c.text-in-Clash.ensures.joined,
    c.in-Clash.is,
  )
      (simp append_assoc);
  short = omega arith;
}
