use Rattle.report_text.proofs.Digits.{PAIRS_at, pair_put}
use Rattle.report_text.proofs.number.put_pair.Goals as goal

pub returns : goal.returns
returns c =
    let p = PAIRS_at c.args.number c.requires.pair in
    rw (p.0, p.1) (pair_put c.args.buffer.now c.args.at _ _ c.requires.room)
