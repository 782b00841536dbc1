use Rattle.std.proofs.Common.{◌≡◌, ℕ, ◌++◌, codes, arith, append_assoc}
use Rattle.std.specs.Fmt.{decimal}
use Rattle.history_book.specs.declared.verdict.Verdict.{Verdict}
use Rattle.report_text.specs.Line.{verdict_line}
use Rattle.report_text.specs.Piece.{class_text}
use Rattle.report_text.proofs.Gathers.{adds_then, gathered_before, sent_item, sent_line}
use Rattle.report_text.proofs.write.write_verdicts.Goals as goal

-- a line is its head and then what became of the packet
pieces : (index : ℕ) (v : Verdict) → verdict_line index v
    ≡ (decimal index ++ codes " ") ++ (class_text v.class ++ codes "\n")
unfolding verdict_line
pieces index v = append_assoc (decimal index ++ codes " ") (class_text v.class) (codes "\n")

pub returns-in_err-make_room : goal.returns-in_err-make_room
returns-in_err-make_room g c =
    gathered_before verdict_line _ _ _ _ _ _ _ _ _ c.from_residual.ensures.0
    (omega (arith, c.verdicts-test.true, c.len-index-end.ensures.exact)) c.verdicts.invariant c.in_err-make_room.ensures.gathered

pub verdicts-preserved : goal.verdicts-preserved
verdicts-preserved g c =
    sent_item verdict_line _ _ _ _ _ _ _ _ _ c.at-verdict.ensures c.verdicts.invariant
    (rw (pieces c.verdicts.index c.at-verdict.result)
    (sent_line _ _ _ _ _ _ _ c.in_ok-make_room.ensures.gathered
    (adds_then _ _ _ _ _ _ _ c.verdict_head.ensures c.class_line.ensures)))
