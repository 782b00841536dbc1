use Rattle.std.proofs.Common.{arith}
use Rattle.report_text.specs.Report.{line_of_event}
use Rattle.report_text.proofs.Gathers.{gathered_before, sent_item, sent_line}
use Rattle.report_text.proofs.write.write_events.Goals as goal

pub returns-in_err-make_room : goal.returns-in_err-make_room
returns-in_err-make_room g c =
    gathered_before (line_of_event c.args.script) _ _ _ _ _ _ _ _ _ c.from_residual.ensures.0
    (omega (arith, c.events-test.true, c.len-index-end.ensures.exact)) c.events.invariant c.in_err-make_room.ensures.gathered

pub events-preserved : goal.events-preserved
events-preserved g c =
    sent_item (line_of_event c.args.script) _ _ _ _ _ _ _ _ _ c.at-event.ensures c.events.invariant
    (sent_line _ _ _ _ _ _ _ c.in_ok-make_room.ensures.gathered c.event_line.ensures)
