use Rattle.std.proofs.Common.{arith}
use Rattle.shared_desk.proofs.Stepping.{protocol_is, stepped}
use Rattle.shared_desk.proofs.entry.touch_record.Goals as goal

pub step_record-requires-clause-protocol : goal.step_record-requires-clause-protocol
step_record-requires-clause-protocol c =
    protocol_is c.args.place c.phase_load-phase.result c.history_load.result c.args.packet.now c.args.pass.now c.phase_load-phase.new.self c.history_load.new.self
    c.requires.has c.requires.suits c.phase_load-phase.ensures.loads c.phase_load-phase.ensures.kept c.history_load.ensures.looks c.history_load.ensures.kept
    (omega (arith, c.if-phase-lt-LIVE.false)) c.in-Some.before c.in-Some.ensures.record c.entries_keep_their_protocol.ensures

pub returns-in-Some-clause-touches : goal.returns-in-Some-clause-touches
returns-in-Some-clause-touches c =
    stepped c.args.place c.phase_load-phase.result c.history_load.result c.args.packet.now c.args.pass.now c.phase_load-phase.new.self c.history_load.new.self
    c.requires.has c.requires.suits c.phase_load-phase.ensures.loads c.phase_load-phase.ensures.kept c.history_load.ensures.looks c.history_load.ensures.kept
    (omega (arith, c.if-phase-lt-LIVE.false)) c.in-Some.before c.in-Some.ensures.record c.events_in-at.result c.events_in-at.ensures
    c.record_out.new.pass c.step_record.new.pass c.in-Some.ensures.same c.step_record.result.0 c.step_record.ensures.steps
