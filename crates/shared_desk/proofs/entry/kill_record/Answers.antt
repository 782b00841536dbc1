use Rattle.std.proofs.Common.{arith}
use Rattle.shared_desk.proofs.Judged.{can_take, judged, knows_record}
use Rattle.shared_desk.proofs.entry.kill_record.Goals as goal

pub judge-requires-clause-knows : goal.judge-requires-clause-knows
judge-requires-clause-knows g c =
    knows_record c.args.place c.phase_load-phase.result c.history_load.result c.args.why c.args.pass.now c.phase_load-phase.new.self c.history_load.new.self
    c.requires.has c.requires.suits c.phase_load-phase.ensures.loads c.phase_load-phase.ensures.kept c.history_load.ensures.looks c.history_load.ensures.kept
    (omega (arith, c.if-phase-lt-LIVE.false)) c.in-Some.subject c.in-Some.ensures.record c.record_out.new.pass c.in-Some.ensures.same

pub judge-requires-clause-free : goal.judge-requires-clause-free
judge-requires-clause-free g c =
    can_take c.args.place c.phase_load-phase.result c.history_load.result c.args.why c.args.pass.now c.phase_load-phase.new.self c.history_load.new.self
    c.requires.has c.requires.suits c.phase_load-phase.ensures.loads c.phase_load-phase.ensures.kept c.history_load.ensures.looks c.history_load.ensures.kept
    (omega (arith, c.if-phase-lt-LIVE.false)) c.in-Some.subject c.in-Some.ensures.record c.record_out.new.pass c.in-Some.ensures.same

pub returns-in-Some-clause-kills : goal.returns-in-Some-clause-kills
returns-in-Some-clause-kills g c =
    judged c.args.place c.phase_load-phase.result c.history_load.result c.args.why c.args.pass.now c.phase_load-phase.new.self c.history_load.new.self
    c.requires.has c.requires.suits c.phase_load-phase.ensures.loads c.phase_load-phase.ensures.kept c.history_load.ensures.looks c.history_load.ensures.kept
    (omega (arith, c.if-phase-lt-LIVE.false)) c.in-Some.subject c.in-Some.ensures.record c.record_out.new.pass c.in-Some.ensures.same
    c.events_in-at.result c.events_in-at.ensures c.judge.new.pass c.judge.result.0 c.judge.ensures.judges
