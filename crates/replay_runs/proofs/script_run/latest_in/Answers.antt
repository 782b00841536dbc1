use Rattle.std.proofs.Common.{arith, ◌∙◌}
use Rattle.replay_runs.proofs.Latest.{latest_next}
use Rattle.replay_runs.proofs.script_run.latest_in.Goals as goal

pub frames-preserved : goal.frames-preserved
frames-preserved c =
    latest_next c.args.capture.now.zone c.args.capture.now.bytes.items c.args.capture.now.frames.items c.as_slice-frame-items.result.now c.frames.frame-index
    c.frames.moment c.max-moment.result _ c.as_slice-frame-items.ensures (omega (arith, c.frames-test.true)) c.max-moment.ensures
    ∙ c.frames.invariant
