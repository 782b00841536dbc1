use Rattle.std.specs.Prelude.{◌≡◌, drop, map}
use Rattle.packet_path.specs.Packet.{given_of}
use Rattle.replay_runs.specs.Internal.Replayed.{given_frames}
use Rattle.replay_runs.specs.Report.{latest}
use Rattle.replay_runs.proofs.script_run.latest_in.Given as goal

abbrev pub invariant-frames : goal.invariant-frames
invariant-frames l =
    latest l.moment (map (given_of l.capture.zone l.capture.bytes.items) (drop l.frame-index l.capture.frames.items))
    ≡ latest l.fn.moment (given_frames l.capture)
