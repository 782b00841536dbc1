use Rattle.std.specs.Prelude.{◌≡◌, drop, map}
use Rattle.replay_runs.specs.Internal.Replayed.{given_frames}
use Rattle.replay_runs.specs.Report.{latest_of}
use Rattle.replay_runs.proofs.script_run.latest_moment.Given as goal

abbrev pub invariant-captures : goal.invariant-captures
invariant-captures l =
    latest_of l.moment (map given_frames (drop l.capture-index l.captures)) ≡ latest_of 0 (map given_frames l.captures)
