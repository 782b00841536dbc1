-- What is always so of runs.
use Rattle.std.specs.Prelude.{◌≡◌, ℕ, List}
use Rattle.packet_headers.specs.declared.frame.Capture.{Capture}
use Rattle.conntrack_cmd.specs.declared.read.Script.{Script}
use Rattle.history_book.specs.declared.report.Closed.{Closed}
use Rattle.history_book.specs.declared.sizes.Sizes.{Sizes}
use Rattle.history_book.specs.Close.{Closes}
use Rattle.history_book.specs.Sight.{Sight}
use Rattle.packet_path.specs.declared.setup.Setup.{Setup}
use Rattle.replay_runs.specs.declared.replay.RunOutcome.{RunOutcome}
use Rattle.replay_runs.specs.Replaying.{work_of}
use Rattle.replay_runs.specs.Run.{HasEnded, IsRun, left_with}

-- a run of the work of these captures and this script, by a desk that was then left, has ended with its tracker
abbrev pub LeftRunsEnd : Type 0
LeftRunsEnd =
    (setup : Setup) (given sizes : Sizes) (items captures : List Capture) (script : Script) (numbers : List ℕ) (desk left : Sight)
    (outcome : RunOutcome) (closed : Closed) → given ≡ sizes → items ≡ captures → left ≡ desk
    → IsRun (record { setup = setup; sizes = given }) (work_of items script) numbers (left_with desk outcome) → Closes left closed
    → HasEnded (record { setup = setup; sizes = sizes }) (work_of captures script) outcome closed
