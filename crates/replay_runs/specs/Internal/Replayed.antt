-- What a desk and its verdicts are, once the frames of a capture were handled.
use Rattle.std.specs.Prelude.{◌≡◌, ◌*◌, ◌≤◌, List, [], length, map}
use Rattle.history_book.specs.declared.event.Note.{Note}
use Rattle.history_book.specs.declared.verdict.Verdict.{Verdict}
use Rattle.history_book.specs.Sight.{IsKnown, Sight}
use Rattle.history_book.specs.WentOn.{WentOn}
use Rattle.packet_path.specs.Packet.{Given, given_of}
use Rattle.packet_path.specs.declared.setup.Setup.{Setup}
use Rattle.packet_headers.specs.declared.frame.Capture.{Capture}
use Rattle.replay_runs.specs.Report.{at_start, past_verdicts, TrackerSetup, VerdictsFit}

-- what was given of the frames of a capture
abbrev pub given_frames : Capture → List Given
given_frames c = map (given_of c.zone c.bytes.items) c.frames.items

-- the tracker of a desk, set up so
abbrev pub tracker_with : Setup → Sight → TrackerSetup
tracker_with setup s = record { setup = setup; sizes = s.sizes }

-- The desk went on by the events of the verdicts, at most eight for each packet, and the verdicts fit the packets on the
-- new front, as those of a thread of their own; its mark behind them lies in that. No place is held or owed.
pub record Replayed (setup : Setup) (given : List Given) (old new : Sight) (verdicts : List Verdict) : Type 0 where
  pub own : List Note
  pub went : WentOn old new own
  pub few : length own ≤ 8 * length given
  pub fit : VerdictsFit (tracker_with setup old) new.front own at_start given verdicts
  pub mark : (past_verdicts at_start own verdicts).mark ≤ length new.front
  pub held : new.held ≡ []
  pub owed : new.owed ≡ []
  pub known : IsKnown new
