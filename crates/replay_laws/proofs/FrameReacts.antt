-- What is to be known of one packet.
use Rattle.std.proofs.Common.{◌≡◌, ℕ, ◌+◌, ◌≤◌, true, List, ◌++◌, length}
use Rattle.std.specs.List.{AllByRecursion}
use Rattle.history_book.specs.declared.event.Event.{Event}
use Rattle.history_book.specs.declared.verdict.Class.{Class}
use Rattle.history_book.specs.History.{after, is_legal}
use Rattle.history_book.specs.Mark.{points_of}
use Rattle.packet_path.specs.Packet.{Given}
use Rattle.packet_path.specs.Verdict.{FitsFrame}
use Rattle.replay_runs.specs.Report.{TrackerSetup}
use Rattle.replay_laws.specs.Reaction.{ReactsTo, configuration_of}
use Rattle.replay_laws.proofs.Noted.{noted}

-- a verdict that fits a packet with the next events, and names no point behind them, is the tracker's reaction to it
abbrev pub FrameReacts : Type 0
FrameReacts =
    (tracker : TrackerSetup) (front own later : List Event) (given : Given) (class : Class)
    → is_legal tracker.sizes (front ++ (own ++ later)) ≡ true
    → FitsFrame tracker.setup tracker.sizes (front ++ (own ++ later)) (length front) given (noted (length front) own) class
    → AllByRecursion (λ (p : ℕ). p ≤ length front + length own) (points_of class)
    → ReactsTo (configuration_of tracker) (after (front ++ (own ++ later)) (length front)) (length front) given (record { events = own; class = class })
