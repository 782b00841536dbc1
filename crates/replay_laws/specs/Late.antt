-- Two reports that are right in all but the order that `wait` asks for.
use Rattle.std.specs.Prelude.{Some, List, [], ◌∷◌}
use Rattle.room_list.specs.Roomed.{Roomed}
use Rattle.conntrack_cmd.specs.declared.command.Command.TheVariants.{Flush}
use Rattle.history_book.specs.declared.answer.Said.TheVariants as said
use Rattle.history_book.specs.declared.event.Event.TheVariants.{Confirm, Destroy}
use Rattle.history_book.specs.declared.event.Why.TheVariants.{Flushed}
use Rattle.history_book.specs.declared.record.Record.{Record}
use Rattle.history_book.specs.declared.report.Report.{Report}
use Rattle.history_book.specs.declared.verdict.Class.{Class}
use Rattle.history_book.specs.declared.verdict.Class.TheVariants.{ErrorLost, Made, NoEntry}
use Rattle.history_book.specs.declared.verdict.Translated.TheVariants.{Plain}
use Rattle.packet_path.specs.Packet.{Given}
use Rattle.replay_runs.specs.Report.{IsWellFormed, TrackerSetup, Work}

abbrev pub listed : {X : Type 0} → List X → Roomed X
listed xs = record { items = xs; room = 0 }

-- a script of two lines, `wait` and `-F`, beside captures
abbrev pub flush_behind_wait : List (List Given) → Work
flush_behind_wait captures = record { captures = captures; commands = Flush ∷ []; wait = 0 }

-- An entry is confirmed, and destroyed by the flush. The capture's second packet got this class, with no event of its own.
abbrev pub flushed_before : Record → Class → Report
flushed_before subject class = record {
  history = listed (
      record { number = 0; thread = 0; index = 0; event = Confirm subject }
      ∷ record { number = 1; thread = 1; index = 0; event = Destroy 0 Flushed } ∷ []);
  live = 0;
  threads = listed (listed (
      record { class = Made 0 1 Plain (Some 0); first = 0; made = 1 }
      ∷ record { class = class; first = 1; made = 0 } ∷ []) ∷ []);
  answers = listed (record { said = said.Flushed; from = 1; to = 2; first = 0; made = 1; moment = 0 } ∷ []);
}

-- The error of a port that is unreachable, which is about the entry, is told to be about none, as the flush left it; and the
-- answer to a SYN is told to be of no entry. Neither report is well formed.
abbrev pub LateAnswersAreRefused : Type 0
LateAnswersAreRefused =
    (tracker : TrackerSetup) (captures : List (List Given)) (subject : Record)
    → (IsWellFormed tracker (flush_behind_wait captures) (flushed_before subject (ErrorLost 2)) → ⊥)
    × (IsWellFormed tracker (flush_behind_wait captures) (flushed_before subject (NoEntry 2)) → ⊥)
