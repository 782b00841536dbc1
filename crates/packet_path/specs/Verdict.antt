-- When a verdict fits a frame and the events that the frame made.
use Rattle.std.specs.Prelude.{◌≡◌, ℕ, ◌+◌, ◌≤◌, ◌⊎◌, true, false, Some, None, List, [], ◌∷◌, ◌++◌, length}
use Rattle.history_book.specs.declared.event.Event.{Event}
use Rattle.history_book.specs.declared.event.Event.TheVariants.{Destroy}
use Rattle.history_book.specs.declared.event.Note.{Note}
use Rattle.history_book.specs.declared.event.Why.TheVariants as why
use Rattle.packet_headers.specs.declared.packet.Packet.TheVariants as packet
use Rattle.proto_rules.specs.declared.Outcome.TheVariants as outcome
use Rattle.packet_path.specs.Packet.{FlowPacket}
use Rattle.packet_path.specs.Packet.{Given, IsFlow, cause_of}
use Rattle.packet_path.specs.Unchanged.{BeginsNothing, IsToEnd, LeavesEntry}
use Rattle.packet_path.specs.Winner.{MeetsWinner}
use Rattle.history_book.specs.declared.verdict.Class.{Class}
use Rattle.history_book.specs.declared.verdict.Class.TheVariants as class
use Rattle.packet_path.specs.Error.{AnswersError, IsMisdirected, IsRelated, LooksUp}
use Rattle.packet_path.specs.Full.{FindsNoRoom}
use Rattle.packet_path.specs.NoPort.{FindsNoNumber}
use Rattle.packet_path.specs.declared.setup.Setup.{Setup}
use Rattle.packet_path.specs.Made.{Makes}
use Rattle.history_book.specs.Mark.{mark_past}
use Rattle.history_book.specs.Notes.{Happened}
use Rattle.packet_path.specs.Passed.{Passes}
use Rattle.history_book.specs.Point.{At}
use Rattle.history_book.specs.State.{Found, live_under}
use Rattle.history_book.specs.declared.sizes.Sizes.{Sizes}

-- the event destroys the entry that was found: it was expired at the packet's moment, or the packet
-- reopened it
abbrev pub IsKillOf : FlowPacket → Found → Event → Type 0
IsKillOf packet found event =
    (event ≡ Destroy found.subject.id (why.Expired packet.moment))
    ⊎ event ≡ Destroy found.subject.id (why.Reopened found.direction packet.segment packet.moment)

-- the packet killed the entry that was live under its tuple
pub record Kills (log : List Event) (mark : ℕ) (packet : FlowPacket) (note : Note) : Type 0 where
  pub happened : Happened log mark note
  pub found : Found
  pub live : At log note.number (λ s. live_under packet.tuple s ≡ Some found)
  pub kill : IsKillOf packet found note.event

-- the packet killed one entry after another
abbrev pub KillsAll : List Event → ℕ → FlowPacket → List Note → Type 0
KillsAll log mark packet [] = Unit {0}
KillsAll log mark packet (n ∷ ns) = Kills log mark packet n × KillsAll log (n.number + 1) packet ns

-- it was a packet of a flow; its own events are at most four kills, and then the rest; and this is so of
-- the packet, the mark past the kills, and the rest
pub record AnswersFlow (log : List Event) (mark : ℕ) (given : Given) (own : List Note)
    (Fits : FlowPacket → ℕ → List Note → Type 0) : Type 0 where
  pub packet : FlowPacket
  pub flow : IsFlow given packet
  pub kills : List Note
  pub rest : List Note
  pub all : own ≡ kills ++ rest
  pub few : length kills ≤ 4
  pub killed : KillsAll log mark packet kills
  pub fits : Fits packet (mark_past mark kills) rest

-- four kills stand, and no other event; and then an entry that the packet would end as well
pub record Contends (log : List Event) (mark : ℕ) (given : Given) (own : List Note) (id at : ℕ) : Type 0 where
  pub four : length own ≡ 4
  pub stands : AnswersFlow log mark given own (λ p k rest. IsToEnd log k p rest id at)

-- The class fits what the tracker was given of a frame and the events that the frame made. The headers
-- alone decide where it is not tracked or a header is wrong.
abbrev pub FitsFrame : Setup → Sizes → List Event → ℕ → Given → List Note → Class → Type 0
FitsFrame setup sizes log mark given own (class.Untracked why) =
    (given.packet ≡ packet.Untracked (cause_of why)) × (own ≡ [])
FitsFrame setup sizes log mark given own class.BadHeader = (given.packet ≡ packet.Invalid) × (own ≡ [])
FitsFrame setup sizes log mark given own (class.NoEntry at) =
    AnswersFlow log mark given own (λ p k rest. BeginsNothing log k p rest at)
FitsFrame setup sizes log mark given own (class.BadState id at) =
    AnswersFlow log mark given own (λ p k rest. LeavesEntry log k p rest id at outcome.Invalid)
FitsFrame setup sizes log mark given own (class.ErrorLost at) =
    AnswersError given own (λ inner outer. LooksUp log mark inner at None)
FitsFrame setup sizes log mark given own (class.ErrorAddress id at) =
    AnswersError given own (λ inner outer. IsMisdirected log mark inner outer id at)
FitsFrame setup sizes log mark given own (class.Error direction id at) =
    AnswersError given own (λ inner outer. IsRelated log mark inner outer direction id at)
FitsFrame setup sizes log mark given own (class.Made id at translated unclaimed) =
    AnswersFlow log mark given own (λ p k rest. Makes setup sizes log k p rest (record { id = id; at = at; translated = translated; unclaimed = unclaimed }))
FitsFrame setup sizes log mark given own (class.Passed label id at ftp) =
    AnswersFlow log mark given own (λ p k rest. Passes sizes log k p rest (record { label = label; id = id; at = at; ftp = ftp }))
FitsFrame setup sizes log mark given own (class.Ignored id at) =
    AnswersFlow log mark given own (λ p k rest. LeavesEntry log k p rest id at outcome.Ignore)
FitsFrame setup sizes log mark given own (class.Merged id at translated) =
    AnswersFlow log mark given own (λ p k rest. MeetsWinner setup sizes log k p rest (record { id = id; at = at; translated = translated; merged = true }))
FitsFrame setup sizes log mark given own (class.Clash id at translated) =
    AnswersFlow log mark given own (λ p k rest. MeetsWinner setup sizes log k p rest (record { id = id; at = at; translated = translated; merged = false }))
FitsFrame setup sizes log mark given own (class.NoPort from to) =
    AnswersFlow log mark given own (λ p k rest. FindsNoNumber setup log k p rest from to)
FitsFrame setup sizes log mark given own (class.Full from at) =
    AnswersFlow log mark given own (λ p k rest. FindsNoRoom setup sizes log k p rest from at)
FitsFrame setup sizes log mark given own (class.Contended id at) =
    Contends log mark given own id at
