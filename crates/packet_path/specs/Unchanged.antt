-- A packet that leaves the table as it is: one that begins no flow, one that its entry ignores or can't
-- have, and one that would end an entry too many.
use Rattle.std.specs.Prelude.{◌≡◌, ℕ, ◌≤◌, ◌⊎◌, Some, None, List, []}
use Rattle.proto_rules.specs.declared.Outcome.{Outcome}
use Rattle.proto_rules.specs.declared.Outcome.TheVariants as outcome
use Rattle.proto_rules.specs.Start.{start_of}
use Rattle.proto_rules.specs.Step.{step_of}
use Rattle.history_book.specs.declared.event.Event.{Event}
use Rattle.history_book.specs.declared.event.Note.{Note}
use Rattle.history_book.specs.Point.{At}
use Rattle.history_book.specs.State.{Found, live_under}
use Rattle.packet_path.specs.Packet.{FlowPacket}

-- no further event; nothing is live under the packet's tuple at this point from k on, and no entry begins
-- with its segment
pub record BeginsNothing (log : List Event) (k : ℕ) (packet : FlowPacket) (rest : List Note) (at : ℕ) : Type 0 where
  pub own : rest ≡ []
  pub from : k ≤ at
  pub absent : At log at (λ s. live_under packet.tuple s ≡ None)
  pub starts : start_of packet.segment packet.moment ≡ None

-- no further event; the entry is live under the packet's tuple at this point from k on, and the step gives
-- this outcome for it
pub record LeavesEntry (log : List Event) (k : ℕ) (packet : FlowPacket) (rest : List Note) (id at : ℕ)
    (outcome : Outcome) : Type 0 where
  pub own : rest ≡ []
  pub from : k ≤ at
  pub found : Found
  pub live : At log at (λ s. live_under packet.tuple s ≡ Some found)
  pub named : found.subject.id ≡ id
  pub step : step_of found.subject.part found.direction packet.segment packet.moment ≡ outcome

-- no further event; the entry is expired, or the packet would reopen it
abbrev pub IsToEnd : List Event → ℕ → FlowPacket → List Note → ℕ → ℕ → Type 0
IsToEnd log k packet rest id at =
    LeavesEntry log k packet rest id at outcome.Expired ⊎ LeavesEntry log k packet rest id at outcome.Reopen
