-- A packet that made a new entry.
use Rattle.std.specs.Prelude.{◌≡◌, ℕ, ◌+◌, Bool, ◌==◌, ◌&&◌, Option, Some, List, [], ◌∷◌}
use Rattle.std.specs.List.{list_any}
use Rattle.tuple_core.specs.declared.Proto.TheVariants as proto
use Rattle.tuple_core.specs.declared.Tuple.{Tuple}
use Rattle.history_book.specs.declared.event.Event.{Event}
use Rattle.history_book.specs.declared.event.Event.TheVariants.{Confirm}
use Rattle.history_book.specs.declared.event.Note.{Note}
use Rattle.history_book.specs.declared.record.Record.{Record}
use Rattle.history_book.specs.declared.sizes.Sizes.{Sizes}
use Rattle.history_book.specs.declared.verdict.Translated.{Translated}
use Rattle.history_book.specs.Legality.{same_proto}
use Rattle.history_book.specs.Notes.{Happened}
use Rattle.proto_rules.specs.Start.{start_of}
use Rattle.packet_path.specs.Packet.{FlowPacket}
use Rattle.packet_path.specs.Placed.{HasPlace}
use Rattle.packet_path.specs.declared.setup.Setup.{Setup}

-- an entry with this reply tuple has the helper: it is of TCP, and its server has one of the ports
abbrev pub is_helped : Setup → Tuple → Bool
is_helped setup reply = same_proto reply.proto proto.Tcp && list_any (λ p. p == reply.a) setup.ftp.items

-- the record is the packet's: its tuple, the part that the segment starts, and the helper or not
pub record IsStarted (setup : Setup) (packet : FlowPacket) (r : Record) : Type 0 where
  pub original : r.original ≡ packet.tuple
  pub part : start_of packet.segment packet.moment ≡ Some r.part
  pub helper : r.helper ≡ is_helped setup r.reply

-- what a verdict says of the new entry: its id, the point, how its reply tuple was found, and when no expectation
-- matched
pub record Making : Type 0 where
  pub id : ℕ
  pub at : ℕ
  pub translated : Translated
  pub unclaimed : Option ℕ

-- Its last further event is the Confirm numbered id. Before it a place was had for the flow, and the packet was looked
-- for among the expectations.
pub record Makes (setup : Setup) (sizes : Sizes) (log : List Event) (k : ℕ) (packet : FlowPacket) (rest : List Note)
    (said : Making) : Type 0 where
  pub subject : Record
  pub happened : Happened log k (record { number = said.id; event = Confirm subject })
  pub named : subject.id ≡ said.id
  pub started : IsStarted setup packet subject
  pub placed : HasPlace setup sizes log k packet rest (record { number = said.id; event = Confirm subject } ∷ [])
      (record { translated = said.translated; reply = subject.reply; unclaimed = said.unclaimed; master = subject.master; upto = said.id })
  pub point : said.at ≡ said.id + 1
