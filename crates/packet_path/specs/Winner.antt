-- A packet that would begin a flow, and meets an entry that has one of the flow's tuples.
use Rattle.std.specs.Prelude.{◌≡◌, ℕ, ◌<◌, ◌≤◌, Bool, true, ◌&&◌, Option, Some, List, [], length}
use Rattle.tuple_core.specs.declared.Proto.TheVariants as proto
use Rattle.tuple_core.specs.declared.Tuple.{Tuple}
use Rattle.history_book.specs.declared.event.Event.{Event}
use Rattle.history_book.specs.declared.event.Note.{Note}
use Rattle.history_book.specs.declared.record.Record.{Record}
use Rattle.history_book.specs.declared.sizes.Sizes.{Sizes}
use Rattle.history_book.specs.declared.verdict.Translated.{Translated}
use Rattle.history_book.specs.declared.verdict.Translated.TheVariants.{Plain, Chosen}
use Rattle.history_book.specs.Legality.{same_proto}
use Rattle.history_book.specs.Point.{At}
use Rattle.history_book.specs.Record.{has_original, has_reply, has_tuple}
use Rattle.history_book.specs.State.{Found, winner}
use Rattle.packet_path.specs.Packet.{FlowPacket}
use Rattle.packet_path.specs.Placed.{HasPlace}
use Rattle.packet_path.specs.declared.setup.Setup.{Setup}

-- the flow is of UDP, and its two tuples are those of the entry, in this order: the packet is merged into it
abbrev pub is_merged : Tuple → Tuple → Record → Bool
is_merged t reply r = same_proto t.proto proto.Udp && has_original t r && has_reply reply r

-- The entry was confirmed from k on, as its tuple was absent or its reply tuple free at a point from there on. Only
-- one may be older: one that has just the reply tuple, where no rule chose it, since nothing looked it up before.
abbrev pub IsNewWinner : ℕ → Translated → Tuple → Record → Type 0
IsNewWinner k Plain t r = has_tuple t r ≡ true → k ≤ r.id
IsNewWinner k (Chosen chosen taken_at) t r = k ≤ r.id

-- what a verdict says of the entry: its id, the point, how the flow's reply tuple was found, and whether the packet
-- was merged into it
pub record Meeting : Type 0 where
  pub id : ℕ
  pub at : ℕ
  pub translated : Translated
  pub merged : Bool

-- No further event but a drop and a Claim, where a place was had so and the packet was expected; one that is merged
-- makes no Claim. Later, at this point, the entry is the one that has the packet's tuple, else the one that has the reply
-- tuple. There the flow still has its place, so fewer entries are live than there are places. No entry is made, so the
-- master is nobody's.
pub record MeetsWinner (setup : Setup) (sizes : Sizes) (log : List Event) (k : ℕ) (packet : FlowPacket) (rest : List Note)
    (said : Meeting) : Type 0 where
  pub reply : Tuple
  pub unclaimed : Option ℕ
  pub master : Option ℕ
  pub placed : HasPlace setup sizes log k packet rest []
      (record { translated = said.translated; reply = reply; unclaimed = unclaimed; master = master; upto = said.at })
  pub silent : said.merged ≡ true → placed.claims ≡ []
  pub found : Found
  pub live : At log said.at (λ s. winner packet.tuple reply s ≡ Some found)
  pub named : found.subject.id ≡ said.id
  pub merge : is_merged packet.tuple reply found.subject ≡ said.merged
  pub new : IsNewWinner k said.translated packet.tuple found.subject
  pub room : At log said.at (λ s. length s.records < sizes.entries)
