-- What holds of every verdict that fits, and of the segments of flows.
use Rattle.std.specs.Prelude.{◌≡◌, ℕ, ◌≤◌, true, List, []}
use Rattle.history_book.specs.declared.event.Event.{Event}
use Rattle.history_book.specs.declared.event.Note.{Note}
use Rattle.history_book.specs.declared.sizes.Sizes.{Sizes}
use Rattle.history_book.specs.declared.verdict.Class.{Class}
use Rattle.history_book.specs.declared.verdict.Class.TheVariants as class
use Rattle.history_book.specs.declared.verdict.UntrackedWhy.{UntrackedWhy}
use Rattle.tuple_core.specs.declared.Segment.{Segment}
use Rattle.tuple_core.specs.declared.Tuple.{Tuple}
use Rattle.proto_rules.specs.declared.PartKind.{PartKind}
use Rattle.proto_rules.specs.Protocol.{is_of_protocol, proto_of}
use Rattle.history_book.specs.Point.{StartsWith}
use Rattle.packet_headers.specs.declared.packet.Packet.TheVariants as packet
use Rattle.packet_headers.specs.ClassifySound.{protocol_of}
use Rattle.packet_path.specs.Packet.{Given, cause_of}
use Rattle.packet_path.specs.declared.setup.Setup.{Setup}
use Rattle.packet_path.specs.Verdict.{FitsFrame}

-- a verdict that fits still fits when the history goes on
abbrev pub VerdictsStillFit : Type 0
VerdictsStillFit =
    (setup : Setup) (sizes : Sizes) (log longer : List Event) (mark : ℕ) (given : Given) (own : List Note) (class : Class)
    → StartsWith longer log → FitsFrame setup sizes log mark given own class → FitsFrame setup sizes longer mark given own class

-- a verdict that fits from a mark on fits from any lower mark on
abbrev pub LowerMarksFit : Type 0
LowerMarksFit =
    (setup : Setup) (sizes : Sizes) (log : List Event) (lower mark : ℕ) (given : Given) (own : List Note) (class : Class)
    → lower ≤ mark → FitsFrame setup sizes log mark given own class → FitsFrame setup sizes log lower given own class

-- a frame that is not tracked, or has a wrong header, makes no event, and its verdict says just that
abbrev pub BytesDecide : Type 0
BytesDecide =
    (setup : Setup) (sizes : Sizes) (log : List Event) (mark : ℕ) (given : Given) (own : List Note) (answer : Class)
    → FitsFrame setup sizes log mark given own answer
    → ((why : UntrackedWhy) → given.packet ≡ packet.Untracked (cause_of why) → (own ≡ []) × (answer ≡ class.Untracked why))
    × (given.packet ≡ packet.Invalid → (own ≡ []) × (answer ≡ class.BadHeader))

-- an error makes no event, whatever its verdict
abbrev pub ErrorsMakeNoEvent : Type 0
ErrorsMakeNoEvent =
    (setup : Setup) (sizes : Sizes) (log : List Event) (mark : ℕ) (given : Given) (inner : Tuple) (outer : ℕ) (own : List Note) (answer : Class)
    → given.packet ≡ packet.Error inner outer → FitsFrame setup sizes log mark given own answer → own ≡ []

-- the test of a segment and an entry says exactly whether the segment's protocol is the entry's
abbrev pub SameProtocolIsEquality : Type 0
SameProtocolIsEquality =
    (segment : Segment) (kind : PartKind)
    → (is_of_protocol segment kind ≡ true → proto_of kind ≡ protocol_of segment)
    × (proto_of kind ≡ protocol_of segment → is_of_protocol segment kind ≡ true)
