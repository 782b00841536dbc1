-- What the definition is told, and the segment that an event's packet is.
use Rattle.std.specs.Prelude.{ℕ, ◌+◌, ◌==◌, ◌&&◌, if◌then◌else◌, List, [], take, drop, slice_get, Option, Some, None, option_and_then}
use Rattle.std.specs.Option.{option_map}
use Rattle.room_list.specs.Roomed.{Roomed}
use Rattle.packet_headers.specs.declared.frame.Capture.{Capture}
use Rattle.history_book.specs.declared.event.Numbered.{Numbered}
use Rattle.history_book.specs.declared.verdict.Class.{Class}
use Rattle.history_book.specs.declared.verdict.Class.TheVariants as class
use Rattle.history_book.specs.declared.verdict.Ftp.{Ftp}
use Rattle.history_book.specs.declared.verdict.Verdict.{Verdict}
use Rattle.packet_headers.specs.declared.frame.Frame.{Frame}
use Rattle.packet_headers.specs.declared.frame.Span.{Span}
use Rattle.packet_headers.specs.declared.packet.Packet.{Packet}
use Rattle.packet_headers.specs.declared.packet.Packet.TheVariants as packet
use Rattle.packet_headers.specs.declared.tcp_numbers.TcpNumbers.{TcpNumbers}
use Rattle.packet_headers.specs.Capture.{AreInside}
use Rattle.packet_headers.specs.Classify.{packet_of}
use Rattle.packet_headers.specs.TcpNumbers.{tcp_numbers}

-- go on with what is there
infixl 10 ◌>>=◌
abbrev pub ◌>>=◌ : {A B : Type 0} → Option A → (A → Option B) → Option B
o >>= f = option_and_then f o

-- a capture: its bytes, and the frames among them
pub record Recorded : Type 0 where
  pub bytes : List ℕ
  pub frames : List Frame

-- the capture that the code has, whatever room it has
abbrev pub recorded : Capture → Recorded
recorded c = record { bytes = c.bytes.items; frames = c.frames.items }

-- each of its frames lies in its bytes
abbrev pub LiesInIts : Capture → Type 0
LiesInIts c = AreInside c.bytes.items c.frames.items

-- a run of the tracker: the captures, the verdicts of each of their threads, and the history
pub record Run : Type 0 where
  pub captures : List Recorded
  pub verdicts : List (Roomed Verdict)
  pub history : List Numbered

-- a segment of TCP: its numbers, and its data as far as it was captured
pub record Sent : Type 0 where
  pub numbers : TcpNumbers
  pub payload : List ℕ

-- the bytes of a file in a span
abbrev pub bytes_in : List ℕ → Span → List ℕ
bytes_in bytes span = drop span.start (take span.end bytes)

-- the data of a packet of a flow
abbrev pub data_in : List ℕ → Packet → List ℕ
data_in bytes (packet.Untracked why) = []
data_in bytes packet.Invalid = []
data_in bytes (packet.Flow tuple segment span) = bytes_in bytes span
data_in bytes (packet.Error inner destination) = []

-- the segment that a frame is
unfoldable pub sent_in : List ℕ → Frame → Option Sent
sent_in bytes frame =
    option_map (λ (n : TcpNumbers). record { numbers = n; payload = data_in bytes (packet_of bytes frame) }) (tcp_numbers bytes frame)

-- the segment that made an event
unfoldable pub sent_by : List Recorded → Numbered → Option Sent
sent_by captures item = do
  capture ← slice_get captures item.thread
  frame ← slice_get capture.frames item.index
  sent_in capture.bytes frame

-- What came of the data of a packet that an entry let pass by the event of this number. A packet that reset the entry
-- has the number of no Touch.
abbrev pub passed_by : Class → (id number : ℕ) → Option Ftp
passed_by (class.Untracked why) id number = None
passed_by class.BadHeader id number = None
passed_by (class.NoEntry at) id number = None
passed_by (class.BadState own at) id number = None
passed_by (class.ErrorLost at) id number = None
passed_by (class.ErrorAddress own at) id number = None
passed_by (class.Error direction own at) id number = None
passed_by (class.Made own at translated unclaimed) id number = None
passed_by (class.Passed label own at ftp) id number = (if own == id && at == number + 1 then Some ftp else None)
passed_by (class.Ignored own at) id number = None
passed_by (class.Merged own at translated) id number = None
passed_by (class.Clash own at translated) id number = None
passed_by (class.NoPort from to) id number = None
passed_by (class.Full from at) id number = None
passed_by (class.Contended own at) id number = None

-- what came of the data of the packet that made this event of an entry
unfoldable pub ftp_by : List (Roomed Verdict) → Numbered → ℕ → Option Ftp
ftp_by threads item id = do
  verdicts ← slice_get threads item.thread
  verdict ← slice_get verdicts.items item.index
  passed_by verdict.class id item.number
