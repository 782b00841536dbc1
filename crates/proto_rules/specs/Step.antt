-- What a packet does to an entry of its protocol.
use Rattle.std.specs.Prelude.{ℕ, Bool, true, false, ◌&&◌, ◌||◌, not, if◌then◌else◌}
use Rattle.tuple_core.specs.declared.Direction.{Direction}
use Rattle.tuple_core.specs.declared.Kind.{Kind}
use Rattle.tuple_core.specs.declared.Kind.TheVariants.{Syn, SynAck, Fin, Ack, Rst, Bare}
use Rattle.tuple_core.specs.declared.Segment.{Segment}
use Rattle.tuple_core.specs.declared.Segment.TheVariants as segment
use Rattle.proto_rules.specs.declared.Outcome.{Outcome}
use Rattle.proto_rules.specs.declared.Outcome.TheVariants.{Accept, Ignore, Invalid, Reopen, Reset, Expired}
use Rattle.proto_rules.specs.declared.Part.{Part}
use Rattle.proto_rules.specs.declared.PartKind.{PartKind}
use Rattle.proto_rules.specs.declared.PartKind.TheVariants as kind
use Rattle.proto_rules.specs.declared.TcpState.{TcpState}
use Rattle.proto_rules.specs.declared.TcpState.TheVariants.{SynSent, TimeWait, Close}
use Rattle.proto_rules.specs.declared.tcp_table.Cell.{Cell}
use Rattle.proto_rules.specs.declared.tcp_table.Cell.TheVariants as cell
use Rattle.proto_rules.specs.Part.{icmp_part, is_expired, tcp_part, udp_part}
use Rattle.proto_rules.specs.TcpTable.{same_state, tcp_cell}

abbrev pub is_rst : Kind → Bool
is_rst Syn = false
is_rst SynAck = false
is_rst Fin = false
is_rst Ack = false
is_rst Rst = true
is_rst Bare = false

-- a segment begins a new connection in place of one that was closed, by its two ends or by an RST
abbrev pub reopens : TcpState → TcpState → Bool
reopens old new = (same_state old TimeWait || same_state old Close) && same_state new SynSent

-- what a segment does to a connection, by its cell
abbrev pub cell_step : Part → Direction → TcpState → Cell → ℕ → Outcome
cell_step part direction old cell.Invalid moment = Invalid
cell_step part direction old cell.Ignored moment = Ignore
cell_step part direction old (cell.To new) moment =
    (if reopens old new then Reopen else Accept (tcp_part part direction old new moment))

-- an RST in either direction resets a connection while no reply was seen
abbrev pub tcp_step : Part → Direction → TcpState → Kind → ℕ → Outcome
tcp_step part direction state tcp_kind moment =
    (if is_rst tcp_kind && not part.replied then Reset
    else cell_step part direction state (tcp_cell direction tcp_kind state) moment)

-- what a packet does to an entry that is not expired; one of another protocol is invalid
abbrev pub live_step : Part → PartKind → Direction → Segment → ℕ → Outcome
live_step part (kind.Tcp state) direction (segment.Tcp tcp_kind) moment = tcp_step part direction state tcp_kind moment
live_step part (kind.Tcp state) direction segment.Udp moment = Invalid
live_step part (kind.Tcp state) direction (segment.Icmp type) moment = Invalid
live_step part kind.Udp direction (segment.Tcp tcp_kind) moment = Invalid
live_step part kind.Udp direction segment.Udp moment = Accept (udp_part part direction moment)
live_step part kind.Udp direction (segment.Icmp type) moment = Invalid
live_step part kind.Icmp direction (segment.Tcp tcp_kind) moment = Invalid
live_step part kind.Icmp direction segment.Udp moment = Invalid
live_step part kind.Icmp direction (segment.Icmp type) moment = Accept (icmp_part part direction moment)

abbrev pub step_of : Part → Direction → Segment → ℕ → Outcome
step_of part direction segment moment =
    (if is_expired part moment then Expired else live_step part part.kind direction segment moment)
