-- What a part is after a packet was accepted, and when it is expired.
use Rattle.std.specs.Prelude.{ℕ, Bool, true, ◌+◌, ◌&&◌, ◌||◌, not, nat_le, if◌then◌else◌}
use Rattle.tuple_core.specs.declared.Direction.{Direction}
use Rattle.tuple_core.specs.declared.Direction.TheVariants.{Original, Reply}
use Rattle.proto_rules.specs.declared.Part.{Part}
use Rattle.proto_rules.specs.declared.PartKind.TheVariants as kind
use Rattle.proto_rules.specs.declared.TcpState.{TcpState}
use Rattle.proto_rules.specs.declared.TcpState.TheVariants.{Established, SynRecv}
use Rattle.proto_rules.specs.TcpTable.{same_state}
use Rattle.proto_rules.specs.Timeout.{icmp_timeout, seconds, tcp_timeout, udp_timeout, unanswered_timeout}

-- an entry is expired from its deadline on
abbrev pub is_expired : Part → ℕ → Bool
is_expired part moment = nat_le part.deadline moment

-- a reply was seen, this packet included
abbrev pub replied_after : Part → Direction → Bool
replied_after part Original = part.replied
replied_after part Reply = true

-- how long a connection lives on in its new state, by whether a reply was seen before this packet
abbrev pub tcp_lifetime : Bool → TcpState → ℕ
tcp_lifetime replied state =
    (if same_state state Established && not replied then unanswered_timeout else tcp_timeout state)

-- a connection is assured by a packet after a reply that leaves it established, and that finds it so
-- or in SYN_RECV
abbrev pub tcp_assured : Part → TcpState → TcpState → Bool
tcp_assured part old new =
    part.assured
    || (part.replied && (same_state old SynRecv || same_state old Established) && same_state new Established)

-- the part of a connection that a packet takes from the old state to the new one
abbrev pub tcp_part : Part → Direction → TcpState → TcpState → ℕ → Part
tcp_part part direction old new moment = record {
  kind = kind.Tcp new;
  replied = replied_after part direction;
  assured = tcp_assured part old new;
  deadline = moment + seconds (tcp_lifetime part.replied new);
}

-- a flow of UDP is assured from the first original packet on that comes after a reply
abbrev pub udp_assured : Part → Direction → Bool
udp_assured part Original = part.assured || part.replied
udp_assured part Reply = part.assured

-- the part of a flow of UDP after a packet
abbrev pub udp_part : Part → Direction → ℕ → Part
udp_part part direction moment = record {
  kind = kind.Udp;
  replied = replied_after part direction;
  assured = udp_assured part direction;
  deadline = moment + seconds (udp_timeout (replied_after part direction));
}

-- the part of a flow of ICMP after a packet
abbrev pub icmp_part : Part → Direction → ℕ → Part
icmp_part part direction moment = record {
  kind = kind.Icmp;
  replied = replied_after part direction;
  assured = part.assured;
  deadline = moment + seconds icmp_timeout;
}
