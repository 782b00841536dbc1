-- How long an entry lives on after a packet, in seconds. This project's own numbers.
use Rattle.std.specs.Prelude.{ℕ, Bool, ◌*◌, if◌then◌else◌}
use Rattle.proto_rules.specs.declared.TcpState.{TcpState}
use Rattle.proto_rules.specs.declared.TcpState.TheVariants.{Unset, SynSent, SynRecv, Established, FinWait}
use Rattle.proto_rules.specs.declared.TcpState.TheVariants.{CloseWait, LastAck, TimeWait, Close, SynSent2}

-- the microseconds of that many seconds
abbrev pub seconds : ℕ → ℕ
seconds n = n * 1000000

-- of a connection in this state; no cell of the tables leads to the first one
abbrev pub tcp_timeout : TcpState → ℕ
tcp_timeout Unset = 0
tcp_timeout SynSent = 120
tcp_timeout SynRecv = 60
tcp_timeout Established = 432000
tcp_timeout FinWait = 120
tcp_timeout CloseWait = 60
tcp_timeout LastAck = 30
tcp_timeout TimeWait = 120
tcp_timeout Close = 10
tcp_timeout SynSent2 = 120

-- of a connection that is taken for established while no reply was seen
abbrev pub unanswered_timeout : ℕ
unanswered_timeout = 300

-- of a flow of UDP, by whether a reply was seen
abbrev pub udp_timeout : Bool → ℕ
udp_timeout replied = (if replied then 120 else 30)

-- of a flow of ICMP
abbrev pub icmp_timeout : ℕ
icmp_timeout = 30
