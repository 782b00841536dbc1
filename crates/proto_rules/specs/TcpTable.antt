-- What a segment does to a connection, by the direction, the kind of the segment and the old state.
-- This project's own tables, with `nf_conntrack` of Linux as a pattern.
use Rattle.std.specs.Prelude.{ℕ, Bool, ◌==◌}
use Rattle.tuple_core.specs.declared.Direction.{Direction}
use Rattle.tuple_core.specs.declared.Direction.TheVariants.{Original, Reply}
use Rattle.tuple_core.specs.declared.Kind.{Kind}
use Rattle.tuple_core.specs.declared.Kind.TheVariants.{Syn, SynAck, Fin, Ack, Rst, Bare}
use Rattle.proto_rules.specs.declared.TcpState.{TcpState}
use Rattle.proto_rules.specs.declared.TcpState.TheVariants.{Unset, SynSent, SynRecv, Established, FinWait}
use Rattle.proto_rules.specs.declared.TcpState.TheVariants.{CloseWait, LastAck, TimeWait, Close, SynSent2}
use Rattle.proto_rules.specs.declared.tcp_table.Cell.{Cell}
use Rattle.proto_rules.specs.declared.tcp_table.Cell.TheVariants.{To, Ignored, Invalid}

-- one of ten values, by the state: that of its column
abbrev pub by_state : {A : Type 0} → A → A → A → A → A → A → A → A → A → A → TcpState → A
by_state un ss sr es fw cw la tw cl s2 Unset = un
by_state un ss sr es fw cw la tw cl s2 SynSent = ss
by_state un ss sr es fw cw la tw cl s2 SynRecv = sr
by_state un ss sr es fw cw la tw cl s2 Established = es
by_state un ss sr es fw cw la tw cl s2 FinWait = fw
by_state un ss sr es fw cw la tw cl s2 CloseWait = cw
by_state un ss sr es fw cw la tw cl s2 LastAck = la
by_state un ss sr es fw cw la tw cl s2 TimeWait = tw
by_state un ss sr es fw cw la tw cl s2 Close = cl
by_state un ss sr es fw cw la tw cl s2 SynSent2 = s2

-- a state's number: that of its column, from 0
abbrev pub column_of : TcpState → ℕ
column_of = by_state 0 1 2 3 4 5 6 7 8 9

abbrev pub same_state : TcpState → TcpState → Bool
same_state p q = column_of p == column_of q

-- the cells as the tables have them: the new state, invalid, or ignored
abbrev SS : Cell
SS = To SynSent

abbrev SR : Cell
SR = To SynRecv

abbrev ES : Cell
ES = To Established

abbrev FW : Cell
FW = To FinWait

abbrev CW : Cell
CW = To CloseWait

abbrev LA : Cell
LA = To LastAck

abbrev TW : Cell
TW = To TimeWait

abbrev CL : Cell
CL = To Close

abbrev S2 : Cell
S2 = To SynSent2

abbrev IV : Cell
IV = Invalid

abbrev IG : Cell
IG = Ignored

-- of a segment in the original direction
unfoldable pub original_cell : Kind → TcpState → Cell
original_cell Syn =
    -- from  NO SS SR ES FW CW LA TW CL S2
    by_state SS SS IG IG IG IG IG SS SS S2
original_cell SynAck =
    by_state IV IV SR IV IV IV IV IV IV SR
original_cell Fin =
    by_state IV IV FW FW LA LA LA TW CL IV
original_cell Ack =
    by_state ES IV ES ES CW CW TW TW CL IV
original_cell Rst =
    by_state IV CL CL CL CL CL CL CL CL CL
original_cell Bare =
    by_state IV IV IV IV IV IV IV IV IV IV

-- of a segment in the reply direction
unfoldable pub reply_cell : Kind → TcpState → Cell
reply_cell Syn =
    -- from  NO SS SR ES FW CW LA TW CL S2
    by_state IV S2 IV IV IV IV IV SS IV S2
reply_cell SynAck =
    by_state IV SR IG IG IG IG IG IG IG SR
reply_cell Fin =
    by_state IV IV FW FW LA LA LA TW CL IV
reply_cell Ack =
    by_state IV IG SR ES CW CW TW TW CL IG
reply_cell Rst =
    by_state IV CL CL CL CL CL CL CL CL CL
reply_cell Bare =
    by_state IV IV IV IV IV IV IV IV IV IV

abbrev pub tcp_cell : Direction → Kind → TcpState → Cell
tcp_cell Original tcp_kind state = original_cell tcp_kind state
tcp_cell Reply tcp_kind state = reply_cell tcp_kind state
