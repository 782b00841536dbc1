-- What holds of every cell of the tables of TCP.
use Rattle.std.specs.Prelude.{◌≡◌, Bool, true, ◌&&◌}
use Rattle.std.proofs.lemmas.Bool.{and_parts}
use Rattle.tuple_core.specs.declared.Direction.{Direction}
use Rattle.tuple_core.specs.declared.Direction.TheVariants.{Original, Reply}
use Rattle.tuple_core.specs.declared.Kind.{Kind}
use Rattle.tuple_core.specs.declared.Kind.TheVariants.{Syn, SynAck, Fin, Ack, Rst, Bare}
use Rattle.proto_rules.specs.declared.TcpState.{TcpState}
use Rattle.proto_rules.specs.declared.TcpState.TheVariants.{Unset, SynSent, SynRecv, Established, FinWait}
use Rattle.proto_rules.specs.declared.TcpState.TheVariants.{CloseWait, LastAck, TimeWait, Close, SynSent2}

-- what holds of each of the ten states
pub all_states : (P : TcpState → Type 0)
    → P Unset → P SynSent → P SynRecv → P Established → P FinWait
    → P CloseWait → P LastAck → P TimeWait → P Close → P SynSent2
    → (s : TcpState) → P s
all_states P un ss sr es fw cw la tw cl s2 Unset = un
all_states P un ss sr es fw cw la tw cl s2 SynSent = ss
all_states P un ss sr es fw cw la tw cl s2 SynRecv = sr
all_states P un ss sr es fw cw la tw cl s2 Established = es
all_states P un ss sr es fw cw la tw cl s2 FinWait = fw
all_states P un ss sr es fw cw la tw cl s2 CloseWait = cw
all_states P un ss sr es fw cw la tw cl s2 LastAck = la
all_states P un ss sr es fw cw la tw cl s2 TimeWait = tw
all_states P un ss sr es fw cw la tw cl s2 Close = cl
all_states P un ss sr es fw cw la tw cl s2 SynSent2 = s2

-- a test of all ten states
abbrev each_state : (TcpState → Bool) → Bool
each_state p =
    p Unset && p SynSent && p SynRecv && p Established && p FinWait && p CloseWait && p LastAck && p TimeWait
    && p Close && p SynSent2

-- what all states pass each passes
each_state_tells : (p : TcpState → Bool) → each_state p ≡ true → (s : TcpState) → p s ≡ true
each_state_tells p h =
    let a = and_parts _ (p SynSent2) h in
    let b = and_parts _ (p Close) a.0 in
    let c = and_parts _ (p TimeWait) b.0 in
    let d = and_parts _ (p LastAck) c.0 in
    let e = and_parts _ (p CloseWait) d.0 in
    let f = and_parts _ (p FinWait) e.0 in
    let g = and_parts _ (p Established) f.0 in
    let i = and_parts _ (p SynRecv) g.0 in
    let j = and_parts (p Unset) (p SynSent) i.0 in
    all_states (λ s. p s ≡ true) j.0 j.1 i.1 g.1 f.1 e.1 d.1 c.1 b.1 a.1

-- what holds of each of the six kinds of segments
all_kinds : (P : Kind → Type 0) → P Syn → P SynAck → P Fin → P Ack → P Rst → P Bare → (k : Kind) → P k
all_kinds P syn both fin ack rst bare Syn = syn
all_kinds P syn both fin ack rst bare SynAck = both
all_kinds P syn both fin ack rst bare Fin = fin
all_kinds P syn both fin ack rst bare Ack = ack
all_kinds P syn both fin ack rst bare Rst = rst
all_kinds P syn both fin ack rst bare Bare = bare

-- a test of all six kinds
abbrev each_kind : (Kind → Bool) → Bool
each_kind p = p Syn && p SynAck && p Fin && p Ack && p Rst && p Bare

-- what all kinds pass each passes
each_kind_tells : (p : Kind → Bool) → each_kind p ≡ true → (k : Kind) → p k ≡ true
each_kind_tells p h =
    let a = and_parts _ (p Bare) h in
    let b = and_parts _ (p Rst) a.0 in
    let c = and_parts _ (p Ack) b.0 in
    let d = and_parts _ (p Fin) c.0 in
    let e = and_parts (p Syn) (p SynAck) d.0 in
    all_kinds (λ k. p k ≡ true) e.0 e.1 d.1 c.1 b.1 a.1

-- a test of all cells of one table
abbrev each_of_table : (Kind → TcpState → Bool) → Bool
each_of_table p = each_kind (λ k. each_state (p k))

-- a test of all cells of both tables
abbrev pub each_cell : (Direction → Kind → TcpState → Bool) → Bool
each_cell p = each_of_table (p Original) && each_of_table (p Reply)

-- what all cells of a table pass each passes
each_of_table_tells : (p : Kind → TcpState → Bool) → each_of_table p ≡ true → (k : Kind) (s : TcpState) → p k s ≡ true
each_of_table_tells p h k = each_state_tells (p k) (each_kind_tells (λ k. each_state (p k)) h k)

-- what all cells pass each passes
pub each_cell_tells : (p : Direction → Kind → TcpState → Bool) → each_cell p ≡ true
    → (d : Direction) (k : Kind) (s : TcpState) → p d k s ≡ true
each_cell_tells p h Original =
    each_of_table_tells (p Original) (and_parts (each_of_table (p Original)) (each_of_table (p Reply)) h).0
each_cell_tells p h Reply =
    each_of_table_tells (p Reply) (and_parts (each_of_table (p Original)) (each_of_table (p Reply)) h).1
