-- The packets of made captures. Four packets in a row are of one flow, which a client of its own begins;
-- all flows have one server. A packet is told by the seed, the thread of its capture, and its index there.
use Rattle.std.specs.Prelude.{ℕ, ◌+◌, ◌*◌, ◌/◌, ◌%◌, ◌^◌, ◌==◌, if◌then◌else◌, List}
use Rattle.tuple_core.specs.declared.Direction.{Direction}
use Rattle.tuple_core.specs.declared.Direction.TheVariants.{Original, Reply}
use Rattle.tuple_core.specs.declared.Proto.{Proto}
use Rattle.tuple_core.specs.declared.Proto.TheVariants.{Icmp, Tcp, Udp}
use Rattle.tuple_core.specs.declared.Tuple.{Tuple}
use Rattle.tuple_core.specs.Inverse.{inverse}
use Rattle.tuple_core.specs.Tuple.{icmp_tuple}
use Rattle.packet_headers.specs.PacketLayout.{icmp_layout, tcp_layout, udp_layout}

-- the flow that a packet is of
abbrev pub flow_of : ℕ → ℕ
flow_of index = index / 4

-- which packet of its flow it is
abbrev pub step_of : ℕ → ℕ
step_of index = index % 4

-- an IPv4 address by its four octets
abbrev pub address : (a b c d : ℕ) → ℕ
address a b c d = a * 2 ^ 24 + b * 2 ^ 16 + c * 2 ^ 8 + d

abbrev pub client_of : (thread flow : ℕ) → ℕ
client_of thread flow = address 10 thread (flow / 256) (flow % 256)

abbrev pub server : ℕ
server = address 198 51 100 1

-- the client's port; of ICMP the identifier
abbrev pub client_number : ℕ → ℕ
client_number seed = 1024 + seed % 60000

-- the protocols take turns
unfoldable pub made_proto : (seed flow : ℕ) → Proto
made_proto seed flow =
    (if (seed + flow) % 3 == 0 then Udp else
    (if (seed + flow) % 3 == 1 then Tcp else Icmp))

-- the first packet of a flow: to port 53, to port 80, or an echo request
abbrev pub first_tuple : Proto → (client number : ℕ) → Tuple
first_tuple Udp client number = record { proto = Udp; zone = 0; src = client; dst = server; a = number; b = 53 }
first_tuple Tcp client number = record { proto = Tcp; zone = 0; src = client; dst = server; a = number; b = 80 }
first_tuple Icmp client number = icmp_tuple client server 8 0 number

-- queries and answers take turns; a connection is opened by three packets, and the client resets it
abbrev pub made_direction : Proto → ℕ → Direction
made_direction Udp step = (if step % 2 == 1 then Reply else Original)
made_direction Tcp step = (if step == 1 then Reply else Original)
made_direction Icmp step = (if step % 2 == 1 then Reply else Original)

-- the tuple of a packet that goes this way
abbrev pub directed : Direction → Tuple → Tuple
directed Original t = t
directed Reply t = inverse t

-- the control bits of a connection's packets: SYN, SYN and ACK, ACK, RST
abbrev pub control_bits : ℕ → ℕ
control_bits step =
    (if step == 0 then 0x02 else
    (if step == 1 then 0x12 else
    (if step == 2 then 0x10 else 0x04)))

abbrev pub laid_out : Proto → Tuple → ℕ → List ℕ
laid_out Udp t step = udp_layout t
laid_out Tcp t step = tcp_layout t (control_bits step)
laid_out Icmp t step = icmp_layout t

-- the protocol of a packet
abbrev pub packet_proto : (seed index : ℕ) → Proto
packet_proto seed index = made_proto seed (flow_of index)

-- the tuple of a packet
abbrev pub made_tuple : (seed thread index : ℕ) → Tuple
made_tuple seed thread index =
    directed (made_direction (packet_proto seed index) (step_of index))
    (first_tuple (packet_proto seed index) (client_of thread (flow_of index)) (client_number seed))

-- the bytes of a packet
abbrev pub made_packet : (seed thread index : ℕ) → List ℕ
made_packet seed thread index = laid_out (packet_proto seed index) (made_tuple seed thread index) (step_of index)
