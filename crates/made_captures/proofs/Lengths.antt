-- How long made captures are.
use Rattle.std.specs.Prelude.{◌==◌, if◌then◌else◌}
use Rattle.std.proofs.Common.{◌≡◌, ℕ, zero, suc, ◌+◌, ◌-◌, ◌*◌, ◌/◌, ◌≤◌, ◌%◌, min, length, refl, sym, ap, ◌∙◌, subst, arith, length-append}
use Rattle.std.proofs.lemmas.Bool.Decides.{nat_tests}
use Rattle.tuple_core.specs.declared.Proto.{Proto}
use Rattle.tuple_core.specs.declared.Proto.TheVariants.{Icmp, Tcp, Udp}
use Rattle.tuple_core.specs.declared.Tuple.{Tuple}
use Rattle.made_captures.specs.MadePacket.{laid_out, made_packet, made_proto, made_tuple, packet_proto, step_of}
use Rattle.made_captures.specs.MadeCapture.{made_capture, made_record}
use Rattle.made_captures.proofs.Records.{capture_begins, capture_more}

-- how many bytes a packet of this protocol has beside 28
abbrev more_of : Proto → ℕ
more_of Udp = 0
more_of Tcp = 12
more_of Icmp = 0

-- the bytes of a packet, and of its record
laid_out_counted : (proto : Proto) (t : Tuple) (step : ℕ) → length (laid_out proto t step) ≡ 28 + more_of proto
laid_out_counted Udp t step = refl
laid_out_counted Tcp t step = refl
laid_out_counted Icmp t step = refl

record_counted : (seed thread index : ℕ) → length (made_record seed thread index) ≡ 44 + more_of (packet_proto seed index)
unfolding made_record
record_counted seed thread index =
    omega (arith, laid_out_counted (packet_proto seed index) (made_tuple seed thread index) (step_of index))

-- how many of the first packets are of TCP
abbrev tcp_first : (seed packets : ℕ) → ℕ
tcp_first seed packets = packets / 12 * 4 + min (packets % 12 - (4 - seed % 3) % 3 * 4) 4

-- a packet more is counted where it is of TCP
more_by : (seed index : ℕ) (kind : ℕ) → (seed + index / 4) % 3 ≡ kind
    → 12 * tcp_first seed (index + 1)
    ≡ 12 * tcp_first seed index + more_of (if kind == 0 then Udp else (if kind == 1 then Tcp else Icmp))
more_by seed index kind e = grind (arith, nat_tests)

-- so the counts grow as the captures do
one_more : (seed index : ℕ) → 12 * tcp_first seed (index + 1) ≡ 12 * tcp_first seed index + more_of (packet_proto seed index)
unfolding made_proto
one_more seed index = more_by seed index ((seed + index / 4) % 3) refl

-- the bytes of a made capture
pub capture_counted : (seed packets thread : ℕ)
    → length (made_capture seed packets thread) ≡ 24 + packets * 44 + tcp_first seed packets * 12
capture_counted seed zero thread =
    let none : tcp_first seed 0 ≡ 0 = omega arith in
    ap length (capture_begins seed thread) ∙ omega (arith, none)
capture_counted seed (suc index) thread =
    let before = capture_counted seed index thread in
    let longer = ap length (capture_more seed index thread (index + 1) refl)
    ∙ length-append (made_capture seed index thread) (made_record seed thread index) in
    let here = record_counted seed thread index in
    let more = one_more seed index in
    let next : suc index ≡ index + 1 = omega arith in
    subst (λ (n : ℕ). length (made_capture seed n thread) ≡ 24 + n * 44 + tcp_first seed n * 12) (sym next) (omega arith)

-- a made packet has few bytes
pub few_bytes : (seed thread index : ℕ) → length (made_packet seed thread index) ≤ 40
few_bytes seed thread index = few_of (packet_proto seed index)
  where
    few_of : (proto : Proto) → length (laid_out proto (made_tuple seed thread index) (step_of index)) ≤ 40
    few_of Udp = omega arith
    few_of Tcp = omega arith
    few_of Icmp = omega arith
