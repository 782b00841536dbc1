-- Made captures, read by their headers and records.
use Rattle.std.proofs.Common.{◌≡◌, ℕ, zero, suc, ◌+◌, ◌-◌, ◌*◌, ◌/◌, ◌%◌, ◌^◌, ◌<◌, ◌≤◌, false, cond, List, ◌++◌, length, map, take, drop, Ok, Err, refl, sym, ap, ◌∙◌, subst, arith, append_assoc, length-append}
use Rattle.std.proofs.lemmas.Bool.Decides.{nat_tests}
use Rattle.std.proofs.lemmas.List.{append-nil, get_or-append-add}
use Rattle.std.proofs.Math.Seq.{drop-append-add, take-append_seam}
use Rattle.std.specs.List.{concat, range_with_len}
use Rattle.std.specs.Prelude.{slice_index, nat_le, nat_lt}
use Rattle.packet_headers.specs.declared.byte_order.Endian.TheVariants.{Little}
use Rattle.packet_headers.specs.declared.capture.Form.{Form}
use Rattle.packet_headers.specs.declared.capture.RecordFault.TheVariants.{Cut, Oversized, BadFraction}
use Rattle.packet_headers.specs.declared.capture.Resolution.TheVariants.{Microseconds}
use Rattle.packet_headers.specs.declared.frame.Link.TheVariants.{Raw}
use Rattle.packet_headers.specs.ByteOrder.{little_u32_at}
use Rattle.packet_headers.specs.Capture.{Records}
use Rattle.packet_headers.specs.CaptureHeader.{header_of}
use Rattle.packet_headers.specs.CaptureRecord.{captured_at, fraction_at, original_at, record_at, seconds_at}
use Rattle.packet_headers.specs.ClassifyLaws.{captured_bytes}
use Rattle.made_captures.specs.MadePacket.{made_packet}
use Rattle.made_captures.specs.MadeCapture.{file_header, made_capture, made_record, record_of}
use Rattle.made_captures.specs.MadeFrames.{made_frame, made_frames}
use Rattle.made_captures.specs.Laws.{MadeCapturesHaveTheirFrames, MadeFramesHaveTheirPackets}
use Rattle.made_captures.proofs.Lengths.{few_bytes}
use Rattle.made_captures.proofs.Records.{capture_begins, capture_more, capture_split}

-- what the header of a made capture says
abbrev pub raw_form : Form
raw_form = record { layout = record { order = Little; resolution = Microseconds }; link = Raw }

-- a byte behind a front
byte_behind : (front tail : List ℕ) (i k : ℕ) → i ≡ length front + k → slice_index (front ++ tail) i ≡ slice_index tail k
byte_behind front tail i k e = ap (slice_index (front ++ tail)) e ∙ get_or-append-add front tail k 0

-- and four bytes
u32_behind : (front tail : List ℕ) (at k : ℕ) → at ≡ length front + k → little_u32_at (front ++ tail) at ≡ little_u32_at tail k
u32_behind front tail at k e =
    let a = byte_behind front tail at k e in
    let b = byte_behind front tail (at + 1) (k + 1) (omega arith) in
    let c = byte_behind front tail (at + 2) (k + 2) (omega arith) in
    let d = byte_behind front tail (at + 2 + 1) (k + 2 + 1) (omega arith) in
    λ i. (a i + 256 * b i) + 65536 * (c i + 256 * d i)

-- a number is that of its bytes
four_read : (n : ℕ) → n < 2 ^ 32 → (n % 256 + 256 * (n / 256 % 256)) + 65536 * (n / 65536 % 256 + 256 * (n / 16777216 % 256)) ≡ n
four_read n h = omega arith

-- a record, read where it stands
record_read : (front packet rest : List ℕ) (index : ℕ) → index < 262144 → length packet ≤ 40
    → record_at (front ++ (record_of index packet ++ rest)) raw_form (length front)
    ≡ Ok (record { moment = 1000000000 + 1000 * index; start = length front + 16; captured = length packet; original = length packet; link = Raw })
unfolding record_at
record_read front packet rest index few short =
    let tail : List ℕ = record_of index packet ++ rest in
    let bytes : List ℕ = front ++ tail in
    let at : ℕ = length front in
    let seconds : seconds_at bytes raw_form at ≡ 1000 + index / 1000 =
    u32_behind front tail at 0 (omega arith) ∙ four_read (1000 + index / 1000) (omega arith) in
    let fraction : fraction_at bytes raw_form at ≡ index % 1000 * 1000 =
    u32_behind front tail (at + 4) 4 refl ∙ four_read (index % 1000 * 1000) (omega arith) in
    let captured : captured_at bytes raw_form at ≡ length packet =
    u32_behind front tail (at + 8) 8 refl ∙ four_read (length packet) (omega arith) in
    let original : original_at bytes raw_form at ≡ length packet =
    u32_behind front tail (at + 12) 12 refl ∙ four_read (length packet) (omega arith) in
    let long : length bytes ≡ length front + (16 + length packet + length rest) = omega (arith, length-append front tail, length-append packet rest) in
    let whole : nat_lt (length bytes) (at + 16) ≡ false = grind (arith, nat_tests, long) in
    let fits : nat_lt 262144 (captured_at bytes raw_form at) ≡ false = grind (arith, nat_tests, captured) in
    let part : nat_le 1000000 (fraction_at bytes raw_form at) ≡ false = grind (arith, nat_tests, fraction) in
    let inside : nat_lt (length bytes) (at + 16 + captured_at bytes raw_form at) ≡ false = grind (arith, nat_tests, long, captured) in
    let moment : (1000 + index / 1000) * 1000000 + index % 1000 * 1000 ≡ 1000000000 + 1000 * index = omega arith in
    (λ i. cond (whole i) (Err Cut) (cond (fits i) (Err Oversized) (cond (part i) (Err BadFraction) (cond (inside i) (Err Cut)
    (Ok (record { moment = seconds i * 1000000 + fraction i; start = at + 16; captured = captured i; original = original i; link = Raw }))))))
    ∙ (λ i. Ok (record { moment = moment i; start = at + 16; captured = length packet; original = length packet; link = Raw }))

-- the records from one index on, behind a capture of those before
rows : (seed thread : ℕ) (bytes : List ℕ) (count index : ℕ) → index + count ≤ 262144
    → bytes ≡ made_capture seed index thread ++ concat (map (made_record seed thread) (range_with_len index count))
    → Records bytes raw_form (length (made_capture seed index thread)) (map (made_frame seed thread) (range_with_len index count)) (length bytes)
unfolding made_record
rows seed thread bytes zero index few split = sym (ap length (split ∙ append-nil (made_capture seed index thread)))
rows seed thread bytes (suc count) index few split =
    let front : List ℕ = made_capture seed index thread in
    let packet : List ℕ = made_packet seed thread index in
    let rest : List ℕ = concat (map (made_record seed thread) (range_with_len (index + 1) count)) in
    let here = ap (λ (xs : List ℕ). record_at xs raw_form (length front)) split
    ∙ record_read front packet rest index (omega arith) (few_bytes seed thread index) in
    let longer : made_capture seed (index + 1) thread ≡ front ++ record_of index packet = capture_more seed index thread (index + 1) refl in
    let next : length (made_capture seed (index + 1) thread) ≡ length front + 16 + length packet =
    ap length longer ∙ length-append front (record_of index packet) ∙ omega arith in
    let further = split ∙ sym (append_assoc front (record_of index packet) rest) ∙ (λ i. sym longer i ++ rest) in (
      here,
      subst (λ (at : ℕ). Records bytes raw_form at (map (made_frame seed thread) (range_with_len (index + 1) count)) (length bytes)) next
          (rows seed thread bytes count (index + 1) (omega arith) further),
    )

-- a file that begins as made captures do
header_read : (rest : List ℕ) → header_of (file_header ++ rest) ≡ Ok raw_form
unfolding header_of
header_read rest =
    let whole : nat_lt (length (file_header ++ rest)) 24 ≡ false = grind (arith, nat_tests) in
    rw whole refl

-- a made capture is one of its frames
pub made_is_capture : MadeCapturesHaveTheirFrames
made_is_capture seed packets thread few =
    let begun = capture_begins seed thread in
    let none : packets ≡ 0 + packets = omega arith in
    let split = (λ i. made_capture seed (none i) thread) ∙ capture_split seed thread 0 packets in
    let all = rows seed thread (made_capture seed packets thread) packets 0 (omega arith) split in
    record {
      form = raw_form;
      header = ap header_of (split ∙ (λ i. begun i ++ concat (map (made_record seed thread) (range_with_len 0 packets)))) ∙ header_read _;
      records = subst (λ (at : ℕ). Records (made_capture seed packets thread) raw_form at (made_frames seed packets thread) (length (made_capture seed packets thread)))
          (ap length begun) all;
    }

-- the packet of a record
packet_cut : (front packet rest : List ℕ) (index : ℕ)
    → take (length packet) (drop (length front + 16) (front ++ (record_of index packet ++ rest))) ≡ packet
packet_cut front packet rest index =
    ap (take (length packet)) (drop-append-add front (record_of index packet ++ rest) 16) ∙ take-append_seam packet rest

-- the captured bytes of a frame are its packet
pub made_has_packet : MadeFramesHaveTheirPackets
unfolding made_record
made_has_packet seed packets thread index below =
    let more : ℕ = packets - (index + 1) in
    let rest : List ℕ = concat (map (made_record seed thread) (range_with_len (index + 1) more)) in
    let all : index + suc more ≡ packets = omega arith in
    ap (λ (n : ℕ). captured_bytes (made_capture seed n thread) (made_frame seed thread index)) (sym all)
    ∙ ap (λ (xs : List ℕ). captured_bytes xs (made_frame seed thread index)) (capture_split seed thread index (suc more))
    ∙ packet_cut (made_capture seed index thread) (made_packet seed thread index) rest index
