-- What a frame is does not change with the place of its bytes.
use Rattle.std.proofs.Common.{◌≡◌, ℕ, ◌+◌, ◌-◌, ◌/◌, ◌%◌, ◌^◌, ◌<◌, ◌≤◌, min, Bool, true, false, cond, not, ◌&&◌, Option, Some, None, List, refl, sym, ◌∙◌, arith}
use Rattle.std.proofs.lemmas.Bool.Decides.{nat_tests}
use Rattle.std.specs.Prelude.{◌==◌, nat_le, nat_lt}
use Rattle.tuple_core.specs.declared.Proto.{Proto}
use Rattle.tuple_core.specs.declared.Proto.TheVariants.{Icmp, Tcp, Udp}
use Rattle.packet_headers.specs.declared.frame.Frame.{Frame}
use Rattle.packet_headers.specs.declared.frame.Link.{Link}
use Rattle.packet_headers.specs.declared.frame.Link.TheVariants.{Ethernet, Raw}
use Rattle.packet_headers.specs.declared.packet.Packet.{Packet}
use Rattle.packet_headers.specs.declared.packet.Packet.TheVariants.{Untracked, Invalid}
use Rattle.packet_headers.specs.declared.packet.Untracked.TheVariants as untracked
use Rattle.packet_headers.specs.ByteOrder.{big_u16_at}
use Rattle.packet_headers.specs.Classify.{ethernet_frame, ip_packet, packet_behind, packet_of, packet_of_protocol, packet_of_version}
use Rattle.packet_headers.specs.ClassifyLaws.{alone, captured_bytes, moved, EqualFramesAreEqualPackets, ReadsTheFrameAlone}
use Rattle.packet_headers.specs.Ipv4Header.{has_ipv4_header, header_length, ipv4_payload, is_fragment, protocol, total_length, tracked_protocol, version}
use Rattle.packet_headers.proofs.SameBytes.{Same, same_behind, same_part, u16_same, chosen, guarded, first_holds}
use Rattle.packet_headers.proofs.SamePayload.{Twins, addresses_same, header_same, icmp_same, tcp_same, udp_same}

-- the tests of an IPv4 header, behind that for room
abbrev header_tests : List ℕ → ℕ → Bool → Bool
header_tests bytes at room = room && nat_le 20 (header_length bytes at) && nat_le (header_length bytes at) (total_length bytes at)

-- an IP packet, from its later tests to its earlier ones
abbrev tracked : List ℕ → ℕ → ℕ → Packet
tracked bytes at captured = packet_of_protocol (tracked_protocol (protocol bytes at)) bytes (ipv4_payload bytes at captured)

abbrev whole : List ℕ → ℕ → ℕ → Packet
whole bytes at captured = cond (is_fragment bytes at) (Untracked untracked.Fragment) (tracked bytes at captured)

abbrev right : List ℕ → ℕ → ℕ → Packet
right bytes at captured = cond (not (has_ipv4_header bytes at captured)) Invalid (whole bytes at captured)

abbrev of_version : Link → List ℕ → ℕ → ℕ → Packet
of_version link bytes at captured =
    cond (not (version bytes at == 4)) (packet_of_version link (version bytes at)) (right bytes at captured)

-- an Ethernet frame with its whole header
abbrev typed : List ℕ → ℕ → ℕ → Packet
typed bytes at captured =
    cond (not (big_u16_at bytes (at + 12) == 0x0800)) (Untracked untracked.Link) (ip_packet Ethernet bytes (at + 14) (captured - 14))

-- a test whose opposite does not hold
holds : (test : Bool) → not test ≡ false → test ≡ true
holds true h = refl
holds false h = cc

-- a number that is not 0
some : (n : ℕ) → (n == 0) ≡ false → 0 < n
some n h = grind (arith, nat_tests)

module _ (bytes other : List ℕ) (at place captured shift : ℕ) (same : Same bytes other at place captured) (apart : at ≡ place + shift) where
  -- a packet of another version names no place
  version_same : (link : Link) (number : ℕ) → packet_of_version link number ≡ moved shift (packet_of_version link number)
  version_same Raw number =
      chosen (moved shift) (number == 6) (number == 6) (Untracked untracked.Link) Invalid (Untracked untracked.Link) Invalid
      refl (λ h. refl) (λ h. refl)
  version_same Ethernet number = refl

  -- the length of the header
  length_same : 0 < captured → header_length bytes at ≡ header_length other place
  length_same fits = header_same bytes other at place captured same fits

  -- the length of the packet
  total_same : 4 ≤ captured → total_length bytes at ≡ total_length other place
  total_same fits = u16_same bytes other at place captured same 2 (omega (arith, fits))

  -- room for the fixed part of the header
  enough : nat_le 20 captured ≡ true → 20 ≤ captured
  enough h = grind (arith, nat_tests)

  -- the header is right on both sides
  has_header_same : has_ipv4_header bytes at captured ≡ has_ipv4_header other place captured
  has_header_same =
      guarded (header_tests bytes at)
      (header_tests other place)
      (nat_le 20 captured) (nat_le 20 captured) refl refl
      (λ h. let e = length_same (omega (arith, enough h)) in let f = total_same (omega (arith, enough h)) in
      λ i. nat_le 20 (e i) && nat_le (e i) (f i))

  -- the fixed part of a right one was captured
  has_room : has_ipv4_header bytes at captured ≡ true → 20 ≤ captured
  has_room h =
      enough (first_holds (header_tests bytes at)
      (nat_le 20 captured) refl h)

  -- and it has that length at least
  has_length : has_ipv4_header bytes at captured ≡ true → 20 ≤ header_length bytes at
  has_length h = grind (arith, nat_tests)

  -- a fragment is one on both sides
  fragment_same : 20 ≤ captured → is_fragment bytes at ≡ is_fragment other place
  fragment_same fits =
      let e = u16_same bytes other at place captured same 6 (omega (arith, fits)) in
      λ i. not ((e i / 2 ^ 13 % 2) == 0 && (e i % 2 ^ 13) == 0)

  -- what the packet carries differs in its place alone
  payload_twins : 20 ≤ captured → 20 ≤ header_length bytes at
      → Twins bytes other shift (ipv4_payload bytes at captured) (ipv4_payload other place captured)
  payload_twins fits long =
      let e = length_same (omega (arith, fits)) in
      let f = total_same (omega (arith, fits)) in
      record {
        addresses = addresses_same bytes other at place captured same fits;
        length = λ i. f i - e i;
        captured = λ i. min (f i - e i) (captured - e i);
        start = omega (arith, e, apart);
        behind = omega (arith, e, long);
        same = record {
          each = λ i j k from to below. same.each i j (header_length bytes at + k) (omega (arith, from)) (omega (arith, to, e)) (omega (arith, below));
        };
      }

  -- and is the same packet, whatever the protocol
  by_protocol : 20 ≤ captured → 20 ≤ header_length bytes at → (proto : Option Proto)
      → packet_of_protocol proto bytes (ipv4_payload bytes at captured) ≡ moved shift (packet_of_protocol proto other (ipv4_payload other place captured))
  by_protocol fits long None = refl
  by_protocol fits long (Some Icmp) =
      icmp_same bytes other shift (ipv4_payload bytes at captured) (ipv4_payload other place captured) (payload_twins fits long)
  by_protocol fits long (Some Tcp) =
      tcp_same bytes other shift (ipv4_payload bytes at captured) (ipv4_payload other place captured) (payload_twins fits long)
  by_protocol fits long (Some Udp) =
      udp_same bytes other shift (ipv4_payload bytes at captured) (ipv4_payload other place captured) (payload_twins fits long)

  -- behind all tests
  tracked_same : 20 ≤ captured → 20 ≤ header_length bytes at
      → packet_of_protocol (tracked_protocol (protocol bytes at)) bytes (ipv4_payload bytes at captured)
      ≡ moved shift (packet_of_protocol (tracked_protocol (protocol other place)) other (ipv4_payload other place captured))
  tracked_same fits long =
      let e = same.each (at + 9) (place + 9) 9 refl refl (omega (arith, fits)) in
      (λ i. packet_of_protocol (tracked_protocol (e i)) bytes (ipv4_payload bytes at captured))
      ∙ by_protocol fits long (tracked_protocol (protocol other place))

  -- behind the test for a fragment
  whole_same : 20 ≤ captured → 20 ≤ header_length bytes at
      → whole bytes at captured ≡ moved shift (whole other place captured)
  whole_same fits long =
      chosen (moved shift) (is_fragment bytes at) (is_fragment other place)
      (Untracked untracked.Fragment) (tracked bytes at captured) (Untracked untracked.Fragment) (tracked other place captured)
      (fragment_same fits) (λ h. refl) (λ h. tracked_same fits long)

  -- behind the test of the header
  right_same : right bytes at captured ≡ moved shift (right other place captured)
  right_same =
      let e = has_header_same in
      chosen (moved shift) (not (has_ipv4_header bytes at captured)) (not (has_ipv4_header other place captured))
      Invalid (whole bytes at captured) Invalid (whole other place captured)
      (λ i. not (e i)) (λ h. refl)
      (λ h. whole_same (has_room (holds (has_ipv4_header bytes at captured) h)) (has_length (holds (has_ipv4_header bytes at captured) h)))

  -- behind the test of the version
  of_version_same : (link : Link) → 0 < captured → of_version link bytes at captured ≡ moved shift (of_version link other place captured)
  of_version_same link fits =
      let e = same.each at place 0 (omega arith) (omega arith) fits in
      chosen (moved shift) (not (version bytes at == 4)) (not (version other place == 4))
      (packet_of_version link (version bytes at)) (right bytes at captured)
      (packet_of_version link (version other place)) (right other place captured)
      (λ i. not ((e i / 16) == 4))
      (λ h. (λ i. packet_of_version link (e i / 16)) ∙ version_same link (version other place))
      (λ h. right_same)

  -- an IP packet
  pub ip_same : (link : Link) → ip_packet link bytes at captured ≡ moved shift (ip_packet link other place captured)
  unfolding ip_packet
  ip_same link =
      chosen (moved shift) (captured == 0) (captured == 0) Invalid (of_version link bytes at captured) Invalid (of_version link other place captured)
      refl (λ h. refl) (λ h. of_version_same link (some captured h))

-- a frame's first bytes at two places are one frame, moved
module _ (bytes other : List ℕ) (at place captured shift : ℕ) (same : Same bytes other at place captured) (apart : at ≡ place + shift) where
  -- room for an Ethernet header
  room : nat_lt captured 14 ≡ false → 14 ≤ captured
  room h = grind (arith, nat_tests)

  -- the packet behind it
  behind_same : 14 ≤ captured
      → ip_packet Ethernet bytes (at + 14) (captured - 14) ≡ moved shift (ip_packet Ethernet other (place + 14) (captured - 14))
  behind_same fits =
      ip_same bytes other (at + 14) (place + 14) (captured - 14) shift
      (same_behind bytes other at place captured same (at + 14) (place + 14) 14 (captured - 14) refl refl (omega (arith, fits)))
      (omega (arith, apart)) Ethernet

  -- behind the test for room
  typed_same : 14 ≤ captured → typed bytes at captured ≡ moved shift (typed other place captured)
  typed_same fits =
      let e = u16_same bytes other at place captured same 12 (omega (arith, fits)) in
      chosen (moved shift) (not (big_u16_at bytes (at + 12) == 0x0800)) (not (big_u16_at other (place + 12) == 0x0800))
      (Untracked untracked.Link) (ip_packet Ethernet bytes (at + 14) (captured - 14))
      (Untracked untracked.Link) (ip_packet Ethernet other (place + 14) (captured - 14))
      (λ i. not (e i == 0x0800)) (λ h. refl) (λ h. behind_same fits)

  -- an Ethernet frame
  ethernet_same : ethernet_frame bytes at captured ≡ moved shift (ethernet_frame other place captured)
  unfolding ethernet_frame
  ethernet_same =
      chosen (moved shift) (nat_lt captured 14) (nat_lt captured 14) Invalid (typed bytes at captured) Invalid (typed other place captured)
      refl (λ h. refl) (λ h. typed_same (room h))

  -- a frame of any link
  pub classify_same : (link : Link) → packet_behind link bytes at captured ≡ moved shift (packet_behind link other place captured)
  classify_same Ethernet = ethernet_same
  classify_same Raw = ip_same bytes other at place captured shift same apart Raw

-- a frame in its file, and in a file of its own
pub frame_alone : ReadsTheFrameAlone
unfolding packet_of
frame_alone bytes frame =
    classify_same bytes (captured_bytes bytes frame) frame.start 0 frame.captured frame.start
    (same_part bytes frame.start frame.captured) (omega arith) frame.link

-- equal frames, each in a file of its own
same_alone : (bytes other : List ℕ) (frame twin : Frame) → frame.link ≡ twin.link → frame.captured ≡ twin.captured
    → captured_bytes bytes frame ≡ captured_bytes other twin
    → packet_of (captured_bytes other twin) (alone twin) ≡ packet_of (captured_bytes bytes frame) (alone frame)
unfolding packet_of
same_alone bytes other frame twin link captured same =
    sym (λ i. packet_behind (link i) (same i) 0 (captured i))

-- equal frames in their files
pub equal_frames : EqualFramesAreEqualPackets
equal_frames bytes other frame twin link captured same =
    let packet = packet_of (captured_bytes bytes frame) (alone frame) in
    let there = same_alone bytes other frame twin link captured same in
    (packet, frame_alone bytes frame, frame_alone other twin ∙ (λ i. moved twin.start (there i)))
