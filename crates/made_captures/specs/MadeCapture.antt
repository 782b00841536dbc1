-- Made captures, byte by byte: the files of packets that are made from a seed.
use Rattle.std.specs.Prelude.{ℕ, ◌+◌, ◌*◌, ◌/◌, ◌%◌, List, [], ◌∷◌, ◌++◌, length, map}
use Rattle.std.specs.Int.{to_le_bytes, w32}
use Rattle.std.specs.List.{concat, range_with_len}
use Rattle.room_list.specs.Roomed.{Roomed}
use Rattle.made_captures.specs.MadePacket.{made_packet}

-- the header of a capture file (pcap 2.4), lowest byte first: microseconds, version 2.4, two words that
-- are 0, at most 65,535 bytes of a packet, packets with no link header (101)
abbrev pub file_header : List ℕ
file_header =
    0xd4 ∷ 0xc3 ∷ 0xb2 ∷ 0xa1 ∷ 2 ∷ 0 ∷ 4 ∷ 0 ∷ 0 ∷ 0 ∷ 0 ∷ 0 ∷
    0 ∷ 0 ∷ 0 ∷ 0 ∷ 0xff ∷ 0xff ∷ 0 ∷ 0 ∷ 101 ∷ 0 ∷ 0 ∷ 0 ∷ []

-- a record: one each millisecond from second 1000 on, whose packet was captured as a whole
abbrev pub record_of : (index : ℕ) → (packet : List ℕ) → List ℕ
record_of index packet =
    to_le_bytes w32 (1000 + index / 1000) ++ to_le_bytes w32 (index % 1000 * 1000)
    ++ to_le_bytes w32 (length packet) ++ to_le_bytes w32 (length packet) ++ packet

unfoldable pub made_record : (seed thread index : ℕ) → List ℕ
made_record seed thread index = record_of index (made_packet seed thread index)

-- the capture of a thread: so many records
unfoldable pub made_capture : (seed packets thread : ℕ) → List ℕ
made_capture seed packets thread = file_header ++ concat (map (made_record seed thread) (range_with_len 0 packets))

-- the captures of so many threads
abbrev pub made_captures : (seed packets threads : ℕ) → List (List ℕ)
made_captures seed packets threads = map (made_capture seed packets) (range_with_len 0 threads)

-- the bytes of each file
abbrev pub contents : List (Roomed ℕ) → List (List ℕ)
contents files = map (λ (file : Roomed ℕ). file.items) files
