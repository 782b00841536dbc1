-- The records of one flow. A second has the packets of 250 flows, so all of a flow's are of one second.
use Rattle.std.specs.Prelude.{ℕ, ◌+◌, ◌*◌, ◌/◌, ◌%◌, List, ◌++◌, length, map}
use Rattle.std.specs.Int.{to_le_bytes, w32}
use Rattle.std.specs.List.{concat, range_with_len}
use Rattle.made_captures.specs.declared.record.Moment.{Moment}
use Rattle.made_captures.specs.MadeCapture.{made_record}

-- when its first packet was captured
abbrev pub first_moment : (flow : ℕ) → Moment
first_moment flow = record { seconds = 1000 + flow / 250; micros = flow % 250 * 4000 }

-- and a packet of it so many milliseconds later
abbrev pub later : Moment → ℕ → Moment
later moment milliseconds = record { seconds = moment.seconds; micros = moment.micros + milliseconds * 1000 }

-- the record of a packet of that moment
abbrev pub recorded : Moment → (packet : List ℕ) → List ℕ
recorded moment packet =
    to_le_bytes w32 moment.seconds ++ to_le_bytes w32 moment.micros
    ++ to_le_bytes w32 (length packet) ++ to_le_bytes w32 (length packet) ++ packet

-- the records of a flow's first packets
abbrev pub flow_records : (seed thread flow count : ℕ) → List ℕ
flow_records seed thread flow count = concat (map (made_record seed thread) (range_with_len (flow * 4) count))
