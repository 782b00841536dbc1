-- One record of a capture file (pcap 2.4): 16 bytes with the seconds, the fraction of a second, the
-- captured length and the length that the frame had, and then the captured bytes. The last length is
-- not tested.
use Rattle.std.specs.Prelude.{ℕ, ◌+◌, ◌*◌, ◌/◌, nat_lt, nat_le, if◌then◌else◌, List, length, Result, Ok, Err}
use Rattle.packet_headers.specs.declared.frame.Frame.{Frame}
use Rattle.packet_headers.specs.declared.capture.Resolution.{Resolution}
use Rattle.packet_headers.specs.declared.capture.Resolution.TheVariants.{Microseconds, Nanoseconds}
use Rattle.packet_headers.specs.declared.capture.Form.{Form}
use Rattle.packet_headers.specs.declared.capture.RecordFault.{RecordFault}
use Rattle.packet_headers.specs.declared.capture.RecordFault.TheVariants.{Cut, Oversized, BadFraction}
use Rattle.packet_headers.specs.ByteOrder.{u32_at}

-- the parts of a second in which the fraction counts
abbrev pub parts_of_second : Resolution → ℕ
parts_of_second Microseconds = 1000000
parts_of_second Nanoseconds = 1000000000

-- the fraction in microseconds, rounded down
abbrev pub microseconds_of : Resolution → ℕ → ℕ
microseconds_of Microseconds fraction = fraction
microseconds_of Nanoseconds fraction = fraction / 1000

abbrev pub most_captured : ℕ
most_captured = 262144

abbrev pub seconds_at : List ℕ → Form → ℕ → ℕ
seconds_at bytes form at = u32_at form.layout.order bytes at

abbrev pub fraction_at : List ℕ → Form → ℕ → ℕ
fraction_at bytes form at = u32_at form.layout.order bytes (at + 4)

abbrev pub captured_at : List ℕ → Form → ℕ → ℕ
captured_at bytes form at = u32_at form.layout.order bytes (at + 8)

abbrev pub original_at : List ℕ → Form → ℕ → ℕ
original_at bytes form at = u32_at form.layout.order bytes (at + 12)

abbrev pub frame_of : List ℕ → Form → ℕ → Frame
frame_of bytes form at = record {
  moment = seconds_at bytes form at * 1000000 + microseconds_of form.layout.resolution (fraction_at bytes form at);
  start = at + 16;
  captured = captured_at bytes form at;
  original = original_at bytes form at;
  link = form.link;
}

-- where the next record begins
abbrev pub frame_end : Frame → ℕ
frame_end frame = frame.start + frame.captured

-- the frame of the record that stands there, or the first of the record's faults
unfoldable pub record_at : List ℕ → Form → ℕ → Result Frame RecordFault
record_at bytes form at =
    (if nat_lt (length bytes) (at + 16) then Err Cut else
    (if nat_lt most_captured (captured_at bytes form at) then Err Oversized else
    (if nat_le (parts_of_second form.layout.resolution) (fraction_at bytes form at) then Err BadFraction else
    (if nat_lt (length bytes) (frame_end (frame_of bytes form at)) then Err Cut else
    Ok (frame_of bytes form at)))))
