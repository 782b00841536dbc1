-- A capture file (pcap 2.4): a header, and records that follow one another without gaps up to the
-- last byte.
use Rattle.std.specs.Prelude.{◌≡◌, ◌<◌, ◌+◌, ◌^◌, ℕ, Bool, true, nat_le, List, [], ◌∷◌, length, Ok, Err, ⊤}
use Rattle.std.specs.List.{list_all}
use Rattle.packet_headers.specs.declared.frame.Frame.{Frame}
use Rattle.packet_headers.specs.declared.capture.CaptureFault.{CaptureFault}
use Rattle.packet_headers.specs.declared.capture.CaptureFault.TheVariants.{ShortHeader, BadMagic, BadVersion, LinkType, CutRecord, TooLong, Fraction}
use Rattle.packet_headers.specs.declared.capture.CaptureError.{CaptureError}
use Rattle.packet_headers.specs.declared.capture.CaptureError.TheVariants.{Fault, NoMemory}
use Rattle.packet_headers.specs.declared.capture.Form.{Form}
use Rattle.packet_headers.specs.declared.capture.RecordFault.{RecordFault}
use Rattle.packet_headers.specs.declared.capture.RecordFault.TheVariants.{Cut, Oversized, BadFraction}
use Rattle.packet_headers.specs.CaptureHeader.{header_of}
use Rattle.packet_headers.specs.CaptureRecord.{frame_end, record_at}

-- the first byte behind the header
abbrev pub first_record : ℕ
first_record = 24

-- from `at` to `end` stand the records of these frames, one after the other
abbrev pub Records : List ℕ → Form → ℕ → List Frame → ℕ → Type 0
Records bytes form at [] end = at ≡ end
Records bytes form at (frame ∷ frames) end =
    (record_at bytes form at ≡ Ok frame) × Records bytes form (frame_end frame) frames end

-- the bytes are a capture file of these frames
pub record IsCapture (bytes : List ℕ) (frames : List Frame) : Type 0 where
  pub form : Form
  pub header : header_of bytes ≡ Ok form
  pub records : Records bytes form first_record frames (length bytes)

-- behind the header stand `index` whole records, and then, at `offset` and before the end of the
-- bytes, a record with this fault
pub record IsBroken (bytes : List ℕ) (index offset : ℕ) (fault : RecordFault) : Type 0 where
  pub form : Form
  pub header : header_of bytes ≡ Ok form
  pub frames : List Frame
  pub number : length frames ≡ index
  pub records : Records bytes form first_record frames offset
  pub inside : offset < length bytes
  pub broken : record_at bytes form offset ≡ Err fault

-- the bytes are no capture file, and this is the first fault
abbrev pub HasFault : List ℕ → CaptureFault → Type 0
HasFault bytes ShortHeader = header_of bytes ≡ Err ShortHeader
HasFault bytes BadMagic = header_of bytes ≡ Err BadMagic
HasFault bytes BadVersion = header_of bytes ≡ Err BadVersion
HasFault bytes (LinkType number) = header_of bytes ≡ Err (LinkType number)
HasFault bytes (CutRecord index offset) = IsBroken bytes index offset Cut
HasFault bytes (TooLong index) = (offset : ℕ) × IsBroken bytes index offset Oversized
HasFault bytes (Fraction index) = (offset : ℕ) × IsBroken bytes index offset BadFraction

-- why bytes were not read: they have this fault; want of memory says nothing of them
abbrev pub IsReason : List ℕ → CaptureError → Type 0
IsReason bytes (Fault fault) = HasFault bytes fault
IsReason bytes NoMemory = ⊤

-- the fault of the record of this number, which begins at this offset
abbrev pub capture_fault_of : RecordFault → ℕ → ℕ → CaptureFault
capture_fault_of Cut index offset = CutRecord index offset
capture_fault_of Oversized index offset = TooLong index
capture_fault_of BadFraction index offset = Fraction index

-- the frame's bytes are bytes of the file
abbrev pub is_inside : List ℕ → Frame → Bool
is_inside bytes frame = nat_le (frame.start + frame.captured) (length bytes)

-- the moment is one that four bytes of seconds and a fraction can name
abbrev pub is_timely : Frame → Bool
is_timely frame = nat_le frame.moment (10 ^ 16)

abbrev pub AreInside : List ℕ → List Frame → Type 0
AreInside bytes frames = list_all (is_inside bytes) frames ≡ true

abbrev pub AreTimely : List Frame → Type 0
AreTimely frames = list_all is_timely frames ≡ true
