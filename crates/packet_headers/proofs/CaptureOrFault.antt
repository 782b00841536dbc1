-- Each list of bytes is a capture file of some frames, or has a fault.
use Rattle.std.proofs.Common.{◌≡◌, ℕ, zero, suc, ◌+◌, ◌<◌, ◌≤◌, Bool, true, false, ltb, cond, ◌⊎◌, Option, Some, None, List, [], ◌∷◌, length, Result, Ok, Err, refl, subst, inl, inr, arith}
use Rattle.std.specs.Prelude.{if◌then◌else◌, nat_le, nat_lt}
use Rattle.std.proofs.lemmas.Bool.Decides.{nat_tests}
use Rattle.packet_headers.specs.declared.frame.Frame.{Frame}
use Rattle.packet_headers.specs.declared.frame.Link.{Link}
use Rattle.packet_headers.specs.declared.capture.CaptureFault.{CaptureFault}
use Rattle.packet_headers.specs.declared.capture.CaptureFault.TheVariants.{ShortHeader, BadMagic, BadVersion, LinkType, CutRecord, TooLong, Fraction}
use Rattle.packet_headers.specs.declared.capture.Form.{Form}
use Rattle.packet_headers.specs.declared.capture.Layout.{Layout}
use Rattle.packet_headers.specs.declared.capture.RecordFault.{RecordFault}
use Rattle.packet_headers.specs.declared.capture.RecordFault.TheVariants.{Cut, Oversized, BadFraction}
use Rattle.packet_headers.specs.CaptureHeader.{form_in, form_of, has_version, header_of, layout_at, link_number, link_of}
use Rattle.packet_headers.specs.CaptureRecord.{captured_at, fraction_at, frame_end, frame_of, most_captured, parts_of_second, record_at}
use Rattle.packet_headers.specs.Capture.{first_record, Records, IsCapture, IsBroken, HasFault, capture_fault_of}

-- a test that would have ended in a fault did not hold
passed : {X E : Type 0} (test : Bool) (fault : E) (next : Result X E) (x : X)
    → cond test (Err fault) next ≡ Ok x → (test ≡ false) × (next ≡ Ok x)
passed true fault next x h = cc
passed false fault next x h = (refl, h)

-- one record is one frame
same_frame : (found : Result Frame RecordFault) (frame other : Frame) → found ≡ Ok frame → found ≡ Ok other → frame ≡ other
same_frame found frame other h k = cc

-- its end, where the last test for a cut record did not hold
ends_of : (bytes : List ℕ) (at captured : ℕ) → nat_lt (length bytes) (at + 16 + captured) ≡ false
    → (at < at + 16 + captured) × (at + 16 + captured ≤ length bytes)
ends_of bytes at captured h = (omega arith, grind (arith, nat_tests))

-- a whole record ends behind its place, and within the bytes
record_ends : (bytes : List ℕ) (form : Form) (at : ℕ) (frame : Frame) → record_at bytes form at ≡ Ok frame
    → (at < frame_end frame) × (frame_end frame ≤ length bytes)
unfolding record_at
record_ends bytes form at frame h =
    let last = (if nat_lt (length bytes) (frame_end (frame_of bytes form at)) then Err Cut else Ok (frame_of bytes form at)) in
    let third = (if nat_le (parts_of_second form.layout.resolution) (fraction_at bytes form at) then Err BadFraction else last) in
    let second = (if nat_lt most_captured (captured_at bytes form at) then Err Oversized else third) in
    let p = passed (nat_lt (length bytes) (at + 16)) Cut second frame h in
    let q = passed (nat_lt most_captured (captured_at bytes form at)) Oversized third frame p.1 in
    let r = passed (nat_le (parts_of_second form.layout.resolution) (fraction_at bytes form at)) BadFraction last frame q.1 in
    let s = passed (nat_lt (length bytes) (frame_end (frame_of bytes form at))) Cut (Ok (frame_of bytes form at)) frame r.1 in
    let same : frame_of bytes form at ≡ frame = same_frame (Ok (frame_of bytes form at)) (frame_of bytes form at) frame refl s.1 in
    subst (λ (f : Frame). (at < frame_end f) × (frame_end f ≤ length bytes)) same (ends_of bytes at (captured_at bytes form at) s.0)

-- what stands in the bytes from a place on: records up to a record with a fault
record Breaks (bytes : List ℕ) (form : Form) (at : ℕ) : Type 0 where
  frames : List Frame
  offset : ℕ
  fault : RecordFault
  records : Records bytes form at frames offset
  inside : offset < length bytes
  broken : record_at bytes form offset ≡ Err fault

-- or records up to the end
record Fills (bytes : List ℕ) (form : Form) (at : ℕ) : Type 0 where
  frames : List Frame
  records : Records bytes form at frames (length bytes)

-- a whole record in front of what is known of the bytes behind it
more : (bytes : List ℕ) (form : Form) (at : ℕ) (frame : Frame) → record_at bytes form at ≡ Ok frame
    → Fills bytes form (frame_end frame) ⊎ Breaks bytes form (frame_end frame) → Fills bytes form at ⊎ Breaks bytes form at
more bytes form at frame here (inl f) = inl (record { frames = frame ∷ f.frames; records = (here, f.records) })
more bytes form at frame here (inr b) = inr (record {
  frames = frame ∷ b.frames;
  offset = b.offset;
  fault = b.fault;
  records = (here, b.records);
  inside = b.inside;
  broken = b.broken;
})

-- at the end of the bytes no record is left
at_end : (bytes : List ℕ) (form : Form) (at : ℕ) → at ≡ length bytes → Fills bytes form at
at_end bytes form at h = record { frames = []; records = h }

-- what the record at a place says of the bytes from there on, if behind whole records is known what stands
here_on : (bytes : List ℕ) (form : Form) (at : ℕ) → at < length bytes
    → ((frame : Frame) → record_at bytes form at ≡ Ok frame → Fills bytes form (frame_end frame) ⊎ Breaks bytes form (frame_end frame))
    → (found : Result Frame RecordFault) → record_at bytes form at ≡ found → Fills bytes form at ⊎ Breaks bytes form at
here_on bytes form at inside further (Ok frame) here = more bytes form at frame here (further frame here)
here_on bytes form at inside further (Err fault) here =
    inr (record { frames = []; offset = at; fault = fault; records = refl; inside = inside; broken = here })

-- the same, also at the end
from_here : (bytes : List ℕ) (form : Form) (at : ℕ) → at ≤ length bytes
    → ((frame : Frame) → record_at bytes form at ≡ Ok frame → Fills bytes form (frame_end frame) ⊎ Breaks bytes form (frame_end frame))
    → (test : Bool) → ltb at (length bytes) ≡ test → Fills bytes form at ⊎ Breaks bytes form at
from_here bytes form at within further true h = here_on bytes form at (grind (arith, nat_tests)) further (record_at bytes form at) refl
from_here bytes form at within further false h = inl (at_end bytes form at (grind (arith, nat_tests)))

-- each record ends behind its place, so that so many steps are enough
walk : (steps : ℕ) (bytes : List ℕ) (form : Form) (at : ℕ) → at ≤ length bytes → length bytes ≤ at + steps
    → Fills bytes form at ⊎ Breaks bytes form at
walk zero bytes form at within enough = inl (at_end bytes form at (omega arith))
walk (suc steps) bytes form at within enough =
    from_here bytes form at within
    (λ frame here. walk steps bytes form (frame_end frame) (record_ends bytes form at frame here).1
    (omega (arith, (record_ends bytes form at frame here).0, enough)))
    (ltb at (length bytes)) refl

-- the faults that a header may have
abbrev IsOfHeader : Result Form CaptureFault → Type 0
IsOfHeader (Ok form) = Unit {0}
IsOfHeader (Err ShortHeader) = Unit {0}
IsOfHeader (Err BadMagic) = Unit {0}
IsOfHeader (Err BadVersion) = Unit {0}
IsOfHeader (Err (LinkType number)) = Unit {0}
IsOfHeader (Err (CutRecord index offset)) = ⊥
IsOfHeader (Err (TooLong index)) = ⊥
IsOfHeader (Err (Fraction index)) = ⊥

-- a fault of the header on either side of a test
by_test : (test : Bool) (one other : Result Form CaptureFault) → IsOfHeader one → IsOfHeader other → IsOfHeader (cond test one other)
by_test true one other a b = a
by_test false one other a b = b

-- the link gives a form, or a fault of the header
by_link : (layout : Layout) (number : ℕ) (link : Option Link) → IsOfHeader (form_of layout number link)
by_link layout number (Some link) = tt
by_link layout number None = tt

-- and so does what the magic number says
by_layout : (bytes : List ℕ) (layout : Option Layout) → IsOfHeader (form_in bytes layout)
by_layout bytes None = tt
by_layout bytes (Some layout) =
    let number = link_number layout.order bytes in
    by_test (has_version layout.order bytes) (form_of layout number (link_of number)) (Err BadVersion)
    (by_link layout number (link_of number)) tt

-- the header of a file has no fault of a record
of_header : (bytes : List ℕ) → IsOfHeader (header_of bytes)
unfolding header_of
of_header bytes = by_test (nat_lt (length bytes) 24) (Err ShortHeader) (form_in bytes (layout_at bytes)) tt (by_layout bytes (layout_at bytes))

-- a fault of the header is a fault of the bytes
header_fault : (bytes : List ℕ) (fault : CaptureFault) → header_of bytes ≡ Err fault → HasFault bytes fault
header_fault bytes ShortHeader h = h
header_fault bytes BadMagic h = h
header_fault bytes BadVersion h = h
header_fault bytes (LinkType number) h = h
header_fault bytes (CutRecord index offset) h = absurd (subst IsOfHeader h (of_header bytes))
header_fault bytes (TooLong index) h = absurd (subst IsOfHeader h (of_header bytes))
header_fault bytes (Fraction index) h = absurd (subst IsOfHeader h (of_header bytes))

-- a record with a fault is a fault of the bytes
record_fault : (bytes : List ℕ) (index offset : ℕ) (fault : RecordFault)
    → IsBroken bytes index offset fault → HasFault bytes (capture_fault_of fault index offset)
record_fault bytes index offset Cut broken = broken
record_fault bytes index offset Oversized broken = (offset, broken)
record_fault bytes index offset BadFraction broken = (offset, broken)

-- room for a header
enough : (n : ℕ) → nat_lt n 24 ≡ false → 24 ≤ n
enough n h = grind (arith, nat_tests)

-- a file with a header has room for it
header_fits : (bytes : List ℕ) (form : Form) → header_of bytes ≡ Ok form → first_record ≤ length bytes
unfolding header_of
header_fits bytes form h =
    enough (length bytes) (passed (nat_lt (length bytes) 24) ShortHeader (form_in bytes (layout_at bytes)) form h).0

abbrev Ends : List ℕ → Type 0
Ends bytes = ((frames : List Frame) × IsCapture bytes frames) ⊎ ((fault : CaptureFault) × HasFault bytes fault)

-- what stands behind the header decides
behind : (bytes : List ℕ) (form : Form) → header_of bytes ≡ Ok form
    → Fills bytes form first_record ⊎ Breaks bytes form first_record → Ends bytes
behind bytes form header (inl f) = inl (f.frames, record { form = form; header = header; records = f.records })
behind bytes form header (inr b) =
    inr (
      capture_fault_of b.fault (length b.frames) b.offset,
      record_fault bytes (length b.frames) b.offset b.fault (record {
        form = form;
        header = header;
        frames = b.frames;
        number = refl;
        records = b.records;
        inside = b.inside;
        broken = b.broken;
      }),
    )

-- the header decides first
by_header : (bytes : List ℕ) (found : Result Form CaptureFault) → header_of bytes ≡ found → Ends bytes
by_header bytes (Ok form) h =
    behind bytes form h (walk (length bytes) bytes form first_record (header_fits bytes form h) (omega arith))
by_header bytes (Err fault) h = inr (fault, header_fault bytes fault h)

-- bytes are a capture, or are told a fault
pub captured_or_told : (bytes : List ℕ) → Ends bytes
captured_or_told bytes = by_header bytes (header_of bytes) refl
