-- Where the records of a capture end, and with which fault, is determined by its bytes.
use Rattle.std.proofs.Common.{◌≡◌, ℕ, ◌+◌, true, ltb, ◌⊎◌, List, [], ◌∷◌, length, Ok, Err, refl, sym, ap, ◌∙◌, subst, inl, inr, arith}
use Rattle.std.proofs.lemmas.Bool.Decides.{nat_tests}
use Rattle.packet_headers.specs.declared.frame.Frame.{Frame}
use Rattle.packet_headers.specs.declared.capture.CaptureFault.{CaptureFault}
use Rattle.packet_headers.specs.declared.capture.CaptureFault.TheVariants.{ShortHeader, BadMagic, BadVersion, LinkType, CutRecord, TooLong, Fraction}
use Rattle.packet_headers.specs.declared.capture.Form.{Form}
use Rattle.packet_headers.specs.declared.capture.RecordFault.{RecordFault}
use Rattle.packet_headers.specs.declared.capture.RecordFault.TheVariants.{Cut, Oversized, BadFraction}
use Rattle.packet_headers.specs.CaptureHeader.{header_of}
use Rattle.packet_headers.specs.CaptureRecord.{frame_end, record_at}
use Rattle.packet_headers.specs.Capture.{first_record, Records, IsCapture, IsBroken, HasFault, capture_fault_of}

-- two rows of records from one place, each up to where no frame stands, are the same
one_end : (bytes : List ℕ) (form : Form) (at end stop : ℕ) (frames others : List Frame) (fault other : RecordFault)
    → record_at bytes form end ≡ Err fault → record_at bytes form stop ≡ Err other
    → Records bytes form at frames end → Records bytes form at others stop → (frames ≡ others) × (end ≡ stop)
one_end bytes form at end stop [] [] fault other ends stops here there = (refl, sym here ∙ there)
one_end bytes form at end stop [] (g ∷ gs) fault other ends stops here (begins, rest) = cc
one_end bytes form at end stop (f ∷ fs) [] fault other ends stops (begins, rest) there = cc
one_end bytes form at end stop (f ∷ fs) (g ∷ gs) fault other ends stops (begins, rest) (starts, further) =
    let same : f ≡ g = cc in
    let there = subst (λ (h : Frame). Records bytes form (frame_end h) gs stop) (sym same) further in
    let found = one_end bytes form (frame_end f) end stop fs gs fault other ends stops rest there in
    (ap (λ h. h ∷ fs) same ∙ ap (λ hs. g ∷ hs) found.0, found.1)

-- no frame stands at the end of the bytes
end_stops : (bytes : List ℕ) (form : Form) → record_at bytes form (length bytes) ≡ Err Cut
unfolding record_at
end_stops bytes form = let past : ltb (length bytes) (length bytes + 16) ≡ true = grind (arith, nat_tests) in rw past refl

one_form : (bytes : List ℕ) (form other : Form) → header_of bytes ≡ Ok form → header_of bytes ≡ Ok other → form ≡ other
one_form bytes form other h k = cc

pub one_capture : (bytes : List ℕ) (frames others : List Frame) → IsCapture bytes frames → IsCapture bytes others → frames ≡ others
one_capture bytes frames others a b =
    let same = one_form bytes b.form a.form b.header a.header in
    let there = subst (λ f. Records bytes f first_record others (length bytes)) same b.records in
    (one_end bytes a.form first_record (length bytes) (length bytes) frames others Cut Cut
    (end_stops bytes a.form) (end_stops bytes a.form) a.records there).0

not_broken : (bytes : List ℕ) (frames : List Frame) (index offset : ℕ) (fault : RecordFault)
    → IsCapture bytes frames → IsBroken bytes index offset fault → ⊥
not_broken bytes frames index offset fault a b =
    let same = one_form bytes a.form b.form a.header b.header in
    let there = subst (λ f. Records bytes f first_record frames (length bytes)) same a.records in
    let found = one_end bytes b.form first_record (length bytes) offset frames b.frames Cut fault
    (end_stops bytes b.form) b.broken there b.records in
    omega (arith, found.1, b.inside)

one_fault : (bytes : List ℕ) (form : Form) (at place : ℕ) (fault other : RecordFault)
    → at ≡ place → record_at bytes form at ≡ Err fault → record_at bytes form place ≡ Err other → fault ≡ other
one_fault bytes form at place fault other e h k = cc

-- a broken record is the only one
one_break : (bytes : List ℕ) (index other offset place : ℕ) (fault kind : RecordFault)
    → IsBroken bytes index offset fault → IsBroken bytes other place kind
    → (index ≡ other) × (offset ≡ place) × (fault ≡ kind)
one_break bytes index other offset place fault kind a b =
    let same = one_form bytes b.form a.form b.header a.header in
    let there = subst (λ f. Records bytes f first_record b.frames place) same b.records in
    let stops = subst (λ f. record_at bytes f place ≡ Err kind) same b.broken in
    let found = one_end bytes a.form first_record offset place a.frames b.frames fault kind a.broken stops a.records there in (
      sym a.number ∙ ap (λ fs. length fs) found.0 ∙ b.number,
      found.1,
      one_fault bytes a.form offset place fault kind found.1 a.broken stops,
    )

-- a fault of a record, with what the record is
record IsTold (bytes : List ℕ) (told : CaptureFault) : Type 0 where
  fault : RecordFault
  index : ℕ
  offset : ℕ
  broken : IsBroken bytes index offset fault
  same : told ≡ capture_fault_of fault index offset

-- a fault is the header's or a record's
sources : (bytes : List ℕ) (told : CaptureFault) → HasFault bytes told → (header_of bytes ≡ Err told) ⊎ IsTold bytes told
sources bytes ShortHeader h = inl h
sources bytes BadMagic h = inl h
sources bytes BadVersion h = inl h
sources bytes (LinkType number) h = inl h
sources bytes (CutRecord index offset) h = inr (record { fault = Cut; index = index; offset = offset; broken = h; same = refl })
sources bytes (TooLong index) (offset, h) = inr (record { fault = Oversized; index = index; offset = offset; broken = h; same = refl })
sources bytes (Fraction index) (offset, h) = inr (record { fault = BadFraction; index = index; offset = offset; broken = h; same = refl })

header_holds : (bytes : List ℕ) (form : Form) (told : CaptureFault) → header_of bytes ≡ Ok form → header_of bytes ≡ Err told → ⊥
header_holds bytes form told h k = cc

same_header : (bytes : List ℕ) (told other : CaptureFault) → header_of bytes ≡ Err told → header_of bytes ≡ Err other → told ≡ other
same_header bytes told other h k = cc

same_told : (bytes : List ℕ) (told other : CaptureFault) → IsTold bytes told → IsTold bytes other → told ≡ other
same_told bytes told other a b =
    let same = one_break bytes a.index b.index a.offset b.offset a.fault b.fault a.broken b.broken in
    a.same ∙ ap (λ f. capture_fault_of f a.index a.offset) same.2
    ∙ ap (λ i. capture_fault_of b.fault i a.offset) same.0
    ∙ ap (λ o. capture_fault_of b.fault b.index o) same.1 ∙ sym b.same

same_source : (bytes : List ℕ) (told other : CaptureFault)
    → (header_of bytes ≡ Err told) ⊎ IsTold bytes told → (header_of bytes ≡ Err other) ⊎ IsTold bytes other → told ≡ other
same_source bytes told other (inl h) (inl k) = same_header bytes told other h k
same_source bytes told other (inl h) (inr b) = absurd (header_holds bytes b.broken.form told b.broken.header h)
same_source bytes told other (inr a) (inl k) = absurd (header_holds bytes a.broken.form other a.broken.header k)
same_source bytes told other (inr a) (inr b) = same_told bytes told other a b

pub one_told : (bytes : List ℕ) (told other : CaptureFault) → HasFault bytes told → HasFault bytes other → told ≡ other
one_told bytes told other h k = same_source bytes told other (sources bytes told h) (sources bytes other k)

no_source : (bytes : List ℕ) (frames : List Frame) (told : CaptureFault)
    → IsCapture bytes frames → (header_of bytes ≡ Err told) ⊎ IsTold bytes told → ⊥
no_source bytes frames told a (inl h) = header_holds bytes a.form told a.header h
no_source bytes frames told a (inr b) = not_broken bytes frames b.index b.offset b.fault a b.broken

pub none_told : (bytes : List ℕ) (frames : List Frame) (told : CaptureFault) → IsCapture bytes frames → HasFault bytes told → ⊥
none_told bytes frames told a h = no_source bytes frames told a (sources bytes told h)
