-- The frames that are read one after the other stand in the bytes.
use Rattle.std.proofs.Common.{◌≡◌, ℕ, ◌+◌, ◌*◌, ◌^◌, ◌≤◌, Bool, true, ◌&&◌, List, [], ◌∷◌, ◌++◌, length, Ok, refl, sym, ◌∙◌, subst, arith, length-append}
use Rattle.std.proofs.lemmas.Bool.Decides.{nat_tests}
use Rattle.std.proofs.lemmas.List.Folds.{list_all-append}
use Rattle.packet_headers.specs.declared.frame.Frame.{Frame}
use Rattle.packet_headers.specs.declared.capture.Form.{Form}
use Rattle.packet_headers.specs.CaptureRecord.{frame_end, record_at}
use Rattle.packet_headers.specs.Capture.{first_record, Records, is_inside, is_timely, AreInside, AreTimely}

-- two tests that hold, and nothing further
both : (a b : Bool) → a ≡ true → b ≡ true → (a && (b && true)) ≡ true
both a b h k = rw (h, k) refl

-- one record more stands there
more_records : (bytes : List ℕ) (form : Form) (at mid : ℕ) (frames : List Frame) (frame : Frame)
    → Records bytes form at frames mid → record_at bytes form mid ≡ Ok frame
    → Records bytes form at (frames ++ frame ∷ []) (frame_end frame)
more_records bytes form at mid [] frame here stands = (subst (λ n. record_at bytes form n ≡ Ok frame) (sym here) stands, refl)
more_records bytes form at mid (first ∷ frames) frame (begins, rest) stands =
    (begins, more_records bytes form (frame_end first) mid frames frame rest stands)

-- these frames were read so far, and the next record is at `at`
pub record HasRead (bytes : List ℕ) (form : Form) (frames : List Frame) (at : ℕ) : Type 0 where
  pub within : at ≤ length bytes
  pub records : Records bytes form first_record frames at
  pub inside : AreInside bytes frames
  pub timely : AreTimely frames
  pub few : 16 * length frames ≤ at

inside_test : (bytes : List ℕ) (frame : Frame) → frame_end frame ≤ length bytes → is_inside bytes frame ≡ true
inside_test bytes frame h = grind (arith, nat_tests)

timely_test : (frame : Frame) → frame.moment ≤ 10 ^ 16 → is_timely frame ≡ true
timely_test frame h = grind (arith, nat_tests)

-- one record more was read
pub read_more : (bytes : List ℕ) (form : Form) (frames new : List Frame) (at : ℕ) (frame : Frame)
    → HasRead bytes form frames at → Ok frame ≡ record_at bytes form at → frame_end frame ≤ length bytes → at + 16 ≤ frame_end frame
    → frame.moment ≤ 10 ^ 16 → new ≡ frames ++ frame ∷ [] → HasRead bytes form new (frame_end frame)
read_more bytes form frames new at frame read stands inside forward timely longer =
    let more : HasRead bytes form (frames ++ frame ∷ []) (frame_end frame) = record {
      within = inside;
      records = more_records bytes form first_record at frames frame read.records (sym stands);
      inside = list_all-append (is_inside bytes) frames (frame ∷ []) ∙ both _ _ read.inside (inside_test bytes frame inside);
      timely = list_all-append is_timely frames (frame ∷ []) ∙ both _ _ read.timely (timely_test frame timely);
      few = omega (arith, read.few, length-append frames (frame ∷ []));
    } in
    subst (λ xs. HasRead bytes form xs (frame_end frame)) (sym longer) more
