-- The captures of a made workload, read one after another.
use Rattle.std.proofs.Common.{◌≡◌, ◌∙◌, ℕ, ◌+◌, ◌*◌, ◌/◌, ◌≤◌, List, [], ◌∷◌, ◌++◌, length, map, Some, refl, sym, subst, ap, arith, append_assoc, append-nil}
use Rattle.std.specs.Prelude.{All, remove, slice_get}
use Rattle.std.specs.List.{AllByRecursion, range_with_len}
use Rattle.std.proofs.Math.Nat.{mul-le-mul_left, mul_left_comm}
use Rattle.std.proofs.lemmas.List.{length-append, length-map, map-append}
use Rattle.std.proofs.lemmas.List.Elements.{All-append, All-cons, All-nil}
use Rattle.std.proofs.lemmas.List.FromFn.{length-map-range_with_len}
use Rattle.packet_headers.specs.Frames.{frames_in}
use Rattle.packet_headers.specs.declared.frame.Capture.{Capture}
use Rattle.command_words.specs.Words.{IsWorkloadWithin, Workload}
use Rattle.made_captures.specs.Laws.{MadeCapturesHaveNoFault, MadeCapturesHaveNoOtherFrames}
use Rattle.made_captures.specs.MadeCapture.{contents, made_capture, made_captures}
use Rattle.made_captures.specs.MadeFrames.{made_frame}
use Rattle.packet_headers.specs.Capture.{AreInside, AreTimely, HasFault, IsCapture}
use Rattle.packet_headers.specs.declared.capture.CaptureFault.{CaptureFault}
use Rattle.packet_headers.specs.declared.frame.Frame.{Frame}
use Rattle.room_list.specs.Roomed.{Roomed}
use Rattle.run_inputs.specs.Content.{Content, frames}
use Rattle.run_inputs.specs.Made.{AreCaptures, AreMade}
use Rattle.run_inputs.specs.Reading.{bytes_in, contents_in}
use Rattle.run_inputs.specs.Ready.{CanReplay}

-- the bytes of a file that is made
abbrev pub IsMadeFile : Workload → List ℕ → Type 0
IsMadeFile w bytes = (thread : ℕ) × (bytes ≡ made_capture w.seed w.packets thread)

all_made : (w : Workload) (threads : List ℕ) → AllByRecursion (IsMadeFile w) (map (made_capture w.seed w.packets) threads)
all_made w [] = tt
all_made w (thread ∷ threads) = ((thread, refl), all_made w threads)

-- the first of the files are read as these captures, and these are left
pub record Reading (w : Workload) (captures : List Capture) (left : List (Roomed ℕ)) : Type 0 where
  pub together : bytes_in captures ++ contents left ≡ made_captures w.seed w.packets w.threads
  pub made : AllByRecursion (IsMadeFile w) (contents left)
  pub say : AreCaptures (bytes_in captures) (contents_in captures)
  pub inside : All (λ (c : Capture). AreInside c.bytes.items c.frames.items) captures
  pub timely : All (λ (c : Capture). AreTimely c.frames.items) captures
  pub frames : frames_in captures ≡ length captures * w.packets

-- a file that was read as this capture
pub record IsReadAs (file : Roomed ℕ) (c : Capture) : Type 0 where
  pub bytes : c.bytes.items ≡ file.items
  pub says : IsCapture file.items c.frames.items
  pub inside : AreInside file.items c.frames.items
  pub timely : AreTimely c.frames.items

pub nothing_read : (w : Workload) (left : List (Roomed ℕ)) → contents left ≡ made_captures w.seed w.packets w.threads → Reading w [] left
nothing_read w left made = record {
  together = made;
  made = subst (λ (files : List (List ℕ)). AllByRecursion (IsMadeFile w) files) (sym made) (all_made w (range_with_len 0 w.threads));
  say = tt;
  inside = All-nil _;
  timely = All-nil _;
  frames = omega arith;
}

say_more : (bytes : List (List ℕ)) (said : List Content) (b : List ℕ) (f : List Frame) → AreCaptures bytes said → IsCapture b f
    → AreCaptures (bytes ++ b ∷ []) (said ++ frames f ∷ [])
say_more [] [] b f say is = (is, tt)
say_more [] (content ∷ said) b f say is = absurd say
say_more (bytes ∷ more) [] b f say is = absurd say
say_more (bytes ∷ more) (content ∷ said) b f say is = (say.0, say_more more said b f say.1 is)

frames_more : (captures : List Capture) (c : Capture) → frames_in (captures ++ c ∷ []) ≡ frames_in captures + length c.frames.items
frames_more [] c = omega arith
frames_more (d ∷ captures) c = omega (arith, frames_more captures c)

-- a made file that is read has a frame for each packet
frames_made : (w : Workload) (bytes : Roomed ℕ) (c : Capture) → MadeCapturesHaveNoOtherFrames → w.packets ≤ 262144 → IsMadeFile w bytes.items
    → IsReadAs bytes c → length c.frames.items ≡ w.packets
frames_made w bytes c others few made is =
    let own : IsCapture (made_capture w.seed w.packets made.0) c.frames.items =
    subst (λ (b : List ℕ). IsCapture b c.frames.items) made.1 is.says in
    ap (λ (f : List Frame). length f) (others w.seed w.packets made.0 c.frames.items few own)
    ∙ length-map-range_with_len (made_frame w.seed made.0) 0 w.packets

once_more : (k packets : ℕ) → (k + 1) * packets ≡ k * packets + packets
once_more k packets = grind arith

one_read : (w : Workload) (captures : List Capture) (bytes : Roomed ℕ) (left : List (Roomed ℕ)) (c : Capture) → MadeCapturesHaveNoOtherFrames
    → w.packets ≤ 262144 → Reading w captures (bytes ∷ left) → IsReadAs bytes c → Reading w (captures ++ c ∷ []) left
one_read w captures bytes left c others few r is = record {
  together = rw (map-append (λ (d : Capture). d.bytes.items) captures (c ∷ []), is.bytes, append_assoc) r.together;
  made = r.made.1;
  say = rw (map-append (λ (d : Capture). d.bytes.items) captures (c ∷ []), map-append (λ (d : Capture). frames d.frames.items) captures (c ∷ []), is.bytes)
      (say_more (bytes_in captures) (contents_in captures) bytes.items c.frames.items r.say is.says);
  inside = All-append (λ (d : Capture). AreInside d.bytes.items d.frames.items) captures (c ∷ []) r.inside
      (All-cons (λ (d : Capture). AreInside d.bytes.items d.frames.items) c [] (rw is.bytes is.inside) (All-nil _));
  timely = All-append (λ (d : Capture). AreTimely d.frames.items) captures (c ∷ []) r.timely (All-cons (λ (d : Capture). AreTimely d.frames.items) c [] is.timely (All-nil _));
  frames =
      let more = frames_more captures c in
      let own = frames_made w bytes c others few r.made.0 is in
      let longer : length (captures ++ c ∷ []) ≡ length captures + 1 = length-append captures (c ∷ []) in
      let product : length (captures ++ c ∷ []) * w.packets ≡ length captures * w.packets + w.packets =
      ap (λ (n : ℕ). n * w.packets) longer ∙ once_more (length captures) w.packets in
      omega (arith, r.frames, more, own, product);
}

-- the file that was taken out of those that were left is read
pub next_read : (w : Workload) (captures : List Capture) (left rest : List (Roomed ℕ)) (bytes : Roomed ℕ) (c : Capture) → MadeCapturesHaveNoOtherFrames
    → w.packets ≤ 262144 → Reading w captures left → slice_get left 0 ≡ Some bytes → rest ≡ remove left 0 → IsReadAs bytes c
    → Reading w (captures ++ c ∷ []) rest
next_read w captures [] rest bytes c others few r first is same = absurd (cc first)
next_read w captures (b ∷ left) rest bytes c others few r first is same =
    let own : IsReadAs b c = subst (λ (x : Roomed ℕ). IsReadAs x c) (cc) same in
    rw is (one_read w captures b left c others few r own)

-- it has no fault
pub next_faultless : (w : Workload) (captures : List Capture) (left : List (Roomed ℕ)) (bytes : Roomed ℕ) → MadeCapturesHaveNoFault
    → w.packets ≤ 262144 → Reading w captures left → slice_get left 0 ≡ Some bytes → (fault : CaptureFault) → HasFault bytes.items fault → ⊥
next_faultless w captures [] bytes none few r first fault has = absurd (cc first)
next_faultless w captures (b ∷ left) bytes none few r first fault has =
    let same : bytes ≡ b = cc in
    let own : bytes.items ≡ made_capture w.seed w.packets r.made.0.0 = ap (λ (x : Roomed ℕ). x.items) same ∙ r.made.0.1 in
    none w.seed w.packets r.made.0.0 fault few (subst (λ (x : List ℕ). HasFault x fault) own has)

-- as many files are read and left as are made
pub counted : (w : Workload) (captures : List Capture) (left : List (Roomed ℕ)) → Reading w captures left → length captures + length left ≡ w.threads
counted w captures left r =
    let whole = ap (λ (files : List (List ℕ)). length files) r.together ∙ length-map-range_with_len (made_capture w.seed w.packets) 0 w.threads in
    let parts = length-append (bytes_in captures) (contents left) in
    let done : length (bytes_in captures) ≡ length captures = length-map captures (λ (c : Capture). c.bytes.items) in
    let more : length (contents left) ≡ length left = length-map left (λ (file : Roomed ℕ). file.items) in
    omega (arith, whole, parts, done, more)

-- all are read
pub all_read : (w : Workload) (captures : List Capture) (left : List (Roomed ℕ)) → Reading w captures left → length left ≡ 0
    → AreMade w (bytes_in captures) (contents_in captures)
all_read w captures [] r none = record { made = rw append-nil at r.together; say = r.say }
all_read w captures (b ∷ left) r none = absurd (omega (arith, none))

few_frames : (threads packets flows : ℕ) → packets ≤ 4 * flows → threads * flows ≤ 65536 → threads * packets ≤ 262144
few_frames threads packets flows few all =
    let most : threads * packets ≤ threads * (4 * flows) = mul-le-mul_left threads few in
    let fours : threads * (4 * flows) ≡ 4 * (threads * flows) = mul_left_comm threads 4 flows in
    omega (arith, most, fours, all)

pub all_ready : (w : Workload) (captures : List Capture) (left : List (Roomed ℕ)) → IsWorkloadWithin 65536 w → Reading w captures left → length left ≡ 0
    → CanReplay captures
all_ready w captures left within r none =
    let all : length captures ≡ w.threads = omega (arith, counted w captures left r) in
    let fours : w.packets ≤ 4 * ((w.packets + 3) / 4) = omega arith in
    let few : w.threads * w.packets ≤ 262144 = few_frames w.threads w.packets ((w.packets + 3) / 4) fours within.few_flows in
    let whole : frames_in captures ≡ w.threads * w.packets = r.frames ∙ ap (λ (n : ℕ). n * w.packets) all in
    record {
      threads = omega (arith, all, within.few_threads);
      few = omega (arith, whole, few);
      inside = r.inside;
      timely = r.timely;
    }
