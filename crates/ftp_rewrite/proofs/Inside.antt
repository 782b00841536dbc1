-- A frame that is taken from its capture lies in its bytes, and the segment of an event is that of the captures as they are
-- told of.
use Rattle.std.proofs.Common.{◌≡◌, ℕ, suc, zero, ◌+◌, ◌≤◌, Bool, true, List, [], ◌∷◌, length, map, Option, Some, None, refl, sym, ap, ◌∙◌, subst, arith}
use Rattle.std.specs.Prelude.{All, slice_get, nat_le}
use Rattle.std.specs.List.{list_all}
use Rattle.std.specs.Option.{option_map}
use Rattle.std.proofs.lemmas.Bool.{and_parts}
use Rattle.std.proofs.lemmas.Bool.Decides.{nat_tests}
use Rattle.std.proofs.lemmas.Option.{get_or_from_slice_get, slice_get-map, slice_get_within}
use Rattle.packet_headers.specs.declared.frame.Capture.{Capture}
use Rattle.history_book.specs.declared.event.Numbered.{Numbered}
use Rattle.packet_headers.specs.declared.frame.Frame.{Frame}
use Rattle.packet_headers.specs.Capture.{is_inside}
use Rattle.ftp_rewrite.specs.declared.sent.SegmentView.{SegmentView}
use Rattle.ftp_rewrite.specs.Internal.Seen.{Gives, sent_among, sent_of}
use Rattle.ftp_rewrite.specs.Sent.{◌>>=◌, LiesInIts, Recorded, recorded, Sent, sent_by, sent_in}

one_of : (p : Frame → Bool) (fs : List Frame) (j : ℕ) (f : Frame) → list_all p fs ≡ true → slice_get fs j ≡ Some f → p f ≡ true
one_of p [] j f all at = absurd (cc)
one_of p (x ∷ xs) zero f all at =
    let same : x ≡ f = cc in
    subst (λ (y : Frame). p y ≡ true) same (and_parts (p x) (list_all p xs) all).0
one_of p (x ∷ xs) (suc j) f all at = one_of p xs j f (and_parts (p x) (list_all p xs) all).1 at

pub frame_inside : (captures : List Capture) (i : ℕ) (c : Capture) (j : ℕ) (f : Frame) → All LiesInIts captures → slice_get captures i ≡ Some c
    → slice_get c.frames.items j ≡ Some f → f.start + f.captured ≤ length c.bytes.items
frame_inside captures i c j f all at_c at_f =
    let own = subst LiesInIts (get_or_from_slice_get captures i c c at_c) (all i c (slice_get_within captures i c at_c)) in
    let test = one_of (is_inside c.bytes.items) c.frames.items j f own at_f in
    fits (f.start + f.captured) (length c.bytes.items) test
  where
    fits : (m n : ℕ) → nat_le m n ≡ true → m ≤ n
    fits m n h = grind (arith, nat_tests)

-- a segment by its place in a capture, if that is there
abbrev segment_at : ℕ → Option Recorded → Option Sent
segment_at index o = o >>= (λ c. slice_get c.frames index >>= (λ f. sent_in c.bytes f))

abbrev segment_among : ℕ → Option Capture → Option Sent
segment_among index o = o >>= (λ c. slice_get c.frames.items index >>= (λ f. sent_in c.bytes.items f))

seen_alike : (index : ℕ) (o : Option Capture) → segment_at index (option_map recorded o) ≡ segment_among index o
seen_alike index None = refl
seen_alike index (Some c) = refl

sent_same : (captures : List Capture) (item : Numbered) → sent_by (map recorded captures) item ≡ sent_among captures item
unfolding sent_by sent_among
sent_same captures item = ap (segment_at item.index) (slice_get-map recorded captures item.thread) ∙ seen_alike item.index (slice_get captures item.thread)

pub gives_same : (captures : List Capture) (item : Numbered) (o : Option SegmentView) → Gives sent_of o (sent_among captures item)
    → Gives sent_of o (sent_by (map recorded captures) item)
gives_same captures item o gives = subst (λ (said : Option Sent). Gives sent_of o said) (sym (sent_same captures item)) gives
