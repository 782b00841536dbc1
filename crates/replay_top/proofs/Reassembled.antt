-- Captures whose fragments are put together one after the other.
use Rattle.std.proofs.Common.{◌≡◌, ◌∙◌, ◌+◌, true, false, List, [], ◌∷◌, ◌++◌, length, map, Some, refl, sym, subst, ap, arith, append_assoc, append-nil}
use Rattle.std.specs.Prelude.{All, remove, slice_get}
use Rattle.std.proofs.lemmas.List.{length-append, map-append}
use Rattle.std.proofs.lemmas.List.Elements.{All-head, All-nil, All-push, All-tail}
use Rattle.packet_headers.specs.Frames.{frames_in}
use Rattle.packet_headers.specs.declared.frame.Capture.{Capture}
use Rattle.packet_headers.specs.Capture.{AreInside, AreTimely}
use Rattle.replay_top.specs.Internal.Replaying.{Prepared, prepared}
use Rattle.run_inputs.specs.Ready.{CanReplay}

abbrev IsInside : Capture → Type 0
IsInside c = AreInside c.bytes.items c.frames.items

abbrev IsTimely : Capture → Type 0
IsTimely c = AreTimely c.frames.items

-- a capture whose fragments are put together
pub record IsReassembled (c new : Capture) : Type 0 where
  pub prepares : prepared false new ≡ prepared true c
  pub inside : IsInside new
  pub timely : IsTimely c → IsTimely new
  pub many : length new.frames.items ≡ length c.frames.items

-- of all captures the first are put together, and these are left
pub record AreMidway (all done left : List Capture) : Type 0 where
  pub prepares : map (prepared false) done ++ map (prepared true) left ≡ map (prepared true) all
  pub many : length done + length left ≡ length all
  pub frames : frames_in done + frames_in left ≡ frames_in all
  pub inside : All IsInside done
  pub timely : All IsTimely done
  pub inside_left : All IsInside left
  pub timely_left : All IsTimely left

pub none_done : (all done : List Capture) → done ≡ [] → CanReplay all → AreMidway all done all
none_done all done none can = rw none (record {
  prepares = refl;
  many = omega arith;
  frames = omega arith;
  inside = All-nil IsInside;
  timely = All-nil IsTimely;
  inside_left = can.inside;
  timely_left = can.timely;
})

frames_more : (captures : List Capture) (c : Capture) → frames_in (captures ++ c ∷ []) ≡ frames_in captures + length c.frames.items
frames_more [] c = omega arith
frames_more (d ∷ captures) c = omega (arith, frames_more captures c)

one_done : (all done left : List Capture) (c new : Capture) → AreMidway all done (c ∷ left) → IsReassembled c new → AreMidway all (done ++ new ∷ []) left
one_done all done left c new so_far is =
    let longer : length (done ++ new ∷ []) ≡ length done + 1 = length-append done (new ∷ []) in
    record {
      prepares = ap (λ (all : List Prepared). all ++ map (prepared true) left)
          (map-append (prepared false) done (new ∷ []) ∙ ap (λ (one : Prepared). map (prepared false) done ++ one ∷ []) is.prepares)
          ∙ append_assoc (map (prepared false) done) (prepared true c ∷ []) (map (prepared true) left) ∙ so_far.prepares;
      many = omega (arith, longer, so_far.many);
      frames = omega (arith, frames_more done new, is.many, so_far.frames);
      inside = All-push IsInside done new so_far.inside is.inside;
      timely = All-push IsTimely done new so_far.timely (is.timely (All-head IsTimely c left so_far.timely_left));
      inside_left = All-tail IsInside c left so_far.inside_left;
      timely_left = All-tail IsTimely c left so_far.timely_left;
    }

-- the capture that was taken out of those that were left is put together
pub next_done : (all done left rest after : List Capture) (c new : Capture) → AreMidway all done left → slice_get left 0 ≡ Some c → rest ≡ remove left 0
    → IsReassembled c new → after ≡ done ++ new ∷ [] → AreMidway all after rest
next_done all done [] rest after c new so_far first same is more = absurd (cc first)
next_done all done (d ∷ left) rest after c new so_far first same is more =
    let own : c ≡ d = cc in
    rw (same, more) (one_done all done left d new so_far (subst (λ (x : Capture). IsReassembled x new) own is))

-- it lies inside its bytes
pub next_inside : (all done left : List Capture) (c : Capture) → AreMidway all done left → slice_get left 0 ≡ Some c → IsInside c
next_inside all done [] c so_far first = absurd (cc first)
next_inside all done (d ∷ left) c so_far first =
    let own : d ≡ c = cc in
    subst IsInside own (All-head IsInside d left so_far.inside_left)

-- none is left
pub all_done : (all done left : List Capture) → AreMidway all done left → length left ≡ 0
    → (map (prepared false) done ≡ map (prepared true) all) × (length done ≡ length all) × (frames_in done ≡ frames_in all)
all_done all done [] so_far none = (sym (append-nil (map (prepared false) done)) ∙ so_far.prepares, omega (arith, so_far.many), omega (arith, so_far.frames))
all_done all done (c ∷ left) so_far none = absurd (omega (arith, none))

pub can_replay : (all done left : List Capture) → CanReplay all → AreMidway all done left → length left ≡ 0 → CanReplay done
can_replay all done left can so_far none =
    let same = all_done all done left so_far none in
    record {
      threads = omega (arith, same.1, can.threads);
      few = omega (arith, same.2, can.few);
      inside = so_far.inside;
      timely = so_far.timely;
    }
