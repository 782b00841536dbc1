-- Reading all frames, one after the other, as the code does it.
use Rattle.std.proofs.Common.{rules, ◌≡◌, ℕ, zero, suc, ◌+◌, ◌^◌, ◌<◌, ◌≤◌, Bool, true, List, [], ◌∷◌, ◌++◌, length, take, drop, get_or, refl, sym, ◌∙◌, ap, subst, arith, length-append}
use Rattle.std.specs.Prelude.{nat_le, if◌then◌else◌, Option, Some, None, IfSome, slice_get, slice_set}
use Rattle.std.specs.List.{fold, list_all}
use Rattle.std.specs.BTreeMap.{BTreeMap, IsEmpty, get}
use Rattle.std.proofs.lemmas.Bool.{and_parts, and_from, leb-true, le-leb}
use Rattle.std.proofs.lemmas.Grind.{common_steps}
use Rattle.std.proofs.lemmas.List.{append_assoc, drop_more, take_more}
use Rattle.std.proofs.lemmas.List.Sums.{fold-append}
use Rattle.packet_headers.specs.declared.frame.Frame.{Frame}
use Rattle.packet_headers.specs.Capture.{AreInside, AreTimely, is_inside, is_timely}
use Rattle.ip_reassembly.specs.declared.piece.Key.{Key}
use Rattle.ip_reassembly.specs.declared.gathering.Gathering.{Gathering}
use Rattle.ip_reassembly.specs.Group.{group_of}
use Rattle.ip_reassembly.specs.Defragged.{Progress, before_all, defragged, with_frame}
use Rattle.ip_reassembly.specs.Internal.Gathering.{IsSound}
use Rattle.ip_reassembly.specs.Internal.Knowing.{AreSound, Tells, key_cmp}
use Rattle.ip_reassembly.specs.Internal.Reading.{Becomes, Reads}

-- the progress behind so many frames
abbrev pub upto : List ℕ → List Frame → ℕ → Progress
upto bytes frames index = fold (with_frame bytes) (before_all bytes) (take index frames)

pub record HasRead (bytes : List ℕ) (old : List Frame) (index : ℕ) (groups : BTreeMap Key Gathering) (made : List ℕ) (frames : List Frame) : Type 0 where
  pub sound : AreSound (length bytes) groups
  pub reads : Reads bytes groups made (upto bytes old index)
  pub front : frames ≡ (upto bytes old index).frames ++ drop index old
  pub place : length (upto bytes old index).frames ≡ index
  pub many : length frames ≡ length old
  pub inside : list_all (λ (f : Frame). nat_le (f.start + f.captured) (length bytes + length made)) frames ≡ true
  pub timely : AreTimely old → AreTimely frames

empty_at : (groups : BTreeMap Key Gathering) (key : Key) → IsEmpty groups → get key_cmp groups key ≡ None
empty_at groups key empty = λ i. Rattle.std.specs.Map.lookup (Rattle.std.specs.BTreeMap.is_at (key_cmp key)) (empty i)

no_group : (bytes : List ℕ) (key : Key) → Tells bytes (group_of bytes key []) None
unfolding group_of
no_group bytes key piece = refl

pub read_none : (bytes : List ℕ) (old : List Frame) (groups : BTreeMap Key Gathering) (made : List ℕ) → IsEmpty groups → made ≡ [] → AreInside bytes old
    → HasRead bytes old 0 groups made old
read_none bytes old groups made empty none inside = record {
  sound = λ key. subst (λ (o : Option Gathering). IfSome o (IsSound (length bytes))) (sym (empty_at groups key empty)) nothing;
  reads = record {
    knows = λ key. subst (Tells bytes (group_of bytes key [])) (sym (empty_at groups key empty)) (no_group bytes key);
    all = sym ((λ i. bytes ++ none i) ∙ append_nothing bytes);
  };
  front = refl;
  place = refl;
  many = refl;
  inside = (λ i. list_all (λ (f : Frame). nat_le (f.start + f.captured) (size i)) old) ∙ inside;
  timely = λ h. h;
}
  where
    nothing : IfSome None (IsSound (length bytes))
    nothing = search rules

    append_nothing : (xs : List ℕ) → xs ++ [] ≡ xs
    append_nothing [] = refl
    append_nothing (x ∷ xs) = ap (λ (ys : List ℕ). x ∷ ys) (append_nothing xs)

    size : length bytes + length made ≡ length bytes
    size = let long = ap length none in omega (arith, long)

got_at : (front rest : List Frame) (x frame : Frame) (index : ℕ) → length front ≡ index → slice_get (front ++ x ∷ rest) index ≡ Some frame → x ≡ frame
got_at [] rest x frame zero place got = some_is x frame got
  where
    some_is : (x frame : Frame) → Some x ≡ Some frame → x ≡ frame
    some_is x frame h = ap (λ (o : Option Frame). Rattle.std.specs.Prelude.unwrap_or o x) h
got_at [] rest x frame (suc index) place got = absurd (omega (arith, place))
got_at (y ∷ front) rest x frame zero place got = absurd (omega (arith, place))
got_at (y ∷ front) rest x frame (suc index) place got = got_at front rest x frame index (omega (arith, place)) got

set_at : (front rest : List Frame) (x new : Frame) (index : ℕ) → length front ≡ index → slice_set (front ++ x ∷ rest) index new ≡ front ++ new ∷ rest
set_at [] rest x new zero place = refl
set_at [] rest x new (suc index) place = absurd (omega (arith, place))
set_at (y ∷ front) rest x new zero place = absurd (omega (arith, place))
set_at (y ∷ front) rest x new (suc index) place = ap (λ (ys : List Frame). y ∷ ys) (set_at front rest x new index (omega (arith, place)))

-- a test of all elements, with one of them changed
all_set : (test : Frame → Bool) (front rest : List Frame) (x new : Frame) → list_all test (front ++ x ∷ rest) ≡ true → test new ≡ true → list_all test (front ++ new ∷ rest) ≡ true
all_set test [] rest x new all holds = and_from (test new) (list_all test rest) holds ((and_parts (test x) (list_all test rest) all).1)
all_set test (y ∷ front) rest x new all holds =
    let both = and_parts (test y) (list_all test (front ++ x ∷ rest)) all in
    and_from (test y) (list_all test (front ++ new ∷ rest)) both.0 (all_set test front rest x new both.1 holds)

test_at : (test : Frame → Bool) (front rest : List Frame) (x : Frame) → list_all test (front ++ x ∷ rest) ≡ true → test x ≡ true
test_at test [] rest x all = (and_parts (test x) (list_all test rest) all).0
test_at test (y ∷ front) rest x all = test_at test front rest x ((and_parts (test y) (list_all test (front ++ x ∷ rest)) all).1)

more_room : (n m : ℕ) (frames : List Frame) → n ≤ m → list_all (λ (f : Frame). nat_le (f.start + f.captured) n) frames ≡ true
    → list_all (λ (f : Frame). nat_le (f.start + f.captured) m) frames ≡ true
more_room n m [] h all = refl
more_room n m (f ∷ frames) h all =
    let both = and_parts (nat_le (f.start + f.captured) n) (list_all (λ (f : Frame). nat_le (f.start + f.captured) n) frames) all in
    and_from (nat_le (f.start + f.captured) m) (list_all (λ (f : Frame). nat_le (f.start + f.captured) m) frames)
    (le-leb (f.start + f.captured) m (omega (arith, h, leb-true (f.start + f.captured) n both.0))) (more_room n m frames h both.1)

-- the frame at the index is that of the old list
pub frame_at : (bytes : List ℕ) (old : List Frame) (index : ℕ) (groups : BTreeMap Key Gathering) (made : List ℕ) (frames : List Frame) (frame : Frame)
    → HasRead bytes old index groups made frames → index < length old → slice_get frames index ≡ Some frame → get_or old index frame ≡ frame
frame_at bytes old index groups made frames frame so within got =
    got_at (upto bytes old index).frames (drop (index + 1) old) (get_or old index frame) frame index so.place
    (sym (λ i. slice_get ((so.front ∙ (λ j. (upto bytes old index).frames ++ drop_more old index frame within j)) i) index) ∙ got)

-- that frame lies in the old bytes
pub frame_inside : (bytes : List ℕ) (old : List Frame) (index : ℕ) (frame : Frame) → AreInside bytes old → index < length old → get_or old index frame ≡ frame
    → frame.start + frame.captured ≤ length bytes
frame_inside bytes old index frame inside within is =
    leb-true (frame.start + frame.captured) (length bytes) (subst (λ (f : Frame). is_inside bytes f ≡ true) is (at old index inside within))
  where
    at : (old : List Frame) (index : ℕ) → list_all (is_inside bytes) old ≡ true → index < length old → is_inside bytes (get_or old index frame) ≡ true
    at [] index all within = absurd (omega (arith, within))
    at (f ∷ old) zero all within = (and_parts (is_inside bytes f) (list_all (is_inside bytes) old) all).0
    at (f ∷ old) (suc index) all within = at old index ((and_parts (is_inside bytes f) (list_all (is_inside bytes) old) all).1) (omega (arith, within))

pub read_next : (bytes : List ℕ) (old : List Frame) (index : ℕ) (groups after : BTreeMap Key Gathering) (made more : List ℕ) (frames set : List Frame) (frame new : Frame)
    → HasRead bytes old index groups made frames → index < length old → slice_get frames index ≡ Some frame
    → AreSound (length bytes) after
    → Becomes bytes frame groups after made more new
    → length made ≤ length more → new.start + new.captured ≤ length bytes + length more → new.moment ≡ frame.moment
    → set ≡ slice_set frames index new → HasRead bytes old (index + 1) after more set
read_next bytes old index groups after made more frames set frame new so within got sound becomes longer inside moment is =
    let before = upto bytes old index in
    let rest = drop (index + 1) old in
    let same = frame_at bytes old index groups made frames frame so within got in
    let split : frames ≡ before.frames ++ frame ∷ rest = so.front ∙ (λ j. before.frames ++ drop_more old index frame within j) ∙ (λ i. before.frames ++ same i ∷ rest) in
    let next : upto bytes old (index + 1) ≡ with_frame bytes before frame =
    (λ i. fold (with_frame bytes) (before_all bytes) (take_more old index frame within i))
    ∙ fold-append (with_frame bytes) (before_all bytes) (take index old) (get_or old index frame ∷ [])
    ∙ (λ i. with_frame bytes before (same i)) in
    let now : set ≡ before.frames ++ new ∷ rest = is ∙ (λ i. slice_set (split i) index new) ∙ set_at before.frames rest frame new index so.place in
    let longer_frames : (upto bytes old (index + 1)).frames ≡ before.frames ++ new ∷ [] = (λ i. (next i).frames) ∙ becomes.put before so.reads in
    record {
      sound = sound;
      reads = subst (Reads bytes after more) (sym next) (becomes.reads before so.reads);
      front = now ∙ sym ((λ i. longer_frames i ++ rest) ∙ append_assoc before.frames (new ∷ []) rest);
      place = ap length longer_frames ∙ length-append before.frames (new ∷ []) ∙ omega (arith, so.place);
      many =
          let a = ap length now ∙ length-append before.frames (new ∷ rest) in
          let b = ap length split ∙ length-append before.frames (frame ∷ rest) in
          omega (arith, a, b, so.many);
      inside = subst (λ (xs : List Frame). list_all (λ (f : Frame). nat_le (f.start + f.captured) (length bytes + length more)) xs ≡ true) (sym now)
          (all_set (λ (f : Frame). nat_le (f.start + f.captured) (length bytes + length more)) before.frames rest frame new
          (more_room (length bytes + length made) (length bytes + length more) (before.frames ++ frame ∷ rest) (omega (arith, longer))
          (subst (λ (xs : List Frame). list_all (λ (f : Frame). nat_le (f.start + f.captured) (length bytes + length made)) xs ≡ true) split so.inside))
          (le-leb (new.start + new.captured) (length bytes + length more) inside));
      timely = λ h. let all = subst AreTimely split (so.timely h) in
          subst AreTimely (sym now) (all_set is_timely before.frames rest frame new all
          ((λ i. nat_le (moment i) (10 ^ 16)) ∙ test_at is_timely before.frames rest frame all));
    }

-- all frames are read
pub read_all : (bytes : List ℕ) (old : List Frame) (index : ℕ) (groups : BTreeMap Key Gathering) (made : List ℕ) (frames : List Frame)
    → HasRead bytes old index groups made frames → length old ≤ index
    → (bytes ++ made ≡ (defragged bytes old).bytes) × (frames ≡ (defragged bytes old).frames) × AreInside (bytes ++ made) frames
    × (AreTimely old → AreTimely frames) × (length frames ≡ length old)
unfolding defragged
read_all bytes old index groups made frames so over =
    let whole : upto bytes old index ≡ fold (with_frame bytes) (before_all bytes) old = λ i. fold (with_frame bytes) (before_all bytes) (all old index over i) in (
      sym so.reads.all ∙ (λ i. (whole i).bytes),
      so.front ∙ (λ i. (upto bytes old index).frames ++ none old index over i) ∙ append_nothing (upto bytes old index).frames ∙ (λ i. (whole i).frames),
      (λ i. list_all (λ (f : Frame). nat_le (f.start + f.captured) (length-append bytes made i)) frames) ∙ so.inside,
      so.timely,
      so.many,
    )
  where
    all : (old : List Frame) (index : ℕ) → length old ≤ index → take index old ≡ old
    all old index over = grind (arith, common_steps)

    none : (old : List Frame) (index : ℕ) → length old ≤ index → drop index old ≡ []
    none old index over = grind (arith, common_steps)

    append_nothing : (xs : List Frame) → xs ++ [] ≡ xs
    append_nothing [] = refl
    append_nothing (x ∷ xs) = ap (λ (ys : List Frame). x ∷ ys) (append_nothing xs)
