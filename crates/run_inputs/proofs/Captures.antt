-- Reading captures one after the other.
use Rattle.std.proofs.Common.{◌≡◌, ℕ, ◌+◌, ◌<◌, ◌≤◌, zero, suc, Some, List, [], ◌∷◌, ◌++◌, length, take, drop, get_or, refl, sym, subst, ap, ◌∙◌, Bor, arith, add-one}
use Rattle.std.specs.Prelude.{All, slice_get}
use Rattle.std.proofs.Math.Seq.{take-suc}
use Rattle.std.proofs.lemmas.List.{length-append, length-map, length-take, map-append, take_all, take-append-drop}
use Rattle.std.proofs.lemmas.List.Elements.{All-push}
use Rattle.command_words.specs.Asked.{texts}
use Rattle.ct_io.specs.Source.{SameFaults, Source, Stays}
use Rattle.packet_headers.specs.Capture.{AreInside, AreTimely}
use Rattle.packet_headers.specs.declared.frame.Capture.{Capture}
use Rattle.run_inputs.specs.declared.flaw.FileKind.TheVariants as kind
use Rattle.run_inputs.specs.declared.flaw.Refusal.{Refusal}
use Rattle.run_inputs.specs.Content.{totals_with, frames, IsRead, most_capture_bytes, most_packets, no_totals, Totals}
use Rattle.run_inputs.specs.Reading.{bytes_in, contents_in, GaveCapture, GaveCaptures, GaveContents, HasCauseFrom, IsGiven, part_of, totals_after, zones_in}
use Rattle.packet_headers.specs.Frames.{frames_in}
use Rattle.run_inputs.specs.Files.{files_of_kind, InputFile}
use Rattle.run_inputs.proofs.OneByOne.{cause_behind_all, cause_front, cause_later, is_given_later, same_faults, stays_then}
use Rattle.room_list.specs.Roomed.{Roomed}

-- the frames of one capture more
frames_push : (captures : List Capture) (capture : Capture)
    → frames_in (captures ++ capture ∷ []) ≡ frames_in captures + length capture.frames.items
frames_push [] capture = omega arith
frames_push (c ∷ captures) capture = omega (arith, frames_push captures capture)

-- the files of captures of these names
abbrev pub captures_of : List (Bor (List ℕ)) → List InputFile
captures_of names = files_of_kind kind.Capture (texts names)

abbrev pub capture_file : List ℕ → InputFile
capture_file name = record { kind = kind.Capture; name = name }

-- one name more
files_next : (names : List (Bor (List ℕ))) (k : ℕ) (d : Bor (List ℕ)) → k < length names
    → captures_of (take (k + 1) names) ≡ captures_of (take k names) ++ capture_file (get_or names k d).now ∷ []
files_next names k d below =
    ap (λ n. captures_of (take n names)) (add-one k) ∙ ap captures_of (take-suc names k d below)
    ∙ ap (files_of_kind kind.Capture) (map-append (λ (s : Bor (List ℕ)). s.now) (take k names) (get_or names k d ∷ []))
    ∙ map-append capture_file (texts (take k names)) ((get_or names k d).now ∷ [])

-- the first names, one more, and the others
files_whole : (names : List (Bor (List ℕ))) (k : ℕ)
    → captures_of (take k names) ++ captures_of (drop k names) ≡ captures_of names
files_whole names k =
    sym (map-append capture_file (texts (take k names)) (texts (drop k names)))
    ∙ ap (files_of_kind kind.Capture) (sym (map-append (λ (s : Bor (List ℕ)). s.now) (take k names) (drop k names)))
    ∙ ap captures_of (take-append-drop k names)

-- a capture more that is read
gave_next : (files : Source) (before : Totals) (inputs : List InputFile) (captures : List Capture) (name : List ℕ) (capture : Capture)
    → GaveContents files before inputs (bytes_in captures) (contents_in captures) → IsGiven files name capture.bytes.items
    → IsRead kind.Capture (totals_after before (bytes_in captures) (contents_in captures)) capture.bytes.items (frames capture.frames.items)
    → GaveContents files before (inputs ++ capture_file name ∷ []) (bytes_in (captures ++ capture ∷ [])) (contents_in (captures ++ capture ∷ []))
gave_next files before [] [] name capture gave given read = record { given = (given, tt); read = (read, tt) }
gave_next files before [] (c ∷ captures) name capture gave given read = absurd gave.read
gave_next files before (i ∷ inputs) [] name capture gave given read = absurd gave.read
gave_next files before (i ∷ inputs) (c ∷ captures) name capture gave given read =
    let rest = gave_next files (totals_with before c.bytes.items (frames c.frames.items)) inputs captures name capture
    (record { given = gave.given.1; read = gave.read.1 }) given read in
    record { given = (gave.given.0, rest.given); read = (gave.read.0, rest.read) }

total_next : (before : Totals) (captures : List Capture) (capture : Capture)
    → totals_after before (bytes_in (captures ++ capture ∷ [])) (contents_in (captures ++ capture ∷ []))
    ≡ totals_with (totals_after before (bytes_in captures) (contents_in captures)) capture.bytes.items (frames capture.frames.items)
total_next before [] capture = refl
total_next before (c ∷ captures) capture = total_next (totals_with before c.bytes.items (frames c.frames.items)) captures capture

-- the zones of the first captures, one more
zones_next : (zones : List ℕ) (k z : ℕ) → slice_get zones k ≡ Some z → take (k + 1) zones ≡ take k zones ++ z ∷ []
zones_next [] k z none = cc
zones_next (x ∷ zones) zero z first = ap (λ (n : ℕ). n ∷ []) (some_same x z first)
  where
    some_same : (x z : ℕ) → Some x ≡ Some z → x ≡ z
    some_same x z e = cc
zones_next (x ∷ zones) (suc k) z there =
    ap (λ n. take n (x ∷ zones)) (add-one (suc k)) ∙ ap (λ (rest : List ℕ). x ∷ rest) (sym (ap (λ n. take n zones) (add-one k)) ∙ zones_next zones k z there)

-- one capture more that is in its zone
pub in_zones_next : (zones : List ℕ) (k : ℕ) (captures : List Capture) (capture : Capture) → zones_in captures ≡ take k zones
    → slice_get zones k ≡ Some capture.zone → zones_in (captures ++ capture ∷ []) ≡ take (k + 1) zones
in_zones_next zones k captures capture so_far there =
    map-append (λ (c : Capture). c.zone) captures (capture ∷ []) ∙ ap (λ (zs : List ℕ). zs ++ capture.zone ∷ []) so_far
    ∙ sym (zones_next zones k capture.zone there)

-- the captures of the first so many names were read from files that are now in this state, each in its zone
pub record SoFar (files now : Source) (names : List (Bor (List ℕ))) (zones : List ℕ) (index : ℕ) (captures : Roomed Capture) (totals : Totals) : Type 0 where
  pub gave : GaveContents files no_totals (captures_of (take index names)) (bytes_in captures.items) (contents_in captures.items)
  pub total : totals_after no_totals (bytes_in captures.items) (contents_in captures.items) ≡ totals
  pub packets : totals.packets ≡ frames_in captures.items
  pub few_bytes : totals.bytes ≤ most_capture_bytes
  pub few : totals.packets ≤ most_packets
  pub number : length captures.items ≡ index
  pub inside : All (λ (c : Capture). AreInside c.bytes.items c.frames.items) captures.items
  pub timely : All (λ (c : Capture). AreTimely c.frames.items) captures.items
  pub in_zones : zones_in captures.items ≡ take index zones
  pub room : length names ≤ captures.room
  pub stays : Stays files now
  pub same : SameFaults files now

-- before the first
pub captures_start : (files : Source) (names : List (Bor (List ℕ))) (zones : List ℕ) (captures : Roomed Capture) (totals : Totals)
    → captures.items ≡ [] → totals ≡ no_totals → length names ≤ captures.room → SoFar files files names zones 0 captures totals
captures_start files names zones captures totals none zero_totals room = record {
  gave = rw none (record { given = tt; read = tt });
  total = rw (none, zero_totals) refl;
  packets = rw (none, zero_totals) refl;
  few_bytes = rw zero_totals (omega arith);
  few = rw zero_totals (omega arith);
  number = rw none refl;
  inside = rw none (λ k d below. absurd (omega (arith, below)));
  timely = rw none (λ k d below. absurd (omega (arith, below)));
  in_zones = rw none refl;
  room = room;
  stays = record {
    contents = λ name. refl;
    shares = λ name other. refl;
    counts_reads = λ name. refl;
    open_faults = λ name. omega arith;
    read_faults = omega arith;
  };
  same = record { open_faults = λ name. refl; read_faults = refl };
}

module _ (files now next : Source) (names : List (Bor (List ℕ))) (zones : List ℕ) (index : ℕ) (captures : Roomed Capture) (totals : Totals)
    (d : Bor (List ℕ)) (so_far : SoFar files now names zones index captures totals) (below : index < length names) (stays : Stays now next) where
  -- it is read
  pub captures_next : (capture : Capture) (after : Roomed Capture) (more : Totals) → GaveCapture now totals (get_or names index d).now capture
      → slice_get zones index ≡ Some capture.zone → SameFaults now next
      → more ≡ totals_with totals capture.bytes.items (frames capture.frames.items)
      → after.items ≡ captures.items ++ capture ∷ [] → after.room ≡ captures.room
      → SoFar files next names zones (index + 1) after more
  captures_next capture after more gave zone same total items room =
      let read : IsRead kind.Capture (totals_after no_totals (bytes_in captures.items) (contents_in captures.items)) capture.bytes.items (frames capture.frames.items) =
      rw so_far.total gave.read in
      let whole : GaveContents files no_totals (captures_of (take index names) ++ capture_file (get_or names index d).now ∷ [])
      (bytes_in (captures.items ++ capture ∷ [])) (contents_in (captures.items ++ capture ∷ [])) =
      gave_next files no_totals (captures_of (take index names)) captures.items (get_or names index d).now capture so_far.gave
      (is_given_later files now so_far.stays (get_or names index d).now capture.bytes.items gave.given) read in
      record {
        gave = rw (items, files_next names index d below) whole;
        total = rw (items, total) (total_next no_totals captures.items capture ∙ ap (λ (t : Totals). totals_with t capture.bytes.items (frames capture.frames.items)) so_far.total);
        packets = rw (items, total) (omega (arith, so_far.packets, frames_push captures.items capture));
        few_bytes = rw total (omega (arith, so_far.few_bytes, gave.read.fits.1));
        few = rw total gave.read.few;
        number = rw items (omega (arith, so_far.number, length-append captures.items (capture ∷ [])));
        inside = rw items (All-push (λ (c : Capture). AreInside c.bytes.items c.frames.items) captures.items capture so_far.inside gave.inside);
        timely = rw items (All-push (λ (c : Capture). AreTimely c.frames.items) captures.items capture so_far.timely gave.timely);
        in_zones = rw items (in_zones_next zones index captures.items capture so_far.in_zones zone);
        room = omega (arith, so_far.room, room);
        stays = stays_then files now next so_far.stays stays;
        same = same_faults files now next so_far.same same;
      }

  -- it is not
  pub captures_refused : (first : ℕ) (why : Refusal)
      → HasCauseFrom (part_of totals (first + index) (capture_file (get_or names index d).now ∷ [])) now next why
      → HasCauseFrom (part_of no_totals first (captures_of names)) files next why
  captures_refused first why cause =
      let front : List InputFile = captures_of (take index names) in
      let file : InputFile = capture_file (get_or names index d).now in
      let long : first + index ≡ first + length front =
      omega (arith, below, length-map (texts (take index names)) capture_file, length-map (take index names) (λ (s : Bor (List ℕ)). s.now), length-take index names) in
      let from : HasCauseFrom (part_of totals (first + index) (file ∷ [])) files next why =
      cause_later files now so_far.stays so_far.same next (part_of totals (first + index) (file ∷ [])) why cause in
      let behind : HasCauseFrom (part_of (totals_after no_totals (bytes_in captures.items) (contents_in captures.items)) (first + length front) (file ∷ [])) files next why =
      subst (λ n. HasCauseFrom (part_of (totals_after no_totals (bytes_in captures.items) (contents_in captures.items)) n (file ∷ [])) files next why) long
      (subst (λ (t : Totals). HasCauseFrom (part_of t (first + index) (file ∷ [])) files next why) (sym so_far.total) from) in
      let read : HasCauseFrom (part_of no_totals first (front ++ file ∷ [])) files next why =
      cause_behind_all files next no_totals first front (file ∷ []) (bytes_in captures.items) (contents_in captures.items) why so_far.gave behind in
      let upto : HasCauseFrom (part_of no_totals first (captures_of (take (index + 1) names))) files next why =
      subst (λ (inputs : List InputFile). HasCauseFrom (part_of no_totals first inputs) files next why) (sym (files_next names index d below)) read in
      subst (λ (inputs : List InputFile). HasCauseFrom (part_of no_totals first inputs) files next why) (files_whole names (index + 1))
      (cause_front files (captures_of (drop (index + 1) names)) no_totals first (captures_of (take (index + 1) names)) next why upto)

-- all are read
pub captures_end : (files now : Source) (names : List (Bor (List ℕ))) (zones : List ℕ) (index : ℕ) (captures : Roomed Capture) (totals : Totals)
    → SoFar files now names zones index captures totals → length zones ≡ length names → index ≡ length names → length names ≤ 63
    → GaveCaptures files (texts names) zones captures.items
captures_end files now names zones index captures totals so_far one_each last few =
    let all : take index names ≡ names = take_all index names (omega (arith, last)) in
    record {
      gave = subst (λ (ns : List (Bor (List ℕ))). GaveContents files no_totals (captures_of ns) (bytes_in captures.items) (contents_in captures.items)) all so_far.gave;
      in_zones = so_far.in_zones ∙ take_all index zones (omega (arith, last, one_each));
      ready = record {
        threads = omega (arith, so_far.number, last, few);
        few = omega (arith, so_far.packets, so_far.few);
        inside = so_far.inside;
        timely = so_far.timely;
      };
    }
