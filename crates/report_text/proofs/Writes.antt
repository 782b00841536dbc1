-- How writes in a row are one write.
use Rattle.std.proofs.Common.{◌≡◌, ℕ, suc, ◌+◌, ◌<◌, ◌≤◌, List, [], ◌∷◌, ◌++◌, length, get_or, take, drop, drop-cons, Option, None, Some, Result, Ok, Err, IsErr, refl, ap, arith, append_assoc, append-nil, length-append}
use Rattle.std.proofs.Math.Seq.{take-add, take-append-add}
use Rattle.std.proofs.lemmas.List.{take_all, take_more, take-append-drop, take-append-le}
use Rattle.std.proofs.lemmas.List.Concat.{flat_map-append}
use Rattle.std.specs.List.{flat_map}
use Rattle.ct_io.specs.Counts.{Rose}
use Rattle.ct_io.specs.Tape.{Tape}
use Rattle.ct_io.specs.Writing.{Appended}
use Rattle.report_text.specs.Wrote.{followed_by, Wrote, WroteFront}
use Rattle.report_text.specs.declared.write.WriteFault.{WriteFault}

-- a text and then another one behind what is written
pub followed_by-append : (before : Option (List ℕ)) (a b : List ℕ) →
    followed_by before (a ++ b) ≡ followed_by (followed_by before a) b
followed_by-append None a b = refl
followed_by-append (Some before) a b = rw append_assoc

-- no bytes behind what is written
pub followed_by-nothing : (before : Option (List ℕ)) → before ≡ followed_by before []
followed_by-nothing None = refl
followed_by-nothing (Some before) = rw append-nil

-- a write of the next bytes of a piece of which some are written
pub written_more :
    (before now after : Option (List ℕ)) (piece : List ℕ) (done n : ℕ) →
    now ≡ followed_by before (take done piece) → after ≡ Appended now n (drop done piece) →
    after ≡ followed_by before (take (done + n) piece)
written_more None now after piece done n e h = cc
written_more (Some before) now after piece done n e h =
    rw (take-add done n piece, ← append_assoc before (take done piece) (take n (drop done piece)))
    (rw e at h)

-- a write of all bytes of a piece
pub written_whole :
    (before now : Option (List ℕ)) (piece : List ℕ) (done : ℕ) →
    now ≡ followed_by before (take done piece) → length piece ≤ done →
    now ≡ followed_by before piece
written_whole before now piece done e whole = rw take_all at e

-- first bytes of a text are first bytes of it and another one
pub front_more : (one two : List ℕ) (before after : Option (List ℕ)) →
    WroteFront one before after → WroteFront (one ++ two) before after
front_more one two before after (n, few, e) =
    (n, omega (arith, length-append one two, few), cc (take-append-le n one two (omega arith)))

-- some bytes of a text were written, and then first bytes of its rest
pub front_then : (one rest whole : List ℕ) (before now after : Option (List ℕ)) →
    one ++ rest ≡ whole → now ≡ followed_by before one → WroteFront rest now after →
    WroteFront whole before after
front_then one rest whole before now after same written (n, few, e) = (
  length one + n,
  omega (arith, length-append one rest, ap length same, few),
  cc (followed_by-append before one (take n rest), take-append-add one rest n),
)

-- no piece was written yet
pub written_none : {X : Type 0} (bytes : X → List ℕ) (pieces : List X) (before : Option (List ℕ)) →
    before ≡ followed_by before (flat_map bytes (take 0 pieces))
written_none bytes pieces before = followed_by-nothing before

-- each piece was written
pub written_each : {X : Type 0} (bytes : X → List ℕ) (pieces : List X) (i : ℕ)
    (before now : Option (List ℕ)) → length pieces ≤ i →
    now ≡ followed_by before (flat_map bytes (take i pieces)) →
    now ≡ followed_by before (flat_map bytes pieces)
written_each bytes pieces i before now whole e = rw take_all at e

-- the first pieces were written, and then the next one
pub written_next : {X : Type 0} (bytes : X → List ℕ) (pieces : List X) (i : ℕ) (d : X)
    (before now after : Option (List ℕ)) → i < length pieces →
    now ≡ followed_by before (flat_map bytes (take i pieces)) →
    after ≡ followed_by now (bytes (get_or pieces i d)) →
    after ≡ followed_by before (flat_map bytes (take (i + 1) pieces))
written_next bytes pieces i d before now after within e h =
    rw (take_more pieces i d within, flat_map-append bytes (take i pieces) (get_or pieces i d ∷ []), append-nil)
    (cc (followed_by-append before (flat_map bytes (take i pieces)) (bytes (get_or pieces i d))))

-- the first pieces were written, and then first bytes of the next one
pub front_next : {X : Type 0} (bytes : X → List ℕ) (pieces : List X) (i : ℕ) (d : X)
    (before now after : Option (List ℕ)) → i < length pieces →
    now ≡ followed_by before (flat_map bytes (take i pieces)) →
    WroteFront (bytes (get_or pieces i d)) now after →
    WroteFront (flat_map bytes pieces) before after
front_next bytes pieces i d before now after within e front =
    front_then (flat_map bytes (take i pieces)) (flat_map bytes (drop i pieces)) _ before now after
    (rw (← flat_map-append bytes (take i pieces) (drop i pieces), take-append-drop i pieces)) e
    (rw (drop-cons pieces i d within)
    (front_more (bytes (get_or pieces i d)) (flat_map bytes (drop (suc i) pieces)) now after front))

-- a call that wrote only first bytes of its piece, in a row of calls that wrote the pieces of a list
pub wrote_step : {X : Type 0} (bytes : X → List ℕ) (pieces : List X) (i : ℕ) (d : X)
    (before now after : Tape) (result : Result (Unit {0}) WriteFault) → IsErr result →
    i < length pieces → now.written ≡ followed_by before.written (flat_map bytes (take i pieces)) →
    now.faults ≡ before.faults →
    Rose now.faults after.faults × WroteFront (bytes (get_or pieces i d)) now.written after.written →
    Wrote (flat_map bytes pieces) before after result
wrote_step bytes pieces i d before now after (Ok done) err within e same (rose, front) = cc
wrote_step bytes pieces i d before now after (Err fault) err within e same (rose, front) =
    (rw (← same) rose, front_next bytes pieces i d _ _ _ within e front)
