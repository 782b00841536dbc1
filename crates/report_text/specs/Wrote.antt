-- What writing a text does to a sink.
use Rattle.std.specs.Prelude.{◌≡◌, ℕ, ◌<◌, List, ◌++◌, length, take, Option, None, Some, Result, Ok, Err}
use Rattle.ct_io.specs.Counts.{Rose}
use Rattle.ct_io.specs.Tape.{Tape}
use Rattle.report_text.specs.declared.write.WriteFault.{WriteFault}

-- what is written once the text follows it; what was not told stays untold
abbrev pub followed_by : Option (List ℕ) → List ℕ → Option (List ℕ)
followed_by None text = None
followed_by (Some before) text = Some (before ++ text)

-- some first bytes of the text were written, and not all
abbrev pub WroteFront : List ℕ → Option (List ℕ) → Option (List ℕ) → Type 0
WroteFront text before after =
    (n : ℕ) × (n < length text) × (after ≡ followed_by before (take n text))

-- The whole text was written, and no call failed; or the count of faults rose, and only some first
-- bytes of the text were written.
abbrev pub Wrote : List ℕ → Tape → Tape → Result (Unit {0}) WriteFault → Type 0
Wrote text before after (Ok done) =
    (after.written ≡ followed_by before.written text) × (after.faults ≡ before.faults)
Wrote text before after (Err fault) =
    Rose before.faults after.faults × WroteFront text before.written after.written
