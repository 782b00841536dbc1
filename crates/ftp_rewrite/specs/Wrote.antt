-- What writing a text does to a sink.
use Rattle.std.specs.Prelude.{◌≡◌, ℕ, ◌<◌, List, ◌++◌, length, take, Option, None, Some, Result, Ok, Err}
use Rattle.ct_io.specs.Counts.{Rose}
use Rattle.ct_io.specs.Tape.{Tape}
use Rattle.ftp_rewrite.specs.declared.write.WriteFault.{WriteFault}

-- what is written once the text follows it; what was not told stays untold
abbrev pub followed_by : Option (List ℕ) → List ℕ → Option (List ℕ)
followed_by None text = None
followed_by (Some before) text = Some (before ++ text)

-- the whole text was written, and no call failed
pub record WroteAll (text : List ℕ) (before after : Tape) : Type 0 where
  pub written : after.written ≡ followed_by before.written text
  pub no_fault : after.faults ≡ before.faults

-- the count of faults rose, and only some first bytes of the text were written
pub record WroteSome (text : List ℕ) (before after : Tape) : Type 0 where
  pub rose : Rose before.faults after.faults
  pub count : ℕ
  pub few : count < length text
  pub written : after.written ≡ followed_by before.written (take count text)

-- one or the other
abbrev pub Wrote : List ℕ → Tape → Tape → Result (Unit {0}) WriteFault → Type 0
Wrote text before after (Ok done) = WroteAll text before after
Wrote text before after (Err fault) = WroteSome text before after
