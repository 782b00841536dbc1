-- What gathering a text on a page does to the page and to the sink behind it.
use Rattle.std.specs.Prelude.{◌≡◌, ℕ, ◌≤◌, List, ◌++◌, Result, Ok, Err}
use Rattle.ct_io.specs.Counts.{Rose}
use Rattle.ct_io.specs.Tape.{Tape}
use Rattle.report_text.specs.Page.{Held}
use Rattle.report_text.specs.Wrote.{followed_by, WroteFront}
use Rattle.report_text.specs.declared.write.WriteFault.{WriteFault}

-- some first bytes of what the page held and of the text were written, and the page holds the others
pub record Sent (text : List ℕ) (page page' : Held) (before after : Tape) : Type 0 where
  pub sent : List ℕ
  pub written : after.written ≡ followed_by before.written sent
  pub kept : sent ++ page'.text ≡ page.text ++ text
  pub no_fault : after.faults ≡ before.faults

-- a write failed: only some first bytes of what the page held and of the text were written
pub record Lost (text : List ℕ) (page : Held) (before after : Tape) : Type 0 where
  pub rose : Rose before.faults after.faults
  pub stay : before.faults ≤ after.faults
  pub front : WroteFront (page.text ++ text) before.written after.written

-- the text was gathered, or a write failed
abbrev pub Gathered : List ℕ → Held → Held → Tape → Tape → Result (Unit {0}) WriteFault → Type 0
Gathered text page page' before after (Ok done) = Sent text page page' before after
Gathered text page page' before after (Err fault) = Lost text page before after
