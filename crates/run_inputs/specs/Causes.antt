-- Why files were not read, and what that leaves.
use Rattle.std.specs.Prelude.{◌≡◌, ℕ, ◌++◌, List, Option, option_map}
use Rattle.ct_io.specs.Counts.{Rose}
use Rattle.ct_io.specs.Source.{OthersStandAtOpen, OthersStandAtRead, Source}
use Rattle.run_inputs.specs.declared.flaw.Refusal.{Refusal}
use Rattle.run_inputs.specs.declared.flaw.Refusal.TheVariants.{Flawed, Misused, NoMemory, NotOpened, NotRead, PastLimit}
use Rattle.run_inputs.specs.Content.{IsShortEnough, Totals}
use Rattle.run_inputs.specs.Flaw.{flaw_status}
use Rattle.run_inputs.specs.Files.{InputFile}

-- Only the opening of this file failed: its count rose, and each other stands that shares none with it.
pub record OpeningFailed (files files' : Source) (name : List ℕ) : Type 0 where
  pub rose : Rose (files.open_faults name) (files'.open_faults name)
  pub alone : OthersStandAtOpen files files' name

-- these bytes of a file were read, and behind them this is left of its contents; all or nothing of this is told
abbrev pub ReadSoFar : Option (List ℕ) → List ℕ → Option (List ℕ) → Type 0
ReadSoFar contents front left = option_map (λ rest. front ++ rest) left ≡ contents

-- Only reading failed, and it was this file's: the count of reads rose, and that of opening each name in which reads are
-- not counted stands. Of the bytes that were read before it, something holds.
pub record ReadingFailed (files files' : Source) (name : List ℕ) (Fits : List ℕ → Type 0) : Type 0 where
  pub rose : Rose files.read_faults files'.read_faults
  pub alone : OthersStandAtRead files files'
  pub front : List ℕ
  pub so_far : ReadSoFar (files.contents name) front files'.left
  pub fits : Fits front

-- a file behind captures of some total was not opened
abbrev pub CannotOpen : Source → Source → Totals → InputFile → Type 0
CannotOpen files files' before input = OpeningFailed files files' input.name

-- it was open, and a read of it failed before too many bytes had come
abbrev pub CannotRead : Source → Source → Totals → InputFile → Type 0
CannotRead files files' before input = ReadingFailed files files' input.name (λ front. IsShortEnough input.kind before front)

-- the status of a refusal
abbrev pub refusal_status : Refusal → ℕ
refusal_status Misused = 1
refusal_status (PastLimit limit) = 5
refusal_status (Flawed file flaw) = flaw_status flaw
refusal_status (NotOpened file) = 3
refusal_status (NotRead file) = 3
refusal_status NoMemory = 6
