-- What contracts see of the files of the system: nothing of their contents.
use Rattle.std.specs.Prelude.{ℕ, true, List, Option, None, is_some, option_and_then}
use Rattle.ct_io.specs.Source.{Source}

-- the open file, and how often a call has failed
pub record Untold (F : Type 0) : Type 0 where
  pub file : Option F
  pub faults : ℕ

-- the files of the system as a source: nothing is told of contents, and one count serves all
abbrev pub untold_source : {F : Type 0} → Untold F → Source
untold_source s = record {
  contents = λ name. None;
  left = None;
  is_open = is_some s.file;
  open_faults = λ name. s.faults;
  read_faults = s.faults;
  shares = λ name other. true;
  counts_reads = λ name. true;
}

-- what the reader under an open file has left, where that reader tells it
abbrev pub left_under : {F : Type 0} → (F → Option (List ℕ)) → Option F → Option (List ℕ)
left_under remaining file = option_and_then remaining file
