-- Files in memory, as contracts see them.
use Rattle.std.specs.Prelude.{ℕ, ◌||◌, ◌&&◌, Bool, false, List, Option, is_none, is_some, option_and_then, position, find, unwrap_or, bytes_eq, drop, slice_get}
use Rattle.std.specs.Option.{option_map}
use Rattle.ct_io.specs.Counts.{is_listed}
use Rattle.ct_io.specs.Source.{Source}

-- one file: its name, its contents, and how often opening it failed
pub record Kept : Type 0 where
  pub name : List ℕ
  pub bytes : List ℕ
  pub faults : ℕ

-- All files in the order in which they were added; the place of the open one among them, and how
-- many of its bytes were read; the numbers of the calls that are to fail, and how many calls there
-- were (this count stands still at its end); how often opening an unknown name failed, and reading.
pub record Shelf : Type 0 where
  pub files : List Kept
  pub open_place : Option ℕ
  pub taken : ℕ
  pub fails : List ℕ
  pub calls : ℕ
  pub unknown_faults : ℕ
  pub read_faults : ℕ

-- whether a file has this name
abbrev pub is_named : List ℕ → Kept → Bool
is_named name f = bytes_eq f.name name

-- the place of the file of this name
abbrev pub place_in : List Kept → List ℕ → Option ℕ
place_in files name = position (is_named name) files

-- the contents of the file of this name
abbrev pub contents_in : List Kept → List ℕ → Option (List ℕ)
contents_in files name = option_map (λ (f : Kept). f.bytes) (find (is_named name) files)

-- how often opening this name failed; all unknown names share one count
abbrev pub faults_in : ℕ → List Kept → List ℕ → ℕ
faults_in unknown files name =
    unwrap_or (option_map (λ (f : Kept). f.faults) (find (is_named name) files)) unknown

-- both, of all files as they are
abbrev pub contents_of : Shelf → List ℕ → Option (List ℕ)
contents_of s name = contents_in s.files name

abbrev pub open_faults_of : Shelf → List ℕ → ℕ
open_faults_of s name = faults_in s.unknown_faults s.files name

-- what is left of the file at this place once so many of its bytes were read
abbrev pub left_at : List Kept → Option ℕ → ℕ → Option (List ℕ)
left_at files place taken =
    option_map (λ (f : Kept). drop taken f.bytes) (option_and_then (λ i. slice_get files i) place)

-- what is left of the open file
abbrev pub left_in : Shelf → Option (List ℕ)
left_in s = left_at s.files s.open_place s.taken

-- whether the next call is one of those that are to fail
abbrev pub is_next_failing : Shelf → Bool
is_next_failing s = is_listed s.fails s.calls

-- whether opening this name fails: the call is to fail, or the name is unknown
abbrev pub is_open_failing : Shelf → List ℕ → Bool
is_open_failing s name = is_next_failing s || is_none (contents_of s name)

-- each name that was added has a count of its own, and all unknown names share one
abbrev pub shares_count : Shelf → List ℕ → List ℕ → Bool
shares_count s name other = bytes_eq name other || is_none (contents_of s name) && is_none (contents_of s other)

-- files in memory as a source: the contents are told, and so is what is left
abbrev pub source_of : Shelf → Source
source_of s = record {
  contents = λ name. contents_of s name;
  left = left_in s;
  is_open = is_some s.open_place;
  open_faults = λ name. open_faults_of s name;
  read_faults = s.read_faults;
  shares = shares_count s;
  counts_reads = λ name. false;
}
