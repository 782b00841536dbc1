-- What contracts see of a source of files: one value, of which each call says what it changes.
use Rattle.std.specs.Prelude.{◌≡◌, ℕ, ◌≤◌, Bool, false, List, Option}

-- The contents of the file of each name, and what is left of the open one, where these are told; whether
-- a file is open; how often opening each name has failed, and how often reading has. A source may keep
-- one count for several names: `shares` says whether a failed opening of the first name counts for the
-- second, and `counts_reads` whether a failed read counts for the name.
pub record Source : Type 0 where
  pub contents : List ℕ → Option (List ℕ)
  pub left : Option (List ℕ)
  pub is_open : Bool
  pub open_faults : List ℕ → ℕ
  pub read_faults : ℕ
  pub shares : List ℕ → List ℕ → Bool
  pub counts_reads : List ℕ → Bool

-- what no call changes: the contents, and which names share a count; and no count falls
pub record Stays (old new : Source) : Type 0 where
  pub contents : (name : List ℕ) → new.contents name ≡ old.contents name
  pub shares : (name other : List ℕ) → new.shares name other ≡ old.shares name other
  pub counts_reads : (name : List ℕ) → new.counts_reads name ≡ old.counts_reads name
  pub open_faults : (name : List ℕ) → old.open_faults name ≤ new.open_faults name
  pub read_faults : old.read_faults ≤ new.read_faults

-- each count stands where it stood
pub record SameFaults (old new : Source) : Type 0 where
  pub open_faults : (name : List ℕ) → new.open_faults name ≡ old.open_faults name
  pub read_faults : new.read_faults ≡ old.read_faults

-- what a failed opening of this name leaves: the count of each name that shares none with it, and that
-- of reads where it is not the same one
pub record OthersStandAtOpen (old new : Source) (name : List ℕ) : Type 0 where
  pub opens : (other : List ℕ) → old.shares name other ≡ false → new.open_faults other ≡ old.open_faults other
  pub reads : old.counts_reads name ≡ false → new.read_faults ≡ old.read_faults

-- what a failed read leaves: the count of each name in which reads are not counted
abbrev pub OthersStandAtRead : Source → Source → Type 0
OthersStandAtRead old new =
    (other : List ℕ) → old.counts_reads other ≡ false → new.open_faults other ≡ old.open_faults other
