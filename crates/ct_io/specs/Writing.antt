-- What a write does to what was written.
use Rattle.std.specs.Prelude.{ℕ, List, ◌++◌, Option, None, Some, take}

-- what is written once the first n bytes of the piece are; what was not told stays untold
abbrev pub Appended : Option (List ℕ) → ℕ → List ℕ → Option (List ℕ)
Appended None n piece = None
Appended (Some before) n piece = Some (before ++ take n piece)
