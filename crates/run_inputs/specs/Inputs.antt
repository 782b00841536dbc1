-- What the inputs of a run are. Files are read in the order of rules, script and captures, and the first flaw decides.
use Rattle.std.specs.Prelude.{◌≡◌, ℕ, suc, zero, Some, Err, List, [], ◌∷◌, IfSome}
use Rattle.ct_io.specs.Source.{Source}
use Rattle.command_words.specs.Words.{asked_of}
use Rattle.command_words.specs.declared.WordsError.TheVariants.{Limit, Usage}
use Rattle.command_words.specs.declared.WordsLimit.{WordsLimit}
use Rattle.run_inputs.specs.declared.flaw.Flaw.{Flaw}
use Rattle.run_inputs.specs.Content.{Content, IsRead, Totals, totals_with, no_totals}
use Rattle.run_inputs.specs.Flaw.{HasFlaw}
use Rattle.run_inputs.specs.Files.{files_of, InputFile, AskFor}

-- ---- the bytes of the first files

-- these are their contents, which are told
abbrev pub AreTold : Source → List InputFile → List (List ℕ) → Type 0
AreTold files inputs [] = Unit {0}
AreTold files [] (bytes ∷ more) = ⊥
AreTold files (input ∷ inputs) (bytes ∷ more) = (files.contents input.name ≡ Some bytes) × AreTold files inputs more

-- these are their contents where those are told; of others no more is said
abbrev pub AreGiven : Source → List InputFile → List (List ℕ) → Type 0
AreGiven files inputs [] = Unit {0}
AreGiven files [] (bytes ∷ more) = ⊥
AreGiven files (input ∷ inputs) (bytes ∷ more) =
    IfSome (files.contents input.name) (λ contents. bytes ≡ contents) × AreGiven files inputs more

-- ---- what such bytes are, behind captures of some total

-- all of the files are read, and say this
abbrev pub AreReadFrom : Totals → List InputFile → List (List ℕ) → List Content → Type 0
AreReadFrom before [] [] [] = Unit {0}
AreReadFrom before [] [] (content ∷ contents) = ⊥
AreReadFrom before [] (bytes ∷ more) contents = ⊥
AreReadFrom before (input ∷ inputs) [] contents = ⊥
AreReadFrom before (input ∷ inputs) (bytes ∷ more) [] = ⊥
AreReadFrom before (input ∷ inputs) (bytes ∷ more) (content ∷ contents) =
    IsRead input.kind before bytes content × AreReadFrom (totals_with before bytes content) inputs more contents

-- the file of this number is reached, since each one before it is read, and behind those this holds of it
abbrev pub ReachesFrom : (Totals → InputFile → Type 0) → Totals → List InputFile → List (List ℕ) → ℕ → Type 0
ReachesFrom P before [] more file = ⊥
ReachesFrom P before (input ∷ inputs) more zero = P before input
ReachesFrom P before (input ∷ inputs) [] (suc file) = ⊥
ReachesFrom P before (input ∷ inputs) (bytes ∷ more) (suc file) =
    (content : Content) × IsRead input.kind before bytes content
    × ReachesFrom P (totals_with before bytes content) inputs more file

-- the file of this number is the first with a flaw, and has this one
abbrev pub FirstFlawFrom : Totals → List InputFile → List (List ℕ) → ℕ → Flaw → Type 0
FirstFlawFrom before [] more file flaw = ⊥
FirstFlawFrom before (input ∷ inputs) [] file flaw = ⊥
FirstFlawFrom before (input ∷ inputs) (bytes ∷ more) zero flaw = HasFlaw input.kind before bytes flaw
FirstFlawFrom before (input ∷ inputs) (bytes ∷ more) (suc file) flaw =
    (content : Content) × IsRead input.kind before bytes content
    × FirstFlawFrom (totals_with before bytes content) inputs more file flaw

-- ---- of files

-- the files are all read, with the contents that are told, and say this
pub record AreRead (files : Source) (inputs : List InputFile) (contents : List Content) : Type 0 where
  pub bytes : List (List ℕ)
  pub told : AreTold files inputs bytes
  pub read : AreReadFrom no_totals inputs bytes contents

-- the file of this number is reached, with some contents of those before it, as they are told where they are; and behind
-- those this holds of it
pub record Reaches (files : Source) (inputs : List InputFile) (file : ℕ) (P : Totals → InputFile → Type 0) : Type 0 where
  pub bytes : List (List ℕ)
  pub given : AreGiven files inputs bytes
  pub reached : ReachesFrom P no_totals inputs bytes file

-- how bytes are tied to files: by `AreTold` or by `AreGiven`
abbrev pub Tie : Type 1
Tie = Source → List InputFile → List (List ℕ) → Type 0

-- the file of this number is the first with a flaw, and has this one, with bytes that are tied so to the files
pub record FirstFlaw (tie : Tie) (files : Source) (inputs : List InputFile) (file : ℕ) (flaw : Flaw) : Type 0 where
  pub bytes : List (List ℕ)
  pub given : tie files inputs bytes
  pub first : FirstFlawFrom no_totals inputs bytes file flaw

-- what the inputs are: the words are misused, or pass a limit; or a file is the first with a flaw; or nothing is wrong
pub data Finding : Type 0 where
  misused : Finding
  past : (limit : WordsLimit) → Finding
  flawed : (file : ℕ) → (flaw : Flaw) → Finding
  clean : Finding

-- the words and the files are what the finding says; the contents of files are told
abbrev pub Finds : List (List ℕ) → Source → Finding → Type 0
Finds words files misused = asked_of words ≡ Err Usage
Finds words files (past limit) = asked_of words ≡ Err (Limit limit)
Finds words files (flawed file flaw) = AskFor words (λ asked. FirstFlaw AreTold files (files_of asked) file flaw)
Finds words files clean = AskFor words (λ asked. (contents : List Content) × AreRead files (files_of asked) contents)
