-- What holds of the bytes of every file of each kind, behind captures of each total; and of all words and files.
use Rattle.std.specs.Prelude.{IsSome, ◌≡◌, ◌⊎◌, ◌≤◌, ℕ, List, Ok, Err}
use Rattle.std.specs.List.{AllByRecursion}
use Rattle.command_words.specs.declared.WordsError.{WordsError}
use Rattle.command_words.specs.declared.WordsError.TheVariants.{Limit, Usage}
use Rattle.command_words.specs.declared.WordsLimit.{WordsLimit}
use Rattle.command_words.specs.Words.{asked_of, Request}
use Rattle.ct_io.specs.Source.{Source}
use Rattle.run_inputs.specs.declared.flaw.FileKind.{FileKind}
use Rattle.run_inputs.specs.declared.flaw.Flaw.{Flaw}
use Rattle.run_inputs.specs.Content.{Content, IsRead, most_packets, no_totals, Totals}
use Rattle.run_inputs.specs.Flaw.{HasFlaw}
use Rattle.run_inputs.specs.Inputs.{AreGiven, AreReadFrom, AreTold, Finding, Finds, FirstFlawFrom}
use Rattle.run_inputs.specs.Files.{files_named, InputFile}

-- each file is read or has a flaw, behind captures of not too many packets
abbrev pub FilesAreReadOrFlawed : Type 0
FilesAreReadOrFlawed =
    (kind : FileKind) (before : Totals) (bytes : List ℕ) → before.packets ≤ most_packets
    → ((content : Content) × IsRead kind before bytes content) ⊎ ((flaw : Flaw) × HasFlaw kind before bytes flaw)

-- a file that is read has none
abbrev pub ReadFilesHaveNoFlaw : Type 0
ReadFilesHaveNoFlaw =
    (kind : FileKind) (before : Totals) (bytes : List ℕ) (content : Content) (flaw : Flaw)
    → IsRead kind before bytes content → HasFlaw kind before bytes flaw → ⊥

-- a file says one thing at most
abbrev pub ContentsAreUnique : Type 0
ContentsAreUnique =
    (kind : FileKind) (before : Totals) (bytes : List ℕ) (content other : Content)
    → IsRead kind before bytes content → IsRead kind before bytes other → content ≡ other

-- a file has one flaw at most
abbrev pub FlawsAreUnique : Type 0
FlawsAreUnique =
    (kind : FileKind) (before : Totals) (bytes : List ℕ) (flaw other : Flaw)
    → HasFlaw kind before bytes flaw → HasFlaw kind before bytes other → flaw ≡ other

-- the contents of these files are told
abbrev pub AreAllTold : Source → List InputFile → Type 0
AreAllTold files inputs = AllByRecursion (λ (input : InputFile). IsSome (files.contents input.name)) inputs

-- something is found of all words and files, where the contents of the files that are named are told
abbrev pub InputsAreFound : Type 0
InputsAreFound =
    (words : List (List ℕ)) (files : Source) → AreAllTold files (files_named words)
    → (found : Finding) × Finds words files found

-- one thing at most is found of them
abbrev pub FindingsAreUnique : Type 0
FindingsAreUnique =
    (words : List (List ℕ)) (files : Source) (found other : Finding)
    → Finds words files found → Finds words files other → found ≡ other

-- These are bytes of the files where their contents are told, and others are those contents. Where the first are all
-- read, the others have no first flaw; where the first have one, the others are not all read; and each has one first
-- flaw, which is the other's.
pub record GivenIsTold : Type 0 where
  pub read : (files : Source) (inputs : List InputFile) (bytes others : List (List ℕ)) (contents : List Content) (file : ℕ) (flaw : Flaw)
      → AreGiven files inputs bytes → AreTold files inputs others
      → AreReadFrom no_totals inputs bytes contents → FirstFlawFrom no_totals inputs others file flaw → ⊥
  pub flawed : (files : Source) (inputs : List InputFile) (bytes others : List (List ℕ)) (contents : List Content) (file : ℕ) (flaw : Flaw)
      → AreGiven files inputs bytes → AreTold files inputs others
      → FirstFlawFrom no_totals inputs bytes file flaw → AreReadFrom no_totals inputs others contents → ⊥
  pub one : (files : Source) (inputs : List InputFile) (bytes others : List (List ℕ)) (file number : ℕ) (flaw other : Flaw)
      → AreGiven files inputs bytes → AreTold files inputs others
      → FirstFlawFrom no_totals inputs bytes file flaw → FirstFlawFrom no_totals inputs others number other → flaw ≡ other

-- words ask for one thing, or for nothing, and then they are misused or pass a limit
pub record WordsSayOne : Type 0 where
  pub request : (words : List (List ℕ)) (asked other : Request) → asked_of words ≡ Ok asked → asked_of words ≡ Ok other → asked ≡ other
  pub refused : (words : List (List ℕ)) (asked : Request) (error : WordsError) → asked_of words ≡ Err error → asked_of words ≡ Ok asked → ⊥
  pub misused : (words : List (List ℕ)) (limit : WordsLimit) → asked_of words ≡ Err Usage → asked_of words ≡ Err (Limit limit) → ⊥
