-- The files that the words of the command line name, in the order in which they are read.
use Rattle.std.specs.Prelude.{◌≡◌, ℕ, Result, Ok, Err, option_to_list, List, [], ◌++◌, map, slice_get, unwrap_or}
use Rattle.command_words.specs.Words.{asked_of, made, named, Names, Origin, Request}
use Rattle.command_words.specs.declared.WordsError.{WordsError}
use Rattle.run_inputs.specs.declared.flaw.FileKind.{FileKind}
use Rattle.run_inputs.specs.declared.flaw.FileKind.TheVariants.{Capture, Rules, Script}

-- a file that a run reads
pub record InputFile : Type 0 where
  pub kind : FileKind
  pub name : List ℕ

-- the files of this kind and these names
abbrev pub files_of_kind : FileKind → List (List ℕ) → List InputFile
files_of_kind kind names = map (λ (name : List ℕ). record { kind = kind; name = name }) names

-- the files of these names, in the order in which they are read
abbrev pub files_of_names : Names → List InputFile
files_of_names names =
    files_of_kind Rules (option_to_list names.rules) ++ files_of_kind Script (option_to_list names.script)
    ++ files_of_kind Capture names.captures

-- what is named is read; of a made workload no file is
abbrev pub files_of_origin : Origin → List InputFile
files_of_origin (named names) = files_of_names names
files_of_origin (made workload) = []

-- the files of a request
abbrev pub files_of : Request → List InputFile
files_of asked = files_of_origin asked.origin

-- the files of what is asked; none where the words ask for nothing
abbrev pub files_asked : Result Request WordsError → List InputFile
files_asked (Ok asked) = files_of asked
files_asked (Err why) = []

-- the files that the words name
abbrev pub files_named : List (List ℕ) → List InputFile
files_named words = files_asked (asked_of words)

-- one of these files; past their end, a capture without a name
abbrev pub file_at : List InputFile → ℕ → InputFile
file_at inputs file = unwrap_or (slice_get inputs file) (record { kind = Capture; name = [] })

-- the name of one of the files of the words
abbrev pub name_of : List (List ℕ) → ℕ → List ℕ
name_of words file = (file_at (files_named words) file).name

-- the words ask for something of which this holds
pub record AskFor (words : List (List ℕ)) (P : Request → Type 0) : Type 0 where
  pub asked : Request
  pub says : asked_of words ≡ Ok asked
  pub holds : P asked
