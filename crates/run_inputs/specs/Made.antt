-- The inputs of a made workload, and those of all that is asked for.
use Rattle.std.specs.Prelude.{◌≡◌, ℕ, List, [], ◌∷◌}
use Rattle.command_words.specs.Words.{made, named, Origin, Workload}
use Rattle.ct_io.specs.Source.{Source}
use Rattle.made_captures.specs.MadeCapture.{made_captures}
use Rattle.run_inputs.specs.Content.{Content, IsContentOf, no_totals}
use Rattle.run_inputs.specs.Files.{files_of_names}
use Rattle.run_inputs.specs.Inputs.{AreGiven, AreReadFrom}
use Rattle.run_inputs.specs.declared.flaw.FileKind.TheVariants as kind

-- each of these is a capture, and says this
abbrev pub AreCaptures : List (List ℕ) → List Content → Type 0
AreCaptures [] [] = Unit {0}
AreCaptures [] (content ∷ contents) = ⊥
AreCaptures (bytes ∷ more) [] = ⊥
AreCaptures (bytes ∷ more) (content ∷ contents) = IsContentOf kind.Capture bytes content × AreCaptures more contents

-- they are those of the workload, and say this
pub record AreMade (workload : Workload) (bytes : List (List ℕ)) (contents : List Content) : Type 0 where
  pub made : bytes ≡ made_captures workload.seed workload.packets workload.threads
  pub say : AreCaptures bytes contents

-- These bytes are worked through, and say this: those of the files that are named, where the contents of a file are told;
-- or those that are made.
abbrev pub AreInputsOf : Source → Origin → List (List ℕ) → List Content → Type 0
AreInputsOf files (named names) bytes contents =
    AreGiven files (files_of_names names) bytes × AreReadFrom no_totals (files_of_names names) bytes contents
AreInputsOf files (made workload) bytes contents = AreMade workload bytes contents
