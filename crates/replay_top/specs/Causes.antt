-- Why a run is refused, and which status the inputs call for.
use Rattle.std.specs.Prelude.{All, false, ◌≡◌, ℕ, ◌⊎◌, Err, List}
use Rattle.command_words.specs.Words.{asked_of}
use Rattle.command_words.specs.declared.WordsError.TheVariants.{Limit, Usage}
use Rattle.ct_io.specs.Counts.{Rose}
use Rattle.ct_io.specs.Source.{Source}
use Rattle.ct_io.specs.Tape.{Tape}
use Rattle.run_inputs.specs.Causes.{CannotOpen, CannotRead, refusal_status}
use Rattle.run_inputs.specs.declared.flaw.Refusal.{Refusal}
use Rattle.run_inputs.specs.declared.flaw.Refusal.TheVariants.{Flawed, Misused, NoMemory, NotOpened, NotRead, PastLimit}
use Rattle.replay_top.specs.ErrorLine.{line_of, Tells}
use Rattle.run_inputs.specs.Flaw.{flaw_status}
use Rattle.run_inputs.specs.Inputs.{AreGiven, clean, Finding, FirstFlaw, flawed, misused, past, Reaches}
use Rattle.run_inputs.specs.Files.{files_named, files_of, InputFile, AskFor}

-- the cause of a refusal, of a run that began with these files and left them so
abbrev pub HasCause : List (List ℕ) → Source → Source → Refusal → Type 0
HasCause words files files' Misused = asked_of words ≡ Err Usage
HasCause words files files' (PastLimit limit) = asked_of words ≡ Err (Limit limit)
HasCause words files files' (Flawed file flaw) = AskFor words (λ asked. FirstFlaw AreGiven files (files_of asked) file flaw)
HasCause words files files' (NotOpened file) = AskFor words (λ asked. Reaches files (files_of asked) file (CannotOpen files files'))
HasCause words files files' (NotRead file) = AskFor words (λ asked. Reaches files (files_of asked) file (CannotRead files files'))
HasCause words files files' NoMemory = Unit {0}

-- the run was refused for a reason that has its cause; this is the reason's status, and its line was told
pub record IsRefused (words : List (List ℕ)) (files files' : Source) (err err' : Tape) (status : ℕ) : Type 0 where
  pub why : Refusal
  pub cause : HasCause words files files' why
  pub own : status ≡ refusal_status why
  pub line : Tells (line_of words why) err err'

-- one of the files could not be opened or read, with the cause of such a refusal
abbrev pub FilesFailed : List (List ℕ) → Source → Source → Type 0
FilesFailed words files files' = (file : ℕ) × (HasCause words files files' (NotOpened file) ⊎ HasCause words files files' (NotRead file))

-- this status, or that of want of memory
abbrev pub IsStatusOrMemory : ℕ → ℕ → Type 0
IsStatusOrMemory status expected = (status ≡ expected) ⊎ (status ≡ 6)

-- The status of a run on inputs of which this was found: the one that they call for, or want of memory;
-- or a file was to be read and that failed; or the report was to be written and that failed.
abbrev pub StatusFits : List (List ℕ) → Source → Source → Tape → Tape → ℕ → Finding → Type 0
StatusFits words files files' out out' status misused = IsStatusOrMemory status 1
StatusFits words files files' out out' status (past limit) = IsStatusOrMemory status 5
StatusFits words files files' out out' status (flawed file flaw) =
    IsStatusOrMemory status (flaw_status flaw) ⊎ (status ≡ 3) × FilesFailed words files files'
StatusFits words files files' out out' status clean =
    IsStatusOrMemory status 0 ⊎ (status ≡ 3) × FilesFailed words files files' ⊎ (status ≡ 4) × Rose out.faults out'.faults

-- the count of opening a name stands, unless one that the words give shares it, or reads are counted in it too
abbrev pub OthersStand : List (List ℕ) → Source → Source → Type 0
OthersStand words files files' =
    (other : List ℕ) → All (λ (input : InputFile). files.shares input.name other ≡ false) (files_named words)
    → files.counts_reads other ≡ false → files'.open_faults other ≡ files.open_faults other
