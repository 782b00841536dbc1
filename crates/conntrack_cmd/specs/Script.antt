-- A script: what its lines say one after the other, and its first fault.
use Rattle.std.specs.Prelude.{◌≡◌, ℕ, ◌+◌, Bool, true, false, nat_le, List, [], ◌∷◌, ◌++◌, length, Result, Ok, Err, ⊤}
use Rattle.file_text.specs.Reading.{◌>>=◌, located}
use Rattle.file_text.specs.Text.{lines_of, words_of_line}
use Rattle.conntrack_cmd.specs.declared.command.Command.{Command}
use Rattle.conntrack_cmd.specs.declared.command.LineMeaning.{LineMeaning}
use Rattle.conntrack_cmd.specs.declared.command.LineMeaning.TheVariants as meaning
use Rattle.conntrack_cmd.specs.declared.read.ScriptKind.{ScriptKind}
use Rattle.conntrack_cmd.specs.declared.read.ScriptFault.{ScriptFault}
use Rattle.conntrack_cmd.specs.declared.read.ScriptError.{ScriptError}
use Rattle.conntrack_cmd.specs.declared.read.ScriptError.TheVariants.{Fault, NoMemory}
use Rattle.conntrack_cmd.specs.Line.{line_of}

-- the commands among what lines say
abbrev pub commands_of : List LineMeaning → List Command
commands_of [] = []
commands_of (meaning.Nothing ∷ meanings) = commands_of meanings
commands_of (meaning.Command c ∷ meanings) = c ∷ commands_of meanings
commands_of (meaning.Wait ∷ meanings) = commands_of meanings

-- a line says `wait`
abbrev pub has_wait : List LineMeaning → Bool
has_wait [] = false
has_wait (meaning.Nothing ∷ meanings) = has_wait meanings
has_wait (meaning.Command c ∷ meanings) = has_wait meanings
has_wait (meaning.Wait ∷ meanings) = true

-- how many commands stand before `wait`; all where there is none
abbrev pub before_wait : List LineMeaning → ℕ
before_wait [] = 0
before_wait (meaning.Nothing ∷ meanings) = before_wait meanings
before_wait (meaning.Command c ∷ meanings) = before_wait meanings + 1
before_wait (meaning.Wait ∷ meanings) = 0

-- a fault of the line of this number
abbrev pub fault_at : ℕ → ScriptKind → ScriptFault
fault_at number kind = record { line = number; kind = kind }

-- what a line says behind lines that say this; 256 commands fill a script
abbrev pub next_of : List LineMeaning → List ℕ → Result LineMeaning ScriptKind
next_of meanings line = line_of (nat_le 256 (length (commands_of meanings))) (has_wait meanings) (words_of_line line)

-- what all lines say: those that are read, and these behind them
unfoldable pub meanings_from : List LineMeaning → List (List ℕ) → Result (List LineMeaning) ScriptFault
meanings_from meanings [] = Ok meanings
meanings_from meanings (line ∷ lines) = located fault_at (length meanings + 1) (next_of meanings line) >>= λ next. meanings_from (meanings ++ next ∷ []) lines

-- a script's commands, and how many of them stand before `wait`
abbrev pub script_of_meanings : List LineMeaning → List Command × ℕ
script_of_meanings meanings = (commands_of meanings, before_wait meanings)

-- the script that the bytes are, or its first fault
abbrev pub script_of : List ℕ → Result (List Command × ℕ) ScriptFault
script_of bytes = meanings_from [] (lines_of bytes) >>= λ meanings. Ok (script_of_meanings meanings)

-- the bytes are a script of these commands, so many of them before `wait`
abbrev pub IsScript : List ℕ → List Command → ℕ → Type 0
IsScript bytes commands wait = script_of bytes ≡ Ok (commands, wait)

-- the bytes are no script, and this is the first fault
abbrev pub HasFault : List ℕ → ScriptFault → Type 0
HasFault bytes fault = script_of bytes ≡ Err fault

-- why a script was not read: the bytes have this fault; want of memory says nothing of them
abbrev pub IsReason : List ℕ → ScriptError → Type 0
IsReason bytes (Fault fault) = HasFault bytes fault
IsReason bytes NoMemory = ⊤
