-- What holds of all bytes as scripts.
use Rattle.std.specs.Prelude.{◌≡◌, ◌⊎◌, ◌≤◌, ◌+◌, ◌^◌, ◌&&◌, ◌||◌, ℕ, true, false, is_none, List, [], ◌∷◌, ◌++◌, length, Ok, Err, ⊤}
use Rattle.std.specs.List.{AllByRecursion}
use Rattle.tuple_core.specs.Tuple.{is_valid}
use Rattle.history_book.specs.declared.filter.Filter.{Filter}
use Rattle.file_text.specs.Protocols.{has_ports}
use Rattle.file_text.specs.Text.{lines_of, words_of_line}
use Rattle.conntrack_cmd.specs.declared.command.Command.{Command}
use Rattle.conntrack_cmd.specs.declared.command.Command.TheVariants as command
use Rattle.conntrack_cmd.specs.declared.command.LineMeaning.{LineMeaning}
use Rattle.conntrack_cmd.specs.declared.command.LineMeaning.TheVariants as meaning
use Rattle.conntrack_cmd.specs.declared.read.ScriptFault.{ScriptFault}
use Rattle.conntrack_cmd.specs.Line.{line_of}
use Rattle.conntrack_cmd.specs.Script.{before_wait, commands_of, IsScript, HasFault, next_of, meanings_from}

-- bytes are one script at most
abbrev pub ScriptsAreUnique : Type 0
ScriptsAreUnique =
    (bytes : List ℕ) (commands others : List Command) (wait other : ℕ) → IsScript bytes commands wait → IsScript bytes others other → (commands ≡ others) × (wait ≡ other)

-- bytes have one fault at most
abbrev pub FaultsAreUnique : Type 0
FaultsAreUnique = (bytes : List ℕ) (fault other : ScriptFault) → HasFault bytes fault → HasFault bytes other → fault ≡ other

-- a script has no fault
abbrev pub ScriptsHaveNoFault : Type 0
ScriptsHaveNoFault = (bytes : List ℕ) (commands : List Command) (wait : ℕ) (fault : ScriptFault) → IsScript bytes commands wait → HasFault bytes fault → ⊥

-- each list of bytes is a script, or has a fault
abbrev pub BytesHaveScriptOrFault : Type 0
BytesHaveScriptOrFault =
    (bytes : List ℕ) → ((commands : List Command) × (wait : ℕ) × IsScript bytes commands wait) ⊎ ((fault : ScriptFault) × HasFault bytes fault)

-- each line by itself says this
abbrev pub LinesMean : List (List ℕ) → List LineMeaning → Type 0
LinesMean [] meanings = meanings ≡ []
LinesMean (line ∷ lines) meanings =
    (first : LineMeaning) × (others : List LineMeaning) × (meanings ≡ first ∷ others) × (line_of false false (words_of_line line) ≡ Ok first) × LinesMean lines others

-- how many lines say `wait`
abbrev pub waits_of : List LineMeaning → ℕ
waits_of [] = 0
waits_of (meaning.Nothing ∷ meanings) = waits_of meanings
waits_of (meaning.Command c ∷ meanings) = waits_of meanings
waits_of (meaning.Wait ∷ meanings) = waits_of meanings + 1

-- the commands of a script are what its lines say, in their order, and `wait` stands behind as many as it says
abbrev pub ScriptsSayTheirCommands : Type 0
ScriptsSayTheirCommands =
    (bytes : List ℕ) (commands : List Command) (wait : ℕ) → IsScript bytes commands wait
    → (meanings : List LineMeaning) × LinesMean (lines_of bytes) meanings × (commands ≡ commands_of meanings) × (wait ≡ before_wait meanings)

-- bytes whose lines say at most 256 commands, and `wait` at most once, are a script of them
abbrev pub LinesMakeScripts : Type 0
LinesMakeScripts =
    (bytes : List ℕ) (meanings : List LineMeaning) → LinesMean (lines_of bytes) meanings → length (commands_of meanings) ≤ 256 → waits_of meanings ≤ 1
    → IsScript bytes (commands_of meanings) (before_wait meanings)

-- there are at most 256 commands, and `wait` is at most their number
abbrev pub ScriptsAreShort : Type 0
ScriptsAreShort = (bytes : List ℕ) (commands : List Command) (wait : ℕ) → IsScript bytes commands wait → (length commands ≤ 256) × (wait ≤ length commands)

-- ports stand beside TCP or UDP
abbrev pub IsLawfulFilter : Filter → Type 0
IsLawfulFilter f = (has_ports f.proto || (is_none f.sport && is_none f.dport)) ≡ true

-- a command that a script can have
abbrev pub IsLawful : Command → Type 0
IsLawful (command.List f) = IsLawfulFilter f
IsLawful command.ListExpect = ⊤
IsLawful (command.Get t) = is_valid t ≡ true
IsLawful (command.Delete f) = IsLawfulFilter f
IsLawful command.Flush = ⊤
IsLawful command.Count = ⊤
IsLawful (command.Expire moment) = moment ≤ 10 ^ 16

-- each command of a script is lawful
abbrev pub CommandsAreLawful : Type 0
CommandsAreLawful = (bytes : List ℕ) (commands : List Command) (wait : ℕ) → IsScript bytes commands wait → AllByRecursion IsLawful commands

-- the lines before the fault's have none, and the fault is that of its line behind them
pub record IsFirst (bytes : List ℕ) (fault : ScriptFault) : Type 0 where
  pub before : List (List ℕ)
  pub line : List ℕ
  pub behind : List (List ℕ)
  pub lines : lines_of bytes ≡ before ++ line ∷ behind
  pub number : fault.line ≡ length before + 1
  pub meanings : List LineMeaning
  pub flawless : meanings_from [] before ≡ Ok meanings
  pub faulty : next_of meanings line ≡ Err fault.kind

-- a fault is that of the first faulty line
abbrev pub FaultsAreFirst : Type 0
FaultsAreFirst = (bytes : List ℕ) (fault : ScriptFault) → HasFault bytes fault → IsFirst bytes fault

-- the fault of the first faulty line is the script's
abbrev pub FirstAreFaults : Type 0
FirstAreFaults = (bytes : List ℕ) (fault : ScriptFault) → IsFirst bytes fault → HasFault bytes fault
