-- What a line of a script says, word by word.
use Rattle.std.specs.Prelude.{ℕ, ◌^◌, Bool, true, false, if◌then◌else◌, List, [], ◌∷◌, Result, Ok, Err, codes, bytes_eq, Option}
use Rattle.file_text.specs.Reading.{◌>>=◌, required}
use Rattle.file_text.specs.Text.{number_in}
use Rattle.conntrack_cmd.specs.declared.command.Command.{Command}
use Rattle.conntrack_cmd.specs.declared.command.Command.TheVariants as command
use Rattle.conntrack_cmd.specs.declared.command.LineMeaning.{LineMeaning}
use Rattle.conntrack_cmd.specs.declared.command.LineMeaning.TheVariants as meaning
use Rattle.conntrack_cmd.specs.declared.read.ScriptKind.{ScriptKind}
use Rattle.conntrack_cmd.specs.declared.read.ScriptKind.TheVariants as kind
use Rattle.conntrack_cmd.specs.Options.{filter_of, tuple_of}

-- no word stands behind this
abbrev pub alone : {A : Type 0} → A → List (List ℕ) → Result A ScriptKind
alone x [] = Ok x
alone x (word ∷ words) = Err kind.Option

-- behind `-L`, `expect` by itself asks for the expectations
abbrev pub is_expect : List (List ℕ) → Bool
is_expect [] = false
is_expect (word ∷ []) = bytes_eq word (codes "expect")
is_expect (word ∷ next ∷ words) = false

unfoldable pub list_of : List (List ℕ) → Result Command ScriptKind
list_of words = if is_expect words then Ok command.ListExpect else (filter_of words >>= λ f. Ok (command.List f))

-- a moment is a number from 0 to 10^16
unfoldable pub moment_in : List ℕ → Option ℕ
moment_in text = number_in 17 0 (10 ^ 16) text

unfoldable pub expire_of : List (List ℕ) → Result Command ScriptKind
expire_of [] = Err kind.Value
expire_of (word ∷ words) = required kind.Value (moment_in word) >>= λ moment. alone (command.Expire moment) words

-- a command is its first word, and the words behind
unfoldable pub command_of : List ℕ → List (List ℕ) → Result Command ScriptKind
command_of word words =
    if bytes_eq word (codes "-L") then list_of words else
    (if bytes_eq word (codes "-G") then (tuple_of words >>= λ t. Ok (command.Get t)) else
    (if bytes_eq word (codes "-D") then (filter_of words >>= λ f. Ok (command.Delete f)) else
    (if bytes_eq word (codes "-F") then alone command.Flush words else
    (if bytes_eq word (codes "-C") then alone command.Count words else
    (if bytes_eq word (codes "expire") then expire_of words else Err kind.Command)))))

-- `wait` stands alone, and once in a script
abbrev pub wait_of : Bool → List (List ℕ) → Result LineMeaning ScriptKind
wait_of waited (word ∷ words) = Err kind.Option
wait_of false [] = Ok meaning.Wait
wait_of true [] = Err kind.Repeat

-- a line that is skipped says nothing, others `wait` or a command; where the script is full, no command may follow
unfoldable pub line_of : Bool → Bool → List (List ℕ) → Result LineMeaning ScriptKind
line_of full waited [] = Ok meaning.Nothing
line_of full waited (word ∷ words) =
    if bytes_eq word (codes "wait") then wait_of waited words else
    (if full then Err kind.TooMany else (command_of word words >>= λ c. Ok (meaning.Command c)))
