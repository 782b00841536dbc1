-- A file of rules: what its lines say one after the other, and its first fault.
use Rattle.std.specs.Prelude.{◌≡◌, ℕ, ◌+◌, nat_le, List, [], ◌∷◌, ◌++◌, length, Result, Ok, Err, ⊤, option_to_list}
use Rattle.nat_setup.specs.declared.rule.Rule.{Rule}
use Rattle.nat_setup.specs.declared.read.RuleKind.{RuleKind}
use Rattle.nat_setup.specs.declared.read.RuleFault.{RuleFault}
use Rattle.nat_setup.specs.declared.read.RuleError.{RuleError}
use Rattle.nat_setup.specs.declared.read.RuleError.TheVariants.{Fault, NoMemory}
use Rattle.file_text.specs.Reading.{◌>>=◌, located}
use Rattle.file_text.specs.Text.{lines_of, words_of_line}
use Rattle.nat_setup.specs.RuleText.{line_of}

-- a fault of the line of this number
abbrev pub fault_at : ℕ → RuleKind → RuleFault
fault_at number kind = record { line = number; kind = kind }

-- the rules of the lines from this number on, behind so many rules; 256 rules fill a file
unfoldable pub rules_from : ℕ → ℕ → List (List ℕ) → Result (List Rule) RuleFault
rules_from number count [] = Ok []
rules_from number count (line ∷ lines) =
    located fault_at number (line_of (nat_le 256 count) (words_of_line line)) >>= λ rule.
    rules_from (number + 1) (count + length (option_to_list rule)) lines >>= λ rules. Ok (option_to_list rule ++ rules)

-- the rules of a file, or its first fault
abbrev pub file_of : List ℕ → Result (List Rule) RuleFault
file_of bytes = rules_from 1 0 (lines_of bytes)

-- the bytes are a file of these rules
abbrev pub IsRulesFile : List ℕ → List Rule → Type 0
IsRulesFile bytes rules = file_of bytes ≡ Ok rules

-- the bytes are no file of rules, and this is the first fault
abbrev pub HasFault : List ℕ → RuleFault → Type 0
HasFault bytes fault = file_of bytes ≡ Err fault

-- why rules were not read: the bytes have this fault; want of memory says nothing of them
abbrev pub IsReason : List ℕ → RuleError → Type 0
IsReason bytes (Fault fault) = HasFault bytes fault
IsReason bytes NoMemory = ⊤
