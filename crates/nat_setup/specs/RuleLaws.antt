-- What holds of all bytes as files of rules.
use Rattle.std.specs.Prelude.{◌≡◌, ◌⊎◌, ◌≤◌, ◌+◌, ℕ, false, nat_le, List, [], ◌∷◌, ◌++◌, length, Option, Ok, Err, option_to_list}
use Rattle.std.specs.List.{AllByRecursion}
use Rattle.nat_setup.specs.declared.rule.Rule.{Rule}
use Rattle.nat_setup.specs.declared.read.RuleFault.{RuleFault}
use Rattle.nat_setup.specs.Rule.{IsLawfulRule}
use Rattle.file_text.specs.Text.{lines_of, words_of_line}
use Rattle.nat_setup.specs.RuleText.{line_of}
use Rattle.nat_setup.specs.RuleFile.{IsRulesFile, HasFault, rules_from}

-- bytes are a file of one list of rules at most
abbrev pub RulesAreUnique : Type 0
RulesAreUnique = (bytes : List ℕ) (rules other : List Rule) → IsRulesFile bytes rules → IsRulesFile bytes other → rules ≡ other

-- bytes have one fault at most
abbrev pub FaultsAreUnique : Type 0
FaultsAreUnique = (bytes : List ℕ) (fault other : RuleFault) → HasFault bytes fault → HasFault bytes other → fault ≡ other

-- a file of rules has no fault
abbrev pub FilesHaveNoFault : Type 0
FilesHaveNoFault = (bytes : List ℕ) (rules : List Rule) (fault : RuleFault) → IsRulesFile bytes rules → HasFault bytes fault → ⊥

-- each list of bytes is a file of some rules, or has a fault
abbrev pub BytesHaveRulesOrFault : Type 0
BytesHaveRulesOrFault = (bytes : List ℕ) → ((rules : List Rule) × IsRulesFile bytes rules) ⊎ ((fault : RuleFault) × HasFault bytes fault)

-- each line says a rule or nothing, and the rules are what the lines say, in their order
abbrev pub LinesGiveRules : List (List ℕ) → List Rule → Type 0
LinesGiveRules [] rules = rules ≡ []
LinesGiveRules (line ∷ lines) rules =
    (rule : Option Rule) × (others : List Rule) × (rules ≡ option_to_list rule ++ others) × (line_of false (words_of_line line) ≡ Ok rule) × LinesGiveRules lines others

-- the lines of a file of rules say its rules
abbrev pub FilesSayTheirRules : Type 0
FilesSayTheirRules = (bytes : List ℕ) (rules : List Rule) → IsRulesFile bytes rules → LinesGiveRules (lines_of bytes) rules

-- bytes whose lines say at most 256 rules are a file of them
abbrev pub LinesMakeFiles : Type 0
LinesMakeFiles = (bytes : List ℕ) (rules : List Rule) → LinesGiveRules (lines_of bytes) rules → length rules ≤ 256 → IsRulesFile bytes rules

-- the rules of a file are lawful, and at most 256
abbrev pub RulesAreLawful : Type 0
RulesAreLawful = (bytes : List ℕ) (rules : List Rule) → IsRulesFile bytes rules → AllByRecursion IsLawfulRule rules × (length rules ≤ 256)

-- the lines before the fault's are a file's, and the fault is that of its line
pub record IsFirst (bytes : List ℕ) (fault : RuleFault) : Type 0 where
  pub before : List (List ℕ)
  pub line : List ℕ
  pub behind : List (List ℕ)
  pub lines : lines_of bytes ≡ before ++ line ∷ behind
  pub number : fault.line ≡ length before + 1
  pub rules : List Rule
  pub flawless : rules_from 1 0 before ≡ Ok rules
  pub faulty : line_of (nat_le 256 (length rules)) (words_of_line line) ≡ Err fault.kind

-- a fault is that of the first faulty line
abbrev pub FaultsAreFirst : Type 0
FaultsAreFirst = (bytes : List ℕ) (fault : RuleFault) → HasFault bytes fault → IsFirst bytes fault

-- the fault of the first faulty line is the file's
abbrev pub FirstAreFaults : Type 0
FirstAreFaults = (bytes : List ℕ) (fault : RuleFault) → IsFirst bytes fault → HasFault bytes fault
