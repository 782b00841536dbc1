-- Laws of files of rules, over lists of lines.
use Rattle.std.proofs.Common.{◌≡◌, ◌∙◌, ◌⊎◌, ℕ, ◌+◌, ◌<◌, ◌≤◌, Bool, true, false, nat_le, List, [], ◌∷◌, ◌++◌, length, Option, Some, None, Result, Ok, Err, option_to_list, inl, inr, subst, arith, refl, sym, ap, length-append}
use Rattle.std.proofs.lemmas.Bool.Decides.{nat_tests}
use Rattle.nat_setup.specs.declared.rule.Rule.{Rule}
use Rattle.nat_setup.specs.declared.rule.Side.{Side}
use Rattle.nat_setup.specs.declared.read.RuleKind.{RuleKind}
use Rattle.nat_setup.specs.declared.read.RuleKind.TheVariants.{Word}
use Rattle.nat_setup.specs.declared.read.RuleFault.{RuleFault}
use Rattle.file_text.specs.ReadingLaws.{came_to, read_there, same_read, stopped, wrong_there}
use Rattle.file_text.specs.Reading.{◌>>=◌, located, required}
use Rattle.file_text.specs.Text.{lines_of, words_of_line}
use Rattle.nat_setup.specs.RuleText.{line_of, rule_from, rule_of, new_rule, side_of}
use Rattle.nat_setup.specs.RuleFile.{fault_at, rules_from, HasFault}
use Rattle.nat_setup.specs.RuleLaws.{LinesGiveRules, IsFirst}

pub either : (read : Result (List Rule) RuleFault) → ((rules : List Rule) × (read ≡ Ok rules)) ⊎ ((fault : RuleFault) × (read ≡ Err fault))
either (Ok rules) = inl (rules, refl)
either (Err fault) = inr (fault, refl)

-- a full file's lines say what they say where there is room
with_room : (full : Bool) (words : List (List ℕ)) (rule : Option Rule) → line_of full words ≡ Ok rule → line_of false words ≡ Ok rule
unfolding line_of
with_room full [] rule said = said
with_room false (word ∷ words) rule said = said
with_room true (word ∷ words) rule said = absurd (cc)

some_and_none : (read : Result (Option Rule) RuleKind) (rule : Rule) → read ≡ Ok (Some rule) → read ≡ Ok None → ⊥
some_and_none read rule first second = cc

never_nothing : (word : List ℕ) (words : List (List ℕ)) → rule_of word words ≡ Ok None → ⊥
never_nothing word words said =
    let h = came_to (required Word (side_of word)) (λ (side : Side). rule_from (new_rule side) words >>= λ (rule : Rule). Ok (Some rule)) None said in
    let k = came_to (rule_from (new_rule h.0) words) (λ (rule : Rule). Ok (Some rule)) None h.2 in
    some_and_none (Ok (Some k.0)) k.0 refl k.2

-- a line that says nothing says so in a full file too
nothing_said : (full : Bool) (words : List (List ℕ)) → line_of false words ≡ Ok None → line_of full words ≡ Ok None
unfolding line_of
nothing_said full [] said = refl
nothing_said full (word ∷ words) said = absurd (never_nothing word words said)

pub say : (number count : ℕ) (lines : List (List ℕ)) (rules : List Rule) → rules_from number count lines ≡ Ok rules → LinesGiveRules lines rules
unfolding rules_from
say number count [] rules read = cc
say number count (line ∷ lines) rules read =
    let here = line_of (nat_le 256 count) (words_of_line line) in
    let h = came_to (located fault_at number here) (λ (rule : Option Rule). rules_from (number + 1) (count + length (option_to_list rule)) lines >>= λ (others : List Rule). Ok (option_to_list rule ++ others)) rules read in
    let k = came_to (rules_from (number + 1) (count + length (option_to_list h.0)) lines) (λ (others : List Rule). Ok (option_to_list h.0 ++ others)) rules h.2 in
    (h.0, k.0, sym (same_read (Ok (option_to_list h.0 ++ k.0)) (option_to_list h.0 ++ k.0) rules refl k.2), with_room (nat_le 256 count) (words_of_line line) h.0 (read_there fault_at number here h.0 h.1), say (number + 1) (count + length (option_to_list h.0)) lines k.0 k.1)

said_here : (count : ℕ) (words : List (List ℕ)) (rule : Option Rule) → line_of false words ≡ Ok rule → count + length (option_to_list rule) ≤ 256 → line_of (nat_le 256 count) words ≡ Ok rule
said_here count words None said few = nothing_said (nat_le 256 count) words said
said_here count words (Some rule) said few =
    let below : count < 256 = omega arith in
    let room : nat_le 256 count ≡ false = grind (arith, nat_tests) in
    rw room said

pub make : (number count : ℕ) (lines : List (List ℕ)) (rules : List Rule) → LinesGiveRules lines rules → count + length rules ≤ 256 → rules_from number count lines ≡ Ok rules
unfolding rules_from
make number count [] rules none few = ap Ok (sym none)
make number count (line ∷ lines) rules (rule, others, is, said, more) few =
    let both : length rules ≡ length (option_to_list rule) + length others = ap length is ∙ length-append (option_to_list rule) others in
    let here = said_here count (words_of_line line) rule said (omega arith) in
    let rest = make (number + 1) (count + length (option_to_list rule)) lines others more (omega arith) in
    rw (here, rest) (ap Ok (sym is))

-- a fault is that of the first faulty line, from a number and a count on
pub record IsFirstFrom (number count : ℕ) (lines : List (List ℕ)) (fault : RuleFault) : Type 0 where
  pub before : List (List ℕ)
  pub line : List ℕ
  pub behind : List (List ℕ)
  pub lines_are : lines ≡ before ++ line ∷ behind
  pub number_is : fault.line ≡ length before + number
  pub rules : List Rule
  pub flawless : rules_from number count before ≡ Ok rules
  pub faulty : line_of (nat_le 256 (count + length rules)) (words_of_line line) ≡ Err fault.kind

here_first : (number count : ℕ) (line : List ℕ) (lines : List (List ℕ)) (fault : RuleFault) → located fault_at number (line_of (nat_le 256 count) (words_of_line line)) ≡ Err fault → IsFirstFrom number count (line ∷ lines) fault
unfolding rules_from
here_first number count line lines fault is =
    let wrong = wrong_there fault_at number (line_of (nat_le 256 count) (words_of_line line)) fault is in
    record {
      before = [];
      line = line;
      behind = lines;
      lines_are = refl;
      number_is = omega (arith, ap (λ (f : RuleFault). f.line) wrong.2);
      rules = [];
      flawless = refl;
      faulty = subst (λ (n : ℕ). line_of (nat_le 256 n) (words_of_line line) ≡ Err fault.kind) (omega arith)
          (wrong.1 ∙ ap (λ (f : RuleFault). Err f.kind) wrong.2);
    }

later_first : (number count : ℕ) (line : List ℕ) (lines : List (List ℕ)) (fault : RuleFault) (rule : Option Rule) → line_of (nat_le 256 count) (words_of_line line) ≡ Ok rule →
    IsFirstFrom (number + 1) (count + length (option_to_list rule)) lines fault → IsFirstFrom number count (line ∷ lines) fault
unfolding rules_from
later_first number count line lines fault rule said first = record {
  before = line ∷ first.before;
  line = first.line;
  behind = first.behind;
  lines_are = ap (λ (ls : List (List ℕ)). line ∷ ls) first.lines_are;
  number_is = omega (arith, first.number_is);
  rules = option_to_list rule ++ first.rules;
  flawless = rw (said, first.flawless);
  faulty = subst (λ (n : ℕ). line_of (nat_le 256 n) (words_of_line first.line) ≡ Err fault.kind) (omega (arith, length-append (option_to_list rule) first.rules)) first.faulty;
}

first_behind : (number count : ℕ) (line : List ℕ) (lines : List (List ℕ)) (fault : RuleFault) (rule : Option Rule) → line_of (nat_le 256 count) (words_of_line line) ≡ Ok rule →
    ((n c : ℕ) → rules_from n c lines ≡ Err fault → IsFirstFrom n c lines fault) →
    (rules_from (number + 1) (count + length (option_to_list rule)) lines ≡ Err fault) ⊎ ((others : List Rule) × (rules_from (number + 1) (count + length (option_to_list rule)) lines ≡ Ok others) × (Ok (option_to_list rule ++ others) ≡ Err fault)) →
    IsFirstFrom number count (line ∷ lines) fault
first_behind number count line lines fault rule said again (inl is) = later_first number count line lines fault rule said (again (number + 1) (count + length (option_to_list rule)) is)
first_behind number count line lines fault rule said again (inr (others, read, is)) = absurd (cc)

first_of : (number count : ℕ) (line : List ℕ) (lines : List (List ℕ)) (fault : RuleFault) →
    ((n c : ℕ) → rules_from n c lines ≡ Err fault → IsFirstFrom n c lines fault) →
    (located fault_at number (line_of (nat_le 256 count) (words_of_line line)) ≡ Err fault)
    ⊎ ((rule : Option Rule) × (located fault_at number (line_of (nat_le 256 count) (words_of_line line)) ≡ Ok rule)
    × ((rules_from (number + 1) (count + length (option_to_list rule)) lines >>= λ (others : List Rule). Ok (option_to_list rule ++ others)) ≡ Err fault)) →
    IsFirstFrom number count (line ∷ lines) fault
first_of number count line lines fault again (inl is) = here_first number count line lines fault is
first_of number count line lines fault again (inr (rule, said, is)) =
    first_behind number count line lines fault rule (read_there fault_at number (line_of (nat_le 256 count) (words_of_line line)) rule said) again
    (stopped (rules_from (number + 1) (count + length (option_to_list rule)) lines) (λ (others : List Rule). Ok (option_to_list rule ++ others)) fault is)

first : (number count : ℕ) (lines : List (List ℕ)) (fault : RuleFault) → rules_from number count lines ≡ Err fault → IsFirstFrom number count lines fault
unfolding rules_from
first number count [] fault read = absurd (cc)
first number count (line ∷ lines) fault read =
    first_of number count line lines fault (λ n c again. first n c lines fault again)
    (stopped (located fault_at number (line_of (nat_le 256 count) (words_of_line line))) (λ (rule : Option Rule). rules_from (number + 1) (count + length (option_to_list rule)) lines >>= λ (others : List Rule). Ok (option_to_list rule ++ others)) fault read)

pub fault_first : (bytes : List ℕ) (fault : RuleFault) → HasFault bytes fault → IsFirst bytes fault
fault_first bytes fault has =
    let f = first 1 0 (lines_of bytes) fault has in
    record {
      before = f.before;
      line = f.line;
      behind = f.behind;
      lines = f.lines_are;
      number = f.number_is;
      rules = f.rules;
      flawless = f.flawless;
      faulty = subst (λ (n : ℕ). line_of (nat_le 256 n) (words_of_line f.line) ≡ Err fault.kind) (omega arith) f.faulty;
    }

same_place : (number place : ℕ) (kind : RuleKind) (read : Result (List Rule) RuleFault) → number ≡ place → read ≡ Err (record { line = number; kind = kind }) → read ≡ Err (record { line = place; kind = kind })
same_place number place kind read is at = subst (λ (n : ℕ). read ≡ Err (record { line = n; kind = kind })) is at

located_fault : (number : ℕ) (line : List ℕ) (count : ℕ) (lines : List (List ℕ)) (kind : RuleKind) → line_of (nat_le 256 count) (words_of_line line) ≡ Err kind → rules_from number count (line ∷ lines) ≡ Err (record { line = number; kind = kind })
unfolding rules_from
located_fault number line count lines kind said = rw said

make_fault : (number count : ℕ) (before : List (List ℕ)) (line : List ℕ) (behind : List (List ℕ)) (rules : List Rule) (kind : RuleKind) (place : ℕ) → rules_from number count before ≡ Ok rules →
    line_of (nat_le 256 (count + length rules)) (words_of_line line) ≡ Err kind → place ≡ length before + number → rules_from number count (before ++ line ∷ behind) ≡ Err (record { line = place; kind = kind })
unfolding rules_from
make_fault number count [] line behind rules kind place read faulty at =
    let none : [] ≡ rules = same_read (Ok []) [] rules refl read in
    let here : line_of (nat_le 256 count) (words_of_line line) ≡ Err kind =
    subst (λ (n : ℕ). line_of (nat_le 256 n) (words_of_line line) ≡ Err kind) (omega (arith, ap length none)) faulty in
    same_place number place kind (rules_from number count (line ∷ behind)) (omega arith) (located_fault number line count behind kind here)
make_fault number count (b ∷ bs) line behind rules kind place read faulty at =
    let said = line_of (nat_le 256 count) (words_of_line b) in
    let h = came_to (located fault_at number said) (λ (rule : Option Rule). rules_from (number + 1) (count + length (option_to_list rule)) bs >>= λ (others : List Rule). Ok (option_to_list rule ++ others)) rules read in
    let k = came_to (rules_from (number + 1) (count + length (option_to_list h.0)) bs) (λ (others : List Rule). Ok (option_to_list h.0 ++ others)) rules h.2 in
    let is : option_to_list h.0 ++ k.0 ≡ rules = same_read (Ok (option_to_list h.0 ++ k.0)) (option_to_list h.0 ++ k.0) rules refl k.2 in
    let long : count + length rules ≡ count + length (option_to_list h.0) + length k.0 = omega (arith, ap length is, length-append (option_to_list h.0) k.0) in
    let here : said ≡ Ok h.0 = read_there fault_at number said h.0 h.1 in
    let more : rules_from (number + 1) (count + length (option_to_list h.0)) (bs ++ line ∷ behind) ≡ Err (record { line = place; kind = kind }) =
    make_fault (number + 1) (count + length (option_to_list h.0)) bs line behind k.0 kind place k.1
    (subst (λ (n : ℕ). line_of (nat_le 256 n) (words_of_line line) ≡ Err kind) long faulty) (omega arith) in
    rw (here, more)

pub first_fault : (bytes : List ℕ) (fault : RuleFault) → IsFirst bytes fault → HasFault bytes fault
first_fault bytes fault first =
    subst (λ (lines : List (List ℕ)). rules_from 1 0 lines ≡ Err fault) (sym first.lines)
    (make_fault 1 0 first.before first.line first.behind first.rules fault.kind fault.line first.flawless
    (subst (λ (n : ℕ). line_of (nat_le 256 n) (words_of_line first.line) ≡ Err fault.kind) (omega arith) first.faulty) first.number)
