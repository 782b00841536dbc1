-- The rules of a file, line by line.
use Rattle.std.proofs.Common.{◌≡◌, ◌∙◌, ℕ, ◌+◌, ◌<◌, ◌≤◌, nat_le, List, [], ◌∷◌, ◌++◌, length, Option, Result, Ok, Err, option_to_list, arith, refl, sym, ap, append_assoc, append-nil, length-append}
use Rattle.nat_setup.specs.declared.rule.Rule.{Rule}
use Rattle.nat_setup.specs.declared.read.RuleKind.{RuleKind}
use Rattle.nat_setup.specs.declared.read.RuleFault.{RuleFault}
use Rattle.file_text.specs.Reading.{◌>>=◌}
use Rattle.file_text.specs.Text.{lines_of, words_of_line}
use Rattle.nat_setup.specs.RuleText.{line_of}
use Rattle.nat_setup.specs.RuleFile.{file_of, rules_from}

-- these rules, and those that were read behind them
abbrev pub with_front : List Rule → Result (List Rule) RuleFault → Result (List Rule) RuleFault
with_front front read = read >>= λ (rules : List Rule). Ok (front ++ rules)

-- so many lines are read, which say these rules, and what is left decides
pub record HasRead (bytes rest : List ℕ) (items : List Rule) (number : ℕ) : Type 0 where
  pub same : with_front items (rules_from (number + 1) (length items) (lines_of rest)) ≡ file_of bytes
  pub fits : number + length rest ≤ length bytes

front_of_both : (items more : List Rule) (read : Result (List Rule) RuleFault) → with_front (items ++ more) read ≡ with_front items (read >>= λ (rules : List Rule). Ok (more ++ rules))
front_of_both items more (Ok rules) = rw append_assoc
front_of_both items more (Err fault) = refl

line_said : (items : List Rule) (number : ℕ) (line : List ℕ) (lines : List (List ℕ)) (rule : Option Rule) → line_of (nat_le 256 (length items)) (words_of_line line) ≡ Ok rule →
    with_front (items ++ option_to_list rule) (rules_from (number + 1) (length (items ++ option_to_list rule)) lines) ≡ with_front items (rules_from number (length items) (line ∷ lines))
unfolding rules_from
line_said items number line lines rule said =
    rw (said, length-append) (front_of_both items (option_to_list rule) (rules_from (number + 1) (length items + length (option_to_list rule)) lines))

line_faulty : (items : List Rule) (number : ℕ) (line : List ℕ) (lines : List (List ℕ)) (kind : RuleKind) → line_of (nat_le 256 (length items)) (words_of_line line) ≡ Err kind →
    with_front items (rules_from number (length items) (line ∷ lines)) ≡ Err (record { line = number; kind = kind })
unfolding rules_from
line_faulty items number line lines kind said = rw said

more_items : (bytes rest line behind : List ℕ) (items : List Rule) (number : ℕ) (rule : Option Rule) → HasRead bytes rest items number → lines_of rest ≡ line ∷ lines_of behind → length behind < length rest →
    line_of (nat_le 256 (length items)) (words_of_line line) ≡ Ok rule → HasRead bytes behind (items ++ option_to_list rule) (number + 1)
more_items bytes rest line behind items number rule read here less said = record {
  same = line_said items (number + 1) line (lines_of behind) rule said ∙ (ap (λ (lines : List (List ℕ)). with_front items (rules_from (number + 1) (length items) lines)) (sym here) ∙ read.same);
  fits = omega (arith, read.fits);
}

-- a line that has no fault is read
pub read_more : (bytes rest line behind : List ℕ) (items longer : List Rule) (number : ℕ) (rule : Option Rule) → HasRead bytes rest items number → lines_of rest ≡ line ∷ lines_of behind → length behind < length rest →
    line_of (nat_le 256 (length items)) (words_of_line line) ≡ Ok rule → longer ≡ items ++ option_to_list rule → HasRead bytes behind longer (number + 1)
read_more bytes rest line behind items longer number rule read here less said is =
    rw is (more_items bytes rest line behind items number rule read here less said)

-- a line that has a fault is the first
pub found_fault : (bytes rest line behind : List ℕ) (items : List Rule) (number : ℕ) (kind : RuleKind) → HasRead bytes rest items number → lines_of rest ≡ line ∷ lines_of behind →
    line_of (nat_le 256 (length items)) (words_of_line line) ≡ Err kind → file_of bytes ≡ Err (record { line = number + 1; kind = kind })
found_fault bytes rest line behind items number kind read here said =
    sym read.same ∙ (ap (λ (lines : List (List ℕ)). with_front items (rules_from (number + 1) (length items) lines)) here ∙ line_faulty items (number + 1) line (lines_of behind) kind said)

nothing_left : (items : List Rule) (number : ℕ) → with_front items (rules_from number (length items) (lines_of [])) ≡ Ok items
unfolding rules_from lines_of
nothing_left items number = rw append-nil

-- behind the last line all is read
pub all_read : (bytes rest : List ℕ) (items : List Rule) (number : ℕ) → HasRead bytes rest items number → length rest ≡ 0 → file_of bytes ≡ Ok items
all_read bytes [] items number read empty = sym read.same ∙ nothing_left items (number + 1)
all_read bytes (b ∷ rest) items number read empty = absurd (omega arith)
