-- Reading all files that are asked for.
use Rattle.std.proofs.Common.{◌≡◌, ℕ, ◌+◌, Option, Some, None, List, ◌++◌, sym, subst, append_assoc, arith}
use Rattle.std.specs.Prelude.{option_to_list}
use Rattle.conntrack_cmd.specs.declared.read.Script.{Script}
use Rattle.ct_io.specs.Source.{SameFaults, Source, Stays}
use Rattle.nat_setup.specs.declared.rule.Rule.{Rule}
use Rattle.run_inputs.specs.declared.flaw.FileKind.TheVariants as kind
use Rattle.run_inputs.specs.declared.flaw.Refusal.{Refusal}
use Rattle.run_inputs.specs.Content.{no_totals, rules, script}
use Rattle.run_inputs.specs.Reading.{GaveRules, GaveScript, HasCauseFrom, part_of}
use Rattle.run_inputs.specs.Files.{files_of_kind, InputFile}
use Rattle.run_inputs.proofs.OneByOne.{cause_behind, cause_front, cause_later, is_given_later, same_faults, stays_then}

-- how many files a name stands for
abbrev pub count_of : Option (List ℕ) → ℕ
count_of None = 0
count_of (Some name) = 1

abbrev pub rule_files : Option (List ℕ) → List InputFile
rule_files name = files_of_kind kind.Rules (option_to_list name)

abbrev pub script_files : Option (List ℕ) → List InputFile
script_files name = files_of_kind kind.Script (option_to_list name)

-- ---- causes behind files that were read

-- behind the rules
pub behind_rules : (files files' : Source) (name : Option (List ℕ)) (said : List Rule) (inputs : List InputFile) (why : Refusal)
    → GaveRules files name said → HasCauseFrom (part_of no_totals (count_of name) inputs) files files' why
    → HasCauseFrom (part_of no_totals 0 (rule_files name ++ inputs)) files files' why
behind_rules files files' None said inputs why gave cause = cause
behind_rules files files' (Some name) said inputs why gave cause =
    cause_behind files no_totals 0 (record { kind = kind.Rules; name = name }) inputs gave.bytes (rules said) gave.given gave.read files' why cause

-- behind the script
pub behind_script : (files files' : Source) (name : Option (List ℕ)) (said : Script) (first : ℕ) (inputs : List InputFile) (why : Refusal)
    → GaveScript files name said → HasCauseFrom (part_of no_totals (first + count_of name) inputs) files files' why
    → HasCauseFrom (part_of no_totals first (script_files name ++ inputs)) files files' why
behind_script files files' None said first inputs why gave cause =
    let number : first + 0 ≡ first = omega arith in
    subst (λ n. HasCauseFrom (part_of no_totals n inputs) files files' why) number cause
behind_script files files' (Some name) said first inputs why gave cause =
    cause_behind files no_totals first (record { kind = kind.Script; name = name }) inputs gave.bytes
    (script said.commands.items said.wait) gave.given gave.read files' why cause

-- what a script gave later it gave from the beginning on
pub script_later : (files between : Source) → Stays files between → (name : Option (List ℕ)) (said : Script)
    → GaveScript between name said → GaveScript files name said
script_later files between stays None said gave = gave
script_later files between stays (Some name) said gave = record {
  bytes = gave.bytes;
  given = is_given_later files between stays name gave.bytes gave.given;
  read = gave.read;
}

-- ---- reading the three, one after the other

abbrev pub all_files : Option (List ℕ) → Option (List ℕ) → List (List ℕ) → List InputFile
all_files r s names = rule_files r ++ script_files s ++ files_of_kind kind.Capture names

-- a cause behind the rules is one in all
regrouped : (files files' : Source) (r s : Option (List ℕ)) (names : List (List ℕ)) (why : Refusal)
    → HasCauseFrom (part_of no_totals 0 (rule_files r ++ (script_files s ++ files_of_kind kind.Capture names))) files files' why
    → HasCauseFrom (part_of no_totals 0 (all_files r s names)) files files' why
regrouped files files' r s names why cause =
    subst (λ (inputs : List InputFile). HasCauseFrom (part_of no_totals 0 inputs) files files' why)
    (sym (append_assoc (rule_files r) (script_files s) (files_of_kind kind.Capture names))) cause

-- the rules are not read
pub rules_refused : (files files' : Source) (r s : Option (List ℕ)) (names : List (List ℕ)) (why : Refusal)
    → HasCauseFrom (part_of no_totals 0 (rule_files r)) files files' why → HasCauseFrom (part_of no_totals 0 (all_files r s names)) files files' why
rules_refused files files' r s names why cause =
    regrouped files files' r s names why
    (cause_front files (script_files s ++ files_of_kind kind.Capture names) no_totals 0 (rule_files r) files' why cause)

module _ (files between : Source) (r s : Option (List ℕ)) (names : List (List ℕ)) (ruled : List Rule) (gave : GaveRules files r ruled)
    (stays : Stays files between) (same : SameFaults files between) where
  -- the script is not read
  pub script_refused : (first : ℕ) (files' : Source) (why : Refusal) → first ≡ count_of r
      → HasCauseFrom (part_of no_totals first (script_files s)) between files' why
      → HasCauseFrom (part_of no_totals 0 (all_files r s names)) files files' why
  script_refused first files' why number cause =
      let later : HasCauseFrom (part_of no_totals (count_of r) (script_files s)) files files' why =
      subst (λ n. HasCauseFrom (part_of no_totals n (script_files s)) files files' why) number
      (cause_later files between stays same files' (part_of no_totals first (script_files s)) why cause) in
      regrouped files files' r s names why
      (behind_rules files files' r ruled (script_files s ++ files_of_kind kind.Capture names) why gave
      (cause_front files (files_of_kind kind.Capture names) no_totals (count_of r) (script_files s) files' why later))

  -- the captures are not
  pub captures_refused : (after files' : Source) (said : Script) (first : ℕ) (why : Refusal) → GaveScript between s said
      → Stays between after → SameFaults between after → first ≡ count_of r + count_of s
      → HasCauseFrom (part_of no_totals first (files_of_kind kind.Capture names)) after files' why
      → HasCauseFrom (part_of no_totals 0 (all_files r s names)) files files' why
  captures_refused after files' said first why told then unfailed number cause =
      let later : HasCauseFrom (part_of no_totals (count_of r + count_of s) (files_of_kind kind.Capture names)) files files' why =
      subst (λ n. HasCauseFrom (part_of no_totals n (files_of_kind kind.Capture names)) files files' why) number
      (cause_later files after (stays_then files between after stays then) (same_faults files between after same unfailed) files'
      (part_of no_totals first (files_of_kind kind.Capture names)) why cause) in
      regrouped files files' r s names why
      (behind_rules files files' r ruled (script_files s ++ files_of_kind kind.Capture names) why gave
      (behind_script files files' s said (count_of r) (files_of_kind kind.Capture names) why (script_later files between stays s said told) later))
