use Rattle.std.proofs.Common.{rules, ◌≡◌, ◌∙◌, ◌∷◌, false, codes, bytes_eq, Ok}
use Rattle.file_text.specs.Text.{words_of}
use Rattle.nat_setup.specs.RuleText.{with_option}
use Rattle.nat_setup.proofs.RuleWords.{one_option, two_words}
use Rattle.nat_setup.proofs.read.read_rule.Goals as goal

pub options-preserved : goal.options-preserved
options-preserved c =
    let first : words_of c.options.rest.now ≡ c.in-Some.name.now ∷ words_of c.in-Some.behind.now = search rules in
    let second : words_of c.in-Some.behind.now ≡ c.in-Some-next_word.value.now ∷ words_of c.in-Some-next_word.behind.now = search rules in
    let other : bytes_eq c.in-Some.name.now (codes "to") ≡ false = search rules in
    let read : with_option c.options.rule c.in-Some.name.now c.in-Some-next_word.value.now ≡ Ok c.in_ok-rule-2.rule = search rules in
    let both = two_words (words_of c.options.rest.now) (words_of c.in-Some.behind.now) (words_of c.in-Some-next_word.behind.now) c.in-Some.name.now c.in-Some-next_word.value.now first second in
    one_option c.options.rule c.in_ok-rule-2.rule c.in-Some.name.now c.in-Some-next_word.value.now (words_of c.options.rest.now) (words_of c.in-Some-next_word.behind.now) both other read ∙ c.options.invariant
