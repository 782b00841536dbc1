-- A rule read word by word.
use Rattle.std.proofs.Common.{◌≡◌, ℕ, false, List, ◌∷◌, Ok, codes, bytes_eq}
use Rattle.nat_setup.specs.declared.rule.Rule.{Rule}
use Rattle.nat_setup.specs.RuleText.{rule_from, with_option}

pub one_option : (rule next : Rule) (name value : List ℕ) (line words : List (List ℕ)) → line ≡ name ∷ value ∷ words → bytes_eq name (codes "to") ≡ false → with_option rule name value ≡ Ok next → rule_from next words ≡ rule_from rule line
unfolding rule_from
one_option rule next name value line words is other read = rw (is, other, read)

pub two_words : (line behind words : List (List ℕ)) (name value : List ℕ) → line ≡ name ∷ behind → behind ≡ value ∷ words → line ≡ name ∷ value ∷ words
two_words line behind words name value first second = rw (first, second)
