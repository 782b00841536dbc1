use Rattle.std.proofs.Common.{◌≡◌, length}
use Rattle.file_text.specs.Text.{words_of}
use Rattle.nat_setup.specs.RuleText.{new_rule, rule_from}
use Rattle.nat_setup.proofs.read.read_rule.Given as goal

abbrev pub invariant-options : goal.invariant-options
invariant-options l =
    rule_from l.rule (words_of l.rest) ≡ rule_from (new_rule l.fn.side) (words_of l.words)

abbrev pub decreases-options : goal.decreases-options
decreases-options l = length l.rest
