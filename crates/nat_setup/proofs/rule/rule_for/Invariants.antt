use Rattle.std.proofs.Common.{◌≡◌, drop, find}
use Rattle.std.specs.List.{AllByRecursion}
use Rattle.nat_setup.specs.Rule.{IsLawfulRule, matches}
use Rattle.nat_setup.proofs.rule.rule_for.Given as goal

abbrev pub invariant-loop-rule : goal.invariant-loop-rule
invariant-loop-rule l =
    (AllByRecursion IsLawfulRule (drop l.rule-index l.rules)) × (find (matches l.t) (drop l.rule-index l.rules) ≡ find (matches l.t) l.rules)
