use Rattle.std.proofs.Common.{◌∙◌, List, sym, ap}
use Rattle.nat_setup.specs.declared.rule.Rule.{Rule}
use Rattle.nat_setup.specs.Rule.{rule_for}
use Rattle.nat_setup.proofs.Translating.{found_lawful}
use Rattle.nat_setup.proofs.translate.translate.Goals as goal

pub translate_by-requires-clause-lawful : goal.translate_by-requires-clause-lawful
translate_by-requires-clause-lawful g c =
    found_lawful c.args.t.now c.args.rules.now.items c.in-Some.rule c.requires.lawful
    (ap (λ (rules : List Rule). rule_for rules c.args.t.now) (sym c.as_slice.ensures) ∙ sym c.in-Some.ensures)
