use Rattle.std.proofs.Common.{List, [], sym, ap, ◌∙◌, Option}
use Rattle.std.specs.Prelude.{unwrap_or}
use Rattle.expect_table.specs.declared.expectation.Expectation.{Expectation}
use Rattle.track_rule.specs.Sights.{sizes_of}
use Rattle.shared_desk.proofs.UnderBoth.{lower_ids}
use Rattle.shared_desk.proofs.expecting.add_expectation.Goals as goal

pub add-requires : goal.add-requires
add-requires c =
    let made = c.expect_add.ensures.adds in
    lower_ids c.expectations_are_in_order.ensures (sizes_of c.args.pass.now) made.log c.expect_add.result c.args.table.now.items made.all.legal made.number
    (sym (made.expects ∙ ap (λ (o : Option (List Expectation)). unwrap_or o []) c.requires.knows.items))
