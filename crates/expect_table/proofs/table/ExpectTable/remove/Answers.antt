use Rattle.std.proofs.Common.{ap, sym, subst, length, ◌∙◌, arith, position}
use Rattle.std.proofs.lemmas.List.Edits.{length-remove}
use Rattle.room_list.specs.Roomed.{Roomed}
use Rattle.expect_table.specs.declared.expectation.Expectation.{Expectation}
use Rattle.expect_table.specs.Expectations.{AreOrderedOneAMaster, without_id}
use Rattle.expect_table.specs.Match.{has_id}
use Rattle.expect_table.proofs.Adding.{alone_id, order_removed}
use Rattle.expect_table.proofs.Removal.{any_at, found_within, none_at, none_out, one_out}
use Rattle.expect_table.proofs.table.ExpectTable.remove.Goals as goal

pub returns-in_default-clause-there : goal.returns-in_default-clause-there
returns-in_default-clause-there c =
    rw (← c.self.view_is)
    (sym (none_at (has_id c.args.id) c.self.inside.items.items
    (ap (position (has_id c.args.id)) (sym c.as_slice.ensures) ∙ sym c.index_of_id.ensures ∙ c.in_default.is)))

pub returns-in_default-clause-items : goal.returns-in_default-clause-items
returns-in_default-clause-items c =
    rw (← c.self.view_is)
    (sym (none_out (has_id c.args.id) c.self.inside.items.items
    (none_at (has_id c.args.id) c.self.inside.items.items
    (ap (position (has_id c.args.id)) (sym c.as_slice.ensures) ∙ sym c.index_of_id.ensures ∙ c.in_default.is))))

pub invariant_of-self : goal.invariant_of-self
invariant_of-self c =
    let at = ap (position (has_id c.args.id)) (sym c.as_slice.ensures) ∙ sym c.index_of_id.ensures ∙ c.in-Some.is in
    let within = found_within (has_id c.args.id) c.self.inside.items.items c.in-Some.index at in (
      omega (arith, c.self.invariant.0, ap length c.remove.ensures.items, length-remove c.self.inside.items.items c.in-Some.index within),
      omega (arith, c.self.invariant.1, c.remove.ensures.room),
      subst AreOrderedOneAMaster (sym c.remove.ensures.items) (order_removed c.self.inside.items.items c.in-Some.index within c.self.invariant.2),
    )

pub returns-clause-there : goal.returns-clause-there
returns-clause-there c =
    rw (← c.self.view_is)
    (sym (any_at (has_id c.args.id) c.self.inside.items.items c.in-Some.index
    (ap (position (has_id c.args.id)) (sym c.as_slice.ensures) ∙ sym c.index_of_id.ensures ∙ c.in-Some.is)))

pub returns-clause-items : goal.returns-clause-items
returns-clause-items c =
    c.remove.ensures.items
    ∙ one_out (has_id c.args.id) c.self.inside.items.items c.in-Some.index
    (alone_id c.args.id c.self.inside.items.items c.self.invariant.2)
    (ap (position (has_id c.args.id)) (sym c.as_slice.ensures) ∙ sym c.index_of_id.ensures ∙ c.in-Some.is)
    ∙ ap (λ (t : Roomed Expectation). without_id c.args.id t.items) c.self.view_is
