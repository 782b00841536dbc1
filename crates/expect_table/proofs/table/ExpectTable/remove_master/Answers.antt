use Rattle.std.proofs.Common.{ap, sym, subst, length, ◌∙◌, arith, position}
use Rattle.std.proofs.lemmas.List.Edits.{length-remove}
use Rattle.room_list.specs.Roomed.{Roomed}
use Rattle.expect_table.specs.declared.expectation.Expectation.{Expectation}
use Rattle.expect_table.specs.Expectations.{AreOrderedOneAMaster, id_of, without_master}
use Rattle.expect_table.specs.Match.{is_of}
use Rattle.expect_table.proofs.Adding.{alone_master, order_removed}
use Rattle.expect_table.proofs.Removal.{first_at, found_within, none_at, none_found, none_out, one_out}
use Rattle.expect_table.proofs.table.ExpectTable.remove_master.Goals as goal

pub returns-in_default-clause-id : goal.returns-in_default-clause-id
returns-in_default-clause-id c =
    rw (← c.self.view_is)
    (sym (ap id_of (none_found (is_of c.args.master) c.self.inside.items.items
    (ap (position (is_of c.args.master)) (sym c.as_slice.ensures) ∙ sym c.index_of_master.ensures ∙ c.in_default.is))))

pub returns-in_default-clause-items : goal.returns-in_default-clause-items
returns-in_default-clause-items c =
    rw (← c.self.view_is)
    (sym (none_out (is_of c.args.master) c.self.inside.items.items
    (none_at (is_of c.args.master) c.self.inside.items.items
    (ap (position (is_of c.args.master)) (sym c.as_slice.ensures) ∙ sym c.index_of_master.ensures ∙ c.in_default.is))))

pub invariant_of-self : goal.invariant_of-self
invariant_of-self c =
    let at = ap (position (is_of c.args.master)) (sym c.as_slice.ensures) ∙ sym c.index_of_master.ensures ∙ c.in-Some.is in
    let within = found_within (is_of c.args.master) c.self.inside.items.items c.in-Some.index at in (
      omega (arith, c.self.invariant.0, ap length c.remove-removed.ensures.items, length-remove c.self.inside.items.items c.in-Some.index within),
      omega (arith, c.self.invariant.1, c.remove-removed.ensures.room),
      subst AreOrderedOneAMaster (sym c.remove-removed.ensures.items) (order_removed c.self.inside.items.items c.in-Some.index within c.self.invariant.2),
    )

pub returns-clause-id : goal.returns-clause-id
returns-clause-id c =
    rw (← c.self.view_is)
    (sym (ap id_of (first_at (is_of c.args.master) c.self.inside.items.items c.in-Some.index c.remove-removed.result
    (ap (position (is_of c.args.master)) (sym c.as_slice.ensures) ∙ sym c.index_of_master.ensures ∙ c.in-Some.is)
    c.remove-removed.ensures.item)))

pub returns-clause-items : goal.returns-clause-items
returns-clause-items c =
    c.remove-removed.ensures.items
    ∙ one_out (is_of c.args.master) c.self.inside.items.items c.in-Some.index
    (alone_master c.args.master c.self.inside.items.items c.self.invariant.2)
    (ap (position (is_of c.args.master)) (sym c.as_slice.ensures) ∙ sym c.index_of_master.ensures ∙ c.in-Some.is)
    ∙ ap (λ (t : Roomed Expectation). without_master c.args.master t.items) c.self.view_is
