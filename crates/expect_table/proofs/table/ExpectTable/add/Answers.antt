use Rattle.std.proofs.Common.{◌≡◌, ◌<◌, List, ◌∷◌, [], ◌++◌, length, ◌∙◌, ap, arith, subst, sym}
use Rattle.std.specs.List.{All}
use Rattle.std.proofs.lemmas.List.{length-append}
use Rattle.room_list.specs.Roomed.{Roomed}
use Rattle.expect_table.specs.declared.expectation.Expectation.{Expectation}
use Rattle.expect_table.specs.Expectations.{add_outcome, AreOrderedOneAMaster, with_one, without_master}
use Rattle.expect_table.proofs.Adding.{order_added, room_left}
use Rattle.expect_table.proofs.table.ExpectTable.add.Goals as goal

pub push-requires : goal.push-requires
push-requires c =
    let es = c.self.inside.items.items in
    let items : c.self-in-Added.inside.items.items ≡ without_master c.args.e.master es =
    ap (λ (t : Roomed Expectation). t.items) c.self-in-Added.view_is ∙ c.remove_master.ensures.items
    ∙ sym (ap (λ (t : Roomed Expectation). without_master c.args.e.master t.items) c.self.view_is) in
    let room : c.self-in-Added.inside.room ≡ c.self.inside.room =
    ap (λ (t : Roomed Expectation). t.room) c.self-in-Added.view_is ∙ c.remove_master.ensures.room
    ∙ sym (ap (λ (t : Roomed Expectation). t.room) c.self.view_is) in
    let left = room_left c.self.inside.room es c.args.e c.args.moment c.in-Added.replaced c.self.invariant.0
    (sym c.in-Added.is ∙ c.outcome_of-outcome.ensures
    ∙ ap (λ (xs : List Expectation). add_outcome c.self.inside.room xs c.args.e c.args.moment) c.as_slice.ensures) in
    omega (arith, ap length items, room, left, c.self-in-Added.invariant.1)

pub invariant_of-self : goal.invariant_of-self
invariant_of-self c =
    let es = c.self.inside.items.items in
    let items : c.self-in-Added.inside.items.items ≡ without_master c.args.e.master es =
    ap (λ (t : Roomed Expectation). t.items) c.self-in-Added.view_is ∙ c.remove_master.ensures.items
    ∙ sym (ap (λ (t : Roomed Expectation). without_master c.args.e.master t.items) c.self.view_is) in
    let room : c.self-in-Added.inside.room ≡ c.self.inside.room =
    ap (λ (t : Roomed Expectation). t.room) c.self-in-Added.view_is ∙ c.remove_master.ensures.room
    ∙ sym (ap (λ (t : Roomed Expectation). t.room) c.self.view_is) in
    let left = room_left c.self.inside.room es c.args.e c.args.moment c.in-Added.replaced c.self.invariant.0
    (sym c.in-Added.is ∙ c.outcome_of-outcome.ensures
    ∙ ap (λ (xs : List Expectation). add_outcome c.self.inside.room xs c.args.e c.args.moment) c.as_slice.ensures) in
    let pushed : c.push.new.self.items ≡ with_one es c.args.e =
    c.push.ensures.items ∙ ap (λ (xs : List Expectation). xs ++ c.args.e ∷ []) items in
    let newer : All (λ o. o.id < c.args.e.id) es =
    subst (λ (t : Roomed Expectation). All (λ o. o.id < c.args.e.id) t.items) (sym c.self.view_is) c.requires in (
      omega (arith, ap length pushed, length-append (without_master c.args.e.master es) (c.args.e ∷ []), room, left),
      omega (arith, c.push.ensures.room, c.self-in-Added.invariant.1),
      subst AreOrderedOneAMaster (sym pushed) (order_added es c.args.e c.self.invariant.2 newer),
    )
