use Rattle.std.proofs.Common.{[], arith, ap, ◌++◌, ◌∙◌, ◌∷◌}
use Rattle.history_book.specs.declared.packed.Stored.TheVariants.{Whole}
use Rattle.history_book.proofs.Packing.{has_room, push_short, push_whole, still_packed, still_packed_whole}
use Rattle.history_book.proofs.packed.PackedList.push.Goals as goal
use Rattle.room_list.specs.Roomed.{Roomed}

pub push-requires : goal.push-requires
push-requires g c =
    let i = c.self.inside in
    omega (
      arith,
      c.self.invariant.form_room,
      has_room g.S.Form.stored i.forms i.whole i.room c.self.invariant c.args.self.now c.self.view_is c.requires,
    )

pub invariant_of-self : goal.invariant_of-self
invariant_of-self g c =
    let i = c.self.inside in
    still_packed g.S.Form.stored i.forms i.whole i.room c.self.invariant c.in-Some.form c.args.item c.in-Some.ensures
    c.push.new.self c.push.ensures.items c.push.ensures.room
    (has_room g.S.Form.stored i.forms i.whole i.room c.self.invariant c.args.self.now c.self.view_is c.requires)

pub push-requires-in-None : goal.push-requires-in-None
push-requires-in-None g c =
    let i = c.self.inside in
    omega (
      arith,
      c.self.invariant.whole_room,
      c.self.invariant.fewer,
      has_room g.S.Form.stored i.forms i.whole i.room c.self.invariant c.args.self.now c.self.view_is c.requires,
    )

pub push-requires-in-None-2 : goal.push-requires-in-None-2
push-requires-in-None-2 g c =
    let i = c.self.inside in
    omega (
      arith,
      c.self.invariant.form_room,
      has_room g.S.Form.stored i.forms i.whole i.room c.self.invariant c.args.self.now c.self.view_is c.requires,
    )

pub invariant_of-self-in-None : goal.invariant_of-self-in-None
invariant_of-self-in-None g c =
    let i = c.self.inside in
    still_packed_whole g.S.Form.stored i.forms i.whole i.room c.self.invariant c.whole.result c.args.item
    (c.whole.ensures ∙ ap Whole c.len-at.ensures.exact) c.push-in-None-2.new.self c.push-in-None.new.self
    c.push-in-None-2.ensures.items c.push-in-None-2.ensures.room c.push-in-None.ensures.items c.push-in-None.ensures.room
    (has_room g.S.Form.stored i.forms i.whole i.room c.self.invariant c.args.self.now c.self.view_is c.requires)

pub returns-in-Some-clause-items : goal.returns-in-Some-clause-items
returns-in-Some-clause-items g c =
    let i = c.self.inside in
    push_short g.S.Form.stored i.forms i.whole i.room c.self.invariant c.in-Some.form c.args.item c.in-Some.ensures
    c.push.new.self c.push.ensures.items c.push.ensures.room
    (has_room g.S.Form.stored i.forms i.whole i.room c.self.invariant c.args.self.now c.self.view_is c.requires)
    ∙ ap (λ (l : Roomed g.row.T.Denot). l.items ++ c.args.item ∷ []) c.self.view_is

pub returns-in-None-clause-items : goal.returns-in-None-clause-items
returns-in-None-clause-items g c =
    let i = c.self.inside in
    push_whole g.S.Form.stored i.forms i.whole i.room c.self.invariant c.whole.result c.args.item
    (c.whole.ensures ∙ ap Whole c.len-at.ensures.exact) c.push-in-None-2.new.self c.push-in-None.new.self
    c.push-in-None-2.ensures.items c.push-in-None-2.ensures.room c.push-in-None.ensures.items c.push-in-None.ensures.room
    (has_room g.S.Form.stored i.forms i.whole i.room c.self.invariant c.args.self.now c.self.view_is c.requires)
    ∙ ap (λ (l : Roomed g.row.T.Denot). l.items ++ c.args.item ∷ []) c.self.view_is
