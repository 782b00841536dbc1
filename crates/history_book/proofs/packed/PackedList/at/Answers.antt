use Rattle.std.proofs.Common.{ap, arith, sym, ◌∙◌}
use Rattle.std.specs.Prelude.{slice_get}
use Rattle.history_book.specs.Internal.Packed.{value_of}
use Rattle.history_book.proofs.Packing.{get_value, length_seen, stands_whole}
use Rattle.history_book.proofs.packed.PackedList.at.Goals as goal
use Rattle.room_list.specs.Roomed.{Roomed}

pub item-requires : goal.item-requires
item-requires g c =
    let i = c.self.inside in
    omega (
      arith,
      c.requires,
      length_seen g.S.Form.stored i.forms i.whole i.room c.self.invariant c.args.self.now c.self.view_is,
    )

pub item-requires-in-Whole : goal.item-requires-in-Whole
item-requires-in-Whole g c =
    let i = c.self.inside in
    stands_whole g.S.Form.stored i.forms i.whole i.room c.self.invariant c.args.index c.in-Whole.at c.item.result
    c.item.ensures (sym c.read.ensures ∙ c.in-Whole.is)

pub returns-in-Here : goal.returns-in-Here
returns-in-Here g c =
    let i = c.self.inside in
    ap (λ (l : Roomed g.row.T.Denot). slice_get l.items c.args.index) (sym c.self.view_is)
    ∙ get_value g.S.Form.stored i.forms i.whole i.room c.self.invariant c.args.index c.item.result c.item.ensures
    ∙ ap (value_of i.whole.items) (sym c.read.ensures ∙ c.in-Here.is)

pub returns-in-Whole : goal.returns-in-Whole
returns-in-Whole g c =
    let i = c.self.inside in
    ap (λ (l : Roomed g.row.T.Denot). slice_get l.items c.args.index) (sym c.self.view_is)
    ∙ get_value g.S.Form.stored i.forms i.whole i.room c.self.invariant c.args.index c.item.result c.item.ensures
    ∙ ap (value_of i.whole.items) (sym c.read.ensures ∙ c.in-Whole.is)
    ∙ c.item-in-Whole.ensures
