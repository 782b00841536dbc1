use Rattle.std.proofs.Common.{◌∙◌}
use Rattle.history_book.proofs.Packing.{is_few, length_seen}
use Rattle.history_book.proofs.packed.PackedList.len.Goals as goal

pub returns-clause-exact : goal.returns-clause-exact
returns-clause-exact g c =
    let i = c.self.inside in
    c.len.ensures.exact
    ∙ length_seen g.S.Form.stored i.forms i.whole i.room c.self.invariant c.args.self.now c.self.view_is

pub returns-clause-few : goal.returns-clause-few
returns-clause-few g c =
    let i = c.self.inside in is_few g.S.Form.stored i.forms i.whole i.room c.self.invariant c.args.self.now c.self.view_is
