use Rattle.std.proofs.Common.{ap, ◌==◌, ◌∙◌, ℕ}
use Rattle.history_book.proofs.Packing.{length_seen}
use Rattle.history_book.proofs.packed.PackedList.is_empty.Goals as goal

pub returns : goal.returns
returns g c =
    let i = c.self.inside in
    c.is_empty.ensures
    ∙ ap (λ (n : ℕ). n == 0)
    (length_seen g.S.Form.stored i.forms i.whole i.room c.self.invariant c.args.self.now c.self.view_is)
