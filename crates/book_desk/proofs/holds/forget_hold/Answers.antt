use Rattle.std.proofs.Common.{ap, sym, ◌∙◌}
use Rattle.std.specs.List.{position}
use Rattle.history_book.specs.Held.{is_at}
use Rattle.book_desk.proofs.Positions.{without_at, some_at}
use Rattle.book_desk.proofs.holds.forget_hold.Goals as goal

pub returns-in-Some-clause-items : goal.returns-in-Some-clause-items
returns-in-Some-clause-items c =
    c.remove.ensures.items ∙ without_at c.args.place c.args.holds.now.items c.in-Some.index
    (sym (c.hold_index.ensures ∙ ap (position (is_at c.args.place)) c.as_slice.ensures) ∙ c.in-Some.is)

pub returns-in_default-clause-items : goal.returns-in_default-clause-items
returns-in_default-clause-items c =
    absurd (some_at (is_at c.args.place) c.args.holds.now.items c.requires
    (sym (c.hold_index.ensures ∙ ap (position (is_at c.args.place)) c.as_slice.ensures) ∙ c.in_default.is))
