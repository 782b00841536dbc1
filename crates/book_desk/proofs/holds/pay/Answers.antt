use Rattle.std.proofs.Common.{ap, sym, ◌∙◌}
use Rattle.std.specs.List.{position}
use Rattle.std.specs.Prelude.{◌==◌}
use Rattle.book_desk.proofs.Positions.{paid_at, some_at}
use Rattle.book_desk.proofs.holds.pay.Goals as goal

pub returns-in-Some-clause-items : goal.returns-in-Some-clause-items
returns-in-Some-clause-items c =
    c.remove.ensures.items ∙ paid_at c.args.place c.args.owed.now.items c.in-Some.index
    (sym (c.owed_index.ensures ∙ ap (position (λ p. p == c.args.place)) c.as_slice.ensures) ∙ c.in-Some.is)

pub returns-in_default-clause-items : goal.returns-in_default-clause-items
returns-in_default-clause-items c =
    absurd (some_at (λ p. p == c.args.place) c.args.owed.now.items c.requires
    (sym (c.owed_index.ensures ∙ ap (position (λ p. p == c.args.place)) c.as_slice.ensures) ∙ c.in_default.is))
