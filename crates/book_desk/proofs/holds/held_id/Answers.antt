use Rattle.std.proofs.Common.{sym, ◌∙◌}
use Rattle.book_desk.proofs.Positions.{held_id_none, held_id_at}
use Rattle.book_desk.proofs.holds.held_id.Goals as goal

pub returns-in_default : goal.returns-in_default
returns-in_default c = sym (held_id_none c.args.place c.args.holds.now (sym c.hold_index.ensures ∙ c.in_default.is))

pub returns : goal.returns
returns c = c.unwrap_or.ensures ∙ sym (held_id_at c.args.place c.args.holds.now c.in-Some.index _ (sym c.hold_index.ensures ∙ c.in-Some.is))
