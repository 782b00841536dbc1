use Rattle.std.proofs.Common.{◌≡◌}
use Rattle.book_desk.proofs.turn.steps.take_turn.Given as goal

abbrev pub invariant-turns : goal.invariant-turns
invariant-turns g l =
    (goal.iterator-turns g).can_next l.iterator' × (goal.iterator-turns g).is_finite l.iterator'
    × (l.seat.me ≡ l.fn.seat.me) × (l.seat.table_id ≡ l.fn.seat.table_id)
