use Rattle.history_book.specs.WentOn.{Saw}
use Rattle.history_book.specs.Places.{HoldsNothing}
use Rattle.conntrack_cmd.proofs.looks.look_up.Given as goal

abbrev pub invariant-looks : goal.invariant-looks
invariant-looks g l =
    (goal.iterator-looks g).can_next l.iterator' ×
    (goal.iterator-looks g).is_finite l.iterator' ×
    Saw (g.D.Desk.sight l.fn.desk) (g.D.Desk.sight l.desk) ×
    HoldsNothing (g.D.Desk.sight l.desk)
