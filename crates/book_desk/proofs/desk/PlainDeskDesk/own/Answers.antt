use Rattle.book_desk.proofs.Plain.{known}
use Rattle.book_desk.proofs.desk.PlainDeskDesk.own.Goals as goal

pub returns-clause-knows : goal.returns-clause-knows
returns-clause-knows c = rw (← c.self.view_is) (known _ _ _ _ c.self.invariant)
