use Rattle.desk_tests.proofs.BusyDesk.{known_saw}
use Rattle.desk_tests.proofs.busy_desk.BusyDeskDesk.recycle.Goals as goal

pub returns-clause-knows : goal.returns-clause-knows
returns-clause-knows g c =
    known_saw c.self.inside.taken c.self.inside.stage.desk c.recycle.new.self c.self.inside.notes.items c.self.inside.notes.room c.self.inside.spare
    c.self.inside.stage.others c.self.invariant
    c.recycle.ensures.says.saw c.recycle.ensures.knows
