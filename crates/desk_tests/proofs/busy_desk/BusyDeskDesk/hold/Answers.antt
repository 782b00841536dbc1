use Rattle.desk_tests.proofs.BusyDesk.{hold_saw, known_saw}
use Rattle.desk_tests.proofs.busy_desk.BusyDeskDesk.hold.Goals as goal

pub returns-clause-knows : goal.returns-clause-knows
returns-clause-knows g c =
    known_saw c.self.inside.taken c.self.inside.stage.desk c.hold.new.self c.self.inside.notes.items c.self.inside.notes.room c.self.inside.spare
    c.self.inside.stage.others c.self.invariant
    (hold_saw c.args.place c.self.inside.stage.desk c.hold.new.self c.hold.result c.hold.ensures.says) c.hold.ensures.knows
