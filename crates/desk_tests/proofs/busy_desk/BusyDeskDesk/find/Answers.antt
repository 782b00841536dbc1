use Rattle.desk_tests.proofs.BusyDesk.{busy_went, find_saw, known_saw}
use Rattle.desk_tests.proofs.busy_desk.BusyDeskDesk.find.Goals as goal

pub returns-clause-knows : goal.returns-clause-knows
returns-clause-knows g c =
    known_saw c.self.inside.taken c.other_begins.new.self.desk c.find.new.self c.self.inside.notes.items c.self.inside.notes.room c.self.inside.spare
    c.other_begins.new.self.others
    (busy_went c.self.inside.stage.desk c.other_begins.new.self.desk c.self.inside.notes.items c.self.inside.notes.room
    c.self.inside.spare c.self.inside.stage.others c.other_begins.new.self.others c.self.invariant c.other_begins.ensures)
    (find_saw c.args.t.now c.other_begins.new.self.desk c.find.new.self c.find.result c.find.ensures.says) c.find.ensures.knows
