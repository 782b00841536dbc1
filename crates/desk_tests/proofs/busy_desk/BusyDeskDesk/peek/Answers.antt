use Rattle.desk_tests.proofs.BusyDesk.{known_saw, peek_saw}
use Rattle.desk_tests.proofs.busy_desk.BusyDeskDesk.peek.Goals as goal

pub returns-clause-knows : goal.returns-clause-knows
returns-clause-knows g c =
    known_saw c.self.inside.taken c.self.inside.stage.desk c.peek.new.self c.self.inside.notes.items c.self.inside.notes.room c.self.inside.spare
    c.self.inside.stage.others c.self.invariant
    (peek_saw c.args.place c.self.inside.stage.desk c.peek.new.self c.peek.result c.peek.ensures.says) c.peek.ensures.knows
