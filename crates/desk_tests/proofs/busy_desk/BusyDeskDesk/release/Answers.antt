use Rattle.desk_tests.proofs.BusyDesk.{known_saw, release_saw}
use Rattle.desk_tests.proofs.busy_desk.BusyDeskDesk.release.Goals as goal

pub returns-clause-knows : goal.returns-clause-knows
returns-clause-knows g c =
    known_saw c.self.inside.taken c.self.inside.stage.desk c.release.new.self c.self.inside.notes.items c.self.inside.notes.room c.self.inside.spare
    c.self.inside.stage.others c.self.invariant
    (release_saw c.args.place c.self.inside.stage.desk c.release.new.self c.release.result c.release.ensures.says) c.release.ensures.knows
