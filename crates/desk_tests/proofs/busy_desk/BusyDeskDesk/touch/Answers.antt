use Rattle.std.proofs.Common.{ap, ◌-◌}
use Rattle.history_book.specs.declared.event.Event.TheVariants.{Touch}
use Rattle.history_book.specs.Held.{held_id}
use Rattle.history_book.specs.Sight.{Sight}
use Rattle.desk_tests.proofs.BusyDesk.{busy_pushed, busy_silent, known_seen, one_less, touch_made, touched_went}
use Rattle.desk_tests.proofs.busy_desk.BusyDeskDesk.touch.Goals as goal

pub invariant_of-self : goal.invariant_of-self
invariant_of-self g c =
    busy_pushed c.self.inside.stage.desk c.other_meets.new.self.desk c.touch-outcome.new.self c.self.inside.notes.items c.push.new.self.items c.self.inside.notes.room c.push.new.self.room c.self.inside.spare (c.self.inside.spare - 1) c.self.inside.stage.others c.other_meets.new.self.others c.in-Touched.number (Touch c.in-Touched.before.id c.args.direction c.args.segment c.args.moment c.part_after-after.result) c.self.invariant c.other_meets.ensures (touch_made (held_id c.args.place c.other_meets.new.self.desk.held) c.args.direction c.args.segment c.args.moment c.other_meets.new.self.desk c.touch-outcome.new.self c.in-Touched.number c.in-Touched.before c.part_after-after.result c.in-Touched.ensures.says c.part_after-after.ensures) c.touch-outcome.ensures.knows c.push.ensures.items c.push.ensures.room (one_less c.args.self.now c.self.inside.spare (ap (λ (s : Sight). s.spare) c.self.view_is) c.requires.spare)

pub returns-in-Touched-clause-knows : goal.returns-in-Touched-clause-knows
returns-in-Touched-clause-knows g c =
    known_seen c.self.inside.taken c.touch-outcome.new.self c.push.new.self.items c.push.new.self.room (c.self.inside.spare - 1) c.other_meets.new.self.others
    (busy_pushed c.self.inside.stage.desk c.other_meets.new.self.desk c.touch-outcome.new.self c.self.inside.notes.items c.push.new.self.items c.self.inside.notes.room c.push.new.self.room c.self.inside.spare (c.self.inside.spare - 1) c.self.inside.stage.others c.other_meets.new.self.others c.in-Touched.number (Touch c.in-Touched.before.id c.args.direction c.args.segment c.args.moment c.part_after-after.result) c.self.invariant c.other_meets.ensures (touch_made (held_id c.args.place c.other_meets.new.self.desk.held) c.args.direction c.args.segment c.args.moment c.other_meets.new.self.desk c.touch-outcome.new.self c.in-Touched.number c.in-Touched.before c.part_after-after.result c.in-Touched.ensures.says c.part_after-after.ensures) c.touch-outcome.ensures.knows c.push.ensures.items c.push.ensures.room (one_less c.args.self.now c.self.inside.spare (ap (λ (s : Sight). s.spare) c.self.view_is) c.requires.spare))

pub returns-in-Touched-clause-says : goal.returns-in-Touched-clause-says
returns-in-Touched-clause-says g c =
    rw (← c.self.view_is)
    (touched_went c.self.inside.taken c.args.place c.self.inside.stage.desk c.other_meets.new.self.desk c.touch-outcome.new.self c.self.inside.notes.items c.push.new.self.items c.self.inside.spare (c.self.inside.spare - 1) c.self.inside.stage.others c.other_meets.new.self.others c.args.direction c.args.segment c.args.moment c.in-Touched.number c.in-Touched.before c.part_after-after.result c.other_meets.ensures c.in-Touched.ensures.says c.part_after-after.ensures c.push.ensures.items (one_less c.args.self.now c.self.inside.spare (ap (λ (s : Sight). s.spare) c.self.view_is) c.requires.spare))

pub invariant_of-self-in-Ignored : goal.invariant_of-self-in-Ignored
invariant_of-self-in-Ignored g c =
    busy_silent c.self.inside.stage.desk c.other_meets.new.self.desk c.touch-outcome.new.self c.self.inside.notes.items c.self.inside.notes.room c.self.inside.spare c.self.inside.stage.others c.other_meets.new.self.others c.self.invariant c.other_meets.ensures c.in-Ignored.ensures.says.0.saw c.touch-outcome.ensures.knows

pub returns-in-Ignored-clause-knows : goal.returns-in-Ignored-clause-knows
returns-in-Ignored-clause-knows g c =
    known_seen c.self.inside.taken c.touch-outcome.new.self c.self.inside.notes.items c.self.inside.notes.room c.self.inside.spare c.other_meets.new.self.others
    (busy_silent c.self.inside.stage.desk c.other_meets.new.self.desk c.touch-outcome.new.self c.self.inside.notes.items c.self.inside.notes.room c.self.inside.spare c.self.inside.stage.others c.other_meets.new.self.others c.self.invariant c.other_meets.ensures c.in-Ignored.ensures.says.0.saw c.touch-outcome.ensures.knows)

pub invariant_of-self-in-Invalid : goal.invariant_of-self-in-Invalid
invariant_of-self-in-Invalid g c =
    busy_silent c.self.inside.stage.desk c.other_meets.new.self.desk c.touch-outcome.new.self c.self.inside.notes.items c.self.inside.notes.room c.self.inside.spare c.self.inside.stage.others c.other_meets.new.self.others c.self.invariant c.other_meets.ensures c.in-Invalid.ensures.says.0.saw c.touch-outcome.ensures.knows

pub returns-in-Invalid-clause-knows : goal.returns-in-Invalid-clause-knows
returns-in-Invalid-clause-knows g c =
    known_seen c.self.inside.taken c.touch-outcome.new.self c.self.inside.notes.items c.self.inside.notes.room c.self.inside.spare c.other_meets.new.self.others
    (busy_silent c.self.inside.stage.desk c.other_meets.new.self.desk c.touch-outcome.new.self c.self.inside.notes.items c.self.inside.notes.room c.self.inside.spare c.self.inside.stage.others c.other_meets.new.self.others c.self.invariant c.other_meets.ensures c.in-Invalid.ensures.says.0.saw c.touch-outcome.ensures.knows)

pub invariant_of-self-in-Reopen : goal.invariant_of-self-in-Reopen
invariant_of-self-in-Reopen g c =
    busy_silent c.self.inside.stage.desk c.other_meets.new.self.desk c.touch-outcome.new.self c.self.inside.notes.items c.self.inside.notes.room c.self.inside.spare c.self.inside.stage.others c.other_meets.new.self.others c.self.invariant c.other_meets.ensures c.in-Reopen.ensures.says.0.saw c.touch-outcome.ensures.knows

pub returns-in-Reopen-clause-knows : goal.returns-in-Reopen-clause-knows
returns-in-Reopen-clause-knows g c =
    known_seen c.self.inside.taken c.touch-outcome.new.self c.self.inside.notes.items c.self.inside.notes.room c.self.inside.spare c.other_meets.new.self.others
    (busy_silent c.self.inside.stage.desk c.other_meets.new.self.desk c.touch-outcome.new.self c.self.inside.notes.items c.self.inside.notes.room c.self.inside.spare c.self.inside.stage.others c.other_meets.new.self.others c.self.invariant c.other_meets.ensures c.in-Reopen.ensures.says.0.saw c.touch-outcome.ensures.knows)

pub invariant_of-self-in-Reset : goal.invariant_of-self-in-Reset
invariant_of-self-in-Reset g c =
    busy_silent c.self.inside.stage.desk c.other_meets.new.self.desk c.touch-outcome.new.self c.self.inside.notes.items c.self.inside.notes.room c.self.inside.spare c.self.inside.stage.others c.other_meets.new.self.others c.self.invariant c.other_meets.ensures c.in-Reset.ensures.says.0.saw c.touch-outcome.ensures.knows

pub returns-in-Reset-clause-knows : goal.returns-in-Reset-clause-knows
returns-in-Reset-clause-knows g c =
    known_seen c.self.inside.taken c.touch-outcome.new.self c.self.inside.notes.items c.self.inside.notes.room c.self.inside.spare c.other_meets.new.self.others
    (busy_silent c.self.inside.stage.desk c.other_meets.new.self.desk c.touch-outcome.new.self c.self.inside.notes.items c.self.inside.notes.room c.self.inside.spare c.self.inside.stage.others c.other_meets.new.self.others c.self.invariant c.other_meets.ensures c.in-Reset.ensures.says.0.saw c.touch-outcome.ensures.knows)

pub invariant_of-self-in-Expired : goal.invariant_of-self-in-Expired
invariant_of-self-in-Expired g c =
    busy_silent c.self.inside.stage.desk c.other_meets.new.self.desk c.touch-outcome.new.self c.self.inside.notes.items c.self.inside.notes.room c.self.inside.spare c.self.inside.stage.others c.other_meets.new.self.others c.self.invariant c.other_meets.ensures c.in-Expired.ensures.says.0.saw c.touch-outcome.ensures.knows

pub returns-in-Expired-clause-knows : goal.returns-in-Expired-clause-knows
returns-in-Expired-clause-knows g c =
    known_seen c.self.inside.taken c.touch-outcome.new.self c.self.inside.notes.items c.self.inside.notes.room c.self.inside.spare c.other_meets.new.self.others
    (busy_silent c.self.inside.stage.desk c.other_meets.new.self.desk c.touch-outcome.new.self c.self.inside.notes.items c.self.inside.notes.room c.self.inside.spare c.self.inside.stage.others c.other_meets.new.self.others c.self.invariant c.other_meets.ensures c.in-Expired.ensures.says.0.saw c.touch-outcome.ensures.knows)

pub invariant_of-self-in-Gone : goal.invariant_of-self-in-Gone
invariant_of-self-in-Gone g c =
    busy_silent c.self.inside.stage.desk c.other_meets.new.self.desk c.touch-outcome.new.self c.self.inside.notes.items c.self.inside.notes.room c.self.inside.spare c.self.inside.stage.others c.other_meets.new.self.others c.self.invariant c.other_meets.ensures c.in-Gone.ensures.says.0.saw c.touch-outcome.ensures.knows

pub returns-in-Gone-clause-knows : goal.returns-in-Gone-clause-knows
returns-in-Gone-clause-knows g c =
    known_seen c.self.inside.taken c.touch-outcome.new.self c.self.inside.notes.items c.self.inside.notes.room c.self.inside.spare c.other_meets.new.self.others
    (busy_silent c.self.inside.stage.desk c.other_meets.new.self.desk c.touch-outcome.new.self c.self.inside.notes.items c.self.inside.notes.room c.self.inside.spare c.self.inside.stage.others c.other_meets.new.self.others c.self.invariant c.other_meets.ensures c.in-Gone.ensures.says.0.saw c.touch-outcome.ensures.knows)
