use Rattle.std.proofs.Common.{ap, ◌-◌}
use Rattle.history_book.specs.declared.event.Event.TheVariants.{Destroy}
use Rattle.history_book.specs.Held.{held_id}
use Rattle.history_book.specs.Sight.{Sight}
use Rattle.desk_tests.proofs.BusyDesk.{busy_pushed, busy_silent, known_seen, one_less, kill_made, killed_went}
use Rattle.desk_tests.proofs.busy_desk.BusyDeskDesk.kill.Goals as goal

pub invariant_of-self : goal.invariant_of-self
invariant_of-self g c =
    busy_pushed c.self.inside.stage.desk c.other_meets.new.self.desk c.kill-outcome.new.self c.self.inside.notes.items c.push.new.self.items c.self.inside.notes.room c.push.new.self.room c.self.inside.spare (c.self.inside.spare - 1) c.self.inside.stage.others c.other_meets.new.self.others c.in-Killed.number (Destroy c.in-Killed.subject.id c.args.why) c.self.invariant c.other_meets.ensures (kill_made (held_id c.args.place c.other_meets.new.self.desk.held) c.args.why c.other_meets.new.self.desk c.kill-outcome.new.self c.in-Killed.number c.in-Killed.subject c.in-Killed.ensures.says) c.kill-outcome.ensures.knows c.push.ensures.items c.push.ensures.room (one_less c.args.self.now c.self.inside.spare (ap (λ (s : Sight). s.spare) c.self.view_is) c.requires.spare)

pub returns-in-Killed-clause-knows : goal.returns-in-Killed-clause-knows
returns-in-Killed-clause-knows g c =
    known_seen c.self.inside.taken c.kill-outcome.new.self c.push.new.self.items c.push.new.self.room (c.self.inside.spare - 1) c.other_meets.new.self.others
    (busy_pushed c.self.inside.stage.desk c.other_meets.new.self.desk c.kill-outcome.new.self c.self.inside.notes.items c.push.new.self.items c.self.inside.notes.room c.push.new.self.room c.self.inside.spare (c.self.inside.spare - 1) c.self.inside.stage.others c.other_meets.new.self.others c.in-Killed.number (Destroy c.in-Killed.subject.id c.args.why) c.self.invariant c.other_meets.ensures (kill_made (held_id c.args.place c.other_meets.new.self.desk.held) c.args.why c.other_meets.new.self.desk c.kill-outcome.new.self c.in-Killed.number c.in-Killed.subject c.in-Killed.ensures.says) c.kill-outcome.ensures.knows c.push.ensures.items c.push.ensures.room (one_less c.args.self.now c.self.inside.spare (ap (λ (s : Sight). s.spare) c.self.view_is) c.requires.spare))

pub returns-in-Killed-clause-says : goal.returns-in-Killed-clause-says
returns-in-Killed-clause-says g c =
    rw (← c.self.view_is)
    (killed_went c.self.inside.taken c.args.place c.self.inside.stage.desk c.other_meets.new.self.desk c.kill-outcome.new.self c.self.inside.notes.items c.push.new.self.items c.self.inside.spare (c.self.inside.spare - 1) c.self.inside.stage.others c.other_meets.new.self.others c.args.why c.in-Killed.number c.in-Killed.subject c.other_meets.ensures c.in-Killed.ensures.says c.push.ensures.items (one_less c.args.self.now c.self.inside.spare (ap (λ (s : Sight). s.spare) c.self.view_is) c.requires.spare))

pub invariant_of-self-in-Gone : goal.invariant_of-self-in-Gone
invariant_of-self-in-Gone g c =
    busy_silent c.self.inside.stage.desk c.other_meets.new.self.desk c.kill-outcome.new.self c.self.inside.notes.items c.self.inside.notes.room c.self.inside.spare c.self.inside.stage.others c.other_meets.new.self.others c.self.invariant c.other_meets.ensures c.in-Gone.ensures.says.0.saw c.kill-outcome.ensures.knows

pub returns-in-Gone-clause-knows : goal.returns-in-Gone-clause-knows
returns-in-Gone-clause-knows g c =
    known_seen c.self.inside.taken c.kill-outcome.new.self c.self.inside.notes.items c.self.inside.notes.room c.self.inside.spare c.other_meets.new.self.others
    (busy_silent c.self.inside.stage.desk c.other_meets.new.self.desk c.kill-outcome.new.self c.self.inside.notes.items c.self.inside.notes.room c.self.inside.spare c.self.inside.stage.others c.other_meets.new.self.others c.self.invariant c.other_meets.ensures c.in-Gone.ensures.says.0.saw c.kill-outcome.ensures.knows)

pub invariant_of-self-in-Not : goal.invariant_of-self-in-Not
invariant_of-self-in-Not g c =
    busy_silent c.self.inside.stage.desk c.other_meets.new.self.desk c.kill-outcome.new.self c.self.inside.notes.items c.self.inside.notes.room c.self.inside.spare c.self.inside.stage.others c.other_meets.new.self.others c.self.invariant c.other_meets.ensures c.in-Not.ensures.says.0.saw c.kill-outcome.ensures.knows

pub returns-in-Not-clause-knows : goal.returns-in-Not-clause-knows
returns-in-Not-clause-knows g c =
    known_seen c.self.inside.taken c.kill-outcome.new.self c.self.inside.notes.items c.self.inside.notes.room c.self.inside.spare c.other_meets.new.self.others
    (busy_silent c.self.inside.stage.desk c.other_meets.new.self.desk c.kill-outcome.new.self c.self.inside.notes.items c.self.inside.notes.room c.self.inside.spare c.self.inside.stage.others c.other_meets.new.self.others c.self.invariant c.other_meets.ensures c.in-Not.ensures.says.0.saw c.kill-outcome.ensures.knows)
