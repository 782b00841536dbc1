use Rattle.std.proofs.Common.{ap, arith, ◌-◌}
use Rattle.history_book.specs.declared.event.Event.TheVariants.{Unexpect}
use Rattle.history_book.specs.Sight.{Sight}
use Rattle.desk_tests.proofs.BusyDesk.{busy_pushed, busy_saw, known_seen, one_less, went_refl}
use Rattle.desk_tests.proofs.busy_desk.BusyDeskDesk.unexpect.Goals as goal

pub invariant_of-self : goal.invariant_of-self
invariant_of-self g c =
    busy_pushed c.self.inside.stage.desk c.self.inside.stage.desk c.unexpect-outcome.new.self c.self.inside.notes.items c.push.new.self.items c.self.inside.notes.room c.push.new.self.room c.self.inside.spare (c.self.inside.spare - 1)
    c.self.inside.stage.others c.self.inside.stage.others c.in-Removed.number (Unexpect c.args.id c.args.moment) c.self.invariant (went_refl c.self.inside.stage.desk c.self.inside.stage.others c.self.inside.stage.others (omega arith) c.self.invariant.known) c.in-Removed.ensures.says.0 c.unexpect-outcome.ensures.knows
    c.push.ensures.items c.push.ensures.room (one_less c.args.self.now c.self.inside.spare (ap (λ (s : Sight). s.spare) c.self.view_is) c.requires)

pub returns-in-Removed-clause-knows : goal.returns-in-Removed-clause-knows
returns-in-Removed-clause-knows g c =
    known_seen c.self.inside.taken c.unexpect-outcome.new.self c.push.new.self.items c.push.new.self.room (c.self.inside.spare - 1) c.self.inside.stage.others
    (busy_pushed c.self.inside.stage.desk c.self.inside.stage.desk c.unexpect-outcome.new.self c.self.inside.notes.items c.push.new.self.items c.self.inside.notes.room c.push.new.self.room c.self.inside.spare (c.self.inside.spare - 1)
    c.self.inside.stage.others c.self.inside.stage.others c.in-Removed.number (Unexpect c.args.id c.args.moment) c.self.invariant (went_refl c.self.inside.stage.desk c.self.inside.stage.others c.self.inside.stage.others (omega arith) c.self.invariant.known) c.in-Removed.ensures.says.0 c.unexpect-outcome.ensures.knows
    c.push.ensures.items c.push.ensures.room (one_less c.args.self.now c.self.inside.spare (ap (λ (s : Sight). s.spare) c.self.view_is) c.requires))

pub invariant_of-self-in-Gone : goal.invariant_of-self-in-Gone
invariant_of-self-in-Gone g c =
    busy_saw c.self.inside.stage.desk c.unexpect-outcome.new.self c.self.inside.notes.items c.self.inside.notes.room c.self.inside.spare c.self.inside.stage.others c.self.invariant
    c.in-Gone.ensures.says.0.saw c.unexpect-outcome.ensures.knows

pub returns-in-Gone-clause-knows : goal.returns-in-Gone-clause-knows
returns-in-Gone-clause-knows g c =
    known_seen c.self.inside.taken c.unexpect-outcome.new.self c.self.inside.notes.items c.self.inside.notes.room c.self.inside.spare c.self.inside.stage.others
    (busy_saw c.self.inside.stage.desk c.unexpect-outcome.new.self c.self.inside.notes.items c.self.inside.notes.room c.self.inside.spare c.self.inside.stage.others c.self.invariant
    c.in-Gone.ensures.says.0.saw c.unexpect-outcome.ensures.knows)

pub invariant_of-self-in-Not : goal.invariant_of-self-in-Not
invariant_of-self-in-Not g c =
    busy_saw c.self.inside.stage.desk c.unexpect-outcome.new.self c.self.inside.notes.items c.self.inside.notes.room c.self.inside.spare c.self.inside.stage.others c.self.invariant
    c.in-Not.ensures.says.0.saw c.unexpect-outcome.ensures.knows

pub returns-in-Not-clause-knows : goal.returns-in-Not-clause-knows
returns-in-Not-clause-knows g c =
    known_seen c.self.inside.taken c.unexpect-outcome.new.self c.self.inside.notes.items c.self.inside.notes.room c.self.inside.spare c.self.inside.stage.others
    (busy_saw c.self.inside.stage.desk c.unexpect-outcome.new.self c.self.inside.notes.items c.self.inside.notes.room c.self.inside.spare c.self.inside.stage.others c.self.invariant
    c.in-Not.ensures.says.0.saw c.unexpect-outcome.ensures.knows)
