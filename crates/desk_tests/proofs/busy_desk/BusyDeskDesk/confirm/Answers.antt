use Rattle.std.proofs.Common.{ap, arith, ◌-◌}
use Rattle.history_book.specs.Sight.{Sight}
use Rattle.desk_tests.proofs.BusyDesk.{busy_pushed, busy_saw, known_seen, one_less, went_refl}
use Rattle.desk_tests.proofs.busy_desk.BusyDeskDesk.confirm.Goals as goal

pub invariant_of-self-in-Confirmed : goal.invariant_of-self-in-Confirmed
invariant_of-self-in-Confirmed g c =
    busy_pushed c.self.inside.stage.desk c.self.inside.stage.desk c.confirm-outcome.new.self c.self.inside.notes.items c.push.new.self.items c.self.inside.notes.room c.push.new.self.room c.self.inside.spare (c.self.inside.spare - 1) c.self.inside.stage.others c.self.inside.stage.others c.in-Confirmed.id _ c.self.invariant (went_refl c.self.inside.stage.desk c.self.inside.stage.others c.self.inside.stage.others (omega arith) c.self.invariant.known) c.in-Confirmed.ensures.says.made c.confirm-outcome.ensures.knows c.push.ensures.items c.push.ensures.room (one_less c.args.self.now c.self.inside.spare (ap (λ (s : Sight). s.spare) c.self.view_is) c.requires.spare)

pub returns-in-Confirmed-clause-knows : goal.returns-in-Confirmed-clause-knows
returns-in-Confirmed-clause-knows g c =
    known_seen c.self.inside.taken c.confirm-outcome.new.self c.push.new.self.items c.push.new.self.room (c.self.inside.spare - 1) c.self.inside.stage.others
    (busy_pushed c.self.inside.stage.desk c.self.inside.stage.desk c.confirm-outcome.new.self c.self.inside.notes.items c.push.new.self.items c.self.inside.notes.room c.push.new.self.room c.self.inside.spare (c.self.inside.spare - 1) c.self.inside.stage.others c.self.inside.stage.others c.in-Confirmed.id _ c.self.invariant (went_refl c.self.inside.stage.desk c.self.inside.stage.others c.self.inside.stage.others (omega arith) c.self.invariant.known) c.in-Confirmed.ensures.says.made c.confirm-outcome.ensures.knows c.push.ensures.items c.push.ensures.room (one_less c.args.self.now c.self.inside.spare (ap (λ (s : Sight). s.spare) c.self.view_is) c.requires.spare))

pub returns-in-Clash-clause-knows : goal.returns-in-Clash-clause-knows
returns-in-Clash-clause-knows g c =
    known_seen c.self.inside.taken c.confirm-outcome.new.self c.self.inside.notes.items c.self.inside.notes.room c.self.inside.spare c.self.inside.stage.others
    (busy_saw c.self.inside.stage.desk c.confirm-outcome.new.self c.self.inside.notes.items c.self.inside.notes.room c.self.inside.spare c.self.inside.stage.others c.self.invariant c.in-Clash.ensures.says.0.saw c.confirm-outcome.ensures.knows)
