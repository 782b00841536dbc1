use Rattle.std.proofs.Common.{ap, ◌-◌}
use Rattle.history_book.specs.declared.event.Event.TheVariants.{Claim}
use Rattle.history_book.specs.Sight.{Sight}
use Rattle.desk_tests.proofs.BusyDesk.{busy_pushed, busy_silent, known_seen, made_went, one_less}
use Rattle.desk_tests.proofs.busy_desk.BusyDeskDesk.claim.Goals as goal

pub invariant_of-self-in-Claimed : goal.invariant_of-self-in-Claimed
invariant_of-self-in-Claimed g c =
    busy_pushed c.self.inside.stage.desk c.other_claims.new.self.desk c.claim-outcome.new.self c.self.inside.notes.items c.push.new.self.items c.self.inside.notes.room c.push.new.self.room c.self.inside.spare (c.self.inside.spare - 1)
    c.self.inside.stage.others c.other_claims.new.self.others c.in-Claimed.number (Claim c.in-Claimed.expectation c.in-Claimed.master c.args.t.now c.args.moment) c.self.invariant c.other_claims.ensures c.in-Claimed.ensures.says.0 c.claim-outcome.ensures.knows
    c.push.ensures.items c.push.ensures.room (one_less c.args.self.now c.self.inside.spare (ap (λ (s : Sight). s.spare) c.self.view_is) c.requires)

pub returns-in-Claimed-clause-knows : goal.returns-in-Claimed-clause-knows
returns-in-Claimed-clause-knows g c =
    known_seen c.self.inside.taken c.claim-outcome.new.self c.push.new.self.items c.push.new.self.room (c.self.inside.spare - 1) c.other_claims.new.self.others
    (busy_pushed c.self.inside.stage.desk c.other_claims.new.self.desk c.claim-outcome.new.self c.self.inside.notes.items c.push.new.self.items c.self.inside.notes.room c.push.new.self.room c.self.inside.spare (c.self.inside.spare - 1)
    c.self.inside.stage.others c.other_claims.new.self.others c.in-Claimed.number (Claim c.in-Claimed.expectation c.in-Claimed.master c.args.t.now c.args.moment) c.self.invariant c.other_claims.ensures c.in-Claimed.ensures.says.0 c.claim-outcome.ensures.knows
    c.push.ensures.items c.push.ensures.room (one_less c.args.self.now c.self.inside.spare (ap (λ (s : Sight). s.spare) c.self.view_is) c.requires))

pub returns-in-Claimed-clause-says : goal.returns-in-Claimed-clause-says
returns-in-Claimed-clause-says g c =
    rw (← c.self.view_is)
    (made_went c.self.inside.taken c.self.inside.stage.desk c.other_claims.new.self.desk c.claim-outcome.new.self c.self.inside.notes.items c.push.new.self.items c.self.inside.spare (c.self.inside.spare - 1) c.self.inside.stage.others c.other_claims.new.self.others c.in-Claimed.number
    (Claim c.in-Claimed.expectation c.in-Claimed.master c.args.t.now c.args.moment) c.other_claims.ensures c.in-Claimed.ensures.says.0 c.in-Claimed.ensures.says.1
    c.push.ensures.items (one_less c.args.self.now c.self.inside.spare (ap (λ (s : Sight). s.spare) c.self.view_is) c.requires))

pub returns-in-Unclaimed-clause-knows : goal.returns-in-Unclaimed-clause-knows
returns-in-Unclaimed-clause-knows g c =
    known_seen c.self.inside.taken c.claim-outcome.new.self c.self.inside.notes.items c.self.inside.notes.room c.self.inside.spare c.other_claims.new.self.others
    (busy_silent c.self.inside.stage.desk c.other_claims.new.self.desk c.claim-outcome.new.self c.self.inside.notes.items c.self.inside.notes.room c.self.inside.spare c.self.inside.stage.others c.other_claims.new.self.others c.self.invariant c.other_claims.ensures c.in-Unclaimed.ensures.says.0.saw c.claim-outcome.ensures.knows)
