use Rattle.std.proofs.Common.{ap, ◌-◌, subst, sym, ◌≡◌, true}
use Rattle.expect_table.specs.declared.table.AddOutcome.TheVariants as add
use Rattle.history_book.specs.declared.event.Event.TheVariants.{Expect}
use Rattle.history_book.specs.DeskExpectations.{expectation_at}
use Rattle.history_book.specs.Entry.{is_helped_entry}
use Rattle.history_book.specs.Held.{held_id}
use Rattle.history_book.specs.Sight.{Sight}
use Rattle.desk_tests.proofs.BusyDesk.{busy_pushed, busy_silent, expect_made, expect_noted, expected_went, known_seen, one_less, refused_went, still_helped, went_then}
use Rattle.desk_tests.proofs.busy_desk.BusyDeskDesk.expect.Goals as goal

pub returns-in-Gone-clause-knows : goal.returns-in-Gone-clause-knows
returns-in-Gone-clause-knows g c =
    known_seen c.self.inside.taken c.peek.new.self c.self.inside.notes.items c.self.inside.notes.room c.self.inside.spare c.other_meets.new.self.others
    (busy_silent c.self.inside.stage.desk c.other_meets.new.self.desk c.peek.new.self c.self.inside.notes.items c.self.inside.notes.room c.self.inside.spare c.self.inside.stage.others c.other_meets.new.self.others c.self.invariant c.other_meets.ensures c.in-Gone.ensures.says.0.saw c.peek.ensures.knows)

pub expect-outcome-requires-clause-helper : goal.expect-outcome-requires-clause-helper
expect-outcome-requires-clause-helper g c =
    still_helped c.args.place c.self.inside.stage.desk c.other_meets.new.self.desk c.peek.new.self c.self.inside.stage.others c.other_meets.new.self.others c.other_meets.ensures
    c.in-Seen.ensures.says.0.saw c.in-Seen.ensures.says.1
    (subst (λ (s : Sight). is_helped_entry (held_id c.args.place s.held) s.front ≡ true) (sym c.self.view_is) c.requires.helper)

pub invariant_of-self-in-Expected : goal.invariant_of-self-in-Expected
invariant_of-self-in-Expected g c =
    busy_pushed c.self.inside.stage.desk c.peek.new.self c.expect-outcome.new.self c.self.inside.notes.items c.push.new.self.items c.self.inside.notes.room c.push.new.self.room c.self.inside.spare (c.self.inside.spare - 1)
    c.self.inside.stage.others c.other_meets.new.self.others c.in-Expected.id
    (Expect (expectation_at c.in-Expected.id c.in-Seen.subject.id c.in-Seen.subject.original.zone c.args.want c.args.moment) c.in-Expected.replaced c.args.moment) c.self.invariant (went_then c.self.inside.stage.desk c.other_meets.new.self.desk c.peek.new.self c.self.inside.stage.others c.other_meets.new.self.others c.other_meets.ensures
    c.in-Seen.ensures.says.0.saw c.in-Seen.ensures.says.1 c.peek.ensures.knows)
    (expect_made c.entries_keep_helper_and_zone.ensures.zone c.args.place c.args.want c.args.moment c.other_meets.new.self.desk c.peek.new.self c.expect-outcome.new.self c.in-Seen.subject c.in-Seen.at c.in-Expected.id c.in-Expected.replaced
    c.peek.ensures.knows c.in-Seen.ensures.says c.in-Expected.ensures.says) c.expect-outcome.ensures.knows
    (expect_noted c.push.new.self.items c.self.inside.notes.items c.in-Expected.id c.expectation_at.result
    (expectation_at c.in-Expected.id c.in-Seen.subject.id c.in-Seen.subject.original.zone c.args.want c.args.moment) c.in-Expected.replaced c.args.moment
    c.push.ensures.items c.expectation_at.ensures) c.push.ensures.room (one_less c.args.self.now c.self.inside.spare (ap (λ (s : Sight). s.spare) c.self.view_is) c.requires.spare)

pub returns-in-Expected-clause-knows : goal.returns-in-Expected-clause-knows
returns-in-Expected-clause-knows g c =
    known_seen c.self.inside.taken c.expect-outcome.new.self c.push.new.self.items c.push.new.self.room (c.self.inside.spare - 1) c.other_meets.new.self.others
    (busy_pushed c.self.inside.stage.desk c.peek.new.self c.expect-outcome.new.self c.self.inside.notes.items c.push.new.self.items c.self.inside.notes.room c.push.new.self.room c.self.inside.spare (c.self.inside.spare - 1)
    c.self.inside.stage.others c.other_meets.new.self.others c.in-Expected.id
    (Expect (expectation_at c.in-Expected.id c.in-Seen.subject.id c.in-Seen.subject.original.zone c.args.want c.args.moment) c.in-Expected.replaced c.args.moment) c.self.invariant (went_then c.self.inside.stage.desk c.other_meets.new.self.desk c.peek.new.self c.self.inside.stage.others c.other_meets.new.self.others c.other_meets.ensures
    c.in-Seen.ensures.says.0.saw c.in-Seen.ensures.says.1 c.peek.ensures.knows)
    (expect_made c.entries_keep_helper_and_zone.ensures.zone c.args.place c.args.want c.args.moment c.other_meets.new.self.desk c.peek.new.self c.expect-outcome.new.self c.in-Seen.subject c.in-Seen.at c.in-Expected.id c.in-Expected.replaced
    c.peek.ensures.knows c.in-Seen.ensures.says c.in-Expected.ensures.says) c.expect-outcome.ensures.knows
    (expect_noted c.push.new.self.items c.self.inside.notes.items c.in-Expected.id c.expectation_at.result
    (expectation_at c.in-Expected.id c.in-Seen.subject.id c.in-Seen.subject.original.zone c.args.want c.args.moment) c.in-Expected.replaced c.args.moment
    c.push.ensures.items c.expectation_at.ensures) c.push.ensures.room (one_less c.args.self.now c.self.inside.spare (ap (λ (s : Sight). s.spare) c.self.view_is) c.requires.spare))

pub returns-in-Expected-clause-says : goal.returns-in-Expected-clause-says
returns-in-Expected-clause-says g c =
    rw (← c.self.view_is)
    (expected_went c.entries_keep_helper_and_zone.ensures.zone c.self.inside.taken c.args.place c.args.want c.args.moment c.self.inside.stage.desk c.other_meets.new.self.desk c.peek.new.self c.expect-outcome.new.self c.self.inside.notes.items c.push.new.self.items
    c.self.inside.spare (c.self.inside.spare - 1) c.self.inside.stage.others c.other_meets.new.self.others c.in-Seen.subject c.in-Seen.at c.in-Expected.id c.in-Expected.replaced
    c.other_meets.ensures c.peek.ensures.knows c.in-Seen.ensures.says c.in-Expected.ensures.says
    (subst (λ (s : Sight). is_helped_entry (held_id c.args.place s.held) s.front ≡ true) (sym c.self.view_is) c.requires.helper)
    (expect_noted c.push.new.self.items c.self.inside.notes.items c.in-Expected.id c.expectation_at.result
    (expectation_at c.in-Expected.id c.in-Seen.subject.id c.in-Seen.subject.original.zone c.args.want c.args.moment) c.in-Expected.replaced c.args.moment
    c.push.ensures.items c.expectation_at.ensures) (one_less c.args.self.now c.self.inside.spare (ap (λ (s : Sight). s.spare) c.self.view_is) c.requires.spare))

pub invariant_of-self-in-MasterGone : goal.invariant_of-self-in-MasterGone
invariant_of-self-in-MasterGone g c =
    busy_silent c.self.inside.stage.desk c.peek.new.self c.expect-outcome.new.self c.self.inside.notes.items c.self.inside.notes.room c.self.inside.spare c.self.inside.stage.others c.other_meets.new.self.others c.self.invariant
    (went_then c.self.inside.stage.desk c.other_meets.new.self.desk c.peek.new.self c.self.inside.stage.others c.other_meets.new.self.others c.other_meets.ensures
    c.in-Seen.ensures.says.0.saw c.in-Seen.ensures.says.1 c.peek.ensures.knows) c.in-MasterGone.ensures.says.0.saw c.expect-outcome.ensures.knows

pub returns-in-MasterGone-clause-knows : goal.returns-in-MasterGone-clause-knows
returns-in-MasterGone-clause-knows g c =
    known_seen c.self.inside.taken c.expect-outcome.new.self c.self.inside.notes.items c.self.inside.notes.room c.self.inside.spare c.other_meets.new.self.others
    (busy_silent c.self.inside.stage.desk c.peek.new.self c.expect-outcome.new.self c.self.inside.notes.items c.self.inside.notes.room c.self.inside.spare c.self.inside.stage.others c.other_meets.new.self.others c.self.invariant
    (went_then c.self.inside.stage.desk c.other_meets.new.self.desk c.peek.new.self c.self.inside.stage.others c.other_meets.new.self.others c.other_meets.ensures
    c.in-Seen.ensures.says.0.saw c.in-Seen.ensures.says.1 c.peek.ensures.knows) c.in-MasterGone.ensures.says.0.saw c.expect-outcome.ensures.knows)

pub invariant_of-self-in-Clash : goal.invariant_of-self-in-Clash
invariant_of-self-in-Clash g c =
    busy_silent c.self.inside.stage.desk c.peek.new.self c.expect-outcome.new.self c.self.inside.notes.items c.self.inside.notes.room c.self.inside.spare c.self.inside.stage.others c.other_meets.new.self.others c.self.invariant
    (went_then c.self.inside.stage.desk c.other_meets.new.self.desk c.peek.new.self c.self.inside.stage.others c.other_meets.new.self.others c.other_meets.ensures
    c.in-Seen.ensures.says.0.saw c.in-Seen.ensures.says.1 c.peek.ensures.knows) c.in-Clash.ensures.says.0.saw c.expect-outcome.ensures.knows

pub returns-in-Clash-clause-knows : goal.returns-in-Clash-clause-knows
returns-in-Clash-clause-knows g c =
    known_seen c.self.inside.taken c.expect-outcome.new.self c.self.inside.notes.items c.self.inside.notes.room c.self.inside.spare c.other_meets.new.self.others
    (busy_silent c.self.inside.stage.desk c.peek.new.self c.expect-outcome.new.self c.self.inside.notes.items c.self.inside.notes.room c.self.inside.spare c.self.inside.stage.others c.other_meets.new.self.others c.self.invariant
    (went_then c.self.inside.stage.desk c.other_meets.new.self.desk c.peek.new.self c.self.inside.stage.others c.other_meets.new.self.others c.other_meets.ensures
    c.in-Seen.ensures.says.0.saw c.in-Seen.ensures.says.1 c.peek.ensures.knows) c.in-Clash.ensures.says.0.saw c.expect-outcome.ensures.knows)

pub invariant_of-self-in-ExpectFull : goal.invariant_of-self-in-ExpectFull
invariant_of-self-in-ExpectFull g c =
    busy_silent c.self.inside.stage.desk c.peek.new.self c.expect-outcome.new.self c.self.inside.notes.items c.self.inside.notes.room c.self.inside.spare c.self.inside.stage.others c.other_meets.new.self.others c.self.invariant
    (went_then c.self.inside.stage.desk c.other_meets.new.self.desk c.peek.new.self c.self.inside.stage.others c.other_meets.new.self.others c.other_meets.ensures
    c.in-Seen.ensures.says.0.saw c.in-Seen.ensures.says.1 c.peek.ensures.knows) c.in-ExpectFull.ensures.says.0.saw c.expect-outcome.ensures.knows

pub returns-in-ExpectFull-clause-knows : goal.returns-in-ExpectFull-clause-knows
returns-in-ExpectFull-clause-knows g c =
    known_seen c.self.inside.taken c.expect-outcome.new.self c.self.inside.notes.items c.self.inside.notes.room c.self.inside.spare c.other_meets.new.self.others
    (busy_silent c.self.inside.stage.desk c.peek.new.self c.expect-outcome.new.self c.self.inside.notes.items c.self.inside.notes.room c.self.inside.spare c.self.inside.stage.others c.other_meets.new.self.others c.self.invariant
    (went_then c.self.inside.stage.desk c.other_meets.new.self.desk c.peek.new.self c.self.inside.stage.others c.other_meets.new.self.others c.other_meets.ensures
    c.in-Seen.ensures.says.0.saw c.in-Seen.ensures.says.1 c.peek.ensures.knows) c.in-ExpectFull.ensures.says.0.saw c.expect-outcome.ensures.knows)

pub returns-in-Clash-clause-says : goal.returns-in-Clash-clause-says
returns-in-Clash-clause-says g c =
    rw (← c.self.view_is, c.in-Clash.is)
    (refused_went c.self.inside.taken c.args.place c.args.want c.args.moment (add.Clash c.in-Clash.id) c.self.inside.stage.desk c.other_meets.new.self.desk c.peek.new.self
    c.expect-outcome.new.self c.self.inside.notes.items c.self.inside.spare c.self.inside.stage.others c.other_meets.new.self.others c.in-Clash.at
    c.other_meets.ensures c.in-Seen.ensures.says.0.saw c.in-Seen.ensures.says.1 c.peek.ensures.knows
    (subst (λ (s : Sight). is_helped_entry (held_id c.args.place s.held) s.front ≡ true) (sym c.self.view_is) c.requires.helper)
    c.in-Clash.ensures.says)

pub returns-in-ExpectFull-clause-says : goal.returns-in-ExpectFull-clause-says
returns-in-ExpectFull-clause-says g c =
    rw (← c.self.view_is, c.in-ExpectFull.is)
    (refused_went c.self.inside.taken c.args.place c.args.want c.args.moment add.Full c.self.inside.stage.desk c.other_meets.new.self.desk c.peek.new.self
    c.expect-outcome.new.self c.self.inside.notes.items c.self.inside.spare c.self.inside.stage.others c.other_meets.new.self.others c.in-ExpectFull.at
    c.other_meets.ensures c.in-Seen.ensures.says.0.saw c.in-Seen.ensures.says.1 c.peek.ensures.knows
    (subst (λ (s : Sight). is_helped_entry (held_id c.args.place s.held) s.front ≡ true) (sym c.self.view_is) c.requires.helper)
    c.in-ExpectFull.ensures.says)
