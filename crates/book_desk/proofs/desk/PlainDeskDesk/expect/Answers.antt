use Rattle.history_book.specs.DeskExpectations.{ExpectSays}
use Rattle.book_desk.proofs.Plain.{IsNoted, known, plain_says, still_plain}
use Rattle.book_desk.proofs.desk.PlainDeskDesk.expect.Goals as goal

pub invariant_of-self : goal.invariant_of-self
invariant_of-self g c =
    let d = c.self.inside in
    still_plain d.book c.expect-outcome.new.self d.notes c.note.new.notes d.spare c.note.new.spare c.expect-outcome.result.1 c.self.invariant c.expect-outcome.ensures.stays
    c.expect-outcome.ensures.sizes (record { items = c.note.ensures.items; room = c.note.ensures.room; less = c.note.ensures.spare })

pub returns-clause-says : goal.returns-clause-says
returns-clause-says g c =
    let d = c.self.inside in
    let noted : IsNoted d.book d.notes c.note.new.notes d.spare c.note.new.spare c.expect-outcome.result.1 =
    record { items = c.note.ensures.items; room = c.note.ensures.room; less = c.note.ensures.spare } in
    rw (← c.self.view_is) (plain_says (λ old new. ExpectSays c.args.place c.args.want c.args.moment old new c.expect-outcome.result.0) d.book c.expect-outcome.new.self
    d.notes c.note.new.notes d.spare c.note.new.spare d.taken c.expect-outcome.result.1 c.self.invariant (invariant_of-self g c) noted c.expect-outcome.ensures.says)

pub returns-clause-knows : goal.returns-clause-knows
returns-clause-knows g c = known _ _ _ _ (invariant_of-self g c)
