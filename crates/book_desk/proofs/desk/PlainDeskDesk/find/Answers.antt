use Rattle.std.proofs.Common.{None, refl}
use Rattle.history_book.specs.Desk.{FindSays}
use Rattle.book_desk.proofs.Plain.{IsNoted, known, plain_says, still_plain}
use Rattle.book_desk.proofs.desk.PlainDeskDesk.find.Goals as goal

pub invariant_of-self : goal.invariant_of-self
invariant_of-self g c =
    let d = c.self.inside in
    still_plain d.book c.find.new.self d.notes d.notes d.spare d.spare None c.self.invariant c.find.ensures.stays c.find.ensures.sizes
    (record { items = refl; room = refl; less = refl })

pub returns-clause-says : goal.returns-clause-says
returns-clause-says g c =
    let d = c.self.inside in
    let same : IsNoted d.book d.notes d.notes d.spare d.spare None = record { items = refl; room = refl; less = refl } in
    rw (← c.self.view_is) (plain_says (λ old new. FindSays c.args.t.now old new c.find.result) d.book c.find.new.self d.notes d.notes d.spare d.spare d.taken None
    c.self.invariant (invariant_of-self g c) same c.find.ensures.says)

pub returns-clause-knows : goal.returns-clause-knows
returns-clause-knows g c = known _ _ _ _ (invariant_of-self g c)
