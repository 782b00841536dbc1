use Rattle.std.proofs.Common.{None, refl}
use Rattle.history_book.specs.Desk.{ReleaseSays}
use Rattle.book_desk.proofs.Plain.{IsNoted, known, plain_says, still_plain}
use Rattle.book_desk.proofs.desk.PlainDeskDesk.release.Goals as goal

pub invariant_of-self : goal.invariant_of-self
invariant_of-self g c =
    let d = c.self.inside in
    still_plain d.book c.release.new.self d.notes d.notes d.spare d.spare None c.self.invariant c.release.ensures.stays c.release.ensures.sizes
    (record { items = refl; room = refl; less = refl })

pub returns-clause-says : goal.returns-clause-says
returns-clause-says g c =
    let d = c.self.inside in
    let same : IsNoted d.book d.notes d.notes d.spare d.spare None = record { items = refl; room = refl; less = refl } in
    rw (← c.self.view_is) (plain_says (λ old new. ReleaseSays c.args.place old new c.release.result) d.book c.release.new.self d.notes d.notes d.spare d.spare d.taken None
    c.self.invariant (invariant_of-self g c) same c.release.ensures.says)

pub returns-clause-knows : goal.returns-clause-knows
returns-clause-knows g c = known _ _ _ _ (invariant_of-self g c)
