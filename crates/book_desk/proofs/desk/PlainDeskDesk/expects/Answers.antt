use Rattle.std.proofs.Common.{None, refl}
use Rattle.history_book.specs.DeskExpectations.{ListsExpected}
use Rattle.book_desk.proofs.Plain.{IsNoted, known, plain_says}
use Rattle.book_desk.proofs.desk.PlainDeskDesk.expects.Goals as goal

pub returns-clause-says : goal.returns-clause-says
returns-clause-says g c =
    let d = c.self.inside in
    let same : IsNoted d.book d.notes d.notes d.spare d.spare None = record { items = refl; room = refl; less = refl } in
    rw (← c.self.view_is) (plain_says (λ old new. ListsExpected c.list_expected.new.listed.items old new c.list_expected.result) d.book d.book d.notes d.notes d.spare d.spare d.taken None
    c.self.invariant c.self.invariant same c.list_expected.ensures.says)

pub returns-clause-knows : goal.returns-clause-knows
returns-clause-knows g c = rw (← c.self.view_is) (known _ _ _ _ c.self.invariant)
