use Rattle.std.proofs.Common.{None, refl, sym, subst, ℕ}
use Rattle.history_book.specs.Desk.{TakeSays}
use Rattle.book_desk.specs.Internal.Book.{counted}
use Rattle.book_desk.specs.Internal.Plain.{plain_sight}
use Rattle.book_desk.proofs.Plain.{IsNoted, known, plain_says, still_plain}
use Rattle.book_desk.proofs.desk.PlainDeskDesk.take.Goals as goal

pub invariant_of-self : goal.invariant_of-self
invariant_of-self g c =
    let d = c.self.inside in
    still_plain d.book c.take-outcome.new.self d.notes d.notes d.spare d.spare None c.self.invariant c.take-outcome.ensures.stays c.take-outcome.ensures.sizes
    (record { items = refl; room = refl; less = refl })

pub returns-clause-says : goal.returns-clause-says
returns-clause-says g c =
    let d = c.self.inside in
    let same : IsNoted d.book d.notes d.notes d.spare d.spare None = record { items = refl; room = refl; less = refl } in
    rw (← c.self.view_is)
    (subst (λ (n : ℕ). TakeSays (plain_sight d.book d.notes.items d.spare d.taken) (plain_sight c.take-outcome.new.self d.notes.items d.spare n) c.take-outcome.result)
    (sym c.count_taken-self-inside.ensures)
    (plain_says (λ old new. TakeSays old (counted c.take-outcome.result new) c.take-outcome.result) d.book c.take-outcome.new.self d.notes d.notes d.spare d.spare d.taken None
    c.self.invariant (invariant_of-self g c) same c.take-outcome.ensures.says))

pub returns-clause-knows : goal.returns-clause-knows
returns-clause-knows g c = known _ _ _ _ (invariant_of-self g c)
