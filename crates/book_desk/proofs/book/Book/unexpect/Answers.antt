use Rattle.std.proofs.Common.{arith, sym, refl, ◌∙◌}
use Rattle.history_book.specs.declared.event.Event.TheVariants.{Unexpect}
use Rattle.book_desk.proofs.Expectations.{dropped, made_alone}
use Rattle.book_desk.proofs.book.Book.unexpect.Goals as goal

pub returns-clause-stays : goal.returns-clause-stays
returns-clause-stays c log h =
    dropped c.histories_go_on.ensures.states c.histories_go_on.ensures.legal log c.args.self.now c.end_expectation.new.self c.args.id c.in-Some.field-0
    c.args.moment h c.end_expectation.ensures.adds (sym c.find.ensures ∙ c.in-Some.is)
    (omega (arith, c.if-moment-deadline.false, c.in-Some.deadline-is)) c.end_expectation.ensures.records c.end_expectation.ensures.holds
    c.end_expectation.ensures.expects

pub returns-clause-says : goal.returns-clause-says
returns-clause-says c log spare taken h =
    made_alone log spare taken c.args.self.now c.end_expectation.new.self c.args.self.now.events (Unexpect c.args.id c.args.moment) h refl
    c.end_expectation.ensures.adds c.end_expectation.ensures.holds
