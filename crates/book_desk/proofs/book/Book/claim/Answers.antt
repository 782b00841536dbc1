use Rattle.std.proofs.Common.{sym, refl, ◌∙◌}
use Rattle.history_book.specs.declared.event.Event.TheVariants.{Claim}
use Rattle.book_desk.proofs.Expectations.{fulfilled, made_alone}
use Rattle.book_desk.proofs.book.Book.claim.Goals as goal

pub returns-clause-stays : goal.returns-clause-stays
returns-clause-stays c log h =
    fulfilled c.histories_go_on.ensures.states c.histories_go_on.ensures.legal log c.args.self.now c.end_expectation.new.self c.in-Some.met c.args.t.now
    c.args.moment h c.end_expectation.ensures.adds (sym c.matching.ensures ∙ c.in-Some.is) c.end_expectation.ensures.records
    c.end_expectation.ensures.holds c.end_expectation.ensures.expects

pub returns-clause-says : goal.returns-clause-says
returns-clause-says c log spare taken h =
    made_alone log spare taken c.args.self.now c.end_expectation.new.self c.args.self.now.events
    (Claim c.in-Some.met.id c.in-Some.met.master c.args.t.now c.args.moment) h refl c.end_expectation.ensures.adds c.end_expectation.ensures.holds
