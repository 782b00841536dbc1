use Rattle.std.proofs.Common.{subst, sym}
use Rattle.book_desk.specs.Fields.{IsBook}
use Rattle.book_desk.proofs.Steps.{book_hold}
use Rattle.book_desk.proofs.book.Book.find.Goals as goal

pub returns-clause-stays : goal.returns-clause-stays
returns-clause-stays c log h =
    subst (IsBook log) (sym c.hold_record-id.ensures.rest)
    (book_hold c.live_records_are_confirmed.ensures log c.args.self.now c.hold_record-id.new.self.holds c.in-Some.found.index
    c.hold_record-id.result h c.requires.room c.hold_record-id.ensures.subject c.hold_record-id.ensures.holds c.hold_record-id.ensures.room)
