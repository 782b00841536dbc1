use Rattle.std.proofs.Common.{rules}
use Rattle.book_desk.proofs.Steps.{book_keep, book_owe, not_used, still_used}
use Rattle.book_desk.proofs.book.Book.release.Goals as goal

pub returns-then-is_in_use-clause-stays : goal.returns-then-is_in_use-clause-stays
returns-then-is_in_use-clause-stays c log h =
    book_keep log c.args.self.now c.forget_hold.new.holds c.args.place h c.requires.held c.forget_hold.ensures.items c.forget_hold.ensures.room
    (still_used c.args.place c.args.self.now.records.items c.forget_hold.new.holds.items (search rules))

pub returns-clause-stays : goal.returns-clause-stays
returns-clause-stays c log h =
    book_owe log c.args.self.now c.forget_hold.new.holds c.put_first.new.self c.args.place h c.requires.held c.forget_hold.ensures.items
    c.forget_hold.ensures.room c.put_first.ensures.items c.put_first.ensures.room
    (not_used c.args.place c.args.self.now.records.items c.forget_hold.new.holds.items (search rules))
