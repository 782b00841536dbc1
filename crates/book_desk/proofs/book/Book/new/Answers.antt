use Rattle.std.proofs.Common.{arith}
use Rattle.book_desk.proofs.Books.{fresh_book}
use Rattle.book_desk.proofs.book.Book.new.Goals as goal

pub returns-clause-right : goal.returns-clause-right
returns-clause-right c =
    rw c.free.view_is (fresh_book c.args.sizes c.in_ok-new.field-0 c.fill.new.free c.in_ok-new-2.field-0 c.in_ok-new-3.field-0 c.in_ok-new-4.field-0
    c.requires
    (record {
      no_record = c.in_ok-new.ensures.empty;
      no_hold = c.in_ok-new-2.ensures.empty;
      none_owed = c.in_ok-new-3.ensures.empty;
      none_expected = c.in_ok-new-4.ensures.empty;
      all_free = c.fill.ensures.each;
      records_room = c.in_ok-new.ensures.room;
      free_room = omega (arith, c.fill.ensures.room, c.in_ok-free.ensures.room);
      holds_room = c.in_ok-new-2.ensures.room;
      owed_room = c.in_ok-new-3.ensures.room;
      expects_room = c.in_ok-new-4.ensures.room;
    }))
