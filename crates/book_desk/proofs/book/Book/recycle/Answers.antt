use Rattle.std.proofs.Common.{refl}
use Rattle.book_desk.proofs.Histories.{saw}
use Rattle.book_desk.proofs.Steps.{book_pay, pay_room, recycled}
use Rattle.book_desk.proofs.book.Book.recycle.Goals as goal

pub push-requires : goal.push-requires
push-requires c = pay_room c.requires.right.0 c.args.self.now c.args.place c.requires.right.1 c.requires.owed

pub returns-clause-stays : goal.returns-clause-stays
returns-clause-stays c log h =
    book_pay log c.args.self.now c.push.new.self c.pay.new.owed c.args.place h c.requires.owed c.pay.ensures.items c.pay.ensures.room
    c.push.ensures.items c.push.ensures.room

pub returns-clause-says : goal.returns-clause-says
returns-clause-says c log spare taken h =
    let b = c.args.self.now in
    let new = record b { free = c.push.new.self; owed = c.pay.new.owed } in
    record {
      saw = saw log spare taken b new refl;
      held = refl;
      owed = c.pay.ensures.items;
      alone = λ one. recycled log spare taken b new c.args.place h (returns-clause-stays c log h) c.requires.owed refl refl c.pay.ensures.items;
    }
