use Rattle.std.proofs.Common.{refl, sym, ◌∙◌}
use Rattle.std.proofs.lemmas.List.{nil_from_length}
use Rattle.book_desk.proofs.Steps.{book_take, full, takes}
use Rattle.book_desk.proofs.book.Book.take.Goals as goal

pub returns-then-count-eq0-clause-says : goal.returns-then-count-eq0-clause-says
returns-then-count-eq0-clause-says c log spare taken h =
    full log spare taken c.args.self.now c.args.self.now.events h refl
    (nil_from_length c.args.self.now.free.items (sym c.len-count.ensures.exact ∙ c.if-count-eq0.true))

pub returns-clause-stays : goal.returns-clause-stays
returns-clause-stays c log h =
    book_take log c.args.self.now c.put_first.new.self c.remove-place.new.self _ c.remove-place.result h c.requires.room
    c.remove-place.ensures.item c.put_first.ensures.items c.put_first.ensures.room c.remove-place.ensures.items c.remove-place.ensures.room

pub returns-clause-says : goal.returns-clause-says
returns-clause-says c log spare taken h =
    takes log spare taken c.args.self.now
    (record c.args.self.now { free = c.remove-place.new.self; holds = c.put_first.new.self }) _ c.remove-place.result h
    c.remove-place.ensures.item refl c.put_first.ensures.items refl
