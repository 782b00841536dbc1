use Rattle.std.proofs.Common.{refl, None, ◌∙◌}
use Rattle.book_desk.specs.declared.turn.change.PlaceChange.TheVariants.{Same}
use Rattle.book_desk.specs.declared.turn.pass.TurnPass.{TurnPass}
use Rattle.book_desk.proofs.Passes.Turned.{IsAfter, IsTurn, seated_then, turn_ends, turn_few}
use Rattle.book_desk.proofs.Passes.Turns.{lists_told, lists_turn}
use Rattle.book_desk.proofs.turn_desk.TurnDeskDesk.expects.Goals as goal

pub put_back-requires-clause-ends : goal.put_back-requires-clause-ends
put_back-requires-clause-ends g c =
    let p : TurnPass = c.self.inside.pass in
    let t : IsTurn p c.take_turn-book.new.seat.me c.take_turn-book.result c.take_turn-book.result Same None p.spare =
    lists_turn p c.take_turn-book.new.seat.me c.take_turn-book.result c.list_expected-at.new.listed.items c.list_expected-at.result c.self.invariant.1 c.take_turn-book.ensures.turn c.list_expected-at.ensures.says in
    turn_ends p c.take_turn-book.new.seat.me c.take_turn-book.result c.take_turn-book.result Same None p.spare t Same refl

pub put_back-requires-clause-few : goal.put_back-requires-clause-few
put_back-requires-clause-few g c =
    let p : TurnPass = c.self.inside.pass in
    let t : IsTurn p c.take_turn-book.new.seat.me c.take_turn-book.result c.take_turn-book.result Same None p.spare =
    lists_turn p c.take_turn-book.new.seat.me c.take_turn-book.result c.list_expected-at.new.listed.items c.list_expected-at.result c.self.invariant.1 c.take_turn-book.ensures.turn c.list_expected-at.ensures.says in
    turn_few p c.take_turn-book.new.seat.me c.take_turn-book.result c.take_turn-book.result Same None p.spare t

pub invariant_of-self : goal.invariant_of-self
invariant_of-self g c =
    let p : TurnPass = c.self.inside.pass in
    let t : IsTurn p c.take_turn-book.new.seat.me c.take_turn-book.result c.take_turn-book.result Same None p.spare =
    lists_turn p c.take_turn-book.new.seat.me c.take_turn-book.result c.list_expected-at.new.listed.items c.list_expected-at.result c.self.invariant.1 c.take_turn-book.ensures.turn c.list_expected-at.ensures.says in
    let new : TurnPass = c.put_back.new.self in
    let a : IsAfter p c.take_turn-book.new.seat.me Same Same None p.spare new =
    record { change = refl; table = c.put_back.ensures.table ∙ c.take_turn-book.ensures.table; ended = c.put_back.ensures.ended; sizes = c.put_back.ensures.sizes; notes = c.put_back.ensures.items; room = c.put_back.ensures.room; spare = c.put_back.ensures.spare } in
    (c.put_back.ensures.table ∙ c.take_turn-book.ensures.table ∙ c.self.invariant.0, seated_then p c.take_turn-book.new.seat.me c.take_turn-book.result c.take_turn-book.result Same Same None p.spare new t a)

pub returns-clause-says : goal.returns-clause-says
returns-clause-says g c =
    let p : TurnPass = c.self.inside.pass in
    let t : IsTurn p c.take_turn-book.new.seat.me c.take_turn-book.result c.take_turn-book.result Same None p.spare =
    lists_turn p c.take_turn-book.new.seat.me c.take_turn-book.result c.list_expected-at.new.listed.items c.list_expected-at.result c.self.invariant.1 c.take_turn-book.ensures.turn c.list_expected-at.ensures.says in
    let new : TurnPass = c.put_back.new.self in
    let a : IsAfter p c.take_turn-book.new.seat.me Same Same None p.spare new =
    record { change = refl; table = c.put_back.ensures.table ∙ c.take_turn-book.ensures.table; ended = c.put_back.ensures.ended; sizes = c.put_back.ensures.sizes; notes = c.put_back.ensures.items; room = c.put_back.ensures.room; spare = c.put_back.ensures.spare } in
    rw (← c.self.view_is) (lists_told p c.take_turn-book.new.seat.me c.take_turn-book.result Same c.list_expected-at.new.listed.items c.list_expected-at.result new t a c.put_back.ensures.taken c.list_expected-at.ensures.says)

pub returns-clause-knows : goal.returns-clause-knows
returns-clause-knows g c = (invariant_of-self g c).1.knows
