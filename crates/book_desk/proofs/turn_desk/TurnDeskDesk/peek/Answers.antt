use Rattle.std.proofs.Common.{ap, refl, None, ◌∙◌}
use Rattle.history_book.specs.Sight.{Sight}
use Rattle.history_book.specs.Held.{is_held_for_entry}
use Rattle.book_desk.specs.declared.turn.change.PlaceChange.TheVariants.{Same}
use Rattle.book_desk.proofs.Passes.Turned.{held_at_all}
use Rattle.book_desk.specs.declared.turn.pass.TurnPass.{TurnPass}
use Rattle.book_desk.proofs.Passes.Turned.{IsAfter, IsTurn, seated_then, turn_ends, turn_few}
use Rattle.book_desk.proofs.Passes.Turns.{peek_told, peek_turn}
use Rattle.book_desk.proofs.turn_desk.TurnDeskDesk.peek.Goals as goal

pub put_back-requires-clause-ends : goal.put_back-requires-clause-ends
put_back-requires-clause-ends g c =
    let p : TurnPass = c.self.inside.pass in
    let t : IsTurn p c.take_turn-book.new.seat.me c.take_turn-book.result c.take_turn-book.result Same None p.spare =
    peek_turn p c.take_turn-book.new.seat.me c.take_turn-book.result c.args.place c.peek-outcome.result c.self.invariant.1 c.take_turn-book.ensures.turn c.peek-outcome.ensures.says in
    turn_ends p c.take_turn-book.new.seat.me c.take_turn-book.result c.take_turn-book.result Same None p.spare t Same refl

pub put_back-requires-clause-few : goal.put_back-requires-clause-few
put_back-requires-clause-few g c =
    let p : TurnPass = c.self.inside.pass in
    let t : IsTurn p c.take_turn-book.new.seat.me c.take_turn-book.result c.take_turn-book.result Same None p.spare =
    peek_turn p c.take_turn-book.new.seat.me c.take_turn-book.result c.args.place c.peek-outcome.result c.self.invariant.1 c.take_turn-book.ensures.turn c.peek-outcome.ensures.says in
    turn_few p c.take_turn-book.new.seat.me c.take_turn-book.result c.take_turn-book.result Same None p.spare t

pub invariant_of-self : goal.invariant_of-self
invariant_of-self g c =
    let p : TurnPass = c.self.inside.pass in
    let t : IsTurn p c.take_turn-book.new.seat.me c.take_turn-book.result c.take_turn-book.result Same None p.spare =
    peek_turn p c.take_turn-book.new.seat.me c.take_turn-book.result c.args.place c.peek-outcome.result c.self.invariant.1 c.take_turn-book.ensures.turn c.peek-outcome.ensures.says in
    let new : TurnPass = c.put_back.new.self in
    let a : IsAfter p c.take_turn-book.new.seat.me Same Same None p.spare new =
    record { change = refl; table = c.put_back.ensures.table ∙ c.take_turn-book.ensures.table; ended = c.put_back.ensures.ended; sizes = c.put_back.ensures.sizes; notes = c.put_back.ensures.items; room = c.put_back.ensures.room; spare = c.put_back.ensures.spare } in
    (c.put_back.ensures.table ∙ c.take_turn-book.ensures.table ∙ c.self.invariant.0, seated_then p c.take_turn-book.new.seat.me c.take_turn-book.result c.take_turn-book.result Same Same None p.spare new t a)

pub returns-clause-says : goal.returns-clause-says
returns-clause-says g c =
    let p : TurnPass = c.self.inside.pass in
    let t : IsTurn p c.take_turn-book.new.seat.me c.take_turn-book.result c.take_turn-book.result Same None p.spare =
    peek_turn p c.take_turn-book.new.seat.me c.take_turn-book.result c.args.place c.peek-outcome.result c.self.invariant.1 c.take_turn-book.ensures.turn c.peek-outcome.ensures.says in
    let new : TurnPass = c.put_back.new.self in
    let a : IsAfter p c.take_turn-book.new.seat.me Same Same None p.spare new =
    record { change = refl; table = c.put_back.ensures.table ∙ c.take_turn-book.ensures.table; ended = c.put_back.ensures.ended; sizes = c.put_back.ensures.sizes; notes = c.put_back.ensures.items; room = c.put_back.ensures.room; spare = c.put_back.ensures.spare } in
    rw (← c.self.view_is) (peek_told p c.take_turn-book.new.seat.me c.take_turn-book.result Same c.args.place c.peek-outcome.result new t a c.put_back.ensures.taken c.peek-outcome.ensures.says (held_at_all c.args.place c.self.inside.pass.seat.me.0.held (ap (λ (s : Sight). is_held_for_entry c.args.place s.held) c.self.view_is ∙ c.requires)))

pub returns-clause-knows : goal.returns-clause-knows
returns-clause-knows g c = (invariant_of-self g c).1.knows
