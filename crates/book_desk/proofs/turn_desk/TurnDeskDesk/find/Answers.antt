use Rattle.std.proofs.Common.{◌+◌, ◌≤◌, length, subst, sym, None, ◌∙◌}
use Rattle.history_book.specs.Sight.{Sight}
use Rattle.book_desk.specs.Turn.Change.{found_change}
use Rattle.book_desk.specs.declared.turn.pass.TurnPass.{TurnPass}
use Rattle.book_desk.proofs.Passes.Turned.{IsAfter, IsTurn, seated_then, turn_ends, turn_few}
use Rattle.book_desk.proofs.Passes.Turns.{find_told, find_turn}
use Rattle.book_desk.proofs.turn_desk.TurnDeskDesk.find.Goals as goal

pub put_back-requires-clause-ends : goal.put_back-requires-clause-ends
put_back-requires-clause-ends g c =
    let p : TurnPass = c.self.inside.pass in
    let t : IsTurn p c.take_turn-book.new.seat.me c.take_turn-book.result c.find-outcome.new.self (found_change c.find-outcome.result) None p.spare =
    find_turn p c.take_turn-book.new.seat.me c.take_turn-book.result c.find-outcome.new.self c.args.t.now c.find-outcome.result c.self.invariant.1 c.take_turn-book.ensures.turn c.find-outcome.ensures.stays c.find-outcome.ensures.sizes c.find-outcome.ensures.says (subst (λ (s : Sight). length s.held + length s.owed ≤ 3) (sym c.self.view_is) c.requires) in
    turn_ends p c.take_turn-book.new.seat.me c.take_turn-book.result c.find-outcome.new.self (found_change c.find-outcome.result) None p.spare t c.found_change.result c.found_change.ensures

pub put_back-requires-clause-few : goal.put_back-requires-clause-few
put_back-requires-clause-few g c =
    let p : TurnPass = c.self.inside.pass in
    let t : IsTurn p c.take_turn-book.new.seat.me c.take_turn-book.result c.find-outcome.new.self (found_change c.find-outcome.result) None p.spare =
    find_turn p c.take_turn-book.new.seat.me c.take_turn-book.result c.find-outcome.new.self c.args.t.now c.find-outcome.result c.self.invariant.1 c.take_turn-book.ensures.turn c.find-outcome.ensures.stays c.find-outcome.ensures.sizes c.find-outcome.ensures.says (subst (λ (s : Sight). length s.held + length s.owed ≤ 3) (sym c.self.view_is) c.requires) in
    turn_few p c.take_turn-book.new.seat.me c.take_turn-book.result c.find-outcome.new.self (found_change c.find-outcome.result) None p.spare t

pub invariant_of-self : goal.invariant_of-self
invariant_of-self g c =
    let p : TurnPass = c.self.inside.pass in
    let t : IsTurn p c.take_turn-book.new.seat.me c.take_turn-book.result c.find-outcome.new.self (found_change c.find-outcome.result) None p.spare =
    find_turn p c.take_turn-book.new.seat.me c.take_turn-book.result c.find-outcome.new.self c.args.t.now c.find-outcome.result c.self.invariant.1 c.take_turn-book.ensures.turn c.find-outcome.ensures.stays c.find-outcome.ensures.sizes c.find-outcome.ensures.says (subst (λ (s : Sight). length s.held + length s.owed ≤ 3) (sym c.self.view_is) c.requires) in
    let new : TurnPass = c.put_back.new.self in
    let a : IsAfter p c.take_turn-book.new.seat.me (found_change c.find-outcome.result) c.found_change.result None p.spare new =
    record { change = c.found_change.ensures; table = c.put_back.ensures.table ∙ c.take_turn-book.ensures.table; ended = c.put_back.ensures.ended; sizes = c.put_back.ensures.sizes; notes = c.put_back.ensures.items; room = c.put_back.ensures.room; spare = c.put_back.ensures.spare } in
    (c.put_back.ensures.table ∙ c.take_turn-book.ensures.table ∙ c.self.invariant.0, seated_then p c.take_turn-book.new.seat.me c.take_turn-book.result c.find-outcome.new.self (found_change c.find-outcome.result) c.found_change.result None p.spare new t a)

pub returns-clause-says : goal.returns-clause-says
returns-clause-says g c =
    let p : TurnPass = c.self.inside.pass in
    let t : IsTurn p c.take_turn-book.new.seat.me c.take_turn-book.result c.find-outcome.new.self (found_change c.find-outcome.result) None p.spare =
    find_turn p c.take_turn-book.new.seat.me c.take_turn-book.result c.find-outcome.new.self c.args.t.now c.find-outcome.result c.self.invariant.1 c.take_turn-book.ensures.turn c.find-outcome.ensures.stays c.find-outcome.ensures.sizes c.find-outcome.ensures.says (subst (λ (s : Sight). length s.held + length s.owed ≤ 3) (sym c.self.view_is) c.requires) in
    let new : TurnPass = c.put_back.new.self in
    let a : IsAfter p c.take_turn-book.new.seat.me (found_change c.find-outcome.result) c.found_change.result None p.spare new =
    record { change = c.found_change.ensures; table = c.put_back.ensures.table ∙ c.take_turn-book.ensures.table; ended = c.put_back.ensures.ended; sizes = c.put_back.ensures.sizes; notes = c.put_back.ensures.items; room = c.put_back.ensures.room; spare = c.put_back.ensures.spare } in
    rw (← c.self.view_is) (find_told p c.take_turn-book.new.seat.me c.take_turn-book.result c.find-outcome.new.self c.found_change.result c.args.t.now c.find-outcome.result new t a c.put_back.ensures.taken c.find-outcome.ensures.says)

pub returns-clause-knows : goal.returns-clause-knows
returns-clause-knows g c = (invariant_of-self g c).1.knows
