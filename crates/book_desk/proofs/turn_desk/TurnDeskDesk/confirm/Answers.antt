use Rattle.std.proofs.Common.{◌≤◌, sym, subst, ap, ◌∙◌}
use Rattle.history_book.specs.Sight.{Sight}
use Rattle.history_book.specs.Held.{is_taken}
use Rattle.book_desk.specs.Turn.Change.{confirmed_change}
use Rattle.book_desk.proofs.Passes.Among.{taken_any}
use Rattle.book_desk.specs.Internal.Book.{spare_after}
use Rattle.book_desk.specs.declared.turn.pass.TurnPass.{TurnPass}
use Rattle.book_desk.proofs.Passes.Turned.{IsAfter, IsTurn, room_for, some_room, seated_then, turn_ends, turn_few}
use Rattle.book_desk.proofs.Passes.Turns.{confirm_told, confirm_turn}
use Rattle.book_desk.proofs.turn_desk.TurnDeskDesk.confirm.Goals as goal

pub confirm-outcome-requires-clause-taken : goal.confirm-outcome-requires-clause-taken
confirm-outcome-requires-clause-taken g c =
    taken_any c.args.place c.self.inside.pass.seat.me.0.held c.take_turn-book.result.holds.items c.take_turn-book.ensures.turn.1.held (ap (λ (s : Sight). is_taken c.args.place s.held) c.self.view_is ∙ c.requires.taken)

pub put_back-requires-clause-some : goal.put_back-requires-clause-some
put_back-requires-clause-some g c = some_room c.self.inside.pass.spare c.confirm-outcome.result.1 (subst (λ (s : Sight). 1 ≤ s.spare) (sym c.self.view_is) c.requires.spare)

pub put_back-requires-clause-ends : goal.put_back-requires-clause-ends
put_back-requires-clause-ends g c =
    let p : TurnPass = c.self.inside.pass in
    let t : IsTurn p c.take_turn-book.new.seat.me c.take_turn-book.result c.confirm-outcome.new.self (confirmed_change c.args.place c.confirm-outcome.result.0) c.confirm-outcome.result.1 (spare_after p.spare c.confirm-outcome.result.1) =
    confirm_turn p c.take_turn-book.new.seat.me c.take_turn-book.result c.confirm-outcome.new.self c.confirm-outcome.result.1 (spare_after p.spare c.confirm-outcome.result.1) c.args.place c.args.flow.now c.confirm-outcome.result.0 c.self.invariant.1 c.take_turn-book.ensures.turn c.confirm-outcome.ensures.stays c.confirm-outcome.ensures.sizes c.confirm-outcome.ensures.says (ap (λ (s : Sight). is_taken c.args.place s.held) c.self.view_is ∙ c.requires.taken) (room_for p.spare c.confirm-outcome.result.1 (subst (λ (s : Sight). 1 ≤ s.spare) (sym c.self.view_is) c.requires.spare)) in
    turn_ends p c.take_turn-book.new.seat.me c.take_turn-book.result c.confirm-outcome.new.self (confirmed_change c.args.place c.confirm-outcome.result.0) c.confirm-outcome.result.1 (spare_after p.spare c.confirm-outcome.result.1) t c.confirmed_change.result c.confirmed_change.ensures

pub put_back-requires-clause-few : goal.put_back-requires-clause-few
put_back-requires-clause-few g c =
    let p : TurnPass = c.self.inside.pass in
    let t : IsTurn p c.take_turn-book.new.seat.me c.take_turn-book.result c.confirm-outcome.new.self (confirmed_change c.args.place c.confirm-outcome.result.0) c.confirm-outcome.result.1 (spare_after p.spare c.confirm-outcome.result.1) =
    confirm_turn p c.take_turn-book.new.seat.me c.take_turn-book.result c.confirm-outcome.new.self c.confirm-outcome.result.1 (spare_after p.spare c.confirm-outcome.result.1) c.args.place c.args.flow.now c.confirm-outcome.result.0 c.self.invariant.1 c.take_turn-book.ensures.turn c.confirm-outcome.ensures.stays c.confirm-outcome.ensures.sizes c.confirm-outcome.ensures.says (ap (λ (s : Sight). is_taken c.args.place s.held) c.self.view_is ∙ c.requires.taken) (room_for p.spare c.confirm-outcome.result.1 (subst (λ (s : Sight). 1 ≤ s.spare) (sym c.self.view_is) c.requires.spare)) in
    turn_few p c.take_turn-book.new.seat.me c.take_turn-book.result c.confirm-outcome.new.self (confirmed_change c.args.place c.confirm-outcome.result.0) c.confirm-outcome.result.1 (spare_after p.spare c.confirm-outcome.result.1) t

pub invariant_of-self : goal.invariant_of-self
invariant_of-self g c =
    let p : TurnPass = c.self.inside.pass in
    let t : IsTurn p c.take_turn-book.new.seat.me c.take_turn-book.result c.confirm-outcome.new.self (confirmed_change c.args.place c.confirm-outcome.result.0) c.confirm-outcome.result.1 (spare_after p.spare c.confirm-outcome.result.1) =
    confirm_turn p c.take_turn-book.new.seat.me c.take_turn-book.result c.confirm-outcome.new.self c.confirm-outcome.result.1 (spare_after p.spare c.confirm-outcome.result.1) c.args.place c.args.flow.now c.confirm-outcome.result.0 c.self.invariant.1 c.take_turn-book.ensures.turn c.confirm-outcome.ensures.stays c.confirm-outcome.ensures.sizes c.confirm-outcome.ensures.says (ap (λ (s : Sight). is_taken c.args.place s.held) c.self.view_is ∙ c.requires.taken) (room_for p.spare c.confirm-outcome.result.1 (subst (λ (s : Sight). 1 ≤ s.spare) (sym c.self.view_is) c.requires.spare)) in
    let new : TurnPass = c.put_back.new.self in
    let a : IsAfter p c.take_turn-book.new.seat.me (confirmed_change c.args.place c.confirm-outcome.result.0) c.confirmed_change.result c.confirm-outcome.result.1 (spare_after p.spare c.confirm-outcome.result.1) new =
    record { change = c.confirmed_change.ensures; table = c.put_back.ensures.table ∙ c.take_turn-book.ensures.table; ended = c.put_back.ensures.ended; sizes = c.put_back.ensures.sizes; notes = c.put_back.ensures.items; room = c.put_back.ensures.room; spare = c.put_back.ensures.spare } in
    (c.put_back.ensures.table ∙ c.take_turn-book.ensures.table ∙ c.self.invariant.0, seated_then p c.take_turn-book.new.seat.me c.take_turn-book.result c.confirm-outcome.new.self (confirmed_change c.args.place c.confirm-outcome.result.0) c.confirmed_change.result c.confirm-outcome.result.1 (spare_after p.spare c.confirm-outcome.result.1) new t a)

pub returns-clause-says : goal.returns-clause-says
returns-clause-says g c =
    let p : TurnPass = c.self.inside.pass in
    let t : IsTurn p c.take_turn-book.new.seat.me c.take_turn-book.result c.confirm-outcome.new.self (confirmed_change c.args.place c.confirm-outcome.result.0) c.confirm-outcome.result.1 (spare_after p.spare c.confirm-outcome.result.1) =
    confirm_turn p c.take_turn-book.new.seat.me c.take_turn-book.result c.confirm-outcome.new.self c.confirm-outcome.result.1 (spare_after p.spare c.confirm-outcome.result.1) c.args.place c.args.flow.now c.confirm-outcome.result.0 c.self.invariant.1 c.take_turn-book.ensures.turn c.confirm-outcome.ensures.stays c.confirm-outcome.ensures.sizes c.confirm-outcome.ensures.says (ap (λ (s : Sight). is_taken c.args.place s.held) c.self.view_is ∙ c.requires.taken) (room_for p.spare c.confirm-outcome.result.1 (subst (λ (s : Sight). 1 ≤ s.spare) (sym c.self.view_is) c.requires.spare)) in
    let new : TurnPass = c.put_back.new.self in
    let a : IsAfter p c.take_turn-book.new.seat.me (confirmed_change c.args.place c.confirm-outcome.result.0) c.confirmed_change.result c.confirm-outcome.result.1 (spare_after p.spare c.confirm-outcome.result.1) new =
    record { change = c.confirmed_change.ensures; table = c.put_back.ensures.table ∙ c.take_turn-book.ensures.table; ended = c.put_back.ensures.ended; sizes = c.put_back.ensures.sizes; notes = c.put_back.ensures.items; room = c.put_back.ensures.room; spare = c.put_back.ensures.spare } in
    rw (← c.self.view_is) (confirm_told p c.take_turn-book.new.seat.me c.take_turn-book.result c.confirm-outcome.new.self c.confirmed_change.result c.confirm-outcome.result.1 (spare_after p.spare c.confirm-outcome.result.1) c.args.place c.args.flow.now c.confirm-outcome.result.0 new t a c.put_back.ensures.taken c.confirm-outcome.ensures.says)

pub returns-clause-knows : goal.returns-clause-knows
returns-clause-knows g c = (invariant_of-self g c).1.knows
