use Rattle.std.proofs.Common.{◌≤◌, sym, subst, refl, ◌∙◌}
use Rattle.book_desk.specs.declared.turn.change.PlaceChange.TheVariants.{Same}
use Rattle.history_book.specs.Sight.{Sight}
use Rattle.book_desk.specs.Internal.Book.{spare_after}
use Rattle.book_desk.specs.declared.turn.pass.TurnPass.{TurnPass}
use Rattle.book_desk.proofs.Passes.Turned.{IsAfter, IsTurn, room_for, some_room, seated_then, turn_ends, turn_few}
use Rattle.book_desk.proofs.Passes.Turns.{claim_told, claim_turn}
use Rattle.book_desk.proofs.turn_desk.TurnDeskDesk.claim.Goals as goal

pub put_back-requires-clause-some : goal.put_back-requires-clause-some
put_back-requires-clause-some g c = some_room c.self.inside.pass.spare c.claim-outcome.result.1 (subst (λ (s : Sight). 1 ≤ s.spare) (sym c.self.view_is) c.requires)

pub put_back-requires-clause-ends : goal.put_back-requires-clause-ends
put_back-requires-clause-ends g c =
    let p : TurnPass = c.self.inside.pass in
    let t : IsTurn p c.take_turn-book.new.seat.me c.take_turn-book.result c.claim-outcome.new.self Same c.claim-outcome.result.1 (spare_after p.spare c.claim-outcome.result.1) =
    claim_turn p c.take_turn-book.new.seat.me c.take_turn-book.result c.claim-outcome.new.self c.claim-outcome.result.1 (spare_after p.spare c.claim-outcome.result.1) c.args.t.now c.args.moment c.claim-outcome.result.0 c.self.invariant.1 c.take_turn-book.ensures.turn c.claim-outcome.ensures.stays c.claim-outcome.ensures.sizes c.claim-outcome.ensures.says (room_for p.spare c.claim-outcome.result.1 (subst (λ (s : Sight). 1 ≤ s.spare) (sym c.self.view_is) c.requires)) in
    turn_ends p c.take_turn-book.new.seat.me c.take_turn-book.result c.claim-outcome.new.self Same c.claim-outcome.result.1 (spare_after p.spare c.claim-outcome.result.1) t Same refl

pub put_back-requires-clause-few : goal.put_back-requires-clause-few
put_back-requires-clause-few g c =
    let p : TurnPass = c.self.inside.pass in
    let t : IsTurn p c.take_turn-book.new.seat.me c.take_turn-book.result c.claim-outcome.new.self Same c.claim-outcome.result.1 (spare_after p.spare c.claim-outcome.result.1) =
    claim_turn p c.take_turn-book.new.seat.me c.take_turn-book.result c.claim-outcome.new.self c.claim-outcome.result.1 (spare_after p.spare c.claim-outcome.result.1) c.args.t.now c.args.moment c.claim-outcome.result.0 c.self.invariant.1 c.take_turn-book.ensures.turn c.claim-outcome.ensures.stays c.claim-outcome.ensures.sizes c.claim-outcome.ensures.says (room_for p.spare c.claim-outcome.result.1 (subst (λ (s : Sight). 1 ≤ s.spare) (sym c.self.view_is) c.requires)) in
    turn_few p c.take_turn-book.new.seat.me c.take_turn-book.result c.claim-outcome.new.self Same c.claim-outcome.result.1 (spare_after p.spare c.claim-outcome.result.1) t

pub invariant_of-self : goal.invariant_of-self
invariant_of-self g c =
    let p : TurnPass = c.self.inside.pass in
    let t : IsTurn p c.take_turn-book.new.seat.me c.take_turn-book.result c.claim-outcome.new.self Same c.claim-outcome.result.1 (spare_after p.spare c.claim-outcome.result.1) =
    claim_turn p c.take_turn-book.new.seat.me c.take_turn-book.result c.claim-outcome.new.self c.claim-outcome.result.1 (spare_after p.spare c.claim-outcome.result.1) c.args.t.now c.args.moment c.claim-outcome.result.0 c.self.invariant.1 c.take_turn-book.ensures.turn c.claim-outcome.ensures.stays c.claim-outcome.ensures.sizes c.claim-outcome.ensures.says (room_for p.spare c.claim-outcome.result.1 (subst (λ (s : Sight). 1 ≤ s.spare) (sym c.self.view_is) c.requires)) in
    let new : TurnPass = c.put_back.new.self in
    let a : IsAfter p c.take_turn-book.new.seat.me Same Same c.claim-outcome.result.1 (spare_after p.spare c.claim-outcome.result.1) new =
    record { change = refl; table = c.put_back.ensures.table ∙ c.take_turn-book.ensures.table; ended = c.put_back.ensures.ended; sizes = c.put_back.ensures.sizes; notes = c.put_back.ensures.items; room = c.put_back.ensures.room; spare = c.put_back.ensures.spare } in
    (c.put_back.ensures.table ∙ c.take_turn-book.ensures.table ∙ c.self.invariant.0, seated_then p c.take_turn-book.new.seat.me c.take_turn-book.result c.claim-outcome.new.self Same Same c.claim-outcome.result.1 (spare_after p.spare c.claim-outcome.result.1) new t a)

pub returns-clause-says : goal.returns-clause-says
returns-clause-says g c =
    let p : TurnPass = c.self.inside.pass in
    let t : IsTurn p c.take_turn-book.new.seat.me c.take_turn-book.result c.claim-outcome.new.self Same c.claim-outcome.result.1 (spare_after p.spare c.claim-outcome.result.1) =
    claim_turn p c.take_turn-book.new.seat.me c.take_turn-book.result c.claim-outcome.new.self c.claim-outcome.result.1 (spare_after p.spare c.claim-outcome.result.1) c.args.t.now c.args.moment c.claim-outcome.result.0 c.self.invariant.1 c.take_turn-book.ensures.turn c.claim-outcome.ensures.stays c.claim-outcome.ensures.sizes c.claim-outcome.ensures.says (room_for p.spare c.claim-outcome.result.1 (subst (λ (s : Sight). 1 ≤ s.spare) (sym c.self.view_is) c.requires)) in
    let new : TurnPass = c.put_back.new.self in
    let a : IsAfter p c.take_turn-book.new.seat.me Same Same c.claim-outcome.result.1 (spare_after p.spare c.claim-outcome.result.1) new =
    record { change = refl; table = c.put_back.ensures.table ∙ c.take_turn-book.ensures.table; ended = c.put_back.ensures.ended; sizes = c.put_back.ensures.sizes; notes = c.put_back.ensures.items; room = c.put_back.ensures.room; spare = c.put_back.ensures.spare } in
    rw (← c.self.view_is) (claim_told p c.take_turn-book.new.seat.me c.take_turn-book.result c.claim-outcome.new.self Same c.claim-outcome.result.1 (spare_after p.spare c.claim-outcome.result.1) c.args.t.now c.args.moment c.claim-outcome.result.0 new t a c.put_back.ensures.taken c.claim-outcome.ensures.says)

pub returns-clause-knows : goal.returns-clause-knows
returns-clause-knows g c = (invariant_of-self g c).1.knows
