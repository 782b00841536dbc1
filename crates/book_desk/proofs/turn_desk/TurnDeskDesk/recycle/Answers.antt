use Rattle.std.proofs.Common.{ℕ, ap, refl, None, ◌∙◌}
use Rattle.history_book.specs.Sight.{Sight}
use Rattle.history_book.specs.Held.{is_owed}
use Rattle.std.specs.Prelude.{◌==◌}
use Rattle.book_desk.specs.declared.turn.change.PlaceChange.TheVariants.{Pays}
use Rattle.book_desk.proofs.Passes.Among.{any_among}
use Rattle.book_desk.specs.declared.turn.pass.TurnPass.{TurnPass}
use Rattle.book_desk.proofs.Passes.Turned.{IsAfter, IsTurn, seated_then, turn_ends, turn_few}
use Rattle.book_desk.proofs.Passes.Turns.{recycle_told, recycle_turn}
use Rattle.book_desk.proofs.turn_desk.TurnDeskDesk.recycle.Goals as goal

pub recycle-requires-clause-owed : goal.recycle-requires-clause-owed
recycle-requires-clause-owed g c =
    any_among (λ (q : ℕ). q == c.args.place) c.self.inside.pass.seat.me.0.owed c.take_turn-book.result.owed.items c.take_turn-book.ensures.turn.1.owed (ap (λ (s : Sight). is_owed c.args.place s.owed) c.self.view_is ∙ c.requires)

pub put_back-requires-clause-ends : goal.put_back-requires-clause-ends
put_back-requires-clause-ends g c =
    let p : TurnPass = c.self.inside.pass in
    let t : IsTurn p c.take_turn-book.new.seat.me c.take_turn-book.result c.recycle.new.self (Pays c.args.place) None p.spare =
    recycle_turn p c.take_turn-book.new.seat.me c.take_turn-book.result c.recycle.new.self c.args.place c.self.invariant.1 c.take_turn-book.ensures.turn c.recycle.ensures.stays c.recycle.ensures.sizes c.recycle.ensures.says (ap (λ (s : Sight). is_owed c.args.place s.owed) c.self.view_is ∙ c.requires) in
    turn_ends p c.take_turn-book.new.seat.me c.take_turn-book.result c.recycle.new.self (Pays c.args.place) None p.spare t (Pays c.args.place) refl

pub put_back-requires-clause-few : goal.put_back-requires-clause-few
put_back-requires-clause-few g c =
    let p : TurnPass = c.self.inside.pass in
    let t : IsTurn p c.take_turn-book.new.seat.me c.take_turn-book.result c.recycle.new.self (Pays c.args.place) None p.spare =
    recycle_turn p c.take_turn-book.new.seat.me c.take_turn-book.result c.recycle.new.self c.args.place c.self.invariant.1 c.take_turn-book.ensures.turn c.recycle.ensures.stays c.recycle.ensures.sizes c.recycle.ensures.says (ap (λ (s : Sight). is_owed c.args.place s.owed) c.self.view_is ∙ c.requires) in
    turn_few p c.take_turn-book.new.seat.me c.take_turn-book.result c.recycle.new.self (Pays c.args.place) None p.spare t

pub invariant_of-self : goal.invariant_of-self
invariant_of-self g c =
    let p : TurnPass = c.self.inside.pass in
    let t : IsTurn p c.take_turn-book.new.seat.me c.take_turn-book.result c.recycle.new.self (Pays c.args.place) None p.spare =
    recycle_turn p c.take_turn-book.new.seat.me c.take_turn-book.result c.recycle.new.self c.args.place c.self.invariant.1 c.take_turn-book.ensures.turn c.recycle.ensures.stays c.recycle.ensures.sizes c.recycle.ensures.says (ap (λ (s : Sight). is_owed c.args.place s.owed) c.self.view_is ∙ c.requires) in
    let new : TurnPass = c.put_back.new.self in
    let a : IsAfter p c.take_turn-book.new.seat.me (Pays c.args.place) (Pays c.args.place) None p.spare new =
    record { change = refl; table = c.put_back.ensures.table ∙ c.take_turn-book.ensures.table; ended = c.put_back.ensures.ended; sizes = c.put_back.ensures.sizes; notes = c.put_back.ensures.items; room = c.put_back.ensures.room; spare = c.put_back.ensures.spare } in
    (c.put_back.ensures.table ∙ c.take_turn-book.ensures.table ∙ c.self.invariant.0, seated_then p c.take_turn-book.new.seat.me c.take_turn-book.result c.recycle.new.self (Pays c.args.place) (Pays c.args.place) None p.spare new t a)

pub returns-clause-says : goal.returns-clause-says
returns-clause-says g c =
    let p : TurnPass = c.self.inside.pass in
    let t : IsTurn p c.take_turn-book.new.seat.me c.take_turn-book.result c.recycle.new.self (Pays c.args.place) None p.spare =
    recycle_turn p c.take_turn-book.new.seat.me c.take_turn-book.result c.recycle.new.self c.args.place c.self.invariant.1 c.take_turn-book.ensures.turn c.recycle.ensures.stays c.recycle.ensures.sizes c.recycle.ensures.says (ap (λ (s : Sight). is_owed c.args.place s.owed) c.self.view_is ∙ c.requires) in
    let new : TurnPass = c.put_back.new.self in
    let a : IsAfter p c.take_turn-book.new.seat.me (Pays c.args.place) (Pays c.args.place) None p.spare new =
    record { change = refl; table = c.put_back.ensures.table ∙ c.take_turn-book.ensures.table; ended = c.put_back.ensures.ended; sizes = c.put_back.ensures.sizes; notes = c.put_back.ensures.items; room = c.put_back.ensures.room; spare = c.put_back.ensures.spare } in
    rw (← c.self.view_is) (recycle_told p c.take_turn-book.new.seat.me c.take_turn-book.result c.recycle.new.self (Pays c.args.place) c.args.place new t a c.put_back.ensures.taken c.recycle.ensures.says)

pub returns-clause-knows : goal.returns-clause-knows
returns-clause-knows g c = (invariant_of-self g c).1.knows
