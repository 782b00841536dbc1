use Rattle.std.proofs.Common.{ap, None, ◌∙◌}
use Rattle.history_book.specs.Sight.{Sight}
use Rattle.history_book.specs.Held.{is_at, is_held}
use Rattle.book_desk.specs.Turn.Change.{released_change}
use Rattle.book_desk.proofs.Passes.Among.{any_among}
use Rattle.book_desk.specs.declared.turn.pass.TurnPass.{TurnPass}
use Rattle.book_desk.proofs.Passes.Turned.{IsAfter, IsTurn, seated_then, turn_ends, turn_few}
use Rattle.book_desk.proofs.Passes.Turns.{release_told, release_turn}
use Rattle.book_desk.proofs.turn_desk.TurnDeskDesk.release.Goals as goal

pub release-outcome-requires-clause-held : goal.release-outcome-requires-clause-held
release-outcome-requires-clause-held g c =
    any_among (is_at c.args.place) c.self.inside.pass.seat.me.0.held c.take_turn-book.result.holds.items c.take_turn-book.ensures.turn.1.held (ap (λ (s : Sight). is_held c.args.place s.held) c.self.view_is ∙ c.requires)

pub put_back-requires-clause-ends : goal.put_back-requires-clause-ends
put_back-requires-clause-ends g c =
    let p : TurnPass = c.self.inside.pass in
    let t : IsTurn p c.take_turn-book.new.seat.me c.take_turn-book.result c.release-outcome.new.self (released_change c.args.place c.release-outcome.result) None p.spare =
    release_turn p c.take_turn-book.new.seat.me c.take_turn-book.result c.release-outcome.new.self c.args.place c.release-outcome.result c.self.invariant.1 c.take_turn-book.ensures.turn c.release-outcome.ensures.stays c.release-outcome.ensures.sizes c.release-outcome.ensures.says (ap (λ (s : Sight). is_held c.args.place s.held) c.self.view_is ∙ c.requires) in
    turn_ends p c.take_turn-book.new.seat.me c.take_turn-book.result c.release-outcome.new.self (released_change c.args.place c.release-outcome.result) None p.spare t c.released_change.result c.released_change.ensures

pub put_back-requires-clause-few : goal.put_back-requires-clause-few
put_back-requires-clause-few g c =
    let p : TurnPass = c.self.inside.pass in
    let t : IsTurn p c.take_turn-book.new.seat.me c.take_turn-book.result c.release-outcome.new.self (released_change c.args.place c.release-outcome.result) None p.spare =
    release_turn p c.take_turn-book.new.seat.me c.take_turn-book.result c.release-outcome.new.self c.args.place c.release-outcome.result c.self.invariant.1 c.take_turn-book.ensures.turn c.release-outcome.ensures.stays c.release-outcome.ensures.sizes c.release-outcome.ensures.says (ap (λ (s : Sight). is_held c.args.place s.held) c.self.view_is ∙ c.requires) in
    turn_few p c.take_turn-book.new.seat.me c.take_turn-book.result c.release-outcome.new.self (released_change c.args.place c.release-outcome.result) None p.spare t

pub invariant_of-self : goal.invariant_of-self
invariant_of-self g c =
    let p : TurnPass = c.self.inside.pass in
    let t : IsTurn p c.take_turn-book.new.seat.me c.take_turn-book.result c.release-outcome.new.self (released_change c.args.place c.release-outcome.result) None p.spare =
    release_turn p c.take_turn-book.new.seat.me c.take_turn-book.result c.release-outcome.new.self c.args.place c.release-outcome.result c.self.invariant.1 c.take_turn-book.ensures.turn c.release-outcome.ensures.stays c.release-outcome.ensures.sizes c.release-outcome.ensures.says (ap (λ (s : Sight). is_held c.args.place s.held) c.self.view_is ∙ c.requires) in
    let new : TurnPass = c.put_back.new.self in
    let a : IsAfter p c.take_turn-book.new.seat.me (released_change c.args.place c.release-outcome.result) c.released_change.result None p.spare new =
    record { change = c.released_change.ensures; table = c.put_back.ensures.table ∙ c.take_turn-book.ensures.table; ended = c.put_back.ensures.ended; sizes = c.put_back.ensures.sizes; notes = c.put_back.ensures.items; room = c.put_back.ensures.room; spare = c.put_back.ensures.spare } in
    (c.put_back.ensures.table ∙ c.take_turn-book.ensures.table ∙ c.self.invariant.0, seated_then p c.take_turn-book.new.seat.me c.take_turn-book.result c.release-outcome.new.self (released_change c.args.place c.release-outcome.result) c.released_change.result None p.spare new t a)

pub returns-clause-says : goal.returns-clause-says
returns-clause-says g c =
    let p : TurnPass = c.self.inside.pass in
    let t : IsTurn p c.take_turn-book.new.seat.me c.take_turn-book.result c.release-outcome.new.self (released_change c.args.place c.release-outcome.result) None p.spare =
    release_turn p c.take_turn-book.new.seat.me c.take_turn-book.result c.release-outcome.new.self c.args.place c.release-outcome.result c.self.invariant.1 c.take_turn-book.ensures.turn c.release-outcome.ensures.stays c.release-outcome.ensures.sizes c.release-outcome.ensures.says (ap (λ (s : Sight). is_held c.args.place s.held) c.self.view_is ∙ c.requires) in
    let new : TurnPass = c.put_back.new.self in
    let a : IsAfter p c.take_turn-book.new.seat.me (released_change c.args.place c.release-outcome.result) c.released_change.result None p.spare new =
    record { change = c.released_change.ensures; table = c.put_back.ensures.table ∙ c.take_turn-book.ensures.table; ended = c.put_back.ensures.ended; sizes = c.put_back.ensures.sizes; notes = c.put_back.ensures.items; room = c.put_back.ensures.room; spare = c.put_back.ensures.spare } in
    rw (← c.self.view_is) (release_told p c.take_turn-book.new.seat.me c.take_turn-book.result c.release-outcome.new.self c.released_change.result c.args.place c.release-outcome.result new t a c.put_back.ensures.taken c.release-outcome.ensures.says (ap (λ (s : Sight). is_held c.args.place s.held) c.self.view_is ∙ c.requires))

pub returns-clause-knows : goal.returns-clause-knows
returns-clause-knows g c = (invariant_of-self g c).1.knows
