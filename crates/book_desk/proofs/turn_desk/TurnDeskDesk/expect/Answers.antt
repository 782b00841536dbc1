use Rattle.std.proofs.Common.{◌≤◌, subst, ℕ, ap, refl, sym, ◌∙◌}
use Rattle.history_book.specs.Sight.{Sight}
use Rattle.history_book.specs.Held.{held_id, is_held_for_entry}
use Rattle.book_desk.specs.declared.turn.change.PlaceChange.TheVariants.{Same}
use Rattle.history_book.specs.Entry.{is_helped_entry}
use Rattle.book_desk.proofs.Passes.Among.{held_id_among}
use Rattle.book_desk.proofs.Passes.Turned.{helped_on, held_at_all}
use Rattle.book_desk.specs.declared.book.Book.{Book}
use Rattle.book_desk.specs.Internal.Book.{spare_after}
use Rattle.book_desk.specs.declared.turn.pass.TurnPass.{TurnPass}
use Rattle.book_desk.proofs.Passes.Turned.{IsAfter, IsTurn, room_for, some_room, seated_then, turn_ends, turn_few}
use Rattle.book_desk.proofs.Passes.Turns.{expect_told, expect_turn}
use Rattle.book_desk.proofs.turn_desk.TurnDeskDesk.expect.Goals as goal

pub expect-outcome-requires-clause-right : goal.expect-outcome-requires-clause-right
expect-outcome-requires-clause-right g c =
    let v = c.self.inside.pass.seat.me.0 in
    let took = c.take_turn-book.ensures.turn in
    let b : Book = c.take_turn-book.result in (
      took.0,
      took.1.book,
      ap (λ (n : ℕ). is_helped_entry n took.0) (sym (held_id_among c.args.place v.held b.holds.items took.1.book.references.agreed took.1.held (held_at_all c.args.place c.self.inside.pass.seat.me.0.held (ap (λ (s : Sight). is_held_for_entry c.args.place s.held) c.self.view_is ∙ c.requires.held))))
          ∙ helped_on took.0 v.front (held_id c.args.place v.held) took.1.all.front
          (ap (λ (s : Sight). is_helped_entry (held_id c.args.place s.held) s.front) c.self.view_is ∙ c.requires.helper),
    )

pub put_back-requires-clause-some : goal.put_back-requires-clause-some
put_back-requires-clause-some g c = some_room c.self.inside.pass.spare c.expect-outcome.result.1 (subst (λ (s : Sight). 1 ≤ s.spare) (sym c.self.view_is) c.requires.spare)

pub put_back-requires-clause-ends : goal.put_back-requires-clause-ends
put_back-requires-clause-ends g c =
    let p : TurnPass = c.self.inside.pass in
    let t : IsTurn p c.take_turn-book.new.seat.me c.take_turn-book.result c.expect-outcome.new.self Same c.expect-outcome.result.1 (spare_after p.spare c.expect-outcome.result.1) =
    expect_turn p c.take_turn-book.new.seat.me c.take_turn-book.result c.expect-outcome.new.self c.expect-outcome.result.1 (spare_after p.spare c.expect-outcome.result.1) c.args.place c.args.want c.args.moment c.expect-outcome.result.0 c.self.invariant.1 c.take_turn-book.ensures.turn c.expect-outcome.ensures.stays c.expect-outcome.ensures.sizes c.expect-outcome.ensures.says (room_for p.spare c.expect-outcome.result.1 (subst (λ (s : Sight). 1 ≤ s.spare) (sym c.self.view_is) c.requires.spare)) in
    turn_ends p c.take_turn-book.new.seat.me c.take_turn-book.result c.expect-outcome.new.self Same c.expect-outcome.result.1 (spare_after p.spare c.expect-outcome.result.1) t Same refl

pub put_back-requires-clause-few : goal.put_back-requires-clause-few
put_back-requires-clause-few g c =
    let p : TurnPass = c.self.inside.pass in
    let t : IsTurn p c.take_turn-book.new.seat.me c.take_turn-book.result c.expect-outcome.new.self Same c.expect-outcome.result.1 (spare_after p.spare c.expect-outcome.result.1) =
    expect_turn p c.take_turn-book.new.seat.me c.take_turn-book.result c.expect-outcome.new.self c.expect-outcome.result.1 (spare_after p.spare c.expect-outcome.result.1) c.args.place c.args.want c.args.moment c.expect-outcome.result.0 c.self.invariant.1 c.take_turn-book.ensures.turn c.expect-outcome.ensures.stays c.expect-outcome.ensures.sizes c.expect-outcome.ensures.says (room_for p.spare c.expect-outcome.result.1 (subst (λ (s : Sight). 1 ≤ s.spare) (sym c.self.view_is) c.requires.spare)) in
    turn_few p c.take_turn-book.new.seat.me c.take_turn-book.result c.expect-outcome.new.self Same c.expect-outcome.result.1 (spare_after p.spare c.expect-outcome.result.1) t

pub invariant_of-self : goal.invariant_of-self
invariant_of-self g c =
    let p : TurnPass = c.self.inside.pass in
    let t : IsTurn p c.take_turn-book.new.seat.me c.take_turn-book.result c.expect-outcome.new.self Same c.expect-outcome.result.1 (spare_after p.spare c.expect-outcome.result.1) =
    expect_turn p c.take_turn-book.new.seat.me c.take_turn-book.result c.expect-outcome.new.self c.expect-outcome.result.1 (spare_after p.spare c.expect-outcome.result.1) c.args.place c.args.want c.args.moment c.expect-outcome.result.0 c.self.invariant.1 c.take_turn-book.ensures.turn c.expect-outcome.ensures.stays c.expect-outcome.ensures.sizes c.expect-outcome.ensures.says (room_for p.spare c.expect-outcome.result.1 (subst (λ (s : Sight). 1 ≤ s.spare) (sym c.self.view_is) c.requires.spare)) in
    let new : TurnPass = c.put_back.new.self in
    let a : IsAfter p c.take_turn-book.new.seat.me Same Same c.expect-outcome.result.1 (spare_after p.spare c.expect-outcome.result.1) new =
    record { change = refl; table = c.put_back.ensures.table ∙ c.take_turn-book.ensures.table; ended = c.put_back.ensures.ended; sizes = c.put_back.ensures.sizes; notes = c.put_back.ensures.items; room = c.put_back.ensures.room; spare = c.put_back.ensures.spare } in
    (c.put_back.ensures.table ∙ c.take_turn-book.ensures.table ∙ c.self.invariant.0, seated_then p c.take_turn-book.new.seat.me c.take_turn-book.result c.expect-outcome.new.self Same Same c.expect-outcome.result.1 (spare_after p.spare c.expect-outcome.result.1) new t a)

pub returns-clause-says : goal.returns-clause-says
returns-clause-says g c =
    let p : TurnPass = c.self.inside.pass in
    let t : IsTurn p c.take_turn-book.new.seat.me c.take_turn-book.result c.expect-outcome.new.self Same c.expect-outcome.result.1 (spare_after p.spare c.expect-outcome.result.1) =
    expect_turn p c.take_turn-book.new.seat.me c.take_turn-book.result c.expect-outcome.new.self c.expect-outcome.result.1 (spare_after p.spare c.expect-outcome.result.1) c.args.place c.args.want c.args.moment c.expect-outcome.result.0 c.self.invariant.1 c.take_turn-book.ensures.turn c.expect-outcome.ensures.stays c.expect-outcome.ensures.sizes c.expect-outcome.ensures.says (room_for p.spare c.expect-outcome.result.1 (subst (λ (s : Sight). 1 ≤ s.spare) (sym c.self.view_is) c.requires.spare)) in
    let new : TurnPass = c.put_back.new.self in
    let a : IsAfter p c.take_turn-book.new.seat.me Same Same c.expect-outcome.result.1 (spare_after p.spare c.expect-outcome.result.1) new =
    record { change = refl; table = c.put_back.ensures.table ∙ c.take_turn-book.ensures.table; ended = c.put_back.ensures.ended; sizes = c.put_back.ensures.sizes; notes = c.put_back.ensures.items; room = c.put_back.ensures.room; spare = c.put_back.ensures.spare } in
    rw (← c.self.view_is) (expect_told p c.take_turn-book.new.seat.me c.take_turn-book.result c.expect-outcome.new.self Same c.expect-outcome.result.1 (spare_after p.spare c.expect-outcome.result.1) c.args.place c.args.want c.args.moment c.expect-outcome.result.0 new t a c.put_back.ensures.taken c.expect-outcome.ensures.says (held_at_all c.args.place c.self.inside.pass.seat.me.0.held (ap (λ (s : Sight). is_held_for_entry c.args.place s.held) c.self.view_is ∙ c.requires.held))
    (ap (λ (s : Sight). is_helped_entry (held_id c.args.place s.held) s.front) c.self.view_is ∙ c.requires.helper))

pub returns-clause-knows : goal.returns-clause-knows
returns-clause-knows g c = (invariant_of-self g c).1.knows
