use Rattle.std.proofs.Common.{◌≤◌, subst, ℕ, ap, refl, sym, ◌∙◌}
use Rattle.history_book.specs.Sight.{Sight}
use Rattle.history_book.specs.Held.{held_id, is_at, is_held_for_entry}
use Rattle.book_desk.specs.declared.turn.change.PlaceChange.TheVariants.{Same}
use Rattle.history_book.specs.Entry.{suits_entry}
use Rattle.book_desk.proofs.Passes.Among.{any_among, held_id_among}
use Rattle.book_desk.proofs.Passes.Turned.{suits_on, held_at_all}
use Rattle.std.specs.Prelude.{◌&&◌, is_some}
use Rattle.book_desk.specs.declared.book.Book.{Book}
use Rattle.book_desk.specs.Internal.Book.{spare_after}
use Rattle.book_desk.specs.declared.turn.pass.TurnPass.{TurnPass}
use Rattle.book_desk.proofs.Passes.Turned.{IsAfter, IsTurn, room_for, some_room, seated_then, turn_ends, turn_few}
use Rattle.book_desk.proofs.Passes.Turns.{kill_told, kill_turn}
use Rattle.book_desk.proofs.turn_desk.TurnDeskDesk.kill.Goals as goal

pub kill-outcome-requires-clause-right : goal.kill-outcome-requires-clause-right
kill-outcome-requires-clause-right g c =
    let v = c.self.inside.pass.seat.me.0 in
    let took = c.take_turn-book.ensures.turn in
    let b : Book = c.take_turn-book.result in (
      took.0,
      took.1.book,
      ap (λ (n : ℕ). suits_entry c.args.why n took.0) (sym (held_id_among c.args.place v.held b.holds.items took.1.book.references.agreed took.1.held (held_at_all c.args.place c.self.inside.pass.seat.me.0.held (ap (λ (s : Sight). is_held_for_entry c.args.place s.held) c.self.view_is ∙ c.requires.held))))
          ∙ suits_on c.args.why took.0 v.front (held_id c.args.place v.held) took.1.all.front
          (ap (λ (s : Sight). suits_entry c.args.why (held_id c.args.place s.held) s.front) c.self.view_is ∙ c.requires.protocol),
    )

pub kill-outcome-requires-clause-held : goal.kill-outcome-requires-clause-held
kill-outcome-requires-clause-held g c =
    any_among (λ h. is_at c.args.place h && is_some h.id) c.self.inside.pass.seat.me.0.held c.take_turn-book.result.holds.items c.take_turn-book.ensures.turn.1.held (ap (λ (s : Sight). is_held_for_entry c.args.place s.held) c.self.view_is ∙ c.requires.held)

pub put_back-requires-clause-some : goal.put_back-requires-clause-some
put_back-requires-clause-some g c = some_room c.self.inside.pass.spare c.kill-outcome.result.1 (subst (λ (s : Sight). 1 ≤ s.spare) (sym c.self.view_is) c.requires.spare)

pub put_back-requires-clause-ends : goal.put_back-requires-clause-ends
put_back-requires-clause-ends g c =
    let p : TurnPass = c.self.inside.pass in
    let t : IsTurn p c.take_turn-book.new.seat.me c.take_turn-book.result c.kill-outcome.new.self Same c.kill-outcome.result.1 (spare_after p.spare c.kill-outcome.result.1) =
    kill_turn p c.take_turn-book.new.seat.me c.take_turn-book.result c.kill-outcome.new.self c.kill-outcome.result.1 (spare_after p.spare c.kill-outcome.result.1) c.args.place c.args.why c.kill-outcome.result.0 c.self.invariant.1 c.take_turn-book.ensures.turn c.kill-outcome.ensures.stays c.kill-outcome.ensures.sizes c.kill-outcome.ensures.says (room_for p.spare c.kill-outcome.result.1 (subst (λ (s : Sight). 1 ≤ s.spare) (sym c.self.view_is) c.requires.spare)) in
    turn_ends p c.take_turn-book.new.seat.me c.take_turn-book.result c.kill-outcome.new.self Same c.kill-outcome.result.1 (spare_after p.spare c.kill-outcome.result.1) t Same refl

pub put_back-requires-clause-few : goal.put_back-requires-clause-few
put_back-requires-clause-few g c =
    let p : TurnPass = c.self.inside.pass in
    let t : IsTurn p c.take_turn-book.new.seat.me c.take_turn-book.result c.kill-outcome.new.self Same c.kill-outcome.result.1 (spare_after p.spare c.kill-outcome.result.1) =
    kill_turn p c.take_turn-book.new.seat.me c.take_turn-book.result c.kill-outcome.new.self c.kill-outcome.result.1 (spare_after p.spare c.kill-outcome.result.1) c.args.place c.args.why c.kill-outcome.result.0 c.self.invariant.1 c.take_turn-book.ensures.turn c.kill-outcome.ensures.stays c.kill-outcome.ensures.sizes c.kill-outcome.ensures.says (room_for p.spare c.kill-outcome.result.1 (subst (λ (s : Sight). 1 ≤ s.spare) (sym c.self.view_is) c.requires.spare)) in
    turn_few p c.take_turn-book.new.seat.me c.take_turn-book.result c.kill-outcome.new.self Same c.kill-outcome.result.1 (spare_after p.spare c.kill-outcome.result.1) t

pub invariant_of-self : goal.invariant_of-self
invariant_of-self g c =
    let p : TurnPass = c.self.inside.pass in
    let t : IsTurn p c.take_turn-book.new.seat.me c.take_turn-book.result c.kill-outcome.new.self Same c.kill-outcome.result.1 (spare_after p.spare c.kill-outcome.result.1) =
    kill_turn p c.take_turn-book.new.seat.me c.take_turn-book.result c.kill-outcome.new.self c.kill-outcome.result.1 (spare_after p.spare c.kill-outcome.result.1) c.args.place c.args.why c.kill-outcome.result.0 c.self.invariant.1 c.take_turn-book.ensures.turn c.kill-outcome.ensures.stays c.kill-outcome.ensures.sizes c.kill-outcome.ensures.says (room_for p.spare c.kill-outcome.result.1 (subst (λ (s : Sight). 1 ≤ s.spare) (sym c.self.view_is) c.requires.spare)) in
    let new : TurnPass = c.put_back.new.self in
    let a : IsAfter p c.take_turn-book.new.seat.me Same Same c.kill-outcome.result.1 (spare_after p.spare c.kill-outcome.result.1) new =
    record { change = refl; table = c.put_back.ensures.table ∙ c.take_turn-book.ensures.table; ended = c.put_back.ensures.ended; sizes = c.put_back.ensures.sizes; notes = c.put_back.ensures.items; room = c.put_back.ensures.room; spare = c.put_back.ensures.spare } in
    (c.put_back.ensures.table ∙ c.take_turn-book.ensures.table ∙ c.self.invariant.0, seated_then p c.take_turn-book.new.seat.me c.take_turn-book.result c.kill-outcome.new.self Same Same c.kill-outcome.result.1 (spare_after p.spare c.kill-outcome.result.1) new t a)

pub returns-clause-says : goal.returns-clause-says
returns-clause-says g c =
    let p : TurnPass = c.self.inside.pass in
    let t : IsTurn p c.take_turn-book.new.seat.me c.take_turn-book.result c.kill-outcome.new.self Same c.kill-outcome.result.1 (spare_after p.spare c.kill-outcome.result.1) =
    kill_turn p c.take_turn-book.new.seat.me c.take_turn-book.result c.kill-outcome.new.self c.kill-outcome.result.1 (spare_after p.spare c.kill-outcome.result.1) c.args.place c.args.why c.kill-outcome.result.0 c.self.invariant.1 c.take_turn-book.ensures.turn c.kill-outcome.ensures.stays c.kill-outcome.ensures.sizes c.kill-outcome.ensures.says (room_for p.spare c.kill-outcome.result.1 (subst (λ (s : Sight). 1 ≤ s.spare) (sym c.self.view_is) c.requires.spare)) in
    let new : TurnPass = c.put_back.new.self in
    let a : IsAfter p c.take_turn-book.new.seat.me Same Same c.kill-outcome.result.1 (spare_after p.spare c.kill-outcome.result.1) new =
    record { change = refl; table = c.put_back.ensures.table ∙ c.take_turn-book.ensures.table; ended = c.put_back.ensures.ended; sizes = c.put_back.ensures.sizes; notes = c.put_back.ensures.items; room = c.put_back.ensures.room; spare = c.put_back.ensures.spare } in
    rw (← c.self.view_is) (kill_told p c.take_turn-book.new.seat.me c.take_turn-book.result c.kill-outcome.new.self Same c.kill-outcome.result.1 (spare_after p.spare c.kill-outcome.result.1) c.args.place c.args.why c.kill-outcome.result.0 new t a c.put_back.ensures.taken c.kill-outcome.ensures.says (held_at_all c.args.place c.self.inside.pass.seat.me.0.held (ap (λ (s : Sight). is_held_for_entry c.args.place s.held) c.self.view_is ∙ c.requires.held)))

pub returns-clause-knows : goal.returns-clause-knows
returns-clause-knows g c = (invariant_of-self g c).1.knows
