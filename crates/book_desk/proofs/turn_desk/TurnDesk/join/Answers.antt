use Rattle.std.proofs.Common.{◌≡◌, [], ap, refl, ◌∙◌}
use Rattle.history_book.specs.Sight.{Sight}
use Rattle.book_desk.specs.declared.turn.pass.TurnPass.{TurnPass}
use Rattle.book_desk.proofs.Passes.Ends.{seated_joined}
use Rattle.book_desk.proofs.turn_desk.TurnDesk.join.Goals as goal

pub invariant_of-self : goal.invariant_of-self
invariant_of-self g c =
    let p : TurnPass = c.self.inside.pass in
    let q : TurnPass = c.other.inside.pass in
    let new : TurnPass = record p { seat = c.look.new.seat } in
    let none : p.seat.me.0.held ≡ [] = ap (λ (s : Sight). s.held) c.self.view_is ∙ c.requires.empty.held in (
      c.look.ensures.table ∙ c.merge.ensures.table ∙ c.self.invariant.0,
      seated_joined p q new c.merge.new.seat.me c.look.result c.self.invariant.1 c.other.invariant.1 none c.merge.ensures.joined c.look.ensures.looks
          c.look.ensures.away (c.look.ensures.table ∙ c.merge.ensures.table) refl refl refl,
    )

pub returns-clause-knows : goal.returns-clause-knows
returns-clause-knows g c = (invariant_of-self g c).1.knows
