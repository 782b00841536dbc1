use Rattle.std.proofs.Common.{◌≡◌, ◌∷◌, ap, sym, subst, ◌∙◌, ℕ, List}
use Rattle.atomic_table.specs.Table.{Me, rest}
use Rattle.track_rule.specs.declared.slot.Slot.{Slot}
use Rattle.track_rule.specs.declared.view.View.{View}
use Rattle.track_rule.specs.ExpectTurns.{before_expects}
use Rattle.track_rule.specs.Sights.{IsAt}
use Rattle.track_rule.proofs.ExpectSeats.{looked_between, seen_out}
use Rattle.track_rule.proofs.pass.Pass.expects_matching.Goals as goal

pub slot_mut-requires : goal.slot_mut-requires
slot_mut-requires c =
    let p = c.self.inside in
    let me = p.seat.me in
    let out = seen_out p.seat.table_id p.shared.now.table_id p.shared.now.key p.sizes me c.args.self.now c.self.invariant c.self.view_is c.requires.free c.requires.expected in
    let first : c.turn.new.self.me.1 ≡ (1, out.inside) ∷ before_expects me.1 = ap (λ (m : Me Slot View). m.1) c.turn.ensures.2 ∙ out.first in (
      c.turn.ensures.0 ∙ c.self.invariant.same,
      (out.inside, first ∙ ap (λ (d : List (ℕ × Slot)). (1, out.inside) ∷ rest d) (sym first)),
    )

pub invariant_of-self : goal.invariant_of-self
invariant_of-self c =
    let p = c.self.inside in
    let me = p.seat.me in
    let out = seen_out p.seat.table_id p.shared.now.table_id p.shared.now.key p.sizes me c.args.self.now c.self.invariant c.self.view_is c.requires.free c.requires.expected in
    subst (IsAt p.shared.now.table_id p.shared.now.key p.sizes)
    (sym (looked_between p.seat.table_id c.turn-2.new.self.table_id me c.turn.new.self.me c.turn-2.new.self.me c.slot_mut.result.now out (c.turn-2.ensures.0 ∙ c.turn.ensures.0)
    c.turn.ensures.2 c.slot_mut.ensures.value c.turn-2.ensures.2)) c.self.invariant

pub returns-clause-same : goal.returns-clause-same
returns-clause-same c =
    let p = c.self.inside in
    let me = p.seat.me in
    let out = seen_out p.seat.table_id p.shared.now.table_id p.shared.now.key p.sizes me c.args.self.now c.self.invariant c.self.view_is c.requires.free c.requires.expected in
    looked_between p.seat.table_id c.turn-2.new.self.table_id me c.turn.new.self.me c.turn-2.new.self.me c.slot_mut.result.now out (c.turn-2.ensures.0 ∙ c.turn.ensures.0)
    c.turn.ensures.2 c.slot_mut.ensures.value c.turn-2.ensures.2 ∙ c.self.view_is
