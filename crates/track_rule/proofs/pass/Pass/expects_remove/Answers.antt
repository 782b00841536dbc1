use Rattle.std.proofs.Common.{◌≡◌, ◌∷◌, ap, sym, ◌∙◌, ℕ, List}
use Rattle.std.specs.Prelude.{is_some}
use Rattle.atomic_table.specs.Table.{Me, rest}
use Rattle.track_rule.specs.declared.slot.Slot.{Slot}
use Rattle.track_rule.specs.declared.view.View.{View}
use Rattle.track_rule.specs.ExpectTurns.{before_expects, expects_at}
use Rattle.track_rule.specs.Sights.{PassSight}
use Rattle.track_rule.proofs.ExpectSeats.{lent_is, seen_out}
use Rattle.track_rule.proofs.pass.Pass.expects_remove.Goals as goal

pub slot_mut-requires : goal.slot_mut-requires
slot_mut-requires c =
    let p = c.self.inside in
    let me = p.seat.me in
    let out = seen_out p.seat.table_id p.shared.now.table_id p.shared.now.key p.sizes me c.args.self.now c.self.invariant c.self.view_is c.requires.free c.requires.expected in
    let first : c.turn.new.self.me.1 ≡ (1, out.inside) ∷ before_expects me.1 = ap (λ (m : Me Slot View). m.1) c.turn.ensures.2 ∙ out.first in (
      c.turn.ensures.0 ∙ c.self.invariant.same,
      (out.inside, first ∙ ap (λ (d : List (ℕ × Slot)). (1, out.inside) ∷ rest d) (sym first)),
    )

pub remove_in-requires : goal.remove_in-requires
remove_in-requires c =
    let p = c.self.inside in
    let me = p.seat.me in
    let out = seen_out p.seat.table_id p.shared.now.table_id p.shared.now.key p.sizes me c.args.self.now c.self.invariant c.self.view_is c.requires.free c.requires.expected in
    let lent = lent_is me c.turn.new.self.me c.slot_mut.result.now out c.turn.ensures.2 c.slot_mut.ensures.value in
    ap is_some lent ∙ ap (λ (x : PassSight). is_some (expects_at x.slots)) c.self.view_is ∙ c.requires.table
