use Rattle.std.proofs.Common.{◌≡◌, true, subst, sym}
use Rattle.std.specs.Prelude.{is_some}
use Rattle.track_rule.specs.Sights.{PassSight}
use Rattle.track_rule.proofs.Seats.{free_out}
use Rattle.track_rule.proofs.pass.Pass.free_pop.Goals as goal

pub slot_mut-requires : goal.slot_mut-requires
slot_mut-requires c =
    let p = c.self.inside in
    let h = c.self.invariant in
    let turn : is_some p.seat.me.0.free ≡ true = subst (λ (x : PassSight). is_some x.view.free ≡ true) (sym c.self.view_is) c.requires.turn in
    let out = free_out p.seat.me turn h.right.carries h.right.suit in (h.same, (out.0, out.1))
