use Rattle.std.proofs.Common.{◌≡◌, ◌∷◌, None, subst, sym}
use Rattle.atomic_table.specs.Table.{rest}
use Rattle.track_rule.specs.Records.{has_hand}
use Rattle.track_rule.specs.Sights.{PassSight}
use Rattle.track_rule.proofs.Seats.{hand_out}
use Rattle.track_rule.proofs.pass.Pass.record_load.Goals as goal

pub slot_mut-requires : goal.slot_mut-requires
slot_mut-requires c =
    let p = c.self.inside in
    let h = c.self.invariant in
    let free : p.seat.me.0.free ≡ None = subst (λ (x : PassSight). x.view.free ≡ None) (sym c.self.view_is) c.requires.free in
    let turn : has_hand c.args.place p.seat.me.0 ≡ 1 = subst (λ (x : PassSight). has_hand c.args.place x.view ≡ 1) (sym c.self.view_is) c.requires.turn in
    let out = hand_out c.args.place p.seat.me free turn h.right.carries h.right.suit in (h.same, (out.0, subst (λ n. p.seat.me.1 ≡ (n, out.0) ∷ rest p.seat.me.1) (sym c.record_slot.ensures) out.1))
