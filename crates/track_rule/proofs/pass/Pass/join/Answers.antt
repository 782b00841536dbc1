use Rattle.std.proofs.Common.{◌≡◌, arith, subst, sym, ap, ◌∙◌}
use Rattle.track_rule.specs.Sights.{PassSight}
use Rattle.track_rule.specs.Passes.{HasNothing}
use Rattle.track_rule.proofs.Handed.{joins}
use Rattle.track_rule.proofs.Seats.{none_out}
use Rattle.track_rule.proofs.pass.Pass.join.Goals as goal

pub join_seat-requires : goal.join_seat-requires
join_seat-requires c =
    let p = c.self.inside in
    let q = c.other.inside in
    let h = c.self.invariant in
    let k = c.other.invariant in
    let none : HasNothing q.seat.me.0 = subst (λ (x : PassSight). HasNothing x.view) (sym c.other.view_is) c.requires.nothing in
    let same : q.seat.table_id ≡ p.seat.table_id = ap (λ (x : PassSight). x.table) c.other.view_is ∙ c.requires.same ∙ sym (ap (λ (x : PassSight). x.table) c.self.view_is) in (
      h.same,
      same ∙ h.same,
      none_out q.seat.me none k.right.carries,
      omega (arith, h.right.counts.words, ap (λ t. t.words) h.same),
      joins p.shared.now.key p.seat.id q.seat.id p.seat.me.0 q.seat.me.0 h.right.some k.right.some none,
    )
