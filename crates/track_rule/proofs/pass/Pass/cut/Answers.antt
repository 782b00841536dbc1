use Rattle.std.proofs.Common.{◌<◌, arith, subst, sym, ap}
use Rattle.track_rule.specs.Sights.{PassSight}
use Rattle.track_rule.proofs.Handed.{splits}
use Rattle.track_rule.proofs.pass.Pass.cut.Goals as goal

pub split_seat-seat-requires : goal.split_seat-seat-requires
split_seat-seat-requires g c =
    let p = c.self.inside in
    let h = c.self.invariant in
    let few : g.J.Counted.shares < p.seat.me.0.passes.shares = subst (λ (x : PassSight). g.J.Counted.shares < x.view.passes.shares) (sym c.self.view_is) c.requires.rest in (
      h.same,
      omega (arith, h.right.counts.words, ap (λ t. t.words) h.same),
      splits p.shared.now.key p.seat.id g.J.Counted.shares p.seat.me.0 c.requires.some few,
    )
