use Rattle.std.proofs.Common.{◌≡◌, ap, arith, subst, sym, true, ◌∙◌}
use Rattle.std.specs.Prelude.{is_some}
use Rattle.track_rule.specs.declared.view.Middle.TheVariants.{Calm}
use Rattle.track_rule.specs.ExpectTurns.{CanGiveExpected, expects_at, table_in}
use Rattle.track_rule.specs.Sights.{PassSight}
use Rattle.track_rule.proofs.ExpectSeats.{giving_front, seen_out}
use Rattle.track_rule.proofs.pass.Pass.expects_give.Goals as goal

pub store-requires : goal.store-requires
store-requires c =
    let p = c.self.inside in
    let h = c.self.invariant in
    let calm : p.seat.me.0.commit.middle ≡ Calm = subst (λ (x : PassSight). x.view.commit.middle ≡ Calm) (sym c.self.view_is) c.requires.calm in
    let there : is_some (expects_at p.seat.me.1) ≡ true = subst (λ (x : PassSight). is_some (expects_at x.slots) ≡ true) (sym c.self.view_is) c.requires.table in
    let whole : CanGiveExpected p.seat.me.0 (table_in p.seat.me.1) = subst (λ (x : PassSight). CanGiveExpected x.view (table_in x.slots)) (sym c.self.view_is) c.requires.whole in (
      c.turn.ensures.0 ∙ h.same,
      omega (arith, h.right.counts.words, ap (λ t. t.words) h.same),
      giving_front p.shared.now.key p.shared.now.table_id.slots c.turn.new.self.id p.seat.me c.turn.new.self.me h.key_is c.turn.ensures.2
          (omega (arith, h.right.counts.slots, ap (λ t. t.slots) h.same)) h.right.some calm there whole
          (seen_out p.seat.table_id p.shared.now.table_id p.shared.now.key p.sizes p.seat.me c.args.self.now h c.self.view_is c.requires.free c.requires.expected),
    )
