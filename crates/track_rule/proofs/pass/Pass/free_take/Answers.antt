use Rattle.std.proofs.Common.{◌≡◌, None, ap, arith, eqb, subst, sym}
use Rattle.atomic_table.specs.Table.{Allows, step}
use mathlib.Core.Option.{none}
use prog.Atomic.{either}
use Rattle.history_book.specs.declared.sizes.Sizes.{Sizes}
use Rattle.track_rule.specs.Rule.{RuleHolds}
use Rattle.track_rule.specs.Sights.{PassSight}
use Rattle.track_rule.specs.Steps.{TakeStep}
use Rattle.track_rule.proofs.Turns.{taking}
use Rattle.track_rule.proofs.pass.Pass.free_take.Goals as goal

pub compare_exchange-requires : goal.compare_exchange-requires
compare_exchange-requires c =
    let p = c.self.inside in
    let h = c.self.invariant in
    let free : p.seat.me.0.free ≡ None = subst (λ (x : PassSight). x.view.free ≡ None) (sym c.self.view_is) c.requires.free in
    let slots = p.shared.now.table_id.slots in (
      h.same,
      omega (arith, h.right.counts.words, ap (λ t. t.words) h.same),
      subst (λ (z : Sizes). Allows (RuleHolds z) slots p.seat.id p.seat.me 1 (λ n. either (eqb n 0) 1 n) (TakeStep (step slots 1 0 1 none) p.seat.me))
          h.key_is (taking slots p.seat.id p.seat.me.0 p.seat.me.1 h.right.some free),
    )
