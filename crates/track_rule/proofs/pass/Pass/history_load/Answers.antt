use Rattle.std.proofs.Common.{ap, arith, subst}
use Rattle.atomic_table.specs.Table.{Allows, step}
use mathlib.Core.Option.{none}
use Rattle.history_book.specs.declared.sizes.Sizes.{Sizes}
use Rattle.track_rule.specs.Rule.{RuleHolds}
use Rattle.track_rule.specs.Steps.{LookStep}
use Rattle.track_rule.proofs.Loads.{looks}
use Rattle.track_rule.proofs.pass.Pass.history_load.Goals as goal

pub load-requires : goal.load-requires
load-requires c =
    let p = c.self.inside in
    let h = c.self.invariant in
    let slots = p.shared.now.table_id.slots in (
      h.same,
      omega (arith, h.right.counts.words, ap (λ t. t.words) h.same),
      subst (λ (z : Sizes). Allows (RuleHolds z) slots p.seat.id p.seat.me 0 (λ n. n) (LookStep (step slots 0 0 0 none) p.seat.me))
          h.key_is (looks c.live_records_are_confirmed.ensures slots p.seat.id p.seat.me.0 p.seat.me.1 h.right.some),
    )
