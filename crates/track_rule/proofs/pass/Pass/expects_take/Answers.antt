use Rattle.std.proofs.Common.{rules, ◌≡◌, None, ap, arith, eqb, subst, sym, ◌∙◌}
use Rattle.atomic_table.specs.Table.{Allows, Me, step, turned}
use mathlib.Core.Option.{none}
use prog.Atomic.{either}
use Rattle.history_book.specs.declared.sizes.Sizes.{Sizes}
use Rattle.track_rule.specs.declared.slot.Slot.{Slot}
use Rattle.track_rule.specs.declared.view.View.{View}
use Rattle.track_rule.specs.ExpectTurns.{TakeExpectsStep, TookExpected}
use Rattle.track_rule.specs.Rule.{RuleHolds}
use Rattle.track_rule.specs.Sights.{PassSight}
use Rattle.track_rule.proofs.ExpectSeats.{took_at}
use Rattle.track_rule.proofs.ExpectTurns.{taking_expected}
use Rattle.track_rule.proofs.pass.Pass.expects_take.Goals as goal

pub compare_exchange-found-requires : goal.compare_exchange-found-requires
compare_exchange-found-requires c =
    let p = c.self.inside in
    let h = c.self.invariant in
    let expected : p.seat.me.0.expected ≡ None = subst (λ (x : PassSight). x.view.expected ≡ None) (sym c.self.view_is) c.requires.expected in
    let slots = p.shared.now.table_id.slots in (
      h.same,
      omega (arith, h.right.counts.words, ap (λ t. t.words) h.same),
      subst (λ (z : Sizes). Allows (RuleHolds z) slots p.seat.id p.seat.me 2 (λ n. either (eqb n 0) 1 n) (TakeExpectsStep (step slots 2 0 1 none) p.seat.me))
          h.key_is (taking_expected slots p.seat.id p.seat.me.0 p.seat.me.1 h.right.some expected),
    )

pub invariant_of-self-2 : goal.invariant_of-self-2
invariant_of-self-2 c =
    let p = c.self.inside in
    let found = c.compare_exchange-found.new.seat in
    let took : TookExpected p.seat.me.0 p.seat.me.1 found.me.0 (turned found.me.1) = search rules in
    took_at p.seat.table_id p.shared.now.table_id p.shared.now.key p.sizes c.turn.new.self.table_id p.seat.me c.turn.new.self.me c.self.invariant
    (c.turn.ensures.0 ∙ c.compare_exchange-found.ensures.0) (subst (λ (x : PassSight). x.view.free ≡ None) (sym c.self.view_is) c.requires.free)
    (subst (λ (x : PassSight). x.view.expected ≡ None) (sym c.self.view_is) c.requires.expected)
    (subst (λ (m : Me Slot View). TookExpected p.seat.me.0 p.seat.me.1 m.0 m.1) (sym c.turn.ensures.2) took)
