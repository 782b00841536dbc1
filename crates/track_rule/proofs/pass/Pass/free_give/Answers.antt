use Rattle.std.proofs.Common.{◌≡◌, true, ap, rules, arith, subst, sym}
use Rattle.std.specs.Prelude.{is_some}
use Rattle.atomic_table.specs.Table.{Allows, step}
use mathlib.Core.Option.{none}
use Rattle.history_book.specs.declared.sizes.Sizes.{Sizes}
use Rattle.track_rule.specs.declared.view.View.{View}
use Rattle.track_rule.specs.Rule.{RuleHolds}
use Rattle.track_rule.specs.Sights.{AreOfPool, PassSight}
use Rattle.track_rule.specs.Slots.{free_at, list_in}
use Rattle.track_rule.specs.Steps.{CanGive, GiveStep, gave_free}
use Rattle.track_rule.proofs.Seats.{list_out, pool_listed}
use Rattle.track_rule.proofs.Turns.{giving_back}
use Rattle.track_rule.proofs.pass.Pass.free_give.Goals as goal

pub store-requires : goal.store-requires
store-requires c =
    let p = c.self.inside in
    let h = c.self.invariant in
    let slots = p.shared.now.table_id.slots in
    let turn : is_some p.seat.me.0.free ≡ true = subst (λ (x : PassSight). is_some x.view.free ≡ true) (sym c.self.view_is) c.requires.turn in
    let there : is_some (free_at p.seat.me.1) ≡ true = subst (λ (x : PassSight). is_some (free_at x.slots) ≡ true) (sym c.self.view_is) c.requires.list in
    let whole : CanGive p.seat.me.0 (list_in p.seat.me.1) = subst (λ (x : PassSight). CanGive x.view (list_in x.slots)) (sym c.self.view_is) c.requires.whole in (
      h.same,
      omega (arith, h.right.counts.words, ap (λ t. t.words) h.same),
      subst (λ (z : Sizes). Allows (RuleHolds z) slots p.seat.id p.seat.me 1 (λ _. 0) (λ _. GiveStep (step slots 1 0 0 none) p.seat.me 0))
          h.key_is (giving_back slots p.seat.id p.seat.me (omega (arith, h.right.counts.slots, ap (λ t. t.slots) h.same)) h.right.some turn
          (list_out p.seat.me turn there h.right.carries h.right.suit) whole),
    )

pub invariant_of-self : goal.invariant_of-self
invariant_of-self c =
    let p = c.self.inside in
    let h = c.self.invariant in
    let told : c.store.new.seat.me.0 ≡ gave_free (list_in p.seat.me.1).items p.seat.me.0 = c.store.ensures.2.0 in
    record {
      same = search rules;
      key_is = search rules;
      sizes_are = search rules;
      right = record {
        counts = search rules;
        limits = search rules;
        some = search rules;
        carries = search rules;
        pool = subst (λ (x : View). AreOfPool x.passes.sizes.entries x.places) (sym told) (record {
          held = h.right.pool.held;
          owed = pool_listed p.seat.me.0.passes.sizes.entries (list_in p.seat.me.1).items p.seat.me.0.places.owed h.right.pool.owed;
        });
        suit = search rules;
      };
    }
