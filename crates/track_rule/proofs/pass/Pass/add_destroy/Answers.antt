use Rattle.std.proofs.Common.{◌+◌, ◌%◌, ◌^◌, ap, arith, subst, sym}
use Rattle.atomic_table.specs.Table.{Allows, step}
use mathlib.Core.Option.{none}
use Rattle.history_book.specs.declared.sizes.Sizes.{Sizes}
use Rattle.track_rule.specs.Rule.{RuleHolds}
use Rattle.track_rule.specs.Sights.{PassSight}
use Rattle.track_rule.specs.KillSteps.{CanDestroy, HasDestroyed, DestroyStep, destroy_in}
use Rattle.track_rule.proofs.Seats.{kept_at, stays_at}
use Rattle.track_rule.proofs.Destroying.{adding_destroy, has_destroyed, one_less, stays_destroyed}
use Rattle.track_rule.proofs.pass.Pass.add_destroy.Goals as goal

pub fetch_add-word-requires : goal.fetch_add-word-requires
fetch_add-word-requires g c =
    let p = c.self.inside in
    let h = c.self.invariant in
    let slots = p.shared.now.table_id.slots in
    let can : CanDestroy (destroy_in g.J.Added.event) p.seat.me.0 = subst (λ (x : PassSight). CanDestroy (destroy_in g.J.Added.event) x.view) (sym c.self.view_is) c.requires.can in (
      h.same,
      omega (arith, h.right.counts.words, ap (λ t. t.words) h.same),
      subst (λ (z : Sizes). Allows (RuleHolds z) slots p.seat.id p.seat.me 0 (λ n. (n + one_less) % 2 ^ 64)
          (DestroyStep (destroy_in g.J.Added.event) (step slots 0 one_less 0 none) p.seat.me))
          h.key_is (adding_destroy slots p.seat.id p.seat.me.0 p.seat.me.1 (destroy_in g.J.Added.event) h.right.some can c.states_follow.ensures c.legal_histories_go_on.ensures
          c.live_records_are_confirmed.ensures c.masters_help_in_their_zone.ensures),
    )

pub invariant_of-self : goal.invariant_of-self
invariant_of-self g c =
    let p = c.self.inside in
    let h = c.self.invariant in
    let can : CanDestroy (destroy_in g.J.Added.event) p.seat.me.0 = subst (λ (x : PassSight). CanDestroy (destroy_in g.J.Added.event) x.view) (sym c.self.view_is) c.requires.can in
    let told = stays_destroyed (destroy_in g.J.Added.event) _ p.seat.me c.fetch_add-word.new.seat.me c.fetch_add-word.result can c.fetch_add-word.ensures.2 in
    stays_at p.seat.table_id p.shared.now.table_id p.shared.now.key p.sizes c.fetch_add-word.new.seat.table_id p.seat.me c.fetch_add-word.new.seat.me h
    c.fetch_add-word.ensures.0 told.0 told.1

pub returns-clause-adds : goal.returns-clause-adds
returns-clause-adds g c =
    let p = c.self.inside in
    let can : CanDestroy (destroy_in g.J.Added.event) p.seat.me.0 = subst (λ (x : PassSight). CanDestroy (destroy_in g.J.Added.event) x.view) (sym c.self.view_is) c.requires.can in
    subst (λ (x : PassSight). HasDestroyed (destroy_in g.J.Added.event) x.view c.events_in.result c.fetch_add-word.new.seat.me.0) c.self.view_is
    (has_destroyed (destroy_in g.J.Added.event) _ p.seat.me c.fetch_add-word.new.seat.me c.fetch_add-word.result c.events_in.result can c.fetch_add-word.ensures.2 c.events_in.ensures)

pub returns-clause-kept : goal.returns-clause-kept
returns-clause-kept g c =
    let p = c.self.inside in
    let can : CanDestroy (destroy_in g.J.Added.event) p.seat.me.0 = subst (λ (x : PassSight). CanDestroy (destroy_in g.J.Added.event) x.view) (sym c.self.view_is) c.requires.can in
    let told = stays_destroyed (destroy_in g.J.Added.event) _ p.seat.me c.fetch_add-word.new.seat.me c.fetch_add-word.result can c.fetch_add-word.ensures.2 in
    kept_at c.args.self.now p.seat.table_id c.fetch_add-word.new.seat.table_id p.seat.me c.fetch_add-word.new.seat.me c.self.view_is c.fetch_add-word.ensures.0 told.1
