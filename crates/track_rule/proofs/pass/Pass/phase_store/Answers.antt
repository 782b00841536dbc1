use Rattle.std.proofs.Common.{◌≡◌, ℕ, ◌<◌, true, ap, arith, subst, sym, ◌∙◌, refl}
use Rattle.atomic_table.specs.Table.{step}
use mathlib.Core.Option.{none}
use Rattle.history_book.specs.declared.sizes.Sizes.{Sizes}
use Rattle.track_rule.specs.declared.view.View.{View}
use Rattle.track_rule.specs.Layout.{phase_word}
use Rattle.track_rule.specs.Sights.{PassSight}
use Rattle.track_rule.specs.PhaseSteps.{StorePhaseStep, may_store, phase_stored}
use Rattle.track_rule.proofs.Seats.{StaysAt, allowed, kept_at, same_at, stays_at}
use Rattle.track_rule.proofs.PhaseMoves.{may_below, stores_phase}
use Rattle.track_rule.proofs.pass.Pass.phase_store.Goals as goal

pub store-requires : goal.store-requires
store-requires c =
    let p = c.self.inside in
    let h = c.self.invariant in
    let place : ℕ = c.args.place in
    let z : Sizes = p.seat.me.0.passes.sizes in
    let slots = p.shared.now.table_id.slots in
    let word : c.phase_word-word.result ≡ phase_word z place = c.phase_word-word.ensures.word ∙ ap (λ (y : Sizes). phase_word y place) h.sizes_are in
    let may : may_store place c.args.to p.seat.me.0 ≡ true = subst (λ (x : PassSight). may_store place c.args.to x.view ≡ true) (sym c.self.view_is) c.requires in
    let below : place < z.entries = may_below z.entries place c.args.to p.seat.me.0 h.right.pool may in (
      h.same,
      omega (arith, h.right.counts.words, ap (λ t. t.words) h.same, word, below),
      allowed z p.shared.now.key slots p.seat.id p.seat.me (phase_word z place) c.phase_word-word.result (λ _. c.args.to)
          (λ w _. StorePhaseStep (step slots w c.args.to 0 none) p.seat.me c.args.to) h.key_is word
          (stores_phase slots p.seat.id place c.args.to p.seat.me.0 p.seat.me.1 below h.right.some may),
    )

pub phase_word-word-requires-clause-place : goal.phase_word-word-requires-clause-place
phase_word-word-requires-clause-place c =
    let p = c.self.inside in
    let h = c.self.invariant in
    let may : may_store c.args.place c.args.to p.seat.me.0 ≡ true =
    subst (λ (x : PassSight). may_store c.args.place c.args.to x.view ≡ true) (sym c.self.view_is) c.requires in
    subst (λ (z : Sizes). c.args.place < z.entries) (sym h.sizes_are) (may_below p.seat.me.0.passes.sizes.entries c.args.place c.args.to p.seat.me.0 h.right.pool may)

pub invariant_of-self : goal.invariant_of-self
invariant_of-self c =
    let p = c.self.inside in
    let h = c.self.invariant in
    let word : c.phase_word-word.result ≡ phase_word p.seat.me.0.passes.sizes c.args.place =
    c.phase_word-word.ensures.word ∙ ap (λ (y : Sizes). phase_word y c.args.place) h.sizes_are in
    let told : (c.store.new.seat.me.0 ≡ phase_stored c.args.place c.args.to p.seat.me.0) × (c.store.new.seat.me.1 ≡ p.seat.me.1) = c.store.ensures.2 c.args.place word in
    let same : StaysAt p.seat.me.0 c.store.new.seat.me.0 = same_at p.seat.me.0 c.store.new.seat.me.0 _ told.0 (record { passes = refl; same = refl; pool = λ k. record { held = k.held; owed = k.owed } }) in
    stays_at p.seat.table_id p.shared.now.table_id p.shared.now.key p.sizes c.store.new.seat.table_id p.seat.me c.store.new.seat.me h
    c.store.ensures.0 same told.1

pub returns : goal.returns
returns c =
    let p = c.self.inside in
    let h = c.self.invariant in
    let word : c.phase_word-word.result ≡ phase_word p.seat.me.0.passes.sizes c.args.place =
    c.phase_word-word.ensures.word ∙ ap (λ (y : Sizes). phase_word y c.args.place) h.sizes_are in
    let told : (c.store.new.seat.me.0 ≡ phase_stored c.args.place c.args.to p.seat.me.0) × (c.store.new.seat.me.1 ≡ p.seat.me.1) = c.store.ensures.2 c.args.place word in
    kept_at c.args.self.now p.seat.table_id c.store.new.seat.table_id p.seat.me c.store.new.seat.me c.self.view_is c.store.ensures.0 told.1
    ∙ ap (λ (x : View). record c.args.self.now { view = x }) (told.0 ∙ ap (λ (x : PassSight). phase_stored c.args.place c.args.to x.view) c.self.view_is)
