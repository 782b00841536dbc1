use Rattle.std.proofs.Common.{◌≡◌, ℕ, ◌<◌, ap, arith, subst, sym, ◌∙◌}
use Rattle.atomic_table.specs.Table.{step}
use mathlib.Core.Option.{none}
use Rattle.history_book.specs.declared.sizes.Sizes.{Sizes}
use Rattle.track_rule.specs.Layout.{phase_word}
use Rattle.track_rule.specs.Sights.{PassSight, sizes_of}
use Rattle.track_rule.specs.PhaseSteps.{LoadPhaseStep, LoadsPhase}
use Rattle.track_rule.proofs.Seats.{StaysAt, allowed, kept_at, same_at, stays_at}
use Rattle.std.proofs.Common.{refl}
use Rattle.track_rule.proofs.PhaseMoves.{loads_phase}
use Rattle.track_rule.proofs.Tested.{tested_below}
use Rattle.track_rule.proofs.pass.Pass.phase_load.Goals as goal

pub load-requires : goal.load-requires
load-requires c =
    let p = c.self.inside in
    let h = c.self.invariant in
    let place : ℕ = c.args.place in
    let z : Sizes = p.seat.me.0.passes.sizes in
    let slots = p.shared.now.table_id.slots in
    let word : c.phase_word-word.result ≡ phase_word z place = c.phase_word-word.ensures.word ∙ ap (λ (y : Sizes). phase_word y place) h.sizes_are in
    let below : place < z.entries = subst (λ (x : PassSight). place < (sizes_of x).entries) (sym c.self.view_is) c.requires.place in (
      h.same,
      omega (arith, h.right.counts.words, ap (λ t. t.words) h.same, word, below),
      allowed z p.shared.now.key slots p.seat.id p.seat.me (phase_word z place) c.phase_word-word.result (λ n. n)
          (λ w. LoadPhaseStep (step slots w 0 0 none) p.seat.me) h.key_is word
          (loads_phase (record {
            confirmed = c.live_records_are_confirmed.ensures;
            gone = c.gone_entries_stay_gone.ensures;
            first = c.first_events_stay.ensures;
          }) slots p.seat.id place p.seat.me.0 p.seat.me.1 below h.right.some),
    )

pub invariant_of-self : goal.invariant_of-self
invariant_of-self c =
    let p = c.self.inside in
    let h = c.self.invariant in
    let word : c.phase_word-word.result ≡ phase_word p.seat.me.0.passes.sizes c.args.place =
    c.phase_word-word.ensures.word ∙ ap (λ (y : Sizes). phase_word y c.args.place) h.sizes_are in
    let told : LoadsPhase c.args.place p.seat.me.0 c.load.result c.load.new.seat.me.0 × (c.load.new.seat.me.1 ≡ p.seat.me.1) = c.load.ensures.2 c.args.place word in
    let same : StaysAt p.seat.me.0 c.load.new.seat.me.0 = same_at p.seat.me.0 c.load.new.seat.me.0 _ told.0.view (record {
      passes = refl;
      same = refl;
      pool = λ k. record {
        held = tested_below p.seat.me.0.seen.front c.args.place c.load.result p.seat.me.0.passes.sizes.entries p.seat.me.0.places.held k.held;
        owed = k.owed;
      };
    }) in
    stays_at p.seat.table_id p.shared.now.table_id p.shared.now.key p.sizes c.load.new.seat.table_id p.seat.me c.load.new.seat.me h
    c.load.ensures.0 same told.1

pub returns-clause-kept : goal.returns-clause-kept
returns-clause-kept c =
    let p = c.self.inside in
    let h = c.self.invariant in
    let word : c.phase_word-word.result ≡ phase_word p.seat.me.0.passes.sizes c.args.place =
    c.phase_word-word.ensures.word ∙ ap (λ (y : Sizes). phase_word y c.args.place) h.sizes_are in
    let told : LoadsPhase c.args.place p.seat.me.0 c.load.result c.load.new.seat.me.0 × (c.load.new.seat.me.1 ≡ p.seat.me.1) = c.load.ensures.2 c.args.place word in
    kept_at c.args.self.now p.seat.table_id c.load.new.seat.table_id p.seat.me c.load.new.seat.me c.self.view_is c.load.ensures.0 told.1

pub returns-clause-loads : goal.returns-clause-loads
returns-clause-loads c =
    let p = c.self.inside in
    let h = c.self.invariant in
    let word : c.phase_word-word.result ≡ phase_word p.seat.me.0.passes.sizes c.args.place =
    c.phase_word-word.ensures.word ∙ ap (λ (y : Sizes). phase_word y c.args.place) h.sizes_are in
    let told : LoadsPhase c.args.place p.seat.me.0 c.load.result c.load.new.seat.me.0 × (c.load.new.seat.me.1 ≡ p.seat.me.1) = c.load.ensures.2 c.args.place word in
    subst (λ (x : PassSight). LoadsPhase c.args.place x.view c.load.result c.load.new.seat.me.0) c.self.view_is told.0
