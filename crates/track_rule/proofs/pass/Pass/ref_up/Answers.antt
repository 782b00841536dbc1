use Rattle.std.proofs.Common.{◌≡◌, ℕ, ◌+◌, ◌<◌, ◌≤◌, false, length, ap, arith, eqb, subst, sym, ◌∙◌}
use Rattle.std.specs.Prelude.{◌==◌}
use Rattle.atomic_table.specs.Table.{step}
use mathlib.Core.Option.{none}
use prog.Atomic.{either}
use Rattle.history_book.specs.declared.sizes.Sizes.{Sizes}
use Rattle.track_rule.specs.Layout.{refs_word}
use Rattle.track_rule.specs.Sights.{PassSight, sizes_of}
use Rattle.track_rule.specs.Steps.{RaiseStep, RaisesRefs, is_second}
use Rattle.track_rule.proofs.Seats.{StaysAt, allowed, kept_at, raised_at, stays_at}
use Rattle.track_rule.proofs.Refs.{raising}
use Rattle.track_rule.proofs.pass.Pass.ref_up.Goals as goal

pub compare_exchange-found-requires : goal.compare_exchange-found-requires
compare_exchange-found-requires c =
    let p = c.self.inside in
    let h = c.self.invariant in
    let place : ℕ = c.args.place in
    let z : Sizes = p.seat.me.0.passes.sizes in
    let slots = p.shared.now.table_id.slots in
    let word : c.refs_word-word.result ≡ refs_word z place = c.refs_word-word.ensures.word ∙ ap (λ (y : Sizes). refs_word y place) h.sizes_are in
    let below : place < z.entries = subst (λ (x : PassSight). place < (sizes_of x).entries) (sym c.self.view_is) c.requires.place in
    let room : is_second place p.seat.me.0 ≡ false → length p.seat.me.0.places.held + length p.seat.me.0.places.owed ≤ 3 =
    subst (λ (x : PassSight). is_second place x.view ≡ false → length x.view.places.held + length x.view.places.owed ≤ 3) (sym c.self.view_is) c.requires.few in (
      h.same,
      omega (arith, h.right.counts.words, ap (λ t. t.words) h.same, word, below),
      allowed z p.shared.now.key slots p.seat.id p.seat.me (refs_word z place) c.refs_word-word.result (λ n. either (eqb n c.args.seen) (c.args.seen + 1) n)
          (λ w. RaiseStep (step slots w c.args.seen (c.args.seen + 1) none) p.seat.me) h.key_is word
          (raising slots p.seat.id place c.args.seen p.seat.me.0 p.seat.me.1 below h.right.some c.requires.some room),
    )

pub invariant_of-self : goal.invariant_of-self
invariant_of-self c =
    let p = c.self.inside in
    let h = c.self.invariant in
    let word : c.refs_word-word.result ≡ refs_word p.seat.me.0.passes.sizes c.args.place =
    c.refs_word-word.ensures.word ∙ ap (λ (y : Sizes). refs_word y c.args.place) h.sizes_are in
    let told : RaisesRefs (c.compare_exchange-found.result == c.args.seen) c.args.place c.args.seen p.seat.me.0 c.compare_exchange-found.result c.compare_exchange-found.new.seat.me.0 × (c.compare_exchange-found.new.seat.me.1 ≡ p.seat.me.1) = c.compare_exchange-found.ensures.2 c.args.place word in
    let same : StaysAt p.seat.me.0 c.compare_exchange-found.new.seat.me.0 = raised_at (c.compare_exchange-found.result == c.args.seen) c.args.place c.args.seen c.compare_exchange-found.result p.seat.me.0 c.compare_exchange-found.new.seat.me.0 (subst (λ (x : PassSight). c.args.place < (sizes_of x).entries) (sym c.self.view_is) c.requires.place) told.0 in
    stays_at p.seat.table_id p.shared.now.table_id p.shared.now.key p.sizes c.compare_exchange-found.new.seat.table_id p.seat.me c.compare_exchange-found.new.seat.me h
    c.compare_exchange-found.ensures.0 same told.1

pub returns-clause-kept : goal.returns-clause-kept
returns-clause-kept c =
    let p = c.self.inside in
    let h = c.self.invariant in
    let word : c.refs_word-word.result ≡ refs_word p.seat.me.0.passes.sizes c.args.place =
    c.refs_word-word.ensures.word ∙ ap (λ (y : Sizes). refs_word y c.args.place) h.sizes_are in
    let told : RaisesRefs (c.compare_exchange-found.result == c.args.seen) c.args.place c.args.seen p.seat.me.0 c.compare_exchange-found.result c.compare_exchange-found.new.seat.me.0 × (c.compare_exchange-found.new.seat.me.1 ≡ p.seat.me.1) = c.compare_exchange-found.ensures.2 c.args.place word in
    kept_at c.args.self.now p.seat.table_id c.compare_exchange-found.new.seat.table_id p.seat.me c.compare_exchange-found.new.seat.me c.self.view_is c.compare_exchange-found.ensures.0 told.1
