use Rattle.std.proofs.Common.{◌≡◌, ℕ, ◌+◌, ◌<◌, ◌≤◌, true, length, ap, arith, subst, sym, ◌∙◌}
use Rattle.atomic_table.specs.Table.{step}
use mathlib.Core.Option.{none}
use Rattle.history_book.specs.declared.sizes.Sizes.{Sizes}
use Rattle.track_rule.specs.Free.{is_among, known_free}
use Rattle.track_rule.specs.Layout.{refs_word}
use Rattle.track_rule.specs.Sights.{PassSight, sizes_of}
use Rattle.track_rule.specs.Steps.{OpenStep, Opens}
use Rattle.track_rule.proofs.Seats.{StaysAt, allowed, kept_at, opened_at, stays_at}
use Rattle.track_rule.proofs.Refs.{opening}
use Rattle.track_rule.proofs.pass.Pass.ref_open.Goals as goal

pub store-requires : goal.store-requires
store-requires c =
    let p = c.self.inside in
    let h = c.self.invariant in
    let place : ℕ = c.args.place in
    let z : Sizes = p.seat.me.0.passes.sizes in
    let slots = p.shared.now.table_id.slots in
    let word : c.refs_word-word.result ≡ refs_word z place = c.refs_word-word.ensures.word ∙ ap (λ (y : Sizes). refs_word y place) h.sizes_are in
    let below : place < z.entries = subst (λ (x : PassSight). place < (sizes_of x).entries) (sym c.self.view_is) c.requires.place in
    let on : is_among place (known_free p.seat.me.0) ≡ true = subst (λ (x : PassSight). is_among place (known_free x.view) ≡ true) (sym c.self.view_is) c.requires.listed in
    let room : length p.seat.me.0.places.held + length p.seat.me.0.places.owed ≤ 3 =
    subst (λ (x : PassSight). length x.view.places.held + length x.view.places.owed ≤ 3) (sym c.self.view_is) c.requires.few in (
      h.same,
      omega (arith, h.right.counts.words, ap (λ t. t.words) h.same, word, below),
      allowed z p.shared.now.key slots p.seat.id p.seat.me (refs_word z place) c.refs_word-word.result (λ _. 1)
          (λ w _. OpenStep (step slots w 1 0 none) p.seat.me 1) h.key_is word
          (opening slots p.seat.id place p.seat.me.0 p.seat.me.1 below h.right.some on room),
    )

pub invariant_of-self : goal.invariant_of-self
invariant_of-self c =
    let p = c.self.inside in
    let h = c.self.invariant in
    let word : c.refs_word-word.result ≡ refs_word p.seat.me.0.passes.sizes c.args.place =
    c.refs_word-word.ensures.word ∙ ap (λ (y : Sizes). refs_word y c.args.place) h.sizes_are in
    let told : Opens c.args.place p.seat.me.0 c.store.new.seat.me.0 × (c.store.new.seat.me.1 ≡ p.seat.me.1) = c.store.ensures.2 c.args.place word in
    let same : StaysAt p.seat.me.0 c.store.new.seat.me.0 = opened_at c.args.place p.seat.me.0 c.store.new.seat.me.0 (subst (λ (x : PassSight). c.args.place < (sizes_of x).entries) (sym c.self.view_is) c.requires.place) (subst (λ (x : PassSight). is_among c.args.place (known_free x.view) ≡ true) (sym c.self.view_is) c.requires.listed) told.0 in
    stays_at p.seat.table_id p.shared.now.table_id p.shared.now.key p.sizes c.store.new.seat.table_id p.seat.me c.store.new.seat.me h
    c.store.ensures.0 same told.1

pub returns-clause-kept : goal.returns-clause-kept
returns-clause-kept c =
    let p = c.self.inside in
    let h = c.self.invariant in
    let word : c.refs_word-word.result ≡ refs_word p.seat.me.0.passes.sizes c.args.place =
    c.refs_word-word.ensures.word ∙ ap (λ (y : Sizes). refs_word y c.args.place) h.sizes_are in
    let told : Opens c.args.place p.seat.me.0 c.store.new.seat.me.0 × (c.store.new.seat.me.1 ≡ p.seat.me.1) = c.store.ensures.2 c.args.place word in
    kept_at c.args.self.now p.seat.table_id c.store.new.seat.table_id p.seat.me c.store.new.seat.me c.self.view_is c.store.ensures.0 told.1
