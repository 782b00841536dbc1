use Rattle.std.proofs.Common.{◌≡◌, ℕ, ◌+◌, ◌-◌, ◌%◌, ◌^◌, ◌<◌, true, false, ap, arith, subst, sym, ◌∙◌}
use Rattle.atomic_table.specs.Table.{step}
use mathlib.Core.Option.{none}
use Rattle.history_book.specs.declared.sizes.Sizes.{Sizes}
use Rattle.track_rule.specs.Layout.{refs_word}
use Rattle.track_rule.specs.declared.view.Middle.TheVariants.{Calm}
use Rattle.track_rule.specs.Free.{is_among}
use Rattle.track_rule.specs.Links.{is_up}
use Rattle.track_rule.specs.References.{is_held}
use Rattle.track_rule.specs.Sights.{PassSight}
use Rattle.track_rule.specs.Steps.{LowerStep, LowersRefs}
use Rattle.track_rule.proofs.Seats.{StaysAt, allowed, held_below, kept_at, pool_less, same_at, stays_at}
use Rattle.std.proofs.Common.{refl}
use Rattle.track_rule.proofs.Refs.{lowering}
use Rattle.track_rule.proofs.pass.Pass.ref_down.Goals as goal

pub fetch_sub-requires : goal.fetch_sub-requires
fetch_sub-requires c =
    let p = c.self.inside in
    let h = c.self.invariant in
    let place : ℕ = c.args.place in
    let z : Sizes = p.seat.me.0.passes.sizes in
    let slots = p.shared.now.table_id.slots in
    let word : c.refs_word-word.result ≡ refs_word z place = c.refs_word-word.ensures.word ∙ ap (λ (y : Sizes). refs_word y place) h.sizes_are in
    let held : is_held place p.seat.me.0.places.held ≡ true = subst (λ (x : PassSight). is_held place x.view.places.held ≡ true) (sym c.self.view_is) c.requires.held in
    let below : place < z.entries = held_below z.entries place p.seat.me.0.places.held h.right.pool.held held in
    let down : is_up place p.seat.me.0.buckets.hooks ≡ false = subst (λ (x : PassSight). is_up place x.view.buckets.hooks ≡ false) (sym c.self.view_is) c.requires.down in
    let calm : is_among place p.seat.me.0.places.carried ≡ true → p.seat.me.0.commit.middle ≡ Calm =
    subst (λ (x : PassSight). is_among place x.view.places.carried ≡ true → x.view.commit.middle ≡ Calm) (sym c.self.view_is) c.requires.calm in (
      h.same,
      omega (arith, h.right.counts.words, ap (λ t. t.words) h.same, word, below),
      allowed z p.shared.now.key slots p.seat.id p.seat.me (refs_word z place) c.refs_word-word.result (λ n. (n + (2 ^ 64 - 1)) % 2 ^ 64)
          (λ w. LowerStep (step slots w 1 0 none) p.seat.me) h.key_is word
          (lowering slots p.seat.id place p.seat.me.0 p.seat.me.1 below h.right.some held down calm),
    )

pub refs_word-word-requires-clause-place : goal.refs_word-word-requires-clause-place
refs_word-word-requires-clause-place c =
    let p = c.self.inside in
    let h = c.self.invariant in
    let held : is_held c.args.place p.seat.me.0.places.held ≡ true =
    subst (λ (x : PassSight). is_held c.args.place x.view.places.held ≡ true) (sym c.self.view_is) c.requires.held in
    subst (λ (z : Sizes). c.args.place < z.entries) (sym h.sizes_are) (held_below p.seat.me.0.passes.sizes.entries c.args.place p.seat.me.0.places.held h.right.pool.held held)

pub invariant_of-self : goal.invariant_of-self
invariant_of-self c =
    let p = c.self.inside in
    let h = c.self.invariant in
    let word : c.refs_word-word.result ≡ refs_word p.seat.me.0.passes.sizes c.args.place =
    c.refs_word-word.ensures.word ∙ ap (λ (y : Sizes). refs_word y c.args.place) h.sizes_are in
    let told : LowersRefs c.args.place p.seat.me.0 c.fetch_sub.result c.fetch_sub.new.seat.me.0 × (c.fetch_sub.new.seat.me.1 ≡ p.seat.me.1) = c.fetch_sub.ensures.2 c.args.place word in
    let below : c.args.place < p.seat.me.0.passes.sizes.entries =
    held_below p.seat.me.0.passes.sizes.entries c.args.place p.seat.me.0.places.held h.right.pool.held
    (subst (λ (x : PassSight). is_held c.args.place x.view.places.held ≡ true) (sym c.self.view_is) c.requires.held) in
    let same : StaysAt p.seat.me.0 c.fetch_sub.new.seat.me.0 = same_at p.seat.me.0 c.fetch_sub.new.seat.me.0 _ told.0.view (record { passes = refl; same = refl; pool = pool_less (is_among c.args.place p.seat.me.0.places.carried) p.seat.me.0.passes.sizes.entries c.args.place c.fetch_sub.result p.seat.me.0 below }) in
    stays_at p.seat.table_id p.shared.now.table_id p.shared.now.key p.sizes c.fetch_sub.new.seat.table_id p.seat.me c.fetch_sub.new.seat.me h
    c.fetch_sub.ensures.0 same told.1

pub returns-clause-kept : goal.returns-clause-kept
returns-clause-kept c =
    let p = c.self.inside in
    let h = c.self.invariant in
    let word : c.refs_word-word.result ≡ refs_word p.seat.me.0.passes.sizes c.args.place =
    c.refs_word-word.ensures.word ∙ ap (λ (y : Sizes). refs_word y c.args.place) h.sizes_are in
    let told : LowersRefs c.args.place p.seat.me.0 c.fetch_sub.result c.fetch_sub.new.seat.me.0 × (c.fetch_sub.new.seat.me.1 ≡ p.seat.me.1) = c.fetch_sub.ensures.2 c.args.place word in
    kept_at c.args.self.now p.seat.table_id c.fetch_sub.new.seat.table_id p.seat.me c.fetch_sub.new.seat.me c.self.view_is c.fetch_sub.ensures.0 told.1

pub returns-clause-lowers : goal.returns-clause-lowers
returns-clause-lowers c =
    let p = c.self.inside in
    let h = c.self.invariant in
    let word : c.refs_word-word.result ≡ refs_word p.seat.me.0.passes.sizes c.args.place =
    c.refs_word-word.ensures.word ∙ ap (λ (y : Sizes). refs_word y c.args.place) h.sizes_are in
    let told : LowersRefs c.args.place p.seat.me.0 c.fetch_sub.result c.fetch_sub.new.seat.me.0 × (c.fetch_sub.new.seat.me.1 ≡ p.seat.me.1) = c.fetch_sub.ensures.2 c.args.place word in
    subst (λ (x : PassSight). LowersRefs c.args.place x.view c.fetch_sub.result c.fetch_sub.new.seat.me.0) c.self.view_is told.0
