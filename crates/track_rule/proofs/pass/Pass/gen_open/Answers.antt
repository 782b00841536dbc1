use Rattle.std.proofs.Common.{◌≡◌, ℕ, ◌+◌, ◌%◌, ◌^◌, ◌<◌, ap, arith, subst, sym, refl, ◌∙◌}
use Rattle.atomic_table.specs.Table.{step}
use mathlib.Core.Option.{none}
use Rattle.history_book.specs.declared.sizes.Sizes.{Sizes}
use Rattle.track_rule.specs.BucketSteps.{OpenGenStep, OpensGen}
use Rattle.track_rule.specs.declared.view.Middle.TheVariants.{Calm}
use Rattle.track_rule.specs.Chains.{each_link, loose_of, shuts_of}
use Rattle.track_rule.specs.Layout.{gen_word}
use Rattle.track_rule.specs.Sights.{PassSight, sizes_of}
use Rattle.track_rule.proofs.Seats.{StaysAt, allowed, kept_at, same_at, stays_at}
use Rattle.track_rule.proofs.BucketMoves.{opening_gen}
use Rattle.track_rule.proofs.pass.Pass.gen_open.Goals as goal

pub fetch_add-requires : goal.fetch_add-requires
fetch_add-requires c =
    let p = c.self.inside in
    let h = c.self.invariant in
    let bucket : ℕ = c.args.bucket in
    let z : Sizes = p.seat.me.0.passes.sizes in
    let slots = p.shared.now.table_id.slots in
    let word : c.gen_word-word.result ≡ gen_word z bucket = c.gen_word-word.ensures ∙ ap (λ (y : Sizes). gen_word y bucket) h.sizes_are in
    let below : bucket < z.buckets = subst (λ (x : PassSight). bucket < (sizes_of x).buckets) (sym c.self.view_is) c.requires.bucket in
    let mine : 0 < shuts_of bucket p.seat.me.0 = subst (λ (x : PassSight). 0 < shuts_of bucket x.view) (sym c.self.view_is) c.requires.mine in
    let nothing : loose_of z bucket each_link p.seat.me.0 ≡ 0 =
    subst (λ (x : PassSight). loose_of (sizes_of x) bucket each_link x.view ≡ 0) (sym c.self.view_is) c.requires.whole in
    let calm : p.seat.me.0.commit.middle ≡ Calm = subst (λ (x : PassSight). x.view.commit.middle ≡ Calm) (sym c.self.view_is) c.requires.calm in (
      h.same,
      omega (arith, h.right.counts.words, ap (λ t. t.words) h.same, word, below),
      allowed z p.shared.now.key slots p.seat.id p.seat.me (gen_word z bucket) c.gen_word-word.result (λ n. (n + 1) % 2 ^ 64)
          (λ w. OpenGenStep (step slots w 1 0 none) p.seat.me) h.key_is word
          (opening_gen slots p.seat.id bucket p.seat.me.0 p.seat.me.1 below h.right.some mine nothing calm),
    )

pub invariant_of-self : goal.invariant_of-self
invariant_of-self c =
    let p = c.self.inside in
    let h = c.self.invariant in
    let word : c.gen_word-word.result ≡ gen_word p.seat.me.0.passes.sizes c.args.bucket =
    c.gen_word-word.ensures ∙ ap (λ (y : Sizes). gen_word y c.args.bucket) h.sizes_are in
    let told : OpensGen c.args.bucket p.seat.me.0 c.fetch_add.new.seat.me.0 × (c.fetch_add.new.seat.me.1 ≡ p.seat.me.1) = c.fetch_add.ensures.2 c.args.bucket word in
    let same : StaysAt p.seat.me.0 c.fetch_add.new.seat.me.0 = same_at p.seat.me.0 c.fetch_add.new.seat.me.0 _ told.0.view (record { passes = refl; same = refl; pool = λ k. k }) in
    stays_at p.seat.table_id p.shared.now.table_id p.shared.now.key p.sizes c.fetch_add.new.seat.table_id p.seat.me c.fetch_add.new.seat.me h
    c.fetch_add.ensures.0 same told.1

pub returns-clause-kept : goal.returns-clause-kept
returns-clause-kept c =
    let p = c.self.inside in
    let h = c.self.invariant in
    let word : c.gen_word-word.result ≡ gen_word p.seat.me.0.passes.sizes c.args.bucket =
    c.gen_word-word.ensures ∙ ap (λ (y : Sizes). gen_word y c.args.bucket) h.sizes_are in
    let told : OpensGen c.args.bucket p.seat.me.0 c.fetch_add.new.seat.me.0 × (c.fetch_add.new.seat.me.1 ≡ p.seat.me.1) = c.fetch_add.ensures.2 c.args.bucket word in
    kept_at c.args.self.now p.seat.table_id c.fetch_add.new.seat.table_id p.seat.me c.fetch_add.new.seat.me c.self.view_is c.fetch_add.ensures.0 told.1
