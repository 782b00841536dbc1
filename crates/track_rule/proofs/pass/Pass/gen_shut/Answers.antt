use Rattle.std.proofs.Common.{Bool, true, false, eqb, ◌≡◌, ℕ, ◌+◌, ◌<◌, ap, arith, subst, sym, refl, ◌∙◌}
use Rattle.std.specs.Prelude.{◌==◌}
use Rattle.atomic_table.specs.Table.{step}
use mathlib.Core.Option.{none}
use prog.Atomic.{either}
use Rattle.history_book.specs.declared.sizes.Sizes.{Sizes}
use Rattle.track_rule.specs.declared.view.View.{View}
use Rattle.track_rule.specs.BucketSteps.{ShutGenStep, ShutsOrMisses}
use Rattle.track_rule.specs.Layout.{gen_word}
use Rattle.track_rule.specs.Sights.{PassSight, sizes_of}
use Rattle.track_rule.proofs.Seats.{StaysAt, allowed, kept_at, same_at, stays_at}
use Rattle.track_rule.proofs.BucketMoves.{shutting}
use Rattle.track_rule.proofs.pass.Pass.gen_shut.Goals as goal

pub compare_exchange-found-requires : goal.compare_exchange-found-requires
compare_exchange-found-requires c =
    let p = c.self.inside in
    let h = c.self.invariant in
    let bucket : ℕ = c.args.bucket in
    let z : Sizes = p.seat.me.0.passes.sizes in
    let slots = p.shared.now.table_id.slots in
    let word : c.gen_word-word.result ≡ gen_word z bucket = c.gen_word-word.ensures ∙ ap (λ (y : Sizes). gen_word y bucket) h.sizes_are in
    let below : bucket < z.buckets = subst (λ (x : PassSight). bucket < (sizes_of x).buckets) (sym c.self.view_is) c.requires.bucket in (
      h.same,
      omega (arith, h.right.counts.words, ap (λ t. t.words) h.same, word, below),
      allowed z p.shared.now.key slots p.seat.id p.seat.me (gen_word z bucket) c.gen_word-word.result (λ n. either (eqb n c.args.even) (c.args.even + 1) n)
          (λ w. ShutGenStep (step slots w c.args.even (c.args.even + 1) none) p.seat.me) h.key_is word
          (shutting slots p.seat.id bucket c.args.even p.seat.me.0 p.seat.me.1 below h.right.some c.requires.even c.requires.last),
    )

shut_same : (same : Bool) (bucket even n : ℕ) (v w : View) → ShutsOrMisses same bucket even v n w → StaysAt v w
shut_same true bucket even n v w h = same_at v w _ h.view (record { passes = refl; same = refl; pool = λ k. k })
shut_same false bucket even n v w h = same_at v w _ h.view (record { passes = refl; same = refl; pool = λ k. k })

pub invariant_of-self : goal.invariant_of-self
invariant_of-self c =
    let p = c.self.inside in
    let h = c.self.invariant in
    let word : c.gen_word-word.result ≡ gen_word p.seat.me.0.passes.sizes c.args.bucket =
    c.gen_word-word.ensures ∙ ap (λ (y : Sizes). gen_word y c.args.bucket) h.sizes_are in
    let told : ShutsOrMisses (c.compare_exchange-found.result == c.args.even) c.args.bucket c.args.even p.seat.me.0 c.compare_exchange-found.result c.compare_exchange-found.new.seat.me.0 × (c.compare_exchange-found.new.seat.me.1 ≡ p.seat.me.1) × (c.args.even + 1 ≡ c.args.even + 1) = c.compare_exchange-found.ensures.2 c.args.bucket word in
    let same : StaysAt p.seat.me.0 c.compare_exchange-found.new.seat.me.0 = shut_same (c.compare_exchange-found.result == c.args.even) c.args.bucket c.args.even c.compare_exchange-found.result p.seat.me.0 c.compare_exchange-found.new.seat.me.0 told.0 in
    stays_at p.seat.table_id p.shared.now.table_id p.shared.now.key p.sizes c.compare_exchange-found.new.seat.table_id p.seat.me c.compare_exchange-found.new.seat.me h
    c.compare_exchange-found.ensures.0 same told.1

pub returns-clause-kept : goal.returns-clause-kept
returns-clause-kept c =
    let p = c.self.inside in
    let h = c.self.invariant in
    let word : c.gen_word-word.result ≡ gen_word p.seat.me.0.passes.sizes c.args.bucket =
    c.gen_word-word.ensures ∙ ap (λ (y : Sizes). gen_word y c.args.bucket) h.sizes_are in
    let told : ShutsOrMisses (c.compare_exchange-found.result == c.args.even) c.args.bucket c.args.even p.seat.me.0 c.compare_exchange-found.result c.compare_exchange-found.new.seat.me.0 × (c.compare_exchange-found.new.seat.me.1 ≡ p.seat.me.1) × (c.args.even + 1 ≡ c.args.even + 1) = c.compare_exchange-found.ensures.2 c.args.bucket word in
    kept_at c.args.self.now p.seat.table_id c.compare_exchange-found.new.seat.table_id p.seat.me c.compare_exchange-found.new.seat.me c.self.view_is c.compare_exchange-found.ensures.0 told.1
