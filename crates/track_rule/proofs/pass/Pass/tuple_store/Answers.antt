use Rattle.std.proofs.Common.{◌≡◌, true, ap, arith, subst, sym}
use Rattle.atomic_table.specs.Table.{Allows, step}
use mathlib.Core.Option.{none}
use Rattle.history_book.specs.declared.sizes.Sizes.{Sizes}
use Rattle.track_rule.specs.BucketSteps.{StoreTupleStep, is_own_tuple}
use Rattle.track_rule.specs.Links.{is_tuple_word}
use Rattle.track_rule.specs.Rule.{RuleHolds}
use Rattle.track_rule.specs.Sights.{PassSight, sizes_of}
use Rattle.track_rule.proofs.BucketLoads.{tuple_word_low}
use Rattle.track_rule.proofs.OwnWords.{stores_tuple}
use Rattle.track_rule.proofs.pass.Pass.tuple_store.Goals as goal

pub store-requires : goal.store-requires
store-requires c =
    let p = c.self.inside in
    let h = c.self.invariant in
    let is : is_tuple_word p.seat.me.0.passes.sizes c.args.word ≡ true =
    subst (λ (x : PassSight). is_tuple_word (sizes_of x) c.args.word ≡ true) (sym c.self.view_is) c.requires.tuple in
    let own : is_own_tuple p.seat.me.0.passes.sizes c.args.word p.seat.me.0.buckets p.seat.me.0.places.owned ≡ true =
    subst (λ (x : PassSight). is_own_tuple (sizes_of x) c.args.word x.view.buckets x.view.places.owned ≡ true) (sym c.self.view_is) c.requires.own in
    let slots = p.shared.now.table_id.slots in (
      h.same,
      omega (arith, h.right.counts.words, ap (λ t. t.words) h.same, tuple_word_low p.seat.me.0.passes.sizes c.args.word is),
      subst (λ (z : Sizes). Allows (RuleHolds z) slots p.seat.id p.seat.me c.args.word (λ _. c.args.to) (λ _. StoreTupleStep (step slots c.args.word c.args.to 0 none) p.seat.me c.args.to))
          h.key_is (stores_tuple slots p.seat.id c.args.word c.args.to p.seat.me.0 p.seat.me.1 own h.right.some),
    )
