use Rattle.std.proofs.Common.{◌≡◌, true, ap, arith, subst, sym}
use Rattle.atomic_table.specs.Table.{Allows, step}
use mathlib.Core.Option.{none}
use Rattle.history_book.specs.declared.sizes.Sizes.{Sizes}
use Rattle.track_rule.specs.BucketSteps.{LoadTupleStep}
use Rattle.track_rule.specs.Links.{is_tuple_word}
use Rattle.track_rule.specs.Rule.{RuleHolds}
use Rattle.track_rule.specs.Sights.{PassSight, sizes_of}
use Rattle.track_rule.proofs.BucketLoads.{tuple_word_low, loads_tuple}
use Rattle.track_rule.proofs.pass.Pass.tuple_load.Goals as goal

pub load-requires : goal.load-requires
load-requires c =
    let p = c.self.inside in
    let h = c.self.invariant in
    let is : is_tuple_word p.seat.me.0.passes.sizes c.args.word ≡ true = subst (λ (x : PassSight). is_tuple_word (sizes_of x) c.args.word ≡ true) (sym c.self.view_is) c.requires in
    let slots = p.shared.now.table_id.slots in (
      h.same,
      omega (arith, h.right.counts.words, ap (λ t. t.words) h.same, tuple_word_low p.seat.me.0.passes.sizes c.args.word is),
      subst (λ (z : Sizes). Allows (RuleHolds z) slots p.seat.id p.seat.me c.args.word (λ n. n) (LoadTupleStep (step slots c.args.word 0 0 none) p.seat.me))
          h.key_is (loads_tuple slots p.seat.id c.args.word p.seat.me.0 p.seat.me.1 h.right.some),
    )
