use Rattle.std.proofs.Common.{◌≡◌, true, ap, arith, subst, sym}
use Rattle.atomic_table.specs.Table.{Allows, step}
use mathlib.Core.Option.{none}
use Rattle.history_book.specs.declared.sizes.Sizes.{Sizes}
use Rattle.track_rule.specs.BucketSteps.{MayString, StoreLinkStep}
use Rattle.track_rule.specs.Links.{is_link_word}
use Rattle.track_rule.specs.Rule.{RuleHolds}
use Rattle.track_rule.specs.Sights.{PassSight, sizes_of}
use Rattle.track_rule.proofs.BucketLoads.{link_word_low}
use Rattle.track_rule.proofs.LinkStores.{stores_link}
use Rattle.track_rule.proofs.pass.Pass.link_store.Goals as goal

pub store-requires : goal.store-requires
store-requires c =
    let p = c.self.inside in
    let h = c.self.invariant in
    let is : is_link_word p.seat.me.0.passes.sizes c.args.word ≡ true =
    subst (λ (x : PassSight). is_link_word (sizes_of x) c.args.word ≡ true) (sym c.self.view_is) c.requires.link in
    let may : MayString c.args.word c.args.to p.seat.me.0 = subst (λ (x : PassSight). MayString c.args.word c.args.to x.view) (sym c.self.view_is) c.requires.may in
    let slots = p.shared.now.table_id.slots in (
      h.same,
      omega (arith, h.right.counts.words, ap (λ t. t.words) h.same, link_word_low p.seat.me.0.passes.sizes c.args.word is),
      subst (λ (z : Sizes). Allows (RuleHolds z) slots p.seat.id p.seat.me c.args.word (λ _. c.args.to) (λ _. StoreLinkStep (step slots c.args.word c.args.to 0 none) p.seat.me c.args.to))
          h.key_is (stores_link slots p.seat.id c.args.word c.args.to p.seat.me.0 p.seat.me.1 may h.right.some),
    )
