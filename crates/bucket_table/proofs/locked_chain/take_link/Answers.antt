use Rattle.std.proofs.Common.{◌≡◌, ℕ, ◌<◌, ap, arith, subst, sym, ◌∙◌}
use Rattle.history_book.specs.declared.sizes.Sizes.{Sizes}
use Rattle.track_rule.specs.Layout.{next_word}
use Rattle.track_rule.specs.Links.{is_link_word, is_raised}
use Rattle.track_rule.specs.Sights.{sizes_of}
use Rattle.bucket_table.specs.LockedChain.{IsSeeking}
use Rattle.bucket_table.proofs.Chaining.{take_words}
use Rattle.bucket_table.proofs.Passing.{load_only, loads_join, seek_on, seek_some, seek_start, take_done, take_may}
use Rattle.bucket_table.proofs.locked_chain.take_link.Goals as goal

pub links-init : goal.links-init
links-init c = record {
  loads = load_only c.args.pass.now c.link_load-at.new.self c.head_word-word.result c.link_load-at.result c.link_load-at.ensures.kept c.link_load-at.ensures.loads;
  seeks = seek_start c.args.sizes.now c.args.bucket c.args.link c.link_load-at.result c.head_word-word.result c.args.pass.now c.link_load-at.new.self
      c.requires.sizes c.head_word-word.ensures.word c.requires.bucket c.requires.mine c.requires.up c.requires.placed c.link_load-at.ensures.loads
      c.link_load-at.ensures.kept;
  word = c.head_word-word.ensures.link;
}

pub links-preserved : goal.links-preserved
links-preserved c =
    let same : sizes_of c.links.pass ≡ sizes_of c.args.pass.now = ap sizes_of c.links.invariant.loads.same in
    record {
      loads = loads_join c.args.pass.now c.links.pass c.link_load-at-in-links.new.self c.links.invariant.loads
          (load_only c.links.pass c.link_load-at-in-links.new.self c.next_word-word.result c.link_load-at-in-links.result c.link_load-at-in-links.ensures.kept
          c.link_load-at-in-links.ensures.loads);
      seeks = seek_on c.args.bucket c.args.link c.links.word c.links.at c.links.left c.link_load-at-in-links.result c.next_word-word.result c.links.pass
          c.link_load-at-in-links.new.self (subst (λ (z : Sizes). c.args.bucket < z.buckets) (sym same) c.requires.bucket) c.links.invariant.seeks c.links-test.true
          (c.next_word-word.ensures.word ∙ ap (λ (z : Sizes). next_word z c.links.at) (c.requires.sizes ∙ sym same)) c.link_load-at-in-links.ensures.loads
          c.link_load-at-in-links.ensures.kept;
      word = c.next_word-word.ensures.link;
    }

pub next_word-word-requires-clause-some : goal.next_word-word-requires-clause-some
next_word-word-requires-clause-some c = (seek_some c.args.bucket c.args.link c.links.word c.links.at c.links.left c.links.pass c.links.invariant.seeks).0

pub overflow_sub-left : goal.overflow_sub-left
overflow_sub-left c = (seek_some c.args.bucket c.args.link c.links.word c.links.at c.links.left c.links.pass c.links.invariant.seeks).1

pub links-smaller : goal.links-smaller
links-smaller c = omega (arith, (seek_some c.args.bucket c.args.link c.links.word c.links.at c.links.left c.links.pass c.links.invariant.seeks).1)

pub link_store-requires-clause-may : goal.link_store-requires-clause-may
link_store-requires-clause-may c =
    let same : sizes_of c.links.pass ≡ sizes_of c.args.pass.now = ap sizes_of c.links.invariant.loads.same in
    (take_may c.args.bucket c.args.link c.links.word c.links.left c.link_load-next.result c.next_word.result c.links.pass c.link_load-next.new.self
    (subst (λ (z : Sizes). c.args.bucket < z.buckets) (sym same) c.requires.bucket)
    (subst (λ (k : ℕ). IsSeeking c.args.bucket c.args.link c.links.pass c.links.word k c.links.left) c.links-test.false c.links.invariant.seeks)
    (ap (λ x. is_raised c.args.link x.view.buckets.hooks) c.links.invariant.loads.same ∙ c.requires.up)
    (c.next_word.ensures.word ∙ ap (λ (z : Sizes). next_word z c.args.link) (c.requires.sizes ∙ sym same)) c.link_load-next.ensures.loads c.link_load-next.ensures.kept).0

pub returns-clause-takes : goal.returns-clause-takes
returns-clause-takes c =
    let same : sizes_of c.links.pass ≡ sizes_of c.args.pass.now = ap sizes_of c.links.invariant.loads.same in
    take_done c.args.bucket c.args.link c.links.word c.link_load-next.result c.next_word.result c.args.pass.now c.links.pass c.link_load-next.new.self c.link_store.new.self
    (ap (λ (z : Sizes). is_link_word z c.links.word) (sym c.requires.sizes) ∙ c.links.invariant.word) c.links.invariant.loads c.link_load-next.ensures.loads c.link_load-next.ensures.kept
    ((take_may c.args.bucket c.args.link c.links.word c.links.left c.link_load-next.result c.next_word.result c.links.pass c.link_load-next.new.self
    (subst (λ (z : Sizes). c.args.bucket < z.buckets) (sym same) c.requires.bucket)
    (subst (λ (k : ℕ). IsSeeking c.args.bucket c.args.link c.links.pass c.links.word k c.links.left) c.links-test.false c.links.invariant.seeks)
    (ap (λ x. is_raised c.args.link x.view.buckets.hooks) c.links.invariant.loads.same ∙ c.requires.up)
    (c.next_word.ensures.word ∙ ap (λ (z : Sizes). next_word z c.args.link) (c.requires.sizes ∙ sym same)) c.link_load-next.ensures.loads c.link_load-next.ensures.kept).1
    c.link_store.new.self.view c.link_store.ensures.strings)
    c.link_store.ensures.kept

pub returns-clause-words : goal.returns-clause-words
returns-clause-words c =
    take_words c.args.bucket c.links.word c.link_load-next.result c.next_word.result c.links.invariant.seeks.passed c.args.pass.now c.links.pass
    c.link_load-next.new.self c.link_store.new.self c.links.invariant.loads c.requires.bucket c.links.invariant.seeks.word_is c.link_load-next.ensures.loads
    c.link_store.ensures.strings
