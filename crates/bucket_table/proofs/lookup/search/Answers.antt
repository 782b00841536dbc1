use Rattle.std.proofs.Common.{◌≡◌, ◌<◌, ◌-◌, ℕ, ap, subst, sym, ◌∙◌}
use Rattle.history_book.specs.declared.sizes.Sizes.{Sizes}
use Rattle.track_rule.specs.BucketSteps.{LoadsLink}
use Rattle.track_rule.specs.Layout.{next_word}
use Rattle.track_rule.specs.Sights.{sizes_of}
use Rattle.bucket_table.specs.Following.{IsSoFar}
use Rattle.bucket_table.proofs.Looking.{walks_on}
use Rattle.bucket_table.proofs.Searching.{far_on, link_walk}
use Rattle.bucket_table.proofs.lookup.search.Goals as goal

pub links-preserved : goal.links-preserved
links-preserved c =
    let compares = c.if-is_here.ensures in
    let same : sizes_of c.links.pass ≡ sizes_of c.args.pass.now = ap sizes_of c.links.invariant.walks.same in
    let same' : sizes_of c.is_here.new.pass ≡ sizes_of c.links.pass = ap sizes_of compares.walks.same in
    let word : c.next_word.result ≡ next_word (sizes_of c.links.pass) c.links.link =
    c.next_word.ensures.word ∙ ap (λ (z : Sizes). next_word z c.links.link) (c.requires.sizes ∙ sym same) in
    let loads : LoadsLink (next_word (sizes_of c.links.pass) c.links.link) c.is_here.new.pass.view c.link_load-link.result c.link_load-link.new.self.view =
    subst (λ (k : ℕ). LoadsLink k c.is_here.new.pass.view c.link_load-link.result c.link_load-link.new.self.view) word c.link_load-link.ensures.loads in
    let below : c.args.goal.now.bucket < (sizes_of c.links.pass).buckets = subst (λ (z : Sizes). c.args.goal.now.bucket < z.buckets) (c.requires.sizes ∙ sym same) c.requires.bucket in
    record {
      walks = walks_on c.args.pass.now c.is_here.new.pass c.link_load-link.new.self
          (walks_on c.args.pass.now c.links.pass c.is_here.new.pass c.links.invariant.walks compares.walks)
          (link_walk c.links.link c.link_load-link.result c.is_here.new.pass c.link_load-link.new.self
          (subst (λ (z : Sizes). LoadsLink (next_word z c.links.link) c.is_here.new.pass.view c.link_load-link.result c.link_load-link.new.self.view) (sym same') loads)
          c.link_load-link.ensures.kept);
      far = subst (λ (z : Sizes). IsSoFar c.args.goal.now z c.link_load-link.result (c.links.left - 1) c.link_load-link.new.self.view) same
          (far_on c.args.goal.now c.links.link c.links.left c.link_load-link.result c.links.pass c.is_here.new.pass c.link_load-link.new.self below
          (subst (λ (z : Sizes). IsSoFar c.args.goal.now z c.links.link c.links.left c.links.pass.view) (sym same) c.links.invariant.far) c.links-test.true
          c.if-left-eq0.false compares loads c.link_load-link.ensures.kept);
    }
