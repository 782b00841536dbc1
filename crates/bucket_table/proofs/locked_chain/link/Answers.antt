use Rattle.std.proofs.Common.{ℕ, ◌<◌, subst, sym, ap}
use Rattle.std.specs.Prelude.{not}
use Rattle.track_rule.specs.ChangesOnly.{ChangesWords}
use Rattle.track_rule.specs.Links.{hooks_of}
use Rattle.track_rule.specs.Sights.{PassSight, sizes_of}
use Rattle.track_rule.specs.declared.view.Hook.{Hook}
use Rattle.bucket_table.specs.LockedChain.{hook_bucket, link_words, linked_buckets, original_link, reply_link}
use Rattle.track_rule.specs.ChangeLaws.{joined}
use Rattle.bucket_table.proofs.Chaining.{only_words}
use Rattle.bucket_table.proofs.Passing.{changes_after, loads_join}
use Rattle.bucket_table.proofs.Stringing.{some_there}
use Rattle.bucket_table.proofs.locked_chain.link.Goals as goal

pub bucket_of_link-first-requires-clause-own : goal.bucket_of_link-first-requires-clause-own
bucket_of_link-first-requires-clause-own c = some_there (λ (h : Hook). not h.up) (original_link c.args.place) c.args.pass.now.view.buckets.hooks c.requires.original

pub bucket_of_link-second-requires-clause-own : goal.bucket_of_link-second-requires-clause-own
bucket_of_link-second-requires-clause-own c =
    subst (λ (x : PassSight). 0 < hooks_of (reply_link c.args.place) x.view.buckets.hooks) (sym c.bucket_of_link-first.ensures.loads.same)
    (some_there (λ (h : Hook). not h.up) (reply_link c.args.place) c.args.pass.now.view.buckets.hooks c.requires.reply)

pub returns-clause-links : goal.returns-clause-links
returns-clause-links c =
    let loads = loads_join c.args.pass.now c.bucket_of_link-first.new.pass c.bucket_of_link-second.new.pass c.bucket_of_link-first.ensures.loads c.bucket_of_link-second.ensures.loads in
    changes_after _ _ c.args.pass.now c.bucket_of_link-second.new.pass c.link_in.new.pass loads c.link_in.ensures.links
    (ap (λ (k : PassSight). linked_buckets (sizes_of k) c.args.place k.view.buckets) loads.same)

pub returns-clause-words : goal.returns-clause-words
returns-clause-words c =
    let loads = loads_join c.args.pass.now c.bucket_of_link-first.new.pass c.bucket_of_link-second.new.pass c.bucket_of_link-first.ensures.loads c.bucket_of_link-second.ensures.loads in
    let a : ℕ = hook_bucket (sizes_of c.args.pass.now) (original_link c.args.place) c.args.pass.now.view.buckets.hooks in
    let b : ℕ = hook_bucket (sizes_of c.args.pass.now) (reply_link c.args.place) c.args.pass.now.view.buckets.hooks in
    joined (link_words a b c.args.place) c.args.pass.now.view c.bucket_of_link-second.new.pass.view c.link_in.new.pass.view
    (only_words (link_words a b c.args.place) c.args.pass.now c.bucket_of_link-second.new.pass loads)
    (subst (λ (k : PassSight).
    ChangesWords (link_words (hook_bucket (sizes_of k) (original_link c.args.place) k.view.buckets.hooks) (hook_bucket (sizes_of k) (reply_link c.args.place) k.view.buckets.hooks) c.args.place)
    c.bucket_of_link-second.new.pass.view c.link_in.new.pass.view) loads.same c.link_in.ensures.words)
