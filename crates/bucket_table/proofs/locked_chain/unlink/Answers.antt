use Rattle.std.proofs.Common.{◌≡◌, ℕ, ◌<◌, ap, arith, subst, sym, ◌∙◌}
use Rattle.history_book.specs.declared.sizes.Sizes.{Sizes}
use Rattle.track_rule.specs.BucketSteps.{taken_from}
use Rattle.track_rule.specs.Chains.{shuts_of}
use Rattle.track_rule.specs.Links.{hooks_of, is_raised}
use Rattle.track_rule.specs.Sights.{PassSight, sizes_of}
use Rattle.track_rule.specs.declared.view.Hook.{Hook}
use Rattle.bucket_table.specs.LockedChain.{hook_bucket, original_link, reply_link}
use Rattle.bucket_table.specs.LockedChain.{unlink_words}
use Rattle.track_rule.specs.Sights.{PassSight}
use Rattle.track_rule.specs.ChangeLaws.{joined}
use Rattle.bucket_table.proofs.Chaining.{only_words, take_one, take_other}
use Rattle.bucket_table.proofs.Pairs.{bucket_shut, take_keeps, second_of}
use Rattle.bucket_table.proofs.Passing.{changes_join, loads_join}
use Rattle.bucket_table.proofs.Stringing.{some_there}
use Rattle.bucket_table.proofs.locked_chain.unlink.Goals as goal

pub bucket_of_link-first-requires-clause-own : goal.bucket_of_link-first-requires-clause-own
bucket_of_link-first-requires-clause-own c = some_there (λ (h : Hook). h.up) (original_link c.args.place) c.args.pass.now.view.buckets.hooks c.requires.original

pub bucket_of_link-second-requires-clause-own : goal.bucket_of_link-second-requires-clause-own
bucket_of_link-second-requires-clause-own c =
    subst (λ (x : PassSight). 0 < hooks_of (reply_link c.args.place) x.view.buckets.hooks) (sym c.bucket_of_link-first.ensures.loads.same)
    (some_there (λ (h : Hook). h.up) (reply_link c.args.place) c.args.pass.now.view.buckets.hooks c.requires.reply)

pub take_link-requires-2-clause-mine : goal.take_link-requires-2-clause-mine
take_link-requires-2-clause-mine c =
    let keeps = second_of (sizes_of c.args.pass.now) (reply_link c.args.place) is_raised (taken_from c.bucket_of_link-first.result (original_link c.args.place)) c.args.pass.now c.bucket_of_link-second.new.pass c.take_link.new.pass
    (loads_join c.args.pass.now c.bucket_of_link-first.new.pass c.bucket_of_link-second.new.pass c.bucket_of_link-first.ensures.loads c.bucket_of_link-second.ensures.loads)
    c.take_link.ensures.takes (take_keeps (sizes_of c.args.pass.now) c.bucket_of_link-first.result (original_link c.args.place) (reply_link c.args.place) c.args.pass.now.view.buckets (λ e. omega (arith, e))) in
    let here : c.bucket_of_link-second.result ≡ hook_bucket (sizes_of c.args.pass.now) (reply_link c.args.place) c.args.pass.now.view.buckets.hooks = (c.bucket_of_link-second.ensures.bucket ∙ ap (λ (k : PassSight). hook_bucket (sizes_of k) (reply_link c.args.place) k.view.buckets.hooks) c.bucket_of_link-first.ensures.loads.same) in
    omega (
      arith,
      keeps.0.shuts c.bucket_of_link-second.result,
      subst (λ (b : ℕ). 0 < shuts_of b c.args.pass.now.view) (sym here)
          (bucket_shut c.args.locked.now (hook_bucket (sizes_of c.args.pass.now) (reply_link c.args.place) c.args.pass.now.view.buckets.hooks) c.args.pass.now.view c.requires.shut c.requires.reply_ready.its_bucket),
    )

pub take_link-requires-2-clause-up : goal.take_link-requires-2-clause-up
take_link-requires-2-clause-up c =
    let keeps = second_of (sizes_of c.args.pass.now) (reply_link c.args.place) is_raised (taken_from c.bucket_of_link-first.result (original_link c.args.place)) c.args.pass.now c.bucket_of_link-second.new.pass c.take_link.new.pass
    (loads_join c.args.pass.now c.bucket_of_link-first.new.pass c.bucket_of_link-second.new.pass c.bucket_of_link-first.ensures.loads c.bucket_of_link-second.ensures.loads)
    c.take_link.ensures.takes (take_keeps (sizes_of c.args.pass.now) c.bucket_of_link-first.result (original_link c.args.place) (reply_link c.args.place) c.args.pass.now.view.buckets (λ e. omega (arith, e))) in
    keeps.0.passes ∙ c.requires.reply

pub take_link-requires-2-clause-placed : goal.take_link-requires-2-clause-placed
take_link-requires-2-clause-placed c =
    let keeps = second_of (sizes_of c.args.pass.now) (reply_link c.args.place) is_raised (taken_from c.bucket_of_link-first.result (original_link c.args.place)) c.args.pass.now c.bucket_of_link-second.new.pass c.take_link.new.pass
    (loads_join c.args.pass.now c.bucket_of_link-first.new.pass c.bucket_of_link-second.new.pass c.bucket_of_link-first.ensures.loads c.bucket_of_link-second.ensures.loads)
    c.take_link.ensures.takes (take_keeps (sizes_of c.args.pass.now) c.bucket_of_link-first.result (original_link c.args.place) (reply_link c.args.place) c.args.pass.now.view.buckets (λ e. omega (arith, e))) in
    let here : c.bucket_of_link-second.result ≡ hook_bucket (sizes_of c.args.pass.now) (reply_link c.args.place) c.args.pass.now.view.buckets.hooks = (c.bucket_of_link-second.ensures.bucket ∙ ap (λ (k : PassSight). hook_bucket (sizes_of k) (reply_link c.args.place) k.view.buckets.hooks) c.bucket_of_link-first.ensures.loads.same) in
    ap (λ (z : Sizes). hook_bucket z (reply_link c.args.place) c.take_link.new.pass.view.buckets.hooks) keeps.1 ∙ keeps.0.bucket ∙ sym here

pub returns-clause-unlinks : goal.returns-clause-unlinks
returns-clause-unlinks c =
    let loads = loads_join c.args.pass.now c.bucket_of_link-first.new.pass c.bucket_of_link-second.new.pass c.bucket_of_link-first.ensures.loads c.bucket_of_link-second.ensures.loads in
    let second : c.bucket_of_link-second.result ≡ hook_bucket (sizes_of c.args.pass.now) (reply_link c.args.place) c.args.pass.now.view.buckets.hooks =
    c.bucket_of_link-second.ensures.bucket ∙ ap (λ (k : PassSight). hook_bucket (sizes_of k) (reply_link c.args.place) k.view.buckets.hooks) c.bucket_of_link-first.ensures.loads.same in
    let between : c.take_link.new.pass.view.buckets
    ≡ taken_from (hook_bucket (sizes_of c.args.pass.now) (original_link c.args.place) c.args.pass.now.view.buckets.hooks) (original_link c.args.place) c.args.pass.now.view.buckets =
    ap (λ (k : PassSight). k.view.buckets) c.take_link.ensures.takes.same
    ∙ (λ i. taken_from (c.bucket_of_link-first.ensures.bucket i) (original_link c.args.place) (ap (λ (k : PassSight). k.view.buckets) loads.same i)) in
    changes_join _ _ _ c.args.pass.now c.bucket_of_link-second.new.pass c.take_link.new.pass c.take_link-2.new.pass loads c.take_link.ensures.takes c.take_link-2.ensures.takes
    (λ i. taken_from (second i) (reply_link c.args.place) (between i))

pub returns-clause-words : goal.returns-clause-words
returns-clause-words c =
    let loads = loads_join c.args.pass.now c.bucket_of_link-first.new.pass c.bucket_of_link-second.new.pass c.bucket_of_link-first.ensures.loads c.bucket_of_link-second.ensures.loads in
    let a : ℕ = hook_bucket (sizes_of c.args.pass.now) (original_link c.args.place) c.args.pass.now.view.buckets.hooks in
    let b : ℕ = hook_bucket (sizes_of c.args.pass.now) (reply_link c.args.place) c.args.pass.now.view.buckets.hooks in
    let second : c.bucket_of_link-second.result ≡ b =
    c.bucket_of_link-second.ensures.bucket ∙ ap (λ (k : PassSight). hook_bucket (sizes_of k) (reply_link c.args.place) k.view.buckets.hooks) c.bucket_of_link-first.ensures.loads.same in
    joined (unlink_words a b) c.args.pass.now.view c.bucket_of_link-second.new.pass.view c.take_link-2.new.pass.view
    (only_words (unlink_words a b) c.args.pass.now c.bucket_of_link-second.new.pass loads)
    (joined (unlink_words a b) c.bucket_of_link-second.new.pass.view c.take_link.new.pass.view c.take_link-2.new.pass.view
    (take_one a b _ c.bucket_of_link-second.new.pass.view c.take_link.new.pass.view c.bucket_of_link-first.ensures.bucket c.take_link.ensures.words)
    (take_other a b _ c.take_link.new.pass.view c.take_link-2.new.pass.view second c.take_link-2.ensures.words))
