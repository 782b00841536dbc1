use Rattle.std.proofs.Common.{ap, ◌∙◌}
use Rattle.shared_desk.proofs.Wording.{gens_flow}
use Rattle.bucket_table.specs.Locks.{buckets_of}
use Rattle.bucket_table.specs.Following.{bucket_in}
use Rattle.history_book.specs.declared.sizes.Sizes.{Sizes}
use Rattle.shared_desk.proofs.Opening.{locked_flow}
use Rattle.shared_desk.proofs.confirm.lock_sized.Goals as goal

pub returns-clause-locks : goal.returns-clause-locks
returns-clause-locks g c =
    locked_flow c.args.sizes.now c.args.flow.now c.bucket_of-original.result c.bucket_of-reply.result c.lock_two.result c.args.pass.now c.lock_two.new.pass
    c.requires.shut c.requires.sizes c.bucket_of-original.ensures.exact c.bucket_of-original.ensures.below c.bucket_of-reply.ensures.exact c.bucket_of-reply.ensures.below
    c.lock_two.ensures.buckets c.lock_two.ensures.locks

pub returns-clause-words : goal.returns-clause-words
returns-clause-words g c =
    gens_flow c.args.flow.now c.lock_two.result c.args.pass.now.view c.lock_two.new.pass.view
    (c.lock_two.ensures.buckets ∙ (λ i. buckets_of (c.bucket_of-original.ensures.exact i) (c.bucket_of-reply.ensures.exact i))
    ∙ ap (λ (z : Sizes). buckets_of (bucket_in z c.args.flow.now.original) (bucket_in z c.args.flow.now.reply)) c.requires.sizes)
    c.lock_two.ensures.words
