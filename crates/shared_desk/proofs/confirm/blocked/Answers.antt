use Rattle.std.proofs.Common.{ap, sym, ◌∙◌}
use Rattle.shared_desk.specs.Changed.{flow_gens}
use Rattle.bucket_table.specs.Locks.{buckets_of}
use Rattle.bucket_table.specs.Following.{bucket_in}
use Rattle.history_book.specs.declared.sizes.Sizes.{Sizes}
use Rattle.shared_desk.proofs.Wording.{gens_flow, none_then}
use Rattle.shared_desk.proofs.Confirmed.{clash_opens, clash_whole}
use Rattle.shared_desk.proofs.confirm.blocked.Goals as goal

pub unlock_two-requires-clause-whole : goal.unlock_two-requires-clause-whole
unlock_two-requires-clause-whole c =
    clash_whole c.clash-answer.result c.args.place c.args.flow.now c.args.locked c.args.pass.now c.clash-answer.new.pass c.requires.blocked.down c.clash-answer.ensures.clashes

pub returns-clause-blocks : goal.returns-clause-blocks
returns-clause-blocks c =
    clash_opens c.clash-answer.result c.args.place c.args.flow.now c.args.locked c.args.pass.now c.clash-answer.new.pass c.unlock_two.new.pass
    c.requires.locked c.clash-answer.ensures.clashes c.unlock_two.ensures.unlocks

pub returns-clause-words : goal.returns-clause-words
returns-clause-words c =
    none_then (flow_gens c.args.flow.now) c.args.pass.now.view c.clash-answer.new.pass.view c.unlock_two.new.pass.view c.clash-answer.ensures.words
    (gens_flow c.args.flow.now c.args.locked c.clash-answer.new.pass.view c.unlock_two.new.pass.view
    (c.requires.locked.locked_are
    ∙ ap (λ (z : Sizes). buckets_of (bucket_in z c.args.flow.now.original) (bucket_in z c.args.flow.now.reply)) (sym c.clash-answer.ensures.words.sizes))
    c.unlock_two.ensures.words)
