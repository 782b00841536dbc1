use Rattle.std.proofs.Common.{ap, refl, sym, ◌∙◌}
use Rattle.track_rule.specs.ChangeLaws.{by_none, in_one, in_other, joined, weaker}
use Rattle.track_rule.specs.ChangesOnly.{either}
use Rattle.shared_desk.specs.Changed.{commit_words, flow_gens}
use Rattle.bucket_table.specs.Locks.{buckets_of}
use Rattle.bucket_table.specs.Following.{bucket_in}
use Rattle.history_book.specs.declared.sizes.Sizes.{Sizes}
use Rattle.shared_desk.proofs.Wording.{gens_flow}
use Rattle.shared_desk.proofs.Confirmed.{commit_opens, commit_shut, commit_whole}
use Rattle.shared_desk.proofs.confirm.enter.Goals as goal

pub unlock_two-requires-clause-shut : goal.unlock_two-requires-clause-shut
unlock_two-requires-clause-shut g c =
    commit_shut c.args.place c.args.flow.now c.commit-id.result c.args.locked c.args.pass.now c.commit-id.new.pass c.requires.locked.shut c.commit-id.ensures.commits

pub unlock_two-requires-clause-whole : goal.unlock_two-requires-clause-whole
unlock_two-requires-clause-whole g c =
    commit_whole c.args.place c.args.flow.now c.commit-id.result c.args.locked c.args.pass.now c.commit-id.new.pass c.requires.can.down c.commit-id.ensures.commits

pub returns-clause-enters : goal.returns-clause-enters
returns-clause-enters g c =
    commit_opens c.args.place c.args.flow.now c.commit-id.result c.args.locked c.record_for.result c.args.pass.now c.commit-id.new.pass c.unlock_two.new.pass c.record_swap.new.self
    c.requires.locked c.commit-id.ensures.commits c.unlock_two.ensures.unlocks c.record_for.ensures c.record_swap.ensures.kept

pub returns-clause-words : goal.returns-clause-words
returns-clause-words g c =
    let gens = flow_gens c.args.flow.now in
    let rest = commit_words c.args.place c.args.flow.now in
    joined (either gens rest) c.args.pass.now.view c.commit-id.new.pass.view c.record_swap.new.self.view
    (weaker rest (either gens rest) c.args.pass.now.view c.commit-id.new.pass.view (in_other gens rest) c.commit-id.ensures.words)
    (joined (either gens rest) c.commit-id.new.pass.view c.unlock_two.new.pass.view c.record_swap.new.self.view
    (weaker gens (either gens rest) c.commit-id.new.pass.view c.unlock_two.new.pass.view (in_one gens rest)
    (gens_flow c.args.flow.now c.args.locked c.commit-id.new.pass.view c.unlock_two.new.pass.view
    (c.requires.locked.locked_are
    ∙ ap (λ (z : Sizes). buckets_of (bucket_in z c.args.flow.now.original) (bucket_in z c.args.flow.now.reply)) (sym c.commit-id.ensures.words.sizes))
    c.unlock_two.ensures.words))
    (by_none (either gens rest) c.unlock_two.new.pass c.record_swap.new.self _ c.record_swap.ensures.kept refl))
