use Rattle.track_rule.specs.ChangeLaws.{joined, weaker, in_one}
use Rattle.shared_desk.specs.Changed.{commit_words, enter_words, flow_gens}
use Rattle.history_book.specs.declared.outcome.ConfirmOutcome.TheVariants.{Confirmed}
use Rattle.shared_desk.proofs.Wording.{gens_in, then_none}
use Rattle.shared_desk.proofs.confirm.confirm_locked.Goals as goal

pub returns-in-Some-clause-words : goal.returns-in-Some-clause-words
returns-in-Some-clause-words g c =
    let f = enter_words c.args.flow.now c.args.place c.blocked.result in
    joined f c.args.pass.now.view c.find_rival.new.pass.view c.blocked.new.pass.view
    (weaker (flow_gens c.args.flow.now) f c.args.pass.now.view c.find_rival.new.pass.view (gens_in c.args.flow.now c.args.place c.blocked.result)
    (then_none (flow_gens c.args.flow.now) c.args.pass.now.view c.lock_sized-locked.new.pass.view c.find_rival.new.pass.view c.lock_sized-locked.ensures.words c.find_rival.ensures.words))
    (weaker (flow_gens c.args.flow.now) f c.find_rival.new.pass.view c.blocked.new.pass.view (gens_in c.args.flow.now c.args.place c.blocked.result) c.blocked.ensures.words)

pub returns-in-None-clause-words : goal.returns-in-None-clause-words
returns-in-None-clause-words g c =
    let f = enter_words c.args.flow.now c.args.place (Confirmed c.enter-id.result) in
    joined f c.args.pass.now.view c.find_rival.new.pass.view c.enter-id.new.pass.view
    (weaker (flow_gens c.args.flow.now) f c.args.pass.now.view c.find_rival.new.pass.view (in_one (flow_gens c.args.flow.now) (commit_words c.args.place c.args.flow.now))
    (then_none (flow_gens c.args.flow.now) c.args.pass.now.view c.lock_sized-locked.new.pass.view c.find_rival.new.pass.view c.lock_sized-locked.ensures.words c.find_rival.ensures.words))
    c.enter-id.ensures.words
