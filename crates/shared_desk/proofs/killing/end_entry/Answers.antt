use Rattle.std.proofs.Common.{ap, refl, sym, subst, ◌∙◌, ◌-◌}
use Rattle.track_rule.specs.ChangeLaws.{by_view, in_one, in_other, joined, weaker}
use Rattle.track_rule.specs.ChangesOnly.{ChangesWords, either, is_refs_of}
use Rattle.track_rule.specs.Readings.{stored}
use Rattle.track_rule.specs.Layout.{refs_word}
use Rattle.track_rule.specs.Sights.{sizes_of}
use Rattle.history_book.specs.declared.record.Flow.{Flow}
use Rattle.history_book.specs.declared.sizes.Sizes.{Sizes}
use Rattle.bucket_table.specs.Following.{bucket_in}
use Rattle.bucket_table.specs.Locks.{buckets_of}
use Rattle.shared_desk.specs.Killing.{flow_of}
use Rattle.shared_desk.specs.Changed.{destroy_words, end_words, flow_gens}
use Rattle.shared_desk.proofs.Wording.{gens_flow, refs_in}
use Rattle.shared_desk.proofs.Ended.{calm_then, down_then, ends, held_then, locked_flow, still_known, still_shut, whole}
use Rattle.shared_desk.proofs.killing.end_entry.Goals as goal

pub destroy-number-requires-clause-knows : goal.destroy-number-requires-clause-knows
destroy-number-requires-clause-knows g c =
    still_known c.args.place c.args.subject.now c.args.why c.flow_of-flow.result c.lock_flow-locked.result c.args.pass.now c.lock_flow-locked.new.pass
    c.requires.knows c.flow_of-flow.ensures c.lock_flow-locked.ensures.locks

pub destroy-number-requires-clause-locked : goal.destroy-number-requires-clause-locked
destroy-number-requires-clause-locked g c =
    locked_flow c.args.place c.args.subject.now c.args.why c.flow_of-flow.result c.lock_flow-locked.result c.args.pass.now c.lock_flow-locked.new.pass
    c.requires.knows c.flow_of-flow.ensures c.lock_flow-locked.ensures.locks

pub unlock_two-requires-clause-shut : goal.unlock_two-requires-clause-shut
unlock_two-requires-clause-shut g c =
    still_shut c.args.place c.args.subject.now c.args.why c.flow_of-flow.result c.lock_flow-locked.result c.args.pass.now c.lock_flow-locked.new.pass
    c.requires.knows c.flow_of-flow.ensures c.lock_flow-locked.ensures.locks c.destroy-number.result c.destroy-number.new.pass c.destroy-number.ensures.destroys

pub unlock_two-requires-clause-whole : goal.unlock_two-requires-clause-whole
unlock_two-requires-clause-whole g c =
    whole c.args.place c.args.subject.now c.args.why c.flow_of-flow.result c.lock_flow-locked.result c.args.pass.now c.lock_flow-locked.new.pass
    c.requires.knows c.flow_of-flow.ensures c.lock_flow-locked.ensures.locks c.destroy-number.result c.destroy-number.new.pass c.destroy-number.ensures.destroys

pub ref_down-requires-clause-held : goal.ref_down-requires-clause-held
ref_down-requires-clause-held g c =
    held_then c.args.place c.args.subject.now c.args.why c.flow_of-flow.result c.lock_flow-locked.result c.args.pass.now c.lock_flow-locked.new.pass
    c.requires.knows c.flow_of-flow.ensures c.lock_flow-locked.ensures.locks c.destroy-number.result c.destroy-number.new.pass c.destroy-number.ensures.destroys
    c.unlock_two.new.pass c.unlock_two.ensures.unlocks

pub ref_down-requires-clause-down : goal.ref_down-requires-clause-down
ref_down-requires-clause-down g c =
    down_then c.args.place c.args.subject.now c.args.why c.flow_of-flow.result c.lock_flow-locked.result c.args.pass.now c.lock_flow-locked.new.pass
    c.requires.knows c.flow_of-flow.ensures c.lock_flow-locked.ensures.locks c.destroy-number.result c.destroy-number.new.pass c.destroy-number.ensures.destroys
    c.unlock_two.new.pass c.unlock_two.ensures.unlocks

pub ref_down-requires-clause-calm : goal.ref_down-requires-clause-calm
ref_down-requires-clause-calm g c = λ carried.
    calm_then c.args.place c.args.subject.now c.args.why c.flow_of-flow.result c.lock_flow-locked.result c.args.pass.now c.lock_flow-locked.new.pass
    c.requires.knows c.flow_of-flow.ensures c.lock_flow-locked.ensures.locks c.destroy-number.result c.destroy-number.new.pass c.destroy-number.ensures.destroys
    c.unlock_two.new.pass c.unlock_two.ensures.unlocks

pub returns-clause-ends : goal.returns-clause-ends
returns-clause-ends g c =
    ends c.args.place c.args.subject.now c.args.why c.flow_of-flow.result c.lock_flow-locked.result c.args.pass.now c.lock_flow-locked.new.pass
    c.requires.knows c.flow_of-flow.ensures c.lock_flow-locked.ensures.locks c.destroy-number.result c.destroy-number.new.pass c.destroy-number.ensures.destroys
    c.unlock_two.new.pass c.unlock_two.ensures.unlocks c.ref_down.result c.ref_down.new.self c.requires.shut c.ref_down.ensures.lowers c.ref_down.ensures.kept

pub returns-clause-words : goal.returns-clause-words
returns-clause-words g c =
    let f = end_words c.args.place c.args.subject.now in
    let rest = either (is_refs_of c.args.place) (destroy_words c.args.place c.args.subject.now) in
    let locks = locked_flow c.args.place c.args.subject.now c.args.why c.flow_of-flow.result c.lock_flow-locked.result c.args.pass.now c.lock_flow-locked.new.pass
    c.requires.knows c.flow_of-flow.ensures c.lock_flow-locked.ensures.locks in
    joined f c.args.pass.now.view c.lock_flow-locked.new.pass.view c.ref_down.new.self.view
    (weaker _ f c.args.pass.now.view c.lock_flow-locked.new.pass.view (in_one (flow_gens (flow_of c.args.subject.now)) rest)
    (subst (λ (k : Flow). ChangesWords (flow_gens k) c.args.pass.now.view c.lock_flow-locked.new.pass.view) c.flow_of-flow.ensures c.lock_flow-locked.ensures.words))
    (joined f c.lock_flow-locked.new.pass.view c.destroy-number.new.pass.view c.ref_down.new.self.view
    (weaker _ f c.lock_flow-locked.new.pass.view c.destroy-number.new.pass.view
    (λ z r e. in_other (flow_gens (flow_of c.args.subject.now)) rest z r (in_other (is_refs_of c.args.place) (destroy_words c.args.place c.args.subject.now) z r e))
    c.destroy-number.ensures.words)
    (joined f c.destroy-number.new.pass.view c.unlock_two.new.pass.view c.ref_down.new.self.view
    (weaker _ f c.destroy-number.new.pass.view c.unlock_two.new.pass.view (in_one (flow_gens (flow_of c.args.subject.now)) rest)
    (gens_flow (flow_of c.args.subject.now) c.lock_flow-locked.result c.destroy-number.new.pass.view c.unlock_two.new.pass.view
    (locks.locked_are
    ∙ ap (λ (z : Sizes). buckets_of (bucket_in z c.args.subject.now.original) (bucket_in z c.args.subject.now.reply)) (sym (ap sizes_of c.destroy-number.ensures.destroys.same)))
    c.unlock_two.ensures.words))
    (weaker _ f c.unlock_two.new.pass.view c.ref_down.new.self.view
    (λ z r e. in_other (flow_gens (flow_of c.args.subject.now)) rest z r (in_one (is_refs_of c.args.place) (destroy_words c.args.place c.args.subject.now) z r e))
    (by_view (is_refs_of c.args.place) (stored (refs_word (sizes_of c.unlock_two.new.pass) c.args.place) (c.ref_down.result - 1)) c.unlock_two.new.pass.view c.ref_down.new.self.view _
    c.ref_down.ensures.lowers.view refl refl (refs_in (sizes_of c.unlock_two.new.pass) c.args.place (c.ref_down.result - 1))))))
