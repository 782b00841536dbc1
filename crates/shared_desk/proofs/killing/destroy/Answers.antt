use Rattle.std.proofs.Common.{ap}
use Rattle.track_rule.specs.ChangeLaws.{by_view, in_one, in_other, joined, weaker}
use Rattle.track_rule.specs.ChangesOnly.{either, is_history, is_phase_of, is_some_next}
use Rattle.track_rule.specs.Readings.{stored}
use Rattle.track_rule.specs.Layout.{phase_word}
use Rattle.track_rule.specs.Sights.{sizes_of}
use Rattle.track_rule.specs.Chains.{bucket_of}
use Rattle.history_book.specs.declared.event.Event.TheVariants.{Destroy}
use Rattle.shared_desk.specs.Killing.{flow_of}
use Rattle.shared_desk.specs.Changed.{destroy_words, flow_heads}
use Rattle.shared_desk.proofs.Wording.{dead_in, destroy_adds, unlink_flow}
use Rattle.std.proofs.Common.{refl}
use Rattle.shared_desk.proofs.Ending.{destroys, may_destroy, may_die, original_pair, original_ready, reply_pair, reply_ready, still_shut}
use Rattle.shared_desk.proofs.killing.destroy.Goals as goal

pub phase_dead-requires-clause-ready : goal.phase_dead-requires-clause-ready
phase_dead-requires-clause-ready c =
    may_die c.args.place c.args.subject.now c.args.why c.args.locked.now c.args.pass.now c.requires.knows c.requires.locked c.requires.helped

pub destroy_add-number-requires : goal.destroy_add-number-requires
destroy_add-number-requires c = record {
  can = may_destroy c.args.place c.args.subject.now c.args.why c.args.locked.now c.args.pass.now c.requires.knows c.requires.locked
      c.phase_dead.new.self c.phase_dead.ensures.shows c.phase_dead.ensures.kept c.requires.reason;
}

pub unlink-requires-clause-shut : goal.unlink-requires-clause-shut
unlink-requires-clause-shut c =
    still_shut c.args.place c.args.subject.now c.args.why c.args.locked.now c.args.pass.now c.requires.knows c.requires.locked
    c.phase_dead.new.self c.phase_dead.ensures.shows c.phase_dead.ensures.kept
    c.destroy_add-number.result c.destroy_add-number.new.self c.destroy_add-number.ensures.adds c.destroy_add-number.ensures.kept

pub unlink-requires-clause-original_ready : goal.unlink-requires-clause-original_ready
unlink-requires-clause-original_ready c =
    original_ready c.args.place c.args.subject.now c.args.why c.args.locked.now c.args.pass.now c.requires.knows c.requires.locked
    c.phase_dead.new.self c.phase_dead.ensures.shows c.phase_dead.ensures.kept
    c.destroy_add-number.result c.destroy_add-number.new.self c.destroy_add-number.ensures.adds c.destroy_add-number.ensures.kept
    c.records_are_of_one_flow.ensures

pub unlink-requires-clause-reply_ready : goal.unlink-requires-clause-reply_ready
unlink-requires-clause-reply_ready c =
    reply_ready c.args.place c.args.subject.now c.args.why c.args.locked.now c.args.pass.now c.requires.knows c.requires.locked
    c.phase_dead.new.self c.phase_dead.ensures.shows c.phase_dead.ensures.kept
    c.destroy_add-number.result c.destroy_add-number.new.self c.destroy_add-number.ensures.adds c.destroy_add-number.ensures.kept
    c.records_are_of_one_flow.ensures

pub returns-clause-destroys : goal.returns-clause-destroys
returns-clause-destroys c =
    destroys c.args.place c.args.subject.now c.args.why c.args.locked.now c.args.pass.now c.requires.knows c.requires.locked
    c.phase_dead.new.self c.phase_dead.ensures.shows c.phase_dead.ensures.kept
    c.destroy_add-number.result c.destroy_add-number.new.self c.destroy_add-number.ensures.adds c.destroy_add-number.ensures.kept
    c.unlink.new.pass c.unlink.ensures.unlinks

pub returns-clause-words : goal.returns-clause-words
returns-clause-words c =
    let f = destroy_words c.args.place c.args.subject.now in
    let rest = either is_history (either (flow_heads (flow_of c.args.subject.now)) is_some_next) in
    joined f c.args.pass.now.view c.phase_dead.new.self.view c.unlink.new.pass.view
    (weaker _ f c.args.pass.now.view c.phase_dead.new.self.view (in_one (is_phase_of c.args.place 2) rest)
    (by_view (is_phase_of c.args.place 2) (stored (phase_word (sizes_of c.args.pass.now) c.args.place) 2) c.args.pass.now.view c.phase_dead.new.self.view _
    (c.phase_dead.ensures.shows c.args.subject.now c.requires.knows.known).view refl refl (dead_in (sizes_of c.args.pass.now) c.args.place)))
    (weaker rest f c.phase_dead.new.self.view c.unlink.new.pass.view (in_other (is_phase_of c.args.place 2) rest)
    (joined rest c.phase_dead.new.self.view c.destroy_add-number.new.self.view c.unlink.new.pass.view
    (weaker _ rest c.phase_dead.new.self.view c.destroy_add-number.new.self.view (in_one is_history (either (flow_heads (flow_of c.args.subject.now)) is_some_next))
    (destroy_adds (Destroy c.args.subject.now.id c.args.why) c.phase_dead.new.self.view c.destroy_add-number.new.self.view c.destroy_add-number.result c.destroy_add-number.ensures.adds))
    (weaker _ rest c.destroy_add-number.new.self.view c.unlink.new.pass.view (in_other is_history (either (flow_heads (flow_of c.args.subject.now)) is_some_next))
    (unlink_flow (flow_of c.args.subject.now) _ _ c.destroy_add-number.new.self.view c.unlink.new.pass.view
    (ap (bucket_of (sizes_of c.destroy_add-number.new.self))
    (original_pair c.args.place c.args.subject.now c.args.why c.args.locked.now c.args.pass.now c.requires.knows c.requires.locked
    c.phase_dead.new.self c.phase_dead.ensures.shows c.phase_dead.ensures.kept
    c.destroy_add-number.result c.destroy_add-number.new.self c.destroy_add-number.ensures.adds c.destroy_add-number.ensures.kept))
    (ap (bucket_of (sizes_of c.destroy_add-number.new.self))
    (reply_pair c.args.place c.args.subject.now c.args.why c.args.locked.now c.args.pass.now c.requires.knows c.requires.locked
    c.phase_dead.new.self c.phase_dead.ensures.shows c.phase_dead.ensures.kept
    c.destroy_add-number.result c.destroy_add-number.new.self c.destroy_add-number.ensures.adds c.destroy_add-number.ensures.kept))
    c.unlink.ensures.words))))
