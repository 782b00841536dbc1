use Rattle.track_rule.specs.declared.view.View.{View}
use Rattle.std.proofs.Common.{◌+◌}
use Rattle.track_rule.specs.ChangeLaws.{by_pass, in_one, in_other, joined, weaker}
use Rattle.track_rule.specs.ChangesOnly.{either, is_history, is_live_of, is_next_of, is_refs_of}
use Rattle.track_rule.specs.Readings.{stored}
use Rattle.track_rule.specs.Layout.{phase_word}
use Rattle.track_rule.specs.Chains.{bucket_of}
use Rattle.shared_desk.specs.Changed.{commit_words, flow_heads}
use Rattle.std.proofs.Common.{refl}
use Rattle.shared_desk.proofs.Wording.{confirm_adds, link_flow, live_in}
use Rattle.std.proofs.Common.{ap, arith, sym, ◌∙◌}
use Rattle.std.proofs.lemmas.Bool.{false≢true}
use Rattle.track_rule.specs.Sights.{sizes_of}
use Rattle.bucket_table.specs.Following.{bucket_in}
use Rattle.bucket_table.specs.LockedChain.{has_bucket, original_link, reply_link}
use Rattle.bucket_table.specs.Locks.{Buckets}
use Rattle.shared_desk.proofs.Entering.{can_confirm, committed, has_second, held_after, is_ready, valid_reply}
use Rattle.shared_desk.proofs.Linking.{down_from, none_up}
use Rattle.shared_desk.proofs.commit.commit.Goals as goal

pub link_in-requires-clause-original : goal.link_in-requires-clause-original
link_in-requires-clause-original g c = down_from (original_link c.args.place) c.args.pass.now.view.buckets.hooks (omega (arith, c.requires.can.original)) c.requires.can.down

pub link_in-requires-clause-reply : goal.link_in-requires-clause-reply
link_in-requires-clause-reply g c = down_from (reply_link c.args.place) c.args.pass.now.view.buckets.hooks (omega (arith, c.requires.can.reply)) c.requires.can.down

pub link_in-requires-clause-alone : goal.link_in-requires-clause-alone
link_in-requires-clause-alone g c = λ q up. absurd (false≢true (sym (none_up q c.args.pass.now.view.buckets.hooks c.requires.can.down) ∙ up))

pub link_in-requires-clause-reply_ready : goal.link_in-requires-clause-reply_ready
link_in-requires-clause-reply_ready g c =
    let z = sizes_of c.args.pass.now in
    is_ready (sizes_of c.args.pass.now) c.args.locked.now (reply_link c.args.place) c.args.flow.now.reply c.args.pass.now.view.buckets.hooks
    (valid_reply c.args.flow.now c.requires.can.protocol) c.requires.can.reply_pair
    (ap (λ (l : Buckets). has_bucket l (bucket_in (sizes_of c.args.pass.now) c.args.flow.now.reply)) c.requires.can.locked_are
    ∙ has_second (bucket_in (sizes_of c.args.pass.now) c.args.flow.now.original) (bucket_in (sizes_of c.args.pass.now) c.args.flow.now.reply))

pub confirm_add-id-requires : goal.confirm_add-id-requires
confirm_add-id-requires g c = record {
  can = can_confirm c.args.place c.args.flow.now c.args.locked.now c.record_for.result c.args.pass.now c.link_in.new.pass c.add_reference.new.pass c.record_for.ensures c.requires.can c.link_in.ensures.links c.add_reference.ensures.adds;
}

pub phase_live-requires-clause-held : goal.phase_live-requires-clause-held
phase_live-requires-clause-held g c =
    held_after c.args.place c.args.flow.now c.args.locked.now c.confirm_add-id.result c.record_for.result c.args.pass.now c.link_in.new.pass c.add_reference.new.pass c.confirm_add-id.new.self
    c.record_for.ensures c.requires.can c.link_in.ensures.links c.add_reference.ensures.adds c.confirm_add-id.ensures.adds

pub returns-clause-commits : goal.returns-clause-commits
returns-clause-commits g c =
    committed c.args.place c.args.flow.now c.args.locked.now c.confirm_add-id.result c.record_for.result c.args.pass.now c.link_in.new.pass c.add_reference.new.pass c.confirm_add-id.new.self c.phase_live.new.self
    c.record_for.ensures c.requires.can c.link_in.ensures.links c.add_reference.ensures.adds c.confirm_add-id.ensures.adds c.confirm_add-id.ensures.kept c.phase_live.ensures

pub returns-clause-words : goal.returns-clause-words
returns-clause-words g c =
    let f = commit_words c.args.place c.args.flow.now in
    joined f c.args.pass.now.view c.link_in.new.pass.view c.phase_live.new.self.view
    (weaker _ f c.args.pass.now.view c.link_in.new.pass.view (in_one (either (flow_heads c.args.flow.now) (is_next_of c.args.place)) (either (is_refs_of c.args.place) (either is_history (is_live_of c.args.place))))
    (link_flow c.args.place c.args.flow.now _ _ c.args.pass.now.view c.link_in.new.pass.view (ap (bucket_of (sizes_of c.args.pass.now)) c.requires.can.original_pair)
    (ap (bucket_of (sizes_of c.args.pass.now)) c.requires.can.reply_pair) c.link_in.ensures.words))
    (weaker _ f c.link_in.new.pass.view c.phase_live.new.self.view (in_other (either (flow_heads c.args.flow.now) (is_next_of c.args.place)) (either (is_refs_of c.args.place) (either is_history (is_live_of c.args.place))))
    (joined (either (is_refs_of c.args.place) (either is_history (is_live_of c.args.place))) c.link_in.new.pass.view c.add_reference.new.pass.view c.phase_live.new.self.view
    (weaker _ _ c.link_in.new.pass.view c.add_reference.new.pass.view (in_one (is_refs_of c.args.place) (either is_history (is_live_of c.args.place))) c.add_reference.ensures.words)
    (weaker _ _ c.add_reference.new.pass.view c.phase_live.new.self.view (in_other (is_refs_of c.args.place) (either is_history (is_live_of c.args.place)))
    (joined (either is_history (is_live_of c.args.place)) c.add_reference.new.pass.view c.confirm_add-id.new.self.view c.phase_live.new.self.view
    (weaker _ _ c.add_reference.new.pass.view c.confirm_add-id.new.self.view (in_one is_history (is_live_of c.args.place))
    (confirm_adds c.record_for.result c.add_reference.new.pass.view c.confirm_add-id.new.self.view c.confirm_add-id.result c.confirm_add-id.ensures.adds))
    (weaker _ _ c.confirm_add-id.new.self.view c.phase_live.new.self.view (in_other is_history (is_live_of c.args.place))
    (by_pass (is_live_of c.args.place) (stored (phase_word (sizes_of c.confirm_add-id.new.self) c.args.place) (3 + c.confirm_add-id.result)) c.confirm_add-id.new.self c.phase_live.new.self _
    (c.phase_live.ensures _ (ap (λ (k : View). k.commit.middle) c.confirm_add-id.ensures.adds.view)) refl refl
    (live_in (sizes_of c.confirm_add-id.new.self) c.args.place c.confirm_add-id.result)))))))
