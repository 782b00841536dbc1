use Rattle.std.proofs.Common.{◌≡◌, ℕ, [], ◌∷◌, ◌++◌, arith, map, refl, subst, ◌∙◌}
use Rattle.std.proofs.lemmas.List.{length-map}
use Rattle.packet_headers.specs.declared.packet.Packet.TheVariants.{Invalid}
use Rattle.packet_path.specs.Packet.{given_of}
use Rattle.replay_runs.specs.Internal.Telling.{line_now}
use Rattle.replay_runs.proofs.Along.{along_more}
use Rattle.packet_path.specs.Handled.{counted_from}
use Rattle.replay_runs.proofs.Replays.{handled_at, replayed_next, replayed_start}
use Rattle.replay_runs.proofs.captures.replay_frames.Goals as goal

pub frames-init : goal.frames-init
frames-init g c =
    let count = length-map c.args.frames.now (given_of c.args.zone c.args.bytes.now) in
    record {
      replayed = replayed_start c.going_on_adds_up.ensures.all c.args.shared.now.setup.now (map (given_of c.args.zone c.args.bytes.now) c.args.frames.now)
          (g.D.Desk.sight c.args.job.now.desk) c.args.job.now.verdicts
          c.requires.knows c.requires.none (omega (arith, count, c.requires.room)) c.requires.nothing_held c.requires.nothing_owed;
      told = c.requires.told;
      queue = refl;
    }

pub tell-requires : goal.tell-requires
tell-requires g c =
    let h = c.in_ok-handle_into.ensures.handled in
    along_more (g.D.Desk.sight c.frames.job.desk).own (g.D.Desk.sight c.handle_into.new.desk).own h.handled.own h.handled.went.own
    (line_now c.args.shared.now.line) c.frames.job.sending c.frames.invariant.told

pub frames-preserved : goal.frames-preserved
frames-preserved g c =
    let below = c.frames-test.true in
    let h = c.in_ok-handle_into.ensures.handled in
    record {
      told = c.tell.ensures.told;
      queue = c.tell.ensures.queue ∙ c.frames.invariant.queue;
      replayed = replayed_next c.going_on_adds_up.ensures.all c.verdicts_still_fit.ensures c.lower_marks_fit.ensures c.args.shared.now.setup.now
          (map (given_of c.args.zone c.args.bytes.now) c.args.frames.now) (record { packet = Invalid; moment = 0; payload = [] }) c.frames.frame-index
          (g.D.Desk.sight c.args.job.now.desk) (g.D.Desk.sight c.frames.job.desk) (g.D.Desk.sight c.handle_into.new.desk)
          c.frames.job.verdicts c.handle_into.new.verdicts h.verdict c.frames.invariant.replayed
          (handled_at c.args.shared.now.setup.now (g.D.Desk.sight c.frames.job.desk) (g.D.Desk.sight c.handle_into.new.desk) c.frames.frame-index c.args.zone c.args.bytes.now c.args.frames.now _
          (record { packet = Invalid; moment = 0; payload = [] }) h.verdict (omega (arith, below)) h.handled)
          c.in_ok-handle_into.ensures.knows (omega (arith, below, length-map c.args.frames.now (given_of c.args.zone c.args.bytes.now)))
          (subst (λ (k : ℕ). c.handle_into.new.verdicts.items ≡ c.frames.job.verdicts.items ++ counted_from k h.verdict ∷ []) c.made-base.ensures.exact
          h.items)
          h.room;
    }
