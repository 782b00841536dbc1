use Rattle.std.specs.Prelude.{◌≡◌, map}
use Rattle.packet_path.specs.Packet.{given_of}
use Rattle.replay_runs.specs.Internal.Telling.{Between, HasTold, line_now, queue_of}
use Rattle.replay_runs.proofs.Replays.{IsReplayed}
use Rattle.replay_runs.proofs.captures.replay_frames.Given as goal

abbrev pub invariant-frames : goal.invariant-frames
invariant-frames g l = record {
  replayed : IsReplayed l.shared.setup.now (map (given_of l.zone l.bytes) l.frames) l.frame-index (g.D.Desk.sight l.fn.job.desk) (g.D.Desk.sight l.job.desk)
      l.job.verdicts;
  told : Between (HasTold (g.D.Desk.sight l.job.desk).own) (line_now l.shared.line) l.job.sending;
  queue : queue_of l.job.sending ≡ queue_of l.fn.job.sending;
}
