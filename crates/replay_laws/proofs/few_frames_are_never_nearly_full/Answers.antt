use Rattle.replay_laws.proofs.FewFrames.{few_frames}
use Rattle.replay_laws.proofs.few_frames_are_never_nearly_full.Goals as goal

pub returns : goal.returns
returns c = few_frames c.one_thread_follows.ensures
