use Rattle.replay_laws.proofs.SameReports as proof
use Rattle.replay_laws.proofs.one_packet_one_answer.Goals as goal

pub returns : goal.returns
returns c = proof.one_packet_one_answer c.named_ends_are_unique.ensures c.free_is_absent.ensures c.one_thread_follows.ensures
