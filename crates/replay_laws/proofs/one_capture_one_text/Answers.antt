use Rattle.replay_laws.proofs.OneText.{one_text}
use Rattle.replay_laws.proofs.one_capture_one_text.Goals as goal

pub returns : goal.returns
returns c = one_text c.one_packet_one_answer.ensures c.same_reports_print_the_same.ensures
