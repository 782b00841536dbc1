use Rattle.packet_path.proofs.Silent.{error_silent}
use Rattle.packet_path.proofs.laws.errors_make_no_event.Goals as goal

pub returns : goal.returns
returns c = λ setup sizes log mark given inner outer own answer is f. error_silent setup sizes log mark given inner outer own answer is f
