use Rattle.replay_laws.proofs.SameText.{print_the_same}
use Rattle.replay_laws.proofs.same_reports_print_the_same.Goals as goal

pub returns : goal.returns
returns c = print_the_same
