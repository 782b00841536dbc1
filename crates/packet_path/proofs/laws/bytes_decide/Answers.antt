use Rattle.packet_path.proofs.Silent.{invalid_only, untracked_only}
use Rattle.packet_path.proofs.laws.bytes_decide.Goals as goal

pub returns : goal.returns
returns c = λ setup sizes log mark given own answer f. (
  λ why is. untracked_only setup sizes log mark given own answer why is f,
  λ is. invalid_only setup sizes log mark given own answer is f,
)
