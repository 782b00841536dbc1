use Rattle.packet_path.proofs.Marks.{frame_lower}
use Rattle.packet_path.proofs.laws.lower_marks_fit.Goals as goal

pub returns : goal.returns
returns c = λ setup sizes log lower mark given own class le fits. frame_lower log lower mark le setup sizes given own class fits
