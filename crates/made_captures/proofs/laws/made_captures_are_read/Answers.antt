use Rattle.made_captures.proofs.Reading.{made_is_capture}
use Rattle.made_captures.specs.MadeCapture.{made_capture}
use Rattle.made_captures.specs.MadeFrames.{made_frames}
use Rattle.made_captures.proofs.laws.made_captures_are_read.Goals as goal

pub returns-clause-frames : goal.returns-clause-frames
returns-clause-frames c = made_is_capture

pub returns-clause-no_others : goal.returns-clause-no_others
returns-clause-no_others c = λ seed packets thread frames few is.
    c.captures_are_unique.ensures (made_capture seed packets thread) frames (made_frames seed packets thread) is
    (made_is_capture seed packets thread few)

pub returns-clause-no_fault : goal.returns-clause-no_fault
returns-clause-no_fault c = λ seed packets thread fault few is.
    c.captures_have_no_fault.ensures (made_capture seed packets thread) (made_frames seed packets thread) fault
    (made_is_capture seed packets thread few) is
