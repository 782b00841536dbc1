use Rattle.packet_path.proofs.Growth.{frame_grows}
use Rattle.packet_path.proofs.laws.verdicts_still_fit.Goals as goal

pub returns : goal.returns
returns c = λ setup sizes log longer mark given own class starts fits.
    frame_grows c.events_stay.ensures c.states_stay.ensures longer log starts setup sizes mark given own class fits
