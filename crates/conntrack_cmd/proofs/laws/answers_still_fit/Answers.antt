use Rattle.conntrack_cmd.proofs.Growth.{answer_grows}
use Rattle.conntrack_cmd.proofs.laws.answers_still_fit.Goals as goal

pub returns : goal.returns
returns c = λ log longer mark asked own answer from to starts fits.
    answer_grows c.events_stay.ensures c.states_stay.ensures longer log starts mark asked own answer from to fits
