use Rattle.track_rule.proofs.LiveWords.{live_tuples}
use Rattle.track_rule.proofs.laws.entries_have_their_tuples.Goals as goal

pub returns-clause-live : goal.returns-clause-live
returns-clause-live c = λ z l s place id h below shown. live_tuples z l s h c.live_records_are_confirmed.ensures place id below shown

pub returns-clause-held : goal.returns-clause-held
returns-clause-held c = λ z l s i place id v h at held. h.kept_words.each i v at place id held
