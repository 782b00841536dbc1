use Rattle.track_rule.proofs.AllPasses.{stays_out, use_left}
use Rattle.track_rule.proofs.laws.releases_leave_a_use.Goals as goal

pub returns-clause-stays : goal.returns-clause-stays
returns-clause-stays c = λ b b' i place v w k. stays_out b b' i place v w k

pub returns-clause-kept : goal.returns-clause-kept
returns-clause-kept c = λ b b' i place v w h h' k has.
    use_left c.uses_exclude_others.ensures c.places_are_in_the_pool.ensures b b' i place v w h h' k has
