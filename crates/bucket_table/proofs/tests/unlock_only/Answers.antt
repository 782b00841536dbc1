use Rattle.std.proofs.Common.{ap, false}
use Rattle.track_rule.specs.Sights.{PassSight, sizes_of}
use Rattle.bucket_table.proofs.Placing.{place_stays}
use Rattle.bucket_table.proofs.tests.unlock_only.Goals as goal

pub returns-clause-place : goal.returns-clause-place
returns-clause-place c =
    place_stays false c.args.place c.args.pass.now c.unlock_two.new.pass (ap sizes_of c.unlock_two.ensures.unlocks.same) (ap (λ (x : PassSight). x.view.places.owned) c.unlock_two.ensures.unlocks.same)
    (ap (λ (x : PassSight). x.view.commit.middle) c.unlock_two.ensures.unlocks.same) (ap (λ (x : PassSight). x.view.buckets.hooks) c.unlock_two.ensures.unlocks.same) c.requires.place
