use Rattle.std.proofs.Common.{ap, true}
use Rattle.track_rule.specs.Sights.{PassSight, sizes_of}
use Rattle.bucket_table.proofs.Placing.{place_stays}
use Rattle.bucket_table.proofs.tests.walk_locked.Goals as goal

pub returns-clause-place : goal.returns-clause-place
returns-clause-place c =
    place_stays true c.args.place c.args.pass.now c.walk.new.pass (ap sizes_of c.walk.ensures.loads.same) (ap (λ (x : PassSight). x.view.places.owned) c.walk.ensures.loads.same)
    (ap (λ (x : PassSight). x.view.commit.middle) c.walk.ensures.loads.same) (ap (λ (x : PassSight). x.view.buckets.hooks) c.walk.ensures.loads.same) c.requires.place
