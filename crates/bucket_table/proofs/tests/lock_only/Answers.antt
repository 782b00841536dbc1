use Rattle.std.proofs.Common.{ap, false, ◌∙◌}
use Rattle.track_rule.specs.Sights.{PassSight, sizes_of}
use Rattle.bucket_table.proofs.Locking.{both_hooks}
use Rattle.bucket_table.proofs.Placing.{place_stays}
use Rattle.bucket_table.proofs.tests.lock_only.Goals as goal

pub returns-clause-place : goal.returns-clause-place
returns-clause-place g c =
    place_stays false c.args.place c.args.pass.now c.lock_two.new.pass (ap sizes_of c.lock_two.ensures.locks.same) (ap (λ (x : PassSight). x.view.places.owned) c.lock_two.ensures.locks.same)
    (ap (λ (x : PassSight). x.view.commit.middle) c.lock_two.ensures.locks.same) (ap (λ (x : PassSight). x.view.buckets.hooks) c.lock_two.ensures.locks.same
    ∙ both_hooks c.lock_two.result c.lock_two.new.pass.view.buckets c.args.pass.now.view.buckets) c.requires.place
