use Rattle.std.proofs.Common.{ap, ◌∙◌}
use Rattle.track_rule.specs.Chains.{shuts_of}
use Rattle.track_rule.specs.Sights.{PassSight, sizes_of}
use Rattle.bucket_table.specs.TestPlace.{only_bucket}
use Rattle.bucket_table.proofs.Placing.{place_lowered, shut_stays, unlinked_shuts}
use Rattle.bucket_table.proofs.tests.unlink_locked.Goals as goal

pub returns-clause-shut : goal.returns-clause-shut
returns-clause-shut c =
    shut_stays only_bucket c.args.pass.now.view c.unlink.new.pass.view
    (λ b. ap (λ (x : PassSight). shuts_of b x.view) c.unlink.ensures.unlinks.same ∙ unlinked_shuts (sizes_of c.args.pass.now) c.args.place c.args.pass.now.view.buckets b)
    c.requires.shut

pub returns-clause-place : goal.returns-clause-place
returns-clause-place c =
    place_lowered c.args.place c.args.pass.now c.unlink.new.pass (ap sizes_of c.unlink.ensures.unlinks.same) (ap (λ (x : PassSight). x.view.places.owned) c.unlink.ensures.unlinks.same)
    (ap (λ (x : PassSight). x.view.commit.middle) c.unlink.ensures.unlinks.same)
    (ap (λ (x : PassSight). x.view.buckets.hooks) c.unlink.ensures.unlinks.same) c.requires.place
