use Rattle.std.proofs.Common.{ap, sym, ◌∙◌}
use Rattle.std.proofs.lemmas.Bool.{false≢true}
use Rattle.track_rule.specs.Chains.{shuts_of}
use Rattle.track_rule.specs.Sights.{PassSight, sizes_of}
use Rattle.bucket_table.specs.TestPlace.{only_bucket}
use Rattle.bucket_table.proofs.Placing.{calm_links, linked_shuts, place_raised, shut_stays}
use Rattle.bucket_table.proofs.tests.link_locked.Goals as goal

pub link-requires-clause-alone : goal.link-requires-clause-alone
link-requires-clause-alone c = λ q up. absurd (false≢true (sym (calm_links c.args.place c.args.pass.now c.requires.place.has q) ∙ up))

pub returns-clause-shut : goal.returns-clause-shut
returns-clause-shut c =
    shut_stays only_bucket c.args.pass.now.view c.link.new.pass.view
    (λ b. ap (λ (x : PassSight). shuts_of b x.view) c.link.ensures.links.same ∙ linked_shuts (sizes_of c.args.pass.now) c.args.place c.args.pass.now.view.buckets b)
    c.requires.shut

pub returns-clause-place : goal.returns-clause-place
returns-clause-place c =
    place_raised c.args.place c.args.pass.now c.link.new.pass (ap sizes_of c.link.ensures.links.same) (ap (λ (x : PassSight). x.view.places.owned) c.link.ensures.links.same)
    (ap (λ (x : PassSight). x.view.commit.middle) c.link.ensures.links.same)
    (ap (λ (x : PassSight). x.view.buckets.hooks) c.link.ensures.links.same) c.requires.place
