use Rattle.std.proofs.Common.{◌≡◌, ℕ, ◌<◌, ◌≤◌, List, get_or, ap, subst, ◌∙◌}
use Rattle.history_book.specs.declared.sizes.Sizes.{Sizes}
use Rattle.track_rule.specs.Sights.{sizes_of}
use Rattle.bucket_table.specs.Following.{bucket_in}
use Rattle.bucket_table.specs.declared.lookup.Goal.{Goal}
use Rattle.bucket_table.specs.declared.finding.FindOnce.TheVariants.{Absent, Moved}
use Rattle.std.proofs.Common.{None}
use Rattle.bucket_table.proofs.Chaining.{once_changes}
use Rattle.bucket_table.proofs.Answering.{meets_says, walk_moved}
use Rattle.bucket_table.proofs.finding.find_once.Goals as goal

pub returns-in-Link-clause-says : goal.returns-in-Link-clause-says
returns-in-Link-clause-says c =
    let g : Goal = record {
      bucket = c.bucket_of-bucket.result;
      generation = c.in-Link.generation;
      first = get_or c.words.result 0 0;
      second = get_or c.words.result 1 0;
    } in
    let sizes : c.sizes-sizes.result ≡ sizes_of c.args.pass.now = c.sizes-sizes.ensures.sizes in
    meets_says c.args.t.now g c.in-Link.place c.in-Link.direction c.args.pass.now c.follow.new.pass
    (subst (λ (z : Sizes). 1 ≤ z.passes) sizes c.sizes-sizes.ensures.limits.some_passes) c.requires.mine c.in-Link.ensures
    (c.bucket_of-bucket.ensures.exact ∙ ap (λ (z : Sizes). bucket_in z c.args.t.now) sizes)
    (subst (λ (z : Sizes). c.bucket_of-bucket.result < z.buckets) sizes c.bucket_of-bucket.ensures.below)
    (ap (λ (xs : List ℕ). get_or xs 0 0) c.words.ensures) (ap (λ (xs : List ℕ). get_or xs 1 0) c.words.ensures)
    c.meet.result c.meet.new.pass c.meet.ensures

pub returns-in-Moved-clause-says : goal.returns-in-Moved-clause-says
returns-in-Moved-clause-says c = walk_moved c.args.t.now c.in-Moved.word c.in-Moved.was c.in-Moved.now c.args.pass.now c.follow.new.pass c.in-Moved.ensures

pub returns-in-Link-clause-words : goal.returns-in-Link-clause-words
returns-in-Link-clause-words c = once_changes c.meet.result c.args.t.now c.args.pass.now c.meet.new.pass (returns-in-Link-clause-says c)

pub returns-in-End-clause-words : goal.returns-in-End-clause-words
returns-in-End-clause-words c = once_changes (Absent c.in-End.at) c.args.t.now c.args.pass.now c.follow.new.pass c.in-End.ensures

pub returns-in-Moved-clause-words : goal.returns-in-Moved-clause-words
returns-in-Moved-clause-words c =
    once_changes (Moved c.in-Moved.word c.in-Moved.was c.in-Moved.now None) c.args.t.now c.args.pass.now c.follow.new.pass (returns-in-Moved-clause-says c)
