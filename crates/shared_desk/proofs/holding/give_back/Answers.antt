use Rattle.std.proofs.Common.{ap, refl}
use Rattle.track_rule.specs.Sights.{PassSight}
use Rattle.shared_desk.proofs.Wording.{give_last, give_some}
use Rattle.shared_desk.proofs.HoldingBack.{back_free, back_kept, newest_held, none_carried, none_up, owed_now}
use Rattle.shared_desk.proofs.holding.give_back.Goals as goal

pub release-requires-clause-held : goal.release-requires-clause-held
release-requires-clause-held g c = newest_held c.args.place c.requires.0 c.args.pass.now c.requires.1

pub release-requires-clause-carried : goal.release-requires-clause-carried
release-requires-clause-carried g c = none_carried c.args.place c.requires.0 c.args.pass.now c.requires.1

pub release-requires-clause-down : goal.release-requires-clause-down
release-requires-clause-down g c = none_up c.args.place c.requires.0 c.args.pass.now c.requires.1

pub recycle-requires-clause-owed : goal.recycle-requires-clause-owed
recycle-requires-clause-owed g c = owed_now c.args.place c.requires.0 c.args.pass.now c.requires.1 c.release.new.pass c.in-Last.ensures

pub returns-in-Kept-clause-looks : goal.returns-in-Kept-clause-looks
returns-in-Kept-clause-looks g c = back_kept c.args.place c.requires.0 c.args.pass.now c.requires.1 c.release.new.pass c.in-Kept.ensures

pub returns-in-Last-clause-looks : goal.returns-in-Last-clause-looks
returns-in-Last-clause-looks g c =
    back_free c.args.place c.requires.0 c.args.pass.now c.requires.1 c.release.new.pass c.in-Last.ensures c.recycle.new.pass c.recycle.ensures.recycles

pub returns-in-Kept-clause-words : goal.returns-in-Kept-clause-words
returns-in-Kept-clause-words g c =
    give_some c.args.place c.in-Kept.ensures.left c.args.pass.now c.release.new.pass _ c.in-Kept.ensures.same refl refl

pub returns-in-Last-clause-words : goal.returns-in-Last-clause-words
returns-in-Last-clause-words g c =
    give_last c.args.place c.args.pass.now.view c.release.new.pass.view c.recycle.new.pass.view (ap (λ (x : PassSight). x.view.passes.sizes) c.in-Last.ensures.same)
    (ap (λ (x : PassSight). x.view.readings) c.in-Last.ensures.same) c.recycle.ensures.words
