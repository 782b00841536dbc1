use Rattle.track_rule.specs.KeptWords.{link_of}
use Rattle.bucket_table.proofs.Meeting.{entry_else, entry_is, entry_none}
use Rattle.bucket_table.proofs.finding.entry_at.Goals as goal

pub returns-in-Some-direction_at : goal.returns-in-Some-direction_at
returns-in-Some-direction_at c =
    entry_is c.args.goal.now c.args.place c.in-Some.shown.id c.in-Some.shown.at c.in-Some-direction_at.direction c.args.pass.now c.live_at.new.pass
    c.direction_at.new.pass c.in-Some.ensures.shows c.in-Some-direction_at.ensures

pub returns-in-None-direction_at : goal.returns-in-None-direction_at
returns-in-None-direction_at c =
    entry_else c.args.goal.now (link_of c.args.met c.args.place) c.args.place c.in-Some.shown.id c.in-Some.shown.at c.args.pass.now c.live_at.new.pass
    c.direction_at.new.pass c.in-Some.ensures.shows c.in-None-direction_at.ensures

pub returns-in-None : goal.returns-in-None
returns-in-None c =
    entry_none c.args.goal.now (link_of c.args.met c.args.place) c.args.place c.args.pass.now c.live_at.new.pass c.in-None.ensures.shows
