use Rattle.track_rule.specs.ChangesOnly.{ChangesWords, no_word}
use Rattle.std.proofs.Common.{◌≡◌, ◌<◌}
use Rattle.track_rule.specs.Steps.{most_keeps}
use Rattle.shared_desk.proofs.commit.add_reference.Given as goal

abbrev pub invariant-tries : goal.invariant-tries
invariant-tries g l = record {
  next : (goal.iterator-tries g).can_next l.iterator';
  finite : (goal.iterator-tries g).is_finite l.iterator';
  same : l.pass ≡ record l.fn.pass { view = record l.fn.pass.view { readings = l.pass.view.readings } };
  words : ChangesWords no_word l.fn.pass.view l.pass.view;
  some : 0 < l.seen;
  bound : l.seen < most_keeps;
}
