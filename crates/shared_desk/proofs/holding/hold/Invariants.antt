use Rattle.track_rule.specs.ChangesOnly.{ChangesAndFrees}
use Rattle.shared_desk.specs.Changed.{hold_words}
use Rattle.shared_desk.specs.Holding.{OnlyLooks}
use Rattle.shared_desk.proofs.holding.hold.Given as goal

abbrev pub invariant-tries : goal.invariant-tries
invariant-tries g l = record {
  next : (goal.iterator-tries g).can_next l.iterator';
  finite : (goal.iterator-tries g).is_finite l.iterator';
  looks : OnlyLooks l.initial.pass l.pass;
  words : ChangesAndFrees (hold_words l.place) l.initial.pass.view l.pass.view;
}
