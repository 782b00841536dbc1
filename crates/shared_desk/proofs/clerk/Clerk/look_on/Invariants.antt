use Rattle.history_book.specs.Desk.{SamePlaces}
use Rattle.history_book.specs.WentOn.{Saw}
use Rattle.track_rule.specs.ChangesOnly.{ChangesAndFrees}
use Rattle.shared_desk.specs.Changed.{find_words}
use Rattle.shared_desk.specs.Sights.{sight_of}
use Rattle.shared_desk.proofs.clerk.Clerk.look_on.Given as goal

abbrev pub invariant-looks : goal.invariant-looks
invariant-looks g l = record {
  next : (goal.iterator-looks g).can_next l.iterator';
  finite : (goal.iterator-looks g).is_finite l.iterator';
  saw : Saw (sight_of l.initial.self) (sight_of l.self);
  same : SamePlaces (sight_of l.initial.self) (sight_of l.self);
  own : ChangesAndFrees find_words l.initial.self.pass.view l.self.pass.view;
}
