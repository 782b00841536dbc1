use Rattle.history_book.proofs.Sights.{after_none, before_none, made_then_saw, resting, saw_then_made, saw_twice, went_on_twice}
use Rattle.history_book.proofs.sight_laws.going_on_adds_up.Goals as goal

pub returns : goal.returns
returns c = record {
  all = record {
    twice = went_on_twice;
    after = after_none;
    before = before_none;
    seen = saw_twice;
    resting = resting;
    event = λ a b d n e. (saw_then_made a b d n e, made_then_saw a b d n e);
  };
}
