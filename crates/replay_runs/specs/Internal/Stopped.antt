-- What a thread that wanted memory leaves of its desk.
use Rattle.std.specs.Prelude.{◌≡◌, List, []}
use Rattle.history_book.specs.declared.event.Note.{Note}
use Rattle.history_book.specs.Sight.{IsKnown, Sight}
use Rattle.history_book.specs.WentOn.{WentOn}

-- the desk went on by some events, and holds and owes nothing: it can be left, joined and closed as any other
pub record Stopped (old new : Sight) : Type 0 where
  pub own : List Note
  pub went : WentOn old new own
  pub held : new.held ≡ []
  pub owed : new.owed ≡ []
  pub known : IsKnown new
