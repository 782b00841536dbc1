-- The end of a tracker.
use Rattle.std.specs.Prelude.{◌≡◌, ℕ, ◌+◌, ◌<◌, ◌==◌, true, List, ◌++◌, length}
use Rattle.std.specs.List.{count_by}
use Rattle.history_book.specs.declared.event.Event.{Event}
use Rattle.history_book.specs.declared.event.Note.{Note}
use Rattle.history_book.specs.declared.report.Closed.{Closed}
use Rattle.history_book.specs.History.{after, is_legal}
use Rattle.history_book.specs.Places.{HoldsNothing}
use Rattle.history_book.specs.Point.{StartsWith}
use Rattle.history_book.specs.Sight.{AreEventsOf, Sight}

-- the desk is one of this tracker and keeps no place, and all other passes were joined to it: all shares are its own or
-- were returned
pub record CanClose (tracker : List ℕ) (s : Sight) : Type 0 where
  pub same : s.tracker ≡ tracker
  pub empty : HoldsNothing s
  pub all : s.shares + s.returned ≡ s.sizes.passes

-- the notes are the events of the history, each of which stands once among them with its number
pub record AreAllEventsOf (log : List Event) (notes : List Note) : Type 0 where
  pub events : AreEventsOf log notes
  pub once : (n : ℕ) → n < length log → count_by (λ (note : Note). note.number == n) notes ≡ 1

-- There is one legal history, which goes on from what the desk had seen: the number of its events, how many entries are
-- live after it, and the desk's own events. These and the gathered events are all of it. A pass that is the only one had
-- seen it whole.
pub record Closes (s : Sight) (closed : Closed) : Type 0 where
  pub log : List Event
  pub front : StartsWith log s.front
  pub legal : is_legal s.sizes log ≡ true
  pub events : closed.events ≡ length log
  pub live : closed.live ≡ length (after log (length log)).records
  pub notes : closed.notes.items ≡ s.own
  pub all : AreAllEventsOf log (s.own ++ s.gathered)
  pub alone : s.sizes.passes ≡ 1 → log ≡ s.front
