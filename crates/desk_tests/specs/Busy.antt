-- For tests: a pass of two, and what the other pass does before a call of it. The inner sight has the events
-- of both passes, and is that of a tracker of one.
use Rattle.std.specs.Prelude.{◌≡◌, ℕ, ◌+◌, ◌<◌, ◌≤◌, ◌^◌, List, [], length, AllPairs}
use Rattle.history_book.specs.declared.event.Note.{Note}
use Rattle.history_book.specs.Point.{StartsWith}
use Rattle.history_book.specs.Sight.{AreEventsOf, IsKnown, Sight}

-- what the pass knows that made these events alone, and took a place so many times: it has one of the two shares
abbrev pub seen_by : ℕ → Sight → List Note → ℕ → Sight
seen_by taken inner notes spare = record {
  front = inner.front;
  own = notes;
  held = inner.held;
  owed = inner.owed;
  spare = spare;
  tracker = [];
  sizes = record inner.sizes { passes = 2 };
  shares = 1;
  returned = 0;
  gathered = [];
  taken = taken;
}

-- the notes are events of the inner history in the order of their numbers, and there is room for further
-- events of both passes
pub record IsBusy (inner : Sight) (notes : List Note) (capacity spare others : ℕ) : Type 0 where
  pub known : IsKnown inner
  pub lone : inner.sizes.passes ≡ 1
  pub own : AreEventsOf inner.front notes
  pub ordered : AllPairs (λ m n. m.number < n.number) notes
  pub room : length notes + spare ≤ capacity
  pub few : length notes + spare ≤ 2 ^ 30
  pub left : spare + others ≤ inner.spare

-- the other pass made events, and gave up each place that it took
pub record Went (old new : Sight) (before after : ℕ) : Type 0 where
  pub known : IsKnown new
  pub front : StartsWith new.front old.front
  pub held : new.held ≡ old.held
  pub owed : new.owed ≡ old.owed
  pub sizes : new.sizes ≡ old.sizes
  pub fewer : after ≤ before
  pub spare : old.spare + after ≤ new.spare + before
