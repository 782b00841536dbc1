-- The passes of a tracker: their numbers, what they have seen of the one history, and who made its events.
use Rattle.std.specs.Prelude.{◌≡◌, ℕ, ◌+◌, ◌*◌, ◌<◌, ◌≤◌, ◌^◌, ◌&&◌, nat_le, nat_lt, if◌then◌else◌, List, [], length, AllPairs}
use Rattle.history_book.specs.declared.event.Event.{Event}
use Rattle.history_book.specs.declared.event.Note.{Note}
use Rattle.history_book.specs.declared.sizes.Sizes.{Sizes}
use Rattle.history_book.specs.Point.{StartsWith}
use Rattle.history_book.specs.Sight.{AreEventsOf, notes_from}
use Rattle.book_desk.specs.declared.turn.view.TurnView.{TurnView}
use Rattle.book_desk.specs.Turn.Sums.{Each, total}

-- the shares of the pass, and those that were returned to it
abbrev pub shares_of : TurnView → ℕ
shares_of v = v.shares + v.returned

-- 1 where the number is one of the pass's shares, else 0
abbrev pub has_share : ℕ → TurnView → ℕ
has_share n v = (if nat_le v.number n && nat_lt n (v.number + v.shares) then 1 else 0)

-- what weighs the pass's own events, and those that it gathered
abbrev pub made_weight : (Note → ℕ) → TurnView → ℕ
made_weight weight v = total weight v.own + total weight v.gathered

-- nothing is left of a pass that was joined to another one
pub record IsSpent (v : TurnView) : Type 0 where
  pub own : v.own ≡ []
  pub gathered : v.gathered ≡ []
  pub held : v.held ≡ []
  pub owed : v.owed ≡ []
  pub turn : v.turn ≡ 0

-- The pass has seen the first events of the history, and so had the one that it took in last (told). Its own events, and
-- those that it gathered, are events of it. Its shares are numbers of passes. The only pass has made every event.
pub record IsPass (z : Sizes) (log : List Event) (v : TurnView) : Type 0 where
  pub front : StartsWith log v.front
  pub told : StartsWith log v.told
  pub own : AreEventsOf log v.own
  pub ordered : AllPairs (λ m n. m.number < n.number) v.own
  pub own_few : length v.own ≤ 2 ^ 30
  pub gathered : AreEventsOf log v.gathered
  pub gathered_few : length v.gathered ≤ 2 ^ 30 * v.returned
  pub below : v.number + v.shares ≤ z.passes
  pub sized : 0 < v.shares → v.sizes ≡ z
  pub alone : z.passes ≡ 1 → 0 < v.shares → v.own ≡ notes_from 0 log
  pub spent : v.shares ≡ 0 → IsSpent v

-- No share is that of two passes; shares and returned shares are all passes of the sizes. However events are weighed, the
-- history weighs what the passes made and gathered: each event stands once among these.
pub record ArePasses (z : Sizes) (log : List Event) (views : List TurnView) : Type 0 where
  pub each : Each (IsPass z log) views
  pub apart : (n : ℕ) → total (has_share n) views ≤ 1
  pub all : total shares_of views ≡ z.passes
  pub made : (weight : Note → ℕ) → total weight (notes_from 0 log) ≡ total (made_weight weight) views
