-- How shares are handed over to a further pass, how a pass takes in another one, and what the last pass finds.
use Rattle.std.specs.Prelude.{◌≡◌, ℕ, ◌+◌, ◌-◌, true, List, [], ◌∷◌, ◌++◌, length}
use Rattle.history_book.specs.History.{is_legal}
use Rattle.history_book.specs.Point.{StartsWith}
use Rattle.history_book.specs.Sight.{AreEventsOf, notes_from}
use Rattle.history_book.specs.declared.event.Event.{Event}
use Rattle.history_book.specs.declared.event.Note.{Note}
use Rattle.track_rule.specs.declared.view.View.{View}
use Rattle.track_rule.specs.History.{events_in, live_in, records_after}
use Rattle.track_rule.specs.Passes.{AreFronts}
use Rattle.track_rule.specs.Rule.{fresh_view}
use Rattle.track_rule.specs.Sums.{total}

-- The pass keeps its first shares, the first of all among them, which is its own number.
abbrev pub shares_left : ℕ → View → View
shares_left shares v = record v { passes = record v.passes { shares = v.passes.shares - shares } }

-- The further pass has the last ones. It has seen as much, and has nothing else.
abbrev pub further : ℕ → View → View
further shares v = fresh_view v.passes.sizes (v.passes.first + (v.passes.shares - shares)) shares v.seen.front

-- The shares of the other pass count as returned, and its events as gathered; the pass is told how much it had seen, and what it was
-- told itself.
abbrev pub joined : View → View → View
joined v w = record v {
  passes = record v.passes { returned = v.passes.returned + (w.passes.shares + w.passes.returned) };
  seen = record v.seen { told = (w.seen.front ∷ w.seen.told) ++ v.seen.told; gathered = v.seen.gathered ++ w.seen.own ++ w.seen.gathered };
}

-- what is left of the other one
abbrev pub spent_view : View
spent_view = fresh_view (record { entries = 0; buckets = 0; seed = 0; passes = 0; expectations = 0 }) 0 0 []

-- The word is that of a legal history, which begins with all that the pass has seen; each of its events stands once among
-- the pass's own and those that it gathered.
pub record IsLast (v : View) (word : ℕ) : Type 0 where
  pub log : List Event
  pub front : StartsWith log v.seen.front
  pub told : AreFronts log v.seen.told
  pub legal : is_legal v.passes.sizes log ≡ true
  pub events : events_in word ≡ length log
  pub live : live_in word ≡ length (records_after log)
  pub own : AreEventsOf log v.seen.own
  pub gathered : AreEventsOf log v.seen.gathered
  pub made : (weight : Note → ℕ) → total weight (notes_from 0 log) ≡ total weight v.seen.own + total weight v.seen.gathered
  pub alone : v.passes.sizes.passes ≡ 1 → v.seen.own ≡ notes_from 0 log
