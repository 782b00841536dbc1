-- The passes of a table. Every front is a first part of the one history. The shares of a pass are consecutive numbers
-- below the passes of the sizes, and no number is a share of two. Each event of the history is an own event of one pass, or
-- one that it gathered from passes that were joined to it: each stands once among these. A pass that was joined away has no
-- share, and nothing else either.
use Rattle.std.specs.Prelude.{◌≡◌, ℕ, ◌+◌, ◌*◌, ◌<◌, ◌≤◌, ◌^◌, ◌&&◌, nat_le, nat_lt, None, List, [], ◌∷◌, length, AllPairs}
use Rattle.history_book.specs.declared.event.Event.{Event}
use Rattle.history_book.specs.declared.event.Note.{Note}
use Rattle.history_book.specs.declared.sizes.Sizes.{Sizes}
use Rattle.history_book.specs.Point.{StartsWith}
use Rattle.history_book.specs.Sight.{AreEventsOf, notes_from}
use Rattle.track_rule.specs.declared.view.Middle.TheVariants.{Calm}
use Rattle.track_rule.specs.declared.view.Places.{Places}
use Rattle.track_rule.specs.declared.view.View.{View}
use Rattle.track_rule.specs.Sums.{Each, bit, total}

-- the shares of the pass, and those that were returned to it
abbrev pub shares_of : View → ℕ
shares_of v = v.passes.shares + v.passes.returned

-- 1 where the number is one of the pass's shares, else 0
abbrev pub has_share : ℕ → View → ℕ
has_share n v = bit (nat_le v.passes.first n && nat_lt n (v.passes.first + v.passes.shares))

-- what weighs the pass's own events, and those that it gathered
abbrev pub made_weight : (Note → ℕ) → View → ℕ
made_weight weight v = total weight v.seen.own + total weight v.seen.gathered

-- each of these begins the history
abbrev pub AreFronts : List Event → List (List Event) → Type 0
AreFronts log [] = Unit {0}
AreFronts log (f ∷ fs) = StartsWith log f × AreFronts log fs

-- no place is held or owed
abbrev pub no_places : Places
no_places = record { held = []; owed = []; clear = []; owned = []; carried = []; ended = [] }

-- the pass holds and owes no place, and has no turn and no bucket
pub record HasNothing (v : View) : Type 0 where
  pub held : v.places.held ≡ []
  pub owed : v.places.owed ≡ []
  pub clear : v.places.clear ≡ []
  pub owned : v.places.owned ≡ []
  pub carried : v.places.carried ≡ []
  pub free : v.free ≡ None
  pub shut : v.buckets.shut ≡ []
  pub hooks : v.buckets.hooks ≡ []
  pub hand : v.commit.hand ≡ None
  pub middle : v.commit.middle ≡ Calm
  pub expected : v.expected ≡ None

-- nothing is left of a pass that was joined to another one
pub record IsSpent (v : View) : Type 0 where
  pub own : v.seen.own ≡ []
  pub gathered : v.seen.gathered ≡ []
  pub nothing : HasNothing v

-- The pass has seen the first events of the history, and so had the passes that were joined to it; its own events, and those that it gathered, are
-- events of it. Its shares are numbers of passes. The only pass has made every event.
pub record IsPass (z : Sizes) (log : List Event) (v : View) : Type 0 where
  pub front : StartsWith log v.seen.front
  pub told : AreFronts log v.seen.told
  pub own : AreEventsOf log v.seen.own
  pub ordered : AllPairs (λ m n. m.number < n.number) v.seen.own
  pub own_few : length v.seen.own ≤ 2 ^ 30
  pub gathered : AreEventsOf log v.seen.gathered
  pub gathered_few : length v.seen.gathered ≤ 2 ^ 30 * v.passes.returned
  pub below : v.passes.first + v.passes.shares ≤ z.passes
  pub alone : z.passes ≡ 1 → 0 < v.passes.shares → v.seen.own ≡ notes_from 0 log
  pub spent : v.passes.shares ≡ 0 → IsSpent v

-- Shares and returned shares are all passes of the sizes. However events are weighed, the history weighs what the passes
-- made and gathered.
pub record ArePasses (z : Sizes) (log : List Event) (views : List View) : Type 0 where
  pub each : Each (IsPass z log) views
  pub apart : (n : ℕ) → total (has_share n) views ≤ 1
  pub all : total shares_of views ≡ z.passes
  pub made : (weight : Note → ℕ) → total weight (notes_from 0 log) ≡ total (made_weight weight) views
