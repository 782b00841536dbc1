-- What the first desk of a tracker knows.
use Rattle.std.specs.Prelude.{◌≡◌, ℕ, List, []}
use Rattle.history_book.specs.declared.sizes.Sizes.{Sizes}
use Rattle.history_book.specs.Sight.{Sight}

-- the tracker is told by these numbers and has these sizes, nothing was done yet, and all shares of the passes are this
-- desk's
pub record IsFresh (numbers : List ℕ) (given : Sizes) (s : Sight) : Type 0 where
  pub tracker : s.tracker ≡ numbers
  pub front : s.front ≡ []
  pub own : s.own ≡ []
  pub held : s.held ≡ []
  pub owed : s.owed ≡ []
  pub spare : s.spare ≡ 0
  pub sizes : s.sizes ≡ given
  pub shares : s.shares ≡ given.passes
  pub returned : s.returned ≡ 0
  pub gathered : s.gathered ≡ []
  pub taken : s.taken ≡ 0
