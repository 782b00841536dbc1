-- For tests: the clerks of one tracker, to which one clerk handed over its shares.
use Rattle.std.specs.Prelude.{◌≡◌, ℕ, List, []}
use Rattle.history_book.specs.Places.{HoldsNothing}
use Rattle.history_book.specs.declared.sizes.Sizes.{Sizes}
use Rattle.history_book.specs.Sight.{Sight}

-- a clerk of the tracker of four passes with one share, which keeps no place; nothing was returned to it
pub record IsMember (numbers : List ℕ) (s : Sight) : Type 0 where
  pub tracker : s.tracker ≡ numbers
  pub passes : s.sizes.passes ≡ 4
  pub shares : s.shares ≡ 1
  pub returned : s.returned ≡ 0
  pub nothing : HoldsNothing s

-- one that made no event yet
pub record IsNew (numbers : List ℕ) (s : Sight) : Type 0 where
  pub member : IsMember numbers s
  pub own : s.own ≡ []

-- a clerk of the tracker of these sizes with one share, which keeps no place; nothing was returned to it
pub record IsOfPair (numbers : List ℕ) (given : Sizes) (s : Sight) : Type 0 where
  pub tracker : s.tracker ≡ numbers
  pub sizes : s.sizes ≡ given
  pub shares : s.shares ≡ 1
  pub returned : s.returned ≡ 0
  pub nothing : HoldsNothing s

-- one that made no event yet
pub record IsIdle (numbers : List ℕ) (given : Sizes) (s : Sight) : Type 0 where
  pub member : IsOfPair numbers given s
  pub own : s.own ≡ []

-- the first one of the tracker, or what is left for it: it has all shares of the passes, made no event and keeps no place
pub record IsFirst (numbers : List ℕ) (s : Sight) : Type 0 where
  pub tracker : s.tracker ≡ numbers
  pub shares : s.shares ≡ s.sizes.passes
  pub returned : s.returned ≡ 0
  pub own : s.own ≡ []
  pub nothing : HoldsNothing s
