-- A desk hands over some of its shares to a further desk, for another thread.
use Rattle.std.specs.Prelude.{◌≡◌, ℕ, ◌+◌, ◌<◌, ◌≤◌, []}
use Rattle.history_book.specs.Point.{StartsWith}
use Rattle.history_book.specs.Sight.{Sight}

-- so many shares can be handed over: some, and not all
pub record CanSplit (shares : ℕ) (s : Sight) : Type 0 where
  pub some : 1 ≤ shares
  pub rest : shares < s.shares

-- The desk keeps all but the shares, and may have seen more. The further one has these shares and has seen as much; it
-- made no event, took and keeps no place, and nothing was returned to it.
pub record Splits (shares : ℕ) (old new further : Sight) : Type 0 where
  pub front : StartsWith new.front old.front
  pub shared : old.shares ≡ new.shares + shares
  pub kept : new ≡ record old { front = new.front; shares = new.shares }
  pub is : further ≡ record {
    front = new.front;
    own = [];
    held = [];
    owed = [];
    spare = 0;
    tracker = old.tracker;
    sizes = old.sizes;
    shares = shares;
    returned = 0;
    gathered = [];
    taken = 0;
  }
