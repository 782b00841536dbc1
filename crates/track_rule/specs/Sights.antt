-- What contracts see of a pass, and of a table.
use Rattle.std.specs.Prelude.{◌≡◌, ℕ, ◌<◌, List, [], ◌∷◌}
use Rattle.atomic_table.specs.Seated.{TableId}
use Rattle.atomic_table.specs.Table.{Me}
use Rattle.history_book.specs.declared.sizes.Sizes.{Sizes}
use Rattle.history_book.specs.Sizes.{AreWithinLimits}
use Rattle.track_rule.specs.declared.slot.Slot.{Slot}
use Rattle.track_rule.specs.declared.view.Keep.{Keep}
use Rattle.track_rule.specs.declared.view.Places.{Places}
use Rattle.track_rule.specs.declared.view.View.{View}
use Rattle.track_rule.specs.Layout.{IsTable}
use Rattle.track_rule.specs.Rule.{first_view}
use Rattle.track_rule.specs.Slots.{AllSuit, numbers, numbers_of}

-- the table of the pass, what the pass knows, and the slots that it has out, each with what lies in it
pub record PassSight : Type 0 where
  pub table : TableId
  pub view : View
  pub slots : List (ℕ × Slot)

-- a table and its sizes
pub record BoardSight : Type 0 where
  pub table : TableId
  pub sizes : Sizes

abbrev pub sizes_of : PassSight → Sizes
sizes_of p = p.view.passes.sizes

-- the pass has seen this much of the history, and has this note of a walk and these readings; all else is as it was
abbrev pub looked_on : PassSight → PassSight → PassSight
looked_on v w = record v {
  view = record v.view { seen = record v.view.seen { front = w.view.seen.front }; walk = w.view.walk; readings = w.view.readings };
}

-- the pass is one of this table
pub record IsPassOf (board : BoardSight) (p : PassSight) : Type 0 where
  pub table : p.table ≡ board.table
  pub sizes : sizes_of p ≡ board.sizes

-- all places that are held, or owed, are below the entries
abbrev pub AreHeldBelow : ℕ → List Keep → Type 0
AreHeldBelow entries [] = Unit {0}
AreHeldBelow entries (k ∷ ks) = (k.place < entries) × AreHeldBelow entries ks

abbrev pub AreOwedBelow : ℕ → List ℕ → Type 0
AreOwedBelow entries [] = Unit {0}
AreOwedBelow entries (p ∷ ps) = (p < entries) × AreOwedBelow entries ps

pub record AreOfPool (entries : ℕ) (places : Places) : Type 0 where
  pub held : AreHeldBelow entries places.held
  pub owed : AreOwedBelow entries places.owed

-- a pass has a share, holds and owes places of the pool alone, and has out of their slots what its turns let it have out
pub record IsPassSight (p : PassSight) : Type 0 where
  pub counts : IsTable (sizes_of p) p.table
  pub limits : AreWithinLimits (sizes_of p)
  pub some : 0 < p.view.passes.shares
  pub carries : numbers p.slots ≡ numbers_of p.view
  pub pool : AreOfPool (sizes_of p).entries p.view.places
  pub suit : AllSuit p.slots

-- what a seat knows
abbrev pub sight_at : TableId → Me Slot View → PassSight
sight_at table me = record { table = table; view = me.0; slots = me.1 }

-- a pass at a table whose rule is told of these sizes, which it has itself too
pub record IsAt (table : TableId) (key sizes : Sizes) (p : PassSight) : Type 0 where
  pub same : p.table ≡ table
  pub key_is : sizes_of p ≡ key
  pub sizes_are : sizes ≡ sizes_of p
  pub right : IsPassSight p

-- a pass that was left
pub record IsLeft (sizes : Sizes) (p : PassSight) : Type 0 where
  pub sizes_are : sizes ≡ sizes_of p
  pub right : IsPassSight p

-- a table
pub record IsBoard (b : BoardSight) : Type 0 where
  pub table : IsTable b.sizes b.table
  pub limits : AreWithinLimits b.sizes

-- the first pass of a table of these sizes
pub record IsFirst (z : Sizes) (board : BoardSight) (p : PassSight) : Type 0 where
  pub table : p.table ≡ board.table
  pub sizes : board.sizes ≡ z
  pub view : p.view ≡ first_view z
  pub slots : p.slots ≡ []
