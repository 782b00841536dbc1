-- What contracts see of a clerk, of what was left of one, and of a tracker.
use Rattle.std.specs.Prelude.{ℕ, ◌-◌, ◌^◌, min, Option, Some, None, List, ◌∷◌, map}
use Rattle.atomic_table.specs.Seated.{TableId}
use Rattle.history_book.specs.declared.desk.Hold.{Hold}
use Rattle.history_book.specs.declared.sizes.Sizes.{Sizes}
use Rattle.history_book.specs.Sight.{Sight}
use Rattle.track_rule.specs.declared.view.Keep.{Keep}
use Rattle.track_rule.specs.declared.view.Purpose.{Purpose}
use Rattle.track_rule.specs.declared.view.Purpose.TheVariants.{Taken, Testing, Shown, For}
use Rattle.track_rule.specs.ChangesOnly.{places_taken}
use Rattle.track_rule.specs.Sights.{BoardSight, PassSight, sizes_of}

-- its pass, and for how many further events of its own it has room
pub record ClerkSight : Type 0 where
  pub pass : PassSight
  pub spare : ℕ

-- the numbers by which a table is told from others, behind its sizes
abbrev pub numbers_of : TableId → Sizes → List ℕ
numbers_of t z =
    z.entries ∷ z.buckets ∷ z.seed ∷ z.passes ∷ z.expectations
    ∷ t.words ∷ t.slots ∷ t.views_name ∷ t.atom ∷ t.block ∷ t.offset ∷ t.slot_names

-- those of the table of a tracker
abbrev pub board_numbers : BoardSight → List ℕ
board_numbers b = numbers_of b.table b.sizes

-- the entry for which a place is held
abbrev pub entry_for : Purpose → Option ℕ
entry_for Taken = None
entry_for Testing = None
entry_for (Shown id) = None
entry_for (For id) = Some id

-- a reference as a desk sees it
abbrev pub hold_of : Keep → Hold
hold_of k = record { place = k.place; id = entry_for k.purpose }

-- how often the pass took a place: how often it made a phase OWNED, counted in 64 bits
abbrev pub taken_by : PassSight → ℕ
taken_by p = min (places_taken (sizes_of p) p.view.readings) (2 ^ 64 - 1)

-- what the clerk knows as a desk
abbrev pub sight_of : ClerkSight → Sight
sight_of c = record {
  front = c.pass.view.seen.front;
  own = c.pass.view.seen.own;
  held = map hold_of c.pass.view.places.held;
  owed = c.pass.view.places.owed;
  spare = c.spare;
  tracker = numbers_of c.pass.table (sizes_of c.pass);
  sizes = sizes_of c.pass;
  shares = c.pass.view.passes.shares;
  returned = c.pass.view.passes.returned;
  gathered = c.pass.view.seen.gathered;
  taken = taken_by c.pass;
}
