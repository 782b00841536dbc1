-- What the fields of a desk at the shared book say, and when they are right.
use Rattle.std.specs.Prelude.{◌≡◌, ℕ, ◌+◌, ◌≤◌, List, [], ◌∷◌, length}
use Rattle.atomic_table.specs.Seated.{TableId}
use Rattle.history_book.specs.declared.event.Note.{Note}
use Rattle.history_book.specs.Sight.{IsKnown, Sight}
use Rattle.book_desk.specs.declared.turn.pass.TurnPass.{TurnPass}
use Rattle.book_desk.specs.declared.turn.view.TurnView.{TurnView}
use Rattle.book_desk.specs.Turn.Rule.{IsTable}

-- the numbers by which a table is told from others
abbrev pub numbers_of : TableId → List ℕ
numbers_of t = t.words ∷ t.slots ∷ t.views_name ∷ t.atom ∷ t.block ∷ t.offset ∷ t.slot_names

-- what a pass knows, with these own events and room for so many further ones, which took a place so many times
abbrev pub pass_sight : List ℕ → TurnView → List Note → ℕ → ℕ → Sight
pass_sight tracker v notes spare taken = record {
  front = v.front;
  own = notes;
  held = v.held;
  owed = v.owed;
  spare = spare;
  tracker = tracker;
  sizes = v.sizes;
  shares = v.shares;
  returned = v.returned;
  gathered = v.gathered;
  taken = taken;
}

-- what it knows by its fields
abbrev pub sight_at : TurnPass → Sight
sight_at p = pass_sight (numbers_of p.seat.table_id) p.seat.me.0 p.notes.items p.spare p.taken

-- the pass is at a shared book, without the turn; the notes are its own events, and there is room for further ones
pub record IsSeated (p : TurnPass) : Type 0 where
  pub table : IsTable p.seat.table_id
  pub away : p.seat.me.1 ≡ []
  pub turn : p.seat.me.0.turn ≡ 0
  pub sizes : p.sizes ≡ p.seat.me.0.sizes
  pub own : p.notes.items ≡ p.seat.me.0.own
  pub room : length p.notes.items + p.spare ≤ p.notes.room
  pub knows : IsKnown (sight_at p)
