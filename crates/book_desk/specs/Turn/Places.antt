-- The references and the owed places of the book are those of the passes.
use Rattle.std.specs.Prelude.{◌≡◌, ℕ, ◌+◌, ◌≤◌, List, length}
use Rattle.history_book.specs.declared.desk.Hold.{Hold}
use Rattle.book_desk.specs.declared.book.Book.{Book}
use Rattle.book_desk.specs.declared.turn.view.TurnView.{TurnView}
use Rattle.book_desk.specs.Turn.Sums.{Each, total}

-- However references are weighed, those of the book weigh what those of all passes weigh: each is that of one pass. So are
-- the places that are owed. A pass holds and owes four places at most. That a place is free, or owed, or in use, and never
-- two of these, is so of the book itself.
pub record AreOfPasses (b : Book) (views : List TurnView) : Type 0 where
  pub held : (weight : Hold → ℕ) → total weight b.holds.items ≡ total (λ v. total weight v.held) views
  pub owed : (weight : ℕ → ℕ) → total weight b.owed.items ≡ total (λ v. total weight v.owed) views
  pub few : Each (λ v. length v.held + length v.owed ≤ 4) views
