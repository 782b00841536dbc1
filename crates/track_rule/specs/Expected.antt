-- What is expected. At most one pass has the turn of the expectations; that one knows them as the history left them, and
-- while none has it they are at home.
use Rattle.std.specs.Prelude.{◌≡◌, ℕ, ◌≤◌, Option, Some, None, List, slice_index}
use mathlib.Core.Option.{Option as Slotted, some}
use lib.ListN.{get_elem?}
use Rattle.expect_table.specs.declared.expectation.Expectation.{Expectation}
use Rattle.room_list.specs.Roomed.{Roomed}
use Rattle.history_book.specs.declared.event.Event.{Event}
use Rattle.history_book.specs.declared.sizes.Sizes.{Sizes}
use Rattle.track_rule.specs.declared.slot.Slot.{Slot}
use Rattle.track_rule.specs.declared.slot.Slot.TheVariants.{Expects}
use Rattle.track_rule.specs.declared.view.View.{View}
use Rattle.track_rule.specs.History.{state_after}
use Rattle.track_rule.specs.Sums.{Each, total}

-- 1 while the pass has the turn of the expectations, else 0
abbrev pub expected_turn : Option (List Expectation) → ℕ
expected_turn None = 0
expected_turn (Some list) = 1

abbrev pub has_expected : View → ℕ
has_expected v = expected_turn v.expected

pub record IsExpectedHome (z : Sizes) (log : List Event) (homes : List (Slotted Slot)) : Type 0 where
  pub table : Roomed Expectation
  pub there : get_elem? homes 1 ≡ some (some (Expects table))
  pub same : table.items ≡ (state_after log).expects
  pub room : table.room ≡ z.expectations

pub record AreExpected (z : Sizes) (log : List Event) (words : List ℕ) (homes : List (Slotted Slot)) (views : List View) : Type 0 where
  pub turn : slice_index words 2 ≡ total has_expected views
  pub single : slice_index words 2 ≤ 1
  pub home : slice_index words 2 ≡ 0 → IsExpectedHome z log homes
  pub away : Each (λ v. (list : List Expectation) → v.expected ≡ Some list → list ≡ (state_after log).expects) views
