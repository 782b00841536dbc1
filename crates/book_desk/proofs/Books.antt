-- The book of a tracker that did nothing yet.
use Rattle.std.proofs.Common.{◌≡◌, ℕ, ◌*◌, ◌≤◌, List, [], refl, arith}
use Rattle.room_list.specs.Roomed.{Roomed}
use Rattle.expect_table.specs.declared.expectation.Expectation.{Expectation}
use Rattle.history_book.specs.declared.desk.Hold.{Hold}
use Rattle.history_book.specs.declared.record.Record.{Record}
use Rattle.history_book.specs.declared.sizes.Sizes.{Sizes}
use Rattle.history_book.specs.History.{after, is_legal}
use Rattle.history_book.specs.State.{empty_state}
use Rattle.history_book.specs.Sizes.{AreWithinLimits}
use Rattle.book_desk.specs.Fields.{IsBook, IsHistory}
use Rattle.book_desk.specs.Uses.{ArePlaces}
use Rattle.book_desk.specs.Internal.Book.{AreBelow}

-- all lists are empty, but that of the free places, which has all
pub record AreFresh (sizes : Sizes) (records : Roomed Record) (free : Roomed ℕ) (holds : Roomed Hold) (owed : Roomed ℕ) (expects : Roomed Expectation) : Type 0 where
  pub no_record : records.items ≡ []
  pub no_hold : holds.items ≡ []
  pub none_owed : owed.items ≡ []
  pub none_expected : expects.items ≡ []
  pub all_free : AreBelow sizes.entries 0 free.items
  pub records_room : sizes.entries ≤ records.room
  pub free_room : sizes.entries ≤ free.room
  pub holds_room : 4 * sizes.passes ≤ holds.room
  pub owed_room : 4 * sizes.passes ≤ owed.room
  pub expects_room : expects.room ≡ sizes.expectations

-- no events are a history
no_history : (sizes : Sizes) → IsHistory sizes [] empty_state
unfolding is_legal after
no_history sizes = record { legal = refl; state = refl }

-- where all places are free, each is once
fresh_places : (n : ℕ) (free : List ℕ) → AreBelow n 0 free → ArePlaces n [] [] free []
fresh_places n free h = record {
  once = λ p below. omega (arith, h.each p (omega arith) below);
  beyond = λ p above. omega (arith, h.high p above);
  single = λ p. omega arith;
}

-- a book with nothing in it is right
pub fresh_book : (sizes : Sizes) (records : Roomed Record) (free : Roomed ℕ) (holds : Roomed Hold) (owed : Roomed ℕ)
    (expects : Roomed Expectation) → AreWithinLimits sizes → AreFresh sizes records free holds owed expects
    → IsBook [] (record { sizes = sizes; events = 0; records = records; free = free; holds = holds; owed = owed; expects = expects })
fresh_book sizes records free holds owed expects limits h =
    rw (h.no_record, h.no_hold, h.none_owed, h.none_expected)
    (record {
      limits = limits;
      events = refl;
      history = no_history sizes;
      places = fresh_places sizes.entries free.items h.all_free;
      references = record { confirmed = tt; current = tt; agreed = tt };
      few = omega arith;
      rooms = record {
        records = h.records_room;
        free = h.free_room;
        holds = h.holds_room;
        owed = h.owed_room;
        expects = h.expects_room;
      };
    })
