-- What the calls of a desk on expectations answer. Old and new are what the desk knows before the call and after it.
use Rattle.std.specs.Prelude.{◌≡◌, ℕ, ◌+◌, ◌<◌, true, Option, Some, None, List, find}
use Rattle.expect_table.specs.Expectations.{add_outcome, matching}
use Rattle.expect_table.specs.Match.{has_id}
use Rattle.expect_table.specs.declared.expectation.Expectation.{Expectation}
use Rattle.expect_table.specs.declared.expectation.Want.{Want}
use Rattle.expect_table.specs.declared.table.AddOutcome.{AddOutcome}
use Rattle.expect_table.specs.declared.table.AddOutcome.TheVariants as add
use Rattle.tuple_core.specs.declared.Tuple.{Tuple}
use Rattle.history_book.specs.declared.event.Event.TheVariants.{Expect, Claim, Unexpect}
use Rattle.history_book.specs.declared.outcome.ClaimOutcome.{ClaimOutcome}
use Rattle.history_book.specs.declared.outcome.ClaimOutcome.TheVariants as claim
use Rattle.history_book.specs.declared.outcome.ExpectOutcome.{ExpectOutcome}
use Rattle.history_book.specs.declared.outcome.ExpectOutcome.TheVariants as expect
use Rattle.history_book.specs.declared.outcome.UnexpectOutcome.{UnexpectOutcome}
use Rattle.history_book.specs.declared.outcome.UnexpectOutcome.TheVariants as unexpect
use Rattle.history_book.specs.Desk.{IsGoneAt, SamePlaces}
use Rattle.history_book.specs.Held.{held_id}
use Rattle.history_book.specs.Entry.{zone_of_entry}
use Rattle.history_book.specs.Legality.{expected_for, helps_in}
use Rattle.history_book.specs.Sight.{Sight}
use Rattle.history_book.specs.State.{State, record_of}
use Rattle.history_book.specs.WentOn.{Looked, MadeEvent}

-- what an entry of a zone expects from a moment on, as event n
abbrev pub expectation_at : (n master zone : ℕ) → Want → ℕ → Expectation
expectation_at n master zone want moment =
    record { id = n; master = master; want = want; zone = zone; deadline = moment + expected_for }

-- the entry is live, in this zone, and has the helper, and adding what it expects, as event n of a tracker with room for so many
-- expectations, gives this
pub record AddGives (room n master zone : ℕ) (want : Want) (moment : ℕ) (outcome : AddOutcome) (s : State) : Type 0 where
  pub live : helps_in zone (record_of master s) ≡ true
  pub gives : add_outcome room s.expects (expectation_at n master zone want moment) moment ≡ outcome

-- it was not added
abbrev pub AddsNothing : ℕ → Want → ℕ → AddOutcome → Sight → Sight → ℕ → Type 0
AddsNothing master want moment outcome old new at =
    Looked old new at (AddGives new.sizes.expectations at master (zone_of_entry master old.front) want moment outcome)
    × SamePlaces old new

-- it is expected in the zone in which its master was confirmed, and its id is the event's number
abbrev pub MakesExpect : ℕ → Want → ℕ → Sight → Sight → ℕ → Option ℕ → Type 0
MakesExpect master want moment old new id replaced =
    MadeEvent old new id (Expect (expectation_at id master (zone_of_entry master old.front) want moment) replaced moment)
    × SamePlaces old new

abbrev pub ExpectSays : ℕ → Want → ℕ → Sight → Sight → ExpectOutcome → Type 0
ExpectSays place want moment old new (expect.Expected id replaced) =
    MakesExpect (held_id place old.held) want moment old new id replaced
ExpectSays place want moment old new (expect.MasterGone at) = IsGoneAt (held_id place old.held) old new at
ExpectSays place want moment old new (expect.Clash id at) =
    AddsNothing (held_id place old.held) want moment (add.Clash id) old new at
ExpectSays place want moment old new (expect.ExpectFull at) =
    AddsNothing (held_id place old.held) want moment add.Full old new at

abbrev pub ClaimSays : Tuple → ℕ → Sight → Sight → ClaimOutcome → Type 0
ClaimSays t moment old new (claim.Claimed number expectation master) =
    MadeEvent old new number (Claim expectation master t moment) × SamePlaces old new
ClaimSays t moment old new (claim.Unclaimed at) =
    Looked old new at (λ s. matching t moment s.expects ≡ None) × SamePlaces old new

-- the expectation of the id is there, and ends at this deadline
pub record IsDueUntil (id deadline : ℕ) (s : State) : Type 0 where
  pub subject : Expectation
  pub is : find (has_id id) s.expects ≡ Some subject
  pub ends : subject.deadline ≡ deadline

abbrev pub UnexpectSays : ℕ → ℕ → Sight → Sight → UnexpectOutcome → Type 0
UnexpectSays id moment old new (unexpect.Removed number) =
    MadeEvent old new number (Unexpect id moment) × SamePlaces old new
UnexpectSays id moment old new (unexpect.Gone at) =
    Looked old new at (λ s. find (has_id id) s.expects ≡ None) × SamePlaces old new
UnexpectSays id moment old new (unexpect.Not deadline at) =
    Looked old new at (IsDueUntil id deadline) × (moment < deadline) × SamePlaces old new

-- these are the expectations at the point
abbrev pub ListsExpected : List Expectation → Sight → Sight → ℕ → Type 0
ListsExpected listed old new at = Looked old new at (λ s. listed ≡ s.expects) × SamePlaces old new
