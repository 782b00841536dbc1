-- What holds of every entry that begins, and of every step.
use Rattle.std.specs.Prelude.{◌≡◌, ℕ, ◌<◌, ◌==◌, true, false, Some, IsSome}
use Rattle.case_grid.specs.Cell.{cell}
use Rattle.case_grid.specs.Droppable.{droppable_cells}
use Rattle.tuple_core.specs.declared.Direction.{Direction}
use Rattle.tuple_core.specs.declared.Segment.{Segment}
use Rattle.proto_rules.specs.declared.Outcome.TheVariants.{Accept, Reopen, Reset, Expired}
use Rattle.proto_rules.specs.declared.Part.{Part}
use Rattle.proto_rules.specs.Droppable.{drop_column, drop_row, droppable}
use Rattle.proto_rules.specs.Part.{is_expired, replied_after}
use Rattle.proto_rules.specs.Protocol.{is_of_protocol, proto_of}
use Rattle.proto_rules.specs.Same.{same_part}
use Rattle.proto_rules.specs.Start.{start_of}
use Rattle.proto_rules.specs.Step.{step_of}

-- the part is of the segment's protocol, no reply was seen, it is not assured, and it lives on
pub record IsFresh (segment : Segment) (moment : ℕ) (part : Part) : Type 0 where
  pub protocol : is_of_protocol segment part.kind ≡ true
  pub unanswered : part.replied ≡ false
  pub unassured : part.assured ≡ false
  pub lives : moment < part.deadline

-- each entry begins so
abbrev pub EntriesBeginFresh : Type 0
EntriesBeginFresh =
    (segment : Segment) (moment : ℕ) (part : Part) → start_of segment moment ≡ Some part → IsFresh segment moment part

-- the entry was not expired, the segment is of its protocol, and it goes on as one of this protocol: a
-- reply was seen if one was before or this packet is one, what is assured stays so, and it lives on
pub record GoesOn (before : Part) (direction : Direction) (segment : Segment) (moment : ℕ) (after : Part) : Type 0 where
  pub live : is_expired before moment ≡ false
  pub protocol : is_of_protocol segment before.kind ≡ true
  pub same : proto_of after.kind ≡ proto_of before.kind
  pub replied : after.replied ≡ replied_after before direction
  pub assured : before.assured ≡ true → after.assured ≡ true
  pub lives : moment < after.deadline

-- each accepted packet leaves an entry that goes on
abbrev pub AcceptedGoOn : Type 0
AcceptedGoOn =
    (before : Part) (direction : Direction) (segment : Segment) (moment : ℕ) (after : Part)
    → step_of before direction segment moment ≡ Accept after → GoesOn before direction segment moment after

-- the segment is of the entry's protocol, no reply was seen, and the same packet resets the entry in
-- each direction
pub record IsUnanswered (part : Part) (segment : Segment) (moment : ℕ) : Type 0 where
  pub protocol : is_of_protocol segment part.kind ≡ true
  pub unanswered : part.replied ≡ false
  pub both : (direction : Direction) → step_of part direction segment moment ≡ Reset

-- what is reset was never answered
abbrev pub ResetsAreUnanswered : Type 0
ResetsAreUnanswered =
    (part : Part) (direction : Direction) (segment : Segment) (moment : ℕ)
    → step_of part direction segment moment ≡ Reset → IsUnanswered part segment moment

-- the segment is of the entry's protocol, and begins an entry
pub record BeginsAnew (part : Part) (segment : Segment) (moment : ℕ) : Type 0 where
  pub protocol : is_of_protocol segment part.kind ≡ true
  pub begins : IsSome (start_of segment moment)

-- what reopens an entry begins one
abbrev pub ReopensBeginAnew : Type 0
ReopensBeginAnew =
    (part : Part) (direction : Direction) (segment : Segment) (moment : ℕ)
    → step_of part direction segment moment ≡ Reopen → BeginsAnew part segment moment

-- a step answers Expired where the entry is expired, and only there
pub record IsToldExpired (part : Part) (direction : Direction) (segment : Segment) (moment : ℕ) : Type 0 where
  pub only : step_of part direction segment moment ≡ Expired → is_expired part moment ≡ true
  pub always : is_expired part moment ≡ true → step_of part direction segment moment ≡ Expired

abbrev pub ExpiredAreTold : Type 0
ExpiredAreTold =
    (part : Part) (direction : Direction) (segment : Segment) (moment : ℕ)
    → IsToldExpired part direction segment moment

-- the test of two parts says exactly whether they are equal
abbrev pub SamePartIsEquality : Type 0
SamePartIsEquality = (p q : Part) → (same_part p q ≡ true → p ≡ q) × (p ≡ q → same_part p q ≡ true)

-- in the grid of what may go, the cell of each part is 1 exactly where the rule says that an entry with it may go
abbrev pub DropGridIsRule : Type 0
DropGridIsRule = (part : Part) → (cell droppable_cells (drop_row part.kind part.assured) (drop_column part.kind) == 1) ≡ droppable part
