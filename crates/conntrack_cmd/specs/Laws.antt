-- What holds of every answer that fits.
use Rattle.std.specs.Prelude.{◌≡◌, ◌≢◌, ℕ, ◌≤◌, true, List, [], Some, Option, None}
use Rattle.std.specs.List.{All, AllByRecursion}
use Rattle.history_book.specs.declared.answer.Answer.{Answer}
use Rattle.history_book.specs.declared.answer.Row.{Row}
use Rattle.history_book.specs.declared.answer.Said.{Said}
use Rattle.history_book.specs.declared.answer.Said.TheVariants as said
use Rattle.history_book.specs.declared.event.Event.{Event}
use Rattle.history_book.specs.declared.event.Event.TheVariants.{Destroy}
use Rattle.history_book.specs.declared.event.Note.{Note}
use Rattle.history_book.specs.declared.event.Why.TheVariants.{Deleted}
use Rattle.history_book.specs.declared.filter.Filter.{Filter}
use Rattle.history_book.specs.declared.record.Record.{Record}
use Rattle.history_book.specs.declared.sizes.Sizes.{Sizes}
use Rattle.history_book.specs.History.{after, is_legal}
use Rattle.history_book.specs.Point.{StartsWith}
use Rattle.history_book.specs.State.{next, record_of}
use Rattle.history_book.specs.Zones.{zone_part}
use Rattle.conntrack_cmd.specs.declared.command.Command.{Command}
use Rattle.conntrack_cmd.specs.declared.command.Command.TheVariants as command
use Rattle.conntrack_cmd.specs.Answer.{FitsCommand}

-- an answer that fits still fits when the history goes on
abbrev pub AnswersStillFit : Type 0
AnswersStillFit =
    (log longer : List Event) (mark : ℕ) (asked : Command) (own : List Note) (answer : Said) (from to : ℕ)
    → StartsWith longer log → FitsCommand log mark asked own answer from to → FitsCommand longer mark asked own answer from to

-- an answer that fits from a mark on fits from any lower mark on
abbrev pub LowerMarksFit : Type 0
LowerMarksFit =
    (log : List Event) (lower mark : ℕ) (asked : Command) (own : List Note) (answer : Said) (from to : ℕ)
    → lower ≤ mark → FitsCommand log mark asked own answer from to → FitsCommand log lower asked own answer from to

-- the rows of entries that an answer has, of `-L` or of `-D`
abbrev pub rows_said : Said → List Row
rows_said (said.Listed rows) = rows.items
rows_said (said.Expectations rows) = []
rows_said (said.Got row) = []
rows_said (said.Deleted rows) = rows.items
rows_said said.Flushed = []
rows_said (said.Counted live) = []
rows_said (said.Expired entries expectations) = []

-- the entry of the row is of this zone
abbrev pub IsRowOfZone : ℕ → Row → Type 0
IsRowOfZone zone row = row.subject.original.zone ≡ zone

-- the zone that `-L` or `-D` names
abbrev pub zone_named : Command → Option ℕ
zone_named (command.List filter) = filter.zone
zone_named command.ListExpect = None
zone_named (command.Get tuple) = None
zone_named (command.Delete filter) = filter.zone
zone_named command.Flush = None
zone_named command.Count = None
zone_named (command.Expire moment) = None

-- where a command names a zone, the rows of its answer are of that zone alone
abbrev pub NamesItsZone : Command → Answer → Type 0
NamesItsZone asked answer = (zone : ℕ) → zone_named asked ≡ Some zone → All (IsRowOfZone zone) (rows_said answer.said)

-- `-L` that names a zone lists entries of that zone alone
abbrev pub ZonedListsNameTheirZone : Type 0
ZonedListsNameTheirZone =
    (log : List Event) (mark : ℕ) (filter : Filter) (zone : ℕ) (own : List Note) (answer : Said) (from to : ℕ)
    → filter.zone ≡ Some zone → FitsCommand log mark (command.List filter) own answer from to
    → All (IsRowOfZone zone) (rows_said answer)

-- so does `-D`, in every legal history
abbrev pub ZonedDeletesNameTheirZone : Type 0
ZonedDeletesNameTheirZone =
    (sizes : Sizes) (log : List Event) (mark : ℕ) (filter : Filter) (zone : ℕ) (own : List Note) (answer : Said) (from to : ℕ)
    → is_legal sizes log ≡ true → filter.zone ≡ Some zone → FitsCommand log mark (command.Delete filter) own answer from to
    → All (IsRowOfZone zone) (rows_said answer)

-- the event destroyed an entry that was live in this zone, and left the part of each other zone as it was
pub record DestroysInZone (log : List Event) (zone : ℕ) (filter : Filter) (note : Note) : Type 0 where
  pub subject : Record
  pub event : note.event ≡ Destroy subject.id (Deleted filter)
  pub live : record_of subject.id (after log note.number) ≡ Some subject
  pub in_zone : subject.original.zone ≡ zone
  pub apart : (other : ℕ) → other ≢ zone → zone_part (next (after log note.number) note.event) other ≡ zone_part (after log note.number) other

-- each event of `-D` that names a zone destroys an entry of that zone, and leaves the others
abbrev pub ZonedDeletesLeaveOtherZones : Type 0
ZonedDeletesLeaveOtherZones =
    (sizes : Sizes) (log : List Event) (mark : ℕ) (filter : Filter) (zone : ℕ) (own : List Note) (answer : Said) (from to : ℕ)
    → is_legal sizes log ≡ true → filter.zone ≡ Some zone → FitsCommand log mark (command.Delete filter) own answer from to
    → AllByRecursion (DestroysInZone log zone filter) own
