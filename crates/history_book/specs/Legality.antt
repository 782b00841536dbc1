-- Which events may happen in a state of the table, in a tracker of some sizes.
use Rattle.std.specs.Prelude.{ℕ, ◌+◌, Bool, true, false, not, ◌==◌, ◌&&◌, ◌||◌, nat_lt, Option, Some, None, find}
use Rattle.expect_table.specs.Expectations.{add_outcome, matching}
use Rattle.expect_table.specs.Match.{has_id, is_awaited}
use Rattle.expect_table.specs.declared.expectation.Expectation.{Expectation}
use Rattle.expect_table.specs.declared.table.AddOutcome.{AddOutcome}
use Rattle.expect_table.specs.declared.table.AddOutcome.TheVariants as add
use Rattle.tuple_core.specs.Tuple.{is_valid, number_of}
use Rattle.tuple_core.specs.declared.Direction.{Direction}
use Rattle.tuple_core.specs.declared.Direction.TheVariants.{Original}
use Rattle.tuple_core.specs.declared.Proto.{Proto}
use Rattle.tuple_core.specs.declared.Segment.{Segment}
use Rattle.history_book.specs.declared.event.Event.{Event}
use Rattle.history_book.specs.declared.event.Event.TheVariants.{Confirm, Touch, Destroy, Expect, Claim, Unexpect}
use Rattle.history_book.specs.declared.event.Why.{Why}
use Rattle.history_book.specs.declared.event.Why.TheVariants as why
use Rattle.proto_rules.specs.declared.Outcome.{Outcome}
use Rattle.proto_rules.specs.declared.Outcome.TheVariants as outcome
use Rattle.proto_rules.specs.declared.Part.{Part}
use Rattle.history_book.specs.declared.record.Record.{Record}
use Rattle.proto_rules.specs.Droppable.{droppable}
use Rattle.proto_rules.specs.Part.{is_expired}
use Rattle.proto_rules.specs.Same.{same_part}
use Rattle.proto_rules.specs.Protocol.{is_of_protocol, proto_of}
use Rattle.proto_rules.specs.Step.{step_of}
use Rattle.history_book.specs.declared.sizes.Sizes.{Sizes}
use Rattle.history_book.specs.Filter.{selects}
use Rattle.history_book.specs.State.{State, is_free, is_unused, record_of}

abbrev pub same_proto : Proto → Proto → Bool
same_proto p q = number_of p == number_of q

-- both tuples are of one zone, which is the record's
abbrev pub is_of_one_zone : Record → Bool
is_of_one_zone r = r.reply.zone == r.original.zone

-- both tuples are valid, of one zone, and of the protocol of the part
abbrev pub is_of_one_flow : Record → Bool
is_of_one_flow r =
    is_valid r.original && is_valid r.reply && is_of_one_zone r
    && same_proto r.original.proto (proto_of r.part.kind) && same_proto r.reply.proto (proto_of r.part.kind)

-- the place is one of the pool's and of no live record
abbrev pub is_open_place : Sizes → ℕ → State → Bool
is_open_place sizes place s = nat_lt place sizes.entries && is_unused place s

-- a record may be confirmed as event n: its id is that number, it is of one flow, its place is
-- open, and neither of its tuples is live in either direction
abbrev pub may_confirm : Sizes → State → ℕ → Record → Bool
may_confirm sizes s n r =
    r.id == n && is_of_one_flow r && is_open_place sizes r.place s && is_free r.original s && is_free r.reply s

-- the step accepts the packet, and the entry goes on with this part
abbrev pub accepts : Outcome → Part → Bool
accepts (outcome.Accept p) after = same_part p after
accepts outcome.Ignore after = false
accepts outcome.Invalid after = false
accepts outcome.Reopen after = false
accepts outcome.Reset after = false
accepts outcome.Expired after = false

-- the step reopens the connection
abbrev pub is_reopen : Outcome → Bool
is_reopen (outcome.Accept p) = false
is_reopen outcome.Ignore = false
is_reopen outcome.Invalid = false
is_reopen outcome.Reopen = true
is_reopen outcome.Reset = false
is_reopen outcome.Expired = false

-- the step resets the connection
abbrev pub is_reset : Outcome → Bool
is_reset (outcome.Accept p) = false
is_reset outcome.Ignore = false
is_reset outcome.Invalid = false
is_reset outcome.Reopen = false
is_reset outcome.Reset = true
is_reset outcome.Expired = false

-- an entry may be touched where it is live, the segment is of its protocol, and the step accepts it
abbrev pub may_touch : Option Record → Direction → Segment → ℕ → Part → Bool
may_touch None direction segment moment after = false
may_touch (Some r) direction segment moment after =
    is_of_protocol segment r.part.kind && accepts (step_of r.part direction segment moment) after

-- The reason holds of the record: it was expired at the moment, or a segment of its protocol reopened or
-- reset it then, or the filter of a command selects it; one that flushes all needs no more. One that makes room in a
-- full table needs a record that was expired at the moment or may be dropped. A reset is the same in both directions.
abbrev pub is_reason : Why → Record → Bool
is_reason (why.Expired moment) r = is_expired r.part moment
is_reason (why.Reopened direction segment moment) r =
    is_of_protocol segment r.part.kind && is_reopen (step_of r.part direction segment moment)
is_reason (why.Reset segment moment) r =
    is_of_protocol segment r.part.kind && is_reset (step_of r.part Original segment moment)
is_reason (why.Deleted filter) r = selects filter r
is_reason why.Flushed r = true
is_reason (why.Dropped moment) r = is_expired r.part moment || droppable r.part

-- an entry may be destroyed where it is live and the reason holds of it
abbrev pub may_destroy : Option Record → Why → Bool
may_destroy None why = false
may_destroy (Some r) why = is_reason why r

-- the entry is live and has the helper
abbrev pub has_helper : Option Record → Bool
has_helper None = false
has_helper (Some r) = r.helper

-- an entry may expect something in a zone where it is live, has the helper, and is of that zone
abbrev pub helps_in : ℕ → Option Record → Bool
helps_in zone None = false
helps_in zone (Some r) = r.helper && r.original.zone == zone

-- how long a connection is expected, in microseconds: 300 s
abbrev pub expected_for : ℕ
expected_for = 300000000

-- both are none, or both are one id
abbrev pub same_id : Option ℕ → Option ℕ → Bool
same_id None None = true
same_id None (Some n) = false
same_id (Some m) None = false
same_id (Some m) (Some n) = m == n

-- an expectation is added, in place of this older one
abbrev pub is_added : AddOutcome → Option ℕ → Bool
is_added (add.Added replaced) older = same_id replaced older
is_added (add.Clash id) older = false
is_added add.Full older = false

-- an expectation may come as event n at a moment: its id is that number, it ends 300 s later, its master may
-- expect something in its zone, and it is added
abbrev pub may_expect : Sizes → State → ℕ → Expectation → Option ℕ → ℕ → Bool
may_expect sizes s n e replaced moment =
    e.id == n && e.deadline == moment + expected_for && helps_in e.zone (record_of e.master s)
    && is_added (add_outcome sizes.expectations s.expects e moment) replaced

-- an expectation may be claimed where it is the first that matches, and is of this master
abbrev pub may_claim : Option Expectation → ℕ → ℕ → Bool
may_claim None id master = false
may_claim (Some e) id master = has_id id e && e.master == master

-- an expectation may end where there is one that is awaited no longer
abbrev pub may_unexpect : Option Expectation → ℕ → Bool
may_unexpect None moment = false
may_unexpect (Some e) moment = not (is_awaited moment e)

-- event n may happen in this state of a tracker of these sizes
abbrev pub may_happen : Sizes → State → ℕ → Event → Bool
may_happen sizes s n (Confirm r) = may_confirm sizes s n r
may_happen sizes s n (Touch id direction segment moment after) =
    may_touch (record_of id s) direction segment moment after
may_happen sizes s n (Destroy id why) = may_destroy (record_of id s) why
may_happen sizes s n (Expect expectation replaced moment) = may_expect sizes s n expectation replaced moment
may_happen sizes s n (Claim expectation master tuple moment) =
    may_claim (matching tuple moment s.expects) expectation master
may_happen sizes s n (Unexpect expectation moment) = may_unexpect (find (has_id expectation) s.expects) moment

-- the moment that a reason names, where the step reads it
abbrev pub reason_moment_of : Why → ℕ
reason_moment_of (why.Expired moment) = 0
reason_moment_of (why.Reopened direction segment moment) = moment
reason_moment_of (why.Reset segment moment) = moment
reason_moment_of (why.Deleted filter) = 0
reason_moment_of why.Flushed = 0
reason_moment_of (why.Dropped moment) = 0
