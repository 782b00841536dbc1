-- The protocol, the helper and the zone of an entry, by the Confirm that made it, and when a flow is lawful.
use Rattle.std.specs.Prelude.{ℕ, Bool, true, false, Option, Some, None, List, slice_get}
use Rattle.tuple_core.specs.declared.Segment.{Segment}
use Rattle.history_book.specs.declared.event.Event.{Event}
use Rattle.history_book.specs.declared.event.Event.TheVariants.{Confirm, Touch, Destroy, Expect, Claim, Unexpect}
use Rattle.history_book.specs.declared.event.Why.{Why}
use Rattle.history_book.specs.declared.event.Why.TheVariants as why
use Rattle.history_book.specs.declared.record.Flow.{Flow}
use Rattle.history_book.specs.declared.record.Record.{Record}
use Rattle.history_book.specs.Legality.{has_helper, is_of_one_flow}
use Rattle.proto_rules.specs.Protocol.{is_of_protocol}

-- the record that a flow becomes
abbrev pub record_for : Flow → ℕ → ℕ → Record
record_for flow id place = record {
  id = id;
  place = place;
  original = flow.original;
  reply = flow.reply;
  part = flow.part;
  helper = flow.helper;
  master = flow.master;
}

-- both tuples of the flow are valid, of one zone, and of the protocol of its part
abbrev pub is_lawful_flow : Flow → Bool
is_lawful_flow flow = is_of_one_flow (record_for flow 0 0)

-- the record of a Confirm
abbrev pub confirmed_by : Option Event → Option Record
confirmed_by None = None
confirmed_by (Some (Confirm r)) = Some r
confirmed_by (Some (Touch id direction segment moment after)) = None
confirmed_by (Some (Destroy id why)) = None
confirmed_by (Some (Expect expectation replaced moment)) = None
confirmed_by (Some (Claim expectation master tuple moment)) = None
confirmed_by (Some (Unexpect expectation moment)) = None

-- the entry of this id, which was confirmed in the history, has the helper
abbrev pub is_helped_entry : ℕ → List Event → Bool
is_helped_entry id log = has_helper (confirmed_by (slice_get log id))

-- the zone of a record, which is that of both its tuples
abbrev pub zone_of : Option Record → ℕ
zone_of None = 0
zone_of (Some r) = r.original.zone

-- the zone of the entry of this id, which was confirmed in the history
abbrev pub zone_of_entry : ℕ → List Event → ℕ
zone_of_entry id log = zone_of (confirmed_by (slice_get log id))

-- the segment is of the record's protocol
abbrev pub is_of_record : Segment → Option Record → Bool
is_of_record segment None = false
is_of_record segment (Some r) = is_of_protocol segment r.part.kind

-- the segment is of the protocol of the entry of this id, which was confirmed in the history
abbrev pub is_of_entry : Segment → ℕ → List Event → Bool
is_of_entry segment id log = is_of_record segment (confirmed_by (slice_get log id))

-- a reason that names a segment names one of the entry's protocol
abbrev pub suits_entry : Why → ℕ → List Event → Bool
suits_entry (why.Expired moment) id log = true
suits_entry (why.Reopened direction segment moment) id log = is_of_entry segment id log
suits_entry (why.Reset segment moment) id log = is_of_entry segment id log
suits_entry (why.Deleted filter) id log = true
suits_entry why.Flushed id log = true
suits_entry (why.Dropped moment) id log = true
