-- The definitions of zones read against a worked history: one query of UDP, from 10.0.0.1:5000 to 10.0.0.2:53, in zone 0
-- and in zone 7.
use Rattle.std.proofs.Common.{◌≡◌, ℕ, Bool, true, false, None, List, [], ◌∷◌, refl}
use Rattle.tuple_core.specs.Tuple.{in_zone}
use Rattle.tuple_core.specs.declared.Direction.TheVariants.{Reply}
use Rattle.tuple_core.specs.declared.Proto.TheVariants as proto
use Rattle.tuple_core.specs.declared.Segment.TheVariants as segment
use Rattle.tuple_core.specs.declared.Tuple.{Tuple}
use Rattle.proto_rules.specs.declared.Part.{Part}
use Rattle.proto_rules.specs.declared.PartKind.TheVariants as kind
use Rattle.history_book.specs.declared.event.Event.{Event}
use Rattle.history_book.specs.declared.event.Event.TheVariants.{Confirm, Touch, Destroy}
use Rattle.history_book.specs.declared.event.Why.TheVariants.{Flushed}
use Rattle.history_book.specs.Checked.{sizes_with}
use Rattle.history_book.specs.History.{after, is_legal}
use Rattle.history_book.specs.Zones.{event_zone, zone_events, zone_history}

abbrev query : Tuple
query = record { proto = proto.Udp; zone = 0; src = 167772161; dst = 167772162; a = 5000; b = 53 }

abbrev answer : Tuple
answer = record { proto = proto.Udp; zone = 0; src = 167772162; dst = 167772161; a = 53; b = 5000 }

abbrev part : Bool → ℕ → Part
part replied deadline = record { kind = kind.Udp; replied = replied; assured = false; deadline = deadline }

-- the entry of the query in a zone begins, with this id and place
abbrev begins : ℕ → ℕ → ℕ → Event
begins zone id place = Confirm (record {
  id = id;
  place = place;
  original = in_zone zone query;
  reply = in_zone zone answer;
  part = part false 1030000000;
  helper = false;
  master = None;
})

abbrev answered : ℕ → Event
answered id = Touch id Reply segment.Udp 1000500000 (part true 1120500000)

-- the same flow in two zones is two entries
abbrev log : List Event
log = begins 0 0 0 ∷ begins 7 1 1 ∷ answered 1 ∷ Destroy 0 Flushed ∷ Destroy 1 Flushed ∷ []

two_zones_are_legal : is_legal (sizes_with 2 0) log ≡ true
unfolding is_legal
two_zones_are_legal = refl

-- within one zone they would clash
one_zone_is_not : is_legal (sizes_with 2 0) (begins 7 0 0 ∷ begins 7 1 1 ∷ []) ≡ false
unfolding is_legal
one_zone_is_not = refl

zone_7_has_three_events : zone_events 7 log 5 ≡ record { number = 1; event = begins 7 1 1 }
    ∷ record { number = 2; event = answered 1 } ∷ record { number = 4; event = Destroy 1 Flushed } ∷ []
unfolding after
zone_7_has_three_events = refl

-- counted from 0, the entry is number 0
zone_7_alone : zone_history 7 log 5 ≡ begins 7 0 1 ∷ answered 0 ∷ Destroy 0 Flushed ∷ []
unfolding after
zone_7_alone = refl

-- an event that names nobody is of no zone
no_zone : event_zone (after log 5) (answered 1) ≡ None
unfolding after
no_zone = refl
