-- Tests of one record.
use Rattle.std.specs.Prelude.{ℕ, Bool, ◌==◌, ◌&&◌, ◌||◌, if◌then◌else◌, Option, Some, None}
use Rattle.tuple_core.specs.Tuple.{number_of}
use Rattle.tuple_core.specs.declared.Direction.{Direction}
use Rattle.tuple_core.specs.declared.Direction.TheVariants.{Original, Reply}
use Rattle.tuple_core.specs.declared.Tuple.{Tuple}
use Rattle.history_book.specs.declared.record.Record.{Record}

-- both tuples name one direction of one flow in one zone
abbrev pub same_tuple : Tuple → Tuple → Bool
same_tuple t u =
    number_of t.proto == number_of u.proto && t.zone == u.zone && t.src == u.src && t.dst == u.dst && t.a == u.a && t.b == u.b

abbrev pub has_id : ℕ → Record → Bool
has_id id r = r.id == id

abbrev pub has_place : ℕ → Record → Bool
has_place place r = r.place == place

-- packets with this tuple are of the entry, in the original direction
abbrev pub has_original : Tuple → Record → Bool
has_original t r = same_tuple r.original t

-- packets with this tuple are of the entry, in the reply direction
abbrev pub has_reply : Tuple → Record → Bool
has_reply t r = same_tuple r.reply t

-- the entry has the tuple in one of its directions
abbrev pub has_tuple : Tuple → Record → Bool
has_tuple t r = has_original t r || has_reply t r

-- the direction in which the tuple names the entry, the original one first
abbrev pub direction_of : Tuple → Record → Option Direction
direction_of t r = (if has_original t r then Some Original else (if has_reply t r then Some Reply else None))
