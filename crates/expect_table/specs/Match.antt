-- Which expectations a packet, or another expectation, has to do with.
use Rattle.std.specs.Prelude.{ℕ, Bool, not, ◌==◌, ◌&&◌, nat_lt}
use Rattle.tuple_core.specs.Tuple.{number_of}
use Rattle.tuple_core.specs.declared.Proto.TheVariants.{Tcp}
use Rattle.tuple_core.specs.declared.Tuple.{Tuple}
use Rattle.expect_table.specs.declared.expectation.Expectation.{Expectation}
use Rattle.expect_table.specs.declared.expectation.Want.{Want}

-- the connections that are wanted are the same
abbrev pub same_want : Want → Want → Bool
same_want v w = v.src == w.src && v.dst == w.dst && v.port == w.port

-- a connection of TCP with this tuple is wanted: its source, its destination and its destination port
abbrev pub is_wanted : Want → Tuple → Bool
is_wanted w t = number_of t.proto == number_of Tcp && w.src == t.src && w.dst == t.dst && w.port == t.b

-- it is still expected at the moment
abbrev pub is_awaited : ℕ → Expectation → Bool
is_awaited moment e = nat_lt moment e.deadline

-- it is of the zone
abbrev pub is_in_zone : ℕ → Expectation → Bool
is_in_zone zone e = e.zone == zone

-- it matches a packet with this tuple at the moment
abbrev pub is_match : Tuple → ℕ → Expectation → Bool
is_match t moment e = is_in_zone t.zone e && is_wanted e.want t && is_awaited moment e

-- it has the id
abbrev pub has_id : ℕ → Expectation → Bool
has_id id e = e.id == id

-- it is of this master
abbrev pub is_of : ℕ → Expectation → Bool
is_of master e = e.master == master

-- it stands in the way of the first: another master's, of the same zone and want, and still expected
abbrev pub is_rival : Expectation → ℕ → Expectation → Bool
is_rival e moment other =
    not (is_of e.master other) && is_in_zone e.zone other && same_want e.want other.want && is_awaited moment other
