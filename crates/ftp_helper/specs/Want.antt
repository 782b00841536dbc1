-- What is expected where a payload names an end.
use Rattle.std.specs.Prelude.{ℕ, ◌==◌, Bool, true, if◌then◌else◌, Option, Some, None}
use Rattle.tuple_core.specs.declared.Direction.{Direction}
use Rattle.tuple_core.specs.declared.Direction.TheVariants.{Original, Reply}
use Rattle.tuple_core.specs.declared.Tuple.{Tuple}
use Rattle.expect_table.specs.declared.expectation.Want.{Want}
use Rattle.ftp_helper.specs.declared.payload.NamedEnd.{NamedEnd}

-- the other direction
abbrev pub opposite : Direction → Direction
opposite Original = Reply
opposite Reply = Original

-- the tuple of a flow's packets in this direction
abbrev pub tuple_in : Direction → (original reply : Tuple) → Tuple
tuple_in Original original reply = original
tuple_in Reply original reply = reply

-- no address is named, or that of the payload's own source
abbrev pub is_own : Option ℕ → (source : ℕ) → Bool
is_own None source = true
is_own (Some address) source = address == source

-- a connection the other way, to the named port
abbrev pub want_back : Tuple → (port : ℕ) → Want
want_back back port = record { src = back.src; dst = back.dst; port = port }

-- a foreign address is not trusted
abbrev pub want_of : Direction → (original reply : Tuple) → NamedEnd → Option Want
want_of direction original reply end =
    if is_own end.address (tuple_in direction original reply).src
    then Some (want_back (tuple_in (opposite direction) original reply) end.port) else None
