-- Which entries a filter selects.
use Rattle.std.specs.Prelude.{ℕ, Bool, true, ◌==◌, ◌&&◌, Option, Some, None}
use Rattle.tuple_core.specs.Tuple.{number_of}
use Rattle.tuple_core.specs.declared.Proto.{Proto}
use Rattle.history_book.specs.declared.filter.Filter.{Filter}
use Rattle.history_book.specs.declared.record.Record.{Record}

-- no protocol is named, or this one
abbrev pub is_proto : Option Proto → Proto → Bool
is_proto None proto = true
is_proto (Some name) proto = number_of name == number_of proto

-- no number is named, or this one
abbrev pub is_number : Option ℕ → ℕ → Bool
is_number None number = true
is_number (Some name) number = name == number

-- the entry has all that is named: addresses and ports of its original tuple, addresses of its reply tuple, and its zone
abbrev pub selects : Filter → Record → Bool
selects filter r =
    is_proto filter.proto r.original.proto && is_number filter.src r.original.src && is_number filter.dst r.original.dst
    && is_number filter.reply_src r.reply.src && is_number filter.reply_dst r.reply.dst
    && is_number filter.sport r.original.a && is_number filter.dport r.original.b && is_number filter.zone r.original.zone
