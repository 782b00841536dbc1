-- The end that a payload names, and the bytes that name it, as functions. They read the payload from front to back; what
-- they give is told without a cursor by `NamesEnd` and `SpansEnd`.
use Rattle.std.specs.Prelude.{ℕ, nat_lt, if◌then◌else◌, List, Option, Some, None, option_and_then}
use Rattle.std.specs.Option.{option_map}
use Rattle.tuple_core.specs.declared.Direction.{Direction}
use Rattle.ftp_helper.specs.declared.payload.EndSpan.{EndSpan}
use Rattle.ftp_helper.specs.declared.payload.NamedEnd.{NamedEnd}
use Rattle.ftp_helper.specs.declared.payload.FoundEnd.{FoundEnd}
use Rattle.ftp_helper.specs.Internal.Reading.{naming_at}

-- a port of 0 names nothing
abbrev pub with_port : FoundEnd → Option FoundEnd
with_port naming = if nat_lt 0 naming.end.port then Some naming else None

-- the end and the bytes
unfoldable pub naming_in : Direction → List ℕ → Option FoundEnd
naming_in direction payload = option_and_then with_port (naming_at direction payload)

-- the end
abbrev pub named_of : Direction → List ℕ → Option NamedEnd
named_of direction payload = option_map (λ (n : FoundEnd). n.end) (naming_in direction payload)

-- the bytes
abbrev pub span_of : Direction → List ℕ → Option EndSpan
span_of direction payload = option_map (λ (n : FoundEnd). n.span) (naming_in direction payload)
