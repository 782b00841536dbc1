-- What holds of every payload.
use Rattle.std.specs.Prelude.{◌≡◌, ℕ, List, IfNone, IfSome}
use Rattle.tuple_core.specs.declared.Direction.{Direction}
use Rattle.ftp_helper.specs.declared.payload.EndSpan.{EndSpan}
use Rattle.ftp_helper.specs.declared.payload.NamedEnd.{NamedEnd}
use Rattle.ftp_helper.specs.Named.{named_of, span_of}
use Rattle.ftp_helper.specs.Payload.{NamesEnd}
use Rattle.ftp_helper.specs.Span.{SpansEnd}

-- a payload names one end at most
abbrev pub NamedEndsAreUnique : Type 0
NamedEndsAreUnique =
    (direction : Direction) (payload : List ℕ) (end other : NamedEnd) → NamesEnd direction payload end → NamesEnd direction payload other → end ≡ other

-- and by the same bytes
abbrev pub NamingBytesAreUnique : Type 0
NamingBytesAreUnique =
    (direction : Direction) (payload : List ℕ) (span other : EndSpan) → SpansEnd direction payload span → SpansEnd direction payload other → span ≡ other

-- The functions that read a payload from its front give what it names: the end and its bytes, or nothing where it names none.
abbrev pub ReadingIsNaming : Type 0
ReadingIsNaming = (direction : Direction) (payload : List ℕ)
    → IfSome (named_of direction payload) (NamesEnd direction payload)
    × IfNone (named_of direction payload) ((end : NamedEnd) → NamesEnd direction payload end → ⊥)
    × IfSome (span_of direction payload) (SpansEnd direction payload)
