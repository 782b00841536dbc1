-- Which bytes of a payload name the end of a data connection: those that another end would replace.
use Rattle.std.specs.Prelude.{◌≡◌, ℕ, ◌+◌, ◌<◌, ◌≤◌, List, ◌++◌, length, codes}
use Rattle.std.proofs.Common.{inl, inr}
use Rattle.tuple_core.specs.declared.Direction.{Direction}
use Rattle.tuple_core.specs.declared.Direction.TheVariants.{Original, Reply}
use Rattle.ftp_helper.specs.declared.payload.EndSpan.{EndSpan}
use Rattle.ftp_helper.specs.declared.payload.NamedEnd.{NamedEnd}
use Rattle.ftp_helper.specs.Payload.{IsEprtCommand, IsExtendedPassiveReply, IsNaming, IsPassiveReply, IsPortCommand, NamesEnd}

-- a text that stands behind another
abbrev pub text_span : (before text : List ℕ) → EndSpan
text_span before text = record { start = length before; end = length before + length text }

-- of a PORT its six numbers
abbrev pub port_span : (payload : List ℕ) (end : NamedEnd) → IsPortCommand payload end → EndSpan
port_span payload end is = text_span is.command is.text

-- of an EPRT its address, the bar behind that, and its port
abbrev pub eprt_span : (payload : List ℕ) (end : NamedEnd) → IsEprtCommand payload end → EndSpan
eprt_span payload end is = text_span is.command (is.host ++ codes "|" ++ is.port)

-- of a 227 its six numbers
abbrev pub passive_span : (payload : List ℕ) (end : NamedEnd) → IsPassiveReply payload end → EndSpan
passive_span payload end is = text_span (codes "227 " ++ is.before) is.text

-- of a 229 its port
abbrev pub extended_span : (payload : List ℕ) (end : NamedEnd) → IsExtendedPassiveReply payload end → EndSpan
extended_span payload end is = text_span (codes "229 " ++ is.before ++ codes "(|||") is.port

-- of a payload that is one of these
abbrev pub naming_span : (direction : Direction) (payload : List ℕ) (end : NamedEnd) → IsNaming direction payload end → EndSpan
naming_span Original payload end (inl is) = port_span payload end is
naming_span Original payload end (inr is) = eprt_span payload end is
naming_span Reply payload end (inl is) = passive_span payload end is
naming_span Reply payload end (inr is) = extended_span payload end is

-- the payload names an end, and these of its bytes name it
pub record SpansEnd (direction : Direction) (payload : List ℕ) (span : EndSpan) : Type 0 where
  pub end : NamedEnd
  pub names : NamesEnd direction payload end
  pub spans : span ≡ naming_span direction payload end names.naming

-- some bytes of the payload, and few: none of the forms has more
pub record IsShortSpan (payload : List ℕ) (span : EndSpan) : Type 0 where
  pub some : span.start < span.end
  pub few : span.end ≤ span.start + 32
  pub inside : span.end ≤ length payload
