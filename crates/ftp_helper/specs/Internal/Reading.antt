-- How a payload is read from its front: what each step reads, and what stands behind it.
use Rattle.std.specs.Prelude.{◌≡◌, ℕ, ◌+◌, ◌-◌, ◌*◌, ◌^◌, ◌&&◌, Bool, false, not, nat_lt, nat_le, if◌then◌else◌, List, [], ◌∷◌, length, take, drop, position, Option, Some, None, option_and_then, codes, bytes_eq}
use Rattle.std.specs.Char.{is_ascii_digit}
use Rattle.std.specs.Str.{all_ascii_digits, byte, str_eq_ignore_ascii_case}
use Rattle.std.specs.Str.Parse.{digits_value}
use Rattle.tuple_core.specs.declared.Direction.{Direction}
use Rattle.tuple_core.specs.declared.Direction.TheVariants.{Original, Reply}
use Rattle.ftp_helper.specs.declared.payload.EndSpan.{EndSpan}
use Rattle.ftp_helper.specs.declared.payload.NamedEnd.{NamedEnd}
use Rattle.ftp_helper.specs.declared.payload.FoundEnd.{FoundEnd}
use Rattle.ftp_helper.specs.Payload.{is_before_numbers, is_before_parenthesis, is_line_end}

-- go on with what was read, if anything was
infixl 10 ◌>>=◌
abbrev pub ◌>>=◌ : {A B : Type 0} → Option A → (A → Option B) → Option B
o >>= f = option_and_then f o

-- this was read, as the definition says
abbrev pub Gives : {A B : Type 0} → (A → B) → Option A → Option B → Type 0
Gives view None read = read ≡ None
Gives view (Some x) read = read ≡ Some (view x)

-- what stands behind this front
unfoldable pub after : List ℕ → List ℕ → Option (List ℕ)
after front text = if bytes_eq (take (length front) text) front then Some (drop (length front) text) else None

-- what stands behind this command, its letters in either case
unfoldable pub after_command : List ℕ → List ℕ → Option (List ℕ)
after_command command text =
    if str_eq_ignore_ascii_case (take (length command) text) command then Some (drop (length command) text) else None

-- the number that all of the text writes
unfoldable pub decimal_of : ℕ → ℕ → List ℕ → Option ℕ
decimal_of most high text =
    if nat_lt 0 (length text) && nat_le (length text) most && all_ascii_digits text && nat_le (digits_value 10 text) high
    then Some (digits_value 10 text) else None

-- a number ends before such a byte
abbrev pub is_no_digit : ℕ → Bool
is_no_digit b = not (is_ascii_digit b)

-- the number at the front, which ends before a byte that is no digit
unfoldable pub decimal_at : ℕ → ℕ → List ℕ → Option (ℕ × List ℕ)
decimal_at most high text = do
  at ← position is_no_digit text
  n ← decimal_of most high (take at text)
  Some (n, drop at text)

-- a number and this byte behind it
unfoldable pub number_before : ℕ → List ℕ → Option (ℕ × List ℕ)
number_before sign text = do
  x ← decimal_at 3 255 text
  rest ← after (sign ∷ []) x.1
  Some (x.0, rest)

-- the address that four numbers are, with this byte between each two
unfoldable pub host_at : ℕ → List ℕ → Option (ℕ × List ℕ)
host_at between text = do
  h1 ← number_before between text
  h2 ← number_before between h1.1
  h3 ← number_before between h2.1
  h4 ← decimal_at 3 255 h3.1
  Some (h1.0 * 2 ^ 24 + h2.0 * 2 ^ 16 + h3.0 * 2 ^ 8 + h4.0, h4.1)

-- the port that two numbers are
unfoldable pub port_pair_at : List ℕ → Option (ℕ × List ℕ)
port_pair_at text = do
  p1 ← number_before (byte ",") text
  p2 ← decimal_at 3 255 p1.1
  Some (256 * p1.0 + p2.0, p2.1)

-- an address and a port as six numbers
unfoldable pub host_port_at : List ℕ → Option (NamedEnd × List ℕ)
host_port_at text = do
  host ← host_at (byte ",") text
  rest ← after (codes ",") host.1
  port ← port_pair_at rest
  Some (record { address = Some host.0; port = port.0 }, port.1)

-- a line ends at the front
abbrev pub is_at_line_end : List ℕ → Bool
is_at_line_end [] = false
is_at_line_end (b ∷ bs) = is_line_end b

-- what was read, if a line ends behind it
abbrev pub at_line_end : {A : Type 0} → A → List ℕ → Option A
at_line_end x text = if is_at_line_end text then Some x else None

-- the bytes of a payload between two places, of which each is told by what is left of the payload there
abbrev pub span_between : (payload text rest : List ℕ) → EndSpan
span_between payload text rest = record { start = length payload - length text; end = length payload - length rest }

-- an end, and the bytes that name it
abbrev pub naming_of : NamedEnd → EndSpan → FoundEnd
naming_of end span = record { end = end; span = span }

-- the end that a PORT names
unfoldable pub port_command_at : List ℕ → Option FoundEnd
port_command_at payload = do
  text ← after_command (codes "PORT ") payload
  x ← host_port_at text
  at_line_end (naming_of x.0 (span_between payload text x.1)) x.1

-- the end that an EPRT names
unfoldable pub eprt_command_at : List ℕ → Option FoundEnd
eprt_command_at payload = do
  text ← after_command (codes "EPRT |1|") payload
  host ← host_at (byte ".") text
  behind_host ← after (codes "|") host.1
  port ← decimal_at 5 65535 behind_host
  behind_port ← after (codes "|") port.1
  at_line_end (naming_of (record { address = Some host.0; port = port.0 }) (span_between payload text port.1)) behind_port

-- here the text of a 227 ends
abbrev pub ends_before_numbers : ℕ → Bool
ends_before_numbers b = not (is_before_numbers b)

-- here the text of a 229 ends
abbrev pub ends_before_parenthesis : ℕ → Bool
ends_before_parenthesis b = not (is_before_parenthesis b)

-- the end that a reply 227 names; the byte behind its last number is no digit
unfoldable pub passive_reply_at : List ℕ → Option FoundEnd
passive_reply_at payload = do
  text ← after (codes "227 ") payload
  at ← position ends_before_numbers text
  x ← host_port_at (drop at text)
  Some (naming_of x.0 (span_between payload (drop at text) x.1))

-- the end that a reply 229 names
unfoldable pub extended_passive_reply_at : List ℕ → Option FoundEnd
extended_passive_reply_at payload = do
  text ← after (codes "229 ") payload
  at ← position ends_before_parenthesis text
  opened ← after (codes "(|||") (drop at text)
  port ← decimal_at 5 65535 opened
  closed ← after (codes "|)") port.1
  Some (naming_of (record { address = None; port = port.0 }) (span_between payload opened port.1))

-- the first of two that was read
abbrev pub first_read : {A : Type 0} → Option A → Option A → Option A
first_read None second = second
first_read (Some x) second = Some x

-- what a payload in this direction names, be it port 0
unfoldable pub naming_at : Direction → List ℕ → Option FoundEnd
naming_at Original payload = first_read (port_command_at payload) (eprt_command_at payload)
naming_at Reply payload = first_read (passive_reply_at payload) (extended_passive_reply_at payload)
