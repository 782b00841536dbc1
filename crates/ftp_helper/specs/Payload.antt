-- Which end of a data connection a payload names: the commands PORT and EPRT of the client, the replies 227 and
-- 229 of the server (RFC 959, RFC 2428). A payload is a list of bytes (`codes` are those of a text, `byte` that of
-- a sign). It is the parts of a form, one after the other, and any rest.
use Rattle.std.specs.Prelude.{◌≡◌, ◌⊎◌, ℕ, ◌+◌, ◌*◌, ◌^◌, ◌<◌, ◌≤◌, ◌==◌, ◌||◌, Bool, true, false, List, [], ◌∷◌, ◌++◌, length, Some, None, codes, not}
use Rattle.std.specs.Char.{is_ascii_digit}
use Rattle.std.specs.List.{AllPass}
use Rattle.std.specs.Str.{all_ascii_digits, byte, str_to_ascii_lowercase}
use Rattle.std.specs.Str.Parse.{digits_value}
use Rattle.tuple_core.specs.declared.Direction.{Direction}
use Rattle.tuple_core.specs.declared.Direction.TheVariants.{Original, Reply}
use Rattle.ftp_helper.specs.declared.payload.NamedEnd.{NamedEnd}

-- a decimal number of one to `most` digits, leading zeros among them, with a value up to `high`
pub record IsDecimal (most high : ℕ) (text : List ℕ) (n : ℕ) : Type 0 where
  pub some : 0 < length text
  pub few : length text ≤ most
  pub digits : all_ascii_digits text ≡ true
  pub value : n ≡ digits_value 10 text
  pub small : n ≤ high

-- <number>, the value of a byte, 0 too (RFC 959, section 5.3.2)
abbrev pub IsNumber : List ℕ → ℕ → Type 0
IsNumber text n = IsDecimal 3 255 text n

-- <tcp-port> (RFC 2428, section 2)
abbrev pub IsPort : List ℕ → ℕ → Type 0
IsPort text n = IsDecimal 5 65535 text n

-- the texts of these numbers, with this byte between each two
abbrev pub AreNumbers : ℕ → List ℕ → List ℕ → Type 0
AreNumbers between [] text = text ≡ []
AreNumbers between (n ∷ []) text = IsNumber text n
AreNumbers between (n ∷ m ∷ ns) text =
    (first : List ℕ) × (others : List ℕ) × (text ≡ first ++ between ∷ others) × IsNumber first n × AreNumbers between (m ∷ ns) others

-- <host-number>, the bytes of an address from the highest down, between commas (RFC 959, section 5.3.2) or dots
pub record IsHost (between : ℕ) (text : List ℕ) (address : ℕ) : Type 0 where
  pub h1 : ℕ
  pub h2 : ℕ
  pub h3 : ℕ
  pub h4 : ℕ
  pub numbers : AreNumbers between (h1 ∷ h2 ∷ h3 ∷ h4 ∷ []) text
  pub value : address ≡ h1 * 2 ^ 24 + h2 * 2 ^ 16 + h3 * 2 ^ 8 + h4

-- <port-number>, the high byte of a port and the low one (RFC 959, section 5.3.2)
pub record IsPortPair (text : List ℕ) (port : ℕ) : Type 0 where
  pub p1 : ℕ
  pub p2 : ℕ
  pub numbers : AreNumbers (byte ",") (p1 ∷ p2 ∷ []) text
  pub value : port ≡ 256 * p1 + p2

-- <host-port>: h1,h2,h3,h4,p1,p2 (RFC 959, sections 4.1.2 and 5.3.2)
pub record IsHostPort (text : List ℕ) (end : NamedEnd) : Type 0 where
  pub host : List ℕ
  pub address : ℕ
  pub port : List ℕ
  pub whole : text ≡ host ++ codes "," ++ port
  pub is_host : IsHost (byte ",") host address
  pub is_port : IsPortPair port end.port
  pub at_host : end.address ≡ Some address

-- the word, each letter in either case (RFC 959, section 5.3)
abbrev pub IsInAnyCase : List ℕ → List ℕ → Type 0
IsInAnyCase word text = str_to_ascii_lowercase text ≡ str_to_ascii_lowercase word

-- a carriage return or a line feed
abbrev pub is_line_end : ℕ → Bool
is_line_end b = b == 13 || b == 10

-- `PORT h1,h2,h3,h4,p1,p2` at the end of its line (RFC 959, section 4.1.2)
pub record IsPortCommand (payload : List ℕ) (end : NamedEnd) : Type 0 where
  pub command : List ℕ
  pub text : List ℕ
  pub stop : ℕ
  pub rest : List ℕ
  pub whole : payload ≡ command ++ text ++ stop ∷ rest
  pub is_command : IsInAnyCase (codes "PORT ") command
  pub is_text : IsHostPort text end
  pub at_line_end : is_line_end stop ≡ true

-- `EPRT |1|h1.h2.h3.h4|port|` at the end of its line: 1 is IPv4 (RFC 2428, section 2)
pub record IsEprtCommand (payload : List ℕ) (end : NamedEnd) : Type 0 where
  pub command : List ℕ
  pub host : List ℕ
  pub address : ℕ
  pub port : List ℕ
  pub stop : ℕ
  pub rest : List ℕ
  pub whole : payload ≡ command ++ host ++ codes "|" ++ port ++ codes "|" ++ stop ∷ rest
  pub is_command : IsInAnyCase (codes "EPRT |1|") command
  pub is_host : IsHost (byte ".") host address
  pub is_port : IsPort port end.port
  pub at_host : end.address ≡ Some address
  pub at_line_end : is_line_end stop ≡ true

-- a byte of the text of a 227: none of its numbers begins there, and the line does not end
abbrev pub is_before_numbers : ℕ → Bool
is_before_numbers b = not (is_ascii_digit b || is_line_end b)

-- `227 `, a text, h1,h2,h3,h4,p1,p2, and a byte that is no digit, so that p2 ends. The numbers begin at the first digit,
-- in parentheses or not (RFC 959, sections 4.1.2 and 4.2.2; RFC 1123, section 4.1.2.6)
pub record IsPassiveReply (payload : List ℕ) (end : NamedEnd) : Type 0 where
  pub before : List ℕ
  pub text : List ℕ
  pub stop : ℕ
  pub rest : List ℕ
  pub whole : payload ≡ codes "227 " ++ before ++ text ++ stop ∷ rest
  pub is_before : AllPass is_before_numbers before
  pub is_text : IsHostPort text end
  pub no_digit : is_ascii_digit stop ≡ false

-- a byte of the text of a 229: the parenthesis does not open there, and the line does not end
abbrev pub is_before_parenthesis : ℕ → Bool
is_before_parenthesis b = not (b == byte "(" || is_line_end b)

-- `229 `, a text, and `(|||port|)`: the server's own address (RFC 2428, section 3)
pub record IsExtendedPassiveReply (payload : List ℕ) (end : NamedEnd) : Type 0 where
  pub before : List ℕ
  pub port : List ℕ
  pub rest : List ℕ
  pub whole : payload ≡ codes "229 " ++ before ++ codes "(|||" ++ port ++ codes "|)" ++ rest
  pub is_before : AllPass is_before_parenthesis before
  pub is_port : IsPort port end.port
  pub at_server : end.address ≡ None

-- the client names its end in a command, the server its own in a reply
abbrev pub IsNaming : Direction → List ℕ → NamedEnd → Type 0
IsNaming Original payload end = IsPortCommand payload end ⊎ IsEprtCommand payload end
IsNaming Reply payload end = IsPassiveReply payload end ⊎ IsExtendedPassiveReply payload end

-- the payload of a packet in this direction names this end; a port of 0 names none
pub record NamesEnd (direction : Direction) (payload : List ℕ) (end : NamedEnd) : Type 0 where
  pub naming : IsNaming direction payload end
  pub port : 0 < end.port
