-- Text of a file of lines: its lines, their words, numbers, ports and addresses.
use Rattle.std.specs.Prelude.{ℕ, ◌+◌, ◌-◌, ◌*◌, ◌^◌, ◌==◌, ◌&&◌, ◌||◌, Bool, nat_lt, nat_le, if◌then◌else◌, List, [], ◌∷◌, length, get_or, take, drop, position, Option, Some, None, option_map}
use Rattle.std.specs.List.{slice_split}
use Rattle.std.specs.Str.{all_ascii_digits}
use Rattle.std.specs.Str.Parse.{digits_value}

-- what stands between bytes of this value
abbrev pub parts_at : ℕ → List ℕ → List (List ℕ)
parts_at sign text = slice_split (λ b. b == sign) text

-- a file that ends with a line feed has no further line
abbrev pub lines_from : List (List ℕ) → List (List ℕ)
lines_from [] = []
lines_from ([] ∷ []) = []
lines_from ((b ∷ bs) ∷ []) = (b ∷ bs) ∷ []
lines_from (part ∷ next ∷ parts) = part ∷ lines_from (next ∷ parts)

-- the lines of a file end with line feeds; the last may lack its own
unfoldable pub lines_of : List ℕ → List (List ℕ)
lines_of bytes = lines_from (parts_at 10 bytes)

-- one carriage return at the end of a line is no part of its text
abbrev pub without_return : List ℕ → List ℕ
without_return line = if get_or line (length line - 1) 0 == 13 then take (length line - 1) line else line

-- a space or a tab
abbrev pub is_blank : ℕ → Bool
is_blank b = b == 32 || b == 9

-- what is empty is no word
abbrev pub with_word : List ℕ → List (List ℕ) → List (List ℕ)
with_word [] words = words
with_word (b ∷ bs) words = (b ∷ bs) ∷ words

-- the parts that are words
abbrev pub words_from : List (List ℕ) → List (List ℕ)
words_from [] = []
words_from (part ∷ parts) = with_word part (words_from parts)

-- the words of a line stand between blanks
unfoldable pub words_of : List ℕ → List (List ℕ)
words_of line = words_from (slice_split is_blank line)

-- a line whose first word begins with `#` is a comment, which says nothing
abbrev pub without_comment : List (List ℕ) → List (List ℕ)
without_comment [] = []
without_comment (word ∷ words) = if get_or word 0 0 == 35 then [] else word ∷ words

-- the words that a line says; a line without words and a comment say none, and are skipped
unfoldable pub words_of_line : List ℕ → List (List ℕ)
words_of_line line = without_comment (words_of (without_return line))

-- what stands before the first byte of this value, and what stands behind it
abbrev pub halves_at : ℕ → List ℕ → Option (List ℕ × List ℕ)
halves_at sign text = option_map (λ at. (take at text, drop (at + 1) text)) (position (λ b. b == sign) text)

-- the text is a decimal number of one to `most` digits
abbrev pub is_decimal : ℕ → List ℕ → Bool
is_decimal most text = nat_lt 0 (length text) && nat_le (length text) most && all_ascii_digits text

-- the number that the text writes with at most `most` digits
abbrev pub decimal_of : ℕ → List ℕ → Option ℕ
decimal_of most text = if is_decimal most text then Some (digits_value 10 text) else None

-- the number is one from `low` to `high`
abbrev pub within : ℕ → ℕ → Option ℕ → Option ℕ
within low high None = None
within low high (Some n) = if nat_le low n && nat_le n high then Some n else None

-- the number from `low` to `high` that the text writes with at most `most` digits
abbrev pub number_in : ℕ → ℕ → ℕ → List ℕ → Option ℕ
number_in most low high text = within low high (decimal_of most text)

-- a port is a number from `least` to 65535
unfoldable pub port_of : ℕ → List ℕ → Option ℕ
port_of least text = number_in 5 least 65535 text

-- a byte of an address is a number from 0 to 255 without needless leading zeros
unfoldable pub octet_of : List ℕ → Option ℕ
octet_of text = if nat_lt 1 (length text) && get_or text 0 0 == 48 then None else number_in 3 0 255 text

-- the address of four bytes, the highest of them first
abbrev pub address_of_octets : Option ℕ → Option ℕ → Option ℕ → Option ℕ → Option ℕ
address_of_octets None b c d = None
address_of_octets (Some a) None c d = None
address_of_octets (Some a) (Some b) None d = None
address_of_octets (Some a) (Some b) (Some c) None = None
address_of_octets (Some a) (Some b) (Some c) (Some d) = Some (a * 2 ^ 24 + b * 2 ^ 16 + c * 2 ^ 8 + d)

-- there are four bytes, and no fifth
abbrev pub address_of_parts : List (List ℕ) → Option ℕ
address_of_parts (a ∷ b ∷ c ∷ d ∷ []) = address_of_octets (octet_of a) (octet_of b) (octet_of c) (octet_of d)
address_of_parts parts = None

-- the bytes of an address stand between dots
unfoldable pub address_of : List ℕ → Option ℕ
address_of text = address_of_parts (parts_at 46 text)
