-- The text of the lines. Numbers are plain decimal. Each line ends with a line feed.
use Rattle.std.specs.Prelude.{ℕ, ◌+◌, ◌-◌, ◌/◌, ◌%◌, nat_lt, if◌then◌else◌, List, [], ◌∷◌, ◌++◌, length, codes, decimal}
use Rattle.std.specs.List.{flat_map}
use Rattle.std.specs.Str.{byte}
use Rattle.tuple_core.specs.declared.Direction.{Direction}
use Rattle.tuple_core.specs.declared.Direction.TheVariants.{Original, Reply}
use Rattle.ftp_rewrite.specs.Line.{Changed, Kept, Line, LineText, Same}

abbrev pub direction_word : Direction → List ℕ
direction_word Original = codes "original"
direction_word Reply = codes "reply"

-- a number below 16 as one digit: 0 to 9, a to f
abbrev pub hex_digit : ℕ → ℕ
hex_digit n = if nat_lt n 10 then byte "0" + n else byte "a" + (n - 10)

-- a byte as two such digits
abbrev pub hex_byte : ℕ → List ℕ
hex_byte b = hex_digit (b / 16) ∷ hex_digit (b % 16) ∷ []

abbrev pub hex_text : List ℕ → List ℕ
hex_text bytes = flat_map hex_byte bytes

-- the new payload, if there is one, or that an edit was refused
abbrev pub payload_text : LineText → List ℕ
payload_text Same = []
payload_text Kept = codes " text=kept"
payload_text (Changed bytes) = codes " text=" ++ hex_text bytes

-- the thread and the packet, the entry, the direction, and the numbers as they were and as they leave
unfoldable pub numbers_text : Line → List ℕ
numbers_text l =
    decimal l.thread ++ codes "." ++ decimal l.packet ++ codes " id=" ++ decimal l.id ++ codes " " ++ direction_word l.direction
    ++ codes " seq=" ++ decimal l.seq ++ codes ">" ++ decimal l.new_seq ++ codes " ack=" ++ decimal l.ack ++ codes ">" ++ decimal l.new_ack

unfoldable pub line_text : Line → List ℕ
line_text l = numbers_text l ++ payload_text l.text ++ codes "\n"

-- the line before the others, of which there are so many
unfoldable pub head_text : ℕ → List ℕ
head_text count = codes "rewrite " ++ decimal count ++ codes "\n"

-- all of it
abbrev pub rewrites_text : List Line → List ℕ
rewrites_text lines = head_text (length lines) ++ flat_map line_text lines
