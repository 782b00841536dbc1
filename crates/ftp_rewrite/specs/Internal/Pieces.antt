-- A line in two pieces: what a page has room for, and its payload.
use Rattle.std.specs.Prelude.{ℕ, List, [], ◌++◌, codes}
use Rattle.ftp_rewrite.specs.declared.rewrite.Rewrite.{Rewrite}
use Rattle.ftp_rewrite.specs.Line.{Changed, Kept, Line, LineText, Same, seen}
use Rattle.ftp_rewrite.specs.Text.{hex_text, line_text, numbers_text}

-- what follows the numbers, up to the payload
abbrev pub opening_text : LineText → List ℕ
opening_text Same = codes "\n"
opening_text Kept = codes " text=kept\n"
opening_text (Changed bytes) = codes " text="

-- the rest of the line
abbrev pub closing_text : LineText → List ℕ
closing_text Same = []
closing_text Kept = []
closing_text (Changed bytes) = hex_text bytes ++ codes "\n"

-- the line up to its payload
unfoldable pub first_text : Line → List ℕ
first_text l = numbers_text l ++ opening_text l.text

-- the line of what the code has
abbrev pub line_of : Rewrite → List ℕ
line_of r = line_text (seen r)
