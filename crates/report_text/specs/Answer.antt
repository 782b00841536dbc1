-- The text of an answer to a command: a line that says what it is, and its rows.
use Rattle.std.specs.Prelude.{ℕ, List, [], ◌++◌, codes, decimal, length, Option, None, Some}
use Rattle.expect_table.specs.declared.expectation.Expectation.{Expectation}
use Rattle.history_book.specs.declared.answer.Answer.{Answer}
use Rattle.history_book.specs.declared.answer.Row.{Row}
use Rattle.history_book.specs.declared.answer.Said.{Said}
use Rattle.history_book.specs.declared.answer.Said.TheVariants as said
use Rattle.report_text.specs.Piece.{point_text}
use Rattle.report_text.specs.Row.{expectation_line, row_line}
use Rattle.report_text.specs.Texts.{texts_from}

-- what is said, in a word, and how much of it; of Flushed that is the number of events
abbrev pub said_text : Said → ℕ → List ℕ
said_text (said.Listed rows) made = codes " list " ++ decimal (length rows.items)
said_text (said.Expectations rows) made = codes " expectations " ++ decimal (length rows.items)
said_text (said.Got None) made = codes " get 0"
said_text (said.Got (Some row)) made = codes " get 1"
said_text (said.Deleted rows) made = codes " deleted " ++ decimal (length rows.items)
said_text said.Flushed made = codes " flushed " ++ decimal made
said_text (said.Counted live) made = codes " count " ++ decimal live
said_text (said.Expired entries expectations) made =
    codes " expired " ++ decimal entries ++ codes " " ++ decimal expectations

-- the points of a sweep, or the one point of another answer
abbrev pub points_text : Said → ℕ → ℕ → List ℕ
points_text (said.Listed rows) from to = point_text from ++ point_text to
points_text (said.Expectations rows) from to = point_text from
points_text (said.Got row) from to = point_text from
points_text (said.Deleted rows) from to = point_text from ++ point_text to
points_text said.Flushed from to = point_text from ++ point_text to
points_text (said.Counted live) from to = point_text from
points_text (said.Expired entries expectations) from to = point_text from ++ point_text to

-- the line of the answer to the command of this index
unfoldable pub answer_head : ℕ → Answer → List ℕ
answer_head index a =
    decimal index ++ said_text a.said a.made ++ points_text a.said a.from a.to ++ codes "\n"

-- the line of an entry, or of an expectation, whatever its index
abbrev pub line_of_row : ℕ → ℕ → Row → List ℕ
line_of_row moment index row = row_line moment row

abbrev pub line_of_expectation : ℕ → ℕ → ℕ → Expectation → List ℕ
line_of_expectation moment at index e = expectation_line moment at e

abbrev pub got_text : ℕ → Option Row → List ℕ
got_text moment None = []
got_text moment (Some row) = row_line moment row

-- the rows of an answer
abbrev pub rows_text : Said → ℕ → ℕ → List ℕ
rows_text (said.Listed rows) moment from = texts_from (line_of_row moment) 0 rows.items
rows_text (said.Expectations rows) moment from = texts_from (line_of_expectation moment from) 0 rows.items
rows_text (said.Got row) moment from = got_text moment row
rows_text (said.Deleted rows) moment from = texts_from (line_of_row moment) 0 rows.items
rows_text said.Flushed moment from = []
rows_text (said.Counted live) moment from = []
rows_text (said.Expired entries expectations) moment from = []

-- the answer to the command of this index
unfoldable pub answer_text : ℕ → Answer → List ℕ
answer_text index a = answer_head index a ++ rows_text a.said a.moment a.from
