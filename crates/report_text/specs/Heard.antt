-- The lines of what a listener heard of each thread. Each ends with a line feed.
use Rattle.std.specs.Prelude.{ℕ, ◌-◌, List, [], ◌∷◌, ◌++◌, codes, decimal, length}
use Rattle.report_text.specs.declared.heard.HeardCount.{HeardCount}
use Rattle.report_text.specs.Piece.{thread_word}
use Rattle.report_text.specs.Texts.{texts_from}

-- the line of a thread, with a script of this number among the threads: of so many events as it made, so many were heard
unfoldable pub heard_line : ℕ → ℕ → HeardCount → List ℕ
heard_line script thread c =
    codes "heard " ++ thread_word script thread ++ codes " " ++ decimal c.heard ++ codes " of " ++ decimal c.made ++ codes "\n"

-- the lines of all threads, of which the last is the script's
unfoldable pub heard_text : List HeardCount → List ℕ
heard_text counts = texts_from (heard_line (length counts - 1)) 0 counts

-- how many events each thread made, and of how many it was heard
abbrev pub heard_counts : (made heard : List ℕ) → List HeardCount
heard_counts [] heard = []
heard_counts (m ∷ made) [] = []
heard_counts (m ∷ made) (h ∷ heard) = record { heard = h; made = m } ∷ heard_counts made heard
