-- The text of a summary: how many threads, packets, events and live entries there are, and how often each
-- first word of a verdict occurs.
use Rattle.std.specs.Prelude.{ℕ, ◌==◌, if◌then◌else◌, Bool, List, [], ◌++◌, length, count_by, codes, decimal}
use Rattle.std.specs.List.{flat_map}
use Rattle.history_book.specs.declared.report.Report.{Report}
use Rattle.history_book.specs.declared.verdict.Verdict.{Verdict}
use Rattle.room_list.specs.Roomed.{Roomed}
use Rattle.report_text.specs.FirstWord.{first_word, first_words, place_of, word_text}
use Rattle.report_text.specs.Texts.{texts_from}
use Rattle.report_text.specs.declared.first_word.FirstWord.{FirstWord}

-- the verdicts of all threads
abbrev pub all_verdicts : List (Roomed Verdict) → List Verdict
all_verdicts threads = flat_map (λ (verdicts : Roomed Verdict). verdicts.items) threads

-- it is the first word of this verdict
abbrev pub has_word : FirstWord → Verdict → Bool
has_word word v = place_of (first_word v.class) == place_of word

-- of how many verdicts it is the first word
abbrev pub times : FirstWord → List Verdict → ℕ
times word verdicts = count_by (has_word word) verdicts

-- the first line, with the numbers of threads, packets, events and live entries
unfoldable pub summary_head : ℕ → ℕ → ℕ → ℕ → List ℕ
summary_head threads packets events live =
    codes "summary threads=" ++ decimal threads ++ codes " packets=" ++ decimal packets ++
    codes " events=" ++ decimal events ++ codes " live=" ++ decimal live ++ codes "\n"

-- the line of a word that occurs so often; one that never does has none
unfoldable pub word_line : FirstWord → ℕ → List ℕ
word_line word often =
    if often == 0 then [] else word_text word ++ codes " " ++ decimal often ++ codes "\n"

-- a word's line tells the word in place of its index
abbrev pub line_of_word : List Verdict → ℕ → FirstWord → List ℕ
line_of_word verdicts index word = word_line word (times word verdicts)

-- the words that occur, in their order
unfoldable pub words_text : List Verdict → List ℕ
words_text verdicts = texts_from (line_of_word verdicts) 0 first_words

unfoldable pub summary_text : Report → List ℕ
summary_text report =
    summary_head (length report.threads.items) (length (all_verdicts report.threads.items))
    (length report.history.items) report.live ++
    words_text (all_verdicts report.threads.items)
