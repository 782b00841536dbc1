-- Counts of the first words of verdicts, one for each word in their order.
use Rattle.std.specs.Prelude.{◌≡◌, ℕ, ◌+◌, List, slice_index}
use Rattle.history_book.specs.declared.verdict.Verdict.{Verdict}
use Rattle.report_text.specs.FirstWord.{place_of}
use Rattle.report_text.specs.Summary.{times, word_line}
use Rattle.report_text.specs.declared.first_word.FirstWord.{FirstWord}

-- the first words of these verdicts were counted
abbrev pub Counted : List Verdict → List ℕ → List ℕ → Type 0
Counted verdicts before after =
    (word : FirstWord) →
    slice_index after (place_of word) ≡ slice_index before (place_of word) + times word verdicts

-- the first words of these verdicts, and no more, were counted
abbrev pub IsCount : List Verdict → List ℕ → Type 0
IsCount verdicts counts =
    (word : FirstWord) → slice_index counts (place_of word) ≡ times word verdicts

-- the line of a word as the counts have it
abbrev pub line_of_count : List ℕ → ℕ → FirstWord → List ℕ
line_of_count counts index word = word_line word (slice_index counts (place_of word))
