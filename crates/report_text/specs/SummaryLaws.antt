-- What a summary's words are, in the words of a report's text.
use Rattle.std.specs.Prelude.{◌≡◌, ℕ, ◌==◌, Bool, List, length, sum_by}
use Rattle.std.specs.List.{before_first}
use Rattle.history_book.specs.declared.verdict.Class.{Class}
use Rattle.history_book.specs.declared.verdict.Verdict.{Verdict}
use Rattle.report_text.specs.FirstWord.{first_word, first_words, word_text}
use Rattle.report_text.specs.Piece.{class_text}
use Rattle.report_text.specs.Summary.{times}
use Rattle.report_text.specs.declared.first_word.FirstWord.{FirstWord}

abbrev pub is_space : ℕ → Bool
is_space code = code == 32

-- the word of a verdict is what stands before the first space of its text
abbrev pub TextsBeginWithTheirWord : Type 0
TextsBeginWithTheirWord = (c : Class) → before_first is_space (class_text c) ≡ word_text (first_word c)

-- each verdict is counted once
abbrev pub EachCountedOnce : Type 0
EachCountedOnce =
    (verdicts : List Verdict) →
    sum_by (λ (word : FirstWord). times word verdicts) first_words ≡ length verdicts
