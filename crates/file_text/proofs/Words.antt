-- The words of a line, one by one.
use Rattle.std.proofs.Common.{◌≡◌, ℕ, ◌+◌, List, [], ◌∷◌, length, take, drop, position, Some, None, arith}
use Rattle.file_text.specs.Text.{is_blank, with_word, words_of}
use Rattle.file_text.proofs.Parts.{split_at_position, split_whole}

pub first_word : (text : List ℕ) (at : ℕ) → position is_blank text ≡ Some at → words_of text ≡ with_word (take at text) (words_of (drop (at + 1) text))
unfolding words_of
first_word text at found = rw (split_at_position is_blank text at found)

pub only_word : (text : List ℕ) → position is_blank text ≡ None → words_of text ≡ with_word text (words_of [])
unfolding words_of
only_word text none = rw (split_whole is_blank text none)

pub no_words : (line rest : List ℕ) → words_of line ≡ words_of rest → length rest ≡ 0 → words_of line ≡ []
unfolding words_of
no_words line [] same empty = same
no_words line (b ∷ bs) same empty = absurd (omega arith)
