-- The laws of a summary.
use Rattle.std.proofs.Common.{◌≡◌, ℕ, ◌+◌, ◌==◌, List, [], ◌∷◌, cond, Some, None, refl, arith}
use Rattle.std.proofs.lemmas.List.Sums.{sum_by-cons}
use Rattle.std.specs.List.{sum_by}
use Rattle.history_book.specs.declared.verdict.Class.TheVariants as class
use Rattle.history_book.specs.declared.verdict.Label.TheVariants as label
use Rattle.history_book.specs.declared.verdict.UntrackedWhy.TheVariants as untracked
use Rattle.history_book.specs.declared.verdict.Verdict.{Verdict}
use Rattle.tuple_core.specs.declared.Direction.TheVariants.{Original, Reply}
use Rattle.report_text.specs.FirstWord.{first_word, first_words, place_of}
use Rattle.report_text.specs.Piece.{point_text}
use Rattle.report_text.specs.Summary.{has_word, times}
use Rattle.report_text.specs.SummaryLaws.{EachCountedOnce, TextsBeginWithTheirWord}
use Rattle.report_text.specs.declared.first_word.FirstWord.{FirstWord}
use Rattle.report_text.specs.declared.first_word.FirstWord.TheVariants as first

pub texts_begin : TextsBeginWithTheirWord
unfolding point_text
texts_begin (class.Untracked untracked.Link) = refl
texts_begin (class.Untracked untracked.Fragment) = refl
texts_begin (class.Untracked untracked.Protocol) = refl
texts_begin class.BadHeader = refl
texts_begin (class.NoEntry at) = refl
texts_begin (class.BadState id at) = refl
texts_begin (class.ErrorLost at) = refl
texts_begin (class.ErrorAddress id at) = refl
texts_begin (class.Error Original id at) = refl
texts_begin (class.Error Reply id at) = refl
texts_begin (class.Made id at translated None) = refl
texts_begin (class.Made id at translated (Some unclaimed)) = refl
texts_begin (class.Passed label.New id at ftp) = refl
texts_begin (class.Passed label.Related id at ftp) = refl
texts_begin (class.Passed label.Established id at ftp) = refl
texts_begin (class.Passed label.EstablishedReply id at ftp) = refl
texts_begin (class.Ignored id at) = refl
texts_begin (class.Merged id at translated) = refl
texts_begin (class.Clash id at translated) = refl
texts_begin (class.NoPort from to) = refl
texts_begin (class.Full from at) = refl
texts_begin (class.Contended id at) = refl

-- what a verdict with this first word adds to the count of a word
abbrev added : FirstWord → FirstWord → ℕ
added u word = cond (place_of u == place_of word) 1 0

-- it adds one to the count of one word
one_added : (u : FirstWord) → sum_by (added u) first_words ≡ 1
one_added first.Untracked = refl
one_added first.Invalid = refl
one_added first.New = refl
one_added first.Related = refl
one_added first.Established = refl
one_added first.EstablishedReply = refl
one_added first.RelatedReply = refl
one_added first.Ignored = refl
one_added first.Merged = refl
one_added first.Clash = refl
one_added first.NoPort = refl
one_added first.Full = refl
one_added first.Contended = refl

-- the counts with one verdict more
one_more : (v : Verdict) (verdicts : List Verdict) (words : List FirstWord) →
    sum_by (λ (word : FirstWord). times word (v ∷ verdicts)) words
    ≡ sum_by (added (first_word v.class)) words + sum_by (λ (word : FirstWord). times word verdicts) words
one_more v verdicts [] = refl
one_more v verdicts (word ∷ words) =
    omega (
      arith,
      one_more v verdicts words,
      sum_by-cons (λ (w : Verdict). cond (has_word word w) 1 0) v verdicts,
      sum_by-cons (λ (w : FirstWord). times w (v ∷ verdicts)) word words,
      sum_by-cons (added (first_word v.class)) word words,
      sum_by-cons (λ (w : FirstWord). times w verdicts) word words,
    )

pub each_once : EachCountedOnce
each_once [] = refl
each_once (v ∷ verdicts) =
    omega (arith, one_more v verdicts first_words, one_added (first_word v.class), each_once verdicts)
