-- Counting the first words of verdicts.
use Rattle.std.proofs.Common.{◌≡◌, ◌∙◌, ℕ, ◌+◌, ◌<◌, ◌≢◌, Bool, true, false, List, ◌∷◌, [], ◌++◌, length, get_or, take, Some, refl, sym, ap, arith}
use Rattle.std.specs.List.{slice_get}
use Rattle.std.specs.Prelude.{slice_index, slice_set}
use Rattle.std.proofs.lemmas.Bool.{eqb-false, eqb-true}
use Rattle.std.proofs.lemmas.Grind.{common_steps, flat_map-append}
use Rattle.std.proofs.lemmas.List.{take_more}
use Rattle.std.proofs.lemmas.List.Sums.{count_by_more_no, count_by_more_yes, sum_by-append}
use Rattle.std.proofs.lemmas.Option.{get_or_from_slice_get, slice_get_within}
use Rattle.history_book.specs.declared.verdict.Verdict.{Verdict}
use Rattle.room_list.specs.Roomed.{Roomed}
use Rattle.report_text.specs.FirstWord.{first_word, place_of}
use Rattle.report_text.specs.Internal.Counting.{Counted, IsCount}
use Rattle.report_text.specs.Summary.{all_verdicts, has_word, times}
use Rattle.report_text.specs.declared.first_word.FirstWord.{FirstWord}
use Rattle.report_text.specs.declared.first_word.FirstWord.TheVariants as first

pub place_within : (word : FirstWord) → place_of word < 13
place_within first.Untracked = omega arith
place_within first.Invalid = omega arith
place_within first.New = omega arith
place_within first.Related = omega arith
place_within first.Established = omega arith
place_within first.EstablishedReply = omega arith
place_within first.RelatedReply = omega arith
place_within first.Ignored = omega arith
place_within first.Merged = omega arith
place_within first.Clash = omega arith
place_within first.NoPort = omega arith
place_within first.Full = omega arith
place_within first.Contended = omega arith

-- one verdict more
pub counted_more : (xs : List Verdict) (i : ℕ) (x : Verdict) (before now : List ℕ) (place : ℕ) →
    slice_get xs i ≡ Some x → place ≡ place_of (first_word x.class) → place < length now →
    Counted (take i xs) before now →
    Counted (take (i + 1) xs) before (slice_set now place (slice_index now place + 1))
counted_more xs i x before now place at is within counted word = either (has_word word x) refl
  where
    inside : i < length xs
    inside = slice_get_within xs i x at

    same : get_or xs i x ≡ x
    same = get_or_from_slice_get xs i x x at

    either : (test : Bool) → has_word word x ≡ test →
        slice_index (slice_set now place (slice_index now place + 1)) (place_of word)
        ≡ slice_index before (place_of word) + times word (take (i + 1) xs)
    either true counts =
        let more : times word (take (i + 1) xs) ≡ times word (take i xs) + 1 =
        count_by_more_yes (has_word word) xs i x inside (ap (has_word word) same ∙ counts) in
        let here : place ≡ place_of word = is ∙ eqb-true (place_of (first_word x.class)) (place_of word) counts in
        grind (arith, common_steps, more, here, within, counted word)
    either false differs =
        let more : times word (take (i + 1) xs) ≡ times word (take i xs) =
        count_by_more_no (has_word word) xs i x inside (ap (has_word word) same ∙ differs) in
        let there : place ≢ place_of word = λ here. eqb-false (place_of (first_word x.class)) (place_of word) differs (sym is ∙ here) in
        grind (arith, common_steps, more, there, counted word)

-- the verdicts of one thread more
pub all_more : (threads : List (Roomed Verdict)) (i : ℕ) (own : Roomed Verdict) → i < length threads →
    own ≡ get_or threads i own →
    all_verdicts (take (i + 1) threads) ≡ all_verdicts (take i threads) ++ own.items
all_more threads i own within is =
    grind (
      arith,
      common_steps,
      take_more threads i own within,
      flat_map-append (λ (verdicts : Roomed Verdict). verdicts.items) (take i threads) (own ∷ []),
      is,
    )

-- the counts of one thread more
pub count_more : (threads : List (Roomed Verdict)) (i : ℕ) (own : Roomed Verdict) (before after : List ℕ) →
    i < length threads → own ≡ get_or threads i own → IsCount (all_verdicts (take i threads)) before →
    Counted own.items before after → IsCount (all_verdicts (take (i + 1) threads)) after
count_more threads i own before after within is so_far counted word =
    rw (all_more threads i own within is)
    (counted word
    ∙ ap (λ (n : ℕ). n + times word own.items) (so_far word)
    ∙ sym (sum_by-append _ (all_verdicts (take i threads)) own.items))
