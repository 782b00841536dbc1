-- The readings of a pass, the oldest first: what its loads and its failed exchanges found, and what its own changes left. In a
-- table of one pass each word has what that pass read or left there last, and 0 where it did not yet.
use Rattle.std.specs.Prelude.{◌<◌, if◌then◌else◌, slice_index, ◌≡◌, ℕ, ◌==◌, ◌&&◌, ◌||◌, not, Bool, true, false, None, List, [], ◌∷◌, ◌++◌, drop, filter, length}
use Rattle.std.specs.List.{list_any}
use Rattle.track_rule.specs.declared.view.Reading.{Reading}
use Rattle.track_rule.specs.declared.view.View.{View}
use Rattle.history_book.specs.declared.sizes.Sizes.{Sizes}
use Rattle.track_rule.specs.Sums.{Each}

-- a value that was found in a word
abbrev pub found : ℕ → ℕ → Reading
found word value = record { word = word; value = value; own = false; free = None }

-- a value that this pass stored in a word
abbrev pub stored : ℕ → ℕ → Reading
stored word value = record { word = word; value = value; own = true; free = None }

-- the pass with one reading more
abbrev pub noted : Reading → View → View
noted r v = record v { readings = v.readings ++ r ∷ [] }

-- the last value of a word among them; 0 where there is none, as every word begins
abbrev pub read_from : ℕ → ℕ → List Reading → ℕ
read_from value word [] = value
read_from value word (r ∷ rs) = read_from (if r.word == word then r.value else value) word rs

abbrev pub last_read : ℕ → View → ℕ
last_read word v = read_from 0 word v.readings

-- the table has one pass
abbrev pub IsSole : View → Type 0
IsSole v = v.passes.sizes.passes ≡ 1

abbrev pub AreRead : Sizes → List ℕ → List View → Type 0
AreRead z words views = z.passes ≡ 1 → Each (λ v. 0 < v.passes.shares → (word : ℕ) → slice_index words word ≡ last_read word v) views

-- what a call added to the readings
abbrev pub added : View → View → List Reading
added v w = drop (length v.readings) w.readings

-- one of them was found in this word and has this value
abbrev pub is_found : ℕ → ℕ → List Reading → Bool
is_found word value readings = list_any (λ r. r.word == word && r.value == value && not r.own) readings

-- one of them is the pass's own change of this word to this value
abbrev pub is_stored : ℕ → ℕ → List Reading → Bool
is_stored word value readings = list_any (λ r. r.word == word && r.value == value && r.own) readings

abbrev pub of_word : ℕ → List Reading → List Reading
of_word word readings = filter (λ r. r.word == word) readings

-- one has the value `was`, and the next one found the value `now`
abbrev pub turns_over : ℕ → ℕ → List Reading → Bool
turns_over was now [] = false
turns_over was now (r ∷ []) = false
turns_over was now (r ∷ s ∷ rest) = (r.value == was && s.value == now && not s.own) || turns_over was now (s ∷ rest)

-- The word gave two different values: of two readings of it, next to each other, the later one was found and differs. So
-- another pass changed the word between them.
pub record Gave (word was now : ℕ) (readings : List Reading) : Type 0 where
  pub differ : (was == now) ≡ false
  pub turns : turns_over was now (of_word word readings) ≡ true

-- the pass changed a word itself that the test names
abbrev pub changes : (ℕ → Bool) → List Reading → Bool
changes test readings = list_any (λ r. r.own && test r.word) readings
