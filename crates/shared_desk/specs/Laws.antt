-- Which words the tests of changed words name.
use Rattle.std.specs.Prelude.{◌≡◌, ℕ, ◌+◌, ◌*◌, ◌<◌, ◌≤◌, true, false}
use Rattle.history_book.specs.declared.sizes.Sizes.{Sizes}
use Rattle.track_rule.specs.ChangesOnly.{is_first_of, is_refs_of, is_some_next, is_some_phase, is_some_refs, is_tuple_of, is_turn_of}
use Rattle.track_rule.specs.Layout.{phase_word, refs_word}
use Rattle.track_rule.specs.Readings.{stored}
use Rattle.track_rule.specs.declared.view.Reading.{Reading}

-- the references and the phase of a place are such words
pub record PlaceIsNamed (z : Sizes) (place value : ℕ) : Type 0 where
  pub refs : is_some_refs z (stored (refs_word z place) value) ≡ true
  pub phase : is_some_phase value z (stored (phase_word z place) value) ≡ true

abbrev pub PlacesAreNamed : Type 0
PlacesAreNamed = (z : Sizes) (place value : ℕ) → PlaceIsNamed z place value

-- such words name no history word, no turn, no generation and no head
pub record IsNoPlaceWord (z : Sizes) (r : Reading) : Type 0 where
  pub refs : is_some_refs z r ≡ false
  pub phase : (value : ℕ) → is_some_phase value z r ≡ false
  pub next : is_some_next z r ≡ false

abbrev pub LowWordsAreNot : Type 0
LowWordsAreNot = (z : Sizes) (r : Reading) → r.word < 3 + 2 * z.buckets → IsNoPlaceWord z r

-- nor the turn of a record, or a tuple
abbrev pub OthersAreNot : Type 0
OthersAreNot = (z : Sizes) (place : ℕ) (r : Reading) → is_turn_of place z r ≡ true → IsNoPlaceWord z r

abbrev pub TuplesAreNot : Type 0
TuplesAreNot = (z : Sizes) (place : ℕ) (r : Reading) → is_tuple_of place z r ≡ true → IsNoPlaceWord z r

-- A first reference is no other reference, of its place or of another one, no phase, no next link, no turn of a record and no word of a
-- tuple; and it lies above the history word, the two turns, the generations and the heads. So only a test that names first references
-- lets a call make one.
pub record StandsAlone (z : Sizes) (r : Reading) : Type 0 where
  pub refs : (other : ℕ) → is_refs_of other z r ≡ false
  pub words : IsNoPlaceWord z r
  pub turn : (other : ℕ) → is_turn_of other z r ≡ false
  pub tuple : (other : ℕ) → is_tuple_of other z r ≡ false
  pub high : 3 + 2 * z.buckets ≤ r.word

abbrev pub FirstRefsStandAlone : Type 0
FirstRefsStandAlone = (z : Sizes) (place : ℕ) (r : Reading) → is_first_of place z r ≡ true → StandsAlone z r
