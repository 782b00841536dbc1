-- Where the words and the slots of a table stand. Word 0 is the history word, word 1 the turn of the free list, word 2 the
-- turn of the expectations. Then come the generations of the buckets, their heads, and nine words for each place.
use Rattle.std.specs.Prelude.{◌≡◌, ℕ, ◌+◌, ◌-◌, ◌*◌, ◌/◌, ◌%◌, List, slice_index}
use Rattle.atomic_table.specs.Seated.{TableId}
use Rattle.history_book.specs.declared.sizes.Sizes.{Sizes}

abbrev pub gen_word : Sizes → ℕ → ℕ
gen_word z bucket = 3 + bucket

abbrev pub head_word : Sizes → ℕ → ℕ
head_word z bucket = 3 + z.buckets + bucket

-- the nine words of a place: references, phase, turn, the two words of either tuple, and either next link
abbrev pub refs_word : Sizes → ℕ → ℕ
refs_word z place = 3 + 2 * z.buckets + 9 * place

abbrev pub phase_word : Sizes → ℕ → ℕ
phase_word z place = refs_word z place + 1

abbrev pub turn_word : Sizes → ℕ → ℕ
turn_word z place = refs_word z place + 2

-- A link names a place and a direction: it is 1 and twice the place, and 1 more for the reply direction. 0 is no link.
abbrev pub place_of : ℕ → ℕ
place_of link = (link - 1) / 2

abbrev pub side_of : ℕ → ℕ
side_of link = (link - 1) % 2

-- the words of the tuple of a link, and of the link after it
abbrev pub first_word : Sizes → ℕ → ℕ
first_word z link = refs_word z (place_of link) + 3 + 2 * side_of link

abbrev pub second_word : Sizes → ℕ → ℕ
second_word z link = refs_word z (place_of link) + 4 + 2 * side_of link

abbrev pub next_word : Sizes → ℕ → ℕ
next_word z link = refs_word z (place_of link) + 7 + side_of link

abbrev pub word_count : Sizes → ℕ
word_count z = 3 + 2 * z.buckets + 9 * z.entries

-- slot 0 is the free list's, slot 1 that of the expectations, and then comes one for the record of each place
abbrev pub record_slot : ℕ → ℕ
record_slot place = 2 + place

abbrev pub slot_count : Sizes → ℕ
slot_count z = 2 + z.entries

-- what the words say
abbrev pub refs_at : Sizes → List ℕ → ℕ → ℕ
refs_at z words place = slice_index words (refs_word z place)

abbrev pub phase_at : Sizes → List ℕ → ℕ → ℕ
phase_at z words place = slice_index words (phase_word z place)

abbrev pub turn_at : Sizes → List ℕ → ℕ → ℕ
turn_at z words place = slice_index words (turn_word z place)

abbrev pub gen_at : Sizes → List ℕ → ℕ → ℕ
gen_at z words bucket = slice_index words (gen_word z bucket)

-- a table of these sizes
pub record IsTable (z : Sizes) (table : TableId) : Type 0 where
  pub words : table.words ≡ word_count z
  pub slots : table.slots ≡ slot_count z
