-- Which words a pass changed itself in a call. A test names words, and maybe values, for a table of given sizes.
use Rattle.std.specs.Prelude.{◌≡◌, ℕ, ◌+◌, ◌*◌, ◌==◌, ◌&&◌, ◌||◌, nat_le, nat_lt, not, is_some, Bool, true, false, List, ◌++◌}
use Rattle.std.specs.List.{list_all, list_any}
use Rattle.history_book.specs.declared.sizes.Sizes.{Sizes}
use Rattle.track_rule.specs.Layout.{gen_word, head_word, phase_word, refs_word, turn_word}
use Rattle.track_rule.specs.Links.{kind_of}
use Rattle.track_rule.specs.Sums.{bit, total}
use Rattle.track_rule.specs.declared.view.Reading.{Reading}
use Rattle.track_rule.specs.declared.view.View.{View}

-- of these readings each own change passes the test
abbrev pub changes_only : (Reading → Bool) → List Reading → Bool
changes_only may readings = list_all (λ (r : Reading). not r.own || may r) readings

-- The readings before the call stand, and some more come behind them; those of them that are the pass's own changes pass the test.
pub record ChangesOnly (may : Reading → Bool) (old new : List Reading) : Type 0 where
  pub more : List Reading
  pub all : new ≡ old ++ more
  pub own : changes_only may more ≡ true

-- the same of what a pass knows, whose table it stays
pub record ChangesWords (may : Sizes → Reading → Bool) (v w : View) : Type 0 where
  pub sizes : w.passes.sizes ≡ v.passes.sizes
  pub only : ChangesOnly (may v.passes.sizes) v.readings w.readings

-- TESTS: NO WORD, A FURTHER ONE, AND ONE WHERE THIS IS SO

abbrev pub no_word : Sizes → Reading → Bool
no_word z r = false

abbrev pub either : (Sizes → Reading → Bool) → (Sizes → Reading → Bool) → Sizes → Reading → Bool
either one other z r = one z r || other z r

abbrev pub where_so : Bool → (Sizes → Reading → Bool) → Sizes → Reading → Bool
where_so so one z r = so && one z r

-- WORDS

abbrev pub is_history : Sizes → Reading → Bool
is_history z r = r.word == 0

-- the turn of the free list, that of the expectations, and that of the record of a place
abbrev pub is_free_turn : Sizes → Reading → Bool
is_free_turn z r = r.word == 1

abbrev pub is_expect_turn : Sizes → Reading → Bool
is_expect_turn z r = r.word == 2

abbrev pub is_turn_of : ℕ → Sizes → Reading → Bool
is_turn_of place z r = r.word == turn_word z place

-- the generation of a bucket of the table, and the head of its chain
abbrev pub is_gen_of : ℕ → Sizes → Reading → Bool
is_gen_of bucket z r = nat_lt bucket z.buckets && r.word == gen_word z bucket

abbrev pub is_head_of : ℕ → Sizes → Reading → Bool
is_head_of bucket z r = nat_lt bucket z.buckets && r.word == head_word z bucket

-- the references of a place, but for a first one, which is made to a place of the free list; and a first one
abbrev pub is_refs_of : ℕ → Sizes → Reading → Bool
is_refs_of place z r = r.word == refs_word z place && not (is_some r.free)

abbrev pub is_first_of : ℕ → Sizes → Reading → Bool
is_first_of place z r = r.word == refs_word z place && is_some r.free

-- the phase of a place where it became this or LIVE, the words of its two tuples, and its two next links
abbrev pub is_phase_of : ℕ → ℕ → Sizes → Reading → Bool
is_phase_of place value z r = r.word == phase_word z place && r.value == value

abbrev pub is_live_of : ℕ → Sizes → Reading → Bool
is_live_of place z r = r.word == phase_word z place && nat_le 3 r.value

abbrev pub is_tuple_of : ℕ → Sizes → Reading → Bool
is_tuple_of place z r = nat_le (refs_word z place + 3) r.word && nat_lt r.word (refs_word z place + 7)

abbrev pub is_next_of : ℕ → Sizes → Reading → Bool
is_next_of place z r = nat_le (refs_word z place + 7) r.word && nat_lt r.word (refs_word z place + 9)

-- the word of this kind of some place: its references are of kind 0, its phase of kind 1, its next links of the kinds 7 and 8
abbrev pub is_of_kind : ℕ → Sizes → Reading → Bool
is_of_kind kind z r = nat_le (3 + 2 * z.buckets) r.word && kind_of z r.word == kind

-- the references of some place, first ones not among them
abbrev pub is_some_refs : Sizes → Reading → Bool
is_some_refs z r = is_of_kind 0 z r && not (is_some r.free)

abbrev pub is_some_phase : ℕ → Sizes → Reading → Bool
is_some_phase value z r = is_of_kind 1 z r && r.value == value

abbrev pub is_some_next : Sizes → Reading → Bool
is_some_next z r = is_of_kind 7 z r || is_of_kind 8 z r

-- WHAT IS AMONG THE READINGS OF A CALL

-- an own change passes the test
abbrev pub has_change : (Sizes → Reading → Bool) → Sizes → List Reading → Bool
has_change test z readings = list_any (λ (r : Reading). r.own && test z r) readings

-- some references became 0
abbrev pub is_last_given : Sizes → Reading → Bool
is_last_given z r = is_some_refs z r && r.value == 0

-- the turn of the free list, or a phase that became FREE
abbrev pub is_freeing : Sizes → Reading → Bool
is_freeing z r = is_free_turn z r || is_some_phase 0 z r

-- where the pass made a place free, some references became 0 by it
abbrev pub frees_what_it_gave : Sizes → List Reading → Bool
frees_what_it_gave z readings = not (has_change is_freeing z readings) || has_change is_last_given z readings

-- The pass changed only such words, and took the turn of the free list, and made a phase FREE, only where it gave up the last
-- reference to a place in the same call.
pub record ChangesAndFrees (may : Sizes → Reading → Bool) (v w : View) : Type 0 where
  pub words : ChangesWords may v w
  pub gave : frees_what_it_gave v.passes.sizes words.only.more ≡ true

-- how often a phase became OWNED, by the pass
abbrev pub places_taken : Sizes → List Reading → ℕ
places_taken z readings = total (λ (r : Reading). bit (r.own && is_some_phase 1 z r)) readings
