-- How the loads of a walk change what the pass notes of it. A load of the noted bucket's head begins the walk anew. The word
-- after the newest link goes on with it. A word of that link's tuple is noted where it was not read before. Three things show
-- that the generation has passed: at a link that was met, another value of its tuple than was read there, no reference to its
-- place, or a phase of its place that is not LIVE.
use Rattle.std.specs.Prelude.{ℕ, ◌==◌, ◌&&◌, ◌||◌, not, Bool, true, false, if◌then◌else◌, Option, Some, None, List, [], ◌∷◌}
use Rattle.std.specs.List.{list_any}
use Rattle.history_book.specs.declared.sizes.Sizes.{Sizes}
use Rattle.track_rule.specs.declared.view.MetLink.{MetLink}
use Rattle.track_rule.specs.declared.view.Walk.{Walk}
use Rattle.track_rule.specs.Layout.{first_word, head_word, next_word, place_of, second_word}

-- a link that was met, of whose tuple nothing was read
abbrev pub just_met : ℕ → MetLink
just_met link = record { link = link; first = None; second = None }

-- a walk along the chain of a bucket at this generation, of which nothing was read
abbrev pub fresh_walk : ℕ → ℕ → Walk
fresh_walk bucket generation = record { bucket = bucket; generation = generation; met = []; ended = false; at = None; passed = false }

-- the same generation of the same bucket keeps the note, another one begins a new note
abbrev pub is_note_of : ℕ → ℕ → Walk → Bool
is_note_of bucket generation n = n.bucket == bucket && n.generation == generation

abbrev pub note_then : ℕ → ℕ → Option Walk → Walk
note_then bucket generation None = fresh_walk bucket generation
note_then bucket generation (Some n) = (if is_note_of bucket generation n then n else fresh_walk bucket generation)

-- a link more, or the end
abbrev pub met_then : ℕ → Walk → Walk
met_then link n = (if link == 0 then record n { ended = true } else record n { met = just_met link ∷ n.met })

-- the word of the link after the newest one
abbrev pub is_after : Sizes → ℕ → List MetLink → Bool
is_after z word [] = false
is_after z word (m ∷ ms) = next_word z m.link == word

abbrev pub link_noted : Sizes → ℕ → ℕ → Walk → Walk
link_noted z word link n =
    (if head_word z n.bucket == word then met_then link (fresh_walk n.bucket n.generation) else
    (if not n.ended && is_after z word n.met then met_then link n else n))

abbrev pub link_note : Sizes → ℕ → ℕ → Option Walk → Option Walk
link_note z word link None = None
link_note z word link (Some n) = Some (link_noted z word link n)

-- the first value that was read stays
abbrev pub read_then : ℕ → Option ℕ → Option ℕ
read_then n None = Some n
read_then n (Some m) = Some m

-- another one was read
abbrev pub is_other : Option ℕ → ℕ → Bool
is_other None n = false
is_other (Some m) n = not (m == n)

abbrev pub met_read : Sizes → ℕ → ℕ → List MetLink → List MetLink
met_read z word n [] = []
met_read z word n (m ∷ ms) =
    (if first_word z m.link == word then record m { first = read_then n m.first } else
    (if second_word z m.link == word then record m { second = read_then n m.second } else m)) ∷ ms

abbrev pub is_changed : Sizes → ℕ → ℕ → List MetLink → Bool
is_changed z word n [] = false
is_changed z word n (m ∷ ms) =
    (first_word z m.link == word && is_other m.first n) || (second_word z m.link == word && is_other m.second n)

abbrev pub tuple_noted : Sizes → ℕ → ℕ → Walk → Walk
tuple_noted z word n walk = record walk { met = met_read z word n walk.met; passed = walk.passed || is_changed z word n walk.met }

abbrev pub tuple_note : Sizes → ℕ → ℕ → Option Walk → Option Walk
tuple_note z word n None = None
tuple_note z word n (Some walk) = Some (tuple_noted z word n walk)

-- a link of the place was met
abbrev pub has_met : ℕ → List MetLink → Bool
has_met place met = list_any (λ (m : MetLink). place_of m.link == place) met

-- no entry is live at the place: the generation has passed, where a link of the place was met
abbrev pub lost_noted : ℕ → Walk → Walk
lost_noted place walk = record walk { passed = walk.passed || has_met place walk.met }

abbrev pub lost_note : ℕ → Option Walk → Option Walk
lost_note place None = None
lost_note place (Some walk) = Some (lost_noted place walk)

-- where that was seen
abbrev pub note_where : Bool → ℕ → Option Walk → Option Walk
note_where lost place walk = (if lost then lost_note place walk else walk)
