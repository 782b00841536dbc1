-- A state without the places of its records: what is found in it is what is found in the state, without its place.
use Rattle.std.proofs.Common.{◌≡◌, ℕ, Bool, true, false, not, cond, ◌||◌, List, [], ◌∷◌, map, length, filter, refl, sym, ap, ap₂, ◌∙◌, Option, Some, None, option_map}
use Rattle.std.specs.List.{find, list_any}
use Rattle.std.proofs.lemmas.List.{length-map, map-append}
use Rattle.tuple_core.specs.declared.Tuple.{Tuple}
use Rattle.history_book.specs.declared.event.Event.{Event}
use Rattle.history_book.specs.declared.event.Event.TheVariants.{Confirm, Touch, Destroy, Expect, Claim, Unexpect}
use Rattle.history_book.specs.declared.record.Record.{Record}
use Rattle.history_book.specs.History.{run}
use Rattle.history_book.specs.Record.{has_id, has_original, has_reply, has_tuple}
use Rattle.history_book.specs.State.{Found, State, first_found, is_free, live_under, next, original_first, record_of, winner, with_part}
use Rattle.proto_rules.specs.declared.Part.{Part}
use Rattle.replay_laws.specs.OneAnswer.{unplaced}

-- the record with no place
abbrev pub bare_record : Record → Record
bare_record r = record r { place = 0 }

abbrev pub bare_found : Found → Found
bare_found f = record { subject = bare_record f.subject; direction = f.direction }

-- the state of records with no place
abbrev pub bare : State → State
bare s = record { records = map bare_record s.records; expects = s.expects }

choice_map : {X Y : Type 0} (f : X → Y) (b : Bool) (x y : X) → cond b (f x) (f y) ≡ f (cond b x y)
choice_map f true x y = refl
choice_map f false x y = refl

find_bare : (p : Record → Bool) → ((r : Record) → p (bare_record r) ≡ p r) → (rs : List Record)
    → find p (map bare_record rs) ≡ option_map bare_record (find p rs)
find_bare p same [] = refl
find_bare p same (r ∷ rs) =
    ap₂ (λ (b : Bool) (o : Option Record). cond b (Some (bare_record r)) o) (same r) (find_bare p same rs)
    ∙ choice_map (option_map bare_record) (p r) (Some r) (find p rs)

any_bare : (p : Record → Bool) → ((r : Record) → p (bare_record r) ≡ p r) → (rs : List Record)
    → list_any p (map bare_record rs) ≡ list_any p rs
any_bare p same [] = refl
any_bare p same (r ∷ rs) = ap₂ (λ (b c : Bool). b || c) (same r) (any_bare p same rs)

filter_bare : (p : Record → Bool) → ((r : Record) → p (bare_record r) ≡ p r) → (rs : List Record)
    → filter p (map bare_record rs) ≡ map bare_record (filter p rs)
filter_bare p same [] = refl
filter_bare p same (r ∷ rs) =
    ap₂ (λ (b : Bool) (ps : List Record). cond b (bare_record r ∷ ps) ps) (same r) (filter_bare p same rs)
    ∙ choice_map (map bare_record) (p r) (r ∷ filter p rs) (filter p rs)

original_first_bare : (o r : Option Record)
    → original_first (option_map bare_record o) (option_map bare_record r) ≡ option_map bare_found (original_first o r)
original_first_bare (Some o) r = refl
original_first_bare None (Some r) = refl
original_first_bare None None = refl

-- what is live under a tuple is so in the bare state, without its place
pub live_bare : (t : Tuple) (s : State) → live_under t (bare s) ≡ option_map bare_found (live_under t s)
live_bare t s =
    ap₂ original_first (find_bare (has_original t) (λ r. refl) s.records) (find_bare (has_reply t) (λ r. refl) s.records)
    ∙ original_first_bare (find (has_original t) s.records) (find (has_reply t) s.records)

first_bare : (o r : Option Found)
    → first_found (option_map bare_found o) (option_map bare_found r) ≡ option_map bare_found (first_found o r)
first_bare (Some o) r = refl
first_bare None r = refl

pub winner_bare : (t u : Tuple) (s : State) → winner t u (bare s) ≡ option_map bare_found (winner t u s)
winner_bare t u s = ap₂ first_found (live_bare t s) (live_bare u s) ∙ first_bare (live_under t s) (live_under u s)

pub free_bare : (t : Tuple) (s : State) → is_free t (bare s) ≡ is_free t s
free_bare t s = ap not (any_bare (has_tuple t) (λ r. refl) s.records)

-- the record of an id is so in the bare state, without its place
pub record_bare : (id : ℕ) (s : State) → record_of id (bare s) ≡ option_map bare_record (record_of id s)
record_bare id s = find_bare (has_id id) (λ r. refl) s.records

pub length_bare : (s : State) → length (bare s).records ≡ length s.records
length_bare s = length-map s.records bare_record

touch_bare : (id : ℕ) (part : Part) (rs : List Record)
    → map (with_part id part) (map bare_record rs) ≡ map bare_record (map (with_part id part) rs)
touch_bare id part [] = refl
touch_bare id part (r ∷ rs) =
    ap₂ (λ (x : Record) (xs : List Record). x ∷ xs) (choice_map bare_record (has_id id r) (record r { part = part }) r)
    (touch_bare id part rs)

pub next_bare : (s : State) (e : Event) → next (bare s) (unplaced e) ≡ bare (next s e)
next_bare s (Confirm r) =
    ap (λ (x : List Record). record { records = x; expects = s.expects }) (sym (map-append bare_record s.records (r ∷ [])))
next_bare s (Touch id direction segment moment part) =
    ap (λ (x : List Record). record { records = x; expects = s.expects }) (touch_bare id part s.records)
next_bare s (Destroy id why) =
    ap (λ (x : List Record). record { records = x; expects = (next s (Destroy id why)).expects })
    (filter_bare (λ r. not (has_id id r)) (λ r. refl) s.records)
next_bare s (Expect expectation replaced moment) = refl
next_bare s (Claim expectation master tuple moment) = refl
next_bare s (Unexpect expectation moment) = refl

-- running the events without places leaves the state without places
pub run_bare : (s : State) (es : List Event) → run (bare s) (map unplaced es) ≡ bare (run s es)
run_bare s [] = refl
run_bare s (e ∷ es) = ap (λ (x : State). run x (map unplaced es)) (next_bare s e) ∙ run_bare (next s e) es

-- states that are bare the same stay so by events that are the same without places
pub run_same : (s q : State) (es fs : List Event) → bare s ≡ bare q → map unplaced es ≡ map unplaced fs
    → bare (run s es) ≡ bare (run q fs)
run_same s q es fs e same =
    sym (run_bare s es) ∙ ap₂ (λ (x : State) (xs : List Event). run x xs) e same ∙ run_bare q fs

pub length_same : (s q : State) → bare s ≡ bare q → length s.records ≡ length q.records
length_same s q e = sym (length_bare s) ∙ ap (λ (x : State). length x.records) e ∙ length_bare q

bare_twice : (rs : List Record) → map bare_record (map bare_record rs) ≡ map bare_record rs
bare_twice [] = refl
bare_twice (r ∷ rs) = ap (λ (xs : List Record). bare_record r ∷ xs) (bare_twice rs)

-- as many records are live after the events from the bare state
pub length_run : (s : State) (es : List Event) → length (run (bare s) es).records ≡ length (run s es).records
length_run s es =
    length_same (run (bare s) es) (run s es)
    (run_same (bare s) s es es (ap (λ (rs : List Record). record { records = rs; expects = s.expects }) (bare_twice s.records)) refl)
