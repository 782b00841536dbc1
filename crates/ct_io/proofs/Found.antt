-- What is found by name after one file changed or one more was added.
use Rattle.std.proofs.Common.{◌≡◌, ◌≢◌, ℕ, zero, suc, ◌<◌, inl, inr, Bool, true, false, ◌||◌, cond, List, [], ◌∷◌, ◌++◌, length, drop, get_or, set, Option, None, Some, refl, sym, subst, ◌∙◌, ap, arith, length-set}
use Rattle.std.specs.List.{find, position, position_or_len, slice_get}
use Rattle.std.specs.Str.{bytes_eq}
use Rattle.std.specs.Option.{ForSome, IsSome, is_none, option_map, unwrap_or}
use Rattle.ct_io.proofs.Rises.{risen_rose, risen_stays}
use Rattle.ct_io.specs.Counts.{Rose, risen}
use Rattle.ct_io.specs.MemFiles.{Kept, contents_in, faults_in, is_named, left_at, place_in}
use Rattle.std.proofs.lemmas.Bool.{cases_Bool, cases_eq, false_from_ne_true, true≢false}
use Rattle.std.proofs.lemmas.Bool.Decides.{nat_tests}
use Rattle.std.proofs.lemmas.List.{get_or-set_same}
use Rattle.std.proofs.lemmas.List.Folds.{find_at, position_or_len-set}
use Rattle.std.proofs.lemmas.Slice.Eq.{bytes_eq-Decides}
use Rattle.std.proofs.lemmas.List.Quantifiers.{position-Some}
use Rattle.std.proofs.lemmas.Option.{slice_get-get_or, slice_get_past}

-- a place found is the first at which the test passes
pub place_is : {X : Type 0} (p : X → Bool) (xs : List X) (i : ℕ) → position p xs ≡ Some i →
    (position_or_len p xs ≡ i) × (i < length xs)
place_is p xs i found = grind (arith, nat_tests)

-- what is found by the test stands at the place found
pub find_at_place : {X : Type 0} (p : X → Bool) (xs : List X) (i : ℕ) → position p xs ≡ Some i →
    find p xs ≡ slice_get xs i
find_at_place p xs i found = let here = place_is p xs i found in grind (arith, find_at)

-- without a place nothing is found
pub find_nowhere : {X : Type 0} (p : X → Bool) (xs : List X) → position p xs ≡ None → find p xs ≡ None
find_nowhere p xs nowhere = grind (arith, nat_tests, find_at, slice_get_past)

-- a write elsewhere
slice_get-set_other : {X : Type 0} (xs : List X) (i j : ℕ) (y : X) → j ≢ i → slice_get (set xs i y) j ≡ slice_get xs j
slice_get-set_other [] i j y other = refl
slice_get-set_other (x ∷ xs) zero zero y other = absurd (other refl)
slice_get-set_other (x ∷ xs) zero (suc j) y other = refl
slice_get-set_other (x ∷ xs) (suc i) zero y other = refl
slice_get-set_other (x ∷ xs) (suc i) (suc j) y other = slice_get-set_other xs i j y (λ e. other (ap suc e))

-- After a write of an element that passes where the old one did: it is found where the old one
-- was, and elsewhere nothing changes.
pub data Written {X : Type 0} (p : X → Bool) (xs : List X) (i : ℕ) (y d : X) : Type 0 where
  here : position p xs ≡ Some i → find p xs ≡ Some (get_or xs i d) → find p (set xs i y) ≡ Some y → Written p xs i y d
  elsewhere : position p xs ≢ Some i → find p (set xs i y) ≡ find p xs → Written p xs i y d

pub written : {X : Type 0} (p : X → Bool) (xs : List X) (i : ℕ) (y d : X) → i < length xs →
    p y ≡ p (get_or xs i d) → Written p xs i y d
written p xs i y d within same =
    let moved : find p (set xs i y) ≡ slice_get (set xs i y) (position_or_len p xs) =
    find_at p (set xs i y) ∙ ap (slice_get (set xs i y)) (position_or_len-set p xs i y d same) in
    elim (cases_eq (position_or_len p xs) i) [
      | inl first ↦ here
          (grind (arith, nat_tests))
          (grind (arith, find_at, slice_get-get_or xs i d within))
          (moved ∙ ap (slice_get (set xs i y)) first ∙ slice_get-get_or (set xs i y) i y (omega (arith, length-set xs i y)) ∙ ap Some (get_or-set_same xs i y y within))
      | inr other ↦ elsewhere
          (λ e. other (place_is p xs i e).0)
          (moved ∙ slice_get-set_other xs i (position_or_len p xs) y other ∙ sym (find_at p xs))
    ]

behind_one : {X : Type 0} (p : X → Bool) (x : X) (xs ys : List X) →
    (find p xs ≡ None → find p (xs ++ ys) ≡ find p ys) → find p (x ∷ xs) ≡ None → find p (x ∷ xs ++ ys) ≡ find p ys
behind_one p x xs ys behind nowhere = grind arith

-- behind elements that do not pass
pub find_behind : {X : Type 0} (p : X → Bool) (xs ys : List X) → find p xs ≡ None → find p (xs ++ ys) ≡ find p ys
find_behind p [] ys nowhere = refl
find_behind p (x ∷ xs) ys nowhere = behind_one p x xs ys (find_behind p xs ys) nowhere

-- before elements that do not pass
pub find_before : {X : Type 0} (p : X → Bool) (xs ys : List X) → find p ys ≡ None → find p (xs ++ ys) ≡ find p xs
find_before p [] ys nowhere = nowhere
find_before p (x ∷ xs) ys nowhere = ap (λ o. cond (p x) (Some x) o) (find_before p xs ys nowhere)

-- what one more failure of opening the file at a place does to contents and counts
pub counted_contents : (files : List Kept) (i : ℕ) (d y : Kept) → i < length files →
    y ≡ record (get_or files i d) { faults = risen (get_or files i d).faults } → (n : List ℕ) →
    contents_in (set files i y) n ≡ contents_in files n
counted_contents files i d y within is n =
    elim (written (is_named n) files i y d within (ap (is_named n) is)) [
      | here place old new ↦ rw (old, new, is) refl
      | elsewhere place same ↦ ap (option_map (λ (f : Kept). f.bytes)) same
    ]

pub counted_own : (files : List Kept) (i : ℕ) (d y : Kept) → i < length files →
    y ≡ record (get_or files i d) { faults = risen (get_or files i d).faults } → (n : List ℕ) →
    place_in files n ≡ Some i → (u : ℕ) → faults_in u (set files i y) n ≡ risen (faults_in u files n)
counted_own files i d y within is n at u =
    elim (written (is_named n) files i y d within (ap (is_named n) is)) [
      | here place old new ↦ rw (old, new, is) refl
      | elsewhere place same ↦ absurd (place at)
    ]

pub counted_rose : (files : List Kept) (i : ℕ) (d y : Kept) → i < length files →
    y ≡ record (get_or files i d) { faults = risen (get_or files i d).faults } → Rose (get_or files i d).faults y.faults →
    (n : List ℕ) → place_in files n ≡ Some i → (u : ℕ) → Rose (faults_in u files n) (faults_in u (set files i y) n)
counted_rose files i d y within is rose n at u =
    elim (written (is_named n) files i y d within (ap (is_named n) is)) [
      | here place old new ↦ rw (old, new) rose
      | elsewhere place same ↦ absurd (place at)
    ]

pub counted_others : (files : List Kept) (i : ℕ) (d y : Kept) → i < length files →
    y ≡ record (get_or files i d) { faults = risen (get_or files i d).faults } → (n : List ℕ) →
    place_in files n ≢ Some i → (u : ℕ) → faults_in u (set files i y) n ≡ faults_in u files n
counted_others files i d y within is n away u =
    elim (written (is_named n) files i y d within (ap (is_named n) is)) [
      | here place old new ↦ absurd (away place)
      | elsewhere place same ↦ ap (λ o. unwrap_or (option_map (λ (f : Kept). f.faults) o) u) same
    ]

-- what new contents of the file at a place do to contents and counts, and to what is left of files
pub replaced_contents : (files : List Kept) (i : ℕ) (d y : Kept) → i < length files →
    y.name ≡ (get_or files i d).name → (n : List ℕ) →
    place_in files n ≡ Some i → contents_in (set files i y) n ≡ Some y.bytes
replaced_contents files i d y within name n at =
    elim (written (is_named n) files i y d within (ap (λ m. bytes_eq m n) name)) [
      | here place old new ↦ rw new refl
      | elsewhere place same ↦ absurd (place at)
    ]

pub replaced_others : (files : List Kept) (i : ℕ) (d y : Kept) → i < length files →
    y.name ≡ (get_or files i d).name → (n : List ℕ) →
    place_in files n ≢ Some i → contents_in (set files i y) n ≡ contents_in files n
replaced_others files i d y within name n away =
    elim (written (is_named n) files i y d within (ap (λ m. bytes_eq m n) name)) [
      | here place old new ↦ absurd (away place)
      | elsewhere place same ↦ ap (option_map (λ (f : Kept). f.bytes)) same
    ]

pub replaced_faults : (files : List Kept) (i : ℕ) (d y : Kept) → i < length files →
    y.name ≡ (get_or files i d).name → y.faults ≡ (get_or files i d).faults → (n : List ℕ) (u : ℕ) →
    faults_in u (set files i y) n ≡ faults_in u files n
replaced_faults files i d y within name faults n u =
    elim (written (is_named n) files i y d within (ap (λ m. bytes_eq m n) name)) [
      | here place old new ↦ rw (old, new) faults
      | elsewhere place same ↦ ap (λ o. unwrap_or (option_map (λ (f : Kept). f.faults) o) u) same
    ]

pub replaced_left : (files : List Kept) (i : ℕ) (y : Kept) → i < length files → (taken : ℕ) →
    left_at (set files i y) (Some i) taken ≡ Some (drop taken y.bytes)
replaced_left files i y within taken =
    rw (slice_get-get_or (set files i y) i y (omega (arith, length-set files i y)), get_or-set_same files i y y within) refl

pub other_left : (files : List Kept) (i : ℕ) (y : Kept) (place : Option ℕ) (taken : ℕ) → place ≢ Some i →
    left_at (set files i y) place taken ≡ left_at files place taken
other_left files i y None taken away = refl
other_left files i y (Some j) taken away =
    ap (option_map (λ (f : Kept). drop taken f.bytes)) (slice_get-set_other files i j y (λ e. away (ap Some e)))

-- what one more file behind the others does, whose name is new
pub pushed_contents : (files : List Kept) (y : Kept) → place_in files y.name ≡ None →
    contents_in (files ++ y ∷ []) y.name ≡ Some y.bytes
pushed_contents files y nowhere =
    rw (find_behind (is_named y.name) files (y ∷ []) (find_nowhere (is_named y.name) files nowhere), (bytes_eq-Decides y.name y.name).1 refl) refl

not_named : (y : Kept) (n : List ℕ) → n ≢ y.name → find (is_named n) (y ∷ []) ≡ None
not_named y n other = rw (false_from_ne_true (is_named n y) (λ e. other (sym ((bytes_eq-Decides y.name n).0 e)))) refl

pub pushed_others : (files : List Kept) (y : Kept) (n : List ℕ) → n ≢ y.name →
    contents_in (files ++ y ∷ []) n ≡ contents_in files n
pushed_others files y n other =
    ap (option_map (λ (f : Kept). f.bytes)) (find_before (is_named n) files (y ∷ []) (not_named y n other))

pub pushed_faults : (files : List Kept) (y : Kept) → place_in files y.name ≡ None → (n : List ℕ) →
    faults_in y.faults (files ++ y ∷ []) n ≡ faults_in y.faults files n
pushed_faults files y nowhere n = elim (cases_Bool (is_named n y)) [
  | inl same ↦
      let name : y.name ≡ n = (bytes_eq-Decides y.name n).0 same in
      let none : find (is_named n) files ≡ None =
      subst (λ (m : List ℕ). find (is_named m) files ≡ None) name (find_nowhere (is_named y.name) files nowhere) in
      rw (find_behind (is_named n) files (y ∷ []) none, none, same) refl
  | inr other ↦
      ap (λ o. unwrap_or (option_map (λ (f : Kept). f.faults) o) y.faults) (find_before (is_named n) files (y ∷ []) (rw other refl))
]

slice_get-push : {X : Type 0} (xs : List X) (y : X) (i : ℕ) → i < length xs → slice_get (xs ++ y ∷ []) i ≡ slice_get xs i
slice_get-push [] y i within = absurd (omega arith)
slice_get-push (x ∷ xs) y zero within = refl
slice_get-push (x ∷ xs) y (suc i) within = slice_get-push xs y i (omega arith)

pub pushed_left : (files : List Kept) (y : Kept) (place : Option ℕ) (taken : ℕ) → ForSome place (λ i. i < length files) →
    left_at (files ++ y ∷ []) place taken ≡ left_at files place taken
pushed_left files y None taken within = refl
pushed_left files y (Some i) taken within =
    ap (option_map (λ (f : Kept). drop taken f.bytes)) (slice_get-push files y i (within i refl))

whole : (o : Option Kept) → option_map (λ (f : Kept). f.bytes) o ≡ option_map (λ (f : Kept). drop 0 f.bytes) o
whole None = refl
whole (Some f) = refl

-- what is known by the place of a name
pub contents_at : (files : List Kept) (n : List ℕ) (i : ℕ) → place_in files n ≡ Some i →
    contents_in files n ≡ left_at files (Some i) 0
contents_at files n i found = ap (option_map (λ (f : Kept). f.bytes)) (find_at_place (is_named n) files i found) ∙ whole (slice_get files i)

pub known_at : (files : List Kept) (n : List ℕ) (i : ℕ) → place_in files n ≡ Some i → is_none (contents_in files n) ≡ false
known_at files n i found =
    let there = place_is (is_named n) files i found in
    rw (find_at_place (is_named n) files i found, slice_get-get_or files i (record { name = []; bytes = []; faults = 0 }) there.1) refl

pub contents_nowhere : (files : List Kept) (n : List ℕ) → place_in files n ≡ None → contents_in files n ≡ None
contents_nowhere files n nowhere = rw (find_nowhere (is_named n) files nowhere) refl

pub faults_nowhere : (files : List Kept) (n : List ℕ) (u : ℕ) → place_in files n ≡ None → faults_in u files n ≡ u
faults_nowhere files n u nowhere = rw (find_nowhere (is_named n) files nowhere) refl

pub faults_known : (files : List Kept) (n : List ℕ) (u v : ℕ) → IsSome (contents_in files n) → faults_in u files n ≡ faults_in v files n
faults_known files n u v known = by_cases (find (is_named n) files) u v known
  where
    by_cases : (o : Option Kept) (u v : ℕ) → IsSome (option_map (λ (f : Kept). f.bytes) o) →
        unwrap_or (option_map (λ (f : Kept). f.faults) o) u ≡ unwrap_or (option_map (λ (f : Kept). f.faults) o) v
    by_cases None u v known = cc
    by_cases (Some f) u v known = refl

-- two names are not found at one place
pub other_place : (files : List Kept) (m n : List ℕ) (i : ℕ) → place_in files m ≡ Some i → n ≢ m → place_in files n ≢ Some i
other_place files m n i found other same =
    let name = (get_or files i empty).name in
    let is_n : name ≡ n = (bytes_eq-Decides name n).0 (position-Some (is_named n) files i empty same).1 in
    let is_m : name ≡ m = (bytes_eq-Decides name m).0 (position-Some (is_named m) files i empty found).1 in
    other (sym is_n ∙ is_m)
  where
    empty : Kept
    empty = record { name = []; bytes = []; faults = 0 }

-- names that the test tells apart differ
pub apart_names : (name other : List ℕ) (rest : Bool) → (bytes_eq name other || rest) ≡ false → other ≢ name
apart_names name other rest apart same =
    let is_true : bytes_eq name other ≡ true = (bytes_eq-Decides name other).1 (sym same) in
    true≢false (subst (λ b. (b || rest) ≡ false) is_true apart)

-- a name that shares no count with one that was found is not found at its place
pub other_apart : (files : List Kept) (name other : List ℕ) (rest : Bool) (i : ℕ) → place_in files name ≡ Some i
    → (bytes_eq name other || rest) ≡ false → place_in files other ≢ Some i
other_apart files name other rest i found apart = other_place files name other i found (apart_names name other rest apart)

-- what the functions that change one file use, and what `open` uses
pub ruleset counted = (counted_contents, counted_own, counted_rose, counted_others)

pub ruleset replaced = (replaced_contents, replaced_others, replaced_faults, replaced_left, other_left)

pub ruleset pushed = (pushed_contents, pushed_others, pushed_faults, pushed_left)

pub ruleset opening = (contents_at, known_at, contents_nowhere, faults_nowhere, faults_known, other_apart, other_place, risen_rose, risen_stays)
