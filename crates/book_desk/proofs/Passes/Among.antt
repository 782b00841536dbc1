-- What a pass keeps is among what the book has, and changes with it.
use Rattle.std.proofs.Common.{◌≡◌, ℕ, ◌+◌, ◌≤◌, true, false, Bool, cond, List, [], ◌∷◌, length, refl, sym, ap, subst, ◌∙◌, ⊎_elim, arith, Option, Some, None}
use Rattle.std.specs.List.{AllByRecursion, find, list_any}
use Rattle.std.specs.Prelude.{◌==◌, ◌&&◌, ◌||◌, is_none, is_some}
use Rattle.std.proofs.lemmas.Bool.{and_from, and_parts, eq-eqb, eqb-true, false≢true, or_cases, or_left, or_right}
use Rattle.history_book.specs.declared.desk.Hold.{Hold}
use Rattle.history_book.specs.Held.{for_entry, held_for, held_id, id_of, is_at, is_held, is_owed, is_taken, paid, without}
use Rattle.history_book.specs.Sight.{IsForOne}
use Rattle.book_desk.specs.Fields.{Agree}
use Rattle.book_desk.specs.Uses.{bit, tally}
use Rattle.book_desk.specs.declared.turn.change.PlaceChange.{PlaceChange}
use Rattle.book_desk.specs.declared.turn.change.PlaceChange.TheVariants.{Same, Holds, Names, Releases, Owes, Pays}
use Rattle.book_desk.specs.Turn.Change.{held_after, owed_after}
use Rattle.book_desk.specs.Turn.Sums.{total}
use Rattle.std.proofs.lemmas.List.{length-map}
use Rattle.book_desk.proofs.Lists.{each_map, each_two, tally_some}
use Rattle.book_desk.proofs.Pool.{length-paid, length-without}

-- however items are weighed, these weigh no more than those
abbrev pub Among : {X : Type 0} → List X → List X → Type 0
Among {X} xs ys = (weight : X → ℕ) → total weight xs ≤ total weight ys

tally_total : {X : Type 0} (q : X → Bool) (xs : List X) → tally q xs ≡ total (λ x. bit (q x)) xs
tally_total q [] = refl
tally_total q (x ∷ xs) = ap (λ (n : ℕ). bit (q x) + n) (tally_total q xs)

-- so that what one of these passes one of those passes
pub any_among : {X : Type 0} (q : X → Bool) (xs ys : List X) → Among xs ys → list_any q xs ≡ true → list_any q ys ≡ true
any_among q xs ys among some =
    any_counted q ys (omega (arith, tally_some q xs some, among (λ x. bit (q x)), tally_total q xs, tally_total q ys))
  where
    any_counted : {X : Type 0} (q : X → Bool) (ys : List X) → 1 ≤ tally q ys → list_any q ys ≡ true
    any_counted q [] some = absurd (omega (arith, some))
    any_counted q (y ∷ ys) some =
        elim (q y) as (λ b. 1 ≤ bit b + tally q ys → (b || list_any q ys) ≡ true) [
          | true ↦ λ h. refl
          | false ↦ λ h. any_counted q ys (omega (arith, h))
        ] some

pub none_among : {X : Type 0} (q : X → Bool) (xs ys : List X) → Among xs ys → list_any q ys ≡ false → list_any q xs ≡ false
none_among q xs ys among none =
    elim (list_any q xs) as (λ b. list_any q xs ≡ b → b ≡ false) [
      | true ↦ λ h. absurd (false≢true (sym none ∙ any_among q xs ys among h))
      | false ↦ λ h. refl
    ] refl

-- and no more of them
pub tally_among : {X : Type 0} (q : X → Bool) (xs ys : List X) → Among xs ys → tally q xs ≤ tally q ys
tally_among q xs ys among = omega (arith, among (λ x. bit (q x)), tally_total q xs, tally_total q ys)

-- two references are the same
abbrev same_id : Option ℕ → Option ℕ → Bool
same_id None None = true
same_id None (Some n) = false
same_id (Some m) None = false
same_id (Some m) (Some n) = m == n

same_id_is : (a b : Option ℕ) → same_id a b ≡ true → a ≡ b
same_id_is None None h = refl
same_id_is None (Some n) h = absurd (false≢true h)
same_id_is (Some m) None h = absurd (false≢true h)
same_id_is (Some m) (Some n) h = ap Some (eqb-true m n h)

same_id_itself : (a : Option ℕ) → same_id a a ≡ true
same_id_itself None = refl
same_id_itself (Some n) = eq-eqb n n refl

abbrev is_same : Hold → Hold → Bool
is_same g h = g.place == h.place && same_id g.id h.id

is_same_is : (g h : Hold) → is_same g h ≡ true → g ≡ h
is_same_is g h same =
    let parts = and_parts (g.place == h.place) (same_id g.id h.id) same in
    let place : g.place ≡ h.place = eqb-true g.place h.place parts.0 in
    let id : g.id ≡ h.id = same_id_is g.id h.id parts.1 in
    λ i. record { place = place i; id = id i }

is_same_itself : (h : Hold) → is_same h h ≡ true
is_same_itself h = and_from _ _ (eq-eqb h.place h.place refl) (same_id_itself h.id)

-- what is so of each of those is so of each of these
module _ {X : Type 0} (same : X → X → Bool) (same_is : (x y : X) → same x y ≡ true → x ≡ y) (same_itself : (x : X) → same x x ≡ true) where
  each_there : (P : X → Type 0) (x : X) (ys : List X) → AllByRecursion P ys → list_any (same x) ys ≡ true → P x
  each_there P x [] all some = absurd (false≢true some)
  each_there P x (y ∷ ys) (one, all) some =
      ⊎_elim (λ e. subst P (sym (same_is x y e)) one) (λ e. each_there P x ys all e) (or_cases (same x y) (list_any (same x) ys) some)

  each_of_among : (P : X → Type 0) (xs ys : List X) → Among xs ys → AllByRecursion P ys → AllByRecursion P xs
  each_of_among P [] ys among all = tt
  each_of_among P (x ∷ xs) ys among all = (
    each_there P x ys all (any_among (same x) (x ∷ xs) ys among (or_left (same x x) (list_any (same x) xs) (same_itself x))),
    each_of_among P xs ys (λ weight. omega (arith, among weight)) all,
  )

pub each_hold_among : (P : Hold → Type 0) (xs ys : List Hold) → Among xs ys → AllByRecursion P ys → AllByRecursion P xs
each_hold_among = each_of_among is_same is_same_is is_same_itself

pub each_place_among : (P : ℕ → Type 0) (xs ys : List ℕ) → Among xs ys → AllByRecursion P ys → AllByRecursion P xs
each_place_among = each_of_among (λ m n. m == n) (λ m n h. eqb-true m n h) (λ n. eq-eqb n n refl)

-- any reference to the place is like the first one
all_like_first : (p : ℕ) (h : Hold) (held : List Hold) → Agree held → find (is_at p) held ≡ Some h → AllByRecursion (λ g. g.place ≡ p → g ≡ h) held
all_like_first p h [] agree found = tt
all_like_first p h (x ∷ xs) (one, rest) found =
    elim (is_at p x) as (λ b. is_at p x ≡ b → cond b (Some x) (find (is_at p) xs) ≡ Some h → AllByRecursion (λ g. g.place ≡ p → g ≡ h) (x ∷ xs)) [
      | true ↦ λ here first.
          let is : x ≡ h = cc in
          let place : x.place ≡ p = eqb-true x.place p here in (
            (λ e. is),
            each_map (IsForOne x) (λ g. g.place ≡ p → g ≡ h) xs
                (λ g both there. let id : x.id ≡ g.id = both.same (place ∙ sym there) in
                (λ i. record { place = (there ∙ sym place) i; id = sym id i }) ∙ is) one,
          )
      | false ↦ λ here first. ((λ e. absurd (false≢true (sym here ∙ eq-eqb x.place p e))), all_like_first p h xs rest first)
    ] refl found

-- the first reference to a place that is held
pub record IsFirstAt (p : ℕ) (held : List Hold) (h : Hold) : Type 0 where
  pub found : find (is_at p) held ≡ Some h
  pub place : h.place ≡ p
  pub there : list_any (is_same h) held ≡ true
  pub rest : (weight : Hold → ℕ) → total weight (without p held) + weight h ≡ total weight held

first_at : (p : ℕ) (held : List Hold) → is_held p held ≡ true → (h : Hold) × IsFirstAt p held h
first_at p [] some = absurd (false≢true some)
first_at p (x ∷ xs) some =
    elim (is_at p x) as (λ b. is_at p x ≡ b → (b || is_held p xs) ≡ true → (h : Hold) × IsFirstAt p (x ∷ xs) h) [
      | true ↦ λ here rest. (
        x,
        record {
          found = ap (λ b. cond b (Some x) (find (is_at p) xs)) here;
          place = eqb-true x.place p here;
          there = or_left (is_same x x) (list_any (is_same x) xs) (is_same_itself x);
          rest = λ weight. omega (arith, ap (λ b. total weight (cond b xs (x ∷ without p xs))) here);
        },
      )
      | false ↦ λ here rest.
          let later = first_at p xs rest in
          let f : IsFirstAt p xs later.0 = later.1 in (
            later.0,
            record {
              found = ap (λ b. cond b (Some x) (find (is_at p) xs)) here ∙ f.found;
              place = f.place;
              there = or_right (is_same later.0 x) (list_any (is_same later.0) xs) f.there;
              rest = λ weight. omega (arith, f.rest weight, ap (λ b. total weight (cond b xs (x ∷ without p xs))) here);
            },
          )
    ] refl some

-- the first references to a place among these and among those are the same
same_first : (p : ℕ) (own all : List Hold) (g h : Hold) → Agree all → Among own all → IsFirstAt p own g → IsFirstAt p all h → g ≡ h
same_first p own all g h agree among f k =
    each_there is_same is_same_is is_same_itself (λ x. x.place ≡ p → x ≡ h) g all (all_like_first p h all agree k.found)
    (any_among (is_same g) own all among f.there) f.place

-- so a place is held for the same entry
pub held_id_among : (p : ℕ) (own all : List Hold) → Agree all → Among own all → is_held p own ≡ true → held_id p own ≡ held_id p all
held_id_among p own all agree among some =
    let g = first_at p own some in
    let h = first_at p all (any_among (is_at p) own all among some) in
    ap id_of (g.1.found ∙ ap Some (same_first p own all g.0 h.0 agree among g.1 h.1) ∙ sym h.1.found)

pub without_balance : (p : ℕ) (own all : List Hold) → Agree all → Among own all → is_held p own ≡ true → (weight : Hold → ℕ)
    → total weight (without p all) + total weight own ≡ total weight all + total weight (without p own)
without_balance p own all agree among some weight =
    let g = first_at p own some in
    let h = first_at p all (any_among (is_at p) own all among some) in
    omega (arith, g.1.rest weight, h.1.rest weight, ap weight (same_first p own all g.0 h.0 agree among g.1 h.1))

-- references to other places stay as they are
others_stay : (p id : ℕ) (held : List Hold) → AllByRecursion (λ g. g.place ≡ p → ⊥) held → held_for p id held ≡ held
others_stay p id [] all = refl
others_stay p id (x ∷ xs) (one, all) =
    elim (is_at p x) as (λ b. is_at p x ≡ b → cond b (record x { id = Some id }) x ∷ held_for p id xs ≡ x ∷ xs) [
      | true ↦ λ here. absurd (one (eqb-true x.place p here))
      | false ↦ λ here. ap (λ t. x ∷ t) (others_stay p id xs all)
    ] refl

none_of_some : (o : Option ℕ) → is_none o ≡ true → is_some o ≡ true → ⊥
none_of_some None a b = false≢true b
none_of_some (Some n) a b = false≢true a

is_none_is : (o : Option ℕ) → is_none o ≡ true → o ≡ None
is_none_is None h = refl
is_none_is (Some n) h = absurd (false≢true h)

-- where one of these references is to no entry, so is one to the same place
taken_like : (p : ℕ) (x : Hold) (xs : List Hold) → x.place ≡ p → AllByRecursion (IsForOne x) xs → is_taken p xs ≡ true → is_none x.id ≡ true
taken_like p x [] here one taken = absurd (false≢true taken)
taken_like p x (g ∷ gs) here (one, ones) taken =
    ⊎_elim
    (λ e. let parts = and_parts (is_at p g) (is_none g.id) e in
    ap is_none (one.same (here ∙ sym (eqb-true g.place p parts.0))) ∙ parts.1)
    (λ e. taken_like p x gs here ones e)
    (or_cases (is_at p g && is_none g.id) (is_taken p gs) taken)

-- naming the only reference to a place that was taken
pub named_weight : (p id : ℕ) (held : List Hold) → Agree held → is_taken p held ≡ true → (weight : Hold → ℕ)
    → total weight (held_for p id held) + weight (record { place = p; id = None }) ≡ total weight held + weight (record { place = p; id = Some id })
named_weight p id [] agree taken weight = absurd (false≢true taken)
named_weight p id (x ∷ xs) (one, rest) taken weight =
    elim (is_at p x) as (λ b. is_at p x ≡ b → ((b && is_none x.id) || is_taken p xs) ≡ true
    → weight (cond b (record x { id = Some id }) x) + total weight (held_for p id xs) + weight (record { place = p; id = None })
    ≡ weight x + total weight xs + weight (record { place = p; id = Some id })) [
      | true ↦ λ here some.
          let place : x.place ≡ p = eqb-true x.place p here in
          let none : is_none x.id ≡ true = ⊎_elim (λ e. e) (λ e. taken_like p x xs place one e) (or_cases (is_none x.id) (is_taken p xs) some) in
          let empty : x.id ≡ None = is_none_is x.id none in
          let alone : AllByRecursion (λ g. g.place ≡ p → ⊥) xs =
          each_map (IsForOne x) (λ g. g.place ≡ p → ⊥) xs (λ g both there. none_of_some x.id none (both.entry (place ∙ sym there))) one in
          let is : x ≡ record { place = p; id = None } = λ i. record { place = place i; id = empty i } in
          let named : record x { id = Some id } ≡ record { place = p; id = Some id } = λ i. record { place = place i; id = Some id } in
          omega (arith, ap (total weight) (others_stay p id xs alone), ap weight is, ap weight named)
      | false ↦ λ here some. omega (arith, named_weight p id xs rest some weight)
    ] refl taken

pub paid_weight : (p : ℕ) (owed : List ℕ) → is_owed p owed ≡ true → (weight : ℕ → ℕ) → total weight (paid p owed) + weight p ≡ total weight owed
paid_weight p [] some weight = absurd (false≢true some)
paid_weight p (x ∷ xs) some weight =
    elim (x == p) as (λ b. (x == p) ≡ b → (b || is_owed p xs) ≡ true → total weight (cond b xs (x ∷ paid p xs)) + weight p ≡ weight x + total weight xs) [
      | true ↦ λ here rest. omega (arith, ap weight (eqb-true x p here))
      | false ↦ λ here rest. omega (arith, paid_weight p xs rest weight)
    ] refl some

-- where two references are to one place, they are to an entry
two_are_named : (p : ℕ) (held : List Hold) → Agree held → 2 ≤ tally (is_at p) held → AllByRecursion (λ g. g.place ≡ p → is_some g.id ≡ true) held
two_are_named p [] agree two = tt
two_are_named p (x ∷ xs) (one, rest) two =
    elim (is_at p x) as (λ b. is_at p x ≡ b → 2 ≤ bit b + tally (is_at p) xs → AllByRecursion (λ g. g.place ≡ p → is_some g.id ≡ true) (x ∷ xs)) [
      | true ↦ λ here some.
          let place : x.place ≡ p = eqb-true x.place p here in
          let named : is_some x.id ≡ true = named_by p x xs place one (omega (arith, some)) in (
            (λ e. named),
            each_map (IsForOne x) (λ g. g.place ≡ p → is_some g.id ≡ true) xs
                (λ g both there. ap is_some (sym (both.same (place ∙ sym there))) ∙ named) one,
          )
      | false ↦ λ here some. ((λ e. absurd (false≢true (sym here ∙ eq-eqb x.place p e))), two_are_named p xs rest (omega (arith, some)))
    ] refl two
  where
    named_by : (p : ℕ) (x : Hold) (xs : List Hold) → x.place ≡ p → AllByRecursion (IsForOne x) xs → 1 ≤ tally (is_at p) xs → is_some x.id ≡ true
    named_by p x [] here one some = absurd (omega (arith, some))
    named_by p x (g ∷ gs) here (one, ones) some =
        elim (is_at p g) as (λ b. is_at p g ≡ b → 1 ≤ bit b + tally (is_at p) gs → is_some x.id ≡ true) [
          | true ↦ λ there count. one.entry (here ∙ sym (eqb-true g.place p there))
          | false ↦ λ there count. named_by p x gs here ones (omega (arith, count))
        ] refl some

-- a reference counts at its own place
counts_itself : (xs : List Hold) → AllByRecursion (λ g. 1 ≤ tally (is_at g.place) xs) xs
counts_itself [] = tt
counts_itself (x ∷ xs) = (
  omega (arith, ap bit (eq-eqb x.place x.place refl)),
  each_map (λ g. 1 ≤ tally (is_at g.place) xs) (λ g. 1 ≤ tally (is_at g.place) (x ∷ xs)) xs (λ g some. omega (arith, some)) (counts_itself xs),
)

-- references among references that agree agree
pub agree_among : (own all : List Hold) → Agree all → Among own all → Agree own
agree_among [] all agree among = tt
agree_among (x ∷ xs) all agree among =
    let first = first_at x.place all (any_among (is_at x.place) (x ∷ xs) all among (or_left (is_at x.place x) (is_held x.place xs) (eq-eqb x.place x.place refl))) in
    let like : AllByRecursion (λ g. g.place ≡ x.place → g ≡ first.0) (x ∷ xs) =
    each_hold_among (λ g. g.place ≡ x.place → g ≡ first.0) (x ∷ xs) all among (all_like_first x.place first.0 all agree first.1.found) in
    let same : x ≡ first.0 = like.0 refl in (
      each_two (λ g. g.place ≡ x.place → g ≡ first.0) (λ g. 1 ≤ tally (is_at g.place) xs) (IsForOne x) xs
          (λ g alike counted. record {
            same = λ e. ap (λ (k : Hold). k.id) (same ∙ sym (alike (sym e)));
            entry = λ e. (each_hold_among (λ k. k.place ≡ x.place → is_some k.id ≡ true) (x ∷ xs) all among
                (two_are_named x.place all agree (omega (
                  arith,
                  among (λ k. bit (is_at x.place k)),
                  tally_total (is_at x.place) xs,
                  tally_total (is_at x.place) all,
                  ap bit (eq-eqb x.place x.place refl),
                  ap (λ (p : ℕ). tally (is_at p) xs) e,
                  counted,
                )))).0 refl;
          }) like.1 (counts_itself xs),
      agree_among xs all agree (λ weight. omega (arith, among weight)),
    )

-- how a turn may change the places of a pass that holds and owes these
abbrev pub CanChange : PlaceChange → List Hold → List ℕ → Type 0
CanChange Same held owed = Unit {0}
CanChange (Holds h) held owed = length held + length owed ≤ 3
CanChange (Names place id) held owed = is_taken place held ≡ true
CanChange (Releases place) held owed = is_held place held ≡ true
CanChange (Owes place) held owed = is_held place held ≡ true
CanChange (Pays place) held owed = is_owed place owed ≡ true

pub taken_any : (p : ℕ) (own all : List Hold) → Among own all → is_taken p own ≡ true → is_taken p all ≡ true
taken_any p own all among taken = any_among (λ h. is_at p h && is_none h.id) own all among taken

-- the references of the book change as those of the pass
pub held_balance : (c : PlaceChange) (own all : List Hold) (owed : List ℕ) → Agree all → Among own all → CanChange c own owed → (weight : Hold → ℕ)
    → total weight (held_after c all) + total weight own ≡ total weight all + total weight (held_after c own)
held_balance Same own all owed agree among can weight = refl
held_balance (Holds h) own all owed agree among can weight = omega arith
held_balance (Names place id) own all owed agree among can weight =
    omega (
      arith,
      named_weight place id all agree (taken_any place own all among can) weight,
      named_weight place id own (agree_among own all agree among) can weight,
    )
held_balance (Releases place) own all owed agree among can weight = without_balance place own all agree among can weight
held_balance (Owes place) own all owed agree among can weight = without_balance place own all agree among can weight
held_balance (Pays place) own all owed agree among can weight = refl

-- and the owed places
pub owed_balance : (c : PlaceChange) (held : List Hold) (own all : List ℕ) → Among own all → CanChange c held own → (weight : ℕ → ℕ)
    → total weight (owed_after c all) + total weight own ≡ total weight all + total weight (owed_after c own)
owed_balance Same held own all among can weight = refl
owed_balance (Holds h) held own all among can weight = refl
owed_balance (Names place id) held own all among can weight = refl
owed_balance (Releases place) held own all among can weight = refl
owed_balance (Owes place) held own all among can weight = omega arith
owed_balance (Pays place) held own all among can weight =
    omega (
      arith,
      paid_weight place all (any_among (λ p. p == place) own all among can) weight,
      paid_weight place own can weight,
    )

-- four places at most, still
pub few_after : (c : PlaceChange) (held : List Hold) (owed : List ℕ) → length held + length owed ≤ 4 → CanChange c held owed
    → length (held_after c held) + length (owed_after c owed) ≤ 4
few_after Same held owed few can = few
few_after (Holds h) held owed few can = omega (arith, can)
few_after (Names place id) held owed few can = omega (arith, few, length-map held (for_entry place id))
few_after (Releases place) held owed few can = omega (arith, few, length-without place held can)
few_after (Owes place) held owed few can = omega (arith, few, length-without place held can)
few_after (Pays place) held owed few can = omega (arith, few, length-paid place owed can)
