-- What each change does to the places.
use Rattle.std.proofs.Common.{◌≡◌, ◌≢◌, ℕ, ◌+◌, ◌<◌, ◌≤◌, min, true, List, [], ◌∷◌, ◌++◌, length, refl, sym, ap, subst, ◌∙◌, ⊎_elim, arith, Some}
use Rattle.std.specs.List.{AllByRecursion, remove, slice_get}
use Rattle.std.specs.Prelude.{◌==◌, slice_set}
use Rattle.std.proofs.lemmas.Bool.{cases_eq, cases_lt, cond_both, eqb-true}
use Rattle.history_book.specs.declared.desk.Hold.{Hold}
use Rattle.history_book.specs.declared.record.Record.{Record}
use Rattle.history_book.specs.Held.{for_entry, held_for, is_at, is_held, is_owed, paid, without}
use Rattle.history_book.specs.Record.{has_place}
use Rattle.book_desk.specs.Uses.{ArePlaces, bit, tally, times, uses}
use Rattle.book_desk.proofs.Lists.{length-rest, other_bit, same_bit, tally-push, tally-remove, tally-rest, tally-set, tally_some}
use Rattle.book_desk.proofs.Counting.{all_below, total_add, total_hit, total_le, total_ones, total_tally, total_tally_le}

-- a place that is somewhere is one of the pool
pub place_below : (n : ℕ) (rs : List Record) (held : List Hold) (free owed : List ℕ) (a : ℕ) → ArePlaces n rs held free owed
    → 1 ≤ times a free + times a owed + uses a rs held → a < n
place_below n rs held free owed a h some =
    ⊎_elim (λ (e : a < n). e) (λ (e : n ≤ a). absurd (omega (arith, some, h.beyond a e))) (cases_lt a n)

-- the places at another place than a are as before
pub record SameElsewhere (a : ℕ) (rs rs' : List Record) (held held' : List Hold) (free free' owed owed' : List ℕ) : Type 0 where
  pub in_records : (p : ℕ) → a ≢ p → tally (has_place p) rs' ≡ tally (has_place p) rs
  pub in_holds : (p : ℕ) → a ≢ p → tally (is_at p) held' ≡ tally (is_at p) held
  pub in_free : (p : ℕ) → a ≢ p → times p free' ≡ times p free
  pub in_owed : (p : ℕ) → a ≢ p → times p owed' ≡ times p owed

-- where all changes are at one place of the pool, that place decides
pub places_at : (n a : ℕ) (rs rs' : List Record) (held held' : List Hold) (free free' owed owed' : List ℕ)
    → ArePlaces n rs held free owed → a < n → SameElsewhere a rs rs' held held' free free' owed owed'
    → times a free' + times a owed' + min (uses a rs' held') 1 ≡ 1 → tally (has_place a) rs' ≤ 1
    → ArePlaces n rs' held' free' owed'
places_at n a rs rs' held held' free free' owed owed' h below same here one = record {
  once = λ p under. ⊎_elim
      (λ (e : a ≡ p). subst (λ (k : ℕ). times k free' + times k owed' + min (uses k rs' held') 1 ≡ 1) e here)
      (λ (e : a ≡ p → ⊥). omega (arith, h.once p under, same.in_records p e, same.in_holds p e, same.in_free p e, same.in_owed p e))
      (cases_eq a p);
  beyond = λ p above.
      let e : a ≢ p = λ e. omega (arith, e, above, below) in
      omega (arith, h.beyond p above, same.in_records p e, same.in_holds p e, same.in_free p e, same.in_owed p e);
  single = λ p. ⊎_elim
      (λ (e : a ≡ p). subst (λ (k : ℕ). tally (has_place k) rs' ≤ 1) e one)
      (λ (e : a ≡ p → ⊥). omega (arith, h.single p, same.in_records p e))
      (cases_eq a p);
}

-- a reference more, at another place than its own
pub other_hold : (held : List Hold) (h : Hold) (p : ℕ) → h.place ≢ p → tally (is_at p) (h ∷ held) ≡ tally (is_at p) held
other_hold held h p e = omega (arith, other_bit h.place p e)

-- and at its place
pub same_hold : (held : List Hold) (h : Hold) → tally (is_at h.place) (h ∷ held) ≡ tally (is_at h.place) held + 1
same_hold held h = omega (arith, same_bit h.place h.place refl)

-- a place more, at another place
pub other_place : (places : List ℕ) (a p : ℕ) → a ≢ p → times p (places ++ a ∷ []) ≡ times p places
other_place places a p e = omega (arith, tally-push (λ q. q == p) places a, other_bit a p e)

-- and at the place
pub same_place : (places : List ℕ) (a : ℕ) → times a (places ++ a ∷ []) ≡ times a places + 1
same_place places a = omega (arith, tally-push (λ q. q == a) places a, same_bit a a refl)

-- a reference that is given its entry keeps its place
tally-held_for : (a id p : ℕ) (held : List Hold) → tally (is_at p) (held_for a id held) ≡ tally (is_at p) held
tally-held_for a id p [] = refl
tally-held_for a id p (h ∷ hs) =
    let here : is_at p (for_entry a id h) ≡ is_at p h =
    cond_both (is_at a h) (record h { id = Some id }) h (λ (g : Hold). is_at p g ≡ is_at p h) (λ e. refl) (λ e. refl) in
    omega (arith, ap bit here, tally-held_for a id p hs)

-- a reference that was given up, at another place
pub other_without : (a p : ℕ) (held : List Hold) → is_held a held ≡ true → a ≢ p
    → tally (is_at p) (without a held) ≡ tally (is_at p) held
other_without a p held h e =
    omega (
      arith,
      tally-rest (is_at a) (without a) (λ x xs. refl) (is_at p) 0
          (λ x passes. other_bit x.place p (λ k. e (sym (eqb-true x.place a passes) ∙ k))) held h,
    )

-- and at the place
pub same_without : (a : ℕ) (held : List Hold) → is_held a held ≡ true
    → tally (is_at a) (without a held) + 1 ≡ tally (is_at a) held
same_without a held h =
    tally-rest (is_at a) (without a) (λ x xs. refl) (is_at a) 1 (λ x passes. ap bit passes) held h

-- an owed place that was taken out, at another place
pub other_paid : (a p : ℕ) (owed : List ℕ) → is_owed a owed ≡ true → a ≢ p → times p (paid a owed) ≡ times p owed
other_paid a p owed h e =
    omega (
      arith,
      tally-rest (λ q. q == a) (paid a) (λ x xs. refl) (λ q. q == p) 0
          (λ x passes. other_bit x p (λ k. e (sym (eqb-true x a passes) ∙ k))) owed h,
    )

-- and at the place
pub same_paid : (a : ℕ) (owed : List ℕ) → is_owed a owed ≡ true → times a (paid a owed) + 1 ≡ times a owed
same_paid a owed h = tally-rest (λ q. q == a) (paid a) (λ x xs. refl) (λ q. q == a) 1 (λ x passes. ap bit passes) owed h

-- one reference is given up
pub length-without : (a : ℕ) (held : List Hold) → is_held a held ≡ true → length (without a held) + 1 ≡ length held
length-without a held h = length-rest (is_at a) (without a) (λ x xs. refl) held h

-- one owed place is taken out
pub length-paid : (a : ℕ) (owed : List ℕ) → is_owed a owed ≡ true → length (paid a owed) + 1 ≡ length owed
length-paid a owed h = length-rest (λ q. q == a) (paid a) (λ x xs. refl) owed h

-- a place that was taken out by its index, at another place
pub other_removed : (places : List ℕ) (i a p : ℕ) → slice_get places i ≡ Some a → a ≢ p → times p (remove places i) ≡ times p places
other_removed places i a p at e = omega (arith, tally-remove (λ q. q == p) places i a at, other_bit a p e)

-- and at the place
pub same_removed : (places : List ℕ) (i a : ℕ) → slice_get places i ≡ Some a → times a (remove places i) + 1 ≡ times a places
same_removed places i a at = omega (arith, tally-remove (λ q. q == a) places i a at, same_bit a a refl)

-- a record more, at another place
pub other_record : (rs : List Record) (r : Record) (p : ℕ) → r.place ≢ p → tally (has_place p) (rs ++ r ∷ []) ≡ tally (has_place p) rs
other_record rs r p e = omega (arith, tally-push (has_place p) rs r, other_bit r.place p e)

-- and at its place
pub same_record : (rs : List Record) (r : Record) → tally (has_place r.place) (rs ++ r ∷ []) ≡ tally (has_place r.place) rs + 1
same_record rs r = omega (arith, tally-push (has_place r.place) rs r, same_bit r.place r.place refl)

module _ (n : ℕ) (rs : List Record) (held : List Hold) (free owed : List ℕ) (h : ArePlaces n rs held free owed) where
  -- a further reference to the place of a live record
  pub places_hold : (k : Hold) → 1 ≤ tally (has_place k.place) rs → ArePlaces n rs (k ∷ held) free owed
  places_hold k live =
      let below : k.place < n = place_below n rs held free owed k.place h (omega (arith, live)) in
      places_at n k.place rs rs held (k ∷ held) free free owed owed h below
      (record {
        in_records = λ p e. refl;
        in_holds = λ p e. other_hold held k p e;
        in_free = λ p e. refl;
        in_owed = λ p e. refl;
      })
      (omega (arith, h.once k.place below, live, same_hold held k)) (h.single k.place)

  -- a free place is taken
  pub places_take : (i : ℕ) (k : Hold) → slice_get free i ≡ Some k.place → ArePlaces n rs (k ∷ held) (remove free i) owed
  places_take i k at =
      let there : times k.place (remove free i) + 1 ≡ times k.place free = same_removed free i k.place at in
      let below : k.place < n = place_below n rs held free owed k.place h (omega (arith, there)) in
      places_at n k.place rs rs held (k ∷ held) free (remove free i) owed owed h below
      (record {
        in_records = λ p e. refl;
        in_holds = λ p e. other_hold held k p e;
        in_free = λ p e. other_removed free i k.place p at e;
        in_owed = λ p e. refl;
      })
      (omega (arith, h.once k.place below, there, same_hold held k)) (h.single k.place)

  -- a reference is given up, and others are left
  pub places_keep : (a : ℕ) → is_held a held ≡ true → 1 ≤ uses a rs (without a held) → ArePlaces n rs (without a held) free owed
  places_keep a there used =
      let less = same_without a held there in
      let below : a < n = place_below n rs held free owed a h (omega (arith, less)) in
      places_at n a rs rs held (without a held) free free owed owed h below
      (record {
        in_records = λ p e. refl;
        in_holds = λ p e. other_without a p held there e;
        in_free = λ p e. refl;
        in_owed = λ p e. refl;
      })
      (omega (arith, h.once a below, less, used)) (h.single a)

  -- the last reference is given up
  pub places_owe : (a : ℕ) → is_held a held ≡ true → uses a rs (without a held) ≡ 0
      → ArePlaces n rs (without a held) free (a ∷ owed)
  places_owe a there unused =
      let less = same_without a held there in
      let below : a < n = place_below n rs held free owed a h (omega (arith, less)) in
      places_at n a rs rs held (without a held) free free owed (a ∷ owed) h below
      (record {
        in_records = λ p e. refl;
        in_holds = λ p e. other_without a p held there e;
        in_free = λ p e. refl;
        in_owed = λ p e. omega (arith, other_bit a p e);
      })
      (omega (arith, h.once a below, less, unused, same_bit a a refl)) (h.single a)

  -- an owed place is free again
  pub places_pay : (a : ℕ) → is_owed a owed ≡ true → ArePlaces n rs held (free ++ a ∷ []) (paid a owed)
  places_pay a there =
      let less = same_paid a owed there in
      let below : a < n = place_below n rs held free owed a h (omega (arith, less)) in
      places_at n a rs rs held held free (free ++ a ∷ []) owed (paid a owed) h below
      (record {
        in_records = λ p e. refl;
        in_holds = λ p e. refl;
        in_free = λ p e. other_place free a p e;
        in_owed = λ p e. other_paid a p owed there e;
      })
      (omega (arith, h.once a below, less, same_place free a)) (h.single a)

  -- an entry is confirmed in a held place that no record has
  pub places_confirm : (r : Record) → is_held r.place held ≡ true → tally (has_place r.place) rs ≡ 0
      → ArePlaces n (rs ++ r ∷ []) (held_for r.place r.id held) free owed
  places_confirm r there none =
      let some : 1 ≤ tally (is_at r.place) held = tally_some (is_at r.place) held there in
      let below : r.place < n = place_below n rs held free owed r.place h (omega (arith, some)) in
      places_at n r.place rs (rs ++ r ∷ []) held (held_for r.place r.id held) free free owed owed h below
      (record {
        in_records = λ p e. other_record rs r p e;
        in_holds = λ p e. tally-held_for r.place r.id p held;
        in_free = λ p e. refl;
        in_owed = λ p e. refl;
      })
      (omega (arith, h.once r.place below, some, none, same_record rs r, tally-held_for r.place r.id r.place held))
      (omega (arith, none, same_record rs r))

  -- a record is taken out of a held place
  pub places_kill : (i : ℕ) (r : Record) → slice_get rs i ≡ Some r → is_held r.place held ≡ true
      → ArePlaces n (remove rs i) held free owed
  places_kill i r at there =
      let some : 1 ≤ tally (is_at r.place) held = tally_some (is_at r.place) held there in
      let below : r.place < n = place_below n rs held free owed r.place h (omega (arith, some)) in
      let less = tally-remove (has_place r.place) rs i r at in
      places_at n r.place rs (remove rs i) held held free free owed owed h below
      (record {
        in_records = λ p e. omega (arith, tally-remove (has_place p) rs i r at, other_bit r.place p e);
        in_holds = λ p e. refl;
        in_free = λ p e. refl;
        in_owed = λ p e. refl;
      })
      (omega (arith, h.once r.place below, some, less)) (omega (arith, h.single r.place, less))

  -- a record is written with its place
  pub places_touch : (i : ℕ) (r s : Record) → slice_get rs i ≡ Some r → s.place ≡ r.place
      → ArePlaces n (slice_set rs i s) held free owed
  places_touch i r s at same =
      let kept : (p : ℕ) → tally (has_place p) (slice_set rs i s) ≡ tally (has_place p) rs =
      λ p. tally-set (has_place p) rs i r s at (ap (λ q. q == p) (sym same)) in
      record {
        once = λ p below. omega (arith, h.once p below, kept p);
        beyond = λ p above. omega (arith, h.beyond p above, kept p);
        single = λ p. omega (arith, h.single p, kept p);
      }

  -- free and owed places are no more than the pool has
  pub few_free : length free + length owed ≤ n
  few_free =
      let each : AllByRecursion (λ q. q < n) free = all_below (λ q. q) n free (λ p above. omega (arith, h.beyond p above)) in
      let owing : AllByRecursion (λ q. q < n) owed = all_below (λ q. q) n owed (λ p above. omega (arith, h.beyond p above)) in
      omega (
        arith,
        total_tally (λ q. q) n free each,
        total_tally (λ q. q) n owed owing,
        total_add (λ p. times p free) (λ p. times p owed) n,
        total_ones n,
        total_le (λ p. times p free + times p owed) (λ p. 1) n (λ p below. omega (arith, h.once p below)),
      )

  -- each record has a place of the pool
  records_below : AllByRecursion (λ (r : Record). r.place < n) rs
  records_below = all_below (λ (r : Record). r.place) n rs (λ p above. omega (arith, h.beyond p above))

  -- records are no more than there are places
  pub few_records : length rs ≤ n
  few_records =
      omega (
        arith,
        total_tally (λ (r : Record). r.place) n rs records_below,
        total_ones n,
        total_le (λ p. tally (has_place p) rs) (λ p. 1) n (λ p below. h.single p),
      )

  -- and fewer where a place is no record's
  pub fewer_records : (a : ℕ) → a < n → tally (has_place a) rs ≡ 0 → length rs < n
  fewer_records a below none =
      omega (
        arith,
        total_tally (λ (r : Record). r.place) n rs records_below,
        total_ones n,
        total_hit a n below,
        total_add (λ p. tally (has_place p) rs) (λ p. bit (a == p)) n,
        total_le (λ p. tally (has_place p) rs + bit (a == p)) (λ p. 1) n (λ p under. ⊎_elim
            (λ (e : a ≡ p). omega (arith, same_bit a p e, subst (λ (k : ℕ). tally (has_place k) rs ≡ 0) e none))
            (λ (e : a ≡ p → ⊥). omega (arith, other_bit a p e, h.single p)) (cases_eq a p)),
      )

  -- where no place is free, all are in use
  pub full_pool : free ≡ [] → n ≤ length rs + length held + length owed
  full_pool none =
      omega (
        arith,
        total_ones n,
        total_tally_le (λ (r : Record). r.place) n rs,
        total_tally_le (λ (k : Hold). k.place) n held,
        total_tally_le (λ q. q) n owed,
        total_add (λ p. tally (has_place p) rs) (λ p. tally (is_at p) held) n,
        total_add (λ p. tally (has_place p) rs + tally (is_at p) held) (λ p. times p owed) n,
        total_le (λ p. 1) (λ p. tally (has_place p) rs + tally (is_at p) held + times p owed) n (λ p below.
            omega (arith, h.once p below, ap (times p) none)),
      )
