-- What a sweep over all places says of every entry.
use Rattle.std.proofs.Common.{◌≡◌, ℕ, suc, zero, ◌<◌, ◌≤◌, Bool, true, false, cond, List, [], ◌∷◌, length, refl, sym, ap, subst, ◌∙◌, ◌⊎◌, inl, inr, Option, Some, None, arith}
use Rattle.std.specs.List.{All, AllByRecursion, AllPairs, count_by, find, sum_by, slice_index_or}
use Rattle.std.specs.List.Sorted.{IsNonDecreasingBy, IsPermutation}
use Rattle.std.specs.Prelude.{◌==◌}
use Rattle.std.proofs.lemmas.Bool.{eq-eqb}
use Rattle.std.proofs.lemmas.List.Elements.{recursion_from_All, All-from_recursion}
use Rattle.std.proofs.lemmas.List.Sorted.{All-permutation, list_any-IsPermutation, sum_by-IsPermutation}
use Rattle.std.proofs.lemmas.List.Sums.{get_or-le-sum_by, sum_by-cons}
use Rattle.history_book.specs.declared.answer.Row.{Row}
use Rattle.history_book.specs.declared.event.Event.{Event}
use Rattle.history_book.specs.declared.event.Event.TheVariants.{Confirm}
use Rattle.history_book.specs.declared.filter.Filter.{Filter}
use Rattle.history_book.specs.declared.record.Record.{Record}
use Rattle.history_book.specs.declared.sizes.Sizes.{Sizes}
use Rattle.history_book.specs.Filter.{selects}
use Rattle.history_book.specs.History.{after, is_legal}
use Rattle.history_book.specs.Laws.{EntriesKeepTheirPlace, GoneEntriesStayGone, IsConfirmed, LiveRecordsAreConfirmed, PlacesAreInThePool}
use Rattle.history_book.specs.Record.{has_id}
use Rattle.history_book.specs.Sight.{WasConfirmedIn}
use Rattle.history_book.specs.State.{record_of}
use Rattle.pool_visits.specs.Row.{has_row}
use Rattle.pool_visits.specs.Visit.{LivedThroughout, is_live_and}
use Rattle.conntrack_cmd.specs.Answer.{AreInOrder, NoneIsLeft}
use Rattle.conntrack_cmd.specs.Internal.Loops.{times}
use Rattle.pool_visits.specs.Laws.{LivedHaveRows}
use Rattle.pool_visits.specs.Visit.{AreVisited, Missed}
use Rattle.conntrack_cmd.proofs.Fronts.{has_id_of}

-- what holds of each holds of the one that is found
pub found_one : {X : Type 0} (P : X → Type 0) (p : X → Bool) (xs : List X) (y : X) → AllByRecursion P xs → find p xs ≡ Some y → P y
found_one P p [] y h e = cc
found_one P p (x ∷ xs) y (h, hs) e = by_first P x y (p x) h e (found_one P p xs y hs)
  where
    by_first : {X : Type 0} (P : X → Type 0) (x y : X) (b : Bool) {rest : Option X} → P x → cond b (Some x) rest ≡ Some y → (rest ≡ Some y → P y) → P y
    by_first P x y true h e other = subst P (some_one e) h
      where
        some_one : {X : Type 0} {x y : X} → Some x ≡ Some y → x ≡ y
        some_one e = cc
    by_first P x y false h e other = other e

pub some_same : {X : Type 0} (x y : X) → Some x ≡ Some y → x ≡ y
some_same x y e = cc

-- two indices of a list pass a test
two_pass : (p : Row → Bool) (rows : List Row) (i j : ℕ) (d : Row) → i < j → j < length rows → p (slice_index_or rows i d) ≡ true
    → p (slice_index_or rows j d) ≡ true → 2 ≤ count_by p rows
two_pass p [] i j d lt below first second = omega (arith, below)
two_pass p (r ∷ rs) i zero d lt below first second = omega (arith, lt)
two_pass p (r ∷ rs) zero (suc j) d lt below first second =
    omega (
      arith,
      sum_by-cons (λ (r : Row). cond (p r) 1 0) r rs,
      get_or-le-sum_by (λ (r : Row). cond (p r) 1 0) rs j d (omega (arith, below)),
      ap {B = ℕ} (λ (b : Bool). cond b 1 0) first,
      ap {B = ℕ} (λ (b : Bool). cond b 1 0) second,
    )
two_pass p (r ∷ rs) (suc i) (suc j) d lt below first second =
    omega (
      arith,
      sum_by-cons (λ (r : Row). cond (p r) 1 0) r rs,
      two_pass p rs i j d (omega (arith, lt)) (omega (arith, below)) first second,
    )

-- sorted by id, no two rows of one entry: the ids rise
pub in_order : (rows sorted : List Row) → IsPermutation rows sorted → IsNonDecreasingBy (λ r. r.subject.id) sorted
    → ((id : ℕ) → times id rows ≤ 1) → AreInOrder sorted
in_order rows sorted same rises once i j d lt below =
    below_or (slice_index_or sorted i d).subject.id (slice_index_or sorted j d).subject.id (rises i j d (omega (arith, lt)) below)
    (λ e.
    let id : ℕ = (slice_index_or sorted i d).subject.id in
    let count : times id sorted ≡ times id rows = sum_by-IsPermutation (λ (r : Row). cond (r.subject.id == id) 1 0) rows sorted same in
    omega (
      arith,
      count,
      once id,
      two_pass (λ (r : Row). r.subject.id == id) sorted i j d lt below (eq-eqb id id refl)
          (eq-eqb (slice_index_or sorted j d).subject.id id (sym e)),
    ))
  where
    below_or : (m n : ℕ) → m ≤ n → (m ≡ n → ⊥) → m < n
    below_or m n le differs = omega (arith, le, differs)

pub each_permuted : (P : Row → Type 0) (rows sorted : List Row) → IsPermutation rows sorted → AllByRecursion P rows → AllByRecursion P sorted
each_permuted P rows sorted same h =
    recursion_from_All P sorted (All-permutation P rows sorted same (All-from_recursion P rows h))

pub has_row_permuted : (id : ℕ) (rows sorted : List Row) → IsPermutation rows sorted → has_row id rows ≡ true → has_row id sorted ≡ true
has_row_permuted id rows sorted same h = sym (list_any-IsPermutation (λ (r : Row). r.subject.id == id) rows sorted same) ∙ h

module _ (have : LivedHaveRows) (keep : EntriesKeepTheirPlace) (pool : PlacesAreInThePool) (sizes : Sizes) (log : List Event) (legal : is_legal sizes log ≡ true) where
  -- an entry that is live has a place of the pool, in which it was confirmed
  confirmed_in : (p id : ℕ) (r : Record) → record_of id (after log p) ≡ Some r → (r.place < sizes.entries) × WasConfirmedIn log r.place id
  confirmed_in p id r live = (
    found_one (λ (r : Record). r.place < sizes.entries) (has_id id) (after log p).records r
        (recursion_from_All (λ (r : Record). r.place < sizes.entries) (after log p).records (pool sizes log p legal)) live,
    (keep sizes log p id r legal live).0,
  )

  -- an entry that was live at the first point has a row, or was missed
  pub visited_at : (test : Record → Bool) (from to id : ℕ) (rows : List Row) → AreVisited log test sizes.entries from to rows
      → (r : Record) → record_of id (after log from) ≡ Some r → (has_row id rows ≡ true) ⊎ Missed log test from to id
  visited_at test from to id rows visited r live =
      let was = confirmed_in from id r live in
      visited r.place was.0 id was.1

  -- an entry that was live and passed throughout has a row
  pub all_have_rows : (test : Record → Bool) (from to : ℕ) (rows : List Row) → from ≤ to → AreVisited log test sizes.entries from to rows
      → (id : ℕ) → LivedThroughout log test from to id → has_row id rows ≡ true
  all_have_rows test from to rows order visited id lived = by_first (record_of id (after log from)) refl
    where
      by_first : (o : Option Record) → record_of id (after log from) ≡ o → has_row id rows ≡ true
      by_first None e = absurd (differ (ap (is_live_and test) (sym e) ∙ lived from (omega arith) order))
        where
          differ : false ≡ true → ⊥
          differ e = cc
      by_first (Some r) e =
          have sizes log test sizes.entries from to from id r rows legal visited lived e (confirmed_in from id r e).0

  -- two records of one entry have the same tuples
  same_tuples : LiveRecordsAreConfirmed → (p q id : ℕ) (r s : Record) → record_of id (after log p) ≡ Some r → record_of id (after log q) ≡ Some s
      → (r.original ≡ s.original) × (r.reply ≡ s.reply)
  same_tuples confirmed p q id r s live again =
      let first : IsConfirmed log r = found_one (IsConfirmed log) (has_id id) (after log p).records r
      (recursion_from_All (IsConfirmed log) (after log p).records (confirmed sizes log p legal).0) live in
      let second : IsConfirmed log s = found_one (IsConfirmed log) (has_id id) (after log q).records s
      (recursion_from_All (IsConfirmed log) (after log q).records (confirmed sizes log q legal).0) again in
      let one : first.subject ≡ second.subject =
      confirm_same first.subject second.subject
      (sym first.event ∙ ap (Rattle.std.specs.List.slice_get log) (has_id_of id (after log p) r live ∙ sym (has_id_of id (after log q) s again)) ∙ second.event) in (
        first.same.original ∙ ap (λ (t : Record). t.original) one ∙ sym second.same.original,
        first.same.reply ∙ ap (λ (t : Record). t.reply) one ∙ sym second.same.reply,
      )
    where
      confirm_same : (r s : Record) → Some (Confirm r) ≡ Some (Confirm s) → r ≡ s
      confirm_same r s e = cc

  -- no entry that was live at the first point, and passes a test that reads its tuples alone, is live at the last
  pub none_left : LiveRecordsAreConfirmed → GoneEntriesStayGone → (test : Record → Bool)
      → ((r s : Record) → r.original ≡ s.original → r.reply ≡ s.reply → test r ≡ test s) → (from to : ℕ)
      → AreVisited log test sizes.entries from to [] → NoneIsLeft log test from to
  none_left confirmed gone test reads from to visited id live = by_first (record_of id (after log from)) refl
    where
      differ : false ≡ true → ⊥
      differ e = cc

      by_missed : (r : Record) → record_of id (after log from) ≡ Some r → (m : Missed log test from to id)
          → (o : Option Record) → record_of id (after log m.at) ≡ o → record_of id (after log to) ≡ None
      by_missed r e m None there =
          let early : r.id < from = found_one (λ (r : Record). r.id < from) (has_id id) (after log from).records r
          (recursion_from_All (λ (r : Record). r.id < from) (after log from).records (confirmed sizes log from legal).1) e in
          gone sizes log m.at to id legal (omega (arith, early, has_id_of id (after log from) r e, m.low)) m.high there
      by_missed r e m (Some s) there =
          let same = same_tuples confirmed from m.at id r s e there in
          absurd (differ (sym m.missed ∙ ap (is_live_and test) there ∙ sym (reads r s same.0 same.1) ∙ ap (is_live_and test) (sym e) ∙ live))

      by_visit : (r : Record) → record_of id (after log from) ≡ Some r → (has_row id [] ≡ true) ⊎ Missed log test from to id
          → record_of id (after log to) ≡ None
      by_visit r e (inl h) = absurd (differ h)
      by_visit r e (inr m) = by_missed r e m (record_of id (after log m.at)) refl

      by_first : (o : Option Record) → record_of id (after log from) ≡ o → record_of id (after log to) ≡ None
      by_first None e = absurd (differ (ap (is_live_and test) (sym e) ∙ live))
      by_first (Some r) e = by_visit r e (visited_at test from to id [] visited r e)

-- a filter reads the tuples alone
pub passes_same : (filter : Filter) (r s : Record) → r.original ≡ s.original → r.reply ≡ s.reply → selects filter r ≡ selects filter s
passes_same filter r s original reply =
    ap (λ t. selects filter (record r { original = t; reply = r.reply })) original
    ∙ ap (λ t. selects filter (record s { original = s.original; reply = t })) reply
