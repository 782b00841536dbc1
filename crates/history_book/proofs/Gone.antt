-- What is gone from the states of a legal history, and what is in them.
use Rattle.std.proofs.Common.{◌≡◌, ℕ, ◌+◌, ◌<◌, ◌≤◌, zero, suc, true, false, not, cond, List, [], ◌∷◌, take, refl, ap, subst, ◌∙◌, Some, None, arith}
use Rattle.std.specs.List.{AllByRecursion, find, slice_get}
use Rattle.std.specs.Prelude.{◌≢◌, nat_lt}
use Rattle.std.proofs.lemmas.Bool.{and_parts, eqb-false, ltb-true, ne_eqb}
use Rattle.expect_table.specs.Expectations.{without_master}
use Rattle.expect_table.specs.Match.{is_of}
use Rattle.expect_table.specs.Match as expected
use Rattle.expect_table.specs.declared.expectation.Expectation.{Expectation}
use Rattle.history_book.specs.declared.event.Event.{Event}
use Rattle.history_book.specs.declared.event.Event.TheVariants.{Confirm, Touch, Destroy, Expect, Claim, Unexpect}
use Rattle.history_book.specs.declared.record.Record.{Record}
use Rattle.history_book.specs.declared.sizes.Sizes.{Sizes}
use Rattle.history_book.specs.History.{after, is_legal, is_legal_from, run}
use Rattle.history_book.specs.Laws.{IsConfirmed, IsExpected}
use Rattle.history_book.specs.Legality.{is_open_place, may_confirm, may_happen}
use Rattle.history_book.specs.Record.{has_id}
use Rattle.history_book.specs.State.{State, empty_state, is_free, is_unused, next, record_of}
use Rattle.history_book.proofs.Again.{dead_from, dead_of, none_passes}
use Rattle.history_book.proofs.Entries.{each_fails, each_filter}
use Rattle.history_book.proofs.Expected.{each_more, may_expect-parts}
use Rattle.history_book.proofs.Histories.{may_at}
use Rattle.history_book.proofs.Passing.{none_found}
use Rattle.history_book.proofs.Sound.{IsRest, confirmed_after, rest_all, rest_next}

none_of : (id : ℕ) (rs : List Record) → AllByRecursion (λ r. r.id ≢ id) rs → find (has_id id) rs ≡ None
none_of id [] h = refl
none_of id (r ∷ rs) (h, hs) = ap (λ b. cond b (Some r) (find (has_id id) rs)) (ne_eqb r.id id h) ∙ none_of id rs hs

pub gone_entries : (sizes : Sizes) (log : List Event) (p q id : ℕ) → is_legal sizes log ≡ true → id < p → p ≤ q
    → record_of id (after log p) ≡ None → record_of id (after log q) ≡ None
gone_entries sizes log p q id legal old le gone =
    none_of id (after log q).records
    (dead_from sizes p q id log legal old le
    (dead_of id (after log p).records (none_passes (has_id id) (after log p).records gone)))

-- a Confirm that may happen has a place of the pool
confirmed_place : (sizes : Sizes) (s : State) (n : ℕ) (r : Record) → may_confirm sizes s n r ≡ true → nat_lt r.place sizes.entries ≡ true
confirmed_place sizes s n r may =
    let a = and_parts _ (is_free r.reply s) may in
    let b = and_parts _ (is_free r.original s) a.0 in
    let c = and_parts _ (is_open_place sizes r.place s) b.0 in
    (and_parts (nat_lt r.place sizes.entries) (is_unused r.place s) c.1).0

places_of : (sizes : Sizes) (log : List Event) (rs : List Record) → is_legal sizes log ≡ true → AllByRecursion (IsConfirmed log) rs
    → AllByRecursion (λ r. r.place < sizes.entries) rs
places_of sizes log [] legal h = tt
places_of sizes log (r ∷ rs) legal (c, cs) = (
  below c.subject.place r.place sizes.entries c.same.place
      (confirmed_place sizes (after log r.id) r.id c.subject (may_at sizes log r.id (Confirm c.subject) legal c.event)),
  places_of sizes log rs legal cs,
)
  where
    below : (m n entries : ℕ) → n ≡ m → nat_lt m entries ≡ true → n < entries
    below m n entries same h = omega (arith, same, ltb-true m entries h)

pub places_after : (sizes : Sizes) (log : List Event) (p : ℕ) → is_legal sizes log ≡ true
    → AllByRecursion (λ r. r.place < sizes.entries) (after log p).records
places_after sizes log p legal = places_of sizes log (after log p).records legal (confirmed_after sizes p log legal)

-- each expectation is that of its Expect
expected_next : (sizes : Sizes) (n : ℕ) (log : List Event) (s : State) (e : Event) → may_happen sizes s n e ≡ true
    → slice_get log n ≡ Some e → AllByRecursion (IsExpected log) s.expects → AllByRecursion (IsExpected log) (next s e).expects
expected_next sizes n log s (Confirm r) may at h = h
expected_next sizes n log s (Touch id d segment moment part) may at h = h
expected_next sizes n log s (Destroy id why) may at h = each_filter (IsExpected log) (λ e. not (is_of id e)) s.expects h
expected_next sizes n log s (Expect e replaced moment) may at h =
    each_more (IsExpected log) (without_master e.master s.expects) e
    (each_filter (IsExpected log) (λ o. not (is_of e.master o)) s.expects h)
    (record {
      replaced = replaced;
      moment = moment;
      event = ap (slice_get log) (may_expect-parts sizes n s e replaced moment may).id ∙ at;
    })
expected_next sizes n log s (Claim id master t moment) may at h =
    each_filter (IsExpected log) (λ e. not (expected.has_id id e)) s.expects h
expected_next sizes n log s (Unexpect id moment) may at h =
    each_filter (IsExpected log) (λ e. not (expected.has_id id e)) s.expects h

expected_run : (sizes : Sizes) (n p : ℕ) (log : List Event) (s : State) (rest : List Event)
    → is_legal_from sizes s n rest ≡ true → IsRest log n rest → AllByRecursion (IsExpected log) s.expects
    → AllByRecursion (IsExpected log) (run s (take p rest)).expects
expected_run sizes n zero log s rest legal from h = h
expected_run sizes n (suc p) log s [] legal from h = h
expected_run sizes n (suc p) log s (e ∷ es) legal from h =
    let parts = and_parts (may_happen sizes s n e) (is_legal_from sizes (next s e) (n + 1) es) legal in
    let here : 0 + n ≡ n = omega arith in
    let at : slice_get log n ≡ Some e = subst (λ i. slice_get log i ≡ Some e) here (from 0 e refl) in
    expected_run sizes (n + 1) p log (next s e) es parts.1 (rest_next log n e es from)
    (expected_next sizes n log s e parts.0 at h)

pub expected_after : (sizes : Sizes) (p : ℕ) (log : List Event) → is_legal sizes log ≡ true
    → AllByRecursion (IsExpected log) (after log p).expects
unfolding is_legal after
expected_after sizes p log legal = expected_run sizes 0 p log empty_state log legal (rest_all log) tt

-- no expectation of the state has the id
abbrev IsAbsent : ℕ → State → Type 0
IsAbsent id s = AllByRecursion (λ e. e.id ≢ id) s.expects

absent_next : (sizes : Sizes) (n id : ℕ) (s : State) (e : Event) → may_happen sizes s n e ≡ true → id < n
    → IsAbsent id s → IsAbsent id (next s e)
absent_next sizes n id s (Confirm r) may old h = h
absent_next sizes n id s (Touch other d segment moment part) may old h = h
absent_next sizes n id s (Destroy other why) may old h =
    each_filter (λ (e : Expectation). e.id ≢ id) (λ e. not (is_of other e)) s.expects h
absent_next sizes n id s (Expect e replaced moment) may old h =
    each_more (λ (o : Expectation). o.id ≢ id) (without_master e.master s.expects) e
    (each_filter (λ (o : Expectation). o.id ≢ id) (λ o. not (is_of e.master o)) s.expects h)
    (λ same. omega (arith, same, (may_expect-parts sizes n s e replaced moment may).id))
absent_next sizes n id s (Claim other master t moment) may old h =
    each_filter (λ (e : Expectation). e.id ≢ id) (λ e. not (expected.has_id other e)) s.expects h
absent_next sizes n id s (Unexpect other moment) may old h =
    each_filter (λ (e : Expectation). e.id ≢ id) (λ e. not (expected.has_id other e)) s.expects h

absent_run : (sizes : Sizes) (n p id : ℕ) (s : State) (log : List Event) → is_legal_from sizes s n log ≡ true → id < n
    → IsAbsent id s → IsAbsent id (run s (take p log))
absent_run sizes n zero id s log legal old h = h
absent_run sizes n (suc p) id s [] legal old h = h
absent_run sizes n (suc p) id s (e ∷ es) legal old h =
    let parts = and_parts (may_happen sizes s n e) (is_legal_from sizes (next s e) (n + 1) es) legal in
    absent_run sizes (n + 1) p id (next s e) es parts.1 (omega arith) (absent_next sizes n id s e parts.0 old h)

absent_later : (sizes : Sizes) (n p q id : ℕ) (s : State) (log : List Event) → is_legal_from sizes s n log ≡ true
    → id < n + p → p ≤ q → IsAbsent id (run s (take p log)) → IsAbsent id (run s (take q log))
absent_later sizes n zero q id s log legal old le h = absent_run sizes n q id s log legal (omega arith) h
absent_later sizes n (suc p) zero id s log legal old le h = absurd (omega arith)
absent_later sizes n (suc p) (suc q) id s [] legal old le h = h
absent_later sizes n (suc p) (suc q) id s (e ∷ es) legal old le h =
    let parts = and_parts (may_happen sizes s n e) (is_legal_from sizes (next s e) (n + 1) es) legal in
    absent_later sizes (n + 1) p q id (next s e) es parts.1 (omega arith) (omega arith) h

absent_from : (sizes : Sizes) (p q id : ℕ) (log : List Event) → is_legal sizes log ≡ true → id < p → p ≤ q
    → IsAbsent id (after log p) → IsAbsent id (after log q)
unfolding is_legal after
absent_from sizes p q id log legal old le h = absent_later sizes 0 p q id empty_state log legal (omega arith) le h

others_of : (id : ℕ) (es : List Expectation) → AllByRecursion (λ e. expected.has_id id e ≡ false) es → AllByRecursion (λ e. e.id ≢ id) es
others_of id [] h = tt
others_of id (e ∷ es) (h, hs) = (eqb-false e.id id h, others_of id es hs)

nothing_of : (id : ℕ) (es : List Expectation) → AllByRecursion (λ e. e.id ≢ id) es → find (expected.has_id id) es ≡ None
nothing_of id [] h = refl
nothing_of id (e ∷ es) (h, hs) =
    ap (λ b. cond b (Some e) (find (expected.has_id id) es)) (ne_eqb e.id id h) ∙ nothing_of id es hs

pub gone_expectations : (sizes : Sizes) (log : List Event) (p q id : ℕ) → is_legal sizes log ≡ true → id < p → p ≤ q
    → find (expected.has_id id) (after log p).expects ≡ None → find (expected.has_id id) (after log q).expects ≡ None
gone_expectations sizes log p q id legal old le gone =
    nothing_of id (after log q).expects
    (absent_from sizes p q id log legal old le
    (others_of id (after log p).expects
    (each_fails (expected.has_id id) (after log p).expects (none_found (expected.has_id id) (after log p).expects gone))))
