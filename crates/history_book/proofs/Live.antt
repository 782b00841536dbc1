-- What is live under a tuple, and what is free once it is destroyed.
use Rattle.std.proofs.Common.{◌≡◌, ℕ, Bool, true, false, not, cond, List, [], ◌∷◌, refl, sym, ap, subst, ◌∙◌, ⊎_elim, inl, inr, Option, Some, None}
use Rattle.std.specs.List.{AllByRecursion, AllPairs, find, list_any, remove, slice_get}
use Rattle.std.specs.Prelude.{◌⊎◌}
use Rattle.std.proofs.lemmas.Bool.{ne_eqb, not-true, or_cases, or_from, or_left, or_parts, or_right}
use Rattle.tuple_core.specs.declared.Direction.TheVariants.{Original, Reply}
use Rattle.tuple_core.specs.declared.Tuple.{Tuple}
use Rattle.history_book.specs.declared.event.Event.TheVariants.{Destroy}
use Rattle.history_book.specs.declared.event.Why.{Why}
use Rattle.history_book.specs.declared.record.Record.{Record}
use Rattle.history_book.specs.Laws.{AreApart}
use Rattle.history_book.specs.Record.{has_original, has_place, has_reply, has_tuple}
use Rattle.history_book.specs.State.{Found, State, is_free, live_under, next, original_first}
use Rattle.history_book.proofs.Entries.{each_fails}
use Rattle.history_book.proofs.Pairs.{pairs_of}
use Rattle.history_book.proofs.Passing.{fails_by, found_passes, none_found}
use Rattle.history_book.proofs.Records.{others_apart, remove-filter}
use Rattle.history_book.proofs.Tuples.{same_tuple-true}

none_both : (o r : Option Record) → original_first o r ≡ None → (o ≡ None) × (r ≡ None)
none_both (Some a) r h = cc
none_both None (Some b) h = cc
none_both None None h = (refl, refl)

neither : (t : Tuple) (rs : List Record) → list_any (has_original t) rs ≡ false → list_any (has_reply t) rs ≡ false
    → list_any (has_tuple t) rs ≡ false
neither t [] a b = refl
neither t (r ∷ rs) a b =
    let x = or_parts (has_original t r) (list_any (has_original t) rs) a in
    let y = or_parts (has_reply t r) (list_any (has_reply t) rs) b in
    or_from (has_tuple t r) (list_any (has_tuple t) rs) (or_from (has_original t r) (has_reply t r) x.0 y.0)
    (neither t rs x.1 y.1)

-- a tuple under which nothing is live is nobody's
pub absent_free : (t : Tuple) (s : State) → live_under t s ≡ None → is_free t s ≡ true
absent_free t s h =
    let both = none_both (find (has_original t) s.records) (find (has_reply t) s.records) h in
    ap not (neither t s.records (none_found (has_original t) s.records both.0) (none_found (has_reply t) s.records both.1))

find_none : (p : Record → Bool) (rs : List Record) → AllByRecursion (λ r. p r ≡ false) rs → find p rs ≡ None
find_none p [] h = refl
find_none p (r ∷ rs) (h, hs) = ap (λ b. cond b (Some r) (find p rs)) h ∙ find_none p rs hs

none_has : (t : Tuple) (rs : List Record) → AllByRecursion (λ r. has_tuple t r ≡ false) rs
    → AllByRecursion (λ r. has_original t r ≡ false) rs × AllByRecursion (λ r. has_reply t r ≡ false) rs
none_has t [] h = (tt, tt)
none_has t (r ∷ rs) (h, hs) =
    let here = or_parts (has_original t r) (has_reply t r) h in
    let rest = none_has t rs hs in
    ((here.0, rest.0), (here.1, rest.1))

-- nothing is live under a tuple that is nobody's
pub free_absent : (t : Tuple) (s : State) → is_free t s ≡ true → live_under t s ≡ None
free_absent t s h =
    let none = none_has t s.records (each_fails (has_tuple t) s.records (not-true _ h)) in
    ap (λ o. original_first o (find (has_reply t) s.records)) (find_none (has_original t) s.records none.0)
    ∙ ap (λ o. original_first None o) (find_none (has_reply t) s.records none.1)

pub original_found : (o r : Option Record) (f : Found) → original_first o r ≡ Some f
    → (o ≡ Some f.subject) ⊎ (r ≡ Some f.subject)
original_found (Some a) r f h =
    let same : record { subject = a; direction = Original } ≡ f = cc in inl (ap (λ (x : Found). Some x.subject) same)
original_found None (Some b) f h =
    let same : record { subject = b; direction = Reply } ≡ f = cc in inr (ap (λ (x : Found). Some x.subject) same)
original_found None None f h = cc

-- the record that is live under a tuple has it
pub live_has : (t : Tuple) (s : State) (f : Found) → live_under t s ≡ Some f → has_tuple t f.subject ≡ true
live_has t s f h =
    ⊎_elim
    (λ e. or_left (has_original t f.subject) (has_reply t f.subject) (found_passes (has_original t) s.records f.subject e))
    (λ e. or_right (has_original t f.subject) (has_reply t f.subject) (found_passes (has_reply t) s.records f.subject e))
    (original_found (find (has_original t) s.records) (find (has_reply t) s.records) f h)

-- a record apart from one that has the tuple has it not
pub apart_absent : (t : Tuple) (r q : Record) → has_tuple t r ≡ true → AreApart r q → has_tuple t q ≡ false
apart_absent t r q has apart =
    ⊎_elim
    (λ h. let same : r.original ≡ t = same_tuple-true r.original t h in
    or_from (has_original t q) (has_reply t q)
    (fails_by (has_original t q) (λ k. apart.originals (same ∙ sym (same_tuple-true q.original t k))))
    (fails_by (has_reply t q) (λ k. apart.original_reply (same ∙ sym (same_tuple-true q.reply t k)))))
    (λ h. let same : r.reply ≡ t = same_tuple-true r.reply t h in
    or_from (has_original t q) (has_reply t q)
    (fails_by (has_original t q) (λ k. apart.reply_original (same ∙ sym (same_tuple-true q.original t k))))
    (fails_by (has_reply t q) (λ k. apart.replies (same ∙ sym (same_tuple-true q.reply t k)))))
    (or_cases (has_original t r) (has_reply t r) has)
