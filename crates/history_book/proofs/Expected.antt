-- What is expected in the states of a legal history.
use Rattle.std.proofs.Common.{◌≡◌, ℕ, ◌+◌, ◌<◌, zero, suc, Bool, true, false, not, cond, List, [], ◌∷◌, ◌++◌, take, refl, sym, ap, subst, ◌∙◌, Option, Some, arith}
use Rattle.std.specs.List.{AllByRecursion, filter, find}
use Rattle.std.specs.Prelude.{map, ◌==◌, ◌&&◌}
use Rattle.std.proofs.lemmas.Bool.{and_parts, eqb-false, eqb-true, ne_eqb, false≢true}
use Rattle.std.proofs.lemmas.List.Elements.{All-from_recursion}
use Rattle.expect_table.specs.Expectations.{AreOrderedOneAMaster, add_outcome, with_one, without_master}
use Rattle.expect_table.specs.Laws.{AddingKeepsOrder, RemovingKeepsOrder}
use Rattle.expect_table.specs.Match.{is_of}
use Rattle.expect_table.specs.Match as match
use Rattle.expect_table.specs.declared.expectation.Expectation.{Expectation}
use Rattle.tuple_core.specs.declared.Tuple.{Tuple}
use Rattle.proto_rules.specs.declared.Part.{Part}
use Rattle.history_book.specs.declared.event.Event.{Event}
use Rattle.history_book.specs.declared.event.Event.TheVariants.{Confirm, Touch, Destroy, Expect, Claim, Unexpect}
use Rattle.history_book.specs.declared.record.Record.{Record}
use Rattle.history_book.specs.declared.sizes.Sizes.{Sizes}
use Rattle.history_book.specs.Entry.{confirmed_by, is_helped_entry, zone_of, zone_of_entry}
use Rattle.history_book.specs.History.{after, is_legal, is_legal_from, run}
use Rattle.history_book.specs.Legality.{expected_for, has_helper, helps_in, is_added, may_expect, may_happen}
use Rattle.history_book.specs.Record.{has_id}
use Rattle.history_book.specs.State.{State, empty_state, next, record_of, with_part}
use Rattle.history_book.proofs.Again.{found_confirmed}
use Rattle.history_book.proofs.Entries.{each_filter, with_part-same}

-- what the test of an Expect says
pub record MayExpect (n : ℕ) (s : State) (e : Expectation) : Type 0 where
  pub id : e.id ≡ n
  pub helped : helps_in e.zone (record_of e.master s) ≡ true

pub may_expect-parts : (sizes : Sizes) (n : ℕ) (s : State) (e : Expectation) (replaced : Option ℕ) (moment : ℕ)
    → may_expect sizes s n e replaced moment ≡ true → MayExpect n s e
may_expect-parts sizes n s e replaced moment h =
    let a = and_parts _ (is_added (add_outcome sizes.expectations s.expects e moment) replaced) h in
    let b = and_parts _ (helps_in e.zone (record_of e.master s)) a.0 in
    let c = and_parts (e.id == n) (e.deadline == moment + expected_for) b.0 in
    record { id = eqb-true e.id n c.0; helped = b.1 }

pub each_more : {X : Type 0} (P : X → Type 0) (xs : List X) (x : X) → AllByRecursion P xs → P x
    → AllByRecursion P (xs ++ x ∷ [])
each_more P [] x h one = (one, tt)
each_more P (y ∷ ys) x (h, hs) one = (h, each_more P ys x hs one)

-- the ids of the expectations rise, and each was an event before event n
pub record Ordered (n : ℕ) (s : State) : Type 0 where
  pub order : AreOrderedOneAMaster s.expects
  pub older : AllByRecursion (λ e. e.id < n) s.expects

older_more : (m n : ℕ) (es : List Expectation) → m < n + 1 → AllByRecursion (λ e. e.id < m) es → AllByRecursion (λ e. e.id < n) es
older_more m n [] le h = tt
older_more m n (e ∷ es) le (h, hs) = (omega arith, older_more m n es le hs)

ordered_later : (m n : ℕ) (s : State) → m < n + 1 → Ordered m s → Ordered n s
ordered_later m n s le h = record { order = h.order; older = older_more m n s.expects le h.older }

-- an event that leaves the expectations, and one that takes some out
ordered_same : (n : ℕ) (s t : State) → t.expects ≡ s.expects → Ordered n s → Ordered (n + 1) t
ordered_same n s t same h = record {
  order = subst AreOrderedOneAMaster (sym same) h.order;
  older = subst (λ (es : List Expectation). AllByRecursion (λ e. e.id < n + 1) es) (sym same)
      (older_more n (n + 1) s.expects (omega arith) h.older);
}

module _ (adding : AddingKeepsOrder) (removing : RemovingKeepsOrder) where
  ordered_left : (n : ℕ) (keep : Expectation → Bool) (s t : State) → t.expects ≡ filter keep s.expects → Ordered n s
      → Ordered (n + 1) t
  ordered_left n keep s t same h = record {
    order = subst AreOrderedOneAMaster (sym same) (removing keep s.expects h.order);
    older = subst (λ (es : List Expectation). AllByRecursion (λ e. e.id < n + 1) es) (sym same)
        (each_filter (λ (e : Expectation). e.id < n + 1) keep s.expects (older_more n (n + 1) s.expects (omega arith) h.older));
  }

  ordered_more : (n : ℕ) (s : State) (e : Expectation) → e.id ≡ n → Ordered n s
      → Ordered (n + 1) (record s { expects = with_one s.expects e })
  ordered_more n s e same h =
      let older : AllByRecursion (λ o. o.id < e.id) s.expects = older_more n e.id s.expects (omega (arith, same)) h.older in
      record {
        order = adding s.expects e h.order (All-from_recursion (λ (o : Expectation). o.id < e.id) s.expects older);
        older = each_more (λ (o : Expectation). o.id < n + 1) (without_master e.master s.expects) e
            (each_filter (λ (o : Expectation). o.id < n + 1) (λ o. not (is_of e.master o)) s.expects
            (older_more n (n + 1) s.expects (omega arith) h.older))
            (omega (arith, same));
      }

  ordered_next : (sizes : Sizes) (n : ℕ) (s : State) (e : Event) → may_happen sizes s n e ≡ true → Ordered n s
      → Ordered (n + 1) (next s e)
  ordered_next sizes n s (Confirm r) may h = ordered_same n s (next s (Confirm r)) refl h
  ordered_next sizes n s (Touch id d segment moment part) may h =
      ordered_same n s (next s (Touch id d segment moment part)) refl h
  ordered_next sizes n s (Destroy id why) may h =
      ordered_left n (λ e. not (is_of id e)) s (next s (Destroy id why)) refl h
  ordered_next sizes n s (Expect e replaced moment) may h =
      ordered_more n s e (may_expect-parts sizes n s e replaced moment may).id h
  ordered_next sizes n s (Claim id master t moment) may h =
      ordered_left n (λ e. not (match.has_id id e)) s (next s (Claim id master t moment)) refl h
  ordered_next sizes n s (Unexpect id moment) may h =
      ordered_left n (λ e. not (match.has_id id e)) s (next s (Unexpect id moment)) refl h

  ordered_run : (sizes : Sizes) (n m p : ℕ) (s : State) (log : List Event) → is_legal_from sizes s n log ≡ true
      → n + p < m + 1 → Ordered n s → Ordered m (run s (take p log))
  ordered_run sizes n m zero s log legal le h = ordered_later n m s (omega arith) h
  ordered_run sizes n m (suc p) s [] legal le h = ordered_later n m s (omega arith) h
  ordered_run sizes n m (suc p) s (e ∷ es) legal le h =
      let parts = and_parts (may_happen sizes s n e) (is_legal_from sizes (next s e) (n + 1) es) legal in
      ordered_run sizes (n + 1) m p (next s e) es parts.1 (omega arith) (ordered_next sizes n s e parts.0 h)

  none_in_order : AreOrderedOneAMaster []
  none_in_order = record {
    ids = λ i j d below short. absurd (omega arith);
    masters = λ i j d below short. absurd (omega arith);
  }

  pub ordered_after : (sizes : Sizes) (p : ℕ) (log : List Event) → is_legal sizes log ≡ true → Ordered p (after log p)
  unfolding is_legal after
  ordered_after sizes p log legal =
      ordered_run sizes 0 p p empty_state log legal (omega arith) (record { order = none_in_order; older = tt })

-- of each expectation the master is live, among these records, has the helper, and is in its zone
abbrev pub Helped : List Record → List Expectation → Type 0
Helped rs es = AllByRecursion (λ e. helps_in e.zone (find (has_id e.master) rs) ≡ true) es

first_same : (zone : ℕ) (a b : Bool) → a ≡ b → (x y : Record) → x.helper ≡ y.helper → x.original ≡ y.original → (o p : Option Record) → helps_in zone o ≡ helps_in zone p
    → helps_in zone (cond a (Some x) o) ≡ helps_in zone (cond b (Some y) p)
first_same zone true true e x y h same o p k = ap (λ b. b && x.original.zone == zone) h ∙ ap (λ (t : Tuple). y.helper && t.zone == zone) same
first_same zone true false e x y h same o p k = cc
first_same zone false true e x y h same o p k = cc
first_same zone false false e x y h same o p k = k

push_first : (zone : ℕ) (q : Record) (b : Bool) (o p : Option Record) → helps_in zone (cond b (Some q) o) ≡ true
    → (helps_in zone o ≡ true → helps_in zone p ≡ true) → helps_in zone (cond b (Some q) p) ≡ true
push_first zone q true o p h rest = h
push_first zone q false o p h rest = rest h

-- one record more
helper_push : (zone m : ℕ) (rs : List Record) (r : Record) → helps_in zone (find (has_id m) rs) ≡ true
    → helps_in zone (find (has_id m) (rs ++ r ∷ [])) ≡ true
helper_push zone m [] r h = absurd (false≢true h)
helper_push zone m (q ∷ rs) r h =
    push_first zone q (has_id m q) (find (has_id m) rs) (find (has_id m) (rs ++ r ∷ [])) h (helper_push zone m rs r)

helped_push : (rs : List Record) (r : Record) (es : List Expectation) → Helped rs es → Helped (rs ++ r ∷ []) es
helped_push rs r [] h = tt
helped_push rs r (e ∷ es) (h, hs) = (helper_push e.zone e.master rs r h, helped_push rs r es hs)

-- one record has another part
helper_touched : (zone m id : ℕ) (part : Part) (rs : List Record)
    → helps_in zone (find (has_id m) (map (with_part id part) rs)) ≡ helps_in zone (find (has_id m) rs)
helper_touched zone m id part [] = refl
helper_touched zone m id part (q ∷ rs) =
    let same = with_part-same id part q in
    first_same zone (has_id m (with_part id part q)) (has_id m q) (ap (λ i. i == m) same.id) (with_part id part q) q same.helper
    same.original
    (find (has_id m) (map (with_part id part) rs)) (find (has_id m) rs) (helper_touched zone m id part rs)

helped_touched : (id : ℕ) (part : Part) (rs : List Record) (es : List Expectation) → Helped rs es
    → Helped (map (with_part id part) rs) es
helped_touched id part rs [] h = tt
helped_touched id part rs (e ∷ es) (h, hs) = (helper_touched e.zone e.master id part rs ∙ h, helped_touched id part rs es hs)

-- the record of another id is gone
filter_first : (zone m id : ℕ) (q : Record) (rs kept : List Record) (b : Bool) → has_id id q ≡ b → (m == id) ≡ false
    → helps_in zone (find (has_id m) kept) ≡ helps_in zone (find (has_id m) rs)
    → helps_in zone (find (has_id m) (cond (not b) (q ∷ kept) kept)) ≡ helps_in zone (cond (has_id m q) (Some q) (find (has_id m) rs))
filter_first zone m id q rs kept true e ne h =
    let other : has_id m q ≡ false = ne_eqb q.id m (λ k. eqb-false m id ne (sym k ∙ eqb-true q.id id e)) in
    h ∙ ap (λ b. helps_in zone (cond b (Some q) (find (has_id m) rs))) (sym other)
filter_first zone m id q rs kept false e ne h =
    first_same zone (has_id m q) (has_id m q) refl q q refl refl (find (has_id m) kept) (find (has_id m) rs) h

helper_filter : (zone m id : ℕ) (rs : List Record) → (m == id) ≡ false
    → helps_in zone (find (has_id m) (filter (λ r. not (has_id id r)) rs)) ≡ helps_in zone (find (has_id m) rs)
helper_filter zone m id [] ne = refl
helper_filter zone m id (q ∷ rs) ne =
    filter_first zone m id q rs (filter (λ r. not (has_id id r)) rs) (has_id id q) refl ne (helper_filter zone m id rs ne)

left_first : (id : ℕ) (rs : List Record) (e : Expectation) (kept : List Expectation) (b : Bool) → is_of id e ≡ b
    → helps_in e.zone (find (has_id e.master) rs) ≡ true → Helped (filter (λ r. not (has_id id r)) rs) kept
    → Helped (filter (λ r. not (has_id id r)) rs) (cond (not b) (e ∷ kept) kept)
left_first id rs e kept true is h hs = hs
left_first id rs e kept false is h hs = (helper_filter e.zone e.master id rs is ∙ h, hs)

helped_left : (id : ℕ) (rs : List Record) (es : List Expectation) → Helped rs es
    → Helped (filter (λ r. not (has_id id r)) rs) (without_master id es)
helped_left id rs [] h = tt
helped_left id rs (e ∷ es) (h, hs) =
    left_first id rs e (without_master id es) (is_of id e) refl h (helped_left id rs es hs)

helped_next : (sizes : Sizes) (n : ℕ) (s : State) (e : Event) → may_happen sizes s n e ≡ true → Helped s.records s.expects
    → Helped (next s e).records (next s e).expects
helped_next sizes n s (Confirm r) may h = helped_push s.records r s.expects h
helped_next sizes n s (Touch id d segment moment part) may h = helped_touched id part s.records s.expects h
helped_next sizes n s (Destroy id why) may h = helped_left id s.records s.expects h
helped_next sizes n s (Expect e replaced moment) may h =
    each_more (λ (o : Expectation). helps_in o.zone (find (has_id o.master) s.records) ≡ true) (without_master e.master s.expects) e
    (each_filter (λ (o : Expectation). helps_in o.zone (find (has_id o.master) s.records) ≡ true) (λ o. not (is_of e.master o)) s.expects h)
    (may_expect-parts sizes n s e replaced moment may).helped
helped_next sizes n s (Claim id master t moment) may h =
    each_filter (λ (o : Expectation). helps_in o.zone (find (has_id o.master) s.records) ≡ true) (λ o. not (match.has_id id o)) s.expects h
helped_next sizes n s (Unexpect id moment) may h =
    each_filter (λ (o : Expectation). helps_in o.zone (find (has_id o.master) s.records) ≡ true) (λ o. not (match.has_id id o)) s.expects h

helped_run : (sizes : Sizes) (n p : ℕ) (s : State) (log : List Event) → is_legal_from sizes s n log ≡ true
    → Helped s.records s.expects → Helped (run s (take p log)).records (run s (take p log)).expects
helped_run sizes n zero s log legal h = h
helped_run sizes n (suc p) s [] legal h = h
helped_run sizes n (suc p) s (e ∷ es) legal h =
    let parts = and_parts (may_happen sizes s n e) (is_legal_from sizes (next s e) (n + 1) es) legal in
    helped_run sizes (n + 1) p (next s e) es parts.1 (helped_next sizes n s e parts.0 h)

pub helped_after : (sizes : Sizes) (p : ℕ) (log : List Event) → is_legal sizes log ≡ true
    → Helped (after log p).records (after log p).expects
unfolding is_legal after
helped_after sizes p log legal = helped_run sizes 0 p empty_state log legal tt

-- the helper of a record is that of its Confirm
pub kept_helper : (sizes : Sizes) (log : List Event) (p id : ℕ) (r : Record) → is_legal sizes log ≡ true
    → record_of id (after log p) ≡ Some r → is_helped_entry id log ≡ r.helper
kept_helper sizes log p id r legal at =
    let c = found_confirmed sizes log p id r legal at in
    let e : is_helped_entry r.id log ≡ c.0.subject.helper = ap (λ o. has_helper (confirmed_by o)) c.0.event in
    subst (λ i. is_helped_entry i log ≡ r.helper) c.1 (e ∙ sym c.0.same.helper)

-- the zone of a record is that of its Confirm
pub kept_zone : (sizes : Sizes) (log : List Event) (p id : ℕ) (r : Record) → is_legal sizes log ≡ true
    → record_of id (after log p) ≡ Some r → zone_of_entry id log ≡ r.original.zone
kept_zone sizes log p id r legal at =
    let c = found_confirmed sizes log p id r legal at in
    let e : zone_of_entry r.id log ≡ c.0.subject.original.zone = ap (λ o. zone_of (confirmed_by o)) c.0.event in
    subst (λ i. zone_of_entry i log ≡ r.original.zone) c.1 (e ∙ sym (ap (λ (t : Tuple). t.zone) c.0.same.original))
