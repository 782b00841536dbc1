-- A state and its events under other numbers.
use Rattle.std.proofs.Common.{◌≡◌, ℕ, ◌+◌, Bool, true, false, not, cond, List, [], ◌∷◌, ◌++◌, length, refl, sym, ap, subst, ◌∙◌, Option, Some, None}
use Rattle.std.specs.List.{AllByRecursion, filter, find, list_any}
use Rattle.std.specs.Prelude.{map, nat_lt, option_map, ◌==◌, ◌&&◌, ◌||◌}
use Rattle.std.proofs.lemmas.Bool.{and_from, and_parts, eq-eqb, eqb-true, false≢true}
use Rattle.std.proofs.lemmas.List.{length-map, map-append}
use Rattle.expect_table.specs.Expectations.{add_outcome, matching, outcome_of_older, outcome_of_rival, without_master}
use Rattle.expect_table.specs.Match.{is_awaited, is_in_zone, is_match, is_of, is_rival, same_want}
use Rattle.expect_table.specs.Match as match
use Rattle.expect_table.specs.declared.expectation.Expectation.{Expectation}
use Rattle.tuple_core.specs.declared.Direction.{Direction}
use Rattle.tuple_core.specs.declared.Segment.{Segment}
use Rattle.proto_rules.specs.declared.Part.{Part}
use Rattle.history_book.specs.declared.event.Event.{Event}
use Rattle.history_book.specs.declared.event.Event.TheVariants.{Confirm, Touch, Destroy, Expect, Claim, Unexpect}
use Rattle.history_book.specs.declared.event.Why.{Why}
use Rattle.history_book.specs.declared.event.Why.TheVariants as why
use Rattle.history_book.specs.declared.record.Record.{Record}
use Rattle.history_book.specs.declared.sizes.Sizes.{Sizes}
use Rattle.history_book.specs.Legality.{expected_for, helps_in, is_added, is_of_one_flow, is_open_place, is_reason, may_claim, may_destroy, may_expect, may_happen, may_touch, may_unexpect, same_id}
use Rattle.history_book.specs.Record.{has_id, has_place, has_tuple}
use Rattle.history_book.specs.State.{State, is_free, is_unused, next, record_of, with_part}
use Rattle.history_book.specs.Zones.{renamed, renamed_expectation, renamed_record, renamed_state}
use Rattle.history_book.proofs.Entries.{each_filter, with_part-same}
use Rattle.history_book.proofs.Expected.{each_more}
use Rattle.history_book.proofs.Kept.{each_also, each_one}
use Rattle.history_book.proofs.Passing.{found_holds, found_passes}
use Rattle.history_book.proofs.ZoneParts.{same_state}

find_first : {X Y : Type 0} (g : X → Y) (x : X) (a b : Bool) (o : Option Y) (u : Option X) → a ≡ b → o ≡ option_map g u
    → cond a (Some (g x)) o ≡ option_map g (cond b (Some x) u)
find_first g x true true o u h same = refl
find_first g x true false o u h same = cc
find_first g x false true o u h same = cc
find_first g x false false o u h same = same

-- a test that other names do not change finds the same
find_named : {X Y : Type 0} (g : X → Y) (q : Y → Bool) (p : X → Bool) (xs : List X) → AllByRecursion (λ x. q (g x) ≡ p x) xs
    → find q (map g xs) ≡ option_map g (find p xs)
find_named g q p [] h = refl
find_named g q p (x ∷ xs) (h, hs) = find_first g x (q (g x)) (p x) (find q (map g xs)) (find p xs) h (find_named g q p xs hs)

any_named : {X Y : Type 0} (g : X → Y) (q : Y → Bool) (p : X → Bool) (xs : List X) → AllByRecursion (λ x. q (g x) ≡ p x) xs
    → list_any q (map g xs) ≡ list_any p xs
any_named g q p [] h = refl
any_named g q p (x ∷ xs) (h, hs) = ap (λ b. b || list_any q (map g xs)) h ∙ ap (λ b. p x || b) (any_named g q p xs hs)

without_first : {X Y : Type 0} (g : X → Y) (x : X) (a b : Bool) (ys : List Y) (xs : List X) → a ≡ b → ys ≡ map g xs
    → cond (not a) (g x ∷ ys) ys ≡ map g (cond (not b) (x ∷ xs) xs)
without_first g x true true ys xs h same = same
without_first g x true false ys xs h same = cc
without_first g x false true ys xs h same = cc
without_first g x false false ys xs h same = ap (λ zs. g x ∷ zs) same

without_named : {X Y : Type 0} (g : X → Y) (q : Y → Bool) (p : X → Bool) (xs : List X) → AllByRecursion (λ x. q (g x) ≡ p x) xs
    → filter (λ y. not (q y)) (map g xs) ≡ map g (filter (λ x. not (p x)) xs)
without_named g q p [] h = refl
without_named g q p (x ∷ xs) (h, hs) =
    without_first g x (q (g x)) (p x) (filter (λ y. not (q y)) (map g xs)) (filter (λ z. not (p z)) xs) h (without_named g q p xs hs)

-- a reason names no number
reason_named : (f : ℕ → ℕ) (why : Why) (r : Record) → is_reason why (renamed_record f r) ≡ is_reason why r
reason_named f (why.Expired moment) r = refl
reason_named f (why.Reopened direction segment moment) r = refl
reason_named f (why.Reset segment moment) r = refl
reason_named f (why.Deleted filter) r = refl
reason_named f why.Flushed r = refl
reason_named f (why.Dropped moment) r = refl

destroy_named : (f : ℕ → ℕ) (o : Option Record) (why : Why) → may_destroy (option_map (renamed_record f) o) why ≡ may_destroy o why
destroy_named f None why = refl
destroy_named f (Some r) why = reason_named f why r

touch_named : (f : ℕ → ℕ) (o : Option Record) (d : Direction) (segment : Segment) (moment : ℕ) (part : Part)
    → may_touch (option_map (renamed_record f) o) d segment moment part ≡ may_touch o d segment moment part
touch_named f None d segment moment part = refl
touch_named f (Some r) d segment moment part = refl

helps_named : (f : ℕ → ℕ) (zone : ℕ) (o : Option Record) → helps_in zone (option_map (renamed_record f) o) ≡ helps_in zone o
helps_named f zone None = refl
helps_named f zone (Some r) = refl

due_named : (f : ℕ → ℕ) (o : Option Expectation) (moment : ℕ)
    → may_unexpect (option_map (renamed_expectation f) o) moment ≡ may_unexpect o moment
due_named f None moment = refl
due_named f (Some e) moment = refl

same_renamed : (f : ℕ → ℕ) (m n : ℕ) → (m == n) ≡ true → (f m == f n) ≡ true
same_renamed f m n h = eq-eqb (f m) (f n) (ap f (eqb-true m n h))

claim_named : (f : ℕ → ℕ) (o : Option Expectation) (id master : ℕ) → may_claim o id master ≡ true
    → may_claim (option_map (renamed_expectation f) o) (f id) (f master) ≡ true
claim_named f None id master h = h
claim_named f (Some e) id master h =
    let parts = and_parts (match.has_id id e) (e.master == master) h in
    and_from _ _ (same_renamed f e.id id parts.0) (same_renamed f e.master master parts.1)

older_named : (f : ℕ → ℕ) (m : ℕ) (replaced : Option ℕ) → same_id (Some m) replaced ≡ true
    → same_id (Some (f m)) (option_map f replaced) ≡ true
older_named f m None h = h
older_named f m (Some n) h = same_renamed f m n h

none_named : (f : ℕ → ℕ) (replaced : Option ℕ) → same_id None replaced ≡ true → same_id None (option_map f replaced) ≡ true
none_named f None h = refl
none_named f (Some n) h = h

added_named : (f : ℕ → ℕ) (rival older : Option Expectation) (few : Bool) (replaced : Option ℕ)
    → is_added (outcome_of_rival rival (outcome_of_older older few)) replaced ≡ true
    → is_added (outcome_of_rival (option_map (renamed_expectation f) rival) (outcome_of_older (option_map (renamed_expectation f) older) few))
    (option_map f replaced) ≡ true
added_named f (Some r) older few replaced h = absurd (false≢true h)
added_named f None (Some e) few replaced h = older_named f e.id replaced h
added_named f None None true replaced h = none_named f replaced h
added_named f None None false replaced h = absurd (false≢true h)

-- all that a state names are such numbers
pub record AreEvents (IsEvent : ℕ → Type 0) (s : State) : Type 0 where
  pub records : AllByRecursion (λ r. IsEvent r.id) s.records
  pub expects : AllByRecursion (λ e. IsEvent e.id) s.expects
  pub masters : AllByRecursion (λ e. IsEvent e.master) s.expects

record ExpectParts (sizes : Sizes) (s : State) (n : ℕ) (e : Expectation) (replaced : Option ℕ) (moment : ℕ) : Type 0 where
  id : (e.id == n) ≡ true
  due : (e.deadline == moment + expected_for) ≡ true
  helps : helps_in e.zone (record_of e.master s) ≡ true
  added : is_added (add_outcome sizes.expectations s.expects e moment) replaced ≡ true

expect_parts : (sizes : Sizes) (s : State) (n : ℕ) (e : Expectation) (replaced : Option ℕ) (moment : ℕ)
    → may_expect sizes s n e replaced moment ≡ true → ExpectParts sizes s n e replaced moment
expect_parts sizes s n e replaced moment h =
    let a = and_parts _ (is_added (add_outcome sizes.expectations s.expects e moment) replaced) h in
    let b = and_parts _ (helps_in e.zone (record_of e.master s)) a.0 in
    let c = and_parts (e.id == n) (e.deadline == moment + expected_for) b.0 in
    record { id = c.0; due = c.1; helps = b.1; added = a.1 }

-- Names that are told apart among the numbers of events.
module _ (f : ℕ → ℕ) (IsEvent : ℕ → Type 0) (apart : (i j : ℕ) → IsEvent i → IsEvent j → (f i == f j) ≡ (i == j)) where
  ids_apart : (id : ℕ) (rs : List Record) → IsEvent id → AllByRecursion (λ r. IsEvent r.id) rs
      → AllByRecursion (λ r. has_id (f id) (renamed_record f r) ≡ has_id id r) rs
  ids_apart id rs is h =
      each_also (λ (r : Record). IsEvent r.id) (λ (r : Record). has_id (f id) (renamed_record f r) ≡ has_id id r) rs
      (λ r k. apart r.id id k is) h

  expected_apart : (id : ℕ) (es : List Expectation) → IsEvent id → AllByRecursion (λ e. IsEvent e.id) es
      → AllByRecursion (λ e. match.has_id (f id) (renamed_expectation f e) ≡ match.has_id id e) es
  expected_apart id es is h =
      each_also (λ (e : Expectation). IsEvent e.id) (λ (e : Expectation). match.has_id (f id) (renamed_expectation f e) ≡ match.has_id id e) es
      (λ e k. apart e.id id k is) h

  masters_apart : (master : ℕ) (es : List Expectation) → IsEvent master → AllByRecursion (λ e. IsEvent e.master) es
      → AllByRecursion (λ e. is_of (f master) (renamed_expectation f e) ≡ is_of master e) es
  masters_apart master es is h =
      each_also (λ (e : Expectation). IsEvent e.master) (λ (e : Expectation). is_of (f master) (renamed_expectation f e) ≡ is_of master e) es
      (λ e k. apart e.master master k is) h

  -- what is found by a number has it
  found_event : (id : ℕ) (rs : List Record) (o : Option Record) → AllByRecursion (λ r. IsEvent r.id) rs → find (has_id id) rs ≡ o
      → (o ≡ None → ⊥) → IsEvent id
  found_event id rs None h found some = absurd (some refl)
  found_event id rs (Some r) h found some =
      subst IsEvent (eqb-true r.id id (found_passes (has_id id) rs r found))
      (found_holds (λ (q : Record). IsEvent q.id) (has_id id) rs r h found)

  awaited_event : (p : Expectation → Bool) (id : ℕ) (es : List Expectation) (o : Option Expectation) → AllByRecursion (λ e. IsEvent e.id) es
      → find p es ≡ o → (o ≡ None → ⊥) → ((e : Expectation) → o ≡ Some e → e.id ≡ id) → IsEvent id
  awaited_event p id es None h found some named = absurd (some refl)
  awaited_event p id es (Some e) h found some named =
      subst IsEvent (named e refl) (found_holds (λ (d : Expectation). IsEvent d.id) p es e h found)

  touch_event : (s : State) (id : ℕ) (d : Direction) (segment : Segment) (moment : ℕ) (part : Part) → AreEvents IsEvent s
      → may_touch (record_of id s) d segment moment part ≡ true → IsEvent id
  touch_event s id d segment moment part h may =
      found_event id s.records (record_of id s) h.records refl
      (λ none. false≢true (sym (ap (λ o. may_touch o d segment moment part) none) ∙ may))

  destroy_event : (s : State) (id : ℕ) (why : Why) → AreEvents IsEvent s → may_destroy (record_of id s) why ≡ true → IsEvent id
  destroy_event s id why h may =
      found_event id s.records (record_of id s) h.records refl
      (λ none. false≢true (sym (ap (λ o. may_destroy o why) none) ∙ may))

  helps_event : (s : State) (master zone : ℕ) → AreEvents IsEvent s → helps_in zone (record_of master s) ≡ true → IsEvent master
  helps_event s master zone h may =
      found_event master s.records (record_of master s) h.records refl
      (λ none. false≢true (sym (ap (helps_in zone) none) ∙ may))

  unexpect_event : (s : State) (id moment : ℕ) → AreEvents IsEvent s → may_unexpect (find (match.has_id id) s.expects) moment ≡ true → IsEvent id
  unexpect_event s id moment h may =
      awaited_event (match.has_id id) id s.expects (find (match.has_id id) s.expects) h.expects refl
      (λ none. false≢true (sym (ap (λ o. may_unexpect o moment) none) ∙ may))
      (λ e found. eqb-true e.id id (found_passes (match.has_id id) s.expects e found))

  claim_event : (s : State) (id master : ℕ) (o : Option Expectation) (p : Expectation → Bool) → AreEvents IsEvent s → find p s.expects ≡ o
      → may_claim o id master ≡ true → IsEvent id
  claim_event s id master None p h found may = absurd (false≢true may)
  claim_event s id master (Some e) p h found may =
      subst IsEvent (eqb-true e.id id (and_parts (match.has_id id e) (e.master == master) may).0)
      (found_holds (λ (d : Expectation). IsEvent d.id) p s.expects e h.expects found)

  add_named : (sizes : Sizes) (s : State) (e : Expectation) (replaced : Option ℕ) (moment : ℕ) → AreEvents IsEvent s → IsEvent e.master
      → is_added (add_outcome sizes.expectations s.expects e moment) replaced ≡ true
      → is_added (add_outcome sizes.expectations (renamed_state f s).expects (renamed_expectation f e) moment) (option_map f replaced) ≡ true
  add_named sizes s e replaced moment h is added =
      let rivals = find_named (renamed_expectation f) (is_rival (renamed_expectation f e) moment) (is_rival e moment) s.expects
      (each_also (λ (d : Expectation). is_of (f e.master) (renamed_expectation f d) ≡ is_of e.master d)
      (λ (d : Expectation). is_rival (renamed_expectation f e) moment (renamed_expectation f d) ≡ is_rival e moment d) s.expects
      (λ d k. ap (λ b. not b && is_in_zone e.zone d && same_want e.want d.want && is_awaited moment d) k)
      (masters_apart e.master s.expects is h.masters)) in
      let older = find_named (renamed_expectation f) (is_of (f e.master)) (is_of e.master) s.expects
      (masters_apart e.master s.expects is h.masters) in
      let few = ap (λ n. nat_lt n sizes.expectations) (length-map s.expects (renamed_expectation f)) in
      let now = added_named f (find (is_rival e moment) s.expects) (find (is_of e.master) s.expects)
      (nat_lt (length s.expects) sizes.expectations) replaced added in
      ap (λ o. is_added (outcome_of_rival o (outcome_of_older (find (is_of (f e.master)) (map (renamed_expectation f) s.expects))
      (nat_lt (length (map (renamed_expectation f) s.expects)) sizes.expectations))) (option_map f replaced)) rivals
      ∙ ap (λ o. is_added (outcome_of_rival (option_map (renamed_expectation f) (find (is_rival e moment) s.expects)) (outcome_of_older o
      (nat_lt (length (map (renamed_expectation f) s.expects)) sizes.expectations))) (option_map f replaced)) older
      ∙ ap (λ b. is_added (outcome_of_rival (option_map (renamed_expectation f) (find (is_rival e moment) s.expects))
      (outcome_of_older (option_map (renamed_expectation f) (find (is_of e.master) s.expects)) b)) (option_map f replaced)) few
      ∙ now

  record_named : (s : State) (id : ℕ) → AreEvents IsEvent s → IsEvent id
      → record_of (f id) (renamed_state f s) ≡ option_map (renamed_record f) (record_of id s)
  record_named s id h is = find_named (renamed_record f) (has_id (f id)) (has_id id) s.records (ids_apart id s.records is h.records)

  -- an event that may happen may happen under the other names
  pub may_named : (sizes : Sizes) (s : State) (n : ℕ) (e : Event) → AreEvents IsEvent s → may_happen sizes s n e ≡ true
      → may_happen sizes (renamed_state f s) (f n) (renamed f e) ≡ true
  may_named sizes s n (Confirm r) h may =
      let a = and_parts _ (is_free r.reply s) may in
      let b = and_parts _ (is_free r.original s) a.0 in
      let c = and_parts _ (is_open_place sizes r.place s) b.0 in
      let d = and_parts (r.id == n) (is_of_one_flow r) c.0 in
      let e = and_parts (nat_lt r.place sizes.entries) (is_unused r.place s) c.1 in
      let unused = ap not (any_named (renamed_record f) (has_place r.place) (has_place r.place) s.records
      (each_one (λ (q : Record). has_place r.place (renamed_record f q) ≡ has_place r.place q) s.records (λ q. refl))) in
      let original = ap not (any_named (renamed_record f) (has_tuple r.original) (has_tuple r.original) s.records
      (each_one (λ (q : Record). has_tuple r.original (renamed_record f q) ≡ has_tuple r.original q) s.records (λ q. refl))) in
      let reply = ap not (any_named (renamed_record f) (has_tuple r.reply) (has_tuple r.reply) s.records
      (each_one (λ (q : Record). has_tuple r.reply (renamed_record f q) ≡ has_tuple r.reply q) s.records (λ q. refl))) in
      and_from _ _ (and_from _ _ (and_from _ _ (and_from _ _ (same_renamed f r.id n d.0) d.1) (and_from _ _ e.0 (unused ∙ e.1)))
      (original ∙ b.1)) (reply ∙ a.1)
  may_named sizes s n (Touch id d segment moment part) h may =
      ap (λ o. may_touch o d segment moment part) (record_named s id h (touch_event s id d segment moment part h may))
      ∙ touch_named f (record_of id s) d segment moment part ∙ may
  may_named sizes s n (Destroy id why) h may =
      ap (λ o. may_destroy o why) (record_named s id h (destroy_event s id why h may))
      ∙ destroy_named f (record_of id s) why ∙ may
  may_named sizes s n (Expect e replaced moment) h may =
      let parts = expect_parts sizes s n e replaced moment may in
      let is = helps_event s e.master e.zone h parts.helps in
      let helps = ap (helps_in e.zone) (record_named s e.master h is) ∙ helps_named f e.zone (record_of e.master s) ∙ parts.helps in
      and_from _ _ (and_from _ _ (and_from _ _ (same_renamed f e.id n parts.id) parts.due) helps)
      (add_named sizes s e replaced moment h is parts.added)
  may_named sizes s n (Claim id master t moment) h may =
      let found = find_named (renamed_expectation f) (is_match t moment) (is_match t moment) s.expects
      (each_one (λ (d : Expectation). is_match t moment (renamed_expectation f d) ≡ is_match t moment d) s.expects (λ d. refl)) in
      ap (λ o. may_claim o (f id) (f master)) found ∙ claim_named f (matching t moment s.expects) id master may
  may_named sizes s n (Unexpect id moment) h may =
      let found = find_named (renamed_expectation f) (match.has_id (f id)) (match.has_id id) s.expects
      (expected_apart id s.expects (unexpect_event s id moment h may) h.expects) in
      ap (λ o. may_unexpect o moment) found ∙ due_named f (find (match.has_id id) s.expects) moment ∙ may

  part_first : (id : ℕ) (part : Part) (r : Record) (a b : Bool) → a ≡ b
      → cond a (record (renamed_record f r) { part = part }) (renamed_record f r) ≡ renamed_record f (cond b (record r { part = part }) r)
  part_first id part r true true h = refl
  part_first id part r true false h = cc
  part_first id part r false true h = cc
  part_first id part r false false h = refl

  parts_named : (id : ℕ) (part : Part) (rs : List Record)
      → AllByRecursion (λ r. has_id (f id) (renamed_record f r) ≡ has_id id r) rs
      → map (with_part (f id) part) (map (renamed_record f) rs) ≡ map (renamed_record f) (map (with_part id part) rs)
  parts_named id part [] h = refl
  parts_named id part (r ∷ rs) (h, hs) =
      cc (part_first id part r (has_id (f id) (renamed_record f r)) (has_id id r) h, parts_named id part rs hs)

  -- and what it leaves is the same under the other names
  pub next_named : (sizes : Sizes) (s : State) (n : ℕ) (e : Event) → AreEvents IsEvent s → may_happen sizes s n e ≡ true
      → next (renamed_state f s) (renamed f e) ≡ renamed_state f (next s e)
  next_named sizes s n (Confirm r) h may =
      same_state _ _ (sym (map-append (renamed_record f) s.records (r ∷ []))) refl
  next_named sizes s n (Touch id d segment moment part) h may =
      same_state _ _ (parts_named id part s.records (ids_apart id s.records (touch_event s id d segment moment part h may) h.records)) refl
  next_named sizes s n (Destroy id why) h may =
      let is = destroy_event s id why h may in
      same_state _ _
      (without_named (renamed_record f) (has_id (f id)) (has_id id) s.records (ids_apart id s.records is h.records))
      (without_named (renamed_expectation f) (is_of (f id)) (is_of id) s.expects (masters_apart id s.expects is h.masters))
  next_named sizes s n (Expect e replaced moment) h may =
      let is = helps_event s e.master e.zone h (expect_parts sizes s n e replaced moment may).helps in
      same_state _ _ refl
      (ap (λ es. es ++ renamed_expectation f e ∷ [])
      (without_named (renamed_expectation f) (is_of (f e.master)) (is_of e.master) s.expects (masters_apart e.master s.expects is h.masters))
      ∙ sym (map-append (renamed_expectation f) (without_master e.master s.expects) (e ∷ [])))
  next_named sizes s n (Claim id master t moment) h may =
      same_state _ _ refl
      (without_named (renamed_expectation f) (match.has_id (f id)) (match.has_id id) s.expects
      (expected_apart id s.expects (claim_event s id master (matching t moment s.expects) (is_match t moment) h refl may) h.expects))
  next_named sizes s n (Unexpect id moment) h may =
      same_state _ _ refl
      (without_named (renamed_expectation f) (match.has_id (f id)) (match.has_id id) s.expects
      (expected_apart id s.expects (unexpect_event s id moment h may) h.expects))

  events_touched : (id : ℕ) (part : Part) (rs : List Record) → AllByRecursion (λ r. IsEvent r.id) rs
      → AllByRecursion (λ r. IsEvent r.id) (map (with_part id part) rs)
  events_touched id part [] h = tt
  events_touched id part (r ∷ rs) (h, hs) = (subst IsEvent (sym (with_part-same id part r).id) h, events_touched id part rs hs)

  events_left : (keep : Expectation → Bool) (s t : State) → t.records ≡ s.records → t.expects ≡ filter keep s.expects → AreEvents IsEvent s → AreEvents IsEvent t
  events_left keep s t same left h = record {
    records = subst (λ (rs : List Record). AllByRecursion (λ r. IsEvent r.id) rs) (sym same) h.records;
    expects = subst (λ (es : List Expectation). AllByRecursion (λ e. IsEvent e.id) es) (sym left)
        (each_filter (λ (e : Expectation). IsEvent e.id) keep s.expects h.expects);
    masters = subst (λ (es : List Expectation). AllByRecursion (λ e. IsEvent e.master) es) (sym left)
        (each_filter (λ (e : Expectation). IsEvent e.master) keep s.expects h.masters);
  }

  pub next_events : (sizes : Sizes) (s : State) (n : ℕ) (e : Event) → IsEvent n → AreEvents IsEvent s → may_happen sizes s n e ≡ true
      → AreEvents IsEvent (next s e)
  next_events sizes s n (Confirm r) is h may =
      let a = and_parts _ (is_free r.reply s) may in
      let b = and_parts _ (is_free r.original s) a.0 in
      let c = and_parts _ (is_open_place sizes r.place s) b.0 in
      let d = and_parts (r.id == n) (is_of_one_flow r) c.0 in
      record {
        records = each_more (λ (q : Record). IsEvent q.id) s.records r h.records (subst IsEvent (sym (eqb-true r.id n d.0)) is);
        expects = h.expects;
        masters = h.masters;
      }
  next_events sizes s n (Touch id d segment moment part) is h may =
      record { records = events_touched id part s.records h.records; expects = h.expects; masters = h.masters }
  next_events sizes s n (Destroy id why) is h may = record {
    records = each_filter (λ (q : Record). IsEvent q.id) (λ r. not (has_id id r)) s.records h.records;
    expects = each_filter (λ (e : Expectation). IsEvent e.id) (λ e. not (is_of id e)) s.expects h.expects;
    masters = each_filter (λ (e : Expectation). IsEvent e.master) (λ e. not (is_of id e)) s.expects h.masters;
  }
  next_events sizes s n (Expect e replaced moment) is h may =
      let parts = expect_parts sizes s n e replaced moment may in
      record {
        records = h.records;
        expects = each_more (λ (d : Expectation). IsEvent d.id) (without_master e.master s.expects) e
            (each_filter (λ (d : Expectation). IsEvent d.id) (λ d. not (is_of e.master d)) s.expects h.expects)
            (subst IsEvent (sym (eqb-true e.id n parts.id)) is);
        masters = each_more (λ (d : Expectation). IsEvent d.master) (without_master e.master s.expects) e
            (each_filter (λ (d : Expectation). IsEvent d.master) (λ d. not (is_of e.master d)) s.expects h.masters)
            (helps_event s e.master e.zone h parts.helps);
      }
  next_events sizes s n (Claim id master t moment) is h may =
      events_left (λ e. not (match.has_id id e)) s (next s (Claim id master t moment)) refl refl h
  next_events sizes s n (Unexpect id moment) is h may =
      events_left (λ e. not (match.has_id id e)) s (next s (Unexpect id moment)) refl refl h
