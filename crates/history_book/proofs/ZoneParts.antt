-- Parts of a zone, in states whose records and expectations are apart, and whose masters help in their zones.
use Rattle.std.proofs.Common.{◌≡◌, ℕ, ◌+◌, Bool, true, false, not, cond, List, [], ◌∷◌, ◌++◌, length, refl, sym, ap, subst, ◌∙◌, ⊎_elim, Option, Some, None, arith}
use Rattle.std.specs.List.{AllByRecursion, filter, find, list_any}
use Rattle.std.specs.Prelude.{map, nat_lt, ◌==◌, ◌≢◌, ◌&&◌, ◌||◌}
use Rattle.std.proofs.lemmas.Bool.{and_parts, eq-eqb, eqb-true, false≢true, ne_eqb, not-true, or_cases, or_left, or_right}
use Rattle.expect_table.specs.Expectations.{add_outcome, matching, outcome_of_older, outcome_of_rival, without_master}
use Rattle.expect_table.specs.Match.{is_in_zone, is_match, is_of, is_rival}
use Rattle.expect_table.specs.Match as match
use Rattle.expect_table.specs.declared.expectation.Expectation.{Expectation}
use Rattle.tuple_core.specs.declared.Tuple.{Tuple}
use Rattle.proto_rules.specs.declared.Part.{Part}
use Rattle.proto_rules.specs.Protocol.{proto_of}
use Rattle.std.proofs.lemmas.Bool.Decides.{nat_tests}
use Rattle.history_book.specs.declared.event.Event.{Event}
use Rattle.history_book.specs.declared.event.Event.TheVariants.{Confirm, Touch, Destroy, Expect, Claim, Unexpect}
use Rattle.history_book.specs.declared.record.Record.{Record}
use Rattle.history_book.specs.declared.sizes.Sizes.{Sizes}
use Rattle.history_book.specs.Legality.{expected_for, helps_in, is_added, is_of_one_flow, is_of_one_zone, may_claim, may_confirm, may_destroy, may_expect, may_happen, may_touch, may_unexpect, same_proto}
use Rattle.history_book.specs.Record.{has_id, has_original, has_place, has_reply, has_tuple}
use Rattle.history_book.specs.State.{State, is_free, is_unused, live_under, next, original_first, record_of, with_part}
use Rattle.history_book.specs.Zones.{event_zone, has_room_for, is_of_zone, zone_of_expected, zone_of_live, zone_part}
use Rattle.history_book.proofs.Entries.{each_fails, with_part-same}
use Rattle.history_book.proofs.Kept.{Distinct, Keeps, any_part, drop_others, each_also, each_one, filter_swap, find_part, first_lost, found_in_whole, last_kept, last_lost, length_part, map_part, none_of_part, named, only_one}
use Rattle.history_book.proofs.Passing.{found_passes, none_found}
use Rattle.history_book.proofs.Tuples.{same_tuple-true}

-- what holds in each state of a legal history
pub record IsZoned (s : State) : Type 0 where
  pub records : Distinct (λ r. r.id) s.records
  pub expects : Distinct (λ e. e.id) s.expects
  pub helped : AllByRecursion (λ e. helps_in e.zone (record_of e.master s) ≡ true) s.expects
  pub flows : AllByRecursion (λ r. is_of_one_flow r ≡ true) s.records

pub same_state : (s t : State) → s.records ≡ t.records → s.expects ≡ t.expects → s ≡ t
same_state s t p q = λ i. record { records = p i; expects = q i }

-- the zone of a record that helps
helper_zone : (zone : ℕ) (r : Record) → helps_in zone (Some r) ≡ true → r.original.zone ≡ zone
helper_zone zone r h = eqb-true r.original.zone zone (and_parts r.helper (r.original.zone == zone) h).1

one_helper : (y z : ℕ) (o : Option Record) → helps_in y o ≡ true → helps_in z o ≡ true → y ≡ z
one_helper y z None a b = absurd (false≢true a)
one_helper y z (Some r) a b = sym (helper_zone y r a) ∙ helper_zone z r b

helper_live : (zone : ℕ) (o : Option Record) → helps_in zone o ≡ true → zone_of_live o ≡ Some zone
helper_live zone None h = absurd (false≢true h)
helper_live zone (Some r) h = ap Some (helper_zone zone r h)

some_equal : (a b : ℕ) → Some a ≡ Some b → a ≡ b
some_equal a b h = cc

-- what a master expects is of the zone in which it helps
expected_there : (s : State) (master zone : ℕ) → IsZoned s → zone_of_live (record_of master s) ≡ Some zone
    → AllByRecursion (λ e. is_of master e ≡ true → e.zone ≡ zone) s.expects
expected_there s master zone zoned live =
    each_also (λ (e : Expectation). helps_in e.zone (record_of e.master s) ≡ true)
    (λ (e : Expectation). is_of master e ≡ true → e.zone ≡ zone) s.expects
    (λ e h own.
    let here : helps_in e.zone (record_of master s) ≡ true =
    subst (λ m. helps_in e.zone (record_of m s) ≡ true) (eqb-true e.master master own) h in
    some_equal e.zone zone (sym (helper_live e.zone (record_of master s) here) ∙ live))
    zoned.helped

-- of the records only those of the zone have this id
live_there : (s : State) (id zone : ℕ) (o : Option Record) → IsZoned s → record_of id s ≡ o → zone_of_live o ≡ Some zone
    → AllByRecursion (λ r. has_id id r ≡ true → r.original.zone ≡ zone) s.records
live_there s id zone None zoned found live = cc
live_there s id zone (Some q) zoned found live =
    each_also (λ (r : Record). has_id id r ≡ true → r ≡ q) (λ (r : Record). has_id id r ≡ true → r.original.zone ≡ zone) s.records
    (λ r h own. let same : r ≡ q = h own in cc)
    (only_one (λ (r : Record). r.id) id s.records q zoned.records found)

awaited_there : (s : State) (id zone : ℕ) (o : Option Expectation) → IsZoned s → find (match.has_id id) s.expects ≡ o
    → zone_of_expected o ≡ Some zone → AllByRecursion (λ e. match.has_id id e ≡ true → e.zone ≡ zone) s.expects
awaited_there s id zone None zoned found there = cc
awaited_there s id zone (Some d) zoned found there =
    each_also (λ (e : Expectation). match.has_id id e ≡ true → e ≡ d) (λ (e : Expectation). match.has_id id e ≡ true → e.zone ≡ zone) s.expects
    (λ e h own. let same : e ≡ d = h own in cc)
    (only_one (λ (e : Expectation). e.id) id s.expects d zoned.expects found)

-- what is of one zone is not of another
not_of : {X : Type 0} (test : X → Bool) (at : X → ℕ) (zone y : ℕ) (xs : List X) → zone ≢ y
    → AllByRecursion (λ x. test x ≡ true → at x ≡ zone) xs → AllByRecursion (λ x. test x ≡ true → (at x == y) ≡ false) xs
not_of test at zone y xs other h =
    each_also (λ x. test x ≡ true → at x ≡ zone) (λ x. test x ≡ true → (at x == y) ≡ false) xs
    (λ x k own. ne_eqb (at x) y (λ e. other (sym (k own) ∙ e))) h

is_so : {X : Type 0} (test : X → Bool) (at : X → ℕ) (zone : ℕ) (xs : List X)
    → AllByRecursion (λ x. test x ≡ true → at x ≡ zone) xs → AllByRecursion (Keeps (λ x. at x == zone) test) xs
is_so test at zone xs h =
    each_also (λ x. test x ≡ true → at x ≡ zone) (Keeps (λ x. at x == zone) test) xs
    (λ x k own. eq-eqb (at x) zone (k own)) h

-- each event that may happen has a zone
live_zone : (o : Option Record) → (o ≡ None → ⊥) → (zone : ℕ) × (zone_of_live o ≡ Some zone)
live_zone None h = absurd (h refl)
live_zone (Some r) h = (r.original.zone, refl)

awaited_zone : (o : Option Expectation) → (o ≡ None → ⊥) → (zone : ℕ) × (zone_of_expected o ≡ Some zone)
awaited_zone None h = absurd (h refl)
awaited_zone (Some e) h = (e.zone, refl)

pub has_zone : (sizes : Sizes) (s : State) (n : ℕ) (e : Event) → may_happen sizes s n e ≡ true
    → (zone : ℕ) × (event_zone s e ≡ Some zone)
has_zone sizes s n (Confirm r) may = (r.original.zone, refl)
has_zone sizes s n (Touch id d segment moment part) may =
    live_zone (record_of id s) (λ h. false≢true (sym (ap (λ o. may_touch o d segment moment part) h) ∙ may))
has_zone sizes s n (Destroy id why) may =
    live_zone (record_of id s) (λ h. false≢true (sym (ap (λ o. may_destroy o why) h) ∙ may))
has_zone sizes s n (Expect e replaced moment) may = (e.zone, refl)
has_zone sizes s n (Claim id master t moment) may = (t.zone, refl)
has_zone sizes s n (Unexpect id moment) may =
    awaited_zone (find (match.has_id id) s.expects) (λ h. false≢true (sym (ap (λ o. may_unexpect o moment) h) ∙ may))

-- the first that matches is claimed by its id
claimed_zone : (o : Option Expectation) (id master : ℕ) → may_claim o id master ≡ true
    → (e : Expectation) × (o ≡ Some e) × (match.has_id id e ≡ true)
claimed_zone None id master may = absurd (false≢true may)
claimed_zone (Some e) id master may = (e, refl, (and_parts (match.has_id id e) (e.master == master) may).0)

-- what is claimed is of the tuple's zone
claimed_there : (s : State) (id master : ℕ) (t : Tuple) (moment : ℕ) → IsZoned s
    → may_claim (matching t moment s.expects) id master ≡ true
    → AllByRecursion (λ e. match.has_id id e ≡ true → e.zone ≡ t.zone) s.expects
claimed_there s id master t moment zoned may =
    let claimed = claimed_zone (matching t moment s.expects) id master may in
    let e = claimed.0 in
    let passes = found_passes (is_match t moment) s.expects e claimed.1 in
    let zone : e.zone ≡ t.zone =
    eqb-true e.zone t.zone (and_parts (is_in_zone t.zone e) _ (and_parts _ (match.is_awaited moment e) passes).0).0 in
    let own = named (λ (d : Expectation). d.id) (is_match t moment) s.expects e zoned.expects claimed.1 in
    let found : find (match.has_id id) s.expects ≡ Some e =
    subst (λ i. find (match.has_id i) s.expects ≡ Some e) (eqb-true e.id id claimed.2) own in
    awaited_there s id t.zone (Some e) zoned found (ap Some zone)

-- a record of another zone keeps its part
touch_first : (y id : ℕ) (part : Part) (r : Record) (f rs : List Record) (b : Bool) → has_id id r ≡ b
    → (has_id id r ≡ true → is_of_zone y r ≡ false) → filter (is_of_zone y) f ≡ filter (is_of_zone y) rs
    → filter (is_of_zone y) (cond b (record r { part = part }) r ∷ f) ≡ filter (is_of_zone y) (r ∷ rs)
touch_first y id part r f rs true is h same =
    first_lost (is_of_zone y) (record r { part = part }) f (h is) ∙ same ∙ sym (first_lost (is_of_zone y) r rs (h is))
touch_first y id part r f rs false is h same = ap (λ zs. cond (is_of_zone y r) (r ∷ zs) zs) same

touch_others : (y id : ℕ) (part : Part) (rs : List Record) → AllByRecursion (λ r. has_id id r ≡ true → is_of_zone y r ≡ false) rs
    → filter (is_of_zone y) (map (with_part id part) rs) ≡ filter (is_of_zone y) rs
touch_others y id part [] h = refl
touch_others y id part (r ∷ rs) (h, hs) =
    touch_first y id part r (map (with_part id part) rs) rs (has_id id r) refl h (touch_others y id part rs hs)

-- the master of what is expected helps
helps_of : (sizes : Sizes) (s : State) (n : ℕ) (e : Expectation) (replaced : Option ℕ) (moment : ℕ)
    → may_expect sizes s n e replaced moment ≡ true → helps_in e.zone (record_of e.master s) ≡ true
helps_of sizes s n e replaced moment h =
    let a = and_parts _ (is_added (add_outcome sizes.expectations s.expects e moment) replaced) h in
    (and_parts _ (helps_in e.zone (record_of e.master s)) a.0).1

-- an event leaves the parts of other zones
other_of : (s : State) (sizes : Sizes) (n y : ℕ) (e : Event) (zone : ℕ) → IsZoned s → may_happen sizes s n e ≡ true
    → event_zone s e ≡ Some zone → zone ≢ y → zone_part (next s e) y ≡ zone_part s y
other_of s sizes n y (Confirm r) zone zoned may is other =
    same_state _ _
    (last_lost (is_of_zone y) s.records r (ne_eqb r.original.zone y (λ e. other (sym (some_equal r.original.zone zone is) ∙ e)))) refl
other_of s sizes n y (Touch id d segment moment part) zone zoned may is other =
    same_state _ _
    (touch_others y id part s.records
    (not_of (has_id id) (λ (r : Record). r.original.zone) zone y s.records other
    (live_there s id zone (record_of id s) zoned refl is))) refl
other_of s sizes n y (Destroy id why) zone zoned may is other =
    same_state _ _
    (drop_others (is_of_zone y) (has_id id) s.records
    (not_of (has_id id) (λ (r : Record). r.original.zone) zone y s.records other
    (live_there s id zone (record_of id s) zoned refl is)))
    (drop_others (is_in_zone y) (is_of id) s.expects
    (not_of (is_of id) (λ (e : Expectation). e.zone) zone y s.expects other (expected_there s id zone zoned is)))
other_of s sizes n y (Expect e replaced moment) zone zoned may is other =
    let own : e.zone ≡ zone = some_equal e.zone zone is in
    let helps : helps_in e.zone (record_of e.master s) ≡ true = helps_of sizes s n e replaced moment may in
    same_state _ _ refl
    (last_lost (is_in_zone y) (without_master e.master s.expects) e (ne_eqb e.zone y (λ k. other (sym own ∙ k)))
    ∙ drop_others (is_in_zone y) (is_of e.master) s.expects
    (not_of (is_of e.master) (λ (d : Expectation). d.zone) zone y s.expects other
    (expected_there s e.master zone zoned (helper_live e.zone (record_of e.master s) helps ∙ is))))
other_of s sizes n y (Claim id master t moment) zone zoned may is other =
    same_state _ _ refl
    (drop_others (is_in_zone y) (match.has_id id) s.expects
    (not_of (match.has_id id) (λ (d : Expectation). d.zone) t.zone y s.expects
    (λ e. other (sym (some_equal t.zone zone is) ∙ e)) (claimed_there s id master t moment zoned may)))
other_of s sizes n y (Unexpect id moment) zone zoned may is other =
    same_state _ _ refl
    (drop_others (is_in_zone y) (match.has_id id) s.expects
    (not_of (match.has_id id) (λ (d : Expectation). d.zone) zone y s.expects other
    (awaited_there s id zone (find (match.has_id id) s.expects) zoned refl is)))

pub other_zone : (sizes : Sizes) (s : State) (n y : ℕ) (e : Event) → IsZoned s → may_happen sizes s n e ≡ true
    → event_zone s e ≢ Some y → zone_part (next s e) y ≡ zone_part s y
other_zone sizes s n y e zoned may other =
    let zone = has_zone sizes s n e may in
    other_of s sizes n y e zone.0 zoned may zone.1 (λ k. other (zone.1 ∙ ap Some k))

-- an event makes of the part of its zone what it makes of the whole
pub own_zone : (s : State) (e : Event) (zone : ℕ) → event_zone s e ≡ Some zone
    → zone_part (next s e) zone ≡ next (zone_part s zone) e
own_zone s (Confirm r) zone is =
    same_state _ _ (last_kept (is_of_zone zone) s.records r (eq-eqb r.original.zone zone (some_equal r.original.zone zone is))) refl
own_zone s (Touch id d segment moment part) zone is =
    same_state _ _
    (map_part (is_of_zone zone) (with_part id part) s.records
    (λ r. ap (λ (t : Tuple). t.zone == zone) (with_part-same id part r).original)) refl
own_zone s (Destroy id why) zone is =
    same_state _ _ (filter_swap (is_of_zone zone) (λ r. not (has_id id r)) s.records)
    (filter_swap (is_in_zone zone) (λ e. not (is_of id e)) s.expects)
own_zone s (Expect e replaced moment) zone is =
    same_state _ _ refl
    (last_kept (is_in_zone zone) (without_master e.master s.expects) e (eq-eqb e.zone zone (some_equal e.zone zone is))
    ∙ ap (λ es. es ++ e ∷ []) (filter_swap (is_in_zone zone) (λ d. not (is_of e.master d)) s.expects))
own_zone s (Claim id master t moment) zone is =
    same_state _ _ refl (filter_swap (is_in_zone zone) (λ d. not (match.has_id id d)) s.expects)
own_zone s (Unexpect id moment) zone is =
    same_state _ _ refl (filter_swap (is_in_zone zone) (λ d. not (match.has_id id d)) s.expects)

-- what is found by its number in a part is found so in the whole
record_part : (s : State) (id zone : ℕ) → IsZoned s → zone_of_live (record_of id s) ≡ Some zone
    → record_of id (zone_part s zone) ≡ record_of id s
record_part s id zone zoned is =
    find_part (is_of_zone zone) (has_id id) s.records
    (is_so (has_id id) (λ (r : Record). r.original.zone) zone s.records (live_there s id zone (record_of id s) zoned refl is))

awaited_part : (s : State) (id zone : ℕ) → IsZoned s → zone_of_expected (find (match.has_id id) s.expects) ≡ Some zone
    → find (match.has_id id) (zone_part s zone).expects ≡ find (match.has_id id) s.expects
awaited_part s id zone zoned is =
    find_part (is_in_zone zone) (match.has_id id) s.expects
    (is_so (match.has_id id) (λ (e : Expectation). e.zone) zone s.expects
    (awaited_there s id zone (find (match.has_id id) s.expects) zoned refl is))

live_up : (s : State) (id zone : ℕ) (o : Option Record) → IsZoned s → record_of id (zone_part s zone) ≡ o
    → zone_of_live o ≡ Some zone → zone_of_live (record_of id s) ≡ Some zone
live_up s id zone None zoned found is = cc
live_up s id zone (Some r) zoned found is =
    ap zone_of_live (found_in_whole (λ (q : Record). q.id) id (is_of_zone zone) s.records r zoned.records found) ∙ is

awaited_up : (s : State) (id zone : ℕ) (o : Option Expectation) → IsZoned s → find (match.has_id id) (zone_part s zone).expects ≡ o
    → zone_of_expected o ≡ Some zone → zone_of_expected (find (match.has_id id) s.expects) ≡ Some zone
awaited_up s id zone None zoned found is = cc
awaited_up s id zone (Some e) zoned found is =
    ap zone_of_expected (found_in_whole (λ (d : Expectation). d.id) id (is_in_zone zone) s.expects e zoned.expects found) ∙ is

-- an event of the zone is one in the part of the zone, and the other way round
pub zone_down : (s : State) (zone : ℕ) (e : Event) → IsZoned s → event_zone s e ≡ Some zone
    → event_zone (zone_part s zone) e ≡ Some zone
zone_down s zone (Confirm r) zoned is = is
zone_down s zone (Touch id d segment moment part) zoned is = ap zone_of_live (record_part s id zone zoned is) ∙ is
zone_down s zone (Destroy id why) zoned is = ap zone_of_live (record_part s id zone zoned is) ∙ is
zone_down s zone (Expect e replaced moment) zoned is = is
zone_down s zone (Claim id master t moment) zoned is = is
zone_down s zone (Unexpect id moment) zoned is = ap zone_of_expected (awaited_part s id zone zoned is) ∙ is

pub zone_up : (s : State) (zone : ℕ) (e : Event) → IsZoned s → event_zone (zone_part s zone) e ≡ Some zone
    → event_zone s e ≡ Some zone
zone_up s zone (Confirm r) zoned is = is
zone_up s zone (Touch id d segment moment part) zoned is = live_up s id zone (record_of id (zone_part s zone)) zoned refl is
zone_up s zone (Destroy id why) zoned is = live_up s id zone (record_of id (zone_part s zone)) zoned refl is
zone_up s zone (Expect e replaced moment) zoned is = is
zone_up s zone (Claim id master t moment) zoned is = is
zone_up s zone (Unexpect id moment) zoned is = awaited_up s id zone (find (match.has_id id) (zone_part s zone).expects) zoned refl is

flow_zone : (r : Record) → is_of_one_flow r ≡ true → is_of_one_zone r ≡ true
flow_zone r h =
    let reply = and_parts _ (same_proto r.reply.proto (proto_of r.part.kind)) h in
    let original = and_parts _ (same_proto r.original.proto (proto_of r.part.kind)) reply.0 in
    (and_parts _ (is_of_one_zone r) original.0).1

-- a record that has a tuple is of its zone
tuple_zone : (t : Tuple) (r : Record) → is_of_one_flow r ≡ true → has_tuple t r ≡ true → (r.original.zone == t.zone) ≡ true
tuple_zone t r flow has =
    ⊎_elim
    (λ h. eq-eqb r.original.zone t.zone (ap (λ (u : Tuple). u.zone) (same_tuple-true r.original t h)))
    (λ h. eq-eqb r.original.zone t.zone
    (sym (eqb-true r.reply.zone r.original.zone (flow_zone r flow)) ∙ ap (λ (u : Tuple). u.zone) (same_tuple-true r.reply t h)))
    (or_cases (has_original t r) (has_reply t r) has)

-- what is live under a tuple is found in the part of its zone
tuples_there : (t : Tuple) (rs : List Record) → AllByRecursion (λ r. is_of_one_flow r ≡ true) rs
    → AllByRecursion (Keeps (is_of_zone t.zone) (has_tuple t)) rs
tuples_there t rs flows =
    each_also (λ (r : Record). is_of_one_flow r ≡ true) (Keeps (is_of_zone t.zone) (has_tuple t)) rs
    (λ r flow has. tuple_zone t r flow has) flows

pub free_part : (t : Tuple) (s : State) → AllByRecursion (λ r. is_of_one_flow r ≡ true) s.records
    → is_free t (zone_part s t.zone) ≡ is_free t s
free_part t s flows = ap not (any_part (is_of_zone t.zone) (has_tuple t) s.records (tuples_there t s.records flows))

pub live_part : (t : Tuple) (s : State) → AllByRecursion (λ r. is_of_one_flow r ≡ true) s.records
    → live_under t (zone_part s t.zone) ≡ live_under t s
live_part t s flows =
    let originals =
    each_also (λ (r : Record). is_of_one_flow r ≡ true) (Keeps (is_of_zone t.zone) (has_original t)) s.records
    (λ r flow has. tuple_zone t r flow (or_left (has_original t r) (has_reply t r) has)) flows in
    let replies =
    each_also (λ (r : Record). is_of_one_flow r ≡ true) (Keeps (is_of_zone t.zone) (has_reply t)) s.records
    (λ r flow has. tuple_zone t r flow (or_right (has_original t r) (has_reply t r) has)) flows in
    ap (λ o. original_first o (find (has_reply t) (zone_part s t.zone).records))
    (find_part (is_of_zone t.zone) (has_original t) s.records originals)
    ∙ ap (original_first (find (has_original t) s.records)) (find_part (is_of_zone t.zone) (has_reply t) s.records replies)

pub matching_part : (t : Tuple) (moment : ℕ) (es : List Expectation) → matching t moment (filter (is_in_zone t.zone) es) ≡ matching t moment es
matching_part t moment es =
    find_part (is_in_zone t.zone) (is_match t moment) es
    (each_one (Keeps (is_in_zone t.zone) (is_match t moment)) es
    (λ e h. (and_parts (is_in_zone t.zone e) _ (and_parts _ (match.is_awaited moment e) h).0).0))

-- an event may happen in the part of its zone where it may in the whole
pub bool_iff : (a b : Bool) → (a ≡ true → b ≡ true) → (b ≡ true → a ≡ true) → a ≡ b
bool_iff true b f g = sym (f refl)
bool_iff false true f g = g refl
bool_iff false false f g = refl

same_tests : (c p q o u f g : Bool) → p ≡ q → o ≡ u → (c ≡ true → f ≡ g) → (c && p && o && f) ≡ (c && q && u && g)
same_tests true p q o u f g h k l = ap (λ b. b && o && f) h ∙ ap (λ b. q && b && f) k ∙ ap (λ b. q && u && b) (l refl)
same_tests false p q o u f g h k l = refl

and_false : (c : Bool) → (c && false) ≡ false
and_false true = refl
and_false false = refl

same_added : (c h k a b : Bool) → h ≡ k → (k ≡ true → a ≡ b) → (c && h && a) ≡ (c && k && b)
same_added c true true a b same rest = ap (λ x. c && true && x) (rest refl)
same_added c true false a b same rest = cc
same_added c false true a b same rest = cc
same_added c false false a b same rest = ap (λ x. x && a) (and_false c) ∙ sym (ap (λ x. x && b) (and_false c))

helps_part : (s : State) (master zone : ℕ) → IsZoned s
    → helps_in zone (record_of master (zone_part s zone)) ≡ helps_in zone (record_of master s)
helps_part s master zone zoned =
    bool_iff (helps_in zone (record_of master (zone_part s zone))) (helps_in zone (record_of master s))
    (λ h.
    let up = live_up s master zone (record_of master (zone_part s zone)) zoned refl
    (helper_live zone (record_of master (zone_part s zone)) h) in
    ap (helps_in zone) (sym (record_part s master zone zoned up)) ∙ h)
    (λ h.
    ap (helps_in zone) (record_part s master zone zoned (helper_live zone (record_of master s) h)) ∙ h)

-- with an older one, or with room, the answer is told by what is of the zone
older_part : (o : Option Expectation) (a b : Bool) → (o ≡ None → a ≡ b) → outcome_of_older o a ≡ outcome_of_older o b
older_part (Some e) a b h = refl
older_part None a b h = ap (outcome_of_older None) (h refl)

has_room : (o f : Bool) → o ≡ false → (o || f) ≡ true → f ≡ true
has_room true f none h = absurd (false≢true (sym none))
has_room false f none h = h

few_part : (es : List Expectation) (zone room : ℕ) → nat_lt (length es) room ≡ true → nat_lt (length (filter (is_in_zone zone) es)) room ≡ true
few_part es zone room h = grind (arith, nat_tests, length_part (is_in_zone zone) es)

add_part : (sizes : Sizes) (s : State) (e : Expectation) (replaced : Option ℕ) (moment : ℕ) → IsZoned s
    → helps_in e.zone (record_of e.master s) ≡ true → has_room_for sizes s (Expect e replaced moment) ≡ true
    → add_outcome sizes.expectations (zone_part s e.zone).expects e moment ≡ add_outcome sizes.expectations s.expects e moment
add_part sizes s e replaced moment zoned helps room =
    let rivals = find_part (is_in_zone e.zone) (is_rival e moment) s.expects
    (each_one (Keeps (is_in_zone e.zone) (is_rival e moment)) s.expects
    (λ d h. (and_parts _ (is_in_zone e.zone d) (and_parts _ (match.same_want e.want d.want) (and_parts _ (match.is_awaited moment d) h).0).0).1)) in
    let older = find_part (is_in_zone e.zone) (is_of e.master) s.expects
    (is_so (is_of e.master) (λ (d : Expectation). d.zone) e.zone s.expects
    (expected_there s e.master e.zone zoned (helper_live e.zone (record_of e.master s) helps))) in
    let few = older_part (find (is_of e.master) s.expects)
    (nat_lt (length (filter (is_in_zone e.zone) s.expects)) sizes.expectations) (nat_lt (length s.expects) sizes.expectations)
    (λ none.
    let here : nat_lt (length s.expects) sizes.expectations ≡ true =
    has_room (list_any (is_of e.master) s.expects) _ (none_found (is_of e.master) s.expects none) room in
    few_part s.expects e.zone sizes.expectations here ∙ sym here) in
    ap (λ o. outcome_of_rival o (outcome_of_older (find (is_of e.master) (filter (is_in_zone e.zone) s.expects))
    (nat_lt (length (filter (is_in_zone e.zone) s.expects)) sizes.expectations))) rivals
    ∙ ap (λ o. outcome_of_rival (find (is_rival e moment) s.expects) (outcome_of_older o
    (nat_lt (length (filter (is_in_zone e.zone) s.expects)) sizes.expectations))) older
    ∙ ap (outcome_of_rival (find (is_rival e moment) s.expects)) few

may_confirm_part : (sizes : Sizes) (s : State) (n : ℕ) (r : Record) → IsZoned s → is_unused r.place s ≡ true
    → may_confirm sizes (zone_part s r.original.zone) n r ≡ may_confirm sizes s n r
may_confirm_part sizes s n r zoned unused =
    let open' = ap (λ b. nat_lt r.place sizes.entries && b)
    (ap not (none_of_part (is_of_zone r.original.zone) (has_place r.place) s.records
    (each_fails (has_place r.place) s.records (not-true _ unused))) ∙ sym unused) in
    same_tests (r.id == n && is_of_one_flow r) _ _ _ _ _ _ open' (free_part r.original s zoned.flows)
    (λ c.
    let zone : r.reply.zone ≡ r.original.zone =
    eqb-true r.reply.zone r.original.zone (flow_zone r (and_parts (r.id == n) (is_of_one_flow r) c).1) in
    subst (λ z. is_free r.reply (zone_part s z) ≡ is_free r.reply s) zone (free_part r.reply s zoned.flows))

may_expect_part : (sizes : Sizes) (s : State) (n : ℕ) (e : Expectation) (replaced : Option ℕ) (moment : ℕ) → IsZoned s
    → has_room_for sizes s (Expect e replaced moment) ≡ true
    → may_expect sizes (zone_part s e.zone) n e replaced moment ≡ may_expect sizes s n e replaced moment
may_expect_part sizes s n e replaced moment zoned room =
    same_added (e.id == n && e.deadline == moment + expected_for) _ _ _ _ (helps_part s e.master e.zone zoned)
    (λ helps. ap (λ o. is_added o replaced) (add_part sizes s e replaced moment zoned helps room))

pub may_part : (sizes : Sizes) (s : State) (n zone : ℕ) (e : Event) → IsZoned s → event_zone s e ≡ Some zone
    → has_room_for sizes s e ≡ true → may_happen sizes (zone_part s zone) n e ≡ may_happen sizes s n e
may_part sizes s n zone (Confirm r) zoned is room =
    subst (λ z. may_confirm sizes (zone_part s z) n r ≡ may_confirm sizes s n r) (some_equal r.original.zone zone is)
    (may_confirm_part sizes s n r zoned room)
may_part sizes s n zone (Touch id d segment moment part) zoned is room =
    ap (λ o. may_touch o d segment moment part) (record_part s id zone zoned is)
may_part sizes s n zone (Destroy id why) zoned is room = ap (λ o. may_destroy o why) (record_part s id zone zoned is)
may_part sizes s n zone (Expect e replaced moment) zoned is room =
    subst (λ z. may_expect sizes (zone_part s z) n e replaced moment ≡ may_expect sizes s n e replaced moment)
    (some_equal e.zone zone is) (may_expect_part sizes s n e replaced moment zoned room)
may_part sizes s n zone (Claim id master t moment) zoned is room =
    subst (λ z. may_claim (matching t moment (zone_part s z).expects) id master ≡ may_claim (matching t moment s.expects) id master)
    (some_equal t.zone zone is) (ap (λ o. may_claim o id master) (matching_part t moment s.expects))
may_part sizes s n zone (Unexpect id moment) zoned is room = ap (λ o. may_unexpect o moment) (awaited_part s id zone zoned is)

-- equal parts, and an event of their zone
pub alike : (sizes : Sizes) (s t : State) (n zone : ℕ) (e : Event) → IsZoned s → IsZoned t → zone_part s zone ≡ zone_part t zone
    → event_zone s e ≡ Some zone → has_room_for sizes s e ≡ true → has_room_for sizes t e ≡ true
    → (may_happen sizes s n e ≡ may_happen sizes t n e) × (zone_part (next s e) zone ≡ zone_part (next t e) zone)
alike sizes s t n zone e zoned other same is room there =
    let its = zone_up t zone e other (subst (λ (p : State). event_zone p e ≡ Some zone) same (zone_down s zone e zoned is)) in (
      sym (may_part sizes s n zone e zoned is room) ∙ ap (λ p. may_happen sizes p n e) same ∙ may_part sizes t n zone e other its there,
      own_zone s e zone is ∙ ap (λ p. next p e) same ∙ sym (own_zone t e zone its),
    )
