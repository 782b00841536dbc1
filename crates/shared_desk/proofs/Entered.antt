-- What a clerk knows as a desk, and holds, once its flow is an entry.
use Rattle.std.specs.List.{All, AllByRecursion, AllPairs, slice_get}
use Rattle.std.specs.Prelude.{◌==◌, ◌||◌, ◌&&◌, ◌^◌, IsSome, if◌then◌else◌, is_none}
use Rattle.std.proofs.Common.{◌≡◌, ℕ, ◌+◌, ◌<◌, ◌≤◌, suc, Bool, true, false, Option, Some, None, List, [], ◌∷◌, ◌++◌, length, map, refl, sym, ap, subst, ◌∙◌, arith, ⊎_elim, length-append, append_assoc}
use Rattle.std.proofs.lemmas.Bool.{and_from, and_parts, cases_Bool, cond_both, eq-eqb, eqb-false, eqb-true, false≢true, ne_eqb, or_cases, or_left, or_right}
use Rattle.std.proofs.lemmas.List.Elements.{All-append, All-cons, All-map, All-nil}
use Rattle.std.proofs.lemmas.List.Kept.{AllPairs-cons}
use Rattle.std.proofs.lemmas.Option.{slice_get_within}
use Rattle.history_book.specs.Entry.{record_for}
use Rattle.history_book.specs.Held.{for_entry, is_owed}
use Rattle.history_book.specs.Held as desk
use Rattle.history_book.specs.History.{is_legal}
use Rattle.history_book.specs.Point.{StartsWith}
use Rattle.history_book.specs.Sight.{IsForEntryOf, IsForOne, IsHoldOf, IsKnown, Sight, notes_from}
use Rattle.history_book.specs.declared.desk.Hold.{Hold}
use Rattle.history_book.specs.declared.event.Event.{Event}
use Rattle.history_book.specs.declared.event.Event.TheVariants.{Confirm}
use Rattle.history_book.specs.declared.event.Note.{Note}
use Rattle.history_book.specs.declared.record.Flow.{Flow}
use Rattle.track_rule.specs.CommitSteps.{held_for}
use Rattle.track_rule.specs.References.{held_times, is_at, is_for_new, is_taken}
use Rattle.track_rule.specs.Sums.{bit}
use Rattle.track_rule.specs.declared.view.Keep.{Keep}
use Rattle.track_rule.specs.declared.view.Purpose.{Purpose}
use Rattle.track_rule.specs.declared.view.Purpose.TheVariants.{Taken, Testing, Shown, For}
use Rattle.shared_desk.specs.Rest.{IsSettled}
use Rattle.shared_desk.specs.Sights.{hold_of}
use Rattle.shared_desk.proofs.Known.{events_later}
use Rattle.shared_desk.proofs.Lists.{all_first, all_rest, get_append, pairs_first, pairs_rest}

-- LISTS

pub get_last : {X : Type 0} (xs : List X) (x : X) → slice_get (xs ++ x ∷ []) (length xs) ≡ Some x
get_last [] x = refl
get_last (y ∷ xs) x = get_last xs x

pub pairs_push : {X : Type 0} (R : X → X → Type 0) (xs : List X) (y : X) → AllPairs R xs → All (λ x. R x y) xs → AllPairs R (xs ++ y ∷ [])
pairs_push R [] y h all = λ i j d before short. absurd (omega (arith, before, short))
pairs_push R (x ∷ xs) y h all =
    AllPairs-cons R x (xs ++ y ∷ [])
    (All-append (R x) xs (y ∷ []) (pairs_first R x xs h) (All-cons (R x) y [] (all_first (λ x. R x y) x xs all) (All-nil (R x))))
    (pairs_push R xs y (pairs_rest R x xs h) (all_rest (λ x. R x y) x xs all))

pairs_map : {X : Type 0} (R S : X → X → Type 0) (f : X → X) → ((x y : X) → R x y → S (f x) (f y)) → (xs : List X) → AllPairs R xs → AllPairs S (map f xs)
pairs_map R S f fits [] h = λ i j d before short. absurd (omega (arith, before, short))
pairs_map R S f fits (x ∷ xs) h =
    AllPairs-cons S (f x) (map f xs) (All-map (S (f x)) f xs (λ i d short. fits x _ (pairs_first R x xs h i d short))) (pairs_map R S f fits xs (pairs_rest R x xs h))

length_map : {X : Type 0} (f : X → X) (xs : List X) → length (map f xs) ≡ length xs
length_map f [] = refl
length_map f (x ∷ xs) = ap suc (length_map f xs)

pub notes_push : (k : ℕ) (log : List Event) (e : Event) → notes_from k (log ++ e ∷ []) ≡ notes_from k log ++ record { number = k + length log; event = e } ∷ []
notes_push k [] e = ap (λ (n : ℕ). record { number = n; event = e } ∷ []) (omega arith)
notes_push k (x ∷ xs) e =
    ap (λ ns. record { number = k; event = x } ∷ ns)
    (notes_push (k + 1) xs e ∙ ap (λ (n : ℕ). notes_from (k + 1) xs ++ record { number = n; event = e } ∷ []) (omega arith))

-- A REFERENCE THAT IS FOR AN ENTRY NOW

hold_place : (place id : ℕ) (h : Hold) → (for_entry place id h).place ≡ h.place
hold_place place id h = cond_both (h.place == place) (record h { id = Some id }) h (λ (t : Hold). t.place ≡ h.place) (λ e. refl) (λ e. refl)

hold_here : (place id : ℕ) (h : Hold) → (h.place == place) ≡ true → (for_entry place id h).id ≡ Some id
hold_here place id h e = ap (λ (b : Bool). (if b then record h { id = Some id } else h).id) e

hold_else : (place id : ℕ) (h : Hold) → (h.place == place) ≡ false → (for_entry place id h).id ≡ h.id
hold_else place id h e = ap (λ (b : Bool). (if b then record h { id = Some id } else h).id) e

one_entry : (place id : ℕ) (g h : Hold) → IsForOne g h → IsForOne (for_entry place id g) (for_entry place id h)
one_entry place id g h one =
    ⊎_elim
    (λ (e : (g.place == place) ≡ true).
    record {
      same = λ k. hold_here place id g e ∙ sym (hold_here place id h (too e k));
      entry = λ k. subst (λ (o : Option ℕ). IsSome o) (sym (hold_here place id g e)) refl;
    })
    (λ (e : (g.place == place) ≡ false).
    record {
      same = λ k. hold_else place id g e ∙ one.same (both k) ∙ sym (hold_else place id h (not_too e k));
      entry = λ k. subst (λ (o : Option ℕ). IsSome o) (sym (hold_else place id g e)) (one.entry (both k));
    })
    (cases_Bool (g.place == place))
  where
    both : (for_entry place id g).place ≡ (for_entry place id h).place → g.place ≡ h.place
    both k = sym (hold_place place id g) ∙ k ∙ hold_place place id h

    too : (g.place == place) ≡ true → (for_entry place id g).place ≡ (for_entry place id h).place → (h.place == place) ≡ true
    too e k = eq-eqb h.place place (sym (sym (hold_place place id g) ∙ k ∙ hold_place place id h) ∙ eqb-true g.place place e)

    not_too : (g.place == place) ≡ false → (for_entry place id g).place ≡ (for_entry place id h).place → (h.place == place) ≡ false
    not_too e k = ne_eqb h.place place (λ i. eqb-false g.place place e (sym (hold_place place id g) ∙ k ∙ hold_place place id h ∙ i))

-- the references as a desk sees them: the place was held once, for no entry
none_at : (place id : ℕ) (ks : List Keep) → held_times place ks ≡ 0 → map hold_of ks ≡ desk.held_for place id (map hold_of ks)
none_at place id [] e = refl
none_at place id (k ∷ ks) e =
    ⊎_elim
    (λ (t : (k.place == place) ≡ true). absurd (omega (arith, e, ap bit t)))
    (λ (t : (k.place == place) ≡ false).
    (λ i. sym (ap (λ (b : Bool). if b then record (hold_of k) { id = Some id } else hold_of k) t) i ∷ none_at place id ks (omega (arith, e)) i))
    (cases_Bool (k.place == place))

pub none_taken : (place : ℕ) (ks : List Keep) → held_times place ks ≡ 0 → is_taken place ks ≡ false
none_taken place [] e = refl
none_taken place (k ∷ ks) e =
    ⊎_elim
    (λ (t : (k.place == place) ≡ true). absurd (omega (arith, e, ap bit t)))
    (λ (t : (k.place == place) ≡ false). (λ i. (t i && is_for_new k.purpose) || none_taken place ks (omega (arith, e)) i))
    (cases_Bool (k.place == place))

pub holds_for : (place id : ℕ) (ks : List Keep) → held_times place ks ≡ 1 → is_taken place ks ≡ true
    → map hold_of (held_for place id ks) ≡ desk.held_for place id (map hold_of ks)
holds_for place id [] once taken = absurd (false≢true taken)
holds_for place id (k ∷ ks) once taken =
    ⊎_elim
    (λ (t : (k.place == place) ≡ true).
    let rest : held_times place ks ≡ 0 = omega (arith, once, ap bit t) in
    let new : is_for_new k.purpose ≡ true = this_one t rest in
    ap (λ (b : Bool). map hold_of (if b then record k { purpose = For id } ∷ ks else k ∷ held_for place id ks)) (and_from (k.place == place) (is_for_new k.purpose) t new)
    ∙ (λ i. sym (ap (λ (b : Bool). if b then record (hold_of k) { id = Some id } else hold_of k) t) i ∷ none_at place id ks rest i))
    (λ (t : (k.place == place) ≡ false).
    ap (λ (b : Bool). map hold_of (if b && is_for_new k.purpose then record k { purpose = For id } ∷ ks else k ∷ held_for place id ks)) t
    ∙ (λ i. sym (ap (λ (b : Bool). if b then record (hold_of k) { id = Some id } else hold_of k) t) i
    ∷ holds_for place id ks (omega (arith, once, ap bit t)) (sym (ap (λ (b : Bool). (b && is_for_new k.purpose) || is_taken place ks) t) ∙ taken) i))
    (cases_Bool (k.place == place))
  where
    this_one : (k.place == place) ≡ true → held_times place ks ≡ 0 → is_for_new k.purpose ≡ true
    this_one t rest =
        ⊎_elim (λ (e : (k.place == place && is_for_new k.purpose) ≡ true). (and_parts (k.place == place) (is_for_new k.purpose) e).1)
        (λ (e : is_taken place ks ≡ true). absurd (false≢true (sym (none_taken place ks rest) ∙ e)))
        (or_cases (k.place == place && is_for_new k.purpose) (is_taken place ks) taken)

-- a place that a desk holds for no entry was taken
pub taken_back : (place : ℕ) (ks : List Keep) → AllByRecursion (λ (k : Keep). IsSettled k.purpose) ks → desk.is_taken place (map hold_of ks) ≡ true → is_taken place ks ≡ true
taken_back place [] h e = absurd (false≢true e)
taken_back place (k ∷ ks) h e =
    ⊎_elim
    (λ (t : (k.place == place && is_none (hold_of k).id) ≡ true).
    let parts = and_parts (k.place == place) (is_none (hold_of k).id) t in
    or_left (is_at place k && is_for_new k.purpose) (is_taken place ks) (and_from (k.place == place) (is_for_new k.purpose) parts.0 (for_new k.purpose h.0 parts.1)))
    (λ (t : desk.is_taken place (map hold_of ks) ≡ true). or_right (is_at place k && is_for_new k.purpose) (is_taken place ks) (taken_back place ks h.1 t))
    (or_cases (k.place == place && is_none (hold_of k).id) (desk.is_taken place (map hold_of ks)) e)
  where
    for_new : (p : Purpose) → IsSettled p → is_none (hold_of (record { place = place; purpose = p })).id ≡ true → is_for_new p ≡ true
    for_new Taken s e = refl
    for_new Testing s e = absurd s
    for_new (Shown id) s e = absurd s
    for_new (For id) s e = absurd (false≢true e)

-- WHAT IS KNOWN

-- the desk has made one event more, by which a place that it held is held for its entry
pub known_confirmed : (s : Sight) (flow : Flow) (place id spare : ℕ) (log : List Event) → IsKnown s → StartsWith log s.front → id ≡ length log
    → is_legal s.sizes (log ++ Confirm (record_for flow id place) ∷ []) ≡ true → length log + 1 < 2 ^ 40
    → length s.own + 1 + spare ≤ 2 ^ 30 → (s.sizes.passes ≡ 1 → s.own ≡ notes_from 0 log)
    → IsKnown (record s {
      front = log ++ Confirm (record_for flow id place) ∷ [];
      own = s.own ++ record { number = id; event = Confirm (record_for flow id place) } ∷ [];
      held = desk.held_for place id s.held;
      spare = spare;
    })
known_confirmed s flow place id spare log k starts number legal few spared alone =
    let e : Event = Confirm (record_for flow id place) in
    let all : List Event = log ++ Confirm (record_for flow id place) ∷ [] in
    let starts_all : StartsWith (log ++ Confirm (record_for flow id place) ∷ []) s.front =
    (starts.0 ++ Confirm (record_for flow id place) ∷ [], ap (λ es. es ++ Confirm (record_for flow id place) ∷ []) starts.1 ∙ append_assoc s.front starts.0 (Confirm (record_for flow id place) ∷ [])) in
    let here : slice_get (log ++ Confirm (record_for flow id place) ∷ []) id ≡ Some (Confirm (record_for flow id place)) =
    ap (λ (n : ℕ). slice_get (log ++ Confirm (record_for flow id place) ∷ []) n) number ∙ get_last log (Confirm (record_for flow id place)) in
    record {
      legal = legal;
      few = omega (arith, few, length-append log (Confirm (record_for flow id place) ∷ []));
      own = All-append (λ n. slice_get (log ++ Confirm (record_for flow id place) ∷ []) n.number ≡ Some n.event) s.own _ (events_later (log ++ Confirm (record_for flow id place) ∷ []) s.front s.own starts_all k.own)
          (All-cons (λ (n : Note). slice_get (log ++ Confirm (record_for flow id place) ∷ []) n.number ≡ Some n.event) _ [] here (All-nil (λ (n : Note). slice_get (log ++ Confirm (record_for flow id place) ∷ []) n.number ≡ Some n.event)));
      ordered = pairs_push (λ (m n : Note). m.number < n.number) s.own (record { number = id; event = Confirm (record_for flow id place) }) k.ordered
          (λ i d short. omega (arith, number, slice_get_within s.front _ _ (k.own i d short), ap length starts.1, length-append s.front starts.0));
      held = All-map (IsHoldOf (record s {
        front = log ++ Confirm (record_for flow id place) ∷ [];
        own = s.own ++ record { number = id; event = Confirm (record_for flow id place) } ∷ [];
        held = desk.held_for place id s.held;
        spare = spare;
      })) (for_entry place id) s.held (λ i d short. hold_of_it starts_all here _ (k.held i d short));
      agreed = pairs_map IsForOne IsForOne (for_entry place id) (one_entry place id) s.held k.agreed;
      owed = k.owed;
      unowed = All-map (λ (h : Hold). is_owed h.place s.owed ≡ false) (for_entry place id) s.held
          (λ i d short. ap (λ (p : ℕ). is_owed p s.owed) (hold_place place id _) ∙ k.unowed i d short);
      once = k.once;
      places = omega (arith, k.places, length_map (for_entry place id) s.held);
      spared = omega (arith, spared, length-append s.own (record { number = id; event = Confirm (record_for flow id place) } ∷ []));
      shared = k.shared;
      passes = k.passes;
      gathered = events_later (log ++ Confirm (record_for flow id place) ∷ []) s.front s.gathered starts_all k.gathered;
      gathered_few = k.gathered_few;
      alone = λ one. ap (λ ns. ns ++ record { number = id; event = Confirm (record_for flow id place) } ∷ []) (alone one)
          ∙ ap (λ (n : ℕ). notes_from 0 log ++ record { number = n; event = Confirm (record_for flow id place) } ∷ []) (omega (arith, number))
          ∙ sym (notes_push 0 log (Confirm (record_for flow id place)));
    }
  where
    later : StartsWith (log ++ Confirm (record_for flow id place) ∷ []) s.front → (p : ℕ) (o : Option ℕ) → IsForEntryOf s.front p o → IsForEntryOf (log ++ Confirm (record_for flow id place) ∷ []) p o
    later from p None h = tt
    later from p (Some n) h = record {
      subject = h.subject;
      event = subst (λ es. slice_get es n ≡ Some (Confirm h.subject)) (sym from.1) (get_append s.front from.0 n (Confirm h.subject) h.event);
      placed = h.placed;
    }

    hold_of_it : StartsWith (log ++ Confirm (record_for flow id place) ∷ []) s.front
        → slice_get (log ++ Confirm (record_for flow id place) ∷ []) id ≡ Some (Confirm (record_for flow id place))
        → (h : Hold) → (h.place < s.sizes.entries) × IsForEntryOf s.front h.place h.id
        → ((for_entry place id h).place < s.sizes.entries) × IsForEntryOf (log ++ Confirm (record_for flow id place) ∷ []) (for_entry place id h).place (for_entry place id h).id
    hold_of_it from here h (below, entry) = (
      subst (λ (p : ℕ). p < s.sizes.entries) (sym (hold_place place id h)) below,
      subst (λ (p : ℕ). IsForEntryOf (log ++ Confirm (record_for flow id place) ∷ []) p (for_entry place id h).id) (sym (hold_place place id h))
          (⊎_elim
          (λ (e : (h.place == place) ≡ true).
          subst (IsForEntryOf (log ++ Confirm (record_for flow id place) ∷ []) h.place) (sym (hold_here place id h e))
          (record { subject = record_for flow id place; event = here; placed = sym (eqb-true h.place place e) }))
          (λ (e : (h.place == place) ≡ false).
          subst (IsForEntryOf (log ++ Confirm (record_for flow id place) ∷ []) h.place) (sym (hold_else place id h e)) (later from h.place h.id entry))
          (cases_Bool (h.place == place))),
    )
