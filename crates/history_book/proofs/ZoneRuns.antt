-- The events of a zone, one after another, as if there were no others.
use Rattle.std.proofs.Common.{◌≡◌, ℕ, zero, suc, Bool, true, false, cond, List, [], ◌∷◌, ◌++◌, length, take, refl, sym, ap, subst, ◌∙◌, append-nil, Option, Some, None}
use Rattle.std.specs.List.{find, list_any, slice_get}
use Rattle.std.specs.Prelude.{nat_lt, ◌≢◌, ◌||◌}
use Rattle.std.proofs.lemmas.Bool.{and_from, and_parts, eq-eqb, eqb-true, false≢true, or_right, true≢false}
use Rattle.expect_table.specs.Expectations.{add_outcome, outcome_of_older, outcome_of_rival}
use Rattle.expect_table.specs.Match.{is_of, is_rival}
use Rattle.expect_table.specs.declared.expectation.Expectation.{Expectation}
use Rattle.history_book.specs.declared.event.Event.{Event}
use Rattle.history_book.specs.declared.event.Event.TheVariants.{Confirm, Touch, Destroy, Expect, Claim, Unexpect}
use Rattle.history_book.specs.declared.event.Note.{Note}
use Rattle.history_book.specs.declared.sizes.Sizes.{Sizes}
use Rattle.history_book.specs.History.{after, is_legal, run}
use Rattle.history_book.specs.Laws.{EventsMayHappen}
use Rattle.history_book.specs.Legality.{is_added, is_open_place, may_happen}
use Rattle.history_book.specs.State.{State, empty_state, is_free, is_unused, next}
use Rattle.history_book.specs.Zones.{event_zone, has_room_for, is_zone, left_by, may_follow, note_of_zone, zone_events, zone_part}
use Rattle.history_book.proofs.ZoneParts.{IsZoned, may_part, other_zone, own_zone}

-- the state at the next point
take_some : (s : State) (p : ℕ) (log : List Event) (e : Event) → slice_get log p ≡ Some e
    → run s (take (suc p) log) ≡ next (run s (take p log)) e
take_some s p [] e at = cc
take_some s zero (x ∷ xs) e at = let same : x ≡ e = cc in ap (next s) same
take_some s (suc p) (x ∷ xs) e at = take_some (next s x) p xs e at

take_none : (s : State) (p : ℕ) (log : List Event) → slice_get log p ≡ None → run s (take (suc p) log) ≡ run s (take p log)
take_none s zero [] at = refl
take_none s (suc p) [] at = refl
take_none s zero (x ∷ xs) at = cc
take_none s (suc p) (x ∷ xs) at = take_none (next s x) p xs at

pub after_event : (log : List Event) (p : ℕ) (e : Event) → slice_get log p ≡ Some e → after log (suc p) ≡ next (after log p) e
unfolding after
after_event log p e at = take_some empty_state p log e at

pub after_none : (log : List Event) (p : ℕ) → slice_get log p ≡ None → after log (suc p) ≡ after log p
unfolding after
after_none log p at = take_none empty_state p log at

pub after_start : (log : List Event) → after log 0 ≡ empty_state
unfolding after
after_start log = refl

pub zone_is : (zone : ℕ) (o : Option ℕ) → is_zone zone o ≡ true → o ≡ Some zone
zone_is zone None h = absurd (false≢true h)
zone_is zone (Some z) h = ap Some (eqb-true z zone h)

pub zone_is_not : (zone : ℕ) (o : Option ℕ) → is_zone zone o ≡ false → o ≢ Some zone
zone_is_not zone o h e = true≢false (sym (ap (is_zone zone) e ∙ eq-eqb zone zone refl) ∙ h)

-- there is room for what may happen
room_of : (o : Option Expectation) (few : Bool) (rival : Option Expectation) (replaced : Option ℕ)
    → is_added (outcome_of_rival rival (outcome_of_older o few)) replaced ≡ true → o ≡ None → few ≡ true
room_of o few (Some r) replaced h none = absurd (false≢true h)
room_of (Some e) few None replaced h none = cc
room_of None true None replaced h none = refl
room_of None false None replaced h none = absurd (false≢true h)

found_first : {X : Type 0} (x r : X) (a : Bool) (o : Option X) (rest : Bool) → cond a (Some x) o ≡ Some r
    → (o ≡ Some r → rest ≡ true) → (a || rest) ≡ true
found_first x r true o rest found later = refl
found_first x r false o rest found later = later found

found_any : {X : Type 0} (p : X → Bool) (xs : List X) (r : X) → find p xs ≡ Some r → list_any p xs ≡ true
found_any p [] r found = cc
found_any p (x ∷ xs) r found = found_first x r (p x) (find p xs) (list_any p xs) found (found_any p xs r)

any_or : {X : Type 0} (p : X → Bool) (xs : List X) (few : Bool) (o : Option X) → find p xs ≡ o → (find p xs ≡ None → few ≡ true)
    → (list_any p xs || few) ≡ true
any_or p xs few (Some r) is h = ap (λ b. b || few) (found_any p xs r is)
any_or p xs few None is h = or_right (list_any p xs) few (h is)

pub may_room : (sizes : Sizes) (s : State) (n : ℕ) (e : Event) → may_happen sizes s n e ≡ true → has_room_for sizes s e ≡ true
may_room sizes s n (Confirm r) may =
    let a = and_parts _ (is_free r.reply s) may in
    let b = and_parts _ (is_free r.original s) a.0 in
    let c = and_parts _ (is_open_place sizes r.place s) b.0 in
    (and_parts (nat_lt r.place sizes.entries) (is_unused r.place s) c.1).1
may_room sizes s n (Touch id d segment moment part) may = refl
may_room sizes s n (Destroy id why) may = refl
may_room sizes s n (Expect e replaced moment) may =
    let added = (and_parts _ (is_added (add_outcome sizes.expectations s.expects e moment) replaced) may).1 in
    any_or (is_of e.master) s.expects (nat_lt (length s.expects) sizes.expectations) (find (is_of e.master) s.expects) refl
    (room_of (find (is_of e.master) s.expects) (nat_lt (length s.expects) sizes.expectations) (find (is_rival e moment) s.expects)
    replaced added)
may_room sizes s n (Claim id master t moment) may = refl
may_room sizes s n (Unexpect id moment) may = refl

left-append : (s : State) (notes more : List Note) → left_by s (notes ++ more) ≡ left_by (left_by s notes) more
left-append s [] more = refl
left-append s (note ∷ notes) more = left-append (next s note.event) notes more

follow-append : (sizes : Sizes) (s : State) (notes more : List Note) → may_follow sizes s notes ≡ true
    → may_follow sizes (left_by s notes) more ≡ true → may_follow sizes s (notes ++ more) ≡ true
follow-append sizes s [] more h k = k
follow-append sizes s (note ∷ notes) more h k =
    let parts = and_parts (may_happen sizes s note.number note.event) (may_follow sizes (next s note.event) notes) h in
    and_from _ _ parts.0 (follow-append sizes (next s note.event) notes more parts.1 k)

-- events may follow each other, and leave the part of the zone of the state
pub record StandsAlone (sizes : Sizes) (zone : ℕ) (notes : List Note) (s : State) : Type 0 where
  pub follow : may_follow sizes empty_state notes ≡ true
  pub leave : left_by empty_state notes ≡ zone_part s zone

alone_own : (sizes : Sizes) (zone n : ℕ) (notes : List Note) (s : State) (e : Event) → IsZoned s → may_happen sizes s n e ≡ true
    → event_zone s e ≡ Some zone → StandsAlone sizes zone notes s
    → StandsAlone sizes zone (notes ++ record { number = n; event = e } ∷ []) (next s e)
alone_own sizes zone n notes s e zoned may is h =
    let own = may_part sizes s n zone e zoned is (may_room sizes s n e may) ∙ may in
    record {
      follow = follow-append sizes empty_state notes _ h.follow
          (and_from _ true (ap (λ t. may_happen sizes t n e) h.leave ∙ own) refl);
      leave = left-append empty_state notes _ ∙ ap (λ t. next t e) h.leave ∙ sym (own_zone s e zone is);
    }

alone_other : (sizes : Sizes) (zone n : ℕ) (notes : List Note) (s : State) (e : Event) → IsZoned s → may_happen sizes s n e ≡ true
    → event_zone s e ≢ Some zone → StandsAlone sizes zone notes s → StandsAlone sizes zone (notes ++ []) (next s e)
alone_other sizes zone n notes s e zoned may is h = record {
  follow = ap (may_follow sizes empty_state) (append-nil notes) ∙ h.follow;
  leave = ap (left_by empty_state) (append-nil notes) ∙ h.leave ∙ sym (other_zone sizes s n zone e zoned may is);
}

alone_event : (sizes : Sizes) (zone n : ℕ) (notes : List Note) (s : State) (e : Event) (b : Bool) → is_zone zone (event_zone s e) ≡ b
    → IsZoned s → may_happen sizes s n e ≡ true → StandsAlone sizes zone notes s
    → StandsAlone sizes zone (notes ++ cond b (record { number = n; event = e } ∷ []) []) (next s e)
alone_event sizes zone n notes s e true is zoned may h =
    alone_own sizes zone n notes s e zoned may (zone_is zone (event_zone s e) is) h
alone_event sizes zone n notes s e false is zoned may h =
    alone_other sizes zone n notes s e zoned may (zone_is_not zone (event_zone s e) is) h

module _ (happen : EventsMayHappen) (zoned : (sizes : Sizes) (log : List Event) (p : ℕ) → is_legal sizes log ≡ true → IsZoned (after log p)) where
  alone_step : (sizes : Sizes) (log : List Event) (p zone : ℕ) (notes : List Note) (o : Option Event) → is_legal sizes log ≡ true
      → slice_get log p ≡ o → StandsAlone sizes zone notes (after log p)
      → StandsAlone sizes zone (notes ++ note_of_zone zone (after log p) p o) (after log (suc p))
  alone_step sizes log p zone notes None legal at h = record {
    follow = ap (may_follow sizes empty_state) (append-nil notes) ∙ h.follow;
    leave = ap (left_by empty_state) (append-nil notes) ∙ h.leave ∙ sym (ap (λ s. zone_part s zone) (after_none log p at));
  }
  alone_step sizes log p zone notes (Some e) legal at h =
      subst (StandsAlone sizes zone (notes ++ note_of_zone zone (after log p) p (Some e))) (sym (after_event log p e at))
      (alone_event sizes zone p notes (after log p) e (is_zone zone (event_zone (after log p) e)) refl (zoned sizes log p legal)
      (happen sizes log p e legal at) h)

  pub stands_alone : (sizes : Sizes) (log : List Event) (p zone : ℕ) → is_legal sizes log ≡ true
      → StandsAlone sizes zone (zone_events zone log p) (after log p)
  stands_alone sizes log zero zone legal =
      subst (StandsAlone sizes zone []) (sym (after_start log)) (record { follow = refl; leave = refl })
  stands_alone sizes log (suc p) zone legal =
      alone_step sizes log p zone (zone_events zone log p) (slice_get log p) legal refl (stands_alone sizes log p zone legal)
