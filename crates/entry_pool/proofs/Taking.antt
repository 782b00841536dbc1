-- What a pass knows after it took a place, found none, or made one free again.
use Rattle.std.specs.Prelude.{◌==◌, ◌&&◌, ◌||◌, ◌*◌, nat_le, not, drop, if◌then◌else◌}
use Rattle.std.specs.List.{list_any}
use Rattle.std.proofs.Common.{◌≡◌, ◌≢◌, ℕ, ◌+◌, ◌<◌, ◌≤◌, Bool, true, false, Option, Some, None, List, [], ◌∷◌, ◌++◌, length, refl, sym, ap, subst, ◌∙◌, ⊎_elim, arith, append-nil, append_assoc}
use Rattle.std.proofs.lemmas.Bool.{and_from, and_left, and_right, cases_Bool, cases_eq, cases_lt, eq-eqb, eqb-true, le-leb, lt-leb, ne_eqb, not-false, or_left, or_parts}
use Rattle.history_book.specs.declared.sizes.Sizes.{Sizes}
use Rattle.track_rule.specs.ChangeLaws.{by_own, by_pass, by_view, joined, weaker}
use Rattle.track_rule.specs.ChangesOnly.{ChangesWords, either, is_first_of, is_free_turn, is_phase_of, places_taken}
use Rattle.entry_pool.specs.GoesOn.{ReadingsStand}
use Rattle.history_book.specs.declared.outcome.TakeOutcome.TheVariants as outcome
use Rattle.room_list.specs.Roomed.{Roomed}
use Rattle.track_rule.specs.Free.{is_among, known_free, taken_out, unlisted}
use Rattle.track_rule.specs.History.{events_in, records_after}
use Rattle.track_rule.specs.Layout.{phase_word, refs_word}
use Rattle.track_rule.specs.Links.{RaisesNone, kind_of}
use Rattle.track_rule.specs.Passes.{AreFronts}
use Rattle.track_rule.specs.PhaseSteps.{phase_free, phase_owned, phase_stored}
use Rattle.track_rule.specs.Phases.{of_place}
use Rattle.track_rule.specs.Readings.{added, changes, is_stored, stored}
use Rattle.track_rule.specs.Sights.{PassSight, sizes_of}
use Rattle.track_rule.specs.Slots.{given_back, list_in, with_free}
use Rattle.track_rule.specs.Steps.{AreAll, CanGive, IsAlone, Looks, NewHooks, Opens, at_point, first_ref, found_history, gave_free, keep, kept_places, opened, uses}
use Rattle.track_rule.specs.References.{held_times}
use Rattle.track_rule.specs.Sums.{bit, times, total}
use Rattle.history_book.specs.History.{is_legal}
use Rattle.history_book.specs.Point.{StartsWith}
use Rattle.history_book.specs.declared.event.Event.{Event}
use Rattle.track_rule.specs.declared.slot.Slot.{Slot}
use Rattle.track_rule.specs.declared.slot.Slot.TheVariants.{Free}
use Rattle.track_rule.specs.declared.view.HeldBuckets.{HeldBuckets}
use Rattle.track_rule.specs.declared.view.Hook.{Hook}
use Rattle.track_rule.specs.declared.view.Shares.{Shares}
use Rattle.track_rule.specs.declared.view.Places.{Places}
use Rattle.track_rule.specs.declared.view.Purpose.TheVariants.{Taken}
use Rattle.track_rule.specs.declared.view.Reading.{Reading}
use Rattle.track_rule.specs.declared.view.Seen.{Seen}
use Rattle.track_rule.specs.declared.view.View.{View}
use Rattle.track_rule.specs.declared.view.Walk.{Walk}
use Rattle.entry_pool.specs.Take.{HasOpened, HasTaken, IsFull, IsGivenBack, Recycles, recycle_words, says_empty, take_words}
use Rattle.entry_pool.specs.Turn.{HasFreeTurn, IsListOf, Waits, with_list}
use Rattle.entry_pool.proofs.Hooks.{up_new}
use Rattle.entry_pool.proofs.Lists.{among_push, bit_low, none_of, other_bit, other_taken, same_bit, same_taken, some_of, times_push, total_none, total_some, unlisted_in, unlisted_none, unlisted_out, unlisted_push, unlisted_same}
use Rattle.entry_pool.proofs.Waiting.{added_one, added_two, any_at, any_less, any_more, drop_first, stands_before, stands_one, stands_two}

-- a pass by its parts
made_of : (w x : PassSight) → w ≡ x → (seen : Seen) → x.view.seen ≡ seen → (places : Places) → x.view.places ≡ places
    → (free : Option (List ℕ)) → x.view.free ≡ free → (buckets : HeldBuckets) → x.view.buckets ≡ buckets → (walk : Option Walk) → x.view.walk ≡ walk
    → w ≡ record x { view = record x.view { seen = seen; places = places; free = free; buckets = buckets; walk = walk; readings = w.view.readings } }
made_of w x e seen es places ep free ef buckets eb walk ew k = record {
  table = ap (λ (y : PassSight). y.table) e k;
  view = record {
    passes = ap (λ (y : PassSight). y.view.passes) e k;
    seen = (ap (λ (y : PassSight). y.view.seen) e ∙ es) k;
    places = (ap (λ (y : PassSight). y.view.places) e ∙ ep) k;
    free = (ap (λ (y : PassSight). y.view.free) e ∙ ef) k;
    buckets = (ap (λ (y : PassSight). y.view.buckets) e ∙ eb) k;
    commit = ap (λ (y : PassSight). y.view.commit) e k;
    expected = ap (λ (y : PassSight). y.view.expected) e k;
    walk = (ap (λ (y : PassSight). y.view.walk) e ∙ ew) k;
    readings = w.view.readings;
  };
  slots = ap (λ (y : PassSight). y.slots) e k;
}

-- a reading of another word than the turn, that the pass changed itself
abbrev not_turn : Reading → Bool
not_turn r = r.own && not (r.word == 1)

-- what no test of a turn passes passes no test of a turn or more
less : (own turn more : Bool) → (own && not turn) ≡ false → (own && not (turn || more)) ≡ false
less true true more e = refl
less true false more e = cc
less false turn more e = refl

none_then : (b : Bool) → not (b || true) ≡ false
none_then true = refl
none_then false = refl

and_both : (a b : Bool) → a ≡ true → b ≡ true → (a && b) ≡ true
and_both a b ea eb = ap (λ (x : Bool). x && b) ea ∙ eb

-- the pass that gave the list back
abbrev gave : Roomed ℕ → PassSight → PassSight
gave list t = record t { view = gave_free list.items t.view; slots = given_back t.slots }

-- the pass has the turn of this list, and something lies in its slot now
pub record HasList (v w : PassSight) (list : Roomed ℕ) : Type 0 where
  pub left : Slot
  pub same : w ≡ record {
    table = v.table;
    view = with_list list.items w.view.readings v.view;
    slots = (0, left) ∷ v.slots;
  }
  pub right : IsListOf v list
  pub waits : Waits v.view.readings w.view.readings

-- another list was put in its place
pub changed : (v u w : PassSight) (now : Roomed ℕ) → HasFreeTurn v u → w ≡ record u { slots = with_free (Some now) u.slots } → HasList v w (list_in u.slots)
changed v u w now h kept =
    let readings : w.view.readings ≡ u.view.readings = ap (λ (y : PassSight). y.view.readings) kept in
    record {
      left = Free now;
      same = λ k. record {
        table = (ap (λ (y : PassSight). y.table) kept ∙ ap (λ (y : PassSight). y.table) h.same) k;
        view = (ap (λ (y : PassSight). y.view) kept ∙ ap (λ (y : PassSight). y.view) h.same
            ∙ ap (λ rs. with_list (list_in u.slots).items rs v.view) (sym readings)) k;
        slots = (ap (λ (y : PassSight). y.slots) kept ∙ ap (λ (y : PassSight). (0, Free now) ∷ given_back y.slots) h.same) k;
      };
      right = h.right;
      waits = subst (Waits v.view.readings) (sym readings) h.waits;
    }

-- it gives that list back
pub gives : (t w : PassSight) (now : Roomed ℕ) → list_in t.slots ≡ now
    → w ≡ record t { view = gave_free (list_in t.slots).items t.view; slots = given_back t.slots } → w ≡ gave now t
gives t w now there e = e ∙ ap (λ (xs : Roomed ℕ). record t { view = gave_free xs.items t.view; slots = given_back t.slots }) there

-- what is owed has room on the list
pub has_room : (v u : PassSight) (place : ℕ) → HasFreeTurn v u → is_among place v.view.places.owed ≡ true
    → length (list_in u.slots).items < (list_in u.slots).room
has_room v u place h owed =
    omega (arith, h.right.fits, h.right.room, total_some (λ x. x == place) v.view.places.owed owed, at_most_all place v.view.places.owed)
  where
    at_most_all : (p : ℕ) (xs : List ℕ) → times p xs ≤ length xs
    at_most_all p [] = omega arith
    at_most_all p (x ∷ xs) = omega (arith, bit_low (x == p), at_most_all p xs)

module _ (v u : PassSight) (list : Roomed ℕ) (h : HasList v u list) where
  -- what is owed is not on the list
  off_list : (p : ℕ) → 0 < times p v.view.places.owed → is_among p list.items ≡ false
  off_list p any = none_of (λ x. x == p) list.items (omega (arith, h.right.apart p, any))

  known : known_free u.view ≡ list.items
  known = ap (λ (y : PassSight). known_free y.view) h.same

  owed_same : u.view.places ≡ v.view.places
  owed_same = ap (λ (y : PassSight). y.view.places) h.same

  sizes_same : sizes_of u ≡ sizes_of v
  sizes_same = ap sizes_of h.same

  -- a place of the list is below the entries
  pub place_below : (left : List ℕ) (place : ℕ) → list.items ≡ left ++ place ∷ [] → place < (sizes_of v).entries
  place_below left place pop =
      ⊎_elim (λ (e : place < (sizes_of v).entries). e)
      (λ (e : (sizes_of v).entries ≤ place).
      absurd (omega (arith, h.right.below place e, ap (times place) pop, times_push place place left, same_bit place place refl)))
      (cases_lt place (sizes_of v).entries)

  module _ (left : Roomed ℕ) where
    -- a place was taken from the end of the list, and its first reference was made
    module _ (place : ℕ) (t w : PassSight) (calm : v.view.free ≡ None) (pop : list.items ≡ left.items ++ place ∷ []) (o : Opens place u.view t.view)
        (kt : t ≡ record u { view = t.view }) where
      off_left : (p : ℕ) → 0 < times p v.view.places.owed → is_among p left.items ≡ false
      off_left p any =
          none_of (λ x. x == p) left.items (omega (arith, h.right.apart p, any, ap (times p) pop, times_push place p left.items))

      there : is_among place list.items ≡ true
      there = some_of (λ x. x == place) list.items (omega (arith, ap (times place) pop, times_push place place left.items, same_bit place place refl))

      taken_left : (p : ℕ) → times p (taken_out place list.items) ≡ times p left.items
      taken_left p =
          ⊎_elim
          (λ (e : place ≡ p). subst (λ (x : ℕ). times x (taken_out place list.items) ≡ times x left.items) e
          (omega (arith, same_taken place list.items there, ap (times place) pop, times_push place place left.items, same_bit place place refl)))
          (λ (e : place ≢ p). omega (arith, other_taken place p list.items there e, ap (times p) pop, times_push place p left.items, other_bit place p e))
          (cases_eq place p)

      view_is : t.view ≡ opened place t.view.buckets.hooks u.view
      view_is = o.view

      pub can_give_taken : left.room ≡ list.room → CanGive t.view left
      can_give_taken room = subst (λ (x : View). CanGive x left) (sym view_is) (record {
        room = omega (arith, h.right.room, room, ap (λ z. z.entries) sizes_same);
        whole = λ p.
            let same : unlisted left.items u.view.places.owed ≡ u.view.places.owed =
            unlisted_none left.items u.view.places.owed (λ q any. off_left q (omega (arith, any, ap (λ (x : Places). times q x.owed) owed_same))) in
            omega (arith, ap (times p) same, ap (λ xs. times p (taken_out place xs)) known, taken_left p);
        clear = λ p. omega (arith, ap (λ xs. times p (taken_out place xs)) known, taken_left p);
      })

      -- the words that change are the turn of the list, and the references of the place
      opened_words : w ≡ gave left t → ChangesWords (either is_free_turn (is_first_of place)) v.view w.view
      opened_words e =
          let may : Sizes → Reading → Bool = either is_free_turn (is_first_of place) in
          let waited : ChangesWords may v.view u.view =
          by_own (λ word. not (word == 1)) may v.view u.view sizes_same (stands_before v.view.readings u.view.readings h.waits.more h.waits.all)
          (ap (list_any not_turn) (ap (drop (length v.view.readings)) h.waits.all ∙ drop_first v.view.readings h.waits.more) ∙ h.waits.own)
          (λ r k. or_left (is_free_turn (sizes_of v) r) (is_first_of place (sizes_of v) r) (not-false (r.word == 1) k)) in
          let first : ChangesWords may u.view t.view =
          by_view may (first_ref place u.view) u.view t.view _ view_is refl refl (its_first (refs_word (sizes_of u) place)) in
          joined may v.view u.view w.view waited (joined may u.view t.view w.view first (by_pass may (stored 1 0) t w _ e refl refl refl))
        where
          its_first : (n : ℕ) → ((n == 1) || ((n == n) && true)) ≡ true
          its_first n = ap (λ (b : Bool). (n == 1) || (b && true)) (eq-eqb n n refl) ∙ or_true (n == 1)
            where
              or_true : (b : Bool) → (b || true) ≡ true
              or_true true = refl
              or_true false = refl

      pub opened_is : w ≡ gave left t → HasOpened place v w
      opened_is e =
          let first : Reading = first_ref place (record v.view { free = Some list.items }) in
          let hooks : List Hook = t.view.buckets.hooks in
          let et : t ≡ record u { view = opened place hooks u.view } = kt ∙ ap (λ (x : View). record u { view = x }) view_is in
          let step : PassSight → PassSight = λ y. gave left (record y { view = opened place hooks y.view }) in
          let x : w ≡ step (record {
            table = v.table;
            view = record v.view { free = Some list.items; readings = u.view.readings };
            slots = (0, h.left) ∷ v.slots;
          }) = e ∙ ap (gave left) et ∙ ap step h.same in
          record {
            has = record {
              same = made_of w _ x v.view.seen refl (record v.view.places { held = keep place Taken ∷ v.view.places.held })
                  (λ k. record v.view.places {
                    held = keep place Taken ∷ v.view.places.held;
                    owed = unlisted_none left.items v.view.places.owed off_left k;
                    clear = unlisted_none left.items v.view.places.clear (λ q any. off_left q (h.right.clear q any)) k;
                  }) v.view.free (sym calm) (record v.view.buckets { hooks = w.view.buckets.hooks })
                  (λ k. record v.view.buckets { hooks = sym (ap (λ (y : PassSight). y.view.buckets.hooks) x) k }) v.view.walk refl;
              hooks = subst (λ (new : List Hook). NewHooks place v.view.buckets.hooks new) (sym (ap (λ (y : PassSight). y.view.buckets.hooks) x))
                  (subst (λ (old : List Hook). NewHooks place old hooks) (ap (λ (y : PassSight). y.view.buckets.hooks) h.same) o.hooks);
              down = up_new place v.view.buckets.hooks w.view.buckets.hooks
                  (subst (λ (new : List Hook). NewHooks place v.view.buckets.hooks new) (sym (ap (λ (y : PassSight). y.view.buckets.hooks) x))
                  (subst (λ (old : List Hook). NewHooks place old hooks) (ap (λ (y : PassSight). y.view.buckets.hooks) h.same) o.hooks));
              stand = stands_two v.view.readings u.view.readings w.view.readings first (stored 1 0) h.waits
                  (ap (λ (y : PassSight). y.view.readings) x);
              held = ap (λ (y : PassSight). held_times place y.view.places.held) (sym h.same) ∙ o.held;
              owed = ap (λ (y : PassSight). times place y.view.places.owed) (sym h.same) ∙ o.owed;
              unused = h.right.unused place (omega (arith, ap (times place) pop, times_push place place left.items, same_bit place place refl));
            };
            own = ap (list_any others)
                (added_two v.view.readings u.view.readings w.view.readings first (stored 1 0) h.waits
                (ap (λ (y : PassSight). y.view.readings) x))
                ∙ any_more others (h.waits.more ++ first ∷ []) (stored 1 0)
                (any_more others h.waits.more first
                (any_less not_turn others (λ y e. less y.own (y.word == 1) (y.word == refs_word (sizes_of v) place) e) h.waits.more h.waits.own)
                (its_own (refs_word (sizes_of v) place))) refl;
            words = opened_words e;
          }
        where
          others : Reading → Bool
          others r = r.own && not (r.word == 1 || r.word == refs_word (sizes_of v) place)

          its_own : (n : ℕ) → (true && not ((n == 1) || (n == n))) ≡ false
          its_own n = ap (λ (b : Bool). true && not ((n == 1) || b)) (eq-eqb n n refl) ∙ none_then (n == 1)

    -- the list was empty, and the history word was loaded
    module _ (word at : ℕ) (t w : PassSight) (calm : v.view.free ≡ None) (none : list.items ≡ []) (none_left : left.items ≡ [])
        (o : Looks u.view word t.view) (kt : t ≡ record u { view = t.view }) where
      pub can_give_none : left.room ≡ list.room → CanGive t.view left
      can_give_none room = subst (λ (x : View). CanGive x left) (sym o.same) (record {
        room = omega (arith, h.right.room, room, ap (λ z. z.entries) sizes_same);
        whole = λ p.
            let same : unlisted left.items u.view.places.owed ≡ u.view.places.owed =
            unlisted_none left.items u.view.places.owed (λ q any. ap (is_among q) none_left) in
            omega (arith, ap (times p) same, ap (times p) known, ap (times p) none, ap (times p) none_left);
        clear = λ p. omega (arith, ap (times p) none_left);
      })

      abbrev look_reading : Reading
      look_reading = found_history word (record v.view { free = Some list.items; readings = u.view.readings })

      readings_are : (front : List Event) → w ≡ gave left (record {
        table = v.table;
        view = record v.view {
          seen = record v.view.seen { front = front };
          free = Some list.items;
          walk = at_point (length front) v.view.walk;
          readings = u.view.readings ++ look_reading ∷ [];
        };
        slots = (0, h.left) ∷ v.slots;
      }) → added v.view w.view ≡ (h.waits.more ++ look_reading ∷ []) ++ stored 1 0 ∷ []
      readings_are front x =
          added_two v.view.readings u.view.readings w.view.readings look_reading (stored 1 0) h.waits (ap (λ (y : PassSight). y.view.readings) x)

      pub full_is : at ≡ events_in word → w ≡ gave left t → IsFull at v w
      full_is point e =
          let front = t.view.seen.front in
          let look : View → View = λ y. record y { seen = record y.seen { front = front }; walk = at_point (length front) y.walk; readings = y.readings ++ found_history word y ∷ [] } in
          let et : t ≡ record u { view = look u.view } = kt ∙ ap (λ (x : View). record u { view = x }) o.same in
          let step : PassSight → PassSight = λ y. gave left (record y { view = look y.view }) in
          let x : w ≡ step (record {
            table = v.table;
            view = record v.view { free = Some list.items; readings = u.view.readings };
            slots = (0, h.left) ∷ v.slots;
          }) = e ∙ ap (gave left) et ∙ ap step h.same in
          let ef : w.view.seen.front ≡ front = ap (λ (y : PassSight). y.view.seen.front) x in
          let same_seen : u.view.seen ≡ v.view.seen = ap (λ (y : PassSight). y.view.seen) h.same in
          let same_passes : u.view.passes ≡ v.view.passes = ap (λ (y : PassSight). y.view.passes) h.same in
          let turn : u.view.free ≡ Some list.items = ap (λ (y : PassSight). y.view.free) h.same in
          record {
            same = made_of w _ x (record v.view.seen { front = w.view.seen.front }) (λ k. record v.view.seen { front = sym ef k })
                v.view.places
                (λ k. record v.view.places {
                  owed = unlisted_none left.items v.view.places.owed (λ q any. ap (is_among q) none_left) k;
                  clear = unlisted_none left.items v.view.places.clear (λ q any. ap (is_among q) none_left) k;
                }) v.view.free (sym calm) v.view.buckets refl w.view.walk (sym (ap (λ (y : PassSight). y.view.walk) x));
            stand = stands_two v.view.readings u.view.readings w.view.readings look_reading (stored 1 0) h.waits
                (ap (λ (y : PassSight). y.view.readings) x);
            all = subst (AreAll v.view) (sym ef) (record {
              front = subst (λ (s : Seen). StartsWith front s.front) same_seen o.all.front;
              told = subst (λ (s : Seen). AreFronts front s.told) same_seen o.all.told;
              legal = subst (λ (s : Shares). is_legal s.sizes front ≡ true) same_passes o.all.legal;
              few = omega (arith, o.all.few, ap (λ (s : Seen). length s.own) same_seen, ap (λ (s : Shares). s.sizes.passes) same_passes);
              passes = omega (arith, o.all.passes, ap (λ (s : Shares). s.sizes.passes) same_passes);
              shares = omega (
                arith,
                o.all.shares,
                ap (λ (s : Shares). s.sizes.passes) same_passes,
                ap (λ (s : Shares). s.shares) same_passes,
                ap (λ (s : Shares). s.returned) same_passes,
              );
              alone = λ one.
                  sym (ap (λ (s : Seen). s.own) same_seen) ∙ o.all.alone (ap (λ (s : Shares). s.sizes.passes) same_passes ∙ one);
            });
            point = point ∙ o.events ∙ ap length (sym ef);
            empty = ap (list_any (says_empty at)) (readings_are front x)
                ∙ any_at (says_empty at) h.waits.more look_reading (stored 1 0 ∷ [])
                (and_both (events_in word == at) (length list.items == 0) (eq-eqb (events_in word) at (sym point)) (ap (λ xs. length xs == 0) none));
            full = omega (
              arith,
              o.free.full list.items turn,
              ap length none,
              ap (λ es. length (records_after es)) ef,
              ap (λ (y : PassSight). kept_places y.view) h.same,
              ap (λ z. z.entries) sizes_same,
              ap (λ z. z.passes) sizes_same,
              ap (λ (s : Shares). s.shares + s.returned) same_passes,
            );
            used = λ alone p below.
                let same_alone : IsAlone u.view = subst (λ (s : Shares). s.shares + s.returned ≡ s.sizes.passes) (sym same_passes) alone in
                let same_below : p < (sizes_of u).entries = omega (arith, below, ap (λ z. z.entries) sizes_same) in
                omega (
                  arith,
                  o.free.used list.items turn same_alone p same_below,
                  ap (times p) none,
                  ap (λ es. total (of_place p) (records_after es)) ef,
                  ap (λ (y : PassSight). uses p y.view) h.same,
                );
            own = ap (list_any not_turn) (readings_are front x)
                ∙ any_more not_turn (h.waits.more ++ look_reading ∷ []) (stored 1 0)
                (any_more not_turn h.waits.more look_reading h.waits.own refl) refl;
          }

  -- a place that was owed stands at the end of the list
  module _ (more : Roomed ℕ) (place : ℕ) (w : PassSight) (calm : v.view.free ≡ None) (push : more.items ≡ list.items ++ place ∷ [])
      (owed : is_among place v.view.places.owed ≡ true) (clear : is_among place v.view.places.clear ≡ true) where
    once : (p : ℕ) → times p list.items + times p v.view.places.owed ≤ 1
    once p = omega (arith, h.right.apart p)

    owed_some : 1 ≤ times place v.view.places.owed
    owed_some = total_some (λ x. x == place) v.view.places.owed owed

    balance : (p : ℕ) → times p more.items + times p (unlisted more.items v.view.places.owed) ≡ times p list.items + times p v.view.places.owed
    balance p =
        ⊎_elim
        (λ (on : is_among p more.items ≡ true).
        let some_on : 1 ≤ times p more.items = total_some (λ x. x == p) more.items on in
        ⊎_elim
        (λ (e : place ≡ p).
        let own : 1 ≤ times p v.view.places.owed = subst (λ (x : ℕ). 1 ≤ times x v.view.places.owed) e owed_some in
        omega (arith, unlisted_in more.items p v.view.places.owed on, ap (times p) push, times_push place p list.items, same_bit place p e, once p, own))
        (λ (e : place ≢ p).
        omega (arith, unlisted_in more.items p v.view.places.owed on, ap (times p) push, times_push place p list.items, other_bit place p e, once p, some_on))
        (cases_eq place p))
        (λ (off : is_among p more.items ≡ false).
        omega (arith, unlisted_out more.items p v.view.places.owed off, none_on p off, ap (times p) push, times_push place p list.items))
        (cases_Bool (is_among p more.items))
      where
        none_on : (p : ℕ) → is_among p more.items ≡ false → times p more.items ≡ 0
        none_on p off = total_none (λ x. x == p) more.items off

    pub can_give_back : more.room ≡ list.room → CanGive u.view more
    can_give_back room = record {
      room = omega (arith, h.right.room, room, ap (λ z. z.entries) sizes_same);
      whole = λ p. omega (
        arith,
        ap (λ (x : Places). times p (unlisted more.items x.owed)) owed_same,
        ap (λ (x : Places). times p x.owed) owed_same,
        ap (times p) known,
        balance p,
      );
      clear = λ p. omega (
        arith,
        ap (times p) push,
        times_push place p list.items,
        ap (times p) known,
        ap (λ (x : Places). times p x.clear) owed_same,
        some_clear p,
      );
    }
      where
        some_clear : (p : ℕ) → bit (place == p) ≤ times p v.view.places.clear
        some_clear p =
            ⊎_elim
            (λ (e : place ≡ p). subst (λ (x : ℕ). bit (place == x) ≤ times x v.view.places.clear) e
            (omega (arith, total_some (λ x. x == place) v.view.places.clear clear, same_bit place place refl)))
            (λ (e : place ≢ p). omega (arith, other_bit place p e)) (cases_eq place p)

    pub given_back_is : w ≡ gave more u → IsGivenBack place v w
    given_back_is e =
        let x : w ≡ gave more (record {
          table = v.table;
          view = record v.view { free = Some list.items; readings = u.view.readings };
          slots = (0, h.left) ∷ v.slots;
        }) = e ∙ ap (gave more) h.same in
        record {
          same = made_of w _ x v.view.seen refl
              (record v.view.places {
                owed = taken_out place v.view.places.owed;
                clear = unlisted (place ∷ []) v.view.places.clear;
              })
              (λ k. record v.view.places {
                owed = (ap (λ xs. unlisted xs v.view.places.owed) push ∙ unlisted_push place list.items v.view.places.owed once owed) k;
                clear = (ap (λ xs. unlisted xs v.view.places.clear) push
                    ∙ unlisted_same (list.items ++ place ∷ []) (place ∷ []) v.view.places.clear (λ p any.
                    among_push place p list.items ∙ ap (λ b. b || (place == p || false)) (off_list p (h.right.clear p any)))) k;
              }) v.view.free (sym calm) v.view.buckets refl v.view.walk refl;
          stand = stands_one v.view.readings u.view.readings w.view.readings (stored 1 0) h.waits (ap (λ (y : PassSight). y.view.readings) x);
          own = ap (list_any not_turn) (added_one v.view.readings u.view.readings w.view.readings (stored 1 0) h.waits (ap (λ (y : PassSight). y.view.readings) x))
              ∙ any_more not_turn h.waits.more (stored 1 0) h.waits.own refl;
          unused = h.right.unused place (omega (arith, owed_some));
        }

-- one phase became OWNED
owned_once : (z : Sizes) (place : ℕ) (rs : List Reading) → changes (λ word. not (word == 1 || word == refs_word z place)) rs ≡ false
    → places_taken z (rs ++ stored (phase_word z place) 1 ∷ []) ≡ 1
owned_once z place [] none =
    ap (λ (b : Bool). bit (true && (b && 1 == 1)) + 0)
    (and_from (nat_le (3 + 2 * z.buckets) (phase_word z place)) (kind_of z (phase_word z place) == 1) (le-leb (3 + 2 * z.buckets) (phase_word z place) (omega arith))
    (eq-eqb (kind_of z (phase_word z place)) 1 (omega arith)))
owned_once z place (r ∷ rs) none =
    let p = or_parts (r.own && not (r.word == 1 || r.word == refs_word z place)) (changes (λ word. not (word == 1 || word == refs_word z place)) rs) none in
    omega (arith, ap bit (no_phase r.own r.word r.value p.0), owned_once z place rs p.1)
  where
    is_phase : ℕ → ℕ → Bool
    is_phase word value = (nat_le (3 + 2 * z.buckets) word && kind_of z word == 1) && value == 1

    turn_is_none : (value : ℕ) → is_phase 1 value ≡ false
    turn_is_none value =
        and_left (nat_le (3 + 2 * z.buckets) 1 && kind_of z 1 == 1) (value == 1)
        (and_left (nat_le (3 + 2 * z.buckets) 1) (kind_of z 1 == 1) (lt-leb (3 + 2 * z.buckets) 1 (omega arith)))

    refs_are_none : (value : ℕ) → is_phase (refs_word z place) value ≡ false
    refs_are_none value =
        and_left (nat_le (3 + 2 * z.buckets) (refs_word z place) && kind_of z (refs_word z place) == 1) (value == 1)
        (and_right (nat_le (3 + 2 * z.buckets) (refs_word z place)) (kind_of z (refs_word z place) == 1) (ne_eqb (kind_of z (refs_word z place)) 1 (λ e. omega (arith, e))))

    by_test : (t u : Bool) (word value : ℕ) → (t ≡ true → word ≡ 1) → (u ≡ true → word ≡ refs_word z place) → not (t || u) ≡ false → is_phase word value ≡ false
    by_test true u word value turn refs e = ap (λ (n : ℕ). is_phase n value) (turn refl) ∙ turn_is_none value
    by_test false true word value turn refs e = ap (λ (n : ℕ). is_phase n value) (refs refl) ∙ refs_are_none value
    by_test false false word value turn refs e = cc

    no_phase : (own : Bool) (word value : ℕ) → (own && not (word == 1 || word == refs_word z place)) ≡ false → (own && is_phase word value) ≡ false
    no_phase true word value e = by_test (word == 1) (word == refs_word z place) word value (λ k. eqb-true word 1 k) (λ k. eqb-true word (refs_word z place) k) e
    no_phase false word value e = refl

-- the phase was stored after the first reference was made
pub taken_is : (place : ℕ) (v u w : PassSight) → HasOpened place v u → w ≡ record u { view = phase_stored place 1 u.view } → HasTaken place v w
taken_is place v u w o e =
    let r : Reading = stored (phase_word (sizes_of u) place) 1 in
    let x : w ≡ record v {
      view = record v.view {
        places = record v.view.places { held = keep place Taken ∷ v.view.places.held; owned = place ∷ v.view.places.owned };
        buckets = record v.view.buckets { hooks = u.view.buckets.hooks };
        readings = u.view.readings ++ stored (phase_word (sizes_of v) place) 1 ∷ [];
      };
    } = e ∙ ap (λ (y : PassSight). record y { view = phase_stored place 1 y.view }) o.has.same in
    let hooks : w.view.buckets.hooks ≡ u.view.buckets.hooks = ap (λ (y : PassSight). y.view.buckets.hooks) e in
    let all : w.view.readings ≡ v.view.readings ++ (added v.view u.view ++ stored (phase_word (sizes_of v) place) 1 ∷ []) =
    ap (λ (y : PassSight). y.view.readings) x ∙ ap (λ rs. rs ++ stored (phase_word (sizes_of v) place) 1 ∷ []) o.has.stand
    ∙ append_assoc v.view.readings (added v.view u.view) (stored (phase_word (sizes_of v) place) 1 ∷ []) in
    let more : added v.view w.view ≡ added v.view u.view ++ stored (phase_word (sizes_of v) place) 1 ∷ [] =
    ap (drop (length v.view.readings)) all ∙ drop_first v.view.readings (added v.view u.view ++ stored (phase_word (sizes_of v) place) 1 ∷ []) in
    record {
      has = record {
        same = made_of w _ x v.view.seen refl
            (record v.view.places { held = keep place Taken ∷ v.view.places.held; owned = place ∷ v.view.places.owned }) refl v.view.free refl
            (record v.view.buckets { hooks = w.view.buckets.hooks }) (λ k. record v.view.buckets { hooks = sym hooks k }) v.view.walk refl;
        hooks = subst (NewHooks place v.view.buckets.hooks) (sym hooks) o.has.hooks;
        down = subst (RaisesNone v.view.buckets.hooks) (sym hooks) o.has.down;
        stand = stands_before v.view.readings w.view.readings (added v.view u.view ++ stored (phase_word (sizes_of v) place) 1 ∷ []) all;
        held = o.has.held;
        owed = o.has.owed;
        unused = o.has.unused;
      };
      phase = ap (is_stored (phase_word (sizes_of v) place) 1) more
          ∙ ap (is_stored (phase_word (sizes_of v) place) 1) (sym (append-nil (added v.view u.view ++ stored (phase_word (sizes_of v) place) 1 ∷ [])))
          ∙ any_at (λ (y : Reading). y.word == phase_word (sizes_of v) place && y.value == 1 && y.own) (added v.view u.view)
          (stored (phase_word (sizes_of v) place) 1) [] (word_there (phase_word (sizes_of v) place));
      once = ap (places_taken (sizes_of v)) more ∙ owned_once (sizes_of v) place (added v.view u.view) o.own;
      own = ap (list_any others) more
          ∙ any_more others (added v.view u.view) (stored (phase_word (sizes_of v) place) 1)
          (any_less (λ r. r.own && not (r.word == 1 || r.word == refs_word (sizes_of v) place)) others
          (λ y e. one_less y.own (y.word == 1) (y.word == refs_word (sizes_of v) place) (y.word == phase_word (sizes_of v) place) e)
          (added v.view u.view) o.own)
          (its_own (refs_word (sizes_of v) place) (phase_word (sizes_of v) place));
    }
  where
    others : Reading → Bool
    others r = r.own && not (r.word == 1 || r.word == refs_word (sizes_of v) place || r.word == phase_word (sizes_of v) place)

    one_less : (own a b c : Bool) → (own && not (a || b)) ≡ false → (own && not (a || b || c)) ≡ false
    one_less true true b c e = refl
    one_less true false true c e = refl
    one_less true false false c e = cc
    one_less false a b c e = refl

    its_own : (n m : ℕ) → (true && not ((m == 1) || (m == n) || (m == m))) ≡ false
    its_own n m = ap (λ (b : Bool). true && not ((m == 1) || (m == n) || b)) (eq-eqb m m refl) ∙ none_then ((m == 1) || (m == n))

    word_there : (n : ℕ) → (n == n && 1 == 1 && true) ≡ true
    word_there n = ap (λ (b : Bool). b && true && true) (eq-eqb n n refl)

-- it was stored before the place was given back
pub recycled_is : (place : ℕ) (v u w : PassSight) → u ≡ record v { view = phase_stored place 0 v.view } → IsGivenBack place u w → Recycles place v w
recycled_is place v u w e g =
    let r : Reading = stored (phase_word (sizes_of v) place) 0 in
    let readings : u.view.readings ≡ v.view.readings ++ r ∷ [] = ap (λ (y : PassSight). y.view.readings) e in
    let x : w ≡ record v {
      view = record v.view {
        places = record v.view.places {
          owed = taken_out place v.view.places.owed;
          clear = unlisted (place ∷ []) (place ∷ v.view.places.clear);
        };
        readings = w.view.readings;
      };
    } = g.same ∙ ap (λ (y : PassSight). record y {
      view = record y.view {
        places = record y.view.places {
          owed = taken_out place y.view.places.owed;
          clear = unlisted (place ∷ []) y.view.places.clear;
        };
        readings = w.view.readings;
      };
    }) e in
    let all : w.view.readings ≡ v.view.readings ++ (r ∷ added u.view w.view) =
    g.stand ∙ ap (λ rs. rs ++ added u.view w.view) readings ∙ append_assoc v.view.readings (r ∷ []) (added u.view w.view) in
    let more : added v.view w.view ≡ r ∷ added u.view w.view =
    ap (drop (length v.view.readings)) all ∙ drop_first v.view.readings (r ∷ added u.view w.view) in
    record {
      same = made_of w _ x v.view.seen refl
          (record v.view.places { owed = taken_out place v.view.places.owed; clear = unlisted (place ∷ []) v.view.places.clear })
          (λ k. record v.view.places { owed = taken_out place v.view.places.owed; clear = first_listed place v.view.places.clear k })
          v.view.free refl v.view.buckets refl v.view.walk refl;
      stand = stands_before v.view.readings w.view.readings (r ∷ added u.view w.view) all;
      unused = λ log one own.
          g.unused log (ap (λ (y : PassSight). y.view.passes.sizes.passes) e ∙ one) (ap (λ (y : PassSight). y.view.seen.own) e ∙ own);
      phase = ap (is_stored (phase_word (sizes_of v) place) 0) more ∙ first_stored (phase_word (sizes_of v) place) (added u.view w.view);
      own = ap (changes (λ word. not (word == 1 || word == phase_word (sizes_of v) place))) more
          ∙ first_own (phase_word (sizes_of v) place) (added u.view w.view) g.own;
    }
  where
    first_listed : (p : ℕ) (clear : List ℕ) → unlisted (p ∷ []) (p ∷ clear) ≡ unlisted (p ∷ []) clear
    first_listed p clear = ap (λ (b : Bool). if not (b || false) then p ∷ unlisted (p ∷ []) clear else unlisted (p ∷ []) clear) (eq-eqb p p refl)

    first_stored : (n : ℕ) (rs : List Reading) → is_stored n 0 (stored n 0 ∷ rs) ≡ true
    first_stored n rs = ap (λ (b : Bool). (b && true && true) || is_stored n 0 rs) (eq-eqb n n refl)

    first_own : (n : ℕ) (rs : List Reading) → changes (λ word. not (word == 1)) rs ≡ false
        → changes (λ word. not (word == 1 || word == n)) (stored n 0 ∷ rs) ≡ false
    first_own n rs none =
        ap (λ (b : Bool). (true && not ((n == 1) || b)) || changes (λ word. not (word == 1 || word == n)) rs) (eq-eqb n n refl)
        ∙ ap (λ (b : Bool). b || changes (λ word. not (word == 1 || word == n)) rs) (none_then (n == 1))
        ∙ any_less not_turn (λ r. r.own && not (r.word == 1 || r.word == n)) (λ y e. less y.own (y.word == 1) (y.word == n) e) rs none

-- THE WORDS

turn_only : (f : Sizes → Reading → Bool) (v w : PassSight) → sizes_of w ≡ sizes_of v → ReadingsStand v w → changes (λ word. not (word == 1)) (added v.view w.view) ≡ false
    → ((r : Reading) → is_free_turn (sizes_of v) r ≡ true → f (sizes_of v) r ≡ true) → ChangesWords f v.view w.view
turn_only f v w sizes stand own inside = by_own (λ word. not (word == 1)) f v.view w.view sizes stand own (λ r e. inside r (not-false (r.word == 1) e))

pub full_words : (at : ℕ) (v w : PassSight) → IsFull at v w → ChangesWords is_free_turn v.view w.view
full_words at v w f = turn_only is_free_turn v w (ap sizes_of f.same) f.stand f.own (λ r e. e)

pub taken_words : (place : ℕ) (v u w : PassSight) → HasOpened place v u → w ≡ record u { view = phase_stored place 1 u.view }
    → ChangesWords (take_words (outcome.Taken place)) v.view w.view
taken_words place v u w o e =
    joined (take_words (outcome.Taken place)) v.view u.view w.view
    (weaker (either is_free_turn (is_first_of place)) (take_words (outcome.Taken place)) v.view u.view
    (λ z r h. two (r.word == 1) (is_first_of place z r) (is_phase_of place phase_owned z r) h) o.words)
    (by_pass (take_words (outcome.Taken place)) (stored (phase_word (sizes_of u) place) 1) u w _ e refl refl
    (last (phase_word (sizes_of u) place == 1) (phase_word (sizes_of u) place == refs_word (sizes_of u) place) (phase_word (sizes_of u) place == phase_word (sizes_of u) place)
    (eq-eqb (phase_word (sizes_of u) place) (phase_word (sizes_of u) place) refl)))
  where
    two : (a b c : Bool) → (a || b) ≡ true → (a || (b || c)) ≡ true
    two true b c h = refl
    two false true c h = refl
    two false false c h = cc

    last : (a b c : Bool) → c ≡ true → (a || ((b && false) || (c && true))) ≡ true
    last true b c h = refl
    last false true true h = refl
    last false true false h = h
    last false false true h = refl
    last false false false h = h

pub recycled_words : (place : ℕ) (v u w : PassSight) → u ≡ record v { view = phase_stored place 0 v.view } → IsGivenBack place u w
    → ChangesWords (recycle_words place) v.view w.view
recycled_words place v u w e g =
    joined (recycle_words place) v.view u.view w.view
    (by_pass (recycle_words place) (stored (phase_word (sizes_of v) place) 0) v u _ e refl refl
    (last (phase_word (sizes_of v) place == 1) (phase_word (sizes_of v) place == phase_word (sizes_of v) place)
    (eq-eqb (phase_word (sizes_of v) place) (phase_word (sizes_of v) place) refl)))
    (turn_only (recycle_words place) u w (ap sizes_of g.same) g.stand g.own (λ r h. or_left (is_free_turn (sizes_of u) r) (is_phase_of place phase_free (sizes_of u) r) h))
  where
    last : (a c : Bool) → c ≡ true → (a || (c && true)) ≡ true
    last true c h = refl
    last false true h = refl
    last false false h = h
