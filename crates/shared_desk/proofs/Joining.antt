-- The first clerk of a tracker, one that took in another one, and the end.
use Rattle.track_rule.specs.ChangesOnly.{no_word}
use Rattle.track_rule.specs.ChangeLaws.{by_pass}
use Rattle.shared_desk.proofs.Counting.{no_none, still_taken}
use Rattle.shared_desk.specs.Sights.{taken_by}
use Rattle.std.specs.List.{count_by, slice_get}
use Rattle.std.specs.Prelude.{◌==◌}
use Rattle.std.proofs.Common.{◌≡◌, ℕ, Bool, ◌+◌, ◌<◌, ◌≤◌, true, false, Some, List, [], ◌∷◌, ◌++◌, length, map, refl, sym, ap, subst, ◌∙◌, arith, ⊎_elim}
use Rattle.std.proofs.lemmas.Bool.{cases_eq, eq-eqb, false_from_ne_true, false≢true, ne_eqb, or_left, true≢false}
use Rattle.std.proofs.lemmas.List.Elements.{All-append}
use Rattle.std.proofs.lemmas.List.Sums.{sum_by-cons}
use Rattle.room_list.specs.Roomed.{Roomed}
use Rattle.history_book.specs.declared.event.Event.{Event}
use Rattle.history_book.specs.declared.event.Note.{Note}
use Rattle.history_book.specs.declared.report.Closed.{Closed}
use Rattle.history_book.specs.declared.sizes.Sizes.{Sizes}
use Rattle.history_book.specs.Close.{Closes}
use Rattle.history_book.specs.History.{is_legal}
use Rattle.history_book.specs.Join.{Joins}
use Rattle.history_book.specs.Places.{HoldsNothing}
use Rattle.history_book.specs.Sight.{notes_from}
use Rattle.history_book.specs.Sizes.{AreWithinLimits}
use Rattle.track_rule.specs.declared.view.Hook.{Hook}
use Rattle.track_rule.specs.declared.view.Keep.{Keep}
use Rattle.track_rule.specs.declared.view.View.{View}
use Rattle.track_rule.specs.Free.{is_among}
use Rattle.track_rule.specs.History.{events_in, live_in}
use Rattle.track_rule.specs.Layout.{place_of}
use Rattle.track_rule.specs.Passes.{HasNothing}
use Rattle.track_rule.specs.References.{is_taken}
use Rattle.track_rule.specs.Rule.{first_view}
use Rattle.track_rule.specs.Shares.{IsLast, joined}
use Rattle.track_rule.specs.Sights.{BoardSight, IsFirst, PassSight}
use Rattle.track_rule.specs.Steps.{Looks, at_point, found_history}
use Rattle.track_rule.specs.Sums.{bit, total}
use Rattle.bucket_table.specs.Finding.{has_hook}
use Rattle.shared_desk.specs.Rest.{IsAtRest}
use Rattle.shared_desk.specs.Sights.{hold_of, sight_of}
use Rattle.shared_desk.proofs.Known.{known_fresh, known_joined, counted}
use Rattle.shared_desk.proofs.Lists.{nothing_among}
use Rattle.shared_desk.proofs.Places.{same_events}
use Rattle.shared_desk.proofs.Resting.{clerk_at, idle_still}

-- no event is a legal history
legal_none : (z : Sizes) → is_legal z [] ≡ true
unfolding is_legal
legal_none z = refl

-- the first one
pub rest_first : (z : Sizes) (board : BoardSight) (p : PassSight) (notes : Roomed Note) → AreWithinLimits z → IsFirst z board p → notes.items ≡ []
    → IsAtRest p notes 0
rest_first z board p notes limits f none =
    subst (λ q. IsAtRest q notes 0) (sym whole) (record {
      idle = record { slots = refl; free = refl; hand = refl; middle = refl; expected = refl; shut = refl; carried = refl };
      settled = record {
        purposes = tt;
        taken = λ q e. absurd (false≢true e);
        down = λ q. refl;
        some = refl;
        links = λ q e. absurd (false≢true e);
        owned = λ q e. absurd (false≢true e);
        clear = λ q e. absurd (false≢true e);
      };
      own = none;
      room = omega (arith, ap length none);
      knows = counted _ _ (known_fresh (sight_of (clerk_at (record { table = p.table; view = first_view z; slots = [] }) 0)) (legal_none z) (omega arith) refl refl refl refl refl limits.some_passes (omega arith) (λ one. refl));
    })
  where
    whole : p ≡ record { table = p.table; view = first_view z; slots = [] }
    whole = λ k. record { table = p.table; view = f.view k; slots = f.slots k }

-- references as a desk sees them are none where there are none
no_holds : (held : List Keep) → map hold_of held ≡ [] → held ≡ []
no_holds [] none = refl
no_holds (k ∷ ks) none = cc

no_hooks : (hooks : List Hook) → ((p : ℕ) → has_hook p hooks ≡ false) → hooks ≡ []
no_hooks [] none = refl
no_hooks (h ∷ hs) none =
    absurd (true≢false (sym (or_left (place_of h.link == place_of h.link) (has_hook (place_of h.link) hs) (eq-eqb (place_of h.link) (place_of h.link) refl))
    ∙ none (place_of h.link)))

-- a clerk at rest that keeps no place has nothing at all
pub rest_nothing : (p : PassSight) (notes : Roomed Note) (spare : ℕ) → IsAtRest p notes spare → HoldsNothing (sight_of (clerk_at p spare))
    → HasNothing p.view
rest_nothing p notes spare h empty = record {
  held = held;
  owed = empty.owed;
  clear = nothing_among p.view.places.clear (λ q. false_from_ne_true (is_among q p.view.places.clear)
      (λ e. false≢true (sym (ap (is_among q) empty.owed) ∙ h.settled.clear q e)));
  owned = nothing_among p.view.places.owned (λ q. false_from_ne_true (is_among q p.view.places.owned) (λ e. not_taken q (h.settled.owned q e)));
  carried = h.idle.carried;
  free = h.idle.free;
  shut = h.idle.shut;
  hooks = no_hooks p.view.buckets.hooks (λ q. false_from_ne_true (has_hook q p.view.buckets.hooks) (λ e. not_taken q (h.settled.links q e)));
  hand = h.idle.hand;
  middle = h.idle.middle;
  expected = h.idle.expected;
}
  where
    held : p.view.places.held ≡ []
    held = no_holds p.view.places.held empty.held

    not_taken : (q : ℕ) → is_taken q p.view.places.held ≡ true → ⊥
    not_taken q e = false≢true (sym (ap (is_taken q) held) ∙ e)

-- two clerks of which one took in the other, and then looked
module _ (v o : PassSight) (notes others : Roomed Note) (spare more : ℕ) (h : IsAtRest v notes spare) (l : IsAtRest o others more) (word : ℕ)
    (u w : PassSight) (both : u ≡ record v { view = joined v.view o.view }) (looks : Looks u.view word w.view) (kept : w ≡ record u { view = w.view }) where
  seen : Looks (joined v.view o.view) word w.view
  seen = subst (λ (x : PassSight). Looks x.view word w.view) both looks

  log : List Event
  log = w.view.seen.front

  whole : w ≡ record v {
    view = record (joined v.view o.view) {
      seen = record (joined v.view o.view).seen { front = w.view.seen.front };
      walk = at_point (length w.view.seen.front) v.view.walk;
      readings = v.view.readings ++ found_history word (joined v.view o.view) ∷ [];
    };
  }
  whole = kept ∙ ap (λ (x : PassSight). record x { view = w.view }) both ∙ ap (λ (x : View). record v { view = x }) seen.same

  pub rest_joined : IsAtRest w notes spare
  rest_joined =
      subst (λ p. IsAtRest p notes spare) (sym whole) (record {
        idle = idle_still v _ h.idle refl refl refl refl refl refl;
        settled = h.settled;
        own = h.own;
        room = h.room;
        knows = counted _ _ (known_joined (sight_of (clerk_at v spare)) (sight_of (clerk_at o more)) w.view.seen.front h.knows l.knows seen.all.front seen.all.told.0
            seen.all.legal (omega (arith, seen.all.few, seen.all.passes)) (omega (arith, seen.all.shares)) seen.all.alone);
      })

  still : taken_by w ≡ taken_by v
  still = still_taken no_word v w no_none (by_pass no_word (found_history word (joined v.view o.view)) v w _ whole refl refl refl)

  pub clerks_joined : Joins (sight_of (clerk_at v spare)) (sight_of (clerk_at o more)) (sight_of (clerk_at w spare)) others.items
  clerks_joined = record {
    front = seen.all.front;
    other_front = seen.all.told.0;
    given = l.own;
    kept = λ i. record (sight_of (clerk_at (whole i) spare)) { taken = still i };
  }

-- a number is that of the note
abbrev numbered : ℕ → Note → Bool
numbered k n = n.number == k

-- counting is a sum
count_total : (p : Note → Bool) (notes : List Note) → count_by p notes ≡ total (λ n. bit (p n)) notes
count_total p [] = refl
count_total p (n ∷ ns) = omega (arith, sum_by-cons (λ (m : Note). bit (p m)) n ns, count_total p ns)

total_append : (f : Note → ℕ) (xs ys : List Note) → total f (xs ++ ys) ≡ total f xs + total f ys
total_append f [] ys = omega arith
total_append f (x ∷ xs) ys = omega (arith, total_append f xs ys)

-- none of the numbers from n on is below it
none_from : (k n : ℕ) (log : List Event) → k < n → total (λ m. bit (numbered k m)) (notes_from n log) ≡ 0
none_from k n [] low = refl
none_from k n (e ∷ es) low =
    omega (arith, ap bit (ne_eqb n k (λ i. omega (arith, i, low))), none_from k (n + 1) es (omega (arith, low)))

-- each stands once among them
once_from : (k n : ℕ) (log : List Event) → n ≤ k → k < n + length log → total (λ m. bit (numbered k m)) (notes_from n log) ≡ 1
once_from k n [] least below = absurd (omega (arith, least, below))
once_from k n (e ∷ es) least below =
    ⊎_elim
    (λ (i : n ≡ k). omega (arith, ap bit (eq-eqb n k i), none_from k (n + 1) es (omega (arith, i))))
    (λ (i : n ≡ k → ⊥). omega (
      arith,
      ap bit (ne_eqb n k i),
      once_from k (n + 1) es (above i) (omega (arith, below)),
    )) (cases_eq n k)
  where
    above : (n ≡ k → ⊥) → n + 1 ≤ k
    above i = omega (arith, least, i)

-- what the last clerk leaves
pub closes_last : (p : PassSight) (notes : Roomed Note) (spare word : ℕ) (closed : Closed) → IsAtRest p notes spare → IsLast p.view word
    → closed.events ≡ events_in word → closed.live ≡ live_in word → closed.notes ≡ notes → Closes (sight_of (clerk_at p spare)) closed
closes_last p notes spare word closed h last events live given = record {
  log = last.log;
  front = last.front;
  legal = last.legal;
  events = events ∙ last.events;
  live = live ∙ last.live;
  notes = ap (λ (ns : Roomed Note). ns.items) given ∙ h.own;
  all = record {
    events = All-append (λ (n : Note). slice_get last.log n.number ≡ Some n.event) p.view.seen.own p.view.seen.gathered last.own last.gathered;
    once = λ n low. omega (
      arith,
      count_total (numbered n) (p.view.seen.own ++ p.view.seen.gathered),
      total_append (λ m. bit (numbered n m)) p.view.seen.own p.view.seen.gathered,
      last.made (λ m. bit (numbered n m)),
      once_from n 0 last.log (omega arith) (omega (arith, low)),
    );
  };
  alone = λ one. same_events p.view.seen.own last.log p.view.seen.front (last.alone one) (h.knows.alone one);
}
