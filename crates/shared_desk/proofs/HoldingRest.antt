-- A clerk that holds a place once more, or saw that no live entry has it.
use Rattle.std.specs.List.{AllByRecursion}
use Rattle.std.specs.Prelude.{◌==◌, ◌&&◌, ◌||◌}
use Rattle.std.proofs.Common.{◌≡◌, ℕ, ◌+◌, ◌<◌, ◌≤◌, Bool, true, false, Some, List, [], ◌∷◌, length, map, refl, sym, ap, subst, ◌∙◌, arith, ⊎_elim, length-append}
use Rattle.std.proofs.lemmas.Bool.{and_from, and_right, cases_Bool, eq-eqb, false≢true, or_left, or_right}
use Rattle.std.proofs.lemmas.List.{length-map}
use Rattle.room_list.specs.Roomed.{Roomed}
use Rattle.history_book.specs.Desk.{HoldSays, IsLiveIn}
use Rattle.history_book.specs.History.{after}
use Rattle.history_book.specs.Sight.{IsKnown}
use Rattle.history_book.specs.State.{is_unused}
use Rattle.history_book.specs.WentOn.{Saw}
use Rattle.history_book.specs.declared.desk.Hold.{Hold}
use Rattle.history_book.specs.declared.event.Note.{Note}
use Rattle.history_book.specs.declared.outcome.HoldOutcome.{HoldOutcome}
use Rattle.history_book.specs.declared.outcome.HoldOutcome.TheVariants.{Held, Empty}
use Rattle.track_rule.specs.KeptWords.{is_for, is_kept_for}
use Rattle.track_rule.specs.References.{is_at, is_taken}
use Rattle.track_rule.specs.Sights.{PassSight, sizes_of}
use Rattle.track_rule.specs.Steps.{keep}
use Rattle.track_rule.specs.declared.view.Hook.{Hook}
use Rattle.track_rule.specs.declared.view.Keep.{Keep}
use Rattle.track_rule.specs.declared.view.Places.{Places}
use Rattle.track_rule.specs.declared.view.Purpose.{Purpose}
use Rattle.track_rule.specs.declared.view.Purpose.TheVariants.{Taken, Testing, Shown, For}
use Rattle.shared_desk.specs.Holding.{CanHold, HoldsLive, IsHeldFor}
use Rattle.shared_desk.specs.Rest.{AreSettled, IsAtRest, IsPrepared, IsSettled}
use Rattle.shared_desk.specs.Sights.{hold_of, sight_of}
use Rattle.shared_desk.proofs.Known.{known_held, known_later, counted}
use Rattle.shared_desk.proofs.Lists.{none_of, other_bit}
use Rattle.shared_desk.proofs.Taking.{rest_looked, saw_looked}
use Rattle.shared_desk.proofs.Places.{is_unused_after}
use Rattle.shared_desk.proofs.Resting.{clerk_at, idle_still, saw_more, settled_closed, then_of}

-- one reference more, for an entry, to a place that was not taken
module _ (place id : ℕ) (places : Places) (hooks : List Hook) (h : AreSettled places hooks) (untaken : is_taken place places.held ≡ false) where
  abbrev after_held : Places
  after_held = record places { held = keep place (For id) ∷ places.held }

  same_taken : (p : ℕ) → is_taken p (keep place (For id) ∷ places.held) ≡ is_taken p places.held
  same_taken p = ap (λ (b : Bool). b || is_taken p places.held) (and_right (place == p) false refl)

  prepared : (p : ℕ) → is_taken p places.held ≡ true → IsPrepared p after_held hooks
  prepared p t =
      let o : IsPrepared p places hooks = h.taken p t in
      record {
        once = omega (arith, o.once, other_bit place p (λ e. false≢true (sym untaken ∙ ap (λ (q : ℕ). is_taken q places.held) e ∙ t)));
        owned = o.owned;
        original = o.original;
        reply = o.reply;
      }

  pub settled_held : AreSettled (record places { held = keep place (For id) ∷ places.held }) hooks
  settled_held = record {
    purposes = (tt, h.purposes);
    taken = λ p e. prepared p (sym (same_taken p) ∙ e);
    down = h.down;
    some = h.some;
    links = λ p e. same_taken p ∙ h.links p e;
    owned = λ p e. same_taken p ∙ h.owned p e;
    clear = h.clear;
  }

-- what is held of the place already is for this entry
pub all_agreed : (place id : ℕ) (held : List Keep) → AllByRecursion (λ (k : Keep). IsSettled k.purpose) held → is_taken place held ≡ false
    → ((i : ℕ) → is_kept_for place i held ≡ true → i ≡ id) → AllByRecursion (λ (h : Hold). h.place ≡ place → h.id ≡ Some id) (map hold_of held)
all_agreed place id [] s untaken agreed = tt
all_agreed place id (k ∷ ks) s untaken agreed = (
  λ here. of_purpose k.place k.purpose s.0 here untaken (λ i e. agreed i (or_left (is_for i k.purpose && is_at place k) (is_kept_for place i ks) e)),
  all_agreed place id ks s.1 (none_after k untaken) (λ i e. agreed i (or_right (is_for i k.purpose && is_at place k) (is_kept_for place i ks) e)),
)
  where
    none_after : (x : Keep) → is_taken place (x ∷ ks) ≡ false → is_taken place ks ≡ false
    none_after x none =
        ⊎_elim
        (λ (t : is_taken place ks ≡ true). absurd (false≢true (sym none ∙ or_right _ (is_taken place ks) t)))
        (λ (t : is_taken place ks ≡ false). t) (cases_Bool (is_taken place ks))

    of_purpose : (p : ℕ) (why : Purpose) → IsSettled why → p ≡ place → is_taken place (record { place = p; purpose = why } ∷ ks) ≡ false
        → ((i : ℕ) → (is_for i why && p == place) ≡ true → i ≡ id) → (hold_of (record { place = p; purpose = why })).id ≡ Some id
    of_purpose p Taken s here none its =
        absurd (false≢true (sym none ∙ or_left (p == place && true) (is_taken place ks) (and_from (p == place) true (eq-eqb p place here) refl)))
    of_purpose p Testing s here none its = absurd s
    of_purpose p (Shown i) s here none its = absurd s
    of_purpose p (For i) s here none its = ap Some (its i (and_from (i == i) (p == place) (eq-eqb i i refl) (eq-eqb p place here)))

module _ (v : PassSight) (notes : Roomed Note) (spare place : ℕ) (h : IsAtRest v notes spare) (below : place < (sizes_of v).entries)
    (room : length (map hold_of v.view.places.held) + length v.view.places.owed ≤ 3) where
  pub can_hold : CanHold place v
  can_hold = record {
    free = record {
      below = below;
      hand = h.idle.hand;
      expected = h.idle.expected;
      shut = h.idle.shut;
      calm = h.idle.middle;
      free = h.idle.free;
      closed = settled_closed v.view.places.held h.settled.purposes;
    };
    settled = h.settled;
    carried = h.idle.carried;
    few = omega (arith, room, length-map v.view.places.held hold_of);
  }

  -- it is held for the entry that is live there
  module _ (id at : ℕ) (w : PassSight) (o : IsHeldFor place id at v w) where
    abbrev held_more : List Keep
    held_more = keep place (For id) ∷ v.view.places.held

    held_is : w.view.places.held ≡ held_more
    held_is = o.newest ∙ ap (λ (k : PassSight). keep place (For id) ∷ k.view.places.held) o.looks.same

    whole : w ≡ record v {
      view = record v.view {
        seen = record v.view.seen { front = w.view.seen.front };
        places = record v.view.places { held = held_more };
        walk = w.view.walk;
        readings = w.view.readings;
      };
    }
    whole =
        ap (λ (k : PassSight). record k { view = record k.view { places = record k.view.places { held = w.view.places.held } } }) o.looks.same
        ∙ ap (λ (ks : List Keep). record v {
          view = record v.view {
            seen = record v.view.seen { front = w.view.seen.front };
            places = record v.view.places { held = ks };
            walk = w.view.walk;
            readings = w.view.readings;
          };
        }) held_is

    later : IsKnown (record (sight_of (clerk_at v spare)) { front = w.view.seen.front })
    later = known_later (sight_of (clerk_at v spare)) w.view.seen.front h.knows o.all.front o.all.legal (omega (arith, o.all.few, o.all.passes)) o.all.alone

    rest_held : IsAtRest w notes spare
    rest_held =
        subst (λ (p : PassSight). IsAtRest p notes spare) (sym whole) (record {
          idle = idle_still v _ h.idle refl refl refl refl refl refl;
          settled = settled_held place id v.view.places v.view.buckets.hooks h.settled o.untaken;
          own = h.own;
          room = h.room;
          knows = counted _ _ (known_held (record (sight_of (clerk_at v spare)) { front = w.view.seen.front }) place id later below
              (record { subject = o.was.subject; event = o.was.event; placed = o.was.its_place })
              (all_agreed place id v.view.places.held h.settled.purposes o.untaken o.agreed)
              (none_of (λ p. p == place) v.view.places.owed o.unowed) room);
        })

    says_held : HoldSays place (sight_of (clerk_at v spare)) (then_of v (clerk_at w spare)) (Held id at)
    says_held = (
      record {
        saw = subst (λ (p : PassSight). Saw (sight_of (clerk_at v spare)) (then_of v (clerk_at p spare))) (sym whole)
            (saw_more (sight_of (clerk_at v spare)) _ o.all.front refl refl refl
            (record { tracker = refl; sizes = refl; shares = refl; returned = refl; gathered = refl }));
        low = omega (arith, o.point, ap length o.all.front.1, length-append v.view.seen.front o.all.front.0);
        fact = record {
          within = omega (arith, o.point);
          fact = subst (λ (n : ℕ). IsLiveIn place id (after w.view.seen.front n)) (sym o.point) o.live;
        };
      },
      record {
        held = ap (map hold_of) held_is;
        owed = ap (λ (k : PassSight). k.view.places.owed) whole;
      },
    )

  -- whichever it is
  pub rest_holding : (o : HoldOutcome) (w : PassSight) → HoldsLive place o v w → IsAtRest w notes spare
  rest_holding (Held id at) w s = rest_held id at w s
  rest_holding (Empty at) w s = rest_looked v notes spare h w.view.seen.front w.view.walk w.view.readings w s.looks.same s.all

  pub says_holding : (o : HoldOutcome) (w : PassSight) → HoldsLive place o v w → HoldSays place (sight_of (clerk_at v spare)) (then_of v (clerk_at w spare)) o
  says_holding (Held id at) w s = says_held id at w s
  says_holding (Empty at) w s = (
    record {
      saw = saw_looked v notes spare h w.view.seen.front w.view.walk w.view.readings w s.looks.same s.all;
      low = omega (arith, s.point, ap length s.all.front.1, length-append v.view.seen.front s.all.front.0);
      fact = record {
        within = omega (arith, s.point);
        fact = subst (λ (n : ℕ). is_unused place (after w.view.seen.front n) ≡ true) (sym s.point) (is_unused_after place w.view.seen.front s.unused);
      };
    },
    record {
      held = ap (λ (k : PassSight). map hold_of k.view.places.held) s.looks.same;
      owed = ap (λ (k : PassSight). k.view.places.owed) s.looks.same;
    },
  )
