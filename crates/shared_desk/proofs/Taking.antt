-- A clerk that took a place, or found none, or looked.
use Rattle.history_book.specs.Sight.{Sight}
use Rattle.track_rule.specs.ChangesOnly.{ChangesWords, is_free_turn, places_taken}
use Rattle.entry_pool.specs.Take.{take_words}
use Rattle.shared_desk.proofs.Counting.{no_free_turn, still_taken, taken_append}
use Rattle.std.specs.Prelude.{◌==◌}
use Rattle.std.proofs.Common.{◌≡◌, ℕ, ◌+◌, ◌<◌, ◌≤◌, false, Option, List, [], ◌∷◌, ◌++◌, length, map, refl, sym, ap, subst, ◌∙◌, arith, length-append}
use Rattle.std.proofs.lemmas.List.{length-map}
use Rattle.room_list.specs.Roomed.{Roomed}
use Rattle.history_book.specs.declared.event.Event.{Event}
use Rattle.history_book.specs.declared.event.Note.{Note}
use Rattle.history_book.specs.declared.outcome.TakeOutcome.{TakeOutcome}
use Rattle.history_book.specs.declared.outcome.TakeOutcome.TheVariants.{Taken, Full}
use Rattle.history_book.specs.declared.outcome.LiveCount.{LiveCount}
use Rattle.history_book.specs.Desk.{CountSays, FindsFull, TakeSays, Takes}
use Rattle.history_book.specs.Held.{is_held as is_hold, is_owed}
use Rattle.history_book.specs.History.{after}
use Rattle.history_book.specs.WentOn.{Saw}
use Rattle.track_rule.specs.declared.view.Reading.{Reading}
use Rattle.track_rule.specs.declared.view.View.{View}
use Rattle.track_rule.specs.declared.view.Walk.{Walk}
use Rattle.track_rule.specs.History.{events_in, live_in}
use Rattle.track_rule.specs.Readings.{added}
use Rattle.track_rule.specs.References.{is_at}
use Rattle.track_rule.specs.Sights.{PassSight, sizes_of}
use Rattle.track_rule.specs.Steps.{AreAll, Looks, at_point, found_history, uses}
use Rattle.entry_pool.specs.Take as pool
use Rattle.entry_pool.specs.Take.{HasTaken, IsBelow, IsFull}
use Rattle.shared_desk.specs.Calls.{FindsNone, ShowsNone}
use Rattle.shared_desk.specs.Rest.{IsAtRest}
use Rattle.shared_desk.specs.Sights.{hold_of, sight_of}
use Rattle.shared_desk.proofs.Known.{known_later, known_taken, counted}
use Rattle.shared_desk.proofs.Lists.{none_of}
use Rattle.shared_desk.proofs.Places.{in_use, is_unused_after}
use Rattle.shared_desk.proofs.Resting.{clerk_at, holds_held, idle_still, saw_more, saw_none, then_of, now_of}
use Rattle.shared_desk.proofs.Settled.{settled_taken}

module _ (v : PassSight) (notes : Roomed Note) (spare : ℕ) (h : IsAtRest v notes spare) where
  -- it has seen all events
  abbrev looked : List Event → Option Walk → List Reading → PassSight
  looked log walk rs = record v { view = record v.view { seen = record v.view.seen { front = log }; walk = walk; readings = rs } }

  pub rest_looked : (log : List Event) (walk : Option Walk) (rs : List Reading) (w : PassSight)
      → w ≡ record v { view = record v.view { seen = record v.view.seen { front = log }; walk = walk; readings = rs } } → AreAll v.view log
      → IsAtRest w notes spare
  rest_looked log walk rs w same all =
      subst (λ p. IsAtRest p notes spare) (sym same) (record {
        idle = idle_still v _ h.idle refl refl refl refl refl refl;
        settled = h.settled;
        own = h.own;
        room = h.room;
        knows = counted _ _ (known_later (sight_of (clerk_at v spare)) log h.knows all.front all.legal
            (omega (arith, all.few, all.passes)) all.alone);
      })

  pub saw_looked : (log : List Event) (walk : Option Walk) (rs : List Reading) (w : PassSight)
      → w ≡ record v { view = record v.view { seen = record v.view.seen { front = log }; walk = walk; readings = rs } } → AreAll v.view log
      → Saw (sight_of (clerk_at v spare)) (then_of v (clerk_at w spare))
  saw_looked log walk rs w same all =
      subst (λ p. Saw (sight_of (clerk_at v spare)) (then_of v (clerk_at p spare))) (sym same)
      (saw_more (sight_of (clerk_at v spare)) _ all.front refl refl refl
      (record { tracker = refl; sizes = refl; shares = refl; returned = refl; gathered = refl }))

  -- it loaded the history word
  module _ (word : ℕ) (w : PassSight) (l : Looks v.view word w.view) (kept : w ≡ record v { view = w.view }) where
    loaded : w ≡ looked w.view.seen.front (at_point (length w.view.seen.front) v.view.walk) (v.view.readings ++ found_history word v.view ∷ [])
    loaded = kept ∙ ap (λ (x : View). record v { view = x }) l.same

    pub rest_counted : IsAtRest w notes spare
    rest_counted =
        rest_looked w.view.seen.front (at_point (length w.view.seen.front) v.view.walk) (v.view.readings ++ found_history word v.view ∷ []) w loaded l.all

    pub count_says : (count : LiveCount) → count.live ≡ live_in word → count.at ≡ events_in word
        → CountSays (sight_of (clerk_at v spare)) (then_of v (clerk_at w spare)) count
    count_says count live at = (
      record {
        saw = saw_looked w.view.seen.front (at_point (length w.view.seen.front) v.view.walk) (v.view.readings ++ found_history word v.view ∷ []) w loaded l.all;
        low = omega (arith, point, ap length l.all.front.1, length-append v.view.seen.front l.all.front.0);
        fact = record {
          within = omega (arith, point);
          fact = live ∙ l.live ∙ ap (λ (n : ℕ). length (after w.view.seen.front n).records) (sym point);
        };
      },
      record {
        held = ap (λ (p : PassSight). map hold_of p.view.places.held) loaded;
        owed = ap (λ (p : PassSight). p.view.places.owed) loaded;
      },
    )
      where
        point : count.at ≡ length w.view.seen.front
        point = at ∙ l.events

  -- a place was taken
  module _ (place : ℕ) (w : PassSight) (t : HasTaken place v w) (below : place < (sizes_of v).entries)
      (few : length (map hold_of v.view.places.held) + length v.view.places.owed ≤ 3) where
    unheld : is_hold place (map hold_of v.view.places.held) ≡ false
    unheld = holds_held place v.view.places.held ∙ none_of (is_at place) v.view.places.held t.has.held

    unowed : is_owed place v.view.places.owed ≡ false
    unowed = none_of (λ p. p == place) v.view.places.owed t.has.owed

    rest_taken : IsAtRest w notes spare
    rest_taken =
        subst (λ p. IsAtRest p notes spare) (sym t.has.same) (record {
          idle = idle_still v _ h.idle refl refl refl refl refl refl;
          settled = settled_taken place v.view.places v.view.buckets.hooks w.view.buckets.hooks h.settled t.has.held t.has.hooks t.has.down;
          own = h.own;
          room = h.room;
          knows = counted _ _ (known_taken (sight_of (clerk_at v spare)) place h.knows below unheld unowed few);
        })

    takes : Takes (sight_of (clerk_at v spare)) (sight_of (clerk_at w spare)) place
    takes =
        subst (λ p. Takes (sight_of (clerk_at v spare)) (sight_of (clerk_at p spare)) place) (sym t.has.same) (record {
          saw = saw_none (sight_of (clerk_at v spare)) _ refl refl refl refl
              (record { tracker = refl; sizes = refl; shares = refl; returned = refl; gathered = refl });
          taken = omega (arith, ap (places_taken (sizes_of v)) t.has.stand ∙ taken_append (sizes_of v) v.view.readings (added v.view w.view), t.once);
          below = below;
          unheld = unheld;
          unowed = unowed;
          holds = record { held = refl; owed = refl };
          alone = λ one. is_unused_after place v.view.seen.front (t.has.unused v.view.seen.front one (h.knows.alone one));
        })

  -- none was free
  finds_full : (at : ℕ) (w : PassSight) → IsFull at v w → FindsFull (sight_of (clerk_at v spare)) (then_of v (clerk_at w spare)) at
  finds_full at w f = record {
    looked = record {
      saw = saw_looked w.view.seen.front w.view.walk w.view.readings w f.same f.all;
      low = omega (arith, f.point, ap length f.all.front.1, length-append v.view.seen.front f.all.front.0);
      fact = record {
        within = omega (arith, f.point);
        fact = omega (
          arith,
          f.full,
          h.knows.shared,
          length-map v.view.places.held hold_of,
          ap (λ (n : ℕ). length (after w.view.seen.front n).records) f.point,
        );
      };
    };
    same = record {
      held = ap (λ (p : PassSight). map hold_of p.view.places.held) f.same;
      owed = ap (λ (p : PassSight). p.view.places.owed) f.same;
    };
    alone = λ one place below.
        in_use place w.view.seen.front w.view.places.held w.view.places.owed
        (omega (arith, f.used (omega (arith, one, h.knows.shared, h.knows.passes)) place below, ap (λ (p : PassSight). uses place p.view) f.same));
  }

  finds_none : (at : ℕ) (w : PassSight) → IsFull at v w → FindsNone at (clerk_at v spare) (clerk_at w spare)
  finds_none at w f = f.empty

  -- whichever it was
  pub rest_taking : (outcome : TakeOutcome) (w : PassSight) → pool.TakeSays outcome v w → IsBelow (sizes_of v).entries outcome
      → length (map hold_of v.view.places.held) + length v.view.places.owed ≤ 3 → IsAtRest w notes spare
  rest_taking (Taken place) w says below few = rest_taken place w says below few
  rest_taking (Full at) w says below few = rest_looked w.view.seen.front w.view.walk w.view.readings w says.same says.all

  pub take_says : (outcome : TakeOutcome) (w : PassSight) → pool.TakeSays outcome v w → IsBelow (sizes_of v).entries outcome
      → length (map hold_of v.view.places.held) + length v.view.places.owed ≤ 3 → ChangesWords (take_words outcome) v.view w.view
      → TakeSays (sight_of (clerk_at v spare)) (sight_of (clerk_at w spare)) outcome
  take_says (Taken place) w says below few words = takes place w says below few
  take_says (Full at) w says below few words =
      now_of (λ (s : Sight). TakeSays (sight_of (clerk_at v spare)) s (Full at)) v (clerk_at w spare) (still_taken is_free_turn v w no_free_turn words) (finds_full at w says)

  pub shows_none : (outcome : TakeOutcome) (w : PassSight) → pool.TakeSays outcome v w → ShowsNone outcome (clerk_at v spare) (clerk_at w spare)
  shows_none (Taken place) w says = tt
  shows_none (Full at) w says = finds_none at w says
