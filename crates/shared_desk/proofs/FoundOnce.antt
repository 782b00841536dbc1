-- A clerk that looked once for what is live under a tuple.
use Rattle.history_book.specs.Desk.{FindSays}
use Rattle.history_book.specs.Sight.{Sight}
use Rattle.history_book.specs.declared.outcome.FindOutcome.TheVariants as find
use Rattle.shared_desk.specs.Sights.{taken_by}
use Rattle.std.specs.Prelude.{◌==◌}
use Rattle.std.proofs.Common.{◌≡◌, ℕ, ◌+◌, ◌≤◌, true, Option, Some, None, List, [], length, map, refl, sym, ap, subst, ◌∙◌, arith, ⊎_elim, length-append, append-nil}
use Rattle.std.proofs.lemmas.Bool.{or_right}
use Rattle.std.proofs.lemmas.List.{length-map}
use Rattle.room_list.specs.Roomed.{Roomed}
use Rattle.tuple_core.specs.declared.Direction.{Direction}
use Rattle.tuple_core.specs.declared.Tuple.{Tuple}
use Rattle.history_book.specs.Desk.{HoldsOneMore, IsLiveUnder, SamePlaces}
use Rattle.history_book.specs.History.{after}
use Rattle.history_book.specs.Point.{StartsWith}
use Rattle.history_book.specs.Sight.{IsKnown}
use Rattle.history_book.specs.State.{live_under}
use Rattle.history_book.specs.WentOn.{Looked, Saw}
use Rattle.history_book.specs.declared.event.Event.{Event}
use Rattle.history_book.specs.declared.event.Note.{Note}
use Rattle.track_rule.specs.Free.{is_among}
use Rattle.track_rule.specs.References.{is_at}
use Rattle.track_rule.specs.Sights.{PassSight, sizes_of}
use Rattle.track_rule.specs.Steps.{AreAll}
use Rattle.track_rule.specs.declared.view.Hook.{Hook}
use Rattle.track_rule.specs.declared.view.Places.{Places}
use Rattle.bucket_table.specs.Finding.{CanTest, HasMoved, IsNewlyOwed, owed_more}
use Rattle.bucket_table.specs.declared.finding.FindOnce.{FindOnce}
use Rattle.bucket_table.specs.declared.finding.FindOnce.TheVariants.{Found, Absent, Moved}
use Rattle.shared_desk.specs.FindsOnce.{FindOnceSays, WasMoved}
use Rattle.shared_desk.specs.Lookups.{FindsLive, FindsNobody, LooksOnce}
use Rattle.shared_desk.specs.Rest.{AreSettled, IsAtRest, IsPrepared}
use Rattle.shared_desk.specs.Sights.{hold_of, sight_of}
use Rattle.shared_desk.proofs.Committing.{taken_held}
use Rattle.shared_desk.proofs.HoldingRest.{all_agreed, settled_held}
use Rattle.shared_desk.proofs.Known.{known_held, known_later, known_owing, counted}
use Rattle.shared_desk.proofs.Lists.{none_of, some_of}
use Rattle.shared_desk.proofs.Resting.{clerk_at, holds_held, idle_still, saw_more, settled_closed, then_of, now_of}
use Rattle.shared_desk.proofs.Taking.{rest_looked, saw_looked}

-- a place more is owed
settled_owing : (o : Option ℕ) (places : Places) (hooks : List Hook) → AreSettled places hooks → AreSettled (record places { owed = owed_more o places.owed }) hooks
settled_owing o places hooks h = record {
  purposes = h.purposes;
  taken = λ p e. let k : IsPrepared p places hooks = h.taken p e in record { once = k.once; owned = k.owned; original = k.original; reply = k.reply };
  down = h.down;
  some = h.some;
  links = h.links;
  owned = h.owned;
  clear = λ p e. still o p (h.clear p e);
}
  where
    still : (q : Option ℕ) (p : ℕ) → is_among p places.owed ≡ true → is_among p (owed_more q places.owed) ≡ true
    still None p e = e
    still (Some a) p e = or_right (a == p) (is_among p places.owed) e

module _ (v : PassSight) (notes : Roomed Note) (spare : ℕ) (h : IsAtRest v notes spare) (few : length (map hold_of v.view.places.held) + length v.view.places.owed ≤ 3) where
  pub can_test : CanTest v
  can_test = record {
    few = omega (arith, few, length-map v.view.places.held hold_of);
    hand = h.idle.hand;
    carried = h.idle.carried;
    down = h.settled.down;
    closed = settled_closed v.view.places.held h.settled.purposes;
    hooks = λ p e. some_of (is_at p) v.view.places.held (taken_held p v.view.places.held (h.settled.links p e));
    owned = h.settled.owned;
  }

  -- what it has seen then
  known_seen : (front : List Event) → AreAll v.view front → IsKnown (record (sight_of (clerk_at v spare)) { front = front })
  known_seen front all = known_later (sight_of (clerk_at v spare)) front h.knows all.front all.legal (omega (arith, all.few, all.passes)) all.alone

  -- FOUND
  module _ (t : Tuple) (place id at : ℕ) (d : Direction) (w : PassSight) (f : FindsLive t place id d at v w) where
    rest_found : IsAtRest w notes spare
    rest_found =
        subst (λ p. IsAtRest p notes spare) (sym f.found.same) (record {
          idle = idle_still v _ h.idle refl refl refl refl refl refl;
          settled = settled_held place id v.view.places v.view.buckets.hooks h.settled f.found.untaken;
          own = h.own;
          room = h.room;
          knows = counted _ _ (known_held (record (sight_of (clerk_at v spare)) { front = w.view.seen.front }) place id (known_seen w.view.seen.front f.found.all) f.found.below
              (record { subject = f.found.was.subject; event = f.found.was.event; placed = f.found.was.its_place })
              (all_agreed place id v.view.places.held h.settled.purposes f.found.untaken f.found.agreed) (none_of (λ p. p == place) v.view.places.owed f.found.owed) few);
        })

    found_looked : Looked (sight_of (clerk_at v spare)) (then_of v (clerk_at w spare)) at (IsLiveUnder t place id d)
    found_looked = record {
      saw = subst (λ p. Saw (sight_of (clerk_at v spare)) (then_of v (clerk_at p spare))) (sym f.found.same)
          (saw_more (sight_of (clerk_at v spare)) _ f.found.all.front refl refl refl (record { tracker = refl; sizes = refl; shares = refl; returned = refl; gathered = refl }));
      low = omega (arith, f.found.point, ap length f.found.all.front.1, length-append v.view.seen.front f.found.all.front.0);
      fact = record {
        within = omega (arith, f.found.point);
        fact = subst (λ (n : ℕ). IsLiveUnder t place id d (after w.view.seen.front n)) (sym f.found.point) f.live;
      };
    }

    found_holds : HoldsOneMore (sight_of (clerk_at v spare)) (then_of v (clerk_at w spare)) place (Some id)
    found_holds = record {
      held = ap (λ (p : PassSight). map hold_of p.view.places.held) f.found.same;
      owed = ap (λ (p : PassSight). p.view.places.owed) f.found.same;
    }

  -- NOBODY
  nobody_looked : (t : Tuple) (at : ℕ) (w : PassSight) → FindsNobody t at v w
      → Looked (sight_of (clerk_at v spare)) (then_of v (clerk_at w spare)) at (λ s. live_under t s ≡ None) × SamePlaces (sight_of (clerk_at v spare)) (then_of v (clerk_at w spare))
  nobody_looked t at w f = (
    record {
      saw = saw_looked v notes spare h w.view.seen.front w.view.walk w.view.readings w f.same f.all;
      low = omega (arith, f.point, ap length f.all.front.1, length-append v.view.seen.front f.all.front.0);
      fact = record {
        within = omega (arith, f.point);
        fact = subst (λ (n : ℕ). live_under t (after w.view.seen.front n) ≡ None) (sym f.point) f.none;
      };
    },
    record {
      held = ap (λ (p : PassSight). map hold_of p.view.places.held) f.same;
      owed = ap (λ (p : PassSight). p.view.places.owed) f.same;
    },
  )

  -- MOVED
  module _ (t : Tuple) (word was now : ℕ) (o : Option ℕ) (w : PassSight) (m : HasMoved t word was now o v w) where
    starts : StartsWith w.view.seen.front v.view.seen.front
    starts =
        ⊎_elim (λ (e : w.view.seen.front ≡ v.view.seen.front). ([], e ∙ sym (append-nil v.view.seen.front))) (λ (a : AreAll v.view w.view.seen.front). a.front) m.seen

    knows_front : IsKnown (record (sight_of (clerk_at v spare)) { front = w.view.seen.front })
    knows_front =
        ⊎_elim (λ (e : w.view.seen.front ≡ v.view.seen.front). subst (λ (l : List Event). IsKnown (record (sight_of (clerk_at v spare)) { front = l })) (sym e) h.knows)
        (λ (a : AreAll v.view w.view.seen.front). known_seen w.view.seen.front a) m.seen

    knows_owing : (q : Option ℕ) → IsNewlyOwed q (sizes_of v).entries v.view.places.owed v.view.places.held
        → IsKnown (record (sight_of (clerk_at v spare)) { front = w.view.seen.front; owed = owed_more q v.view.places.owed })
    knows_owing None n = knows_front
    knows_owing (Some p) n =
        known_owing (record (sight_of (clerk_at v spare)) { front = w.view.seen.front }) p knows_front n.0
        (holds_held p v.view.places.held ∙ none_of (is_at p) v.view.places.held n.2) (none_of (λ q. q == p) v.view.places.owed n.1) few

    rest_moved : IsAtRest w notes spare
    rest_moved =
        subst (λ p. IsAtRest p notes spare) (sym m.same) (record {
          idle = idle_still v _ h.idle refl refl refl refl refl refl;
          settled = settled_owing o v.view.places v.view.buckets.hooks h.settled;
          own = h.own;
          room = h.room;
          knows = counted _ _ (knows_owing o m.owes);
        })

    was_moved : taken_by w ≡ taken_by v → WasMoved t word was now o (clerk_at v spare) (clerk_at w spare)
    was_moved still = record {
      saw = now_of (λ (s : Sight). Saw (sight_of (clerk_at v spare)) s) v (clerk_at w spare) still (subst (λ p. Saw (sight_of (clerk_at v spare)) (then_of v (clerk_at p spare))) (sym m.same)
          (saw_more (sight_of (clerk_at v spare)) _ starts refl refl refl (record { tracker = refl; sizes = refl; shares = refl; returned = refl; gathered = refl })));
      held = ap (λ (p : PassSight). map hold_of p.view.places.held) m.same;
      owed_is = ap (λ (p : PassSight). p.view.places.owed) m.same;
      cause = m.cause;
      last = m.last;
      many = m.many;
    }

  -- WHICHEVER IT WAS
  pub rest_once : (r : FindOnce) (t : Tuple) (w : PassSight) → LooksOnce r t v w → IsAtRest w notes spare
  rest_once (Found place id d at) t w f = rest_found t place id at d w f
  rest_once (Absent at) t w f = rest_looked v notes spare h w.view.seen.front w.view.walk w.view.readings w f.same f.all
  rest_once (Moved word was now o) t w f = rest_moved t word was now o w f

  pub says_once : (r : FindOnce) (t : Tuple) (w : PassSight) → LooksOnce r t v w → taken_by w ≡ taken_by v → FindOnceSays r t (clerk_at v spare) (clerk_at w spare)
  says_once (Found place id d at) t w f still =
      now_of (λ (s : Sight). FindSays t (sight_of (clerk_at v spare)) s (find.Found place id d at)) v (clerk_at w spare) still
      (found_looked t place id at d w f, found_holds t place id at d w f)
  says_once (Absent at) t w f still =
      now_of (λ (s : Sight). FindSays t (sight_of (clerk_at v spare)) s (find.Absent at)) v (clerk_at w spare) still (nobody_looked t at w f)
  says_once (Moved word was now o) t w f still = was_moved t word was now o w f still
