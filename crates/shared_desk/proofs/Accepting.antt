-- A clerk that touched the entry for which it holds a place.
use Rattle.shared_desk.proofs.Known.{counted}
use Rattle.std.specs.Prelude.{◌^◌}
use Rattle.std.proofs.Common.{◌≡◌, ℕ, ◌-◌, ◌≤◌, true, Option, Some, None, List, [], ◌∷◌, ◌++◌, length, map, refl, sym, ap, subst, ◌∙◌, arith, length-append}
use Rattle.room_list.specs.Roomed.{Roomed}
use Rattle.proto_rules.specs.declared.Outcome.{Outcome}
use Rattle.proto_rules.specs.declared.Outcome.TheVariants as outcome
use Rattle.history_book.specs.Desk.{IsRecord, Leaves, StepGives, TouchSays}
use Rattle.history_book.specs.Entry.{is_of_entry}
use Rattle.history_book.specs.Held.{held_id, is_held_for_entry}
use Rattle.history_book.specs.History.{after}
use Rattle.history_book.specs.Laws.{StatesStay}
use Rattle.history_book.specs.State.{record_of}
use Rattle.history_book.specs.declared.event.Event.{Event}
use Rattle.history_book.specs.declared.event.Note.{Note}
use Rattle.history_book.specs.declared.outcome.TouchOutcome.{TouchOutcome}
use Rattle.history_book.specs.declared.outcome.TouchOutcome.TheVariants as touch
use Rattle.history_book.specs.declared.record.Record.{Record}
use Rattle.track_rule.specs.Sights.{PassSight}
use Rattle.shared_desk.specs.Noting.{room_after, with_note}
use Rattle.shared_desk.specs.Rest.{IsAtRest}
use Rattle.shared_desk.specs.Sights.{hold_of, sight_of}
use Rattle.shared_desk.specs.Touching.{Gives, IsLeft, IsNotLive, IsTouched, Notes, SuitsEntry, TouchesLive, touch_of}
use Rattle.shared_desk.specs.declared.touching.EntryPacket.{EntryPacket}
use Rattle.shared_desk.proofs.Noted.{known_made, looks_left, made_here, noted_one, rest_left, so_before}
use Rattle.shared_desk.proofs.Peeking.{kept}
use Rattle.shared_desk.proofs.Resting.{clerk_at, idle_still, then_of}

module _ (v : PassSight) (notes : Roomed Note) (spare place : ℕ) (p : EntryPacket) (h : IsAtRest v notes spare)
    (held : is_held_for_entry place (map hold_of v.view.places.held) ≡ true) (room : 1 ≤ spare) where
  id : ℕ
  id = held_id place (map hold_of v.view.places.held)

  pub suits_entry : is_of_entry p.segment (held_id place (map hold_of v.view.places.held)) v.view.seen.front ≡ true → p.moment ≤ 10 ^ 16 → SuitsEntry place p v
  suits_entry protocol timely = record {
    id = held_id place (map hold_of v.view.places.held);
    kept = kept v notes spare place h held;
    protocol = protocol;
    timely = timely;
    few = omega (arith, room, h.knows.spared);
  }

  -- the entry was touched
  module _ (number : ℕ) (q : Record) (w : PassSight) (t : IsTouched place p number q v w) where
    made : Event
    made = touch_of p t.id t.after

    rest_touched : (m : Note) → w.view.seen.own ≡ v.view.seen.own ++ m ∷ [] → IsAtRest w (record notes { items = notes.items ++ m ∷ [] }) (spare - 1)
    rest_touched m own =
        subst (λ k. IsAtRest k (record notes { items = notes.items ++ m ∷ [] }) (spare - 1)) (sym t.same) (record {
          idle = idle_still v _ h.idle refl refl refl refl refl refl;
          settled = h.settled;
          own = ap (λ ns. ns ++ m ∷ []) h.own ∙ sym own ∙ ap (λ (k : PassSight). k.view.seen.own) t.same;
          room = omega (arith, h.room, room, length-append notes.items (m ∷ []));
          knows = counted _ _ (known_made (sight_of (clerk_at v spare)) (touch_of p t.id t.after) number (spare - 1) t.log h.knows t.all.front t.number_is t.legal
              (omega (arith, t.all.few, t.all.passes)) (omega (arith, room, h.knows.spared)) t.all.alone);
        })

    says_touched : StatesStay → TouchSays place p.direction p.segment p.moment (sight_of (clerk_at v spare)) (then_of v (clerk_at w (spare - 1))) (touch.Touched number q)
    says_touched stay =
        subst (λ k. TouchSays place p.direction p.segment p.moment (sight_of (clerk_at v spare)) (then_of v (clerk_at k (spare - 1))) (touch.Touched number q)) (sym t.same)
        (subst (λ (i : ℕ). TouchSays place p.direction p.segment p.moment (sight_of (clerk_at v spare)) (then_of v (clerk_at (record v {
          view = record v.view {
            seen = record v.view.seen {
              front = t.log ++ touch_of p i t.after ∷ [];
              own = v.view.seen.own ++ record { number = number; event = touch_of p i t.after } ∷ [];
            };
            walk = None;
            readings = w.view.readings;
          };
        }) (spare - 1))) (touch.Touched number q)) (t.its (held_id place (map hold_of v.view.places.held)) (kept v notes spare place h held)) (record {
          after = t.after;
          made = made_here (sight_of (clerk_at v spare)) (map hold_of v.view.places.held) own_touch number t.log t.all.front t.number_is room;
          found = so_before stay t.log own_touch number (IsRecord (held_id place (map hold_of v.view.places.held)) q) t.number_is found_then;
          step = t.step;
          same = record { held = refl; owed = refl };
        }))
      where
        own_touch : Event
        own_touch = touch_of p (held_id place (map hold_of v.view.places.held)) t.after

        found_then : record_of (held_id place (map hold_of v.view.places.held)) (after t.log (length t.log)) ≡ Some q
        found_then = ap (λ (i : ℕ). record_of i (after t.log (length t.log))) (t.its (held_id place (map hold_of v.view.places.held)) (kept v notes spare place h held)) ∙ t.found

  -- it was left as it is
  pass_left : (at : ℕ) (F : ℕ → List Event → Type 0) (w : PassSight) → IsLeft place at F v w → (made : Option Note) → Notes made v.view.seen.own w.view.seen.own
      → IsAtRest w (with_note made notes) (room_after made spare)
  pass_left at F w l made is = rest_left v notes spare place h held at F w l made is

  pub rest_touching : (o : TouchOutcome) (w : PassSight) (made : Option Note) → TouchesLive place p o v w → Notes made v.view.seen.own w.view.seen.own
      → IsAtRest w (with_note made notes) (room_after made spare)
  rest_touching (touch.Touched number q) w made t is =
      let one = noted_one made v.view.seen.own w.view.seen.own (record { number = number; event = touch_of p t.id t.after }) is (ap (λ (k : PassSight). k.view.seen.own) t.same) in
      subst (λ (m : Option Note). IsAtRest w (with_note m notes) (room_after m spare)) (sym one.1) (rest_touched number q w t one.0 one.2)
  rest_touching (touch.Ignored at) w made t is = pass_left at (Gives p outcome.Ignore) w t made is
  rest_touching (touch.Invalid at) w made t is = pass_left at (Gives p outcome.Invalid) w t made is
  rest_touching (touch.Reopen at) w made t is = pass_left at (Gives p outcome.Reopen) w t made is
  rest_touching (touch.Reset at) w made t is = pass_left at (Gives p outcome.Reset) w t made is
  rest_touching (touch.Expired at) w made t is = pass_left at (Gives p outcome.Expired) w t made is
  rest_touching (touch.Gone at) w made t is = pass_left at IsNotLive w t made is

  left_says : (o : Outcome) (at : ℕ) (w : PassSight) → IsLeft place at (Gives p o) v w → (made : Option Note) → Notes made v.view.seen.own w.view.seen.own
      → Leaves (held_id place (map hold_of v.view.places.held)) p.direction p.segment p.moment o (sight_of (clerk_at v spare)) (then_of v (clerk_at w (room_after made spare))) at
  left_says o at w l made is =
      looks_left v notes spare place h held at (Gives p o) w l made is
      (StepGives (held_id place (map hold_of v.view.places.held)) p.direction p.segment p.moment o) (λ fact. fact)

  pub says_touching : StatesStay → (o : TouchOutcome) (w : PassSight) (made : Option Note) → TouchesLive place p o v w → Notes made v.view.seen.own w.view.seen.own
      → TouchSays place p.direction p.segment p.moment (sight_of (clerk_at v spare)) (then_of v (clerk_at w (room_after made spare))) o
  says_touching stay (touch.Touched number q) w made t is =
      let one = noted_one made v.view.seen.own w.view.seen.own (record { number = number; event = touch_of p t.id t.after }) is (ap (λ (k : PassSight). k.view.seen.own) t.same) in
      subst (λ (m : Option Note). TouchSays place p.direction p.segment p.moment (sight_of (clerk_at v spare)) (then_of v (clerk_at w (room_after m spare))) (touch.Touched number q))
      (sym one.1) (says_touched number q w t stay)
  says_touching stay (touch.Ignored at) w made t is = left_says outcome.Ignore at w t made is
  says_touching stay (touch.Invalid at) w made t is = left_says outcome.Invalid at w t made is
  says_touching stay (touch.Reopen at) w made t is = left_says outcome.Reopen at w t made is
  says_touching stay (touch.Reset at) w made t is = left_says outcome.Reset at w t made is
  says_touching stay (touch.Expired at) w made t is = left_says outcome.Expired at w t made is
  says_touching stay (touch.Gone at) w made t is =
      looks_left v notes spare place h held at IsNotLive w t made is (λ s. record_of (held_id place (map hold_of v.view.places.held)) s ≡ None) (λ fact. fact)
