-- A clerk that made one event of its own, or none, while it held what it holds.
use Rattle.std.specs.List.{slice_get}
use Rattle.std.specs.Prelude.{◌^◌}
use Rattle.std.proofs.Common.{◌≡◌, ℕ, ◌+◌, ◌-◌, ◌<◌, ◌≤◌, Option, Some, None, List, [], ◌∷◌, ◌++◌, length, map, refl, sym, ap, subst, ◌∙◌, arith, length-append, append_assoc, true}
use Rattle.std.proofs.lemmas.List.Elements.{All-append, All-cons, All-nil}
use Rattle.std.proofs.lemmas.Option.{slice_get_within}
use Rattle.room_list.specs.Roomed.{Roomed}
use Rattle.history_book.specs.Desk.{SamePlaces}
use Rattle.history_book.specs.Held.{held_id, is_held_for_entry}
use Rattle.history_book.specs.History.{after, is_legal}
use Rattle.history_book.specs.Laws.{StatesStay}
use Rattle.history_book.specs.Point.{At, StartsWith}
use Rattle.history_book.specs.Sight.{IsKnown, Sight, notes_from}
use Rattle.history_book.specs.State.{State}
use Rattle.history_book.specs.WentOn.{Looked, MadeEvent}
use Rattle.history_book.specs.declared.desk.Hold.{Hold}
use Rattle.history_book.specs.declared.event.Event.{Event}
use Rattle.history_book.specs.declared.event.Note.{Note}
use Rattle.track_rule.specs.History.{state_after}
use Rattle.track_rule.specs.Sights.{PassSight}
use Rattle.track_rule.specs.Steps.{AreAll}
use Rattle.shared_desk.specs.Claiming.{HasMade}
use Rattle.shared_desk.specs.Noting.{room_after, with_note}
use Rattle.shared_desk.specs.Rest.{IsAtRest}
use Rattle.shared_desk.specs.Sights.{hold_of, sight_of}
use Rattle.shared_desk.specs.Touching.{IsLeft, Notes}
use Rattle.shared_desk.proofs.Entered.{get_last, notes_push, pairs_push}
use Rattle.shared_desk.proofs.Known.{entry_later, events_later, counted}
use Rattle.shared_desk.proofs.Peeking.{kept, looks_at, rest_looking}
use Rattle.shared_desk.proofs.Resting.{clerk_at, idle_still, then_of}

-- the desk has made one event more, and holds what it held
pub known_made : (s : Sight) (e : Event) (number spare : ℕ) (log : List Event) → IsKnown s → StartsWith log s.front → number ≡ length log
    → is_legal s.sizes (log ++ e ∷ []) ≡ true → length log + 1 < 2 ^ 40 → length s.own + 1 + spare ≤ 2 ^ 30
    → (s.sizes.passes ≡ 1 → s.own ≡ notes_from 0 log)
    → IsKnown (record s { front = log ++ e ∷ []; own = s.own ++ record { number = number; event = e } ∷ []; spare = spare })
known_made s e number spare log k starts is legal few spared alone =
    let starts_all : StartsWith (log ++ e ∷ []) s.front = (starts.0 ++ e ∷ [], ap (λ es. es ++ e ∷ []) starts.1 ∙ append_assoc s.front starts.0 (e ∷ [])) in
    let here : slice_get (log ++ e ∷ []) number ≡ Some e = ap (λ (n : ℕ). slice_get (log ++ e ∷ []) n) is ∙ get_last log e in
    record {
      legal = legal;
      few = omega (arith, few, length-append log (e ∷ []));
      own = All-append (λ n. slice_get (log ++ e ∷ []) n.number ≡ Some n.event) s.own _ (events_later (log ++ e ∷ []) s.front s.own starts_all k.own)
          (All-cons (λ (n : Note). slice_get (log ++ e ∷ []) n.number ≡ Some n.event) _ [] here (All-nil (λ (n : Note). slice_get (log ++ e ∷ []) n.number ≡ Some n.event)));
      ordered = pairs_push (λ (m n : Note). m.number < n.number) s.own (record { number = number; event = e }) k.ordered
          (λ i d short. omega (arith, is, slice_get_within s.front _ _ (k.own i d short), ap length starts.1, length-append s.front starts.0));
      held = λ i d short. let h = k.held i d short in (h.0, entry_later (log ++ e ∷ []) s.front _ _ starts_all h.1);
      agreed = k.agreed;
      owed = k.owed;
      unowed = k.unowed;
      once = k.once;
      places = k.places;
      spared = omega (arith, spared, length-append s.own (record { number = number; event = e } ∷ []));
      shared = k.shared;
      passes = k.passes;
      gathered = events_later (log ++ e ∷ []) s.front s.gathered starts_all k.gathered;
      gathered_few = k.gathered_few;
      alone = λ one. ap (λ ns. ns ++ record { number = number; event = e } ∷ []) (alone one)
          ∙ ap (λ (n : ℕ). notes_from 0 log ++ record { number = n; event = e } ∷ []) (omega (arith, is))
          ∙ sym (notes_push 0 log e);
    }

-- what is noted is what was made
pub noted_one : (made : Option Note) (old new : List Note) (n : Note) → Notes made old new → new ≡ old ++ n ∷ []
    → (m : Note) × (made ≡ Some m) × (new ≡ old ++ m ∷ [])
noted_one None old new n is one = absurd (omega (arith, ap length is, ap length one, length-append old (n ∷ [])))
noted_one (Some m) old new n is one = (m, refl, is)

pub noted_none : (made : Option Note) (old new : List Note) → Notes made old new → new ≡ old → made ≡ None
noted_none None old new is none = refl
noted_none (Some m) old new is none = absurd (omega (arith, ap length is, ap length none, length-append old (m ∷ [])))

-- the event is the desk's own, behind all that it had seen
pub made_here : (s : Sight) (held : List Hold) (e : Event) (number : ℕ) (log : List Event) → StartsWith log s.front → number ≡ length log → 1 ≤ s.spare
    → MadeEvent s (record s { front = log ++ e ∷ []; own = s.own ++ record { number = number; event = e } ∷ []; held = held; spare = s.spare - 1 }) number e
made_here s held e number log starts is room = record {
  went = record {
    front = (starts.0 ++ e ∷ [], ap (λ es. es ++ e ∷ []) starts.1 ∙ append_assoc s.front starts.0 (e ∷ []));
    own = refl;
    spare = omega (arith, room);
    pass = record { tracker = refl; sizes = refl; shares = refl; returned = refl; gathered = refl };
  };
  spare = omega (arith, room);
  low = omega (arith, is, ap length starts.1, length-append s.front starts.0);
  high = omega (arith, is, length-append log (e ∷ []));
  happened = ap (λ (n : ℕ). slice_get (log ++ e ∷ []) n) is ∙ get_last log e;
  taken = refl;
}

-- what was so before it is so at its number
pub so_before : StatesStay → (log : List Event) (e : Event) (number : ℕ) (F : State → Type 0) → number ≡ length log → F (state_after log) → At (log ++ e ∷ []) number F
so_before stay log e number F is fact = record {
  within = omega (arith, is, length-append log (e ∷ []));
  fact = subst (λ (n : ℕ). F (after (log ++ e ∷ []) n)) (sym is)
      (subst F (sym (stay (log ++ e ∷ []) log (length log) (e ∷ [], refl) (omega arith)).1) fact);
}

-- it made this event
module _ (v : PassSight) (notes : Roomed Note) (spare : ℕ) (h : IsAtRest v notes spare) (room : 1 ≤ spare) (number : ℕ) (e : Event) (w : PassSight)
    (m : HasMade number e v w) (made : Option Note) (is : Notes made v.view.seen.own w.view.seen.own) where
  one : (n : Note) × (made ≡ Some n) × (w.view.seen.own ≡ v.view.seen.own ++ n ∷ [])
  one = noted_one made v.view.seen.own w.view.seen.own (record { number = number; event = e }) is (ap (λ (k : PassSight). k.view.seen.own) m.same)

  rest_one : (n : Note) → w.view.seen.own ≡ v.view.seen.own ++ n ∷ [] → IsAtRest w (record notes { items = notes.items ++ n ∷ [] }) (spare - 1)
  rest_one n own =
      subst (λ k. IsAtRest k (record notes { items = notes.items ++ n ∷ [] }) (spare - 1)) (sym m.same) (record {
        idle = idle_still v _ h.idle refl refl refl refl refl refl;
        settled = h.settled;
        own = ap (λ ns. ns ++ n ∷ []) h.own ∙ sym own ∙ ap (λ (k : PassSight). k.view.seen.own) m.same;
        room = omega (arith, h.room, room, length-append notes.items (n ∷ []));
        knows = counted _ _ (known_made (sight_of (clerk_at v spare)) e number (spare - 1) m.log h.knows m.all.front m.number_is m.legal
            (omega (arith, m.all.few, m.all.passes)) (omega (arith, room, h.knows.spared)) m.all.alone);
      })

  pub rest_made : IsAtRest w (with_note made notes) (room_after made spare)
  rest_made = subst (λ (o : Option Note). IsAtRest w (with_note o notes) (room_after o spare)) (sym one.1) (rest_one one.0 one.2)

  pub says_made : MadeEvent (sight_of (clerk_at v spare)) (then_of v (clerk_at w (room_after made spare))) number e
      × SamePlaces (sight_of (clerk_at v spare)) (then_of v (clerk_at w (room_after made spare)))
  says_made =
      subst (λ (o : Option Note). MadeEvent (sight_of (clerk_at v spare)) (then_of v (clerk_at w (room_after o spare))) number e
      × SamePlaces (sight_of (clerk_at v spare)) (then_of v (clerk_at w (room_after o spare)))) (sym one.1)
      (subst (λ k. MadeEvent (sight_of (clerk_at v spare)) (then_of v (clerk_at k (spare - 1))) number e
      × SamePlaces (sight_of (clerk_at v spare)) (then_of v (clerk_at k (spare - 1)))) (sym m.same)
      (made_here (sight_of (clerk_at v spare)) (map hold_of v.view.places.held) e number m.log m.all.front m.number_is room, record { held = refl; owed = refl }))

-- it made none, and looked
module _ (v : PassSight) (notes : Roomed Note) (spare : ℕ) (h : IsAtRest v notes spare) (w : PassSight)
    (same : w ≡ record v { view = record v.view { seen = record v.view.seen { front = w.view.seen.front }; walk = w.view.walk; readings = w.view.readings } })
    (all : AreAll v.view w.view.seen.front) (made : Option Note) (is : Notes made v.view.seen.own w.view.seen.own) where
  none_made : made ≡ None
  none_made = noted_none made v.view.seen.own w.view.seen.own is (ap (λ (k : PassSight). k.view.seen.own) same)

  pub rest_unmade : IsAtRest w (with_note made notes) (room_after made spare)
  rest_unmade =
      subst (λ (m : Option Note). IsAtRest w (with_note m notes) (room_after m spare)) (sym none_made) (rest_looking v notes spare h w same all)

  pub looks_unmade : (at : ℕ) (F : State → Type 0) → at ≡ length w.view.seen.front → F (state_after w.view.seen.front)
      → Looked (sight_of (clerk_at v spare)) (then_of v (clerk_at w (room_after made spare))) at F
      × SamePlaces (sight_of (clerk_at v spare)) (then_of v (clerk_at w (room_after made spare)))
  looks_unmade at F point fact =
      subst (λ (m : Option Note). Looked (sight_of (clerk_at v spare)) (then_of v (clerk_at w (room_after m spare))) at F
      × SamePlaces (sight_of (clerk_at v spare)) (then_of v (clerk_at w (room_after m spare)))) (sym none_made)
      (looks_at v notes spare h w same all at F point fact)

-- the entry for which it holds a place was left as it is
module _ (v : PassSight) (notes : Roomed Note) (spare place : ℕ) (h : IsAtRest v notes spare)
    (held : is_held_for_entry place (map hold_of v.view.places.held) ≡ true) (at : ℕ) (F : ℕ → List Event → Type 0) (w : PassSight) (l : IsLeft place at F v w)
    (made : Option Note) (is : Notes made v.view.seen.own w.view.seen.own) where
  pub rest_left : IsAtRest w (with_note made notes) (room_after made spare)
  rest_left = rest_unmade v notes spare h w l.same l.all made is

  pub looks_left : (G : State → Type 0) → (F (held_id place (map hold_of v.view.places.held)) w.view.seen.front → G (state_after w.view.seen.front))
      → Looked (sight_of (clerk_at v spare)) (then_of v (clerk_at w (room_after made spare))) at G
      × SamePlaces (sight_of (clerk_at v spare)) (then_of v (clerk_at w (room_after made spare)))
  looks_left G from =
      looks_unmade v notes spare h w l.same l.all made is at G l.point
      (from (l.is (held_id place (map hold_of v.view.places.held)) (kept v notes spare place h held)))
