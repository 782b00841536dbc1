-- A clerk that read the entry for which it holds a place.
use Rattle.std.specs.List.{AllByRecursion}
use Rattle.std.specs.Prelude.{◌==◌, ◌||◌, ◌&&◌, if◌then◌else◌, is_some, find}
use Rattle.std.proofs.Common.{◌≡◌, ℕ, ◌<◌, Bool, true, false, Some, None, List, [], ◌∷◌, length, map, refl, sym, ap, subst, ◌∙◌, arith, ⊎_elim, length-append}
use Rattle.std.proofs.lemmas.Bool.{and_parts, cases_Bool, eq-eqb, false≢true, or_cases, or_left, or_right}
use Rattle.room_list.specs.Roomed.{Roomed}
use Rattle.history_book.specs.Desk.{IsRecord, PeekSays, SamePlaces}
use Rattle.history_book.specs.Held as desk
use Rattle.history_book.specs.Held.{held_id, is_held_for_entry}
use Rattle.history_book.specs.History.{after}
use Rattle.history_book.specs.State.{record_of, State}
use Rattle.history_book.specs.declared.desk.Hold.{Hold}
use Rattle.history_book.specs.declared.event.Note.{Note}
use Rattle.history_book.specs.declared.outcome.PeekOutcome.{PeekOutcome}
use Rattle.history_book.specs.declared.outcome.PeekOutcome.TheVariants.{Seen, Gone}
use Rattle.track_rule.specs.KeptWords.{is_for, is_kept_for}
use Rattle.track_rule.specs.References.{held_times, is_at, is_for_new, is_taken}
use Rattle.track_rule.specs.Sights.{PassSight}
use Rattle.track_rule.specs.Sums.{bit}
use Rattle.track_rule.specs.declared.view.Keep.{Keep}
use Rattle.track_rule.specs.declared.view.Purpose.{Purpose}
use Rattle.track_rule.specs.declared.view.Purpose.TheVariants.{Taken, Testing, Shown, For}
use Rattle.shared_desk.specs.Looking.{IsFreeFor, Peeks}
use Rattle.shared_desk.specs.Rest.{IsAtRest, IsSettled}
use Rattle.shared_desk.specs.Sights.{hold_of, sight_of}
use Rattle.shared_desk.proofs.Places.{held_below}
use Rattle.shared_desk.proofs.Resting.{clerk_at, settled_closed, then_of}
use Rattle.shared_desk.proofs.Taking.{rest_looked, saw_looked}
use Rattle.history_book.specs.WentOn.{Looked}
use Rattle.track_rule.specs.History.{state_after}
use Rattle.track_rule.specs.Steps.{AreAll}

-- a place that is held for an entry is held
entry_held : (place : ℕ) (hs : List Hold) → is_held_for_entry place hs ≡ true → desk.is_held place hs ≡ true
entry_held place [] e = absurd (false≢true e)
entry_held place (h ∷ hs) e =
    ⊎_elim (λ (t : (h.place == place && is_some h.id) ≡ true). or_left (h.place == place) (desk.is_held place hs) (and_parts (h.place == place) (is_some h.id) t).0)
    (λ (t : is_held_for_entry place hs ≡ true). or_right (h.place == place) (desk.is_held place hs) (entry_held place hs t))
    (or_cases (h.place == place && is_some h.id) (is_held_for_entry place hs) e)

entry_times : (place : ℕ) (ks : List Keep) → is_held_for_entry place (map hold_of ks) ≡ true → 0 < held_times place ks
entry_times place [] e = absurd (false≢true e)
entry_times place (k ∷ ks) e =
    ⊎_elim (λ (t : (k.place == place && is_some (hold_of k).id) ≡ true). omega (arith, ap bit (and_parts (k.place == place) (is_some (hold_of k).id) t).0))
    (λ (t : is_held_for_entry place (map hold_of ks) ≡ true). omega (arith, entry_times place ks t))
    (or_cases (k.place == place && is_some (hold_of k).id) (is_held_for_entry place (map hold_of ks)) e)

-- the first reference to the place names the id
first_named : (place p : ℕ) (why : Purpose) (ks : List Keep) → IsSettled why → (p == place) ≡ true
    → (is_for_new why ≡ true → held_times place ks ≡ 0)
    → is_held_for_entry place (map hold_of (record { place = p; purpose = why } ∷ ks)) ≡ true
    → is_kept_for place (held_id place (map hold_of (record { place = p; purpose = why } ∷ ks))) (record { place = p; purpose = why } ∷ ks) ≡ true
first_named place p Taken ks s here once e =
    absurd (omega (
      arith,
      once refl,
      ⊎_elim (λ (t : (p == place && false) ≡ true). absurd (false≢true (sym (off (p == place)) ∙ t)))
          (λ (t : is_held_for_entry place (map hold_of ks) ≡ true). entry_times place ks t)
          (or_cases (p == place && false) (is_held_for_entry place (map hold_of ks)) e),
    ))
  where
    off : (b : Bool) → (b && false) ≡ false
    off true = refl
    off false = refl
first_named place p Testing ks s here once e = absurd s
first_named place p (Shown id) ks s here once e = absurd s
first_named place p (For id) ks s here once e =
    ap (λ (b : Bool). is_kept_for place (desk.id_of (if b then Some (record { place = p; id = Some id }) else find (desk.is_at place) (map hold_of ks))) (record { place = p; purpose = For id } ∷ ks)) here
    ∙ or_left (id == id && p == place) (is_kept_for place id ks) ((λ i. eq-eqb id id refl i && here i))

pub kept_id : (place : ℕ) (ks : List Keep) → AllByRecursion (λ (k : Keep). IsSettled k.purpose) ks → (is_taken place ks ≡ true → held_times place ks ≡ 1)
    → is_held_for_entry place (map hold_of ks) ≡ true → is_kept_for place (held_id place (map hold_of ks)) ks ≡ true
kept_id place [] s once e = absurd (false≢true e)
kept_id place (k ∷ ks) s once e =
    ⊎_elim
    (λ (here : (k.place == place) ≡ true).
    first_named place k.place k.purpose ks s.0 here
    (λ new. omega (arith, once (or_left (is_at place k && is_for_new k.purpose) (is_taken place ks) (λ i. here i && new i)), ap bit here)) e)
    (λ (other : (k.place == place) ≡ false).
    ap (λ (b : Bool). is_kept_for place (desk.id_of (if b then Some (hold_of k) else find (desk.is_at place) (map hold_of ks))) (k ∷ ks)) other
    ∙ or_right (is_for (held_id place (map hold_of ks)) k.purpose && is_at place k) (is_kept_for place (held_id place (map hold_of ks)) ks)
    (kept_id place ks s.1
    (λ taken. omega (arith, once (or_right (is_at place k && is_for_new k.purpose) (is_taken place ks) taken), ap bit other))
    (sym (ap (λ (b : Bool). (b && is_some (hold_of k).id) || is_held_for_entry place (map hold_of ks)) other) ∙ e)))
    (cases_Bool (k.place == place))

-- it has seen all events, and made none
module _ (v : PassSight) (notes : Roomed Note) (spare : ℕ) (h : IsAtRest v notes spare) (w : PassSight)
    (same : w ≡ record v { view = record v.view { seen = record v.view.seen { front = w.view.seen.front }; walk = w.view.walk; readings = w.view.readings } })
    (all : AreAll v.view w.view.seen.front) where
  pub rest_looking : IsAtRest w notes spare
  rest_looking = rest_looked v notes spare h w.view.seen.front w.view.walk w.view.readings w same all

  -- at a point after all that it has seen
  pub looks_at : (at : ℕ) (F : State → Type 0) → at ≡ length w.view.seen.front → F (state_after w.view.seen.front)
      → Looked (sight_of (clerk_at v spare)) (then_of v (clerk_at w spare)) at F × SamePlaces (sight_of (clerk_at v spare)) (then_of v (clerk_at w spare))
  looks_at at F point fact = (
    record {
      saw = saw_looked v notes spare h w.view.seen.front w.view.walk w.view.readings w same all;
      low = omega (arith, point, ap length all.front.1, length-append v.view.seen.front all.front.0);
      fact = record {
        within = omega (arith, point);
        fact = subst (λ (n : ℕ). F (after w.view.seen.front n)) (sym point) fact;
      };
    },
    record {
      held = ap (λ (k : PassSight). map hold_of k.view.places.held) same;
      owed = ap (λ (k : PassSight). k.view.places.owed) same;
    },
  )

module _ (v : PassSight) (notes : Roomed Note) (spare place : ℕ) (h : IsAtRest v notes spare)
    (held : is_held_for_entry place (map hold_of v.view.places.held) ≡ true) where
  pub free_for : IsFreeFor place v
  free_for = record {
    below = held_below (sight_of (clerk_at v spare)) place h.knows (entry_held place (map hold_of v.view.places.held) held);
    hand = h.idle.hand;
    expected = h.idle.expected;
    shut = h.idle.shut;
    calm = h.idle.middle;
    free = h.idle.free;
    closed = settled_closed v.view.places.held h.settled.purposes;
  }

  pub kept : is_kept_for place (held_id place (map hold_of v.view.places.held)) v.view.places.held ≡ true
  kept = kept_id place v.view.places.held h.settled.purposes (λ t. (h.settled.taken place t).once) held

  pub rest_peeked : (o : PeekOutcome) (w : PassSight) → Peeks place o v w → IsAtRest w notes spare
  rest_peeked o w p = rest_looking v notes spare h w p.same p.all

  pub says_peeked : (o : PeekOutcome) (w : PassSight) → Peeks place o v w → PeekSays place (sight_of (clerk_at v spare)) (then_of v (clerk_at w spare)) o
  says_peeked (Seen subject at) w p =
      let is = p.is (held_id place (map hold_of v.view.places.held)) kept in
      looks_at v notes spare h w p.same p.all at (IsRecord (held_id place (map hold_of v.view.places.held)) subject) is.0 is.1
  says_peeked (Gone at) w p =
      let is = p.is (held_id place (map hold_of v.view.places.held)) kept in
      looks_at v notes spare h w p.same p.all at (λ s. record_of (held_id place (map hold_of v.view.places.held)) s ≡ None) is.0 is.1
