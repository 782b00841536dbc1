-- A clerk that gave up a reference, or made a place free.
use Rattle.std.specs.Prelude.{◌==◌, ◌||◌, not}
use Rattle.std.proofs.Common.{◌≡◌, ℕ, ◌+◌, true, false, List, ◌∷◌, length, map, refl, sym, ap, subst, ◌∙◌, arith}
use Rattle.std.proofs.lemmas.Bool.{or_from, or_right, not_from_true}
use Rattle.room_list.specs.Roomed.{Roomed}
use Rattle.history_book.specs.declared.event.Note.{Note}
use Rattle.history_book.specs.declared.outcome.ReleaseOutcome.{ReleaseOutcome}
use Rattle.history_book.specs.declared.outcome.ReleaseOutcome.TheVariants.{Kept, Last}
use Rattle.history_book.specs.Desk.{KeepsPlace, OwesPlace, RecycleSays, is_in_use}
use Rattle.history_book.specs.Desk as desk
use Rattle.history_book.specs.Held.{is_held as is_hold, is_owed}
use Rattle.history_book.specs.History.{after}
use Rattle.history_book.specs.Sight.{IsKnown}
use Rattle.history_book.specs.State.{is_unused}
use Rattle.track_rule.specs.declared.view.Middle.{Middle}
use Rattle.track_rule.specs.Free.{is_among, taken_out}
use Rattle.track_rule.specs.History.{records_after}
use Rattle.track_rule.specs.Links.{RaisesNone}
use Rattle.track_rule.specs.Phases.{middle_weight, of_place}
use Rattle.track_rule.specs.References.{held_times, is_at, is_held, without}
use Rattle.track_rule.specs.Sights.{PassSight, sizes_of}
use Rattle.track_rule.specs.Steps.{AreOwn, IsCount}
use Rattle.track_rule.specs.Sums.{bit, times, total}
use Rattle.entry_pool.specs.Hold as pool
use Rattle.entry_pool.specs.Hold.{KeepsNone, KeepsSome}
use Rattle.entry_pool.specs.Take.{Recycles}
use Rattle.shared_desk.specs.Rest.{IsAtRest}
use Rattle.shared_desk.specs.Sights.{hold_of, sight_of}
use Rattle.shared_desk.proofs.Known.{known_kept, known_owes, known_paid, counted}
use Rattle.shared_desk.proofs.Lists.{none_of, total_less}
use Rattle.shared_desk.proofs.Places.{held_below, in_use, is_unused_after, owed_unheld, same_events, taken_out_once}
use Rattle.track_rule.specs.ChangesOnly.{ChangesWords, is_refs_of}
use Rattle.track_rule.specs.Layout.{refs_word}
use Rattle.track_rule.specs.Readings.{stored}
use Rattle.track_rule.specs.ChangeLaws.{by_pass}
use Rattle.shared_desk.proofs.Wording.{refs_in}
use Rattle.shared_desk.proofs.Resting.{clerk_at, holds_held, holds_without, idle_still, paid_taken_out, saw_none, then_of}
use Rattle.shared_desk.proofs.Settled.{settled_recycled, settled_released}

-- what the only pass counts
record Counts (place n : ℕ) (v : PassSight) : Type 0 where
  pub exact : n ≡ held_times place v.view.places.held + total (of_place place) (records_after v.view.seen.front)

module _ (place : ℕ) (v : PassSight) (notes : Roomed Note) (spare : ℕ) (h : IsAtRest v notes spare) where
  counts : (n : ℕ) → IsCount place n v.view → (sizes_of v).passes ≡ 1 → Counts place n v
  counts n count one =
      let own : AreOwn place n v.view = count.alone (omega (arith, one, h.knows.shared, h.knows.passes)) in
      let same : own.log ≡ v.view.seen.front = same_events v.view.seen.own own.log v.view.seen.front (own.all.alone one) (h.knows.alone one) in
      record {
        exact = omega (
          arith,
          own.exact,
          ap (λ (m : Middle). middle_weight (of_place place) m) h.idle.middle,
          ap (times place) h.idle.carried,
          ap (λ es. total (of_place place) (records_after es)) same,
        );
      }

  -- of a place that it holds
  module _ (there : is_held place v.view.places.held ≡ true) where
    held_too : is_hold place (map hold_of v.view.places.held) ≡ true
    held_too = holds_held place v.view.places.held ∙ there

    fewer : held_times place (without place v.view.places.held) + 1 ≡ held_times place v.view.places.held
    fewer = total_less (is_at place) (without place) refl (λ k ks. refl) (λ k. bit (is_at place k)) 1 (λ k e. ap bit e) v.view.places.held there

    rest_kept : (w : PassSight) → KeepsSome place v w → IsAtRest w notes spare
    rest_kept w k =
        subst (λ p. IsAtRest p notes spare) (sym k.same) (record {
          idle = idle_still v _ h.idle refl refl refl refl refl refl;
          settled = settled_released place v.view.places v.view.buckets.hooks h.settled there v.view.places.owed (λ p e. e)
              (subst (λ (p : PassSight). RaisesNone v.view.buckets.hooks p.view.buckets.hooks) k.same k.down);
          own = h.own;
          room = h.room;
          knows = counted _ _ (subst (λ hs. IsKnown (record (sight_of (clerk_at v spare)) { held = hs })) (sym (holds_without place v.view.places.held))
              (known_kept (sight_of (clerk_at v spare)) place h.knows held_too));
        })

    keeps_place : (w : PassSight) → KeepsSome place v w → KeepsPlace place (sight_of (clerk_at v spare)) (then_of v (clerk_at w spare))
    keeps_place w k =
        subst (λ p. KeepsPlace place (sight_of (clerk_at v spare)) (then_of v (clerk_at p spare))) (sym k.same) (record {
          saw = saw_none (sight_of (clerk_at v spare)) _ refl refl refl refl
              (record { tracker = refl; sizes = refl; shares = refl; returned = refl; gathered = refl });
          held = holds_without place v.view.places.held;
          owed = refl;
          alone = λ one.
              let c = counts (k.left + 1) k.count one in
              in_use place v.view.seen.front (without place v.view.places.held) v.view.places.owed (omega (arith, c.exact, fewer, k.some));
        })

    -- it was the last one
    module _ (w : PassSight) (k : KeepsNone place v w) where
      gone : is_hold place (map hold_of (without place v.view.places.held)) ≡ false
      gone = holds_held place (without place v.view.places.held)
          ∙ none_of (is_at place) (without place v.view.places.held) (omega (arith, fewer, k.held))

      rest_owes : IsAtRest w notes spare
      rest_owes =
          subst (λ p. IsAtRest p notes spare) (sym k.same) (record {
            idle = idle_still v _ h.idle refl refl refl refl refl refl;
            settled = settled_released place v.view.places v.view.buckets.hooks h.settled there (place ∷ v.view.places.owed)
                (λ p e. or_right (place == p) (is_among p v.view.places.owed) e)
                (subst (λ (p : PassSight). RaisesNone v.view.buckets.hooks p.view.buckets.hooks) k.same k.down);
            own = h.own;
            room = h.room;
            knows = counted _ _ (subst (λ hs. IsKnown (record (sight_of (clerk_at v spare)) { held = hs; owed = place ∷ v.view.places.owed }))
                (sym (holds_without place v.view.places.held))
                (known_owes (sight_of (clerk_at v spare)) place h.knows held_too
                (sym (ap (is_hold place) (holds_without place v.view.places.held)) ∙ gone)
                (held_below (sight_of (clerk_at v spare)) place h.knows held_too) (none_of (λ p. p == place) v.view.places.owed k.owed)));
          })

      owes_place : OwesPlace place (sight_of (clerk_at v spare)) (then_of v (clerk_at w spare))
      owes_place =
          subst (λ p. OwesPlace place (sight_of (clerk_at v spare)) (then_of v (clerk_at p spare))) (sym k.same) (record {
            saw = saw_none (sight_of (clerk_at v spare)) _ refl refl refl refl
                (record { tracker = refl; sizes = refl; shares = refl; returned = refl; gathered = refl });
            held = holds_without place v.view.places.held;
            owed = refl;
            unheld = gone;
            alone = λ one. let c = counts 1 k.count one in is_unused_after place v.view.seen.front (omega (arith, c.exact, k.held));
          })

    -- whichever it was
    pub rest_released : (outcome : ReleaseOutcome) (w : PassSight) → pool.ReleaseSays outcome place v w → IsAtRest w notes spare
    rest_released Kept w says = rest_kept w says
    rest_released Last w says = rest_owes w says

    pub release_says : (outcome : ReleaseOutcome) (w : PassSight) → pool.ReleaseSays outcome place v w
        → desk.ReleaseSays place (sight_of (clerk_at v spare)) (then_of v (clerk_at w spare)) outcome
    release_says Kept w says = keeps_place w says
    release_says Last w says = owes_place w says

    pub release_own : (outcome : ReleaseOutcome) (w : PassSight) → pool.ReleaseSays outcome place v w → ChangesWords (is_refs_of place) v.view w.view
    release_own Kept w says =
        by_pass (is_refs_of place) (stored (refs_word (sizes_of v) place) says.left) v w _ says.same refl refl (refs_in (sizes_of v) place says.left)
    release_own Last w says =
        by_pass (is_refs_of place) (stored (refs_word (sizes_of v) place) 0) v w _ says.same refl refl (refs_in (sizes_of v) place 0)

  -- a place was made free
  module _ (w : PassSight) (r : Recycles place v w) (owed : is_owed place v.view.places.owed ≡ true) where
    pub rest_recycled : IsAtRest w notes spare
    rest_recycled =
        subst (λ p. IsAtRest p notes spare) (sym r.same) (record {
          idle = idle_still v _ h.idle refl refl refl refl refl refl;
          settled = settled_recycled place v.view.places v.view.buckets.hooks h.settled;
          own = h.own;
          room = h.room;
          knows = counted _ _ (subst (λ (ps : List ℕ). IsKnown (record (sight_of (clerk_at v spare)) { owed = ps })) (sym (paid_taken_out place v.view.places.owed))
              (known_paid (sight_of (clerk_at v spare)) place h.knows owed));
        })

    pub recycle_says : RecycleSays place (sight_of (clerk_at v spare)) (then_of v (clerk_at w spare))
    recycle_says =
        subst (λ p. RecycleSays place (sight_of (clerk_at v spare)) (then_of v (clerk_at p spare))) (sym r.same) (record {
          saw = saw_none (sight_of (clerk_at v spare)) _ refl refl refl refl
              (record { tracker = refl; sizes = refl; shares = refl; returned = refl; gathered = refl });
          held = refl;
          owed = paid_taken_out place v.view.places.owed;
          alone = λ one.
              or_from (not (is_unused place (after v.view.seen.front (length v.view.seen.front))) || is_hold place (map hold_of v.view.places.held))
              (is_owed place (taken_out place v.view.places.owed))
              (or_from (not (is_unused place (after v.view.seen.front (length v.view.seen.front)))) (is_hold place (map hold_of v.view.places.held))
              (not_from_true (is_unused place (after v.view.seen.front (length v.view.seen.front)))
              (is_unused_after place v.view.seen.front (r.unused v.view.seen.front one (h.knows.alone one)))) unheld) unowed;
        })
      where
        unheld : is_hold place (map hold_of v.view.places.held) ≡ false
        unheld = owed_unheld place v.view.places.owed owed (map hold_of v.view.places.held) h.knows.unowed

        unowed : is_owed place (taken_out place v.view.places.owed) ≡ false
        unowed = taken_out_once place v.view.places.owed h.knows.once
