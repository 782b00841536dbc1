-- What is live at a place that a pass tests.
use Rattle.std.proofs.Common.{◌≡◌, ◌≢◌, ℕ, ◌-◌, ◌<◌, ◌≤◌, Bool, true, false, Some, List, [], ◌∷◌, length, refl, sym, ap, subst, ◌∙◌, arith, ⊎_elim}
use Rattle.std.specs.Prelude.{◌==◌, ◌&&◌, find, if◌then◌else◌, nat_lt}
use Rattle.std.proofs.lemmas.Bool.{and_from, cases_Bool, cases_lt, cond_both, eq-eqb, or_left, or_right}
use Rattle.history_book.specs.Desk.{IsLiveIn}
use Rattle.history_book.specs.Record.{has_id}
use Rattle.history_book.specs.declared.event.Event.{Event}
use Rattle.history_book.specs.declared.record.Record.{Record}
use Rattle.track_rule.specs.History.{events_in, records_after, state_after}
use Rattle.track_rule.specs.KeptWords.{is_for, is_kept_for}
use Rattle.track_rule.specs.PhaseSteps.{LoadsPhase, holds_open, kept_for, saw_confirm}
use Rattle.track_rule.specs.Phases.{of_place}
use Rattle.track_rule.specs.References.{WasConfirmed, is_for_new, is_taken}
use Rattle.track_rule.specs.Sights.{PassSight}
use Rattle.track_rule.specs.Steps.{AreAll, Looks, keep}
use Rattle.track_rule.specs.Sums.{bit, total}
use Rattle.track_rule.specs.declared.view.Keep.{Keep}
use Rattle.track_rule.specs.declared.view.Purpose.{Purpose}
use Rattle.track_rule.specs.declared.view.Purpose.TheVariants.{Testing, Shown, For}
use Rattle.bucket_table.specs.Following.{HasMet}
use Rattle.bucket_table.specs.declared.lookup.Goal.{Goal}
use Rattle.bucket_table.specs.Finding.{IsTesting, ShowsLive, ShowsNone, others_of}
use Rattle.bucket_table.proofs.Testing.{all_back, below_is, below_not, look_held, look_owed, look_stays, look_test, note_lost, note_stays, phase_front, phase_held, phase_owed, phase_test, phase_walk, purpose_kept, saw_is, test_dead, test_live, tests_on}

-- what is kept for an id is for it, and for no new entry
kept_id : (front : List Event) (place id : ℕ) → is_for id (kept_for front place id) ≡ true
kept_id front place id =
    cond_both (saw_confirm front id place) (For id) (Shown id) (λ p. is_for id p ≡ true) (λ e. eq-eqb id id refl) (λ e. eq-eqb id id refl)

kept_new : (front : List Event) (place id : ℕ) → is_for_new (kept_for front place id) ≡ false
kept_new front place id = cond_both (saw_confirm front id place) (For id) (Shown id) (λ p. is_for_new p ≡ false) (λ e. refl) (λ e. refl)

-- what is found weighs among all
found_weighs : (q : Record → Bool) (w : Record → ℕ) (rs : List Record) (x : Record) → find q rs ≡ Some x → w x ≤ total w rs
found_weighs q w [] x e = cc
found_weighs q w (r ∷ rs) x e =
    ⊎_elim
    (λ (t : q r ≡ true).
    let same : r ≡ x = one r x (sym (ap (λ (b : Bool). if b then Some r else find q rs) t) ∙ e) in
    omega (arith, ap w same))
    (λ (t : q r ≡ false). omega (arith, found_weighs q w rs x (sym (ap (λ (b : Bool). if b then Some r else find q rs) t) ∙ e)))
    (cases_Bool (q r))
  where
    one : (a b : Record) → Some a ≡ Some b → a ≡ b
    one a b k = cc

-- so a place where an entry is live weighs
live_weighs : (place id : ℕ) (log : List Event) → IsLiveIn place id (state_after log) → 0 < total (of_place place) (records_after log)
live_weighs place id log l =
    omega (
      arith,
      found_weighs (has_id id) (of_place place) (records_after log) l.subject l.is,
      ap (λ (b : Bool). bit b) (eq-eqb l.subject.place place l.placed),
    )

module _ (place n : ℕ) (v a : PassSight) (t : IsTesting place Testing v) (loads : LoadsPhase place v.view n a.view) (kept : a ≡ record v { view = a.view }) where
  -- the phase is LIVE of none
  pub shows_none : n < 3 → ShowsNone place v a
  shows_none dead = record {
    tests = phase_test place n Testing v a t loads kept;
    still = record {
      why = Testing;
      not_new = refl;
      held = phase_held place n Testing v a t loads kept ∙ ap (λ (k : Keep). k ∷ others_of v.view.places.held) (test_dead v.view.seen.front place n Testing dead);
      owed = phase_owed place n Testing v a t loads kept;
    };
    lost = λ g link here h. note_lost g link place (nat_lt n 3) v.view a.view (phase_walk place n Testing v a t loads kept) h (below_is n 3 dead) here;
  }

  -- it is LIVE of an id, and the history word was loaded, and the phase again
  module _ (live : 3 ≤ n) (word m : ℕ) (b w : PassSight) (looks : Looks a.view word b.view) (kept' : b ≡ record a { view = b.view })
      (again : LoadsPhase place b.view m w.view) (kept'' : w ≡ record b { view = w.view }) where
    its_held : b.view.places.held ≡ keep place (kept_for v.view.seen.front place (n - 3)) ∷ others_of v.view.places.held
    its_held =
        look_held place word a b looks kept' ∙ phase_held place n Testing v a t loads kept
        ∙ ap (λ (k : Keep). k ∷ others_of v.view.places.held) (test_live v.view.seen.front place n Testing live)

    tested : IsTesting place (kept_for v.view.seen.front place (n - 3)) b
    tested = record {
      held = its_held ∙ ap (λ (ks : List Keep). keep place (kept_for v.view.seen.front place (n - 3)) ∷ ks) (sym (ap others_of its_held));
      closed = ap (λ (ks : List Keep). holds_open (others_of ks)) its_held ∙ t.closed;
    }

    its_owed : b.view.places.owed ≡ v.view.places.owed
    its_owed = look_owed place word a b looks kept' ∙ phase_owed place n Testing v a t loads kept

    for_it : is_kept_for place (n - 3) b.view.places.held ≡ true
    for_it =
        ap (is_kept_for place (n - 3)) its_held
        ∙ or_left (is_for (n - 3) (kept_for v.view.seen.front place (n - 3)) && place == place) (is_kept_for place (n - 3) (others_of v.view.places.held))
        (and_from (is_for (n - 3) (kept_for v.view.seen.front place (n - 3))) (place == place) (kept_id v.view.seen.front place (n - 3)) (eq-eqb place place refl))

    was : WasConfirmed b.view.seen.front (n - 3) place
    was = looks.held.shown place (n - 3) (ap (is_kept_for place (n - 3)) (sym (look_held place word a b looks kept')) ∙ for_it)

    live_there : m ≡ n → IsLiveIn place (n - 3) (state_after b.view.seen.front)
    live_there same = again.live (n - 3) (omega (arith, same, live)) was

    not_taken : m ≡ n → is_taken place (others_of v.view.places.held) ≡ false
    not_taken same =
        ⊎_elim
        (λ (e : is_taken place (others_of v.view.places.held) ≡ true).
        let taken : is_taken place a.view.places.held ≡ true =
        ap (is_taken place) (sym (look_held place word a b looks kept') ∙ its_held)
        ∙ or_right (place == place && is_for_new (kept_for v.view.seen.front place (n - 3))) (is_taken place (others_of v.view.places.held)) e in
        absurd (omega (arith, looks.held.taken place taken, live_weighs place (n - 3) b.view.seen.front (live_there same))))
        (λ (e : is_taken place (others_of v.view.places.held) ≡ false). e)
        (cases_Bool (is_taken place (others_of v.view.places.held)))

    met_on : (g : Goal) (link : ℕ) → HasMet g link v.view → HasMet g link b.view
    met_on g link h = look_stays place word a b looks kept' g link (note_stays g link place (nat_lt n 3) v.view a.view (phase_walk place n Testing v a t loads kept) h (below_not n 3 live))

    -- it is LIVE of it still
    pub shows_live : m ≡ n → (at : ℕ) → at ≡ events_in word → ShowsLive place (n - 3) at v w
    shows_live same at point =
        let front : w.view.seen.front ≡ b.view.seen.front = phase_front place m (kept_for v.view.seen.front place (n - 3)) b w tested again kept'' in
        record {
          tests = tests_on place v a (phase_test place n Testing v a t loads kept) w
              (tests_on place a b (look_test place word a b looks kept') w (phase_test place m (kept_for v.view.seen.front place (n - 3)) b w tested again kept''));
          held = phase_held place m (kept_for v.view.seen.front place (n - 3)) b w tested again kept''
              ∙ (λ i. test_live b.view.seen.front place m (kept_for v.view.seen.front place (n - 3)) (omega (arith, live, same)) i ∷ ap others_of its_held i)
              ∙ ap (λ (p : Purpose). keep place p ∷ others_of v.view.places.held) (purpose_kept v.view.seen.front b.view.seen.front place (n - 3) (m - 3) (saw_is b.view.seen.front (n - 3) place was));
          owed = phase_owed place m (kept_for v.view.seen.front place (n - 3)) b w tested again kept'' ∙ its_owed;
          all = subst (AreAll v.view) (sym front) (all_back place v a (phase_test place n Testing v a t loads kept) b.view.seen.front looks.all);
          point = point ∙ looks.events ∙ ap (λ (l : List Event). length l) (sym front);
          was = subst (λ (l : List Event). WasConfirmed l (n - 3) place) (sym front) was;
          live = subst (λ (l : List Event). IsLiveIn place (n - 3) (state_after l)) (sym front) (live_there same);
          untaken = not_taken same;
          agreed = λ j kept. omega (arith, loads.kept j (ap (is_kept_for place j) t.held ∙ kept) live);
          stays = λ g link h.
              note_stays g link place (nat_lt m 3) b.view w.view (phase_walk place m (kept_for v.view.seen.front place (n - 3)) b w tested again kept'')
              (met_on g link h) (below_not m 3 (omega (arith, same, live)));
        }

    -- it is not
    pub shows_no_more : m ≢ n → ShowsNone place v w
    shows_no_more other =
        let dead : m < 3 =
        ⊎_elim (λ (e : m < 3). e) (λ (e : 3 ≤ m). absurd (other (omega (arith, again.kept (n - 3) for_it e, live)))) (cases_lt m 3) in
        record {
          tests = tests_on place v a (phase_test place n Testing v a t loads kept) w
              (tests_on place a b (look_test place word a b looks kept') w (phase_test place m (kept_for v.view.seen.front place (n - 3)) b w tested again kept''));
          still = record {
            why = kept_for v.view.seen.front place (n - 3);
            not_new = kept_new v.view.seen.front place (n - 3);
            held = phase_held place m (kept_for v.view.seen.front place (n - 3)) b w tested again kept''
                ∙ (λ i. test_dead b.view.seen.front place m (kept_for v.view.seen.front place (n - 3)) dead i ∷ ap others_of its_held i);
            owed = phase_owed place m (kept_for v.view.seen.front place (n - 3)) b w tested again kept'' ∙ its_owed;
          };
          lost = λ g link here h.
              note_lost g link place (nat_lt m 3) b.view w.view (phase_walk place m (kept_for v.view.seen.front place (n - 3)) b w tested again kept'')
              (met_on g link h) (below_is m 3 dead) here;
        }
