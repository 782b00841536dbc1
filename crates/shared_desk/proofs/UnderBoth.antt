-- Under the turns of a record and of the expectations an entry expects a connection, or is refused.
use Rattle.std.specs.List.{All, slice_get}
use Rattle.std.specs.Prelude.{◌==◌}
use Rattle.std.proofs.Common.{◌≡◌, ℕ, ◌-◌, ◌<◌, ◌≤◌, true, Option, Some, None, List, [], ◌∷◌, ◌++◌, length, refl, sym, ap, subst, ◌∙◌, arith}
use Rattle.std.proofs.lemmas.Bool.{and_from, eq-eqb, false≢true}
use Rattle.expect_table.specs.Expectations.{add_outcome}
use Rattle.expect_table.specs.declared.expectation.Expectation.{Expectation}
use Rattle.expect_table.specs.declared.expectation.Want.{Want}
use Rattle.expect_table.specs.declared.table.AddOutcome.{AddOutcome}
use Rattle.expect_table.specs.declared.table.AddOutcome.TheVariants as add
use Rattle.room_list.specs.Roomed.{Roomed}
use Rattle.history_book.specs.DeskExpectations.{AddGives, expectation_at}
use Rattle.history_book.specs.Entry.{confirmed_by, is_helped_entry, zone_of, zone_of_entry}
use Rattle.history_book.specs.History.{after, is_legal}
use Rattle.history_book.specs.Laws.{EntriesKeepTheirHelper, EntriesKeepTheirZone, ExpectationsAreInOrder}
use Rattle.history_book.specs.Legality.{has_helper, helps_in}
use Rattle.history_book.specs.Point.{StartsWith}
use Rattle.history_book.specs.State.{record_of}
use Rattle.history_book.specs.declared.event.Event.{Event}
use Rattle.history_book.specs.declared.event.Event.TheVariants.{Expect}
use Rattle.history_book.specs.declared.outcome.ExpectOutcome.{ExpectOutcome}
use Rattle.history_book.specs.declared.outcome.ExpectOutcome.TheVariants as expect
use Rattle.history_book.specs.declared.record.Record.{Record}
use Rattle.history_book.specs.declared.sizes.Sizes.{Sizes}
use Rattle.track_rule.specs.ExpectTurns.{CanGiveExpected}
use Rattle.track_rule.specs.History.{events_in, state_after}
use Rattle.track_rule.specs.KeptWords.{is_kept_for}
use Rattle.track_rule.specs.PhaseSteps.{LoadsPhase, holds_open}
use Rattle.track_rule.specs.Sights.{PassSight, sizes_of}
use Rattle.track_rule.specs.Slots.{slot_of_expects}
use Rattle.track_rule.specs.Steps.{Looks}
use Rattle.track_rule.specs.TouchSteps.{known_phase, known_record}
use Rattle.track_rule.specs.TurnSteps.{subject_in}
use Rattle.track_rule.specs.declared.view.View.{View}
use Rattle.shared_desk.specs.Claiming.{HasMade}
use Rattle.shared_desk.specs.Commit.{seen_with}
use Rattle.shared_desk.specs.ExpectTurn.{HasExpects, aside}
use Rattle.shared_desk.specs.Expecting.{Adds, Expects, IsOfMaster, IsRefused, Refuses, SuitsExpect}
use Rattle.shared_desk.specs.Looking.{HasRecord}
use Rattle.shared_desk.specs.Touching.{IsLeft}
use Rattle.shared_desk.proofs.ExpectTurn.{told_aside, told_whole}
use Rattle.shared_desk.proofs.Lists.{get_append}
use Rattle.shared_desk.proofs.Loaded.{all_from, all_seen, its_id, left_now, live_now, phase_is, subject_is, view_is}

-- what was expected has lower ids than the next event has
pub lower_ids : ExpectationsAreInOrder → (z : Sizes) (log : List Event) (n : ℕ) (items : List Expectation) → is_legal z log ≡ true → n ≡ length log
    → items ≡ (state_after log).expects → All (λ o. o.id < n) items
lower_ids order z log n items legal is same =
    subst (λ (es : List Expectation). All (λ o. o.id < n) es) (sym same)
    (subst (λ (k : ℕ). All (λ o. o.id < k) (after log (length log)).expects) (sym is) (order z log (length log) legal).1)

-- the record stays out where the turn of the expectations is taken besides
pub record_beside : (place : ℕ) (table : Roomed Expectation) (v w : PassSight) → HasRecord place v → HasExpects table v w → HasRecord place w
record_beside place table v w h t = record {
  hand = h.hand;
  its_place = h.its_place;
  known = ap (λ (k : PassSight). k.view.commit.hand) t.same ∙ h.known;
  others = h.others ++ (1, slot_of_expects None) ∷ [];
  out = ap (λ (k : PassSight). k.slots) t.same ∙ ap (λ ss. ss ++ (1, slot_of_expects None) ∷ []) h.out;
  below = subst (λ (z : Sizes). place < z.entries) (sym (ap sizes_of t.same)) h.below;
  calm = ap (λ (k : PassSight). k.view.commit.middle) t.same ∙ h.calm;
  free = ap (λ (k : PassSight). k.view.free) t.same ∙ h.free;
  closed = ap (λ (k : PassSight). holds_open k.view.places.held) t.same ∙ h.closed;
}

-- an entry has the helper by a longer history
pub helper_stays : (id : ℕ) (front log : List Event) → StartsWith log front → is_helped_entry id front ≡ true → is_helped_entry id log ≡ true
helper_stays id front log (more, same) e = by_event (slice_get front id) refl e
  where
    by_event : (o : Option Event) → slice_get front id ≡ o → has_helper (confirmed_by o) ≡ true → has_helper (confirmed_by (slice_get log id)) ≡ true
    by_event None is e = absurd (false≢true e)
    by_event (Some x) is e =
        ap (λ (es : List Event). has_helper (confirmed_by (slice_get es id))) same
        ∙ ap (λ (o : Option Event). has_helper (confirmed_by o)) (get_append front more id x is) ∙ e

-- and it is in its zone
pub zone_stays : (id : ℕ) (front log : List Event) → StartsWith log front → is_helped_entry id front ≡ true → zone_of_entry id front ≡ zone_of_entry id log
zone_stays id front log (more, same) e = by_event (slice_get front id) refl e
  where
    by_event : (o : Option Event) → slice_get front id ≡ o → has_helper (confirmed_by o) ≡ true → zone_of_entry id front ≡ zone_of_entry id log
    by_event None is e = absurd (false≢true e)
    by_event (Some x) is e =
        ap (λ (o : Option Event). zone_of (confirmed_by o)) (is ∙ sym (get_append front more id x is))
        ∙ sym (ap (λ (es : List Event). zone_of (confirmed_by (slice_get es id))) same)

-- under both turns the phase was loaded, which was LIVE, and then the history word, and the record was out
module _ (place n word : ℕ) (want : Want) (moment : ℕ) (v u w : PassSight) (h : HasRecord place v) (s : SuitsExpect place moment v)
    (loads : LoadsPhase place v.view n u.view) (kept : u ≡ record v { view = u.view })
    (looks : Looks u.view word w.view) (kept' : w ≡ record u { view = w.view })
    (live : 3 ≤ n) (before : Record) (out : Some before ≡ subject_in w.slots) (keep : EntriesKeepTheirHelper) (in_zone : EntriesKeepTheirZone)
    (x : PassSight) (still : x ≡ w) (at : ℕ) (point : at ≡ events_in word) where
  whole : x ≡ record v {
    view = record v.view { seen = record v.view.seen { front = w.view.seen.front }; walk = w.view.walk; readings = w.view.readings };
  }
  whole = still ∙ view_is place n word v u w h loads kept looks kept'

  live_then : record_of (n - 3) (state_after w.view.seen.front) ≡ Some before
  live_then = live_now place n word v u w h loads kept looks kept' live before out

  its : (i : ℕ) → is_kept_for place i v.view.places.held ≡ true → i ≡ n - 3
  its i held = its_id place n word v u w h loads kept looks kept' live before out i held

  helped : before.helper ≡ true
  helped =
      let all = all_seen place n word v u w h loads kept looks kept' in
      sym (keep (sizes_of v) w.view.seen.front (length w.view.seen.front) (n - 3) before all.legal live_then)
      ∙ ap (λ (k : ℕ). is_helped_entry k w.view.seen.front) (sym (its s.id s.kept))
      ∙ helper_stays s.id v.view.seen.front w.view.seen.front all.front s.helped

  zoned : before.original.zone ≡ zone_of_entry (n - 3) v.view.seen.front
  zoned =
      let all = all_seen place n word v u w h loads kept looks kept' in
      sym (in_zone (sizes_of v) w.view.seen.front (length w.view.seen.front) (n - 3) before all.legal live_then)
      ∙ ap (λ (k : ℕ). zone_of_entry k w.view.seen.front) (sym (its s.id s.kept))
      ∙ sym (zone_stays s.id v.view.seen.front w.view.seen.front all.front s.helped)
      ∙ ap (λ (k : ℕ). zone_of_entry k v.view.seen.front) (its s.id s.kept)

  helps : helps_in before.original.zone (Some before) ≡ true
  helps = and_from before.helper (before.original.zone == before.original.zone) helped (eq-eqb before.original.zone before.original.zone refl)

  pub of_master : IsOfMaster (expectation_at at (n - 3) before.original.zone want moment) moment x
  of_master =
      let phase : known_phase x.view.commit.hand ≡ n =
      ap (λ (k : PassSight). known_phase k.view.commit.hand) whole ∙ ap known_phase h.known ∙ phase_is place n word v u w h loads kept looks kept' live before out in
      record {
        shown = omega (arith, phase, live);
        helper = ap (λ (k : PassSight). helps_in before.original.zone (known_record k.view.commit.hand)) whole
            ∙ ap (λ o. helps_in before.original.zone (known_record o)) h.known
            ∙ ap (helps_in before.original.zone) (subject_is place n word v u w h loads kept looks kept' live before out) ∙ helps;
        deadline = refl;
      }

  module _ (table : Roomed Expectation) (knows : CanGiveExpected v.view table) (y : PassSight) where
    made_from : (number : ℕ) (e : Event) → HasMade number e (aside x) (aside y) → HasMade number e (aside v) (aside y)
    made_from number e m = record {
      log = m.log;
      all = told_aside v m.log (all_from place n word v u w h loads kept looks kept' x m.log still (told_whole x m.log m.all));
      number_is = m.number_is;
      legal = subst (λ (k : PassSight). is_legal (sizes_of k) (m.log ++ e ∷ []) ≡ true) whole m.legal;
      same = m.same ∙ ap (λ (k : PassSight). record (aside k) {
        view = record (aside k).view { seen = seen_with m.log number e k.view.seen; walk = y.view.walk; readings = y.view.readings };
      }) whole;
    }

    expects_then : table.items ≡ (state_after w.view.seen.front).expects
    expects_then = looks.expects table.items (ap (λ (k : View). k.expected) (loads.settled h.closed) ∙ knows.items)

    refused : (o : AddOutcome) (a : ℕ) → Refuses (expectation_at at (n - 3) before.original.zone want moment) moment table o a (aside x) (aside y)
        → IsLeft place a (IsRefused (sizes_of v).expectations a v.view.seen.front want moment o) (aside v) (aside y)
    refused o a r =
        subst (λ (z : PassSight). IsLeft place a (IsRefused (sizes_of v).expectations a v.view.seen.front want moment o) (aside v) z) (sym (r.same ∙ ap aside still))
        (left_aside (left_now place n word v u w h loads kept looks kept' a (IsRefused (sizes_of v).expectations a v.view.seen.front want moment o) (r.point ∙ point)
        (λ i held.
        subst (λ (z : ℕ). AddGives (sizes_of v).expectations a i z want moment o (state_after w.view.seen.front))
        (zoned ∙ ap (λ (j : ℕ). zone_of_entry j v.view.seen.front) (sym (its i held)))
        (record {
          live = ap (λ (j : ℕ). helps_in before.original.zone (record_of j (state_after w.view.seen.front))) (its i held)
              ∙ ap (helps_in before.original.zone) live_then ∙ helps;
          gives = (λ k. add_outcome (sym knows.room k) (sym expects_then k) (expectation_at (r.point k) (its i held k) before.original.zone want moment) moment)
              ∙ r.gives;
        }))))
      where
        left_aside : IsLeft place a (IsRefused (sizes_of v).expectations a v.view.seen.front want moment o) v w
            → IsLeft place a (IsRefused (sizes_of v).expectations a v.view.seen.front want moment o) (aside v) (aside w)
        left_aside l = record { same = ap aside l.same; all = told_aside v w.view.seen.front l.all; point = l.point; is = l.is }

    pub added : (o : ExpectOutcome) → Adds (expectation_at at (n - 3) before.original.zone want moment) moment table o (aside x) (aside y) → Expects place want moment o (aside v) (aside y)
    added (expect.Expected id replaced) m = record {
      master = n - 3;
      its = its;
      made = subst (λ (z : ℕ). HasMade id (Expect (expectation_at id (n - 3) z want moment) replaced moment) (aside v) (aside y)) zoned
          (made_from id (Expect (expectation_at id (n - 3) before.original.zone want moment) replaced moment) m);
    }
    added (expect.MasterGone a) r = absurd r
    added (expect.Clash id a) r = refused (add.Clash id) a r
    added (expect.ExpectFull a) r = refused add.Full a r
