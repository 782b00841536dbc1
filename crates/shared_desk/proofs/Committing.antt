-- A flow becomes an entry.
use Rattle.std.proofs.Common.{◌≡◌, ℕ, ◌+◌, ◌<◌, Bool, true, false, Some, List, [], ◌∷◌, ◌++◌, refl, sym, ap, ◌∙◌, arith, ⊎_elim}
use Rattle.std.specs.Prelude.{◌==◌, ◌&&◌, ◌||◌, not}
use Rattle.std.proofs.lemmas.Bool.{and_parts, cases_Bool, false≢true, ne_eqb}
use Rattle.track_rule.specs.Free.{is_among}
use Rattle.track_rule.specs.Layout.{record_slot, refs_word, turn_word}
use Rattle.track_rule.specs.Notes.{note_where}
use Rattle.track_rule.specs.Readings.{found, noted, stored}
use Rattle.track_rule.specs.Records.{has_hand, slot_of_record}
use Rattle.track_rule.specs.References.{held_times, is_for_new, is_taken, keeps}
use Rattle.track_rule.specs.Sights.{PassSight}
use Rattle.track_rule.specs.Steps.{LoadsRefs, MissedRefs, RaisedRefs, is_second, most_keeps, raised, read_refs}
use Rattle.track_rule.specs.Sums.{bit}
use Rattle.track_rule.specs.TurnSteps.{TookTurn, subject_in}
use Rattle.track_rule.specs.declared.view.Commit.{Commit}
use Rattle.track_rule.specs.declared.view.Keep.{Keep}
use Rattle.track_rule.specs.declared.view.Reading.{Reading}
use Rattle.track_rule.specs.declared.view.View.{View}
use Rattle.shared_desk.specs.Commit.{AddsReference, HasRecordTurn}

-- a view with its own readings
with_readings : (x y : View) (commit : Commit) (rs : List Reading) → y ≡ record x { commit = commit; readings = rs } → y ≡ record x { commit = commit; readings = y.readings }
with_readings x y commit rs e = e ∙ (λ i. record x { commit = commit; readings = sym (ap (λ (k : View). k.readings) e) i })

-- the turn, after some waiting
pub turn_taken : (place : ℕ) (v u w : PassSight) → u ≡ record v { view = record v.view { readings = u.view.readings } }
    → TookTurn place u.view u.slots w.view w.slots → w.table ≡ u.table → HasRecordTurn place v w
turn_taken place v u w waited took table =
    let view : w.view ≡ record v.view {
      commit = record v.view.commit { hand = Some (record { place = place; phase = took.phase; subject = subject_in w.slots }) };
      readings = u.view.readings ++ stored (turn_word u.view.passes.sizes place) 1 ∷ [];
    } = took.view ∙ ap (λ (k : PassSight). record k.view {
      commit = record k.view.commit { hand = Some (record { place = place; phase = took.phase; subject = subject_in w.slots }) };
      readings = u.view.readings ++ stored (turn_word u.view.passes.sizes place) 1 ∷ [];
    }) waited in
    record {
      hand = record { place = place; phase = took.phase; subject = subject_in w.slots };
      its_place = refl;
      same = (λ i. record {
        table = (table ∙ ap (λ (k : PassSight). k.table) waited) i;
        view = with_readings v.view w.view (record v.view.commit { hand = Some (record { place = place; phase = took.phase; subject = subject_in w.slots }) }) _ view i;
        slots = (took.out ∙ ap (λ (k : PassSight). (record_slot place, slot_of_record (subject_in w.slots)) ∷ k.slots) waited) i;
      });
    }

-- a place that was taken is held
pub taken_held : (place : ℕ) (held : List Keep) → is_taken place held ≡ true → 0 < held_times place held
taken_held place [] e = absurd (false≢true e)
taken_held place (k ∷ ks) e =
    ⊎_elim
    (λ (t : (k.place == place) ≡ true). omega (arith, ap bit t))
    (λ (t : (k.place == place) ≡ false).
    omega (arith, taken_held place ks (sym (ap (λ (b : Bool). (b && is_for_new k.purpose) || is_taken place ks) t) ∙ e)))
    (cases_Bool (k.place == place))

-- who may make the second reference keeps the first
pub second_kept : (place : ℕ) (v : View) → is_second place v ≡ true → 0 < keeps place v
second_kept place v e =
    let first = and_parts (is_taken place v.places.held && has_hand place v == 1) (not (is_among place v.places.carried)) e in
    let parts = and_parts (is_taken place v.places.held) (has_hand place v == 1) first.0 in
    omega (arith, taken_held place v.places.held parts.0)

-- so many references can be raised by one
pub record CanRaise (v w : PassSight) (seen : ℕ) : Type 0 where
  pub same : w ≡ record v { view = record v.view { readings = w.view.readings } }
  pub some : 0 < seen
  pub bound : seen < most_keeps

readings_alone : (v w : PassSight) (r : Reading) → w ≡ record v { view = w.view } → w.view ≡ noted r v.view → w ≡ record v { view = record v.view { readings = w.view.readings } }
readings_alone v w r kept view =
    kept ∙ ap (λ (k : View). record v { view = k }) (view ∙ (λ i. record v.view { readings = sym (ap (λ (k : View). k.readings) view) i }))

readings_again : (v u w : PassSight) → u ≡ record v { view = record v.view { readings = u.view.readings } } → w ≡ record u { view = record u.view { readings = w.view.readings } }
    → w ≡ record v { view = record v.view { readings = w.view.readings } }
readings_again v u w a b = b ∙ ap (λ (k : PassSight). record k { view = record k.view { readings = w.view.readings } }) a

-- a load of some references notes nothing of a walk
read_some : (place n : ℕ) (v w : View) → 0 < n → w ≡ read_refs place n v → w ≡ noted (found (refs_word v.passes.sizes place) n) v
read_some place n v w some e =
    e ∙ ap (λ (b : Bool). noted (found (refs_word v.passes.sizes place) n) (record v { walk = note_where b place v.walk }))
    (ne_eqb n 0 (λ zero. omega (arith, zero, some)))

pub loads_refs : (place n : ℕ) (v w : PassSight) → is_second place v.view ≡ true → w ≡ record v { view = w.view } → LoadsRefs place v.view n w.view → CanRaise v w n
loads_refs place n v w second kept loads =
    let some : 0 < n = omega (arith, second_kept place v.view second, loads.count.own) in
    record {
      same = readings_alone v w _ kept (read_some place n v.view w.view some loads.view);
      some = some;
      bound = loads.count.few;
    }

pub missed_refs : (place seen n : ℕ) (v u w : PassSight) → is_second place v.view ≡ true → u ≡ record v { view = record v.view { readings = u.view.readings } }
    → w ≡ record u { view = w.view } → MissedRefs place seen u.view n w.view → CanRaise v w n
missed_refs place seen n v u w second waited kept missed =
    let some : 0 < n = omega (arith, second_kept place v.view second, missed.count.own, ap (λ (k : PassSight). keeps place k.view) waited) in
    record {
      same = readings_again v u w waited (readings_alone u w _ kept (read_some place n u.view w.view some missed.view));
      some = some;
      bound = missed.count.few;
    }

pub raised_refs : (place seen : ℕ) (v u w : PassSight) → is_second place v.view ≡ true → u ≡ record v { view = record v.view { readings = u.view.readings } }
    → w ≡ record u { view = w.view } → RaisedRefs place seen u.view w.view → AddsReference place v w
raised_refs place seen v u w second waited kept raises =
    let view : w.view ≡ raised true place seen u.view =
    raises.view ∙ ap (λ (b : Bool). raised b place seen u.view) (ap (λ (k : PassSight). is_second place k.view) waited ∙ second) in
    let whole : w.view ≡ record v.view {
      places = record v.view.places { carried = place ∷ v.view.places.carried };
      readings = u.view.readings ++ stored (refs_word u.view.passes.sizes place) (seen + 1) ∷ [];
    } = view ∙ ap (λ (k : PassSight). record k.view {
      places = record k.view.places { carried = place ∷ k.view.places.carried };
      readings = u.view.readings ++ stored (refs_word u.view.passes.sizes place) (seen + 1) ∷ [];
    }) waited in
    record {
      same = kept ∙ ap (λ (k : PassSight). record k { view = w.view }) waited
          ∙ ap (λ (k : View). record v { view = k }) (whole ∙ (λ i. record v.view {
            places = record v.view.places { carried = place ∷ v.view.places.carried };
            readings = sym (ap (λ (k : View). k.readings) whole) i;
          }));
    }
