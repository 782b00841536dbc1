-- The turn of the expectations is taken with their table, and given back.
use Rattle.std.proofs.Common.{◌≡◌, ℕ, Option, Some, None, List, [], ◌∷◌, ◌++◌, refl, sym, ap, subst, ◌∙◌}
use Rattle.std.specs.Prelude.{unwrap_or}
use Rattle.expect_table.specs.declared.expectation.Expectation.{Expectation}
use Rattle.room_list.specs.Roomed.{Roomed}
use Rattle.track_rule.specs.declared.slot.Slot.{Slot}
use Rattle.track_rule.specs.declared.slot.Slot.TheVariants.{Expects}
use Rattle.track_rule.specs.declared.view.Commit.{Commit}
use Rattle.track_rule.specs.declared.view.Places.{Places}
use Rattle.track_rule.specs.declared.view.Seen.{Seen}
use Rattle.track_rule.specs.declared.view.View.{View}
use Rattle.track_rule.specs.ExpectTurns.{CanGiveExpected, TookExpected, before_expects, expects_at, gave_expected, no_table, table_in, with_expects}
use Rattle.track_rule.specs.Readings.{noted, stored}
use Rattle.track_rule.specs.Sights.{PassSight, sizes_of}
use Rattle.track_rule.specs.Slots.{slot_of_expects}
use Rattle.track_rule.specs.Steps.{AreAll}
use Rattle.shared_desk.specs.ExpectTurn.{HasExpectTurn, HasExpects, aside}
use Rattle.history_book.specs.declared.event.Event.{Event}

-- the turn, after some waiting
pub expects_taken : (v u w : PassSight) → u ≡ record v { view = record v.view { readings = u.view.readings } }
    → TookExpected u.view u.slots w.view w.slots → w.table ≡ u.table → HasExpectTurn v w
expects_taken v u w waited took table =
    let view : w.view ≡ record v.view { expected = Some (table_in w.slots).items; readings = u.view.readings ++ stored 2 1 ∷ [] } =
    took.view ∙ ap (λ (k : PassSight). record k.view { expected = Some (table_in w.slots).items; readings = u.view.readings ++ stored 2 1 ∷ [] }) waited in
    record {
      same = (λ i. record {
        table = (table ∙ ap (λ (k : PassSight). k.table) waited) i;
        view = (view ∙ (λ j. record v.view { expected = Some (table_in w.slots).items; readings = sym (ap (λ (k : View). k.readings) view) j })) i;
        slots = (took.out ∙ ap (λ (k : PassSight). k.slots ++ (1, Expects (table_in w.slots)) ∷ []) waited) i;
      });
      there = took.there;
      room = took.room ∙ ap (λ (k : PassSight). (sizes_of k).expectations) waited;
    }

-- the slots before the last
pub before_last : (ss : List (ℕ × Slot)) (s : ℕ × Slot) → before_expects (ss ++ s ∷ []) ≡ ss
before_last [] s = refl
before_last (a ∷ []) s = refl
before_last (a ∷ b ∷ ss) s = ap (λ rs. a ∷ rs) (before_last (b ∷ ss) s)

-- the table is taken out of its slot
pub in_hands : (v w x : PassSight) (table : Roomed Expectation) → HasExpectTurn v w → Some table ≡ expects_at w.slots
    → x ≡ record w { slots = with_expects None w.slots } → HasExpects table v x
in_hands v w x table h out kept =
    let its : table_in w.slots ≡ table = one_table (table_in w.slots) table (sym h.there ∙ sym out) in
    record {
      same = kept ∙ (λ i. record {
        table = ap (λ (k : PassSight). k.table) h.same i;
        view = (ap (λ (k : PassSight). k.view) h.same ∙ (λ j. record v.view {
          expected = Some (its j).items;
          readings = sym (ap (λ (k : PassSight). k.view.readings) kept) j;
        })) i;
        slots = (ap (λ (k : PassSight). with_expects None k.slots) h.same
            ∙ ap (λ ss. ss ++ (1, slot_of_expects None) ∷ []) (before_last v.slots (1, Expects (table_in w.slots)))) i;
      });
      room = ap (λ (t : Roomed Expectation). t.room) (sym its) ∙ h.room;
    }
  where
    one_table : (a b : Roomed Expectation) → Some a ≡ Some b → a ≡ b
    one_table a b e = cc

-- it is put back, and the turn with it
module _ (w x : PassSight) (table : Roomed Expectation) (knows : CanGiveExpected w.view table)
    (kept : x ≡ record w { slots = with_expects (Some table) w.slots }) (there : expects_at x.slots ≡ Some table) where
  pub back_whole : CanGiveExpected x.view (table_in x.slots)
  back_whole = record {
    items = ap (λ (k : PassSight). k.view.expected) kept ∙ knows.items
        ∙ ap (λ (o : Option (Roomed Expectation)). Some (unwrap_or o no_table).items) (sym there);
    room = ap (λ (o : Option (Roomed Expectation)). (unwrap_or o no_table).room) there ∙ knows.room
        ∙ ap (λ (k : PassSight). (sizes_of k).expectations) (sym kept);
  }

  pub back : (y : PassSight) → y ≡ record x { view = gave_expected x.view; slots = before_expects x.slots } → before_expects x.slots ≡ before_expects w.slots
      → y ≡ record w { view = gave_expected w.view; slots = before_expects w.slots }
  back y gave others = gave ∙ (λ i. record (kept i) { view = gave_expected (kept i).view; slots = others i })

-- what a pass sees does not hang on the turn
pub told_aside : (v : PassSight) (log : List Event) → AreAll v.view log → AreAll (aside v).view log
told_aside v log a = record { front = a.front; told = a.told; legal = a.legal; few = a.few; passes = a.passes; shares = a.shares; alone = a.alone }

pub told_whole : (v : PassSight) (log : List Event) → AreAll (aside v).view log → AreAll v.view log
told_whole v log a = record { front = a.front; told = a.told; legal = a.legal; few = a.few; passes = a.passes; shares = a.shares; alone = a.alone }

-- a pass that has the turn is, but for that and its readings, as before
abbrev pub IsUnder : PassSight → PassSight → Type 0
IsUnder v w = aside w ≡ record v { view = record v.view { readings = w.view.readings } }

pub under_slot : (v w : PassSight) (list : List Expectation) (inside : Slot) → v.view.expected ≡ None
    → w ≡ record v { view = record v.view { expected = Some list; readings = w.view.readings }; slots = v.slots ++ (1, inside) ∷ [] } → IsUnder v w
under_slot v w list inside unturned same = ap aside same ∙ (λ i. record v {
  view = record v.view { expected = sym unturned i; readings = w.view.readings };
  slots = before_last v.slots (1, inside) i;
})

-- with the table in hand, and with the table in its slot
pub in_hand : (table : Roomed Expectation) (v w : PassSight) → v.view.expected ≡ None → HasExpects table v w → IsUnder v w
in_hand table v w unturned h = under_slot v w table.items (slot_of_expects None) unturned h.same

pub in_slot : (v w : PassSight) → v.view.expected ≡ None → HasExpectTurn v w → IsUnder v w
in_slot v w unturned h = under_slot v w (table_in w.slots).items (Expects (table_in w.slots)) unturned h.same

-- what was done under the turn was done
pub told_before : (v w : PassSight) → IsUnder v w → (log : List Event) → AreAll (aside w).view log → AreAll v.view log
told_before v w h log all =
    let a = subst (λ (k : PassSight). AreAll k.view log) h all in
    record { front = a.front; told = a.told; legal = a.legal; few = a.few; passes = a.passes; shares = a.shares; alone = a.alone }

module _ (v w x y : PassSight) (h : IsUnder v w) (gave : y ≡ record x { view = gave_expected x.view; slots = before_expects x.slots }) where
  pub done_before : (f : Seen → Seen) (g : Places → Places) (d : Commit → Commit)
      → aside x ≡ record (aside w) {
        view = record (aside w).view { seen = f w.view.seen; places = g w.view.places; commit = d w.view.commit; walk = x.view.walk; readings = x.view.readings };
      }
      → y ≡ record v {
        view = record v.view { seen = f v.view.seen; places = g v.view.places; commit = d v.view.commit; walk = y.view.walk; readings = y.view.readings };
      }
  done_before f g d same =
      let whole : y ≡ record v {
        view = record v.view {
          seen = f v.view.seen;
          places = g v.view.places;
          commit = d v.view.commit;
          walk = x.view.walk;
          readings = x.view.readings ++ stored 2 0 ∷ [];
        };
      } =
      gave ∙ ap (λ (k : PassSight). record k { view = noted (stored 2 0) k.view }) same
      ∙ ap (λ (k : PassSight). record k {
        view = record k.view {
          seen = f k.view.seen;
          places = g k.view.places;
          commit = d k.view.commit;
          walk = x.view.walk;
          readings = x.view.readings ++ stored 2 0 ∷ [];
        };
      }) h in
      whole ∙ (λ i. record v {
        view = record v.view {
          seen = f v.view.seen;
          places = g v.view.places;
          commit = d v.view.commit;
          walk = sym (ap (λ (k : PassSight). k.view.walk) whole) i;
          readings = sym (ap (λ (k : PassSight). k.view.readings) whole) i;
        };
      })

  pub seen_before : (f : Seen → Seen)
      → aside x ≡ record (aside w) { view = record (aside w).view { seen = f w.view.seen; walk = x.view.walk; readings = x.view.readings } }
      → y ≡ record v { view = record v.view { seen = f v.view.seen; walk = y.view.walk; readings = y.view.readings } }
  seen_before f same = done_before f (λ p. p) (λ d. d) same
