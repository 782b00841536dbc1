-- The entry for which a place is held, read under the turn of the place's record.
use Rattle.std.proofs.Common.{◌≡◌, ℕ, ◌<◌, Option, Some, None, List, ◌∷◌, ◌++◌, refl, sym, ap, subst, ◌∙◌, [], true}
use Rattle.atomic_table.specs.Table.{rest}
use Rattle.history_book.specs.declared.outcome.PeekOutcome.{PeekOutcome}
use Rattle.history_book.specs.declared.record.Record.{Record}
use Rattle.history_book.specs.declared.sizes.Sizes.{Sizes}
use Rattle.track_rule.specs.Layout.{turn_word}
use Rattle.track_rule.specs.PhaseSteps.{holds_open}
use Rattle.track_rule.specs.Readings.{stored}
use Rattle.track_rule.specs.Records.{record_in, slot_of_record}
use Rattle.track_rule.specs.Sights.{PassSight, sizes_of}
use Rattle.track_rule.specs.Steps.{AreAll}
use Rattle.track_rule.specs.TurnSteps.{CanGiveTurn, gave_turn, subject_in}
use Rattle.track_rule.specs.declared.view.Hand.{Hand}
use Rattle.shared_desk.specs.Commit.{HasRecordTurn}
use Rattle.shared_desk.specs.Looking.{HasRecord, IsFreeFor, Peeks, IsSeen}
use Rattle.history_book.specs.declared.event.Event.{Event}
use Rattle.track_rule.specs.KeptWords.{is_kept_for}

-- under the turn the record is out of its slot
pub has_record : (place : ℕ) (v w : PassSight) → IsFreeFor place v → HasRecordTurn place v w → HasRecord place w
has_record place v w f t = record {
  hand = t.hand;
  its_place = t.its_place;
  known = ap (λ (k : PassSight). k.view.commit.hand) t.same;
  others = v.slots;
  out = ap (λ (k : PassSight). k.slots) t.same;
  below = subst (λ (z : Sizes). place < z.entries) (sym (ap sizes_of t.same)) f.below;
  calm = ap (λ (k : PassSight). k.view.commit.middle) t.same ∙ f.calm;
  free = ap (λ (k : PassSight). k.view.free) t.same ∙ f.free;
  closed = ap (λ (k : PassSight). holds_open k.view.places.held) t.same ∙ f.closed;
}

-- and it is the one that the pass knows
pub record_whole : (place : ℕ) (v : PassSight) → HasRecord place v → CanGiveTurn v.view v.slots
record_whole place v h x known live =
    ap subject_in h.out ∙ in_slot h.hand.subject ∙ ap (λ (k : Hand). k.subject) (one_hand h.hand x (sym h.known ∙ known))
  where
    in_slot : (o : Option Record) → record_in (slot_of_record o) ≡ o
    in_slot None = refl
    in_slot (Some r) = refl

    one_hand : (a b : Hand) → Some a ≡ Some b → a ≡ b
    one_hand a b e = cc

-- the turn is still had after some looking
pub still_has : (place : ℕ) (v w : PassSight) → HasRecord place v
    → w ≡ record v {
      view = record v.view { seen = record v.view.seen { front = w.view.seen.front }; walk = w.view.walk; readings = w.view.readings };
    } → HasRecord place w
still_has place v w h same = record {
  hand = h.hand;
  its_place = h.its_place;
  known = ap (λ (k : PassSight). k.view.commit.hand) same ∙ h.known;
  others = h.others;
  out = ap (λ (k : PassSight). k.slots) same ∙ h.out;
  below = subst (λ (z : Sizes). place < z.entries) (sym (ap sizes_of same)) h.below;
  calm = ap (λ (k : PassSight). k.view.commit.middle) same ∙ h.calm;
  free = ap (λ (k : PassSight). k.view.free) same ∙ h.free;
  closed = ap (λ (k : PassSight). holds_open k.view.places.held) same ∙ h.closed;
}

pub still_out : (place : ℕ) (o : PeekOutcome) (v w : PassSight) → HasRecord place v → Peeks place o v w → HasRecord place w
still_out place o v w h p = still_has place v w h p.same

-- the turn is given back
pub peeked : (place : ℕ) (o : PeekOutcome) (v w x y : PassSight) → IsFreeFor place v → HasRecordTurn place v w → Peeks place o w x
    → y ≡ record x { view = gave_turn place x.view; slots = rest x.slots } → Peeks place o v y
peeked place o v w x y f t p gave =
    let whole : y ≡ record v {
      view = record v.view {
        seen = record v.view.seen { front = x.view.seen.front };
        commit = record v.view.commit { hand = None };
        walk = x.view.walk;
        readings = x.view.readings ++ stored (turn_word x.view.passes.sizes place) 0 ∷ [];
      };
    } =
    gave ∙ ap (λ (k : PassSight). record k {
      view = record k.view { commit = record k.view.commit { hand = None }; readings = x.view.readings ++ stored (turn_word x.view.passes.sizes place) 0 ∷ [] };
      slots = rest k.slots;
    }) (p.same ∙ ap (λ (k : PassSight). record k {
      view = record k.view { seen = record k.view.seen { front = x.view.seen.front }; walk = x.view.walk; readings = x.view.readings };
    }) t.same) in
    let front : y.view.seen.front ≡ x.view.seen.front = ap (λ (k : PassSight). k.view.seen.front) whole in
    record {
      same = whole ∙ (λ i. record v {
        view = record v.view {
          seen = record v.view.seen { front = sym front i };
          commit = record v.view.commit { hand = sym f.hand i };
          walk = sym (ap (λ (k : PassSight). k.view.walk) whole) i;
          readings = sym (ap (λ (k : PassSight). k.view.readings) whole) i;
        };
      });
      all = subst (λ (l : List Event). AreAll v.view l) (sym front) (told (subst (λ (k : PassSight). AreAll k.view x.view.seen.front) t.same p.all));
      is = λ id kept.
          subst (λ (l : List Event). IsSeen id l o) (sym front)
          (p.is id (subst (λ (k : PassSight). is_kept_for place id k.view.places.held ≡ true) (sym t.same) kept));
    }
  where
    told : AreAll (record v.view { commit = record v.view.commit { hand = Some t.hand }; readings = w.view.readings }) x.view.seen.front → AreAll v.view x.view.seen.front
    told a = record { front = a.front; told = a.told; legal = a.legal; few = a.few; passes = a.passes; shares = a.shares; alone = a.alone }
