-- How the parts of confirming a flow join.
use Rattle.std.proofs.Common.{◌≡◌, ℕ, ◌+◌, ◌<◌, Bool, true, false, Option, Some, None, List, [], ◌∷◌, ◌++◌, length, refl, sym, ap, subst, ◌∙◌, arith}
use Rattle.std.specs.Prelude.{◌==◌, if◌then◌else◌}
use Rattle.atomic_table.specs.Table.{rest}
use Rattle.std.proofs.lemmas.Bool.{cond_both, eq-eqb}
use Rattle.history_book.specs.Desk.{IsClash}
use Rattle.history_book.specs.Entry.{record_for}
use Rattle.history_book.specs.History.{is_legal}
use Rattle.history_book.specs.declared.event.Event.{Event}
use Rattle.history_book.specs.declared.event.Event.TheVariants as event
use Rattle.history_book.specs.declared.outcome.ConfirmOutcome.{ConfirmOutcome}
use Rattle.history_book.specs.declared.outcome.ConfirmOutcome.TheVariants.{Confirmed, Clash}
use Rattle.history_book.specs.declared.record.Flow.{Flow}
use Rattle.history_book.specs.declared.record.Record.{Record}
use Rattle.history_book.specs.declared.sizes.Sizes.{Sizes}
use Rattle.track_rule.specs.CommitSteps.{dropped, held_for}
use Rattle.track_rule.specs.Free.{is_among, unlisted}
use Rattle.track_rule.specs.History.{state_after}
use Rattle.track_rule.specs.Layout.{record_slot, turn_word}
use Rattle.track_rule.specs.Readings.{stored}
use Rattle.track_rule.specs.PhaseSteps.{holds_open}
use Rattle.track_rule.specs.Records.{has_hand, record_in, slot_of_record}
use Rattle.track_rule.specs.References.{is_taken}
use Rattle.track_rule.specs.Sights.{PassSight, sizes_of}
use Rattle.track_rule.specs.Steps.{AreAll}
use Rattle.track_rule.specs.Sums.{bit}
use Rattle.track_rule.specs.TurnSteps.{CanGiveTurn, gave_turn, subject_in, with_subject}
use Rattle.track_rule.specs.declared.view.Commit.{Commit}
use Rattle.track_rule.specs.declared.view.Hand.{Hand}
use Rattle.track_rule.specs.declared.view.Hook.{Hook}
use Rattle.track_rule.specs.declared.view.Middle.TheVariants.{Calm}
use Rattle.track_rule.specs.declared.view.View.{View}
use Rattle.bucket_table.specs.LockedChain.{original_link, reply_link}
use Rattle.bucket_table.specs.Locks.{AreShut, AreWhole, Buckets, UnlocksTwo, open_both}
use Rattle.shared_desk.specs.Commit.{Commits, HasRecordTurn, is_any_up}
use Rattle.shared_desk.specs.Confirm.{Answers, BlocksAndOpens, CanConfirmFlow, CanEnter, ConfirmsFlow, EntersAndOpens, IsLocked}
use Rattle.shared_desk.specs.Rival.{Clashes}
use Rattle.shared_desk.specs.Tuples.{StoresTuples, pair_at, standing}
use Rattle.shared_desk.proofs.Hooks.{same_any, same_count}
use Rattle.shared_desk.proofs.Linking.{same_shuts}
use Rattle.shared_desk.proofs.Opening.{all_open, dropped_down, whole_from}

-- A RIVAL

-- an answer leaves the hooks
clash_hooks : (o : ConfirmOutcome) (place : ℕ) (flow : Flow) (v w : PassSight) → Clashes place flow o v w → w.view.buckets.hooks ≡ v.view.buckets.hooks
clash_hooks (Confirmed id) place flow v w h = absurd h
clash_hooks (Clash id direction both at) place flow v w h = ap (λ (k : PassSight). k.view.buckets.hooks) h.same

pub clash_whole : (o : ConfirmOutcome) (place : ℕ) (flow : Flow) (locked : Buckets) (v w : PassSight) → is_any_up v.view.buckets.hooks ≡ false → Clashes place flow o v w
    → AreWhole (sizes_of w) locked w.view
clash_whole o place flow locked v w down h = whole_from (sizes_of w) locked w.view (ap is_any_up (clash_hooks o place flow v w h) ∙ down)

pub clash_opens : (o : ConfirmOutcome) (place : ℕ) (flow : Flow) (locked : Buckets) (v w x : PassSight) → IsLocked flow locked v → Clashes place flow o v w → UnlocksTwo locked w x
    → BlocksAndOpens place flow o v x
clash_opens (Confirmed id) place flow locked v w x is h unlocks = absurd h
clash_opens (Clash id direction both at) place flow locked v w x is h unlocks =
    let front : x.view.seen.front ≡ w.view.seen.front = ap (λ (k : PassSight). k.view.seen.front) unlocks.same in
    let opens_all : open_both locked v.view.buckets.shut ≡ [] = all_open locked v.view.buckets.shut is.names in
    let walk : x.view.walk ≡ w.view.walk = ap (λ (k : PassSight). k.view.walk) unlocks.same in
    record {
      same = unlocks.same
          ∙ ap (λ (k : PassSight). record k {
            view = record k.view {
              buckets = record k.view.buckets { shut = open_both locked k.view.buckets.shut };
              readings = x.view.readings;
            };
          }) h.same
          ∙ (λ i. record v {
            view = record v.view {
              seen = record v.view.seen { front = sym front i };
              buckets = record v.view.buckets { shut = opens_all i };
              walk = sym walk i;
              readings = x.view.readings;
            };
          });
      all = subst (λ (l : List Event). AreAll v.view l) (sym front) h.all;
      point = h.point ∙ ap (λ (l : List Event). length l) (sym front);
      clash = subst (λ (l : List Event). IsClash place flow id direction both (state_after l)) (sym front) h.clash;
    }

-- AN ENTRY

pub commit_shut : (place : ℕ) (flow : Flow) (id : ℕ) (locked : Buckets) (v w : PassSight) → AreShut locked v.view → Commits place flow id v w → AreShut locked w.view
commit_shut place flow id locked v w shut h = record {
  lower = subst (λ (n : ℕ). 0 < n) (sym (same_shuts locked.lower w.view.buckets.shut v.view.buckets.shut h.buckets)) shut.lower;
  upper = subst (λ (n : ℕ). 0 < n) (sym (same_shuts locked.upper w.view.buckets.shut v.view.buckets.shut h.buckets)) shut.upper;
}

pub commit_whole : (place : ℕ) (flow : Flow) (id : ℕ) (locked : Buckets) (v w : PassSight) → is_any_up v.view.buckets.hooks ≡ false → Commits place flow id v w
    → AreWhole (sizes_of w) locked w.view
commit_whole place flow id locked v w down h =
    whole_from (sizes_of w) locked w.view
    (ap is_any_up h.hooks ∙ dropped_down (reply_link place) (dropped (original_link place) v.view.buckets.hooks) (dropped_down (original_link place) v.view.buckets.hooks down))

pub commit_opens : (place : ℕ) (flow : Flow) (id : ℕ) (locked : Buckets) (r : Record) (v w x y : PassSight) → IsLocked flow locked v → Commits place flow id v w → UnlocksTwo locked w x
    → r ≡ record_for flow id place → y ≡ record x { slots = with_subject place (Some r) x.slots } → EntersAndOpens place flow id v y
commit_opens place flow id locked r v w x y is h unlocks r_is swapped =
    let opens_all : open_both locked w.view.buckets.shut ≡ [] = all_open locked w.view.buckets.shut (h.buckets ∙ is.names) in
    let opens : x ≡ record w { view = record w.view { buckets = record { shut = []; hooks = dropped (reply_link place) (dropped (original_link place) v.view.buckets.hooks) }; readings = x.view.readings } } =
    unlocks.same ∙ (λ i. record w { view = record w.view { buckets = record { shut = opens_all i; hooks = h.hooks i }; readings = x.view.readings } }) in
    let readings : y.view.readings ≡ x.view.readings = ap (λ (k : PassSight). k.view.readings) swapped in
    record {
      log = h.log;
      all = h.all;
      number = h.number;
      legal = h.legal;
      same = swapped ∙ ap (λ (q : Record). record x { slots = with_subject place (Some q) x.slots }) r_is
          ∙ ap (λ (k : PassSight). record k { slots = with_subject place (Some (record_for flow id place)) k.slots }) (opens ∙ ap (λ (k : PassSight). record k {
            view = record k.view {
              buckets = record { shut = []; hooks = dropped (reply_link place) (dropped (original_link place) v.view.buckets.hooks) };
              readings = x.view.readings;
            };
          }) h.same)
          ∙ (λ i. record v {
            view = record v.view {
              seen = record v.view.seen {
                front = h.log ++ event.Confirm (record_for flow id place) ∷ [];
                own = v.view.seen.own ++ record { number = id; event = event.Confirm (record_for flow id place) } ∷ [];
              };
              places = record v.view.places {
                held = held_for place id v.view.places.held;
                owned = unlisted (place ∷ []) v.view.places.owned;
              };
              buckets = record { shut = []; hooks = dropped (reply_link place) (dropped (original_link place) v.view.buckets.hooks) };
              commit = record { hand = Some (record { place = place; phase = 3 + id; subject = Some (record_for flow id place) }); middle = Calm };
              walk = None;
              readings = sym readings i;
            };
            slots = with_subject place (Some (record_for flow id place)) v.slots;
          });
    }

-- THE WHOLE

-- once the tuples are stored and the turn is taken
pub can_enter : (place : ℕ) (flow : Flow) (v u w : PassSight) → CanConfirmFlow place flow v → StoresTuples place flow v u → HasRecordTurn place u w → CanEnter place flow w
can_enter place flow v u w can stores turn =
    let view : w.view ≡ record u.view { commit = record u.view.commit { hand = Some turn.hand }; readings = w.view.readings } = ap (λ (k : PassSight). k.view) turn.same in
    let hooks : w.view.buckets.hooks ≡ u.view.buckets.hooks = ap (λ (k : View). k.buckets.hooks) view in
    let stands : standing w.view.buckets.hooks ≡ standing v.view.buckets.hooks = ap standing hooks ∙ stores.stands in
    let sizes : sizes_of w ≡ sizes_of v = ap (λ (k : View). k.passes.sizes) view ∙ ap sizes_of stores.same in
    record {
      below = subst (λ (z : Sizes). place < z.entries) (sym sizes) can.fresh.below;
      taken = ap (λ (k : View). is_taken place k.places.held) view ∙ ap (λ (k : PassSight). is_taken place k.view.places.held) stores.same ∙ can.taken;
      owned = ap (λ (k : View). is_among place k.places.owned) view ∙ ap (λ (k : PassSight). is_among place k.view.places.owned) stores.same ∙ can.fresh.owned;
      turn = ap (has_hand place) view ∙ ap bit (eq-eqb turn.hand.place place turn.its_place);
      calm = ap (λ (k : View). k.commit.middle) view ∙ ap (λ (k : PassSight). k.view.commit.middle) stores.same ∙ ap (λ (k : Commit). k.middle) can.idle;
      closed = ap (λ (k : View). holds_open k.places.held) view ∙ ap (λ (k : PassSight). holds_open k.view.places.held) stores.same ∙ can.closed;
      free = ap (λ (k : View). k.free) view ∙ ap (λ (k : PassSight). k.view.free) stores.same ∙ can.free;
      carried = ap (λ (k : View). k.places.carried) view ∙ ap (λ (k : PassSight). k.view.places.carried) stores.same ∙ can.carried;
      few = omega (arith, can.few, ap (λ (k : View). length k.seen.own) view, ap (λ (k : PassSight). length k.view.seen.own) stores.same);
      protocol = can.protocol;
      original = same_count (original_link place) w.view.buckets.hooks v.view.buckets.hooks stands ∙ can.fresh.original;
      reply = same_count (reply_link place) w.view.buckets.hooks v.view.buckets.hooks stands ∙ can.fresh.reply;
      down = same_any (λ p. p.1) w.view.buckets.hooks v.view.buckets.hooks stands ∙ can.down;
      original_pair = ap (pair_at (original_link place)) hooks ∙ stores.original;
      reply_pair = ap (pair_at (reply_link place)) hooks ∙ stores.reply;
      shut = ap (λ (k : View). k.buckets.shut) view ∙ ap (λ (k : PassSight). k.view.buckets.shut) stores.same ∙ can.shut;
    }

-- how the hooks stand without one of them
abbrev without_link : ℕ → List (ℕ × Bool) → List (ℕ × Bool)
without_link x [] = []
without_link x (p ∷ ps) = (if p.0 == x then ps else p ∷ without_link x ps)

dropped_stands : (x : ℕ) (hooks : List Hook) → standing (dropped x hooks) ≡ without_link x (standing hooks)
dropped_stands x [] = refl
dropped_stands x (h ∷ hs) =
    cond_both (h.link == x) hs (h ∷ dropped x hs) (λ ks. standing ks ≡ (if h.link == x then standing hs else (h.link, h.up) ∷ without_link x (standing hs)))
    (λ e. sym (ap (λ (b : Bool). if b then standing hs else (h.link, h.up) ∷ without_link x (standing hs)) e))
    (λ e. ap (λ ps. (h.link, h.up) ∷ ps) (dropped_stands x hs) ∙ sym (ap (λ (b : Bool). if b then standing hs else (h.link, h.up) ∷ without_link x (standing hs)) e))

same_without : (x y : ℕ) (a b : List Hook) → standing a ≡ standing b → standing (dropped y (dropped x a)) ≡ standing (dropped y (dropped x b))
same_without x y a b e =
    dropped_stands y (dropped x a) ∙ ap (without_link y) (dropped_stands x a ∙ ap (without_link x) e ∙ sym (dropped_stands x b)) ∙ sym (dropped_stands y (dropped x b))

subject_back : (subject : Option Record) → record_in (slot_of_record subject) ≡ subject
subject_back None = refl
subject_back (Some r) = refl

some_hand : (a b : Hand) → Some a ≡ Some b → a ≡ b
some_hand a b e = cc

-- the turn may be given back: the record of a live entry is in its slot
pub can_give : (o : ConfirmOutcome) (place : ℕ) (flow : Flow) (u w x : PassSight) → HasRecordTurn place u w → Answers place flow o w x → CanGiveTurn x.view x.slots
can_give (Confirmed id) place flow u w x turn h =
    λ hand is live.
    let same : record { place = place; phase = 3 + id; subject = Some (record_for flow id place) } ≡ hand = some_hand _ _ (sym (ap (λ (k : PassSight). k.view.commit.hand) h.same) ∙ is) in
    ap (λ (k : PassSight). subject_in k.slots) h.same ∙ ap (λ (k : Hand). k.subject) same
can_give (Clash id direction both at) place flow u w x turn h =
    λ hand is live.
    let same : turn.hand ≡ hand =
    some_hand _ _ (sym (ap (λ (k : PassSight). k.view.commit.hand) h.same ∙ ap (λ (k : PassSight). k.view.commit.hand) turn.same) ∙ is) in
    ap (λ (k : PassSight). subject_in k.slots) h.same ∙ ap (λ (k : PassSight). subject_in k.slots) turn.same ∙ subject_back turn.hand.subject ∙ ap (λ (k : Hand). k.subject) same

pub hand_still : (o : ConfirmOutcome) (place : ℕ) (flow : Flow) (u w x : PassSight) → HasRecordTurn place u w → Answers place flow o w x → has_hand place x.view ≡ 1
hand_still (Confirmed id) place flow u w x turn h = ap (λ (k : PassSight). has_hand place k.view) h.same ∙ ap bit (eq-eqb place place refl)
hand_still (Clash id direction both at) place flow u w x turn h =
    ap (λ (k : PassSight). has_hand place k.view) h.same ∙ ap (λ (k : PassSight). has_hand place k.view) turn.same ∙ ap bit (eq-eqb turn.hand.place place turn.its_place)

pub calm_still : (o : ConfirmOutcome) (place : ℕ) (flow : Flow) (w x : PassSight) → CanEnter place flow w → Answers place flow o w x → x.view.commit.middle ≡ Calm
calm_still (Confirmed id) place flow w x can h = ap (λ (k : PassSight). k.view.commit.middle) h.same
calm_still (Clash id direction both at) place flow w x can h = ap (λ (k : PassSight). k.view.commit.middle) h.same ∙ can.calm

pub free_still : (o : ConfirmOutcome) (place : ℕ) (flow : Flow) (w x : PassSight) → CanEnter place flow w → Answers place flow o w x → x.view.free ≡ None
free_still (Confirmed id) place flow w x can h = ap (λ (k : PassSight). k.view.free) h.same ∙ can.free
free_still (Clash id direction both at) place flow w x can h = ap (λ (k : PassSight). k.view.free) h.same ∙ can.free

pub sizes_still : (o : ConfirmOutcome) (place : ℕ) (flow : Flow) (w x : PassSight) → Answers place flow o w x → sizes_of x ≡ sizes_of w
sizes_still (Confirmed id) place flow w x h = ap sizes_of h.same
sizes_still (Clash id direction both at) place flow w x h = ap sizes_of h.same

-- the pass as it was before, but for its hooks, once it has the turn
turned : (place : ℕ) (flow : Flow) (v u w : PassSight) → CanConfirmFlow place flow v → StoresTuples place flow v u → (t : HasRecordTurn place u w) → w ≡ record v {
  view = record v.view {
    buckets = record v.view.buckets { hooks = u.view.buckets.hooks };
    commit = record { hand = Some t.hand; middle = Calm };
    readings = w.view.readings;
  };
  slots = (record_slot place, slot_of_record t.hand.subject) ∷ v.slots;
}
turned place flow v u w can stores turn =
    turn.same
    ∙ ap (λ (k : PassSight). record k {
      view = record k.view { commit = record k.view.commit { hand = Some turn.hand }; readings = w.view.readings };
      slots = (record_slot place, slot_of_record turn.hand.subject) ∷ k.slots;
    }) stores.same
    ∙ (λ i. record v {
      view = record v.view {
        buckets = record v.view.buckets { hooks = u.view.buckets.hooks };
        commit = record { hand = Some turn.hand; middle = (can.idle i).middle };
        readings = w.view.readings;
      };
      slots = (record_slot place, slot_of_record turn.hand.subject) ∷ v.slots;
    })

pub answered : (o : ConfirmOutcome) (place : ℕ) (flow : Flow) (v u w x y : PassSight) → CanConfirmFlow place flow v → StoresTuples place flow v u → HasRecordTurn place u w → Answers place flow o w x
    → y ≡ record x { view = gave_turn place x.view; slots = rest x.slots } → ConfirmsFlow place flow o v y
answered (Confirmed id) place flow v u w x y can stores turn h gave =
    let before = turned place flow v u w can stores turn in
    let whole : y ≡ record v {
      view = record v.view {
        seen = record v.view.seen {
          front = h.log ++ event.Confirm (record_for flow id place) ∷ [];
          own = v.view.seen.own ++ record { number = id; event = event.Confirm (record_for flow id place) } ∷ [];
        };
        places = record v.view.places {
          held = held_for place id v.view.places.held;
          owned = unlisted (place ∷ []) v.view.places.owned;
        };
        buckets = record { shut = []; hooks = dropped (reply_link place) (dropped (original_link place) u.view.buckets.hooks) };
        commit = record { hand = None; middle = Calm };
        walk = None;
        readings = x.view.readings ++ stored (turn_word x.view.passes.sizes place) 0 ∷ [];
      };
    } =
    gave ∙ ap (λ (k : PassSight). record k {
      view = record k.view { commit = record k.view.commit { hand = None }; readings = x.view.readings ++ stored (turn_word x.view.passes.sizes place) 0 ∷ [] };
      slots = rest k.slots;
    }) (h.same ∙ ap (λ (k : PassSight). record k {
      view = record k.view {
        seen = record k.view.seen {
          front = h.log ++ event.Confirm (record_for flow id place) ∷ [];
          own = k.view.seen.own ++ record { number = id; event = event.Confirm (record_for flow id place) } ∷ [];
        };
        places = record k.view.places {
          held = held_for place id k.view.places.held;
          owned = unlisted (place ∷ []) k.view.places.owned;
        };
        buckets = record { shut = []; hooks = dropped (reply_link place) (dropped (original_link place) k.view.buckets.hooks) };
        commit = record { hand = Some (record { place = place; phase = 3 + id; subject = Some (record_for flow id place) }); middle = Calm };
        walk = None;
        readings = x.view.readings;
      };
      slots = with_subject place (Some (record_for flow id place)) k.slots;
    }) before) in
    let all : AreAll (record v.view {
      buckets = record v.view.buckets { hooks = u.view.buckets.hooks };
      commit = record { hand = Some turn.hand; middle = Calm };
      readings = w.view.readings;
    }) h.log = subst (λ (k : PassSight). AreAll k.view h.log) before h.all in
    record {
      log = h.log;
      all = record { front = all.front; told = all.told; legal = all.legal; few = all.few; passes = all.passes; shares = all.shares; alone = all.alone };
      number = h.number;
      legal = subst (λ (k : PassSight). is_legal (sizes_of k) (h.log ++ event.Confirm (record_for flow id place) ∷ []) ≡ true) before h.legal;
      same = whole ∙ (λ i. record v {
        view = record v.view {
          seen = record v.view.seen {
            front = h.log ++ event.Confirm (record_for flow id place) ∷ [];
            own = v.view.seen.own ++ record { number = id; event = event.Confirm (record_for flow id place) } ∷ [];
          };
          places = record v.view.places {
            held = held_for place id v.view.places.held;
            owned = unlisted (place ∷ []) v.view.places.owned;
          };
          buckets = record { shut = sym can.shut i; hooks = sym (ap (λ (k : PassSight). k.view.buckets.hooks) whole) i };
          commit = sym can.idle i;
          walk = sym (ap (λ (k : PassSight). k.view.walk) whole) i;
          readings = sym (ap (λ (k : PassSight). k.view.readings) whole) i;
        };
      });
      stands = ap (λ (k : PassSight). standing k.view.buckets.hooks) whole
          ∙ same_without (original_link place) (reply_link place) u.view.buckets.hooks v.view.buckets.hooks stores.stands;
    }
answered (Clash id direction both at) place flow v u w x y can stores turn h gave =
    let before = turned place flow v u w can stores turn in
    let whole : y ≡ record v {
      view = record v.view {
        seen = record v.view.seen { front = x.view.seen.front };
        buckets = record { shut = []; hooks = u.view.buckets.hooks };
        commit = record { hand = None; middle = Calm };
        walk = x.view.walk;
        readings = x.view.readings ++ stored (turn_word x.view.passes.sizes place) 0 ∷ [];
      };
    } =
    gave ∙ ap (λ (k : PassSight). record k {
      view = record k.view { commit = record k.view.commit { hand = None }; readings = x.view.readings ++ stored (turn_word x.view.passes.sizes place) 0 ∷ [] };
      slots = rest k.slots;
    }) (h.same ∙ ap (λ (k : PassSight). record k {
      view = record k.view {
        seen = record k.view.seen { front = x.view.seen.front };
        buckets = record k.view.buckets { shut = [] };
        walk = x.view.walk;
        readings = x.view.readings;
      };
    }) before) in
    let front : y.view.seen.front ≡ x.view.seen.front = ap (λ (k : PassSight). k.view.seen.front) whole in
    let all : AreAll (record v.view {
      buckets = record v.view.buckets { hooks = u.view.buckets.hooks };
      commit = record { hand = Some turn.hand; middle = Calm };
      readings = w.view.readings;
    }) x.view.seen.front = subst (λ (k : PassSight). AreAll k.view x.view.seen.front) before h.all in
    record {
      same = whole ∙ (λ i. record v {
        view = record v.view {
          seen = record v.view.seen { front = sym front i };
          buckets = record { shut = sym can.shut i; hooks = sym (ap (λ (k : PassSight). k.view.buckets.hooks) whole) i };
          commit = sym can.idle i;
          walk = sym (ap (λ (k : PassSight). k.view.walk) whole) i;
          readings = sym (ap (λ (k : PassSight). k.view.readings) whole) i;
        };
      });
      stands = ap (λ (k : PassSight). standing k.view.buckets.hooks) whole ∙ stores.stands;
      all = subst (λ (l : List Event). AreAll v.view l) (sym front)
          (record { front = all.front; told = all.told; legal = all.legal; few = all.few; passes = all.passes; shares = all.shares; alone = all.alone });
      point = h.point ∙ ap (λ (l : List Event). length l) (sym front);
      clash = subst (λ (l : List Event). IsClash place flow id direction both (state_after l)) (sym front) h.clash;
    }
