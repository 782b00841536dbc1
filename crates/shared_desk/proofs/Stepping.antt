-- The entry for which a place is held is touched.
use Rattle.std.specs.List.{slice_get}
use Rattle.std.proofs.Common.{◌≡◌, ℕ, ◌-◌, ◌≤◌, true, Option, Some, None, List, [], ◌∷◌, ◌++◌, length, refl, sym, ap, subst, ◌∙◌}
use Rattle.std.proofs.lemmas.Bool.{false≢true}
use Rattle.tuple_core.specs.declared.Segment.{Segment}
use Rattle.proto_rules.specs.Protocol.{is_of_protocol}
use Rattle.proto_rules.specs.Step.{step_of}
use Rattle.proto_rules.specs.declared.Outcome.{Outcome}
use Rattle.proto_rules.specs.declared.Outcome.TheVariants as outcome
use Rattle.history_book.specs.Entry.{confirmed_by, is_of_entry, is_of_record}
use Rattle.history_book.specs.Laws.{EntriesKeepTheirProtocol}
use Rattle.history_book.specs.Point.{StartsWith}
use Rattle.history_book.specs.State.{record_of}
use Rattle.history_book.specs.declared.event.Event.{Event}
use Rattle.history_book.specs.declared.outcome.TouchOutcome.{TouchOutcome}
use Rattle.history_book.specs.declared.outcome.TouchOutcome.TheVariants as touch
use Rattle.history_book.specs.declared.record.Record.{Record}
use Rattle.track_rule.specs.History.{events_in, state_after}
use Rattle.track_rule.specs.KeptWords.{is_kept_for}
use Rattle.track_rule.specs.PhaseSteps.{LoadsPhase}
use Rattle.track_rule.specs.Sights.{PassSight, sizes_of}
use Rattle.track_rule.specs.Steps.{AreAll, Looks}
use Rattle.track_rule.specs.TouchSteps.{hand_goes_on, known_record}
use Rattle.track_rule.specs.TurnSteps.{subject_in, with_subject}
use Rattle.shared_desk.specs.Looking.{HasRecord}
use Rattle.shared_desk.specs.Touching.{Accepts, Gives, GoesOn, IsLeft, IsStill, IsTouchedUnder, StepsRecord, SuitsEntry, TouchesUnder, touch_of}
use Rattle.shared_desk.specs.declared.touching.EntryPacket.{EntryPacket}
use Rattle.shared_desk.proofs.Lists.{get_append}
use Rattle.shared_desk.proofs.Loaded.{all_from, all_seen, its_id, left_now, live_now, subject_is, view_is}
use Rattle.history_book.specs.History.{is_legal}
use Rattle.shared_desk.specs.Commit.{seen_with}
use Rattle.proto_rules.specs.declared.Part.{Part}

-- the entry of an id is of the same protocol by a longer history
entry_stays : (segment : Segment) (id : ℕ) (front log : List Event) → StartsWith log front → is_of_entry segment id front ≡ true → is_of_entry segment id log ≡ true
entry_stays segment id front log (more, same) e =
    by_event (slice_get front id) refl e
  where
    by_event : (o : Option Event) → slice_get front id ≡ o → is_of_record segment (confirmed_by o) ≡ true → is_of_record segment (confirmed_by (slice_get log id)) ≡ true
    by_event None is e = absurd (false≢true e)
    by_event (Some x) is e =
        ap (λ (es : List Event). is_of_record segment (confirmed_by (slice_get es id))) same
        ∙ ap (λ (o : Option Event). is_of_record segment (confirmed_by o)) (get_append front more id x is) ∙ e

-- under the turn a phase and then the history word were loaded
module _ (place n word : ℕ) (p : EntryPacket) (v u w : PassSight) (h : HasRecord place v) (s : SuitsEntry place p v)
    (loads : LoadsPhase place v.view n u.view) (kept : u ≡ record v { view = u.view })
    (looks : Looks u.view word w.view) (kept' : w ≡ record u { view = w.view })
    (live : 3 ≤ n) (before : Record) (out : Some before ≡ subject_in w.slots) where
  whole : w ≡ record v {
    view = record v.view { seen = record v.view.seen { front = w.view.seen.front }; walk = w.view.walk; readings = w.view.readings };
  }
  whole = view_is place n word v u w h loads kept looks kept'

  all : AreAll v.view w.view.seen.front
  all = all_seen place n word v u w h loads kept looks kept'

  its : (i : ℕ) → is_kept_for place i v.view.places.held ≡ true → i ≡ n - 3
  its i held = its_id place n word v u w h loads kept looks kept' live before out i held

  live_then : record_of (n - 3) (state_after w.view.seen.front) ≡ Some before
  live_then = live_now place n word v u w h loads kept looks kept' live before out

  pub protocol_is : EntriesKeepTheirProtocol → is_of_protocol p.segment before.part.kind ≡ true
  protocol_is keep =
      sym (keep (sizes_of v) w.view.seen.front (length w.view.seen.front) (n - 3) before p.segment all.legal live_then)
      ∙ ap (λ (k : ℕ). is_of_entry p.segment k w.view.seen.front) (sym (its s.id s.kept))
      ∙ entry_stays p.segment s.id v.view.seen.front w.view.seen.front all.front s.protocol

  module _ (at : ℕ) (point : at ≡ events_in word) (x y : PassSight) (still : x ≡ w) where
    left : (o : Outcome) (a : ℕ) → IsStill before p o at a x y → IsLeft place a (Gives p o) v y
    left o a k =
        subst (λ (z : PassSight). IsLeft place a (Gives p o) v z) (sym (k.same ∙ still))
        (left_now place n word v u w h loads kept looks kept' a (Gives p o) (k.point ∙ point) (λ i held. record {
          subject = before;
          is = ap (λ (j : ℕ). record_of j (state_after w.view.seen.front)) (its i held) ∙ live_then;
          step = k.step;
        }))

    goes_from : (q : Record) (number : ℕ) (after : Part) → GoesOn place (n - 3) q p after number x y → GoesOn place (n - 3) q p after number v y
    goes_from q number after g =
        let from : x ≡ record v {
          view = record v.view { seen = record v.view.seen { front = w.view.seen.front }; walk = w.view.walk; readings = w.view.readings };
        } = still ∙ whole in
        record {
          log = g.log;
          all = all_from place n word v u w h loads kept looks kept' x g.log still g.all;
          number_is = g.number_is;
          legal = subst (λ (k : PassSight). is_legal (sizes_of k) (g.log ++ touch_of p (n - 3) after ∷ []) ≡ true) from g.legal;
          found = g.found;
          same = g.same ∙ ap (λ (k : PassSight). record k {
            view = record k.view {
              seen = seen_with g.log number (touch_of p (n - 3) after) k.view.seen;
              commit = record k.view.commit { hand = hand_goes_on after k.view.commit.hand };
              walk = None;
              readings = y.view.readings;
            };
            slots = with_subject place (Some (record q { part = after })) k.slots;
          }) from;
        }

    accepted : (number : ℕ) (q : Record) → Accepts place (n - 3) before p number q x y → IsTouchedUnder place p number q v y
    accepted number q a = record {
      id = n - 3;
      its = its;
      after = a.after;
      step = ap (λ (r : Record). step_of r.part p.direction p.segment p.moment) a.was ∙ a.step;
      known = ap known_record h.known ∙ subject_is place n word v u w h loads kept looks kept' live before out ∙ ap (λ (r : Record). Some r) (sym a.was);
      goes = subst (λ (r : Record). GoesOn place (n - 3) r p a.after number v y) (sym a.was) (goes_from before number a.after a.goes);
    }

    pub stepped : (o : TouchOutcome) → StepsRecord place (n - 3) before p at o x y → TouchesUnder place p o v y
    stepped (touch.Touched number q) k = accepted number q k
    stepped (touch.Ignored a) k = left outcome.Ignore a k
    stepped (touch.Invalid a) k = left outcome.Invalid a k
    stepped (touch.Reopen a) k = left outcome.Reopen a k
    stepped (touch.Reset a) k = left outcome.Reset a k
    stepped (touch.Expired a) k = left outcome.Expired a k
    stepped (touch.Gone a) k = absurd k
