-- What a verdict that fits says is the reaction of the tracker of one thread, where a packet's own events are one after
-- another from its mark on, and no point of it is past them.
use Rattle.std.proofs.Common.{◌≡◌, ℕ, ◌+◌, ◌≤◌, Bool, true, false, List, [], ◌∷◌, ◌++◌, length, refl, sym, ap, subst, ◌∙◌, arith, Option, Some, None, ◌==◌, ⊎_elim, eq-eqb, ne_eqb}
use Rattle.std.specs.List.{AllByRecursion}
use Rattle.tuple_core.specs.Inverse.{inverse}
use Rattle.tuple_core.specs.declared.Direction.{Direction}
use Rattle.tuple_core.specs.declared.Tuple.{Tuple}
use Rattle.history_book.specs.declared.event.Event.{Event}
use Rattle.history_book.specs.declared.verdict.Class.{Class}
use Rattle.history_book.specs.declared.verdict.Class.TheVariants as class
use Rattle.history_book.specs.History.{after, is_legal}
use Rattle.history_book.specs.Laws.{EventsMayHappen, FoundAreFoundAgain, UnusedPlacesAreRoom}
use Rattle.history_book.specs.Mark.{ftp_points, points_of}
use Rattle.history_book.specs.State.{Found, live_under}
use Rattle.history_book.specs.StateLaws.{AbsentTuplesAreNobodys, FreeIsAbsent}
use Rattle.packet_headers.specs.declared.packet.Packet.{Packet}
use Rattle.packet_headers.specs.declared.packet.Packet.TheVariants as packet
use Rattle.proto_rules.specs.declared.Outcome.{Outcome}
use Rattle.proto_rules.specs.declared.Outcome.TheVariants as outcome
use Rattle.proto_rules.specs.declared.Part.{Part}
use Rattle.proto_rules.specs.Laws.{ExpiredAreTold, ResetsAreUnanswered, SamePartIsEquality}
use Rattle.packet_path.specs.Error.{LooksUp}
use Rattle.packet_path.specs.Packet.{FlowPacket, Given, cause_of}
use Rattle.packet_path.specs.Unchanged.{BeginsNothing, LeavesEntry}
use Rattle.packet_path.specs.Verdict.{FitsFrame}
use Rattle.replay_runs.specs.Report.{TrackerSetup}
use Rattle.replay_laws.specs.Reaction.{Begins, Meets, ReactsTo, ReactsToPacket, Steps, configuration_of, error_class}
use Rattle.replay_laws.proofs.Noted.{noted}
use Rattle.replay_laws.proofs.Beginnings.{clash_meets, full_meets, made_meets, no_port_meets, none_merged}
use Rattle.replay_laws.proofs.Passage.{passes_meets, same_reaction}
use Rattle.replay_laws.proofs.Stepping.{flow_reacts, none_noted, noted-length, now_at}

-- ---- frames that no event follows

untracked_reacts : (tracker : TrackerSetup) (log : List Event) (n : ℕ) (own : List Event) (given : Given) (class : Class) (p : Packet)
    → given.packet ≡ p → ReactsToPacket (configuration_of tracker) (after log n) n p given.moment given.payload (record { events = own; class = class })
    → ReactsTo (configuration_of tracker) (after log n) n given (record { events = own; class = class })
untracked_reacts tracker log n own given class p is h =
    subst
    (λ (x : Packet). ReactsToPacket (configuration_of tracker) (after log n) n x given.moment given.payload (record { events = own; class = class }))
    (sym is) h

-- an error's class, by what its look-up found
error_reacts : (tracker : TrackerSetup) (log : List Event) (n : ℕ) (own : List Event) (given : Given) (class : Class) (inner : Tuple) (outer at : ℕ)
    (found : Option Found) (sent_back : Bool) → given.packet ≡ packet.Error inner outer → noted n own ≡ [] → at ≤ n + length own
    → LooksUp log n inner at found → ((inverse inner).dst == outer) ≡ sent_back → (at ≡ n → class ≡ error_class n found sent_back)
    → ReactsTo (configuration_of tracker) (after log n) n given (record { events = own; class = class })
error_reacts tracker log n own given class inner outer at found sent_back is nothing high looked test says =
    let empty : own ≡ [] = none_noted n own nothing in
    let here : at ≡ n = omega (arith, looked.from, high, ap length empty) in
    let live : live_under (inverse inner) (after log n) ≡ found =
    subst (λ p. live_under (inverse inner) (after log p) ≡ found) here looked.live.fact in
    untracked_reacts tracker log n own given class (packet.Error inner outer) is
    (same_reaction empty
    (says here ∙ sym (ap (λ (o : Option Found). error_class n o sent_back) live)
    ∙ sym (ap (λ b. error_class n (live_under (inverse inner) (after log n)) b) test)))

lost_same : {at n : ℕ} → at ≡ n → class.ErrorLost at ≡ class.ErrorLost n
lost_same e = cc

address_same : {id i at n : ℕ} → id ≡ i → at ≡ n → class.ErrorAddress id at ≡ class.ErrorAddress i n
address_same e f = cc

error_same : {d f : Direction} {id i at n : ℕ} → d ≡ f → id ≡ i → at ≡ n → class.Error d id at ≡ class.Error f i n
error_same e f g = cc

absent_same : {at n : ℕ} → at ≡ n → class.NoEntry at ≡ class.NoEntry n
absent_same e = cc

-- ---- packets that leave the table as it is

module _ (tracker : TrackerSetup) (log : List Event) (packet : FlowPacket) (k ended : ℕ) (more : List Event) where
  nothing_meets : (at : ℕ) → at ≤ k + length more → BeginsNothing log k packet (noted k more) at
      → Meets (configuration_of tracker) (now_at log packet k) ended (live_under packet.tuple (after log k))
      (record { events = more; class = class.NoEntry at })
  nothing_meets at high h =
      let empty : more ≡ [] = none_noted k more h.own in
      let here : at ≡ k = omega (arith, high, h.from, ap length empty) in
      subst (λ (o : Option Found). Meets (configuration_of tracker) (now_at log packet k) ended o (record { events = more; class = class.NoEntry at }))
      (sym (subst (λ p. live_under packet.tuple (after log p) ≡ None) here h.absent.fact))
      (subst (λ (o : Option Part). Begins (configuration_of tracker) (now_at log packet k) o (record { events = more; class = class.NoEntry at }))
      (sym h.starts) (same_reaction empty (absent_same here)))

  leaves_meets : (class : Class) (id at : ℕ) (o : Outcome) → at ≤ k + length more → LeavesEntry log k packet (noted k more) id at o
      → ((found : Found) → more ≡ [] → id ≡ found.subject.id → at ≡ k
      → Steps (configuration_of tracker) (now_at log packet k) ended found o (record { events = more; class = class }))
      → Meets (configuration_of tracker) (now_at log packet k) ended (live_under packet.tuple (after log k)) (record { events = more; class = class })
  leaves_meets class id at o high h says =
      let empty : more ≡ [] = none_noted k more h.own in
      let here : at ≡ k = omega (arith, high, h.from, ap length empty) in
      subst (λ (x : Option Found). Meets (configuration_of tracker) (now_at log packet k) ended x (record { events = more; class = class }))
      (sym (subst (λ p. live_under packet.tuple (after log p) ≡ Some h.found) here h.live.fact))
      (subst (λ (x : Outcome). Steps (configuration_of tracker) (now_at log packet k) ended h.found x (record { events = more; class = class }))
      (sym h.step) (says h.found empty (sym h.named) here))

bad_same : {id i at n : ℕ} → id ≡ i → at ≡ n → class.BadState id at ≡ class.BadState i n
bad_same e f = cc

ignored_same : {id i at n : ℕ} → id ≡ i → at ≡ n → class.Ignored id at ≡ class.Ignored i n
ignored_same e f = cc

contended_same : {id i at n : ℕ} → id ≡ i → at ≡ n → class.Contended id at ≡ class.Contended i n
contended_same e f = cc

-- ---- each class

module _ (may : EventsMayHappen) (again : FoundAreFoundAgain) (room : UnusedPlacesAreRoom) (free : FreeIsAbsent)
    (nobodys : AbsentTuplesAreNobodys) (expired : ExpiredAreTold) (resets : ResetsAreUnanswered) (parts : SamePartIsEquality)
    (tracker : TrackerSetup) where
  -- in any history
  pub reacts : (log : List Event) (n : ℕ) (own : List Event) (given : Given) (class : Class) → is_legal tracker.sizes log ≡ true
      → FitsFrame tracker.setup tracker.sizes log n given (noted n own) class
      → AllByRecursion (λ p. p ≤ n + length own) (points_of class)
      → ReactsTo (configuration_of tracker) (after log n) n given (record { events = own; class = class })
  reacts log n own given (class.Untracked why) legal (is, nothing) points =
      untracked_reacts tracker log n own given (class.Untracked why) (packet.Untracked (cause_of why)) is
      (why, refl, same_reaction (none_noted n own nothing) refl)
  reacts log n own given class.BadHeader legal (is, nothing) points =
      untracked_reacts tracker log n own given class.BadHeader packet.Invalid is (same_reaction (none_noted n own nothing) refl)
  reacts log n own given (class.NoEntry at) legal f points =
      flow_reacts may again expired tracker.sizes log legal tracker n given own (class.NoEntry at) _
      (λ p k ended more total count h. nothing_meets tracker log p k ended more at (omega (arith, total, points.0)) h) f
  reacts log n own given (class.BadState id at) legal f points =
      flow_reacts may again expired tracker.sizes log legal tracker n given own (class.BadState id at) _
      (λ p k ended more total count h.
      leaves_meets tracker log p k ended more (class.BadState id at) id at outcome.Invalid (omega (arith, total, points.0)) h
      (λ found empty named here. same_reaction empty (bad_same named here))) f
  reacts log n own given (class.ErrorLost at) legal f points =
      error_reacts tracker log n own given (class.ErrorLost at) f.inner f.outer at None ((inverse f.inner).dst == f.outer) f.error f.none
      points.0 f.fits refl (λ here. lost_same here)
  reacts log n own given (class.ErrorAddress id at) legal f points =
      error_reacts tracker log n own given (class.ErrorAddress id at) f.inner f.outer at (Some f.fits.found) false f.error f.none
      points.0 f.fits.looked (ne_eqb _ _ f.fits.address) (λ here. address_same (sym f.fits.named) here)
  reacts log n own given (class.Error direction id at) legal f points =
      error_reacts tracker log n own given (class.Error direction id at) f.inner f.outer at (Some f.fits.found) true f.error f.none
      points.0 f.fits.looked (eq-eqb _ _ f.fits.address) (λ here. error_same (sym f.fits.directed) (sym f.fits.named) here)
  reacts log n own given (class.Made id at translated unclaimed) legal f points =
      flow_reacts may again expired tracker.sizes log legal tracker n given own (class.Made id at translated unclaimed) _
      (λ p k ended more total count h.
      made_meets may tracker log legal p k ended more free room id at translated unclaimed h) f
  reacts log n own given (class.Passed label id at ftp) legal f points =
      flow_reacts may again expired tracker.sizes log legal tracker n given own (class.Passed label id at ftp) _
      (λ p k ended more total count h.
      passes_meets may again resets parts tracker log legal p k ended more label id at ftp
      (subst (λ m. AllByRecursion (λ q. q ≤ m) (at ∷ ftp_points ftp)) total points) h) f
  reacts log n own given (class.Ignored id at) legal f points =
      flow_reacts may again expired tracker.sizes log legal tracker n given own (class.Ignored id at) _
      (λ p k ended more total count h.
      leaves_meets tracker log p k ended more (class.Ignored id at) id at outcome.Ignore (omega (arith, total, points.0)) h
      (λ found empty named here. same_reaction empty (ignored_same named here))) f
  reacts log n own given (class.Merged id at translated) legal f points =
      flow_reacts may again expired tracker.sizes log legal tracker n given own (class.Merged id at translated) _
      (λ p k ended more total count h.
      absurd (none_merged may tracker log legal p k ended more nobodys id at translated (omega (arith, total, points.0)) h)) f
  reacts log n own given (class.Clash id at translated) legal f points =
      flow_reacts may again expired tracker.sizes log legal tracker n given own (class.Clash id at translated) _
      (λ p k ended more total count h.
      clash_meets may tracker log legal p k ended more id at translated (omega (arith, total, points.0)) h) f
  reacts log n own given (class.NoPort from to) legal f points =
      flow_reacts may again expired tracker.sizes log legal tracker n given own (class.NoPort from to) _
      (λ p k ended more total count h.
      no_port_meets may tracker log legal p k ended more from to (omega (arith, total, points.1.0)) h) f
  reacts log n own given (class.Full from at) legal f points =
      flow_reacts may again expired tracker.sizes log legal tracker n given own (class.Full from at) _
      (λ p k ended more total count h.
      full_meets may tracker log legal p k ended more from at (omega (arith, total, points.1.0)) h) f
  reacts log n own given (class.Contended id at) legal f points =
      flow_reacts may again expired tracker.sizes log legal tracker n given own (class.Contended id at) _
      (λ p k ended more total count h.
      ⊎_elim
      (λ l. leaves_meets tracker log p k ended more (class.Contended id at) id at outcome.Expired (omega (arith, total, points.0)) l
      (λ found empty named here. (four ended more count empty, same_reaction empty (contended_same named here))))
      (λ l. leaves_meets tracker log p k ended more (class.Contended id at) id at outcome.Reopen (omega (arith, total, points.0)) l
      (λ found empty named here. (four ended more count empty, same_reaction empty (contended_same named here))))
      h) f.stands
    where
      four : (ended : ℕ) (more : List Event) → length own ≡ ended + length more → more ≡ [] → ended ≡ 4
      four ended more count empty = omega (arith, count, ap length empty, f.four, noted-length n own)

  -- where the packet's own events stand in a history
  pub frame_reacts : (front own later : List Event) (given : Given) (class : Class)
      → is_legal tracker.sizes (front ++ (own ++ later)) ≡ true
      → FitsFrame tracker.setup tracker.sizes (front ++ (own ++ later)) (length front) given (noted (length front) own) class
      → AllByRecursion (λ p. p ≤ length front + length own) (points_of class)
      → ReactsTo (configuration_of tracker) (after (front ++ (own ++ later)) (length front)) (length front) given (record { events = own; class = class })
  frame_reacts front own later given class legal fits points =
      reacts (front ++ (own ++ later)) (length front) own given class legal fits points
