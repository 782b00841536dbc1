-- The tracker of one thread confirms at most one entry for a frame.
use Rattle.std.proofs.Common.{◌≡◌, ◌⊎◌, ℕ, ◌+◌, ◌≤◌, List, [], ◌∷◌, ◌++◌, length, refl, sym, ap, subst, Option, Some, None, inl, inr, arith}
use Rattle.expect_table.specs.Expectations.{add_outcome}
use Rattle.expect_table.specs.declared.expectation.Expectation.{Expectation}
use Rattle.expect_table.specs.declared.expectation.Want.{Want}
use Rattle.expect_table.specs.declared.table.AddOutcome.{AddOutcome}
use Rattle.expect_table.specs.declared.table.AddOutcome.TheVariants as add
use Rattle.tuple_core.specs.declared.Tuple.{Tuple}
use Rattle.history_book.specs.declared.event.Event.{Event}
use Rattle.history_book.specs.declared.event.Event.TheVariants.{Confirm, Destroy}
use Rattle.history_book.specs.declared.event.Why.TheVariants as why
use Rattle.history_book.specs.declared.verdict.Class.{Class}
use Rattle.history_book.specs.declared.verdict.Ftp.{Ftp}
use Rattle.history_book.specs.declared.verdict.Translated.{Translated}
use Rattle.history_book.specs.DeskExpectations.{expectation_at}
use Rattle.history_book.specs.History.{run}
use Rattle.history_book.specs.State.{Found, State, live_under, next, winner}
use Rattle.packet_headers.specs.declared.packet.Packet.{Packet}
use Rattle.packet_headers.specs.declared.packet.Packet.TheVariants as packet
use Rattle.packet_path.specs.Packet.{FlowPacket, Given}
use Rattle.packet_path.specs.Passed.{reset_by, touch_by}
use Rattle.proto_rules.specs.declared.Outcome.{Outcome}
use Rattle.proto_rules.specs.declared.Outcome.TheVariants as outcome
use Rattle.proto_rules.specs.declared.Part.{Part}
use Rattle.proto_rules.specs.Start.{start_of}
use Rattle.proto_rules.specs.Step.{step_of}
use Rattle.replay_laws.specs.Reaction.{Adds, Begins, Configuration, Drops, EndsAll, HasNoRoom, HasRoom, IsFullAgain, IsRead, IsTouched, Meets, MeetsOrEnters, Reaction, ReactsTo, ReactsToFlow, ReactsToPacket, Situation, Steps, behind, claims_of, drop_of, end_of, entry_of, expected_now, silent}
use Rattle.replay_laws.proofs.Counting.{confirms, confirms-append, confirms_of}

-- a reaction with these events confirms one entry at most, if they do
of_events : (reaction : Reaction) (es : List Event) → reaction.events ≡ es → confirms es ≤ 1 → confirms reaction.events ≤ 1
of_events reaction es e h = subst (λ (fs : List Event). confirms fs ≤ 1) (sym e) h

events_same : (reaction other : Reaction) → reaction ≡ other → reaction.events ≡ other.events
events_same reaction other e = ap (λ (r : Reaction). r.events) e

silent_few : (reaction : Reaction) (class : Class) → reaction ≡ silent class → confirms reaction.events ≤ 1
silent_few reaction class e = of_events reaction [] (events_same reaction (silent class) e) (omega arith)

-- ---- a new flow

claims_none : (packet : FlowPacket) (expected : Option Expectation) → confirms (claims_of packet expected) ≡ 0
claims_none packet None = refl
claims_none packet (Some e) = refl

module _ (tracker : Configuration) (now : Situation) where
  enters_few : (part : Part) (translated : Translated) (reply : Tuple) (expected : Option Expectation) (found : Option Found)
      (reaction : Reaction) → MeetsOrEnters tracker now part translated reply expected found reaction → confirms reaction.events ≤ 1
  enters_few part translated reply expected (Some found) reaction e =
      of_events reaction (claims_of now.packet expected) (events_same reaction _ e)
      (omega (arith, claims_none now.packet expected))
  enters_few part translated reply expected None reaction (place, e) =
      of_events reaction (claims_of now.packet expected ++ Confirm (entry_of tracker now part reply expected place) ∷ [])
      (events_same reaction _ e)
      (omega (
        arith,
        claims_none now.packet expected,
        confirms-append (claims_of now.packet expected) (Confirm (entry_of tracker now part reply expected place) ∷ []),
      ))

  room_few : (part : Part) (translated : Translated) (reply : Tuple) (reaction : Reaction)
      → HasRoom tracker now part translated reply reaction → confirms reaction.events ≤ 1
  room_few part translated reply reaction room =
      enters_few part translated reply (expected_now now)
      (winner now.packet.tuple reply (run now.state (claims_of now.packet (expected_now now)))) reaction room.then

-- a drop confirms none
dropped_few : (tracker : Configuration) (now : Situation) (part : Part) (translated : Translated) (reply : Tuple) (from : ℕ) (reaction : Reaction)
    → HasRoom tracker now part translated reply reaction ⊎ IsFullAgain tracker from now reaction → confirms reaction.events ≤ 1
dropped_few tracker now part translated reply from reaction (inl room) = room_few tracker now part translated reply reaction room
dropped_few tracker now part translated reply from reaction (inr full) = silent_few reaction _ full.said

module _ (tracker : Configuration) (now : Situation) where
  placed_few : (part : Part) (translated : Translated) (reply : Tuple) (reaction : Reaction)
      → HasRoom tracker now part translated reply reaction ⊎ HasNoRoom tracker now reaction ⊎ Drops tracker now part translated reply reaction
      → confirms reaction.events ≤ 1
  placed_few part translated reply reaction (inl room) = room_few tracker now part translated reply reaction room
  placed_few part translated reply reaction (inr (inl full)) = silent_few reaction _ full.said
  placed_few part translated reply reaction (inr (inr d)) =
      of_events reaction (drop_of now.packet d.subject ∷ d.rest) d.all
      (omega (
        arith,
        dropped_few tracker (behind now (drop_of now.packet d.subject)) part translated reply now.at (record { events = d.rest; class = reaction.class }) d.then,
      ))

  begins_few : (part : Option Part) (reaction : Reaction) → Begins tracker now part reaction → confirms reaction.events ≤ 1
  begins_few None reaction e = silent_few reaction _ e
  begins_few (Some part) reaction (inl none) = silent_few reaction _ none.said
  begins_few (Some part) reaction (inr finds) = placed_few part finds.translated finds.reply reaction finds.placed

-- ---- a flow that has an entry

adds_none : (packet : FlowPacket) (found : Found) (number : ℕ) (want : Want) (outcome : AddOutcome) (further : List Event) (said : Ftp)
    → Adds packet found number want outcome further said → confirms further ≡ 0
adds_none packet found number want (add.Added replaced) further said (e, rest) = ap (λ (es : List Event). confirms es) e
adds_none packet found number want (add.Clash id) further said (e, rest) = ap (λ (es : List Event). confirms es) e
adds_none packet found number want add.Full further said (e, rest) = ap (λ (es : List Event). confirms es) e

read_none : (room : ℕ) (now : Situation) (found : Found) (further : List Event) (said : Ftp)
    → IsRead room now found further said → confirms further ≡ 0
read_none room now found further said (inl (names, e, rest)) = ap (λ (es : List Event). confirms es) e
read_none room now found further said (inr (inl (asks, e, rest))) = ap (λ (es : List Event). confirms es) e
read_none room now found further said (inr (inr asked)) =
    adds_none now.packet found now.at asked.want
    (add_outcome room now.state.expects (expectation_at now.at found.subject.id found.subject.original.zone asked.want now.packet.moment) now.packet.moment)
    further said asked.added

module _ (tracker : Configuration) (now : Situation) where
  touched_few : (found : Found) (after : Part) (reaction : Reaction) → IsTouched tracker now found after reaction
      → confirms reaction.events ≤ 1
  touched_few found after reaction h =
      of_events reaction (touch_by now.packet found after ∷ h.further) (events_same reaction _ h.said)
      (omega (
        arith,
        read_none tracker.expectations (behind now (touch_by now.packet found after)) found h.further h.payload h.read,
      ))

  steps_few : (ended : ℕ) (found : Found) (outcome : Outcome) (reaction : Reaction) → Steps tracker now ended found outcome reaction
      → confirms reaction.events ≤ 1
  steps_few ended found (outcome.Accept after) reaction h = touched_few found after reaction h
  steps_few ended found outcome.Ignore reaction h = silent_few reaction _ h
  steps_few ended found outcome.Invalid reaction h = silent_few reaction _ h
  steps_few ended found outcome.Reset reaction h =
      of_events reaction (reset_by now.packet found ∷ []) (events_same reaction _ h) (omega arith)
  steps_few ended found outcome.Expired reaction h = silent_few reaction _ h.1
  steps_few ended found outcome.Reopen reaction h = silent_few reaction _ h.1

  meets_few : (ended : ℕ) (found : Option Found) (reaction : Reaction) → Meets tracker now ended found reaction
      → confirms reaction.events ≤ 1
  meets_few ended None reaction h = begins_few tracker now (start_of now.packet.segment now.packet.moment) reaction h
  meets_few ended (Some found) reaction h =
      steps_few ended found (step_of found.subject.part found.direction now.packet.segment now.packet.moment) reaction h

-- ---- entries that the packet ends

end_none : (packet : FlowPacket) (found : Found) (outcome : Outcome) (e : Event) → end_of packet found outcome ≡ Some e
    → confirms_of e ≡ 0
end_none packet found (outcome.Accept after) e h = cc
end_none packet found outcome.Ignore e h = cc
end_none packet found outcome.Invalid e h = cc
end_none packet found outcome.Reset e h = cc
end_none packet found outcome.Expired e h =
    let same : e ≡ Destroy found.subject.id (why.Expired packet.moment) = cc in
    ap (λ (d : Event). confirms_of d) same
end_none packet found outcome.Reopen e h =
    let same : e ≡ Destroy found.subject.id (why.Reopened found.direction packet.segment packet.moment) = cc in
    ap (λ (d : Event). confirms_of d) same

ends_none : (packet : FlowPacket) (s : State) (es : List Event) → EndsAll packet s es → confirms es ≡ 0
ends_none packet s [] h = refl
ends_none packet s (e ∷ es) (h, rest) =
    omega (
      arith,
      end_none packet h.found (step_of h.found.subject.part h.found.direction packet.segment packet.moment) e h.end,
      ends_none packet (next s e) es rest,
    )

-- ---- any frame

module _ (tracker : Configuration) (s : State) (at : ℕ) where
  flow_few : (packet : FlowPacket) (reaction : Reaction) → ReactsToFlow tracker s at packet reaction → confirms reaction.events ≤ 1
  flow_few packet reaction h =
      of_events reaction (h.ends ++ h.rest) h.all
      (omega (
        arith,
        confirms-append h.ends h.rest,
        ends_none packet s h.ends h.ended,
        meets_few tracker (record { packet = packet; state = run s h.ends; at = at + length h.ends }) (length h.ends)
            (live_under packet.tuple (run s h.ends)) (record { events = h.rest; class = reaction.class }) h.met,
      ))

  packet_few : (packet : Packet) (moment : ℕ) (payload : List ℕ) (reaction : Reaction)
      → ReactsToPacket tracker s at packet moment payload reaction → confirms reaction.events ≤ 1
  packet_few (packet.Untracked cause) moment payload reaction (why, e, said) = silent_few reaction _ said
  packet_few packet.Invalid moment payload reaction said = silent_few reaction _ said
  packet_few (packet.Flow tuple segment span) moment payload reaction h =
      flow_few (record { tuple = tuple; segment = segment; moment = moment; payload = payload }) reaction h
  packet_few (packet.Error inner outer) moment payload reaction said = silent_few reaction _ said

  pub frame_few : (given : Given) (reaction : Reaction) → ReactsTo tracker s at given reaction → confirms reaction.events ≤ 1
  frame_few given reaction h = packet_few given.packet given.moment given.payload reaction h
