-- What a tracker makes of a frame in a state it makes in the bare state too.
use Rattle.std.proofs.Common.{◌≡◌, ◌⊎◌, ℕ, ◌+◌, ◌<◌, Bool, true, false, ◌&&◌, ◌==◌, List, [], ◌∷◌, map, length, refl, sym, ap, ap₂, subst, ◌∙◌, Option, Some, None, option_map, inl, inr, ⊎_elim, arith}
use Rattle.expect_table.specs.declared.expectation.Want.{Want}
use Rattle.expect_table.specs.declared.expectation.Expectation.{Expectation}
use Rattle.expect_table.specs.declared.table.AddOutcome.{AddOutcome}
use Rattle.expect_table.specs.declared.table.AddOutcome.TheVariants as add
use Rattle.history_book.specs.declared.event.Event.{Event}
use Rattle.history_book.specs.declared.record.Record.{Record}
use Rattle.history_book.specs.declared.verdict.Class.{Class}
use Rattle.history_book.specs.declared.verdict.Ftp.{Ftp}
use Rattle.history_book.specs.declared.verdict.Label.{Label}
use Rattle.history_book.specs.declared.verdict.Translated.{Translated}
use Rattle.history_book.specs.History.{run}
use Rattle.history_book.specs.Label.{label_of}
use Rattle.history_book.specs.Legality.{same_proto}
use Rattle.history_book.specs.State.{Found, State, live_under, next, record_of, winner}
use Rattle.nat_setup.specs.declared.rule.Rule.{Rule}
use Rattle.nat_setup.specs.Reply.{own_number, reply_with}
use Rattle.nat_setup.specs.Rule.{rule_for}
use Rattle.packet_headers.specs.declared.packet.Packet.{Packet}
use Rattle.packet_headers.specs.declared.packet.Packet.TheVariants as packet
use Rattle.packet_path.specs.FtpPart.{Asks, NamesNone, is_established, is_read}
use Rattle.packet_path.specs.Packet.{FlowPacket, Given}
use Rattle.packet_path.specs.Passed.{touch_by}
use Rattle.proto_rules.specs.declared.Outcome.{Outcome}
use Rattle.proto_rules.specs.declared.Outcome.TheVariants as outcome
use Rattle.proto_rules.specs.declared.Part.{Part}
use Rattle.proto_rules.specs.Start.{start_of}
use Rattle.proto_rules.specs.Step.{step_of}
use Rattle.tuple_core.specs.Inverse.{inverse}
use Rattle.tuple_core.specs.declared.Direction.{Direction}
use Rattle.tuple_core.specs.declared.Direction.TheVariants.{Original, Reply}
use Rattle.tuple_core.specs.declared.Proto.TheVariants as proto
use Rattle.tuple_core.specs.declared.Tuple.{Tuple}
use Rattle.packet_path.specs.Room.{may_go}
use Rattle.replay_laws.specs.OneAnswer.{unplaced}
use Rattle.replay_laws.specs.Reaction.{Adds, Begins, Configuration, Drops, Ends, EndsAll, HasNoRoom, HasReply, HasRoom, IsFullAgain, IsRead, IsTouched, Meets, MeetsOrEnters, Reaction, ReactsTo, ReactsToFlow, ReactsToPacket, Situation, Steps, behind, claims_of, drop_of, end_of, error_class, expected_now}
use Rattle.replay_laws.proofs.Bare.{bare, bare_found, bare_record, free_bare, length_bare, live_bare, next_bare, record_bare, run_bare, winner_bare}

-- the situation with the bare state
abbrev pub bare_now : Situation → Situation
bare_now now = record { packet = now.packet; state = bare now.state; at = now.at }

-- ---- a flow that has an entry

label_bare : (r : Record) (direction : Direction) → label_of (bare_record r) direction ≡ label_of r direction
label_bare r Original = refl
label_bare r Reply = refl

is_read_bare : (packet : FlowPacket) (found : Found) → is_read packet (bare_found found) ≡ is_read packet found
is_read_bare packet found =
    ap (λ (l : Label). same_proto packet.tuple.proto proto.Tcp && found.subject.helper && is_established l)
    (label_bare found.subject found.direction)

none_bare : (packet : FlowPacket) (found : Found) → NamesNone packet found → NamesNone packet (bare_found found)
none_bare packet found (inl h) = inl (is_read_bare packet found ∙ h)
none_bare packet found (inr h) = inr h

asks_bare : (packet : FlowPacket) (found : Found) (want : Option Want) → Asks packet found want → Asks packet (bare_found found) want
asks_bare packet found want a = record {
  read = is_read_bare packet found ∙ a.read;
  end = a.end;
  names = a.names;
  wants = a.wants;
}

adds_bare : (packet : FlowPacket) (found : Found) (number : ℕ) (want : Want) (outcome : AddOutcome) (further : List Event) (said : Ftp)
    → Adds packet found number want outcome further said → Adds packet (bare_found found) number want outcome further said
adds_bare packet found number want (add.Added replaced) further said h = h
adds_bare packet found number want (add.Clash id) further said h = h
adds_bare packet found number want add.Full further said h = h

read_bare : (room : ℕ) (now : Situation) (found : Found) (after : Part) (further : List Event) (said : Ftp)
    → IsRead room (behind now (touch_by now.packet found after)) found further said
    → IsRead room (behind (bare_now now) (touch_by now.packet (bare_found found) after)) (bare_found found) further said
read_bare room now found after further said (inl (h, f, e)) = inl (none_bare now.packet found h, f, e)
read_bare room now found after further said (inr (inl (h, f, e))) = inr (inl (asks_bare now.packet found None h, f, e))
read_bare room now found after further said (inr (inr h)) = inr (inr (record {
  want = h.want;
  asked = asks_bare now.packet found (Some h.want) h.asked;
  added = adds_bare now.packet found (now.at + 1) h.want _ further said h.added;
}))

touched_bare : (tracker : Configuration) (now : Situation) (found : Found) (after : Part) (reaction : Reaction)
    → IsTouched tracker now found after reaction → IsTouched tracker (bare_now now) (bare_found found) after reaction
touched_bare tracker now found after reaction t = record {
  further = t.further;
  payload = t.payload;
  read = read_bare tracker.expectations now found after t.further t.payload t.read;
  said = rw (label_bare found.subject found.direction) t.said;
}

steps_bare : (tracker : Configuration) (now : Situation) (ended : ℕ) (found : Found) (outcome : Outcome) (reaction : Reaction)
    → Steps tracker now ended found outcome reaction → Steps tracker (bare_now now) ended (bare_found found) outcome reaction
steps_bare tracker now ended found (outcome.Accept after) reaction h = touched_bare tracker now found after reaction h
steps_bare tracker now ended found outcome.Ignore reaction h = h
steps_bare tracker now ended found outcome.Invalid reaction h = h
steps_bare tracker now ended found outcome.Reset reaction h = rw (label_bare found.subject found.direction) h
steps_bare tracker now ended found outcome.Expired reaction h = h
steps_bare tracker now ended found outcome.Reopen reaction h = h

-- ---- a new flow

has_bare : (now : Situation) (first : Option Rule) (translated : Translated) (reply : Tuple)
    → HasReply now first translated reply → HasReply (bare_now now) first translated reply
has_bare now None translated reply h = h
has_bare now (Some rule) translated reply h = record {
  number = h.number;
  allowed = h.allowed;
  gives = h.gives;
  free = free_bare reply now.state ∙ h.free;
  own_taken = λ other. free_bare (reply_with rule now.packet.tuple (own_number rule now.packet.tuple)) now.state ∙ h.own_taken other;
  said = h.said;
}

claims_bare : (packet : FlowPacket) (s : State) (expected : Option Expectation)
    → run (bare s) (claims_of packet expected) ≡ bare (run s (claims_of packet expected))
claims_bare packet s None = refl
claims_bare packet s (Some e) = refl

entered_bare : (tracker : Configuration) (now : Situation) (part : Part) (translated : Translated) (reply : Tuple)
    (expected : Option Expectation) (found : Option Found) (reaction : Reaction)
    → MeetsOrEnters tracker now part translated reply expected found reaction
    → MeetsOrEnters tracker (bare_now now) part translated reply expected (option_map bare_found found) reaction
entered_bare tracker now part translated reply expected (Some found) reaction h = h
entered_bare tracker now part translated reply expected None reaction h = h

room_bare : (tracker : Configuration) (now : Situation) (part : Part) (translated : Translated) (reply : Tuple) (reaction : Reaction)
    → HasRoom tracker now part translated reply reaction → HasRoom tracker (bare_now now) part translated reply reaction
room_bare tracker now part translated reply reaction h =
    let later : State = run now.state (claims_of now.packet (expected_now now)) in
    record {
      room = subst (λ (n : ℕ). n < tracker.entries) (sym (length_bare now.state)) h.room;
      then = subst
          (λ (o : Option Found). MeetsOrEnters tracker (bare_now now) part translated reply (expected_now now) o reaction)
          (sym (winner_bare now.packet.tuple reply later)
          ∙ ap (winner now.packet.tuple reply) (sym (claims_bare now.packet now.state (expected_now now))))
          (entered_bare tracker now part translated reply (expected_now now) (winner now.packet.tuple reply later) reaction h.then);
    }

no_room_bare : (tracker : Configuration) (now : Situation) (reaction : Reaction) → HasNoRoom tracker now reaction
    → HasNoRoom tracker (bare_now now) reaction
no_room_bare tracker now reaction h = record {
  full = omega (arith, length_bare now.state, h.full);
  none = λ id r live. none_goes id r (record_of id now.state) refl (sym (record_bare id now.state) ∙ live);
  said = h.said;
}
  where
    none_goes : (id : ℕ) (r : Record) (o : Option Record) → record_of id now.state ≡ o → option_map bare_record o ≡ Some r
        → may_go now.packet r ≡ false
    none_goes id r None is e = cc
    none_goes id r (Some q) is e =
        subst (λ (x : Record). may_go now.packet x ≡ false) (some_same e) (h.none id q is)
      where
        some_same : {x y : Record} → Some x ≡ Some y → x ≡ y
        some_same e = cc

-- the situation behind a drop has the bare state of the situation behind it
drop_bare : (now : Situation) (r : Record)
    → behind (bare_now now) (drop_of now.packet (bare_record r)) ≡ bare_now (behind now (drop_of now.packet r))
drop_bare now r =
    ap (λ (x : State). record { packet = now.packet; state = x; at = now.at + 1 }) (next_bare now.state (drop_of now.packet r))

drops_bare : (tracker : Configuration) (now : Situation) (part : Part) (translated : Translated) (reply : Tuple) (reaction : Reaction)
    → Drops tracker now part translated reply reaction → Drops tracker (bare_now now) part translated reply reaction
drops_bare tracker now part translated reply reaction h =
    let further : Reaction = record { events = h.rest; class = reaction.class } in
    let next : Situation = behind now (drop_of now.packet h.subject) in
    record {
      full = omega (arith, length_bare now.state, h.full);
      subject = bare_record h.subject;
      live = record_bare h.subject.id now.state ∙ ap (option_map bare_record) h.live;
      goes = h.goes;
      rest = h.rest;
      all = h.all;
      then = subst (λ (x : Situation). HasRoom tracker x part translated reply further ⊎ IsFullAgain tracker now.at x further)
          (sym (drop_bare now h.subject))
          (⊎_elim (λ r. inl (room_bare tracker next part translated reply further r))
          (λ f. inr (record { full = omega (arith, length_bare next.state, f.full); said = f.said })) h.then);
    }

begins_bare : (tracker : Configuration) (now : Situation) (part : Option Part) (reaction : Reaction)
    → Begins tracker now part reaction → Begins tracker (bare_now now) part reaction
begins_bare tracker now None reaction h = h
begins_bare tracker now (Some part) reaction (inl h) = inl (record {
  rule = h.rule;
  is_first = h.is_first;
  taken = λ number allowed. free_bare (reply_with h.rule now.packet.tuple number) now.state ∙ h.taken number allowed;
  said = h.said;
})
begins_bare tracker now (Some part) reaction (inr h) = inr (record {
  translated = h.translated;
  reply = h.reply;
  has = has_bare now (rule_for tracker.rules now.packet.tuple) h.translated h.reply h.has;
  placed = ⊎_elim (λ p. inl (room_bare tracker now part h.translated h.reply reaction p))
      (λ q. ⊎_elim (λ p. inr (inl (no_room_bare tracker now reaction p)))
      (λ p. inr (inr (drops_bare tracker now part h.translated h.reply reaction p))) q) h.placed;
})

meets_bare : (tracker : Configuration) (now : Situation) (ended : ℕ) (found : Option Found) (reaction : Reaction)
    → Meets tracker now ended found reaction → Meets tracker (bare_now now) ended (option_map bare_found found) reaction
meets_bare tracker now ended None reaction h =
    begins_bare tracker now (start_of now.packet.segment now.packet.moment) reaction h
meets_bare tracker now ended (Some found) reaction h =
    steps_bare tracker now ended found (step_of found.subject.part found.direction now.packet.segment now.packet.moment) reaction h

-- ---- entries that the packet ends

end_bare : (packet : FlowPacket) (found : Found) (outcome : Outcome) → end_of packet (bare_found found) outcome ≡ end_of packet found outcome
end_bare packet found (outcome.Accept after) = refl
end_bare packet found outcome.Ignore = refl
end_bare packet found outcome.Invalid = refl
end_bare packet found outcome.Reset = refl
end_bare packet found outcome.Expired = refl
end_bare packet found outcome.Reopen = refl

end_unplaced : (packet : FlowPacket) (found : Found) (outcome : Outcome) (e : Event) → end_of packet found outcome ≡ Some e
    → unplaced e ≡ e
end_unplaced packet found (outcome.Accept after) e h = cc
end_unplaced packet found outcome.Ignore e h = cc
end_unplaced packet found outcome.Invalid e h = cc
end_unplaced packet found outcome.Reset e h = cc
end_unplaced packet found outcome.Expired e h = cc
end_unplaced packet found outcome.Reopen e h = cc

ends_unplaced : (packet : FlowPacket) (s : State) (e : Event) → Ends packet s e → unplaced e ≡ e
ends_unplaced packet s e h =
    end_unplaced packet h.found (step_of h.found.subject.part h.found.direction packet.segment packet.moment) e h.end

all_unplaced : (packet : FlowPacket) (s : State) (es : List Event) → EndsAll packet s es → map unplaced es ≡ es
all_unplaced packet s [] h = refl
all_unplaced packet s (e ∷ es) (h, hs) =
    ap₂ (λ (x : Event) (xs : List Event). x ∷ xs) (ends_unplaced packet s e h) (all_unplaced packet (next s e) es hs)

all_bare : (packet : FlowPacket) (s : State) (es : List Event) → EndsAll packet s es → EndsAll packet (bare s) es
all_bare packet s [] h = tt
all_bare packet s (e ∷ es) (h, hs) = (
  record {
    found = bare_found h.found;
    live = live_bare packet.tuple s ∙ ap (option_map bare_found) h.live;
    end = end_bare packet h.found (step_of h.found.subject.part h.found.direction packet.segment packet.moment) ∙ h.end;
  },
  subst (λ (x : State). EndsAll packet x es)
      (sym (ap (next (bare s)) (sym (ends_unplaced packet s e h)) ∙ next_bare s e))
      (all_bare packet (next s e) es hs),
)

all_run : (packet : FlowPacket) (s : State) (es : List Event) → EndsAll packet s es → run (bare s) es ≡ bare (run s es)
all_run packet s es h = ap (run (bare s)) (sym (all_unplaced packet s es h)) ∙ run_bare s es

flow_bare : (tracker : Configuration) (s : State) (number : ℕ) (packet : FlowPacket) (reaction : Reaction)
    → ReactsToFlow tracker s number packet reaction → ReactsToFlow tracker (bare s) number packet reaction
flow_bare tracker s number packet reaction h = record {
  ends = h.ends;
  rest = h.rest;
  all = h.all;
  few = h.few;
  ended = all_bare packet s h.ends h.ended;
  met = subst
      (λ (x : State). Meets tracker (record { packet = packet; state = x; at = number + length h.ends }) (length h.ends)
      (live_under packet.tuple x) (record { events = h.rest; class = reaction.class }))
      (sym (all_run packet s h.ends h.ended))
      (subst
      (λ (o : Option Found). Meets tracker (record { packet = packet; state = bare (run s h.ends); at = number + length h.ends }) (length h.ends)
      o (record { events = h.rest; class = reaction.class }))
      (sym (live_bare packet.tuple (run s h.ends)))
      (meets_bare tracker (record { packet = packet; state = run s h.ends; at = number + length h.ends }) (length h.ends)
      (live_under packet.tuple (run s h.ends)) (record { events = h.rest; class = reaction.class }) h.met));
}

-- ---- any frame

error_bare : (number : ℕ) (found : Option Found) (is_sent_back : Bool)
    → error_class number (option_map bare_found found) is_sent_back ≡ error_class number found is_sent_back
error_bare number None is_sent_back = refl
error_bare number (Some found) true = refl
error_bare number (Some found) false = refl

packet_bare : (tracker : Configuration) (s : State) (number : ℕ) (packet : Packet) (moment : ℕ) (payload : List ℕ) (reaction : Reaction)
    → ReactsToPacket tracker s number packet moment payload reaction
    → ReactsToPacket tracker (bare s) number packet moment payload reaction
packet_bare tracker s number (packet.Untracked cause) moment payload reaction h = h
packet_bare tracker s number packet.Invalid moment payload reaction h = h
packet_bare tracker s number (packet.Flow tuple segment span) moment payload reaction h = flow_bare tracker s number _ reaction h
packet_bare tracker s number (packet.Error inner outer) moment payload reaction h =
    h ∙ ap (λ (c : Class). record { events = []; class = c })
    (sym (ap (λ (o : Option Found). error_class number o ((inverse inner).dst == outer)) (live_bare (inverse inner) s)
    ∙ error_bare number (live_under (inverse inner) s) ((inverse inner).dst == outer)))

-- a frame has the same reactions in the bare state
pub reacts_bare : (tracker : Configuration) (s : State) (number : ℕ) (given : Given) (reaction : Reaction)
    → ReactsTo tracker s number given reaction → ReactsTo tracker (bare s) number given reaction
reacts_bare tracker s number given reaction h = packet_bare tracker s number given.packet given.moment given.payload reaction h
