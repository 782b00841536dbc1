-- What a tracker that one thread alone uses makes of a packet, by the state that the packet finds: the tracker of one
-- thread itself. It chooses a number that a rule allows, a place, which has to be free in a legal history, and where its
-- table is full which of the entries that may go it drops. Where it has further passes and its table is nearly full, it
-- may find it full or not. All else is determined. A packet of one thread
-- is never merged, and its entry is there when its payload is read, so neither has a case here.
use Rattle.std.specs.Prelude.{◌≡◌, ◌⊎◌, ℕ, ◌+◌, ◌<◌, ◌≤◌, Bool, true, false, ◌==◌, ◌&&◌, Option, Some, None, List, [], ◌∷◌, ◌++◌, length}
use Rattle.expect_table.specs.Expectations.{add_outcome, matching}
use Rattle.expect_table.specs.declared.expectation.Expectation.{Expectation}
use Rattle.expect_table.specs.declared.expectation.Want.{Want}
use Rattle.expect_table.specs.declared.table.AddOutcome.{AddOutcome}
use Rattle.expect_table.specs.declared.table.AddOutcome.TheVariants as add
use Rattle.std.specs.List.{list_any}
use Rattle.tuple_core.specs.Inverse.{inverse}
use Rattle.tuple_core.specs.declared.Proto.TheVariants as proto
use Rattle.tuple_core.specs.declared.Tuple.{Tuple}
use Rattle.history_book.specs.declared.event.Event.{Event}
use Rattle.history_book.specs.declared.event.Event.TheVariants.{Claim, Confirm, Destroy, Expect}
use Rattle.history_book.specs.declared.event.Why.TheVariants as why
use Rattle.history_book.specs.declared.record.Record.{Record}
use Rattle.history_book.specs.declared.verdict.Class.{Class}
use Rattle.history_book.specs.declared.verdict.Class.TheVariants as class
use Rattle.history_book.specs.declared.verdict.Ftp.{Ftp}
use Rattle.history_book.specs.declared.verdict.Ftp.TheVariants as ftp
use Rattle.history_book.specs.declared.verdict.Translated.{Translated}
use Rattle.history_book.specs.declared.verdict.Translated.TheVariants.{Chosen, Plain}
use Rattle.history_book.specs.declared.verdict.UntrackedWhy.{UntrackedWhy}
use Rattle.history_book.specs.DeskExpectations.{expectation_at}
use Rattle.history_book.specs.History.{run}
use Rattle.history_book.specs.Label.{label_of}
use Rattle.history_book.specs.Legality.{same_proto}
use Rattle.history_book.specs.Sizes.{fewest_of_full}
use Rattle.history_book.specs.State.{Found, State, is_free, live_under, next, record_of, winner}
use Rattle.nat_setup.specs.declared.rule.Rule.{Rule}
use Rattle.nat_setup.specs.Reply.{is_allowed, own_number, reply_with}
use Rattle.nat_setup.specs.Rule.{rule_for}
use Rattle.nat_setup.specs.Translation.{is_own_or_barred}
use Rattle.packet_headers.specs.declared.packet.Packet.{Packet}
use Rattle.packet_headers.specs.declared.packet.Packet.TheVariants as packet
use Rattle.packet_path.specs.FtpPart.{Asks, NamesNone}
use Rattle.packet_path.specs.Packet.{FlowPacket, Given, cause_of}
use Rattle.packet_path.specs.Passed.{reset_by, touch_by}
use Rattle.packet_path.specs.Room.{may_go}
use Rattle.proto_rules.specs.declared.Outcome.{Outcome}
use Rattle.proto_rules.specs.declared.Outcome.TheVariants as outcome
use Rattle.proto_rules.specs.declared.Part.{Part}
use Rattle.proto_rules.specs.Start.{start_of}
use Rattle.proto_rules.specs.Step.{step_of}
use Rattle.replay_runs.specs.Report.{TrackerSetup}

-- what of a tracker's setup and sizes its reactions read: its rules, the ports of the helper, how many entries and
-- expectations there may be, and from how many live entries on it may say FULL
pub record Configuration : Type 0 where
  pub rules : List Rule
  pub ports : List ℕ
  pub entries : ℕ
  pub expectations : ℕ
  pub full : ℕ

abbrev pub configuration_of : TrackerSetup → Configuration
configuration_of tracker = record {
  rules = tracker.setup.rules.items;
  ports = tracker.setup.ftp.items;
  entries = tracker.sizes.entries;
  expectations = tracker.sizes.expectations;
  full = fewest_of_full tracker.sizes;
}

-- what was made of a packet: its events, in order, and the class of its verdict
pub record Reaction : Type 0 where
  pub events : List Event
  pub class : Class

-- it makes no event, and gets this class
abbrev pub silent : Class → Reaction
silent class = record { events = []; class = class }

-- a packet of a flow, the state that it finds, and the point at which it finds it: so many events stand before it
pub record Situation : Type 0 where
  pub packet : FlowPacket
  pub state : State
  pub at : ℕ

-- ---- a new flow: its reply tuple

-- the point at which the flow's own number was taken, where the rule allows it and another one was chosen
abbrev pub taken_at : Bool → ℕ → Option ℕ
taken_at true at = None
taken_at false at = Some at

-- The rule gives a free reply tuple. It has another number than the flow's own only where the rule does not allow the
-- own one, or that is taken.
pub record IsChosen (now : Situation) (rule : Rule) (translated : Translated) (reply : Tuple) : Type 0 where
  pub number : ℕ
  pub allowed : is_allowed rule now.packet.tuple number ≡ true
  pub gives : reply ≡ reply_with rule now.packet.tuple number
  pub free : is_free reply now.state ≡ true
  pub own_taken : is_own_or_barred rule now.packet.tuple number ≡ false
      → is_free (reply_with rule now.packet.tuple (own_number rule now.packet.tuple)) now.state ≡ false
  pub said : translated ≡ Chosen reply (taken_at (is_own_or_barred rule now.packet.tuple number) now.at)

-- the reply tuple of a flow for which this is the first rule; without a rule it is the inverse
abbrev pub HasReply : Situation → Option Rule → Translated → Tuple → Type 0
HasReply now None translated reply = (translated ≡ Plain) × (reply ≡ inverse now.packet.tuple)
HasReply now (Some rule) translated reply = IsChosen now rule translated reply

-- there is a rule, and each number that it allows is taken
pub record HasNoNumber (now : Situation) (first : Option Rule) (reaction : Reaction) : Type 0 where
  pub rule : Rule
  pub is_first : first ≡ Some rule
  pub taken : (number : ℕ) → is_allowed rule now.packet.tuple number ≡ true
      → is_free (reply_with rule now.packet.tuple number) now.state ≡ false
  pub said : reaction ≡ silent (class.NoPort now.at now.at)

-- ---- a new flow: what expects it, and whom it meets

-- the Claim of this expectation, the first that matches
abbrev pub claims_of : FlowPacket → Option Expectation → List Event
claims_of packet None = []
claims_of packet (Some e) = Claim e.id e.master packet.tuple packet.moment ∷ []

abbrev pub master_of : Option Expectation → Option ℕ
master_of None = None
master_of (Some e) = Some e.master

-- the point at which no expectation matched
abbrev pub unclaimed_at : ℕ → Option Expectation → Option ℕ
unclaimed_at at None = Some at
unclaimed_at at (Some e) = None

-- the number of the next event, past the Claim where there is one
abbrev pub number_behind : Situation → Option Expectation → ℕ
number_behind now expected = now.at + length (claims_of now.packet expected)

-- an entry with this reply tuple has the helper: it is of TCP, and its server has one of the ports
abbrev pub is_helped_by : List ℕ → Tuple → Bool
is_helped_by ports reply = same_proto reply.proto proto.Tcp && list_any (λ (p : ℕ). p == reply.a) ports

-- the new entry
abbrev pub entry_of : Configuration → Situation → Part → Tuple → Option Expectation → ℕ → Record
entry_of tracker now part reply expected place = record {
  id = number_behind now expected;
  place = place;
  original = now.packet.tuple;
  reply = reply;
  part = part;
  helper = is_helped_by tracker.ports reply;
  master = master_of expected;
}

-- the flow meets an entry that has one of its tuples, else it is confirmed in some place
abbrev pub MeetsOrEnters : Configuration → Situation → Part → Translated → Tuple → Option Expectation → Option Found → Reaction → Type 0
MeetsOrEnters tracker now part translated reply expected (Some found) reaction =
    reaction ≡ record {
      events = claims_of now.packet expected;
      class = class.Clash found.subject.id (number_behind now expected) translated;
    }
MeetsOrEnters tracker now part translated reply expected None reaction =
    (place : ℕ) × (reaction ≡ record {
      events = claims_of now.packet expected ++ Confirm (entry_of tracker now part reply expected place) ∷ [];
      class = class.Made (number_behind now expected) (number_behind now expected + 1) translated (unclaimed_at now.at expected);
    })

-- the first expectation that matches the packet
abbrev pub expected_now : Situation → Option Expectation
expected_now now = matching now.packet.tuple now.packet.moment now.state.expects

-- there is room: the first expectation that matches the packet is claimed, and then the flow meets an entry or is
-- confirmed
pub record HasRoom (tracker : Configuration) (now : Situation) (part : Part) (translated : Translated) (reply : Tuple)
    (reaction : Reaction) : Type 0 where
  pub room : length now.state.records < tracker.entries
  pub then : MeetsOrEnters tracker now part translated reply (expected_now now)
      (winner now.packet.tuple reply (run now.state (claims_of now.packet (expected_now now)))) reaction

-- so many entries are live that it may say FULL: where it has one pass, as many as there are places; and none may go
pub record HasNoRoom (tracker : Configuration) (now : Situation) (reaction : Reaction) : Type 0 where
  pub full : tracker.full ≤ length now.state.records
  pub none : (id : ℕ) (r : Record) → record_of id now.state ≡ Some r → may_go now.packet r ≡ false
  pub said : reaction ≡ silent (class.Full now.at now.at)

-- the situation after an event
abbrev pub behind : Situation → Event → Situation
behind now event = record { packet = now.packet; state = next now.state event; at = now.at + 1 }

-- the packet's drop of this entry
abbrev pub drop_of : FlowPacket → Record → Event
drop_of packet r = Destroy r.id (why.Dropped packet.moment)

-- behind a drop, so many entries are live that it may say FULL again; the table was full first at this point
pub record IsFullAgain (tracker : Configuration) (from : ℕ) (now : Situation) (reaction : Reaction) : Type 0 where
  pub full : tracker.full ≤ length now.state.records
  pub said : reaction ≡ silent (class.Full from now.at)

-- So many entries are live that it may say FULL, and one that may go is dropped; then there is room for the flow, or
-- not. Which one is dropped goes by places, of which nothing is said here.
pub record Drops (tracker : Configuration) (now : Situation) (part : Part) (translated : Translated) (reply : Tuple)
    (reaction : Reaction) : Type 0 where
  pub full : tracker.full ≤ length now.state.records
  pub subject : Record
  pub live : record_of subject.id now.state ≡ Some subject
  pub goes : may_go now.packet subject ≡ true
  pub rest : List Event
  pub all : reaction.events ≡ drop_of now.packet subject ∷ rest
  pub then : HasRoom tracker (behind now (drop_of now.packet subject)) part translated reply (record { events = rest; class = reaction.class })
      ⊎ IsFullAgain tracker now.at (behind now (drop_of now.packet subject)) (record { events = rest; class = reaction.class })

-- a reply tuple is found for the flow, and then there is room for it, or none, or an entry is dropped for it
pub record FindsReply (tracker : Configuration) (now : Situation) (part : Part) (reaction : Reaction) : Type 0 where
  pub translated : Translated
  pub reply : Tuple
  pub has : HasReply now (rule_for tracker.rules now.packet.tuple) translated reply
  pub placed : HasRoom tracker now part translated reply reaction
      ⊎ HasNoRoom tracker now reaction
      ⊎ Drops tracker now part translated reply reaction

-- nothing is live under the packet's tuple: an entry begins with this part, or none begins with the segment
abbrev pub Begins : Configuration → Situation → Option Part → Reaction → Type 0
Begins tracker now None reaction = reaction ≡ silent (class.NoEntry now.at)
Begins tracker now (Some part) reaction =
    HasNoNumber now (rule_for tracker.rules now.packet.tuple) reaction ⊎ FindsReply tracker now part reaction

-- ---- a flow that has an entry

-- adding what the payload asks for gives this
abbrev pub Adds : FlowPacket → Found → ℕ → Want → AddOutcome → List Event → Ftp → Type 0
Adds packet found number want (add.Added replaced) further said =
    (further ≡ Expect (expectation_at number found.subject.id found.subject.original.zone want packet.moment) replaced packet.moment ∷ [])
    × (said ≡ ftp.Expected number)
Adds packet found number want (add.Clash id) further said = (further ≡ []) × (said ≡ ftp.Clash id number)
Adds packet found number want add.Full further said = (further ≡ []) × (said ≡ ftp.Full number)

-- the payload asks for something, which is added to what is expected
pub record IsAsked (room : ℕ) (now : Situation) (found : Found) (further : List Event) (said : Ftp) : Type 0 where
  pub want : Want
  pub asked : Asks now.packet found (Some want)
  pub added : Adds now.packet found now.at want
      (add_outcome room now.state.expects (expectation_at now.at found.subject.id found.subject.original.zone want now.packet.moment) now.packet.moment)
      further said

-- what comes of the payload, once the entry was touched
abbrev pub IsRead : ℕ → Situation → Found → List Event → Ftp → Type 0
IsRead room now found further said =
    NamesNone now.packet found × (further ≡ []) × (said ≡ ftp.Nothing)
    ⊎ Asks now.packet found None × (further ≡ []) × (said ≡ ftp.Address)
    ⊎ IsAsked room now found further said

-- the entry accepts the packet and goes on with this part, and then the payload is read
pub record IsTouched (tracker : Configuration) (now : Situation) (found : Found) (after : Part) (reaction : Reaction) : Type 0 where
  pub further : List Event
  pub payload : Ftp
  pub read : IsRead tracker.expectations (behind now (touch_by now.packet found after)) found further payload
  pub said : reaction ≡ record {
    events = touch_by now.packet found after ∷ further;
    class = class.Passed (label_of found.subject found.direction) found.subject.id (now.at + 1) payload;
  }

-- the packet would end the entry, and has ended four
abbrev pub IsContended : Situation → ℕ → Found → Reaction → Type 0
IsContended now ended found reaction = (ended ≡ 4) × (reaction ≡ silent (class.Contended found.subject.id now.at))

-- what comes of the packet by what the step gives for its entry; it has ended so many before
abbrev pub Steps : Configuration → Situation → ℕ → Found → Outcome → Reaction → Type 0
Steps tracker now ended found (outcome.Accept after) reaction = IsTouched tracker now found after reaction
Steps tracker now ended found outcome.Ignore reaction = reaction ≡ silent (class.Ignored found.subject.id now.at)
Steps tracker now ended found outcome.Invalid reaction = reaction ≡ silent (class.BadState found.subject.id now.at)
Steps tracker now ended found outcome.Reset reaction =
    reaction ≡ record {
      events = reset_by now.packet found ∷ [];
      class = class.Passed (label_of found.subject found.direction) found.subject.id (now.at + 1) ftp.Nothing;
    }
Steps tracker now ended found outcome.Expired reaction = IsContended now ended found reaction
Steps tracker now ended found outcome.Reopen reaction = IsContended now ended found reaction

-- by what is live under the packet's tuple
abbrev pub Meets : Configuration → Situation → ℕ → Option Found → Reaction → Type 0
Meets tracker now ended None reaction = Begins tracker now (start_of now.packet.segment now.packet.moment) reaction
Meets tracker now ended (Some found) reaction =
    Steps tracker now ended found (step_of found.subject.part found.direction now.packet.segment now.packet.moment) reaction

-- ---- entries that the packet ends

-- the event by which the packet ends the entry, where the step says that it is expired, or that it is reopened
abbrev pub end_of : FlowPacket → Found → Outcome → Option Event
end_of packet found (outcome.Accept after) = None
end_of packet found outcome.Ignore = None
end_of packet found outcome.Invalid = None
end_of packet found outcome.Reset = None
end_of packet found outcome.Expired = Some (Destroy found.subject.id (why.Expired packet.moment))
end_of packet found outcome.Reopen = Some (Destroy found.subject.id (why.Reopened found.direction packet.segment packet.moment))

-- it ends the entry that is live under its tuple
pub record Ends (packet : FlowPacket) (s : State) (event : Event) : Type 0 where
  pub found : Found
  pub live : live_under packet.tuple s ≡ Some found
  pub end : end_of packet found (step_of found.subject.part found.direction packet.segment packet.moment) ≡ Some event

-- it ends one after another
abbrev pub EndsAll : FlowPacket → State → List Event → Type 0
EndsAll packet s [] = Unit {0}
EndsAll packet s (e ∷ es) = Ends packet s e × EndsAll packet (next s e) es

-- a packet of a flow ends at most four entries, and then meets what is live under its tuple
pub record ReactsToFlow (tracker : Configuration) (s : State) (at : ℕ) (packet : FlowPacket) (reaction : Reaction) : Type 0 where
  pub ends : List Event
  pub rest : List Event
  pub all : reaction.events ≡ ends ++ rest
  pub few : length ends ≤ 4
  pub ended : EndsAll packet s ends
  pub met : Meets tracker (record { packet = packet; state = run s ends; at = at + length ends }) (length ends)
      (live_under packet.tuple (run s ends)) (record { events = rest; class = reaction.class })

-- ---- any frame

-- an error, by what is live under the inverse of the tuple in it, and whether it was sent to that tuple's source
abbrev pub error_class : ℕ → Option Found → Bool → Class
error_class at None is_sent_back = class.ErrorLost at
error_class at (Some found) true = class.Error found.direction found.subject.id at
error_class at (Some found) false = class.ErrorAddress found.subject.id at

abbrev pub ReactsToPacket : Configuration → State → ℕ → Packet → (moment : ℕ) (payload : List ℕ) → Reaction → Type 0
ReactsToPacket tracker s at (packet.Untracked cause) moment payload reaction =
    (why : UntrackedWhy) × (cause_of why ≡ cause) × (reaction ≡ silent (class.Untracked why))
ReactsToPacket tracker s at packet.Invalid moment payload reaction = reaction ≡ silent class.BadHeader
ReactsToPacket tracker s at (packet.Flow tuple segment span) moment payload reaction =
    ReactsToFlow tracker s at (record { tuple = tuple; segment = segment; moment = moment; payload = payload }) reaction
ReactsToPacket tracker s at (packet.Error inner outer) moment payload reaction =
    reaction ≡ silent (error_class at (live_under (inverse inner) s) ((inverse inner).dst == outer))

-- what the tracker makes of a frame in this state, at this point
abbrev pub ReactsTo : Configuration → State → ℕ → Given → Reaction → Type 0
ReactsTo tracker s at given reaction = ReactsToPacket tracker s at given.packet given.moment given.payload reaction
