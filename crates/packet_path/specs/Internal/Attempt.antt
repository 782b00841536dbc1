-- One attempt to handle a packet of a flow with a desk.
use Rattle.std.specs.Prelude.{◌≡◌, ℕ, ◌+◌, ◌<◌, ◌≤◌, ◌^◌, Bool, true, false, Option, None, Some, List, [], ◌∷◌, ◌++◌, length}
use Rattle.std.specs.List.{AllByRecursion}
use Rattle.tuple_core.specs.Tuple.{is_valid}
use Rattle.tuple_core.specs.declared.Tuple.{Tuple}
use Rattle.history_book.specs.declared.event.Event.{Event}
use Rattle.history_book.specs.State.{Found, live_under}
use Rattle.nat_setup.specs.Rule.{rule_for}
use Rattle.nat_setup.specs.Translation.{WasTranslated}
use Rattle.packet_path.specs.declared.begin.NewReply.{NewReply}
use Rattle.history_book.specs.declared.event.Note.{Note}
use Rattle.history_book.specs.declared.event.Why.{Why}
use Rattle.history_book.specs.declared.event.Why.TheVariants as why
use Rattle.history_book.specs.declared.verdict.Class.{Class}
use Rattle.proto_rules.specs.declared.Outcome.TheVariants as outcome
use Rattle.history_book.specs.declared.outcome.ClaimOutcome.{ClaimOutcome}
use Rattle.history_book.specs.declared.outcome.ClaimOutcome.TheVariants as claim
use Rattle.history_book.specs.declared.verdict.Ftp.{Ftp}
use Rattle.history_book.specs.Desk.{IsLiveUnder, StepGives}
use Rattle.history_book.specs.WentOn.{Saw, WentOn}
use Rattle.history_book.specs.Mark.{mark_past}
use Rattle.history_book.specs.Places.{HoldsNothing, HoldsOne}
use Rattle.history_book.specs.Point.{At}
use Rattle.history_book.specs.Sight.{IsKnown, Sight, risen}
use Rattle.packet_headers.specs.ClassifySound.{protocol_of}
use Rattle.packet_path.specs.declared.attempt.Attempt.{Attempt}
use Rattle.packet_path.specs.declared.attempt.Attempt.TheVariants.{Done, Killed, Again}
use Rattle.packet_path.specs.declared.attempt.Met.{Met}
use Rattle.packet_path.specs.Packet.{FlowPacket}
use Rattle.packet_path.specs.Packet.{Given, IsFlow}
use Rattle.packet_path.specs.declared.setup.Setup.{Setup}
use Rattle.packet_path.specs.declared.payload.Wanted.{Wanted}
use Rattle.packet_path.specs.declared.payload.Wanted.TheVariants.{Nothing, Foreign, End}
use Rattle.packet_path.specs.FtpPart.{Asks, NamesNone, FtpFits}
use Rattle.history_book.specs.Mark.{ftp_points, points_of}
use Rattle.packet_path.specs.Room.{Dropping, HasRoom, drops_by}
use Rattle.packet_path.specs.Taken.{taken_by}
use Rattle.packet_path.specs.Verdict.{FitsFrame, Kills, KillsAll}

-- the tuple is valid and of the segment's protocol, and the moment is one that a capture can name
pub record IsClassified (p : FlowPacket) : Type 0 where
  pub valid : is_valid p.tuple ≡ true
  pub protocol : p.tuple.proto ≡ protocol_of p.segment
  pub timely : p.moment ≤ 10 ^ 16

-- the entry that the packet met was live under its tuple, and its place is held for it
pub record IsMet (packet : FlowPacket) (met : Met) (s : Sight) : Type 0 where
  pub live : At s.front met.at (IsLiveUnder packet.tuple met.place met.id met.direction)
  pub holds : HoldsOne (record { place = met.place; id = Some met.id }) s

-- the tuple may be the reply tuple of a flow with this original one
pub record IsReplyOf (t reply : Tuple) : Type 0 where
  pub valid : is_valid reply ≡ true
  pub protocol : reply.proto ≡ t.proto
  pub zone : reply.zone ≡ t.zone

-- nothing was live under the packet's tuple at this point, and from there on the reply tuple was found for it
pub record IsFoundFor (setup : Setup) (packet : FlowPacket) (log : List Event) (absent_at : ℕ) (found : NewReply) : Type 0 where
  pub absent : At log absent_at (λ s. live_under packet.tuple s ≡ None)
  pub translation : WasTranslated log (rule_for setup.rules.items packet.tuple) packet.tuple absent_at (length log) found.translated found.reply

-- a place was had for the packet's flow, where the table was full by a drop: from what the desk knew first to what it
-- knows now
pub record HadPlace (setup : Setup) (packet : FlowPacket) (first now : Sight) (absent_at : ℕ) (found : NewReply) : Type 0 where
  pub dropped : Option Dropping
  pub went : WentOn first now (drops_by packet dropped)
  pub found_at : ℕ
  pub order : absent_at ≤ found_at
  pub within : found_at ≤ length now.front
  pub absent : At now.front absent_at (λ x. live_under packet.tuple x ≡ None)
  pub translation : WasTranslated now.front (rule_for setup.rules.items packet.tuple) packet.tuple absent_at found_at found.translated found.reply
  pub room : HasRoom first.sizes now.front packet found_at dropped (length now.front)

-- the point at which a packet was not expected, and the master of the expectation that it claimed
abbrev pub unclaimed_at : ClaimOutcome → Option ℕ
unclaimed_at (claim.Claimed number expectation master) = None
unclaimed_at (claim.Unclaimed at) = Some at

abbrev pub claimed_master : ClaimOutcome → Option ℕ
claimed_master (claim.Claimed number expectation master) = Some master
claimed_master (claim.Unclaimed at) = None

-- what the payload of a packet that an entry accepted asks for
abbrev pub WantedSays : FlowPacket → Found → Wanted → Type 0
WantedSays packet found Nothing = NamesNone packet found
WantedSays packet found Foreign = Asks packet found None
WantedSays packet found (End want) = Asks packet found (Some want)

-- what came of the payload of a packet that the entry accepted, which was found so, by this event
pub record Follows (packet : FlowPacket) (found : Found) (touched : ℕ) (old new : Sight) (ftp : Ftp) : Type 0 where
  pub further : List Note
  pub went : WentOn old new further
  pub few : length further ≤ 1
  pub points : AllByRecursion (λ p. p ≤ length new.front) (ftp_points ftp)
  pub fits : FtpFits old.sizes new.front packet found touched further ftp

-- the entry that was met is to end for this reason, since the step said so at the point
abbrev pub EndsEntry : FlowPacket → Met → ℕ → Why → Sight → Type 0
EndsEntry packet met at (why.Expired moment) s =
    (moment ≡ packet.moment)
    × At s.front at (StepGives met.id met.direction packet.segment packet.moment outcome.Expired)
EndsEntry packet met at (why.Reopened direction segment moment) s =
    (direction ≡ met.direction) × (segment ≡ packet.segment) × (moment ≡ packet.moment)
    × At s.front at (StepGives met.id met.direction packet.segment packet.moment outcome.Reopen)
EndsEntry packet met at (why.Reset segment moment) s = ⊥
EndsEntry packet met at (why.Deleted filter) s = ⊥
EndsEntry packet met at why.Flushed s = ⊥
EndsEntry packet met at (why.Dropped moment) s = ⊥

-- The packet's class, which fits whatever kills of this number came before, none of them later than this
-- point.
pub record Answers (setup : Setup) (old new : Sight) (packet : FlowPacket) (killed from : ℕ) (answer : Class) : Type 0 where
  pub rest : List Note
  pub went : WentOn old new rest
  pub few : length rest ≤ 3
  pub points : AllByRecursion (λ p. p ≤ length new.front) (points_of answer)
  pub fits : (given : Given) (mark : ℕ) (kills : List Note) → IsFlow given packet → length kills ≡ killed
      → KillsAll old.front mark packet kills → mark_past mark kills ≤ from
      → FitsFrame setup old.sizes new.front mark given (kills ++ rest) answer

-- the packet killed the entry that it met, and fewer than four before
pub record KilledOne (old new : Sight) (packet : FlowPacket) (killed from : ℕ) : Type 0 where
  pub few : killed < 4
  pub note : Note
  pub went : WentOn old new (note ∷ [])
  pub high : note.number < length new.front
  pub kill : Kills new.front from packet note

-- the packet killed the entry that it met, or nothing was done
abbrev pub KillsOrNot : Sight → Sight → FlowPacket → ℕ → ℕ → Bool → Type 0
KillsOrNot old new packet killed from true = KilledOne old new packet killed from
KillsOrNot old new packet killed from false = Saw old new

-- what an attempt says, after so many kills
abbrev pub AttemptSays : Setup → Sight → Sight → FlowPacket → ℕ → ℕ → Attempt → Type 0
AttemptSays setup old new packet killed from (Done answer) = Answers setup old new packet killed from answer
AttemptSays setup old new packet killed from Killed = KilledOne old new packet killed from
AttemptSays setup old new packet killed from Again = Saw old new

-- how often a desk took a place after an attempt
abbrev pub taken_in : Attempt → ℕ → ℕ
taken_in (Done answer) taken = taken_by answer taken
taken_in Killed taken = taken
taken_in Again taken = taken

-- the class is that of a packet that took a place
abbrev pub TookOne : Class → Type 0
TookOne answer = (taken : ℕ) → taken_by answer taken ≡ risen taken

-- what was done with a packet so far: so many kills; no place was taken, and nothing is held
pub record IsKilling (old now : Sight) (packet : FlowPacket) (killed : ℕ) : Type 0 where
  pub kills : List Note
  pub went : WentOn old now kills
  pub count : length kills ≡ killed
  pub few : killed ≤ 4
  pub all : KillsAll now.front (length old.front) packet kills
  pub mark : mark_past (length old.front) kills ≤ length now.front
  pub spare : old.spare ≤ now.spare + killed
  pub taken : now.taken ≡ old.taken
  pub empty : HoldsNothing now
  pub known : IsKnown now

-- between two tries after so many kills: what they need. The packet's own events begin with the desk's own event of index `first`.
pub record GoesOnKilling (old now : Sight) (packet : FlowPacket) (killed first : ℕ) : Type 0 where
  pub killing : IsKilling old now packet killed
  pub spare : 7 ≤ now.spare + killed
  pub low : first ≤ length now.own
  pub high : length now.own ≤ first + killed
