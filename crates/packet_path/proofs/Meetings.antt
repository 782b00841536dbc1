-- What is said of a packet that met an entry.
use Rattle.std.proofs.Common.{◌≡◌, ℕ, ◌+◌, ◌<◌, ◌≤◌, Bool, true, false, cond, List, [], ◌∷◌, ◌++◌, length, Some, refl, sym, ap, subst, ◌∙◌, arith, length-append, inl, inr}
use Rattle.std.specs.List.{find}
use Rattle.std.proofs.lemmas.Bool.{eqb-true}
use Rattle.tuple_core.specs.declared.Direction.{Direction}
use Rattle.tuple_core.specs.declared.Segment.{Segment}
use Rattle.proto_rules.specs.declared.Outcome.{Outcome}
use Rattle.proto_rules.specs.declared.Outcome.TheVariants as outcome
use Rattle.history_book.specs.declared.desk.Hold.{Hold}
use Rattle.history_book.specs.declared.event.Event.{Event}
use Rattle.history_book.specs.declared.event.Event.TheVariants.{Destroy, Touch}
use Rattle.history_book.specs.declared.event.Note.{Note}
use Rattle.history_book.specs.declared.event.Why.{Why}
use Rattle.history_book.specs.declared.event.Why.TheVariants as why
use Rattle.history_book.specs.declared.record.Record.{Record}
use Rattle.history_book.specs.declared.verdict.Class.{Class}
use Rattle.history_book.specs.declared.verdict.Class.TheVariants as class
use Rattle.history_book.specs.declared.sizes.Sizes.{Sizes}
use Rattle.history_book.specs.declared.verdict.Ftp.{Ftp}
use Rattle.history_book.specs.declared.verdict.Ftp.TheVariants.{Nothing}
use Rattle.proto_rules.specs.declared.Part.{Part}
use Rattle.history_book.specs.Desk.{Destroys, HoldsOneMore, IsLiveUnder, Leaves, SamePlaces, StepGives, Touches}
use Rattle.history_book.specs.WentOn.{Looked, MadeEvent, WentOn}
use Rattle.history_book.specs.Entry.{is_helped_entry, is_of_entry, suits_entry, zone_of_entry}
use Rattle.history_book.specs.History.{after}
use Rattle.history_book.specs.Label.{label_of}
use Rattle.history_book.specs.Laws.{EntriesKeepTheirHelper, EntriesKeepTheirZone, EventsStay, FoundAreFoundAgain, FoundKeepTheirProtocol, RecordsAreOfOneFlow, StatesStay}
use Rattle.history_book.specs.Mark.{mark_past}
use Rattle.history_book.specs.Places.{HoldsNothing}
use Rattle.history_book.specs.Point.{At, StartsWith}
use Rattle.history_book.specs.Record.{has_id}
use Rattle.history_book.specs.Sight.{IsKnown, Sight}
use Rattle.history_book.specs.SightLaws.{GoingOnAddsUp, RestingIsSeeing}
use Rattle.history_book.specs.State.{Found, State, live_under, record_of}
use Rattle.history_book.specs.StateLaws.{LiveRecordsHaveTheProtocol}
use Rattle.packet_path.specs.declared.attempt.Met.{Met}
use Rattle.packet_path.specs.Packet.{FlowPacket}
use Rattle.packet_path.specs.declared.setup.Setup.{Setup}
use Rattle.packet_path.specs.Internal.Attempt.{Answers, EndsEntry, Follows, IsClassified, IsMet, KilledOne}
use Rattle.packet_path.specs.Laws.{SameProtocolIsEquality}
use Rattle.packet_path.specs.Packet.{Given}
use Rattle.packet_path.specs.FtpPart.{FtpFits}
use Rattle.packet_path.specs.Passed.{reset_by, touch_by}
use Rattle.packet_path.specs.Unchanged.{IsToEnd, LeavesEntry}
use Rattle.history_book.specs.Mark.{points_of}
use Rattle.packet_path.specs.Verdict.{AnswersFlow, FitsFrame, IsKillOf}
use Rattle.packet_path.proofs.Growth.{at_grows}
use Rattle.packet_path.proofs.Attempts.{flow_answer, silent, starts_longer, starts_refl}

-- a record that is found by its id has it
found_has : {X : Type 0} (p : X → Bool) (xs : List X) (y : X) → find p xs ≡ Some y → p y ≡ true
found_has p [] y h = cc
found_has p (x ∷ xs) y h = first_has p x y xs (p x) refl h (found_has p xs y)
  where
    first_has : {X : Type 0} (p : X → Bool) (x y : X) (xs : List X) (b : Bool) → p x ≡ b
        → cond b (Some x) (find p xs) ≡ Some y → (find p xs ≡ Some y → p y ≡ true) → p y ≡ true
    first_has p x y xs true e h rest = cc
    first_has p x y xs false e h rest = rest h

pub has_id_of : (id : ℕ) (s : State) (r : Record) → record_of id s ≡ Some r → r.id ≡ id
has_id_of id s r h = eqb-true r.id id (found_has (has_id id) s.records r h)

-- the entry of a record that has the helper was confirmed with it
pub helped_entry : EntriesKeepTheirHelper → (s : Sight) (number id : ℕ) (before : Record) → IsKnown s
    → record_of id (after s.front number) ≡ Some before → before.helper ≡ true → is_helped_entry before.id s.front ≡ true
helped_entry keep s number id before known at helper =
    let same : before.id ≡ id = has_id_of id (after s.front number) before at in
    keep s.sizes s.front number before.id before known.legal
    (subst (λ i. record_of i (after s.front number) ≡ Some before) (sym same) at)
    ∙ helper

-- the entry of a record was confirmed in its zone
pub zone_entry : EntriesKeepTheirZone → (s : Sight) (number id : ℕ) (before : Record) → IsKnown s
    → record_of id (after s.front number) ≡ Some before → zone_of_entry before.id s.front ≡ before.original.zone
zone_entry keep s number id before known at =
    let same : before.id ≡ id = has_id_of id (after s.front number) before at in
    keep s.sizes s.front number before.id before known.legal
    (subst (λ i. record_of i (after s.front number) ≡ Some before) (sym same) at)

module _ (states : StatesStay) (events : EventsStay) where
  -- the entry that was met is live under the packet's tuple wherever it is live
  pub live_again : FoundAreFoundAgain → (old new : Sight) (packet : FlowPacket) (met : Met) (q : ℕ) (r : Record) → IsKnown new
      → StartsWith new.front old.front → IsMet packet met old → record_of met.id (after new.front q) ≡ Some r
      → live_under packet.tuple (after new.front q) ≡ Some (record { subject = r; direction = met.direction })
  live_again again old new packet met q r known starts is at =
      let grown = at_grows states new.front old.front met.at (IsLiveUnder packet.tuple met.place met.id met.direction) starts is.live in
      again new.sizes new.front met.at q packet.tuple (record { subject = grown.fact.subject; direction = met.direction }) r known.legal
      grown.fact.live (subst (λ i. record_of i (after new.front q) ≡ Some r) (sym grown.fact.named) at)

  -- the packet's one event of the entry that it met
  module _ (again : FoundAreFoundAgain) (old new : Sight) (packet : FlowPacket) (met : Met) (known : IsKnown new) (is : IsMet packet met old) where
    -- it reset an entry that was this record
    pub reset_answer : (setup : Setup) (n from number : ℕ) (event : Event) (before : Record) → n ≤ 4 → from ≤ length old.front
        → MadeEvent old new number event → At new.front number (λ s. record_of met.id s ≡ Some before)
        → event ≡ reset_by packet (record { subject = before; direction = met.direction })
        → Answers setup old new packet n from (class.Passed (label_of before met.direction) before.id (number + 1) Nothing)
    reset_answer setup n from number event before few low made found same = record {
      rest = record { number = number; event = event } ∷ [];
      went = made.went;
      few = omega arith;
      points = (omega (arith, made.high), tt);
      fits = λ given mark kills flow count killed le.
          flow_answer states events new.front old.front made.went.front mark given packet kills _ _ flow (omega (arith, count)) killed
          (record {
            note = record { number = number; event = event };
            found = record { subject = before; direction = met.direction };
            further = [];
            own = refl;
            happened = record { event = made.happened; later = omega (arith, le, low, made.low) };
            passing = inr (record { event = same; none = refl; payload = refl });
            live = record {
              within = found.within;
              fact = live_again again old new packet met number before known made.went.front is found.fact;
            };
            named = refl;
            labelled = refl;
            point = refl;
          });
    }

    -- it touched an entry that was this record, and then this came of its payload
    pub touched_answer : GoingOnAddsUp → (setup : Setup) (mid : Sight) (n from number : ℕ) (event : Event) (part : Part) (before : Record) (ftp : Ftp)
        → n ≤ 4 → from ≤ length old.front
        → MadeEvent old mid number event → At mid.front number (λ s. record_of met.id s ≡ Some before)
        → event ≡ touch_by packet (record { subject = before; direction = met.direction }) part
        → Follows packet (record { subject = before; direction = met.direction }) number mid new ftp
        → Answers setup old new packet n from (class.Passed (label_of before met.direction) before.id (number + 1) ftp)
    touched_answer going setup mid n from number event part before ftp few low made found same follows =
        let note : Note = record { number = number; event = event } in
        let went : WentOn old new (note ∷ follows.further) = going.twice old mid new (note ∷ []) follows.further made.went follows.went in
        let grown = at_grows states new.front mid.front number (λ s. record_of met.id s ≡ Some before) follows.went.front found in
        record {
          rest = note ∷ follows.further;
          went = went;
          few = omega (arith, follows.few);
          points = (omega (arith, made.high, starts_longer new.front mid.front follows.went.front), follows.points);
          fits = λ given mark kills flow count killed le.
              flow_answer states events new.front old.front went.front mark given packet kills _ _ flow (omega (arith, count)) killed
              (record {
                note = note;
                found = record { subject = before; direction = met.direction };
                further = follows.further;
                own = refl;
                happened = record {
                  event = events new.front mid.front number event follows.went.front made.happened;
                  later = omega (arith, le, low, made.low);
                };
                passing = inl (record {
                  after = part;
                  event = same;
                  payload = subst
                      (λ (z : Sizes). FtpFits z new.front packet (record { subject = before; direction = met.direction }) number follows.further
                      ftp)
                      made.went.pass.sizes follows.fits;
                });
                live = record {
                  within = grown.within;
                  fact = live_again again old new packet met number before known went.front is grown.fact;
                };
                named = refl;
                labelled = refl;
                point = refl;
              });
        }

    -- the entry stands so at a point
    pub stands : (from at : ℕ) (o : Outcome) → StartsWith new.front old.front
        → At new.front at (StepGives met.id met.direction packet.segment packet.moment o)
        → (mark : ℕ) (kills : List Note) → mark_past mark kills ≤ from → from ≤ at
        → LeavesEntry new.front (mark_past mark kills) packet [] met.id at o
    stands from at o starts gives mark kills le low = record {
      own = refl;
      from = omega (arith, le, low);
      found = record { subject = gives.fact.subject; direction = met.direction };
      live = record {
        within = gives.within;
        fact = live_again again old new packet met at gives.fact.subject known starts is gives.fact.is;
      };
      named = has_id_of met.id (after new.front at) gives.fact.subject gives.fact.is;
      step = gives.fact.step;
    }

    -- the packet killed the entry
    pub killed_answer : (n from number : ℕ) (w : Why) (subject : Record) → n < 4 → from ≤ length old.front
        → Destroys met.id w old new number subject
        → IsKillOf packet (record { subject = subject; direction = met.direction }) (Destroy met.id w)
        → KilledOne old new packet n from
    killed_answer n from number w subject few low d kill = record {
      few = few;
      note = record { number = number; event = Destroy met.id w };
      went = d.made.went;
      high = d.made.high;
      kill = record {
        happened = record { event = d.made.happened; later = omega (arith, low, d.made.low) };
        found = record { subject = subject; direction = met.direction };
        live = record {
          within = d.found.within;
          fact = live_again again old new packet met number subject known d.made.went.front is d.found.fact;
        };
        kill = kill;
      };
    }

-- the entry that was met is of the packet's protocol
pub met_protocol : FoundKeepTheirProtocol → LiveRecordsHaveTheProtocol → RecordsAreOfOneFlow → SameProtocolIsEquality
    → (s : Sight) (packet : FlowPacket) (met : Met) → IsKnown s → IsClassified packet → IsMet packet met s
    → is_of_entry packet.segment met.id s.front ≡ true
met_protocol keep live records same s packet met known classified is =
    let l = is.live.fact in
    let found : Found = record { subject = l.subject; direction = met.direction } in
    let proto = live packet.tuple (after s.front met.at) found (records s.sizes s.front met.at known.legal) l.live in
    ap (λ n. is_of_entry packet.segment n s.front) (sym l.named)
    ∙ keep s.sizes s.front met.at packet.tuple found packet.segment known.legal l.live
    ∙ (same packet.segment l.subject.part.kind).1 (proto ∙ classified.protocol)

-- the entry that was met is still so once the desk has seen more and holds the same places
pub met_again : StatesStay → (old new : Sight) (packet : FlowPacket) (met : Met) → IsMet packet met old → StartsWith new.front old.front
    → SamePlaces old new → IsMet packet met new
met_again states old new packet met is starts same = record {
  live = at_grows states new.front old.front met.at (IsLiveUnder packet.tuple met.place met.id met.direction) starts is.live;
  holds = record { held = same.held ∙ is.holds.held; owed = same.owed ∙ is.holds.owed };
}

-- a reason for which an entry ends names a segment of its protocol
pub suits : (w : Why) (s : Sight) (packet : FlowPacket) (met : Met) (at : ℕ) → EndsEntry packet met at w s
    → is_of_entry packet.segment met.id s.front ≡ true → suits_entry w met.id s.front ≡ true
suits (why.Expired moment) s packet met at ends h = refl
suits (why.Reopened direction segment moment) s packet met at ends h =
    subst (λ (x : Segment). is_of_entry x met.id s.front ≡ true) (sym ends.1) h
suits (why.Reset segment moment) s packet met at ends h = absurd ends
suits (why.Deleted filter) s packet met at ends h = absurd ends
suits why.Flushed s packet met at ends h = absurd ends
suits (why.Dropped moment) s packet met at ends h = absurd ends

-- a reason for which an entry ends is a packet's kill
pub is_kill : (w : Why) (s : Sight) (packet : FlowPacket) (met : Met) (at : ℕ) (subject : Record) → EndsEntry packet met at w s
    → IsKillOf packet (record { subject = subject; direction = met.direction }) (Destroy subject.id w)
is_kill (why.Expired moment) s packet met at subject ends = inl (ap (λ m. Destroy subject.id (why.Expired m)) ends.0)
is_kill (why.Reopened direction segment moment) s packet met at subject ends =
    inr (reopened subject.id direction met.direction segment packet.segment moment packet.moment ends.0 ends.1 ends.2)
  where
    reopened : (id : ℕ) (d e : Direction) (x y : Segment) (m n : ℕ) → d ≡ e → x ≡ y → m ≡ n
        → Destroy id (why.Reopened d x m) ≡ Destroy id (why.Reopened e y n)
    reopened id d e x y m n p q r = cc
is_kill (why.Reset segment moment) s packet met at subject ends = absurd ends
is_kill (why.Deleted filter) s packet met at subject ends = absurd ends
is_kill why.Flushed s packet met at subject ends = absurd ends
is_kill (why.Dropped moment) s packet met at subject ends = absurd ends

module _ (states : StatesStay) (events : EventsStay) (again : FoundAreFoundAgain) where
  -- after four kills an entry that is to end stands
  pub contended : RestingIsSeeing → (setup : Setup) (w : Why) (s : Sight) (packet : FlowPacket) (met : Met) (at from : ℕ) → IsKnown s → IsMet packet met s
      → EndsEntry packet met at w s → from ≤ at → Answers setup s s packet 4 from (class.Contended met.id at)
  contended resting setup w s packet met at from known is ends low =
      silent states events setup s s packet 4 from at (class.Contended met.id at) (resting s) (within w ends) refl
      (λ given mark kills flow count killed le. record {
        four = omega (arith, length-append kills [], count);
        stands = flow_answer states events s.front s.front (starts_refl s.front) mark given packet kills [] _ flow (omega (arith, count)) killed
            (to_end w ends mark kills le);
      })
    where
      within : (w : Why) → EndsEntry packet met at w s → at ≤ length s.front
      within (why.Expired moment) e = e.1.within
      within (why.Reopened direction segment moment) e = e.3.within
      within (why.Reset segment moment) e = absurd e
      within (why.Deleted filter) e = absurd e
      within why.Flushed e = absurd e
      within (why.Dropped moment) e = absurd e

      to_end : (w : Why) → EndsEntry packet met at w s → (mark : ℕ) (kills : List Note) → mark_past mark kills ≤ from
          → IsToEnd s.front (mark_past mark kills) packet [] met.id at
      to_end (why.Expired moment) e mark kills le =
          inl (stands states events again s s packet met known is from at outcome.Expired (starts_refl s.front) e.1 mark kills le low)
      to_end (why.Reopened direction segment moment) e mark kills le =
          inr (stands states events again s s packet met known is from at outcome.Reopen (starts_refl s.front) e.3 mark kills le low)
      to_end (why.Reset segment moment) e mark kills le = absurd e
      to_end (why.Deleted filter) e mark kills le = absurd e
      to_end why.Flushed e mark kills le = absurd e
      to_end (why.Dropped moment) e mark kills le = absurd e

  -- a packet leaves the entry that it met as it is, with a class that says just this of the step
  pub left_as_it_is : (setup : Setup) (o : Outcome) (k : Class) (old new : Sight) (packet : FlowPacket) (met : Met) (n at : ℕ) → n ≤ 4 → IsKnown new
      → IsMet packet met old → Leaves met.id met.direction packet.segment packet.moment o old new at → points_of k ≡ at ∷ []
      → ((given : Given) (mark : ℕ) (own : List Note)
      → AnswersFlow new.front mark given own (λ p from rest. LeavesEntry new.front from p rest met.id at o)
      → FitsFrame setup old.sizes new.front mark given own k)
      → Answers setup old new packet n (length old.front) k
  left_as_it_is setup o k old new packet met n at few known is left points fits =
      silent states events setup old new packet n (length old.front) at k left.0.saw left.0.fact.within points
      (λ given mark kills flow count killed le.
      fits given mark (kills ++ [])
      (flow_answer states events new.front old.front left.0.saw.went.front mark given packet kills [] _ flow (omega (arith, count)) killed
      (stands states events again old new packet met known is (length old.front) at o left.0.saw.went.front left.0.fact mark kills le
      left.0.low)))

  -- a packet touched the entry that it met, and then this came of its payload
  pub touched : GoingOnAddsUp → (setup : Setup) (old mid new : Sight) (packet : FlowPacket) (met : Met) (n number : ℕ) (before : Record) (ftp : Ftp) → n ≤ 4
      → IsKnown new → IsMet packet met old → Touches met.id met.direction packet.segment packet.moment old mid number before
      → Follows packet (record { subject = before; direction = met.direction }) number mid new ftp
      → Answers setup old new packet n (length old.front) (class.Passed (label_of before met.direction) before.id (number + 1) ftp)
  touched going setup old mid new packet met n number before ftp few known is touches follows =
      touched_answer states events again old new packet met known is going setup mid n (length old.front) number _ touches.after before ftp few
      (omega arith) touches.made touches.found
      (ap (λ i. Touch i met.direction packet.segment packet.moment touches.after)
      (sym (has_id_of met.id (after mid.front number) before touches.found.fact)))
      follows

  -- a packet reset the entry that it met
  pub was_reset : (setup : Setup) (old new : Sight) (packet : FlowPacket) (met : Met) (n from number : ℕ) (subject : Record) → n ≤ 4
      → from ≤ length old.front → IsKnown new → IsMet packet met old
      → Destroys met.id (why.Reset packet.segment packet.moment) old new number subject
      → Answers setup old new packet n from (class.Passed (label_of subject met.direction) subject.id (number + 1) Nothing)
  was_reset setup old new packet met n from number subject few low known is d =
      reset_answer states events again old new packet met known is setup n from number _ subject few low d.made d.found
      (ap (λ i. Destroy i (why.Reset packet.segment packet.moment))
      (sym (has_id_of met.id (after new.front number) subject d.found.fact)))

  -- a packet killed the entry that it met
  pub was_killed : (w : Why) (old mid new : Sight) (packet : FlowPacket) (met : Met) (n from at number : ℕ) (subject : Record)
      → n < 4 → from ≤ length old.front → IsKnown new → IsMet packet met old → EndsEntry packet met at w mid
      → Destroys met.id w old new number subject → KilledOne old new packet n from
  was_killed w old mid new packet met n from at number subject few low known is ends d =
      let same : subject.id ≡ met.id = has_id_of met.id (after new.front number) subject d.found.fact in
      killed_answer states events again old new packet met known is n from number w subject few low d
      (subst (λ i. IsKillOf packet (record { subject = subject; direction = met.direction }) (Destroy i w)) same
      (is_kill w mid packet met at subject ends))

-- the entry that a packet found is held for it
pub is_met : (old new : Sight) (packet : FlowPacket) (met : Met) → HoldsNothing old
    → Looked old new met.at (IsLiveUnder packet.tuple met.place met.id met.direction)
    → HoldsOneMore old new met.place (Some met.id) → IsMet packet met new
is_met old new packet met empty looked more = record {
  live = looked.fact;
  holds = record {
    held = more.held ∙ ap (λ (l : List Hold). record { place = met.place; id = Some met.id } ∷ l) empty.held;
    owed = more.owed ∙ empty.owed;
  };
}
