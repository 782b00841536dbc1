-- A flow that has an entry: what a tracker makes of a packet of it is determined by the state.
use Rattle.std.proofs.Common.{◌≡◌, ℕ, ◌+◌, List, ◌∷◌, sym, ap, ap₂, subst, ◌∙◌, Option, Some, None, inl, inr}
use Rattle.expect_table.specs.Expectations.{add_outcome}
use Rattle.expect_table.specs.declared.expectation.Want.{Want}
use Rattle.expect_table.specs.declared.table.AddOutcome.{AddOutcome}
use Rattle.expect_table.specs.declared.table.AddOutcome.TheVariants as add
use Rattle.ftp_helper.specs.Laws.{NamedEndsAreUnique}
use Rattle.ftp_helper.specs.Want.{want_of}
use Rattle.history_book.specs.declared.event.Event.{Event}
use Rattle.history_book.specs.declared.verdict.Class.TheVariants as class
use Rattle.history_book.specs.declared.verdict.Ftp.{Ftp}
use Rattle.history_book.specs.DeskExpectations.{expectation_at}
use Rattle.history_book.specs.Label.{label_of}
use Rattle.history_book.specs.State.{Found}
use Rattle.packet_path.specs.FtpPart.{Asks, NamesNone}
use Rattle.packet_path.specs.Packet.{FlowPacket}
use Rattle.packet_path.specs.Passed.{touch_by}
use Rattle.proto_rules.specs.declared.Outcome.{Outcome}
use Rattle.proto_rules.specs.declared.Outcome.TheVariants as outcome
use Rattle.proto_rules.specs.declared.Part.{Part}
use Rattle.replay_laws.specs.Reaction.{Adds, Configuration, IsAsked, IsRead, IsTouched, Reaction, Situation, Steps, behind}

none_asks : (packet : FlowPacket) (found : Found) (want : Option Want) → NamesNone packet found → Asks packet found want → ⊥
none_asks packet found want (inl unread) a = let e = a.read in cc
none_asks packet found want (inr nameless) a = nameless a.end a.names

module _ (unique : NamedEndsAreUnique) where
  asked_same : (packet : FlowPacket) (found : Found) (v w : Option Want) → Asks packet found v → Asks packet found w → v ≡ w
  asked_same packet found v w a b =
      sym a.wants
      ∙ ap (want_of found.direction found.subject.original found.subject.reply)
      (unique found.direction packet.payload a.end b.end a.names b.names)
      ∙ b.wants

  adds_same : (packet : FlowPacket) (found : Found) (number : ℕ) (want : Want) (outcome : AddOutcome) (further other : List Event)
      (said told : Ftp) → Adds packet found number want outcome further said → Adds packet found number want outcome other told
      → (further ≡ other) × (said ≡ told)
  adds_same packet found number want (add.Added replaced) further other said told a b = (a.0 ∙ sym b.0, a.1 ∙ sym b.1)
  adds_same packet found number want (add.Clash id) further other said told a b = (a.0 ∙ sym b.0, a.1 ∙ sym b.1)
  adds_same packet found number want add.Full further other said told a b = (a.0 ∙ sym b.0, a.1 ∙ sym b.1)

  wants_same : (room : ℕ) (now : Situation) (found : Found) (further other : List Event) (said told : Ftp)
      → IsAsked room now found further said → IsAsked room now found other told → (further ≡ other) × (said ≡ told)
  wants_same room now found further other said told a b =
      let some : Some a.want ≡ Some b.want = asked_same now.packet found (Some a.want) (Some b.want) a.asked b.asked in
      let same : a.want ≡ b.want = cc in
      adds_same now.packet found now.at b.want
      (add_outcome room now.state.expects (expectation_at now.at found.subject.id found.subject.original.zone b.want now.packet.moment) now.packet.moment)
      further other said told
      (subst
      (λ (w : Want). Adds now.packet found now.at w
      (add_outcome room now.state.expects (expectation_at now.at found.subject.id found.subject.original.zone w now.packet.moment) now.packet.moment)
      further said)
      same a.added)
      b.added

  read_same : (room : ℕ) (now : Situation) (found : Found) (further other : List Event) (said told : Ftp)
      → IsRead room now found further said → IsRead room now found other told → (further ≡ other) × (said ≡ told)
  read_same room now found further other said told (inl (a, f, s)) (inl (b, g, t)) = (f ∙ sym g, s ∙ sym t)
  read_same room now found further other said told (inl (a, f, s)) (inr (inl (b, g, t))) =
      absurd (none_asks now.packet found None a b)
  read_same room now found further other said told (inl (a, f, s)) (inr (inr b)) =
      absurd (none_asks now.packet found (Some b.want) a b.asked)
  read_same room now found further other said told (inr (inl (a, f, s))) (inl (b, g, t)) =
      absurd (none_asks now.packet found None b a)
  read_same room now found further other said told (inr (inl (a, f, s))) (inr (inl (b, g, t))) = (f ∙ sym g, s ∙ sym t)
  read_same room now found further other said told (inr (inl (a, f, s))) (inr (inr b)) =
      let e : None ≡ Some b.want = asked_same now.packet found None (Some b.want) a b.asked in cc
  read_same room now found further other said told (inr (inr a)) (inl (b, g, t)) =
      absurd (none_asks now.packet found (Some a.want) b a.asked)
  read_same room now found further other said told (inr (inr a)) (inr (inl (b, g, t))) =
      let e : None ≡ Some a.want = asked_same now.packet found None (Some a.want) b a.asked in cc
  read_same room now found further other said told (inr (inr a)) (inr (inr b)) =
      wants_same room now found further other said told a b

  touched_same : (tracker : Configuration) (now : Situation) (found : Found) (after : Part) (reaction other : Reaction)
      → IsTouched tracker now found after reaction → IsTouched tracker now found after other → reaction ≡ other
  touched_same tracker now found after reaction other a b =
      let same = read_same tracker.expectations (behind now (touch_by now.packet found after)) found a.further b.further a.payload b.payload a.read b.read in
      a.said
      ∙ ap₂
      (λ (further : List Event) (ftp : Ftp). record {
        events = touch_by now.packet found after ∷ further;
        class = class.Passed (label_of found.subject found.direction) found.subject.id (now.at + 1) ftp;
      })
      same.0 same.1
      ∙ sym b.said

  pub steps_same : (tracker : Configuration) (now : Situation) (ended : ℕ) (found : Found) (outcome : Outcome) (reaction other : Reaction)
      → Steps tracker now ended found outcome reaction → Steps tracker now ended found outcome other → reaction ≡ other
  steps_same tracker now ended found (outcome.Accept after) reaction other a b = touched_same tracker now found after reaction other a b
  steps_same tracker now ended found outcome.Ignore reaction other a b = a ∙ sym b
  steps_same tracker now ended found outcome.Invalid reaction other a b = a ∙ sym b
  steps_same tracker now ended found outcome.Reset reaction other a b = a ∙ sym b
  steps_same tracker now ended found outcome.Expired reaction other a b = a.1 ∙ sym b.1
  steps_same tracker now ended found outcome.Reopen reaction other a b = a.1 ∙ sym b.1
