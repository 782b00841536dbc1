-- What a tracker makes of a frame is determined by the state, but for the number that a rule gives, and for places.
use Rattle.std.proofs.Common.{◌≡◌, ℕ, ◌+◌, ◌≤◌, List, [], ◌∷◌, ◌++◌, map, length, take, refl, sym, ap, ap₂, subst, ◌∙◌, Option, Some, None, slice_get, arith, length-append, zero-add, suc-add}
use Rattle.std.proofs.Math.Seq.{take-append_seam}
use Rattle.std.proofs.lemmas.List.{map-append}
use Rattle.ftp_helper.specs.Laws.{NamedEndsAreUnique}
use Rattle.history_book.specs.declared.event.Event.{Event}
use Rattle.history_book.specs.declared.verdict.Class.TheVariants as class
use Rattle.history_book.specs.declared.verdict.UntrackedWhy.{UntrackedWhy}
use Rattle.history_book.specs.declared.verdict.UntrackedWhy.TheVariants as why
use Rattle.history_book.specs.History.{run}
use Rattle.history_book.specs.State.{Found, State, live_under, next}
use Rattle.history_book.specs.StateLaws.{FreeIsAbsent}
use Rattle.packet_headers.specs.declared.packet.Packet.{Packet}
use Rattle.packet_headers.specs.declared.packet.Packet.TheVariants as packet
use Rattle.packet_path.specs.Packet.{FlowPacket, Given, cause_of}
use Rattle.proto_rules.specs.declared.Outcome.{Outcome}
use Rattle.proto_rules.specs.declared.Outcome.TheVariants as outcome
use Rattle.proto_rules.specs.Start.{start_of}
use Rattle.proto_rules.specs.Step.{step_of}
use Rattle.replay_laws.specs.OneAnswer.{ChoseTheSame, NoneIsDropped, unplaced}
use Rattle.replay_laws.specs.Reaction.{Configuration, Ends, EndsAll, Meets, Reaction, ReactsTo, ReactsToFlow, ReactsToPacket, Situation, Steps, end_of, silent}
use Rattle.replay_laws.proofs.Bare.{bare, length_run}
use Rattle.replay_laws.proofs.SameBeginning.{IsSame, begins_same, same_of}
use Rattle.replay_laws.proofs.SameFlow.{steps_same}
use Rattle.replay_laws.proofs.Unplaced.{reacts_bare}

same_why : (v w : UntrackedWhy) → cause_of v ≡ cause_of w → v ≡ w
same_why why.Link why.Link e = refl
same_why why.Link why.Fragment e = cc
same_why why.Link why.Protocol e = cc
same_why why.Fragment why.Link e = cc
same_why why.Fragment why.Fragment e = refl
same_why why.Fragment why.Protocol e = cc
same_why why.Protocol why.Link e = cc
same_why why.Protocol why.Fragment e = cc
same_why why.Protocol why.Protocol e = refl

-- ---- entries that the packet ends

ends_same : (packet : FlowPacket) (s : State) (e f : Event) → Ends packet s e → Ends packet s f → e ≡ f
ends_same packet s e f a b =
    let some : Some a.found ≡ Some b.found = sym a.live ∙ b.live in
    let same : a.found ≡ b.found = cc in
    let both : Some e ≡ Some f =
    sym a.end
    ∙ ap (λ (x : Found). end_of packet x (step_of x.subject.part x.direction packet.segment packet.moment)) same
    ∙ b.end in
    cc

-- a packet that meets an entry which it would end has ended four
steps_four : (tracker : Configuration) (now : Situation) (ended : ℕ) (found : Found) (outcome : Outcome) (reaction : Reaction) (e : Event)
    → end_of now.packet found outcome ≡ Some e → Steps tracker now ended found outcome reaction → ended ≡ 4
steps_four tracker now ended found (outcome.Accept after) reaction e h x = cc
steps_four tracker now ended found outcome.Ignore reaction e h x = cc
steps_four tracker now ended found outcome.Invalid reaction e h x = cc
steps_four tracker now ended found outcome.Reset reaction e h x = cc
steps_four tracker now ended found outcome.Expired reaction e h x = x.0
steps_four tracker now ended found outcome.Reopen reaction e h x = x.0

meets_four : (tracker : Configuration) (now : Situation) (ended : ℕ) (reaction : Reaction) (e : Event)
    → Ends now.packet now.state e → Meets tracker now ended (live_under now.packet.tuple now.state) reaction → ended ≡ 4
meets_four tracker now ended reaction e h m =
    steps_four tracker now ended h.found (step_of h.found.subject.part h.found.direction now.packet.segment now.packet.moment) reaction e
    h.end (subst (λ (o : Option Found). Meets tracker now ended o reaction) h.live m)

module _ (tracker : Configuration) (packet : FlowPacket) (number count n m : ℕ) (reaction other : Reaction) (few : n ≤ 4) (less : m ≤ 4) where
  -- both end the same entries: the one that ended fewer would have ended four
  all_same : (s : State) (ended : ℕ) (es fs : List Event) → EndsAll packet s es → EndsAll packet s fs
      → n ≡ ended + length es → m ≡ ended + length fs
      → Meets tracker (record { packet = packet; state = run s es; at = number }) n (live_under packet.tuple (run s es)) reaction
      → Meets tracker (record { packet = packet; state = run s fs; at = count }) m (live_under packet.tuple (run s fs)) other
      → es ≡ fs
  all_same s ended [] [] a b e f x y = refl
  all_same s ended [] (g ∷ fs) a (b, bs) e f x y =
      let four : n ≡ 4 = meets_four tracker (record { packet = packet; state = s; at = number }) n reaction g b x in
      absurd (omega arith)
  all_same s ended (g ∷ es) [] (a, rest) b e f x y =
      let four : m ≡ 4 = meets_four tracker (record { packet = packet; state = s; at = count }) m other g a y in
      absurd (omega arith)
  all_same s ended (g ∷ es) (h ∷ fs) (a, rest) (b, bs) e f x y =
      let same : h ≡ g = ends_same packet s h g b a in
      ap₂ (λ (d : Event) (ds : List Event). d ∷ ds) (sym same)
      (all_same (next s g) (ended + 1) es fs rest
      (subst (λ (d : Event). EndsAll packet (next s d) fs) same bs)
      (omega (arith, e)) (omega (arith, f)) x
      (subst (λ (d : Event). Meets tracker (record { packet = packet; state = run (next s d) fs; at = count }) m
      (live_under packet.tuple (run (next s d) fs)) other) same y))

-- ---- a packet of a flow

meets_same : NamedEndsAreUnique → FreeIsAbsent → (tracker : Configuration) (now : Situation) (ended : ℕ) (found : Option Found)
    (reaction other : Reaction) → live_under now.packet.tuple now.state ≡ found
    → ChoseTheSame tracker.rules reaction.events other.events
    → (tracker.full ≤ length now.state.records → tracker.entries ≤ length now.state.records)
    → NoneIsDropped reaction.events
    → Meets tracker now ended found reaction → Meets tracker now ended found other → IsSame reaction other
meets_same unique absent tracker now ended None reaction other is same room undropped a b =
    begins_same absent tracker now (start_of now.packet.segment now.packet.moment) reaction other is same room undropped a b
meets_same unique absent tracker now ended (Some found) reaction other is same room undropped a b =
    same_of reaction other
    (steps_same unique tracker now ended found
    (step_of found.subject.part found.direction now.packet.segment now.packet.moment) reaction other a b)

pub slice_get-past : {X : Type 0} (xs ys : List X) (i : ℕ) → slice_get (xs ++ ys) (length xs + i) ≡ slice_get ys i
slice_get-past [] ys i = ap (slice_get ys) (zero-add i)
slice_get-past (x ∷ xs) ys i = ap (slice_get (x ∷ xs ++ ys)) (suc-add (length xs) i) ∙ slice_get-past xs ys i

module _ (unique : NamedEndsAreUnique) (absent : FreeIsAbsent) (tracker : Configuration) (s : State) (number : ℕ) (reaction other : Reaction)
    (same : ChoseTheSame tracker.rules reaction.events other.events)
    (room : (j : ℕ) → j ≤ length reaction.events → tracker.full ≤ length (run s (take j reaction.events)).records
    → tracker.entries ≤ length (run s (take j reaction.events)).records)
    (undropped : NoneIsDropped reaction.events) where
  room_behind : (ends rest : List Event) → reaction.events ≡ ends ++ rest
      → tracker.full ≤ length (run s ends).records → tracker.entries ≤ length (run s ends).records
  room_behind ends rest e full =
      let cut : take (length ends) reaction.events ≡ ends = ap (take (length ends)) e ∙ take-append_seam ends rest in
      let within : length ends ≤ length reaction.events = omega (arith, ap length e, length-append ends rest) in
      subst (λ (es : List Event). tracker.entries ≤ length (run s es).records) cut
      (room (length ends) within
      (subst (λ (es : List Event). tracker.full ≤ length (run s es).records) (sym cut) full))

  chose_behind : (ends rest more : List Event) → reaction.events ≡ ends ++ rest → other.events ≡ ends ++ more
      → ChoseTheSame tracker.rules rest more
  chose_behind ends rest more e f n r q x y ruled =
      same (length ends + n) r q
      (ap (λ (es : List Event). slice_get es (length ends + n)) e ∙ slice_get-past ends rest n ∙ x)
      (ap (λ (es : List Event). slice_get es (length ends + n)) f ∙ slice_get-past ends more n ∙ y) ruled

  undropped_behind : (ends rest : List Event) → reaction.events ≡ ends ++ rest → NoneIsDropped rest
  undropped_behind ends rest e n id moment x =
      undropped (length ends + n) id moment
      (ap (λ (es : List Event). slice_get es (length ends + n)) e ∙ slice_get-past ends rest n ∙ x)

  -- the rests are the same, behind the same ends
  rests_same : (packet : FlowPacket) (ends rest more : List Event) → reaction.events ≡ ends ++ rest → other.events ≡ ends ++ more
      → Meets tracker (record { packet = packet; state = run s ends; at = number + length ends }) (length ends)
      (live_under packet.tuple (run s ends)) (record { events = rest; class = reaction.class })
      → Meets tracker (record { packet = packet; state = run s ends; at = number + length ends }) (length ends)
      (live_under packet.tuple (run s ends)) (record { events = more; class = other.class })
      → IsSame reaction other
  rests_same packet ends rest more e f a b =
      let behind = meets_same unique absent tracker (record { packet = packet; state = run s ends; at = number + length ends }) (length ends)
      (live_under packet.tuple (run s ends)) (record { events = rest; class = reaction.class }) (record { events = more; class = other.class })
      refl (chose_behind ends rest more e f) (room_behind ends rest e) (undropped_behind ends rest e) a b in
      record {
        events = ap (map unplaced) e ∙ map-append unplaced ends rest
            ∙ ap (λ (xs : List Event). map unplaced ends ++ xs) behind.events
            ∙ sym (map-append unplaced ends more) ∙ ap (map unplaced) (sym f);
        class = behind.class;
      }

  flow_same : (packet : FlowPacket) → ReactsToFlow tracker s number packet reaction → ReactsToFlow tracker s number packet other
      → IsSame reaction other
  flow_same packet a b =
      let ends : b.ends ≡ a.ends =
      all_same tracker packet (number + length b.ends) (number + length a.ends) (length b.ends) (length a.ends)
      (record { events = b.rest; class = other.class }) (record { events = a.rest; class = reaction.class })
      b.few a.few s 0 b.ends a.ends b.ended a.ended (sym (zero-add (length b.ends))) (sym (zero-add (length a.ends))) b.met a.met in
      rests_same packet a.ends a.rest b.rest a.all (b.all ∙ ap (λ (es : List Event). es ++ b.rest) ends) a.met
      (subst
      (λ (es : List Event). Meets tracker (record { packet = packet; state = run s es; at = number + length es }) (length es)
      (live_under packet.tuple (run s es)) (record { events = b.rest; class = other.class }))
      ends b.met)

  packet_same : (packet : Packet) (moment : ℕ) (payload : List ℕ) → ReactsToPacket tracker s number packet moment payload reaction
      → ReactsToPacket tracker s number packet moment payload other → IsSame reaction other
  packet_same (packet.Untracked cause) moment payload (v, e, a) (w, f, b) =
      same_of reaction other (a ∙ ap (λ (x : UntrackedWhy). silent (class.Untracked x)) (same_why v w (e ∙ sym f)) ∙ sym b)
  packet_same packet.Invalid moment payload a b = same_of reaction other (a ∙ sym b)
  packet_same (packet.Flow tuple segment span) moment payload a b =
      flow_same (record { tuple = tuple; segment = segment; moment = moment; payload = payload }) a b
  packet_same (packet.Error inner outer) moment payload a b = same_of reaction other (a ∙ sym b)

-- what two trackers of one thread make of one frame in states that are the same without places
pub one_reaction : NamedEndsAreUnique → FreeIsAbsent → (tracker : Configuration) (s q : State) (number : ℕ) (given : Given) (reaction other : Reaction)
    → bare s ≡ bare q → ReactsTo tracker s number given reaction → ReactsTo tracker q number given other
    → ((j : ℕ) → j ≤ length reaction.events → tracker.full ≤ length (run s (take j reaction.events)).records
    → tracker.entries ≤ length (run s (take j reaction.events)).records)
    → NoneIsDropped reaction.events
    → ChoseTheSame tracker.rules reaction.events other.events
    → IsSame reaction other
one_reaction unique absent tracker s q number given reaction other e a b room undropped same =
    packet_same unique absent tracker (bare s) number reaction other same
    (λ j within full.
    let live : length (run (bare s) (take j reaction.events)).records ≡ length (run s (take j reaction.events)).records =
    length_run s (take j reaction.events) in
    omega (arith, live, room j within (omega (arith, live, full))))
    undropped
    given.packet given.moment given.payload (reacts_bare tracker s number given reaction a)
    (subst (λ (x : State). ReactsTo tracker x number given other) (sym e) (reacts_bare tracker q number given other b))
