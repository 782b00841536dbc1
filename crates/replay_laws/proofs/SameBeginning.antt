-- A new flow: what a tracker makes of its packet is determined by the state, but for the number that a rule gives it, and
-- for its place.
use Rattle.std.proofs.Common.{◌≡◌, ◌⊎◌, ℕ, ◌≤◌, true, List, [], ◌∷◌, ◌++◌, map, length, refl, sym, ap, ap₂, subst, subst₂, ◌∙◌, Option, Some, None, IsSome, true≢false, inl, inr, slice_get, arith}
use Rattle.expect_table.specs.declared.expectation.Expectation.{Expectation}
use Rattle.history_book.specs.declared.event.Event.{Event}
use Rattle.history_book.specs.declared.event.Event.TheVariants.{Claim, Confirm}
use Rattle.history_book.specs.declared.record.Record.{Record}
use Rattle.history_book.specs.declared.verdict.Translated.{Translated}
use Rattle.history_book.specs.declared.verdict.Translated.TheVariants.{Chosen}
use Rattle.history_book.specs.History.{run}
use Rattle.history_book.specs.State.{Found, State, first_found, is_free, live_under, winner}
use Rattle.history_book.specs.StateLaws.{FreeIsAbsent}
use Rattle.nat_setup.specs.declared.rule.Rule.{Rule}
use Rattle.nat_setup.specs.declared.rule.Side.{Side}
use Rattle.nat_setup.specs.declared.rule.Side.TheVariants.{Source, Destination}
use Rattle.nat_setup.specs.Reply.{changed_at, reply_with}
use Rattle.nat_setup.specs.Rule.{rule_for}
use Rattle.nat_setup.specs.Translation.{is_own_or_barred}
use Rattle.packet_path.specs.Packet.{FlowPacket}
use Rattle.proto_rules.specs.declared.Part.{Part}
use Rattle.tuple_core.specs.Inverse.{inverse, inverse_a, inverse_b}
use Rattle.tuple_core.specs.declared.Proto.{Proto}
use Rattle.tuple_core.specs.declared.Proto.TheVariants.{Icmp, Tcp, Udp}
use Rattle.tuple_core.specs.declared.Tuple.{Tuple}
use Rattle.replay_laws.specs.OneAnswer.{ChoseTheSame, NoneIsDropped, unplaced}
use Rattle.replay_laws.specs.Reaction.{Begins, Configuration, Drops, FindsReply, HasNoNumber, HasNoRoom, HasReply, HasRoom, IsChosen, MeetsOrEnters, Reaction, Situation, claims_of, entry_of, expected_now, taken_at}

-- the same events, but for places, and the same class
pub record IsSame (reaction other : Reaction) : Type 0 where
  pub events : map unplaced reaction.events ≡ map unplaced other.events
  pub class : reaction.class ≡ other.class

pub same_of : (reaction other : Reaction) → reaction ≡ other → IsSame reaction other
same_of reaction other e = record { events = ap (λ (r : Reaction). map unplaced r.events) e; class = ap (λ (r : Reaction). r.class) e }

-- ---- the number that a rule gives is in the reply tuple

source_number : (p : Proto) (x y b : ℕ) → inverse_a p x b ≡ inverse_a p y b → inverse_b p x b ≡ inverse_b p y b → x ≡ y
source_number Icmp x y b e f = e
source_number Tcp x y b e f = f
source_number Udp x y b e f = f

destination_number : (p : Proto) (t : Tuple) (address x y : ℕ) → t.proto ≡ p
    → inverse (changed_at Destination t p address x) ≡ inverse (changed_at Destination t p address y) → x ≡ y
destination_number Icmp t address x y is e =
    subst (λ (p : Proto). inverse_a p x t.b ≡ inverse_a p y t.b) is (ap (λ (u : Tuple). u.a) e)
destination_number Tcp t address x y is e =
    subst (λ (p : Proto). inverse_a p t.a x ≡ inverse_a p t.a y) is (ap (λ (u : Tuple). u.a) e)
destination_number Udp t address x y is e =
    subst (λ (p : Proto). inverse_a p t.a x ≡ inverse_a p t.a y) is (ap (λ (u : Tuple). u.a) e)

side_number : (side : Side) (t : Tuple) (address x y : ℕ)
    → inverse (changed_at side t t.proto address x) ≡ inverse (changed_at side t t.proto address y) → x ≡ y
side_number Source t address x y e =
    source_number t.proto x y t.b (ap (λ (u : Tuple). u.a) e) (ap (λ (u : Tuple). u.b) e)
side_number Destination t address x y e = destination_number t.proto t address x y refl e

pub same_number : (rule : Rule) (t : Tuple) (x y : ℕ) → reply_with rule t x ≡ reply_with rule t y → x ≡ y
same_number rule t x y e = side_number rule.side t rule.target x y e

-- ---- the flow is entered

slice_get-end : {X : Type 0} (xs : List X) (x : X) → slice_get (xs ++ x ∷ []) (length xs) ≡ Some x
slice_get-end [] x = refl
slice_get-end (y ∷ xs) x = slice_get-end xs x

claims_unplaced : (packet : FlowPacket) (expected : Option Expectation) (r p : Record) → unplaced (Confirm r) ≡ unplaced (Confirm p)
    → map unplaced (claims_of packet expected ++ Confirm r ∷ []) ≡ map unplaced (claims_of packet expected ++ Confirm p ∷ [])
claims_unplaced packet None r p e = ap (λ (x : Event). x ∷ []) e
claims_unplaced packet (Some d) r p e = ap (λ (x : Event). unplaced (Claim d.id d.master packet.tuple packet.moment) ∷ x ∷ []) e

entered_same : (tracker : Configuration) (now : Situation) (part : Part) (translated : Translated) (reply : Tuple)
    (expected : Option Expectation) (found : Option Found) (reaction other : Reaction)
    → MeetsOrEnters tracker now part translated reply expected found reaction
    → MeetsOrEnters tracker now part translated reply expected found other → IsSame reaction other
entered_same tracker now part translated reply expected (Some found) reaction other a b = same_of reaction other (a ∙ sym b)
entered_same tracker now part translated reply expected None reaction other (place, a) (slot, b) = record {
  events = ap (λ (r : Reaction). map unplaced r.events) a
      ∙ claims_unplaced now.packet expected (entry_of tracker now part reply expected place) (entry_of tracker now part reply expected slot) refl
      ∙ sym (ap (λ (r : Reaction). map unplaced r.events) b);
  class = ap (λ (r : Reaction). r.class) a ∙ sym (ap (λ (r : Reaction). r.class) b);
}

room_same : (tracker : Configuration) (now : Situation) (part : Part) (translated told : Translated) (reply answer : Tuple)
    (reaction other : Reaction) → translated ≡ told → reply ≡ answer
    → HasRoom tracker now part translated reply reaction → HasRoom tracker now part told answer other → IsSame reaction other
room_same tracker now part translated told reply answer reaction other e f a b =
    entered_same tracker now part told answer (expected_now now)
    (winner now.packet.tuple answer (run now.state (claims_of now.packet (expected_now now)))) reaction other
    (subst₂
    (λ (x : Translated) (y : Tuple). MeetsOrEnters tracker now part x y (expected_now now)
    (winner now.packet.tuple y (run now.state (claims_of now.packet (expected_now now)))) reaction)
    e f a.then)
    b.then

winner_none : (packet : FlowPacket) (expected : Option Expectation) (t u : Tuple) (s : State) → live_under t s ≡ None → live_under u s ≡ None
    → winner t u (run s (claims_of packet expected)) ≡ None
winner_none packet None t u s e f = ap₂ first_found e f
winner_none packet (Some d) t u s e f = ap₂ first_found e f

no_number_chosen : (tracker : Configuration) (now : Situation) (either : Reaction)
    → HasNoNumber now (rule_for tracker.rules now.packet.tuple) either → (translated : Translated) (reply : Tuple)
    → HasReply now (rule_for tracker.rules now.packet.tuple) translated reply → ⊥
no_number_chosen tracker now either h translated reply has =
    let c : IsChosen now h.rule translated reply = subst (λ (o : Option Rule). HasReply now o translated reply) h.is_first has in
    true≢false (sym (subst (λ (u : Tuple). is_free u now.state ≡ true) c.gives c.free) ∙ h.taken c.number c.allowed)

module _ (absent : FreeIsAbsent) (tracker : Configuration) (now : Situation) (part : Part) (reaction other : Reaction)
    (none : live_under now.packet.tuple now.state ≡ None)
    (same : ChoseTheSame tracker.rules reaction.events other.events) where
  -- a flow whose reply tuple is free is confirmed
  confirmed : (translated : Translated) (reply : Tuple) (either : Reaction) → is_free reply now.state ≡ true
      → HasRoom tracker now part translated reply either
      → MeetsOrEnters tracker now part translated reply (expected_now now) None either
  confirmed translated reply either free h =
      subst (λ (o : Option Found). MeetsOrEnters tracker now part translated reply (expected_now now) o either)
      (winner_none now.packet (expected_now now) now.packet.tuple reply now.state none ((absent reply now.state).1 free)) h.then

  confirms : (translated : Translated) (reply : Tuple) (either : Reaction)
      → MeetsOrEnters tracker now part translated reply (expected_now now) None either
      → (place : ℕ) × (slice_get either.events (length (claims_of now.packet (expected_now now)))
      ≡ Some (Confirm (entry_of tracker now part reply (expected_now now) place)))
  confirms translated reply either (place, e) = (
    place,
    ap (λ (r : Reaction). slice_get r.events (length (claims_of now.packet (expected_now now)))) e
        ∙ slice_get-end (claims_of now.packet (expected_now now)) (Confirm (entry_of tracker now part reply (expected_now now) place)),
  )

  rooms_same : (first : Option Rule) (translated told : Translated) (reply answer : Tuple)
      → rule_for tracker.rules now.packet.tuple ≡ first
      → HasReply now first translated reply → HasReply now first told answer
      → HasRoom tracker now part translated reply reaction → HasRoom tracker now part told answer other → IsSame reaction other
  rooms_same None translated told reply answer is (p, e) (q, f) a b =
      room_same tracker now part translated told reply answer reaction other (p ∙ sym q) (e ∙ sym f) a b
  rooms_same (Some rule) translated told reply answer is c d a b =
      let (place, x) = confirms translated reply reaction (confirmed translated reply reaction c.free a) in
      let (slot, y) = confirms told answer other (confirmed told answer other d.free b) in
      let alike : reply ≡ answer = same (length (claims_of now.packet (expected_now now)))
      (entry_of tracker now part reply (expected_now now) place) (entry_of tracker now part answer (expected_now now) slot) x y
      (subst IsSome (sym is) refl) in
      let number : c.number ≡ d.number = same_number rule now.packet.tuple c.number d.number (sym c.gives ∙ alike ∙ d.gives) in
      room_same tracker now part translated told reply answer reaction other
      (c.said
      ∙ ap₂ (λ (u : Tuple) (n : ℕ). Chosen u (taken_at (is_own_or_barred rule now.packet.tuple n) now.at)) alike number
      ∙ sym d.said)
      alike a b

  placed_same : (tracker.full ≤ length now.state.records → tracker.entries ≤ length now.state.records)
      → NoneIsDropped reaction.events
      → (a : FindsReply tracker now part reaction) (b : FindsReply tracker now part other)
      → HasRoom tracker now part a.translated a.reply reaction ⊎ HasNoRoom tracker now reaction ⊎ Drops tracker now part a.translated a.reply reaction
      → HasRoom tracker now part b.translated b.reply other ⊎ HasNoRoom tracker now other ⊎ Drops tracker now part b.translated b.reply other
      → IsSame reaction other
  placed_same room undropped a b (inl x) (inl y) =
      rooms_same (rule_for tracker.rules now.packet.tuple) a.translated b.translated a.reply b.reply refl a.has b.has x y
  placed_same room undropped a b (inl x) (inr (inl y)) = absurd (omega (arith, room y.full, x.room))
  placed_same room undropped a b (inl x) (inr (inr y)) = absurd (omega (arith, room y.full, x.room))
  placed_same room undropped a b (inr (inl x)) (inl y) = absurd (omega (arith, room x.full, y.room))
  placed_same room undropped a b (inr (inl x)) (inr (inl y)) = same_of reaction other (x.said ∙ sym y.said)
  placed_same room undropped a b (inr (inl x)) (inr (inr y)) =
      absurd (true≢false (sym y.goes ∙ x.none y.subject.id y.subject y.live))
  placed_same room undropped a b (inr (inr x)) y =
      absurd (undropped 0 x.subject.id now.packet.moment (ap (λ (es : List Event). slice_get es 0) x.all))

-- what begins with a packet under whose tuple nothing is live
pub begins_same : FreeIsAbsent → (tracker : Configuration) (now : Situation) (part : Option Part) (reaction other : Reaction)
    → live_under now.packet.tuple now.state ≡ None
    → ChoseTheSame tracker.rules reaction.events other.events
    → (tracker.full ≤ length now.state.records → tracker.entries ≤ length now.state.records)
    → NoneIsDropped reaction.events
    → Begins tracker now part reaction → Begins tracker now part other → IsSame reaction other
begins_same absent tracker now None reaction other none same room undropped a b = same_of reaction other (a ∙ sym b)
begins_same absent tracker now (Some part) reaction other none same room undropped (inl a) (inl b) = same_of reaction other (a.said ∙ sym b.said)
begins_same absent tracker now (Some part) reaction other none same room undropped (inl a) (inr b) =
    absurd (no_number_chosen tracker now reaction a b.translated b.reply b.has)
begins_same absent tracker now (Some part) reaction other none same room undropped (inr a) (inl b) =
    absurd (no_number_chosen tracker now other b a.translated a.reply a.has)
begins_same absent tracker now (Some part) reaction other none same room undropped (inr a) (inr b) =
    placed_same absent tracker now part reaction other none same room undropped a b a.placed b.placed
