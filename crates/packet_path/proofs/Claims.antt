-- What is said of a packet that was looked for among the expectations.
use Rattle.std.proofs.Common.{◌≡◌, ℕ, ◌≤◌, Bool, true, false, cond, List, [], ◌∷◌, length, Option, Some, None, refl, ◌⊎◌, inl, inr, arith}
use Rattle.std.specs.List.{AllByRecursion, find}
use Rattle.std.specs.Prelude.{option_to_list, ◌==◌}
use Rattle.std.proofs.lemmas.Bool.{and_parts, false≢true}
use Rattle.expect_table.specs.Expectations.{matching}
use Rattle.expect_table.specs.Match.{is_awaited, is_in_zone, is_match, is_wanted}
use Rattle.expect_table.specs.declared.expectation.Expectation.{Expectation}
use Rattle.tuple_core.specs.Tuple.{number_of}
use Rattle.tuple_core.specs.declared.Proto.TheVariants as proto
use Rattle.tuple_core.specs.declared.Tuple.{Tuple}
use Rattle.history_book.specs.declared.event.Event.TheVariants.{Claim}
use Rattle.history_book.specs.declared.event.Note.{Note}
use Rattle.history_book.specs.declared.outcome.ClaimOutcome.{ClaimOutcome}
use Rattle.history_book.specs.declared.outcome.ClaimOutcome.TheVariants as claim
use Rattle.history_book.specs.Desk.{SamePlaces}
use Rattle.history_book.specs.DeskExpectations.{ClaimSays}
use Rattle.history_book.specs.History.{after}
use Rattle.history_book.specs.Laws.{EventsMayHappen}
use Rattle.history_book.specs.Legality.{may_claim, same_proto}
use Rattle.history_book.specs.Sight.{IsKnown, Sight}
use Rattle.history_book.specs.WentOn.{WentOn}
use Rattle.packet_path.specs.Packet.{FlowPacket}
use Rattle.packet_path.specs.Claim.{ClaimsIfExpected, claim_by}
use Rattle.packet_path.specs.Internal.Attempt.{claimed_master, unclaimed_at}

-- what looking for the packet left
pub record LookedFor (packet : FlowPacket) (old mid : Sight) (answer : ClaimOutcome) : Type 0 where
  pub claims : List Note
  pub went : WentOn old mid claims
  pub few : length claims ≤ 1
  pub expected : (from upto : ℕ) → from ≤ length old.front → length mid.front ≤ upto
      → ClaimsIfExpected mid.front packet claims (unclaimed_at answer) (claimed_master answer) from upto
  pub points : AllByRecursion (λ p. p ≤ length mid.front) (option_to_list (unclaimed_at answer))
  pub connection : (claims ≡ []) ⊎ (same_proto packet.tuple.proto proto.Tcp ≡ true)

-- what is found by a test passes it
found_passes : (p : Expectation → Bool) (es : List Expectation) (e : Expectation) → find p es ≡ Some e → p e ≡ true
found_passes p [] e h = cc
found_passes p (d ∷ ds) e h = first_passes d e ds (p d) refl h (found_passes p ds e)
  where
    first_passes : (d e : Expectation) (ds : List Expectation) (b : Bool) → p d ≡ b → cond b (Some d) (find p ds) ≡ Some e
        → (find p ds ≡ Some e → p e ≡ true) → p e ≡ true
    first_passes d e ds true is h rest = cc
    first_passes d e ds false is h rest = rest h

-- what is expected is a connection of TCP
expected_tcp : (t : Tuple) (moment : ℕ) (id master : ℕ) (es : List Expectation) (o : Option Expectation) → matching t moment es ≡ o
    → may_claim o id master ≡ true → same_proto t.proto proto.Tcp ≡ true
expected_tcp t moment id master es None is may = absurd (false≢true may)
expected_tcp t moment id master es (Some e) is may =
    let passes = found_passes (is_match t moment) es e is in
    let here = (and_parts _ (is_awaited moment e) passes).0 in
    let wanted = (and_parts (is_in_zone t.zone e) (is_wanted e.want t) here).1 in
    let ends = (and_parts _ (e.want.port == t.b) wanted).0 in
    let source = (and_parts _ (e.want.dst == t.dst) ends).0 in
    (and_parts (number_of t.proto == number_of proto.Tcp) (e.want.src == t.src) source).0

pub looked_for : EventsMayHappen → (packet : FlowPacket) (old mid : Sight) (answer : ClaimOutcome) → IsKnown mid
    → ClaimSays packet.tuple packet.moment old mid answer → LookedFor packet old mid answer
looked_for may packet old mid (claim.Claimed number expectation master) known (made, same) = record {
  claims = claim_by packet number expectation master ∷ [];
  went = made.went;
  few = omega arith;
  expected = λ from upto low high. record {
    number = number;
    expectation = expectation;
    by = master;
    own = refl;
    related = refl;
    happened = record { event = made.happened; later = omega (arith, low, made.low) };
    before = omega (arith, made.high, high);
  };
  points = tt;
  connection = inr (expected_tcp packet.tuple packet.moment expectation master (after mid.front number).expects
      (matching packet.tuple packet.moment (after mid.front number).expects) refl
      (may mid.sizes mid.front number (Claim expectation master packet.tuple packet.moment) known.legal made.happened));
}
looked_for may packet old mid (claim.Unclaimed at) known (looked, same) = record {
  claims = [];
  went = looked.saw.went;
  few = omega arith;
  expected = λ from upto low high. record {
    none = refl;
    alone = refl;
    low = omega (arith, low, looked.low);
    high = omega (arith, looked.fact.within, high);
    unmatched = looked.fact;
  };
  points = (looked.fact.within, tt);
  connection = inl refl;
}

-- looking for it changes no place
pub looking_keeps : (packet : FlowPacket) (old mid : Sight) (answer : ClaimOutcome) → ClaimSays packet.tuple packet.moment old mid answer
    → SamePlaces old mid
looking_keeps packet old mid (claim.Claimed number expectation master) says = says.1
looking_keeps packet old mid (claim.Unclaimed at) says = says.1
