-- A packet that would begin a flow, where its events are numbered from a point on.
use Rattle.std.proofs.Common.{◌≡◌, ℕ, ◌+◌, ◌≤◌, true, false, true≢false, List, [], ◌∷◌, length, refl, sym, ap, subst, ◌∙◌, arith, Option, Some, None, ◌==◌}
use Rattle.std.specs.List.{slice_get}
use Rattle.std.proofs.lemmas.Bool.{and_parts, false≢true}
use Rattle.expect_table.specs.Expectations.{matching}
use Rattle.expect_table.specs.declared.expectation.Expectation.{Expectation}
use Rattle.expect_table.specs.Match as expected
use Rattle.tuple_core.specs.declared.Tuple.{Tuple}
use Rattle.history_book.specs.declared.event.Event.{Event}
use Rattle.history_book.specs.declared.event.Event.TheVariants.{Claim}
use Rattle.history_book.specs.declared.sizes.Sizes.{Sizes}
use Rattle.history_book.specs.declared.verdict.Translated.{Translated}
use Rattle.history_book.specs.declared.verdict.Translated.TheVariants.{Chosen, Plain}
use Rattle.history_book.specs.History.{after, is_legal, run}
use Rattle.history_book.specs.Laws.{EventsMayHappen}
use Rattle.history_book.specs.Legality.{may_claim}
use Rattle.history_book.specs.State.{State, is_free, live_under}
use Rattle.nat_setup.specs.declared.rule.Rule.{Rule}
use Rattle.nat_setup.specs.Reply.{own_number, reply_with}
use Rattle.nat_setup.specs.Rule.{rule_for}
use Rattle.nat_setup.specs.Translation.{WasTranslated, is_own_or_barred}
use Rattle.packet_path.specs.Begun.{WouldBegin}
use Rattle.packet_path.specs.Claim.{ClaimsIfExpected}
use Rattle.packet_path.specs.Packet.{FlowPacket}
use Rattle.packet_path.specs.declared.setup.Setup.{Setup}
use Rattle.replay_laws.specs.Reaction.{HasReply, claims_of, expected_now, master_of, number_behind, taken_at, unclaimed_at}
use Rattle.replay_laws.proofs.Noted.{noted}
use Rattle.replay_laws.proofs.Passage.{nat_same, one_noted}
use Rattle.replay_laws.proofs.Stepping.{none_noted, now_at, step_after}

-- ---- a reply tuple

chosen_same : {t u : Tuple} {o p : Option ℕ} → t ≡ u → o ≡ p → Chosen t o ≡ Chosen u p
chosen_same e f = cc

-- a reply tuple that was found between points that are one
translated_now : (log : List Event) (packet : FlowPacket) (k from upto : ℕ) (first : Option Rule) (translated : Translated) (reply : Tuple)
    → k ≤ from → upto ≤ k → WasTranslated log first packet.tuple from upto translated reply
    → HasReply (now_at log packet k) first translated reply
translated_now log packet k from upto None Plain reply low high h = (refl, h)
translated_now log packet k from upto None (Chosen chosen at) reply low high h = absurd h
translated_now log packet k from upto (Some rule) Plain reply low high h = absurd h
translated_now log packet k from upto (Some rule) (Chosen chosen None) reply low high (same, w) =
    let here : w.free.point ≡ k = omega (arith, w.free.low, w.free.high) in
    let own : is_own_or_barred rule packet.tuple w.lawful.number ≡ true = w.lawful.own in
    record {
      number = w.lawful.number;
      allowed = w.lawful.allowed;
      gives = same ∙ w.lawful.gives;
      free = subst (λ (t : Tuple). is_free t (after log k) ≡ true) (sym same)
          (subst (λ p. is_free chosen (after log p) ≡ true) here w.free.fact.fact);
      own_taken = λ other. absurd (true≢false (sym own ∙ other));
      said = chosen_same (sym same) (sym (ap (λ b. taken_at b k) own));
    }
translated_now log packet k from upto (Some rule) (Chosen chosen (Some p)) reply low high (same, w) =
    let here : w.free.point ≡ k = omega (arith, w.free.low, w.free.high, w.tried) in
    let there : p ≡ k = omega (arith, w.free.low, w.free.high, w.tried) in
    let own : is_own_or_barred rule packet.tuple w.lawful.number ≡ false = w.lawful.own.0 in
    record {
      number = w.lawful.number;
      allowed = w.lawful.allowed;
      gives = same ∙ w.lawful.gives;
      free = subst (λ (t : Tuple). is_free t (after log k) ≡ true) (sym same)
          (subst (λ q. is_free chosen (after log q) ≡ true) here w.free.fact.fact);
      own_taken = λ other. subst
          (λ q. is_free (reply_with rule packet.tuple (own_number rule packet.tuple)) (after log q) ≡ false) there w.lawful.own.1.fact;
      said = chosen_same (sym same) (ap Some there ∙ sym (ap (λ b. taken_at b k) own));
    }

module _ (setup : Setup) (log : List Event) (k : ℕ) (packet : FlowPacket) (translated : Translated) (reply : Tuple) (upto : ℕ)
    (begun : WouldBegin setup log k packet translated reply upto) (high : upto ≤ k) where
  pub begun_absent : live_under packet.tuple (after log k) ≡ None
  begun_absent =
      let here : begun.absent.at ≡ k = omega (arith, begun.absent.from, begun.absent.before) in
      subst (λ p. live_under packet.tuple (after log p) ≡ None) here begun.absent.absent.fact

  pub begun_reply : HasReply (now_at log packet k) (rule_for setup.rules.items packet.tuple) translated reply
  begun_reply =
      translated_now log packet k begun.absent.at upto (rule_for setup.rules.items packet.tuple) translated reply begun.absent.from high
      begun.found

-- ---- what expects the packet

-- what was said of a packet that was looked for, at this point and with these events, by what is expected there
pub record IsWanted (log : List Event) (packet : FlowPacket) (k : ℕ) (es : List Event) (unclaimed master : Option ℕ) (from upto : ℕ)
    : Type 0 where
  pub expectation : Option Expectation
  pub is : expected_now (now_at log packet k) ≡ expectation
  pub claims : es ≡ claims_of packet expectation
  pub told : unclaimed ≡ unclaimed_at k expectation
  pub owner : master ≡ master_of expectation
  pub first : from ≤ k
  pub point : upto ≡ number_behind (now_at log packet k) expectation
  pub state : after log upto ≡ run (after log k) (claims_of packet expectation)
  pub records : (after log upto).records ≡ (after log k).records

claim_same : {i j m n : ℕ} (t : Tuple) (moment : ℕ) → i ≡ j → m ≡ n
    → ◌≡◌ {A = List Event} (Claim i m t moment ∷ []) (Claim j n t moment ∷ [])
claim_same t moment e f = cc

-- an expectation that may be claimed is the one that matches
record IsOf (o : Option Expectation) (id master : ℕ) : Type 0 where
  pub expectation : Expectation
  pub is : o ≡ Some expectation
  pub named : id ≡ expectation.id
  pub owned : master ≡ expectation.master

claimed_of : (o : Option Expectation) (id master : ℕ) → may_claim o id master ≡ true → IsOf o id master
claimed_of None id master h = absurd (false≢true h)
claimed_of (Some e) id master h =
    let both = and_parts (expected.has_id id e) (e.master == master) h in
    record { expectation = e; is = refl; named = sym (nat_same e.id id both.0); owned = sym (nat_same e.master master both.1) }

pub wanted : EventsMayHappen → (sizes : Sizes) (log : List Event) → is_legal sizes log ≡ true
    → (packet : FlowPacket) (k : ℕ) (es : List Event) (unclaimed master : Option ℕ) (from upto : ℕ)
    → k ≤ from → upto ≤ k + length es → ClaimsIfExpected log packet (noted k es) unclaimed master from upto
    → IsWanted log packet k es unclaimed master from upto
wanted may sizes log legal packet k es (Some p) master from upto low high u =
    let empty : es ≡ [] = none_noted k es u.none in
    let here : p ≡ k = omega (arith, u.low, u.high, ap length empty) in
    let there : upto ≡ k = omega (arith, u.low, u.high, ap length empty) in
    let point : upto ≡ k + 0 = omega (arith, there) in
    let first : from ≤ k = omega (arith, u.low, here) in
    record {
      expectation = None;
      is = subst (λ q. matching packet.tuple packet.moment (after log q).expects ≡ None) here u.unmatched.fact;
      claims = empty;
      told = ap Some here;
      owner = u.alone;
      first = first;
      point = point;
      state = ap (after log) there;
      records = ap (λ q. (after log q).records) there;
    }
wanted may sizes log legal packet k es None master from upto low high c =
    let one = one_noted k es _ c.own in
    let here : c.number ≡ k = one.1 in
    let count : length es ≡ 1 = ap length one.0 in
    let point : upto ≡ k + 1 = omega (arith, here, count, c.before, high) in
    let first : from ≤ k = omega (arith, here, c.happened.later) in
    let event : Event = Claim c.expectation c.by packet.tuple packet.moment in
    let happened : slice_get log k ≡ Some event = subst (λ q. slice_get log q ≡ Some event) here c.happened.event in
    let of : IsOf (matching packet.tuple packet.moment (after log k).expects) c.expectation c.by =
    claimed_of _ _ _ (may sizes log k event legal happened) in
    let same : event ∷ [] ≡ claims_of packet (Some of.expectation) = claim_same packet.tuple packet.moment of.named of.owned in
    let state : after log upto ≡ run (after log k) (event ∷ []) = ap (after log) point ∙ step_after log k event happened in
    record {
      expectation = Some of.expectation;
      is = of.is;
      claims = one.0 ∙ same;
      told = refl;
      owner = c.related ∙ ap Some of.owned;
      first = first;
      point = point;
      state = state ∙ ap (run (after log k)) same;
      records = ap (λ (s : State). s.records) state;
    }
