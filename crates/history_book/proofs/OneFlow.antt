-- In every state of a legal history each record is of one flow.
use Rattle.std.proofs.Common.{◌≡◌, ℕ, ◌+◌, zero, suc, Bool, true, false, not, cond, List, [], ◌∷◌, ◌++◌, take, refl, sym, ap, subst, ◌∙◌, ⊎_elim, Some}
use Rattle.std.specs.List.{AllByRecursion, find}
use Rattle.std.specs.Prelude.{map, ◌==◌, ◌≢◌, ◌&&◌}
use Rattle.std.proofs.lemmas.Bool.{and_parts, eqb-true, or_cases}
use Rattle.tuple_core.specs.Tuple.{is_valid}
use Rattle.tuple_core.specs.declared.Direction.{Direction}
use Rattle.tuple_core.specs.declared.Proto.{Proto}
use Rattle.tuple_core.specs.declared.Segment.{Segment}
use Rattle.tuple_core.specs.declared.Tuple.{Tuple}
use Rattle.proto_rules.specs.declared.Outcome.{Outcome}
use Rattle.proto_rules.specs.declared.Outcome.TheVariants as outcome
use Rattle.proto_rules.specs.declared.Part.{Part}
use Rattle.proto_rules.specs.Laws.{AcceptedGoOn, SamePartIsEquality}
use Rattle.proto_rules.specs.Protocol.{is_of_protocol, proto_of}
use Rattle.proto_rules.specs.Step.{step_of}
use Rattle.history_book.specs.declared.event.Event.{Event}
use Rattle.history_book.specs.declared.event.Event.TheVariants.{Confirm, Touch, Destroy, Expect, Claim, Unexpect}
use Rattle.history_book.specs.declared.record.Record.{Record}
use Rattle.history_book.specs.declared.sizes.Sizes.{Sizes}
use Rattle.history_book.specs.History.{after, is_legal, is_legal_from, run}
use Rattle.history_book.specs.Laws.{AreApart}
use Rattle.history_book.specs.Legality.{accepts, is_of_one_flow, is_of_one_zone, is_open_place, may_happen, may_touch, same_proto}
use Rattle.history_book.specs.Record.{has_id, has_original, has_reply, has_tuple}
use Rattle.history_book.specs.State.{Found, State, empty_state, is_free, live_under, next, with_part}
use Rattle.history_book.proofs.Entries.{each_filter}
use Rattle.history_book.proofs.Live.{live_has, original_found}
use Rattle.history_book.proofs.Pairs.{Pairs}
use Rattle.history_book.proofs.Passing.{found_holds}
use Rattle.history_book.proofs.Records.{later_ids, with_part-others}
use Rattle.history_book.proofs.Sound.{Sound, sound_next}
use Rattle.history_book.proofs.Tuples.{same_number, same_tuple-true}

abbrev pub OneFlow : Record → Type 0
OneFlow r = is_of_one_flow r ≡ true

abbrev AllOneFlow : List Record → Type 0
AllOneFlow rs = AllByRecursion OneFlow rs

-- a part of the same protocol leaves the record of one flow
same_protocol : (r : Record) (part : Part) → proto_of part.kind ≡ proto_of r.part.kind → OneFlow r
    → OneFlow (record r { part = part })
same_protocol r part same h =
    ap (λ (p : Proto). is_valid r.original && is_valid r.reply && is_of_one_zone r && same_proto r.original.proto p && same_proto r.reply.proto p) same
    ∙ h

-- an outcome that accepts with a part is that of acceptance with this part
accepted : SamePartIsEquality → (o : Outcome) (part : Part) → accepts o part ≡ true → o ≡ outcome.Accept part
accepted equal (outcome.Accept p) part h = ap outcome.Accept ((equal p part).0 h)
accepted equal outcome.Ignore part h = cc
accepted equal outcome.Invalid part h = cc
accepted equal outcome.Reopen part h = cc
accepted equal outcome.Reset part h = cc
accepted equal outcome.Expired part h = cc

-- a record that is confirmed is of one flow
pub confirmed_protocol : (sizes : Sizes) (n : ℕ) (s : State) (r : Record) → may_happen sizes s n (Confirm r) ≡ true → OneFlow r
confirmed_protocol sizes n s r h =
    let a = and_parts _ (is_free r.reply s) h in
    let b = and_parts _ (is_free r.original s) a.0 in
    let c = and_parts _ (is_open_place sizes r.place s) b.0 in
    (and_parts (r.id == n) (is_of_one_flow r) c.0).1

one_more : (rs : List Record) (r : Record) → AllOneFlow rs → OneFlow r → AllOneFlow (rs ++ r ∷ [])
one_more [] r h one = (one, tt)
one_more (q ∷ rs) r (h, hs) one = (h, one_more rs r hs one)

module _ (go_on : AcceptedGoOn) (equal : SamePartIsEquality) where
  -- a packet that may touch a record leaves it of one flow
  touched_record : (r : Record) (d : Direction) (s : Segment) (moment : ℕ) (part : Part)
      → may_touch (Some r) d s moment part ≡ true → OneFlow r → OneFlow (record r { part = part })
  touched_record r d s moment part may h =
      let parts = and_parts (is_of_protocol s r.part.kind) (accepts (step_of r.part d s moment) part) may in
      let took = accepted equal (step_of r.part d s moment) part parts.1 in
      same_protocol r part (go_on r.part d s moment part took).same h

  touched_first : (id : ℕ) (d : Direction) (s : Segment) (moment : ℕ) (part : Part) (r : Record) (rs : List Record) (b : Bool)
      → has_id id r ≡ b → AllByRecursion (AreApart r) rs → AllOneFlow (r ∷ rs)
      → may_touch (cond b (Some r) (find (has_id id) rs)) d s moment part ≡ true
      → (may_touch (find (has_id id) rs) d s moment part ≡ true → AllOneFlow (map (with_part id part) rs))
      → AllOneFlow (cond b (record r { part = part }) r ∷ map (with_part id part) rs)
  touched_first id d s moment part r rs true is apart (h, hs) may later =
      let same : r.id ≡ id = eqb-true r.id id is in
      let others : map (with_part id part) rs ≡ rs =
      with_part-others id part rs (subst (λ (n : ℕ). AllByRecursion (λ x. x.id ≢ n) rs) same (later_ids r rs apart)) in
      (touched_record r d s moment part may h, subst AllOneFlow (sym others) hs)
  touched_first id d s moment part r rs false is apart (h, hs) may later = (h, later may)

  -- a Touch that may happen leaves each record of one flow
  touched_all : (id : ℕ) (d : Direction) (s : Segment) (moment : ℕ) (part : Part) (rs : List Record) → Pairs rs
      → may_touch (find (has_id id) rs) d s moment part ≡ true → AllOneFlow rs
      → AllOneFlow (map (with_part id part) rs)
  touched_all id d s moment part [] pairs may h = tt
  touched_all id d s moment part (r ∷ rs) (apart, pairs) may (h, hs) =
      touched_first id d s moment part r rs (has_id id r) refl apart (h, hs) may
      (λ m. touched_all id d s moment part rs pairs m hs)

  protocol_next : (sizes : Sizes) (n : ℕ) (s : State) (e : Event) → may_happen sizes s n e ≡ true → Sound n s
      → AllOneFlow s.records → AllOneFlow (next s e).records
  protocol_next sizes n s (Confirm r) may sound h = one_more s.records r h (confirmed_protocol sizes n s r may)
  protocol_next sizes n s (Touch id d segment moment part) may sound h =
      touched_all id d segment moment part s.records sound.apart may h
  protocol_next sizes n s (Destroy id why) may sound h = each_filter OneFlow (λ r. not (has_id id r)) s.records h
  protocol_next sizes n s (Expect expectation replaced moment) may sound h = h
  protocol_next sizes n s (Claim expectation master tuple moment) may sound h = h
  protocol_next sizes n s (Unexpect expectation moment) may sound h = h

  protocol_run : (sizes : Sizes) (n p : ℕ) (s : State) (log : List Event) → is_legal_from sizes s n log ≡ true → Sound n s
      → AllOneFlow s.records → AllOneFlow (run s (take p log)).records
  protocol_run sizes n zero s log legal sound h = h
  protocol_run sizes n (suc p) s [] legal sound h = h
  protocol_run sizes n (suc p) s (e ∷ es) legal sound h =
      let parts = and_parts (may_happen sizes s n e) (is_legal_from sizes (next s e) (n + 1) es) legal in
      protocol_run sizes (n + 1) p (next s e) es parts.1 (sound_next sizes n s e parts.0 sound)
      (protocol_next sizes n s e parts.0 sound h)

  pub protocol_after : (sizes : Sizes) (p : ℕ) (log : List Event) → is_legal sizes log ≡ true
      → AllOneFlow (after log p).records
  unfolding is_legal after
  protocol_after sizes p log legal = protocol_run sizes 0 p empty_state log legal (record { apart = tt; older = tt }) tt

-- what is live under a tuple is a record of the state
pub live_holds : (P : Record → Type 0) (t : Tuple) (s : State) (f : Found) → AllByRecursion P s.records
    → live_under t s ≡ Some f → P f.subject
live_holds P t s f h live =
    ⊎_elim
    (found_holds P (has_original t) s.records f.subject h)
    (found_holds P (has_reply t) s.records f.subject h)
    (original_found (find (has_original t) s.records) (find (has_reply t) s.records) f live)

-- a record of one flow is of the protocol of each of its tuples
pub own_protocol : (t : Tuple) (r : Record) → OneFlow r → has_tuple t r ≡ true → proto_of r.part.kind ≡ t.proto
own_protocol t r h has =
    let reply = and_parts _ (same_proto r.reply.proto (proto_of r.part.kind)) h in
    let original = and_parts _ (same_proto r.original.proto (proto_of r.part.kind)) reply.0 in
    ⊎_elim
    (λ e. sym (same_number r.original.proto (proto_of r.part.kind) (eqb-true _ _ original.1))
    ∙ ap (λ (u : Tuple). u.proto) (same_tuple-true r.original t e))
    (λ e. sym (same_number r.reply.proto (proto_of r.part.kind) (eqb-true _ _ reply.1))
    ∙ ap (λ (u : Tuple). u.proto) (same_tuple-true r.reply t e))
    (or_cases (has_original t r) (has_reply t r) has)

pub live_protocol : (t : Tuple) (s : State) (f : Found) → AllOneFlow s.records → live_under t s ≡ Some f
    → proto_of f.subject.part.kind ≡ t.proto
live_protocol t s f h live = own_protocol t f.subject (live_holds OneFlow t s f h live) (live_has t s f live)
