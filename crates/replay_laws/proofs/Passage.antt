-- A packet that the entry of its flow accepted or that reset it, where its events are numbered from a point on.
use Rattle.std.proofs.Common.{◌≡◌, ℕ, ◌+◌, ◌≤◌, suc, Bool, true, false, cond, List, [], ◌∷◌, length, map, refl, sym, ap, subst, ◌∙◌, arith, inl, inr, Option, Some, None, ◌==◌}
use Rattle.std.specs.List.{AllByRecursion, find, slice_get}
use Rattle.std.proofs.lemmas.Bool.{and_parts, false≢true}
use Rattle.std.proofs.lemmas.Bool.Decides.{nat_tests}
use Rattle.expect_table.specs.Expectations.{add_outcome}
use Rattle.expect_table.specs.declared.expectation.Want.{Want}
use Rattle.expect_table.specs.declared.table.AddOutcome.{AddOutcome}
use Rattle.expect_table.specs.declared.table.AddOutcome.TheVariants as add
use Rattle.tuple_core.specs.declared.Direction.TheVariants.{Original}
use Rattle.history_book.specs.declared.event.Event.{Event}
use Rattle.history_book.specs.declared.event.Note.{Note}
use Rattle.history_book.specs.declared.event.Why.TheVariants.{Reset}
use Rattle.history_book.specs.declared.record.Record.{Record}
use Rattle.history_book.specs.declared.verdict.Class.{Class}
use Rattle.history_book.specs.declared.verdict.Class.TheVariants as class
use Rattle.history_book.specs.declared.verdict.Ftp.{Ftp}
use Rattle.history_book.specs.declared.verdict.Ftp.TheVariants as ftp
use Rattle.history_book.specs.declared.verdict.Label.{Label}
use Rattle.history_book.specs.DeskExpectations.{expectation_at}
use Rattle.history_book.specs.History.{after, is_legal}
use Rattle.history_book.specs.Label.{label_of}
use Rattle.history_book.specs.Laws.{EventsMayHappen, FoundAreFoundAgain}
use Rattle.history_book.specs.Legality.{accepts, is_added, is_reset, may_destroy, may_expect, may_touch, same_id}
use Rattle.history_book.specs.Mark.{ftp_points}
use Rattle.history_book.specs.Record.{has_id}
use Rattle.history_book.specs.State.{Found, State, live_under, next, record_of, with_part}
use Rattle.proto_rules.specs.declared.Outcome.{Outcome}
use Rattle.proto_rules.specs.declared.Outcome.TheVariants as outcome
use Rattle.proto_rules.specs.declared.Part.{Part}
use Rattle.proto_rules.specs.Laws.{ResetsAreUnanswered, SamePartIsEquality}
use Rattle.proto_rules.specs.Protocol.{is_of_protocol}
use Rattle.proto_rules.specs.Step.{step_of}
use Rattle.packet_path.specs.FtpPart.{FtpFits}
use Rattle.packet_path.specs.Packet.{FlowPacket}
use Rattle.packet_path.specs.Passed.{IsPassing, Passes, reset_by, touch_by}
use Rattle.replay_runs.specs.Report.{TrackerSetup}
use Rattle.replay_laws.specs.Reaction.{Adds, IsRead, Meets, Reaction, Steps, configuration_of}
use Rattle.replay_laws.proofs.Noted.{noted}
use Rattle.replay_laws.proofs.Stepping.{none_noted, now_at, of_found, step_after}

-- ---- what the tests of legality say

accepts_step : SamePartIsEquality → (o : Outcome) (after : Part) → accepts o after ≡ true → o ≡ outcome.Accept after
accepts_step same (outcome.Accept p) after h = ap outcome.Accept ((same p after).0 h)
accepts_step same outcome.Ignore after h = absurd (false≢true h)
accepts_step same outcome.Invalid after h = absurd (false≢true h)
accepts_step same outcome.Reopen after h = absurd (false≢true h)
accepts_step same outcome.Reset after h = absurd (false≢true h)
accepts_step same outcome.Expired after h = absurd (false≢true h)

reset_step : (o : Outcome) → is_reset o ≡ true → o ≡ outcome.Reset
reset_step (outcome.Accept p) h = absurd (false≢true h)
reset_step outcome.Ignore h = absurd (false≢true h)
reset_step outcome.Invalid h = absurd (false≢true h)
reset_step outcome.Reopen h = absurd (false≢true h)
reset_step outcome.Reset h = refl
reset_step outcome.Expired h = absurd (false≢true h)

pub nat_same : (m n : ℕ) → (m == n) ≡ true → m ≡ n
nat_same m n h = grind (arith, nat_tests)

same_ids : (a b : Option ℕ) → same_id a b ≡ true → a ≡ b
same_ids None None h = refl
same_ids None (Some n) h = absurd (false≢true h)
same_ids (Some m) None h = absurd (false≢true h)
same_ids (Some m) (Some n) h = ap Some (nat_same m n h)

added_by : (o : AddOutcome) (older : Option ℕ) → is_added o older ≡ true → o ≡ add.Added older
added_by (add.Added replaced) older h = ap add.Added (same_ids replaced older h)
added_by (add.Clash id) older h = absurd (false≢true h)
added_by add.Full older h = absurd (false≢true h)

-- ---- an entry that was touched is live

with_part-id : (id : ℕ) (part : Part) (r : Record) → (with_part id part r).id ≡ r.id
with_part-id id part r =
    elim (has_id id r) as (λ b. (cond b (record r { part = part }) r).id ≡ r.id) [
      | true ↦ refl
      | false ↦ refl
    ]

first_none : (b c : Bool) → b ≡ c → (x y : Record) (o p : Option Record) → cond b (Some x) o ≡ None → (o ≡ None → p ≡ None)
    → cond c (Some y) p ≡ None
first_none true true e x y o p h rest = cc
first_none true false e x y o p h rest = cc
first_none false true e x y o p h rest = cc
first_none false false e x y o p h rest = rest h

touched_none : (m id : ℕ) (part : Part) (rs : List Record) → find (has_id m) (map (with_part id part) rs) ≡ None
    → find (has_id m) rs ≡ None
touched_none m id part [] h = refl
touched_none m id part (q ∷ rs) h =
    first_none (has_id m (with_part id part q)) (has_id m q) (ap (λ i. i == m) (with_part-id id part q)) (with_part id part q) q
    (find (has_id m) (map (with_part id part) rs)) (find (has_id m) rs) h (touched_none m id part rs)

-- ---- equal reactions

pub same_reaction : {xs ys : List Event} {c d : Class} → xs ≡ ys → c ≡ d
    → ◌≡◌ {A = Reaction} (record { events = xs; class = c }) (record { events = ys; class = d })
same_reaction e f = λ i. record { events = e i; class = f i }

passed_same : {label l : Label} {id i at j : ℕ} {f g : Ftp} → label ≡ l → id ≡ i → at ≡ j → f ≡ g
    → class.Passed label id at f ≡ class.Passed l i j g
passed_same a b c d = cc

cons_both : {X : Type 0} {x y : X} {xs ys : List X} → x ≡ y → xs ≡ ys → x ∷ xs ≡ y ∷ ys
cons_both e f = cc

first_same : {x y : Note} {xs ys : List Note} → x ∷ xs ≡ y ∷ ys → x ≡ y
first_same e = cc

rest_same : {x y : Note} {xs ys : List Note} → x ∷ xs ≡ y ∷ ys → xs ≡ ys
rest_same e = cc

pub one_noted : (n : ℕ) (es : List Event) (note : Note) → noted n es ≡ note ∷ [] → (es ≡ note.event ∷ []) × (note.number ≡ n)
one_noted n [] note h = cc
one_noted n (e ∷ es) note h =
    let head : record { number = n; event = e } ≡ note = cc in
    let tail : noted (n + 1) es ≡ [] = cc in
    (rw (none_noted (n + 1) es tail) (ap (λ (x : Note). x.event ∷ []) head), sym (ap (λ (x : Note). x.number) head))

module _ (may : EventsMayHappen) (again : FoundAreFoundAgain) (resets : ResetsAreUnanswered) (parts : SamePartIsEquality)
    (tracker : TrackerSetup) (log : List Event) (legal : is_legal tracker.sizes log ≡ true) where
  -- what adding a wish at a point gave, as the reaction says it
  added : (packet : FlowPacket) (found : Found) (es : List Event) (said : Ftp) (want : Want) (m n : ℕ) (o : AddOutcome) → n ≡ m
      → add_outcome tracker.sizes.expectations (after log n).expects (expectation_at n found.subject.id found.subject.original.zone want packet.moment) packet.moment ≡ o
      → Adds packet found n want o es said
      → Adds packet found m want
      (add_outcome tracker.sizes.expectations (after log m).expects (expectation_at m found.subject.id found.subject.original.zone want packet.moment) packet.moment)
      es said
  added packet found es said want m n o same gives adds =
      subst
      (λ k. Adds packet found k want
      (add_outcome tracker.sizes.expectations (after log k).expects (expectation_at k found.subject.id found.subject.original.zone want packet.moment) packet.moment)
      es said)
      same
      (subst (λ (x : AddOutcome). Adds packet found n want x es said) (sym gives) adds)

  -- what came of the payload, where the Touch was event k
  read_behind : (packet : FlowPacket) (k : ℕ) (found : Found) (es : List Event) (said : Ftp)
      → AllByRecursion (λ p. p ≤ k + 1 + length es) (ftp_points said)
      → (record_of found.subject.id (after log (k + 1)) ≡ None → ⊥)
      → FtpFits tracker.sizes log packet found k (noted (k + 1) es) said
      → IsRead tracker.sizes.expectations (now_at log packet (k + 1)) found es said
  read_behind packet k found es ftp.Nothing points live (empty, names) = inl (names, none_noted (k + 1) es empty, refl)
  read_behind packet k found es ftp.Address points live (empty, asks) = inr (inl (asks, none_noted (k + 1) es empty, refl))
  read_behind packet k found es (ftp.Expected id) points live x =
      let own = one_noted (k + 1) es _ x.own in
      let legal_here : may_expect tracker.sizes (after log id) id (expectation_at id found.subject.id found.subject.original.zone x.want packet.moment) x.replaced
      packet.moment ≡ true = may tracker.sizes log id _ legal x.happened.event in
      let o : AddOutcome = add_outcome tracker.sizes.expectations (after log id).expects
      (expectation_at id found.subject.id found.subject.original.zone x.want packet.moment) packet.moment in
      let is : is_added o x.replaced ≡ true = (and_parts _ (is_added o x.replaced) legal_here).1 in
      inr (inr (record {
        want = x.want;
        asked = x.asked;
        added = added packet found es (ftp.Expected id) x.want (k + 1) id (add.Added x.replaced) own.1 (added_by o x.replaced is)
            (own.0, refl);
      }))
  read_behind packet k found es (ftp.Clash id at) points live x =
      let empty : es ≡ [] = none_noted (k + 1) es x.own in
      let here : at ≡ k + 1 = omega (arith, x.later, points.0, ap length empty) in
      inr (inr (record {
        want = x.want;
        asked = x.asked;
        added = added packet found es (ftp.Clash id at) x.want (k + 1) at (add.Clash id) here x.gives.fact.gives (empty, refl);
      }))
  read_behind packet k found es (ftp.Full at) points live x =
      let empty : es ≡ [] = none_noted (k + 1) es x.own in
      let here : at ≡ k + 1 = omega (arith, x.later, points.0, ap length empty) in
      inr (inr (record {
        want = x.want;
        asked = x.asked;
        added = added packet found es (ftp.Full at) x.want (k + 1) at add.Full here x.gives.fact.gives (empty, refl);
      }))
  read_behind packet k found es (ftp.Gone at) points live x =
      let empty : es ≡ [] = none_noted (k + 1) es x.own in
      let here : at ≡ k + 1 = omega (arith, x.later, points.0, ap length empty) in
      absurd (live (subst (λ p. record_of found.subject.id (after log p) ≡ None) here x.gone.fact))

  -- the packet passed by this event, and then came others
  passes_by : (packet : FlowPacket) (k ended : ℕ) (e : Event) (es : List Event) (found : Found) (label : Label) (id at : ℕ) (said : Ftp)
      → AllByRecursion (λ p. p ≤ k + 1 + length es) (ftp_points said)
      → slice_get log k ≡ Some e → live_under packet.tuple (after log k) ≡ Some found
      → label ≡ label_of found.subject found.direction → id ≡ found.subject.id → at ≡ k + 1
      → IsPassing tracker.sizes log packet found (record { number = k; event = e }) (noted (k + 1) es) said
      → Steps (configuration_of tracker) (now_at log packet k) ended found (step_of found.subject.part found.direction packet.segment packet.moment)
      (record { events = e ∷ es; class = class.Passed label id at said })
  passes_by packet k ended e es found label id at said points happened live labelled named point (inl a) =
      let touch : Event = touch_by packet found a.after in
      let legal_here : may_touch (record_of found.subject.id (after log k)) found.direction packet.segment packet.moment a.after ≡ true =
      may tracker.sizes log k touch legal (happened ∙ ap Some a.event) in
      let may_this : may_touch (Some found.subject) found.direction packet.segment packet.moment a.after ≡ true =
      of_found again tracker.sizes log legal (λ o. may_touch o found.direction packet.segment packet.moment a.after) k packet.tuple found
      refl live legal_here in
      let stepped : step_of found.subject.part found.direction packet.segment packet.moment ≡ outcome.Accept a.after =
      accepts_step parts _ a.after (and_parts (is_of_protocol packet.segment found.subject.part.kind) _ may_this).1 in
      let behind_it : after log (k + 1) ≡ next (after log k) touch = step_after log k touch (happened ∙ ap Some a.event) in
      let stays : record_of found.subject.id (after log (k + 1)) ≡ None → ⊥ =
      λ gone. false≢true
      (ap (λ o. may_touch o found.direction packet.segment packet.moment a.after)
      (sym (touched_none found.subject.id found.subject.id a.after (after log k).records
      (ap (λ (s : State). record_of found.subject.id s) (sym behind_it) ∙ gone)))
      ∙ legal_here) in
      subst
      (λ (o : Outcome). Steps (configuration_of tracker) (now_at log packet k) ended found o (record { events = e ∷ es; class = class.Passed label id at said }))
      (sym stepped)
      (record {
        further = es;
        payload = said;
        read = subst
            (λ (s : State). IsRead tracker.sizes.expectations (record { packet = packet; state = s; at = k + 1 }) found es said)
            behind_it
            (read_behind packet k found es said points stays a.payload);
        said = same_reaction (ap (λ (x : Event). x ∷ es) a.event) (passed_same labelled named point refl);
      })
  passes_by packet k ended e es found label id at said points happened live labelled named point (inr r) =
      let legal_here : may_destroy (record_of found.subject.id (after log k)) (Reset packet.segment packet.moment) ≡ true =
      may tracker.sizes log k (reset_by packet found) legal (happened ∙ ap Some r.event) in
      let may_this : may_destroy (Some found.subject) (Reset packet.segment packet.moment) ≡ true =
      of_found again tracker.sizes log legal (λ o. may_destroy o (Reset packet.segment packet.moment)) k packet.tuple found refl live
      legal_here in
      let original : step_of found.subject.part Original packet.segment packet.moment ≡ outcome.Reset =
      reset_step _ (and_parts (is_of_protocol packet.segment found.subject.part.kind) _ may_this).1 in
      let stepped : step_of found.subject.part found.direction packet.segment packet.moment ≡ outcome.Reset =
      (resets found.subject.part Original packet.segment packet.moment original).both found.direction in
      let empty : es ≡ [] = none_noted (k + 1) es r.none in
      subst
      (λ (o : Outcome). Steps (configuration_of tracker) (now_at log packet k) ended found o (record { events = e ∷ es; class = class.Passed label id at said }))
      (sym stepped) (same_reaction (cons_both r.event empty) (passed_same labelled named point r.payload))

  pub passes_meets : (packet : FlowPacket) (k ended : ℕ) (more : List Event) (label : Label) (id at : ℕ) (said : Ftp)
      → AllByRecursion (λ p. p ≤ k + length more) (at ∷ ftp_points said)
      → Passes tracker.sizes log k packet (noted k more) (record { label = label; id = id; at = at; ftp = said })
      → Meets (configuration_of tracker) (now_at log packet k) ended (live_under packet.tuple (after log k))
      (record { events = more; class = class.Passed label id at said })
  passes_meets packet k ended [] label id at said points h = let impossible : [] ≡ h.note ∷ h.further = h.own in cc
  passes_meets packet k ended (e ∷ es) label id at said points h =
      let head : h.note ≡ record { number = k; event = e } = sym (first_same h.own) in
      let tail : h.further ≡ noted (k + 1) es = sym (rest_same h.own) in
      let number : h.note.number ≡ k = ap (λ (x : Note). x.number) head in
      let live : live_under packet.tuple (after log k) ≡ Some h.found =
      subst (λ p. live_under packet.tuple (after log p) ≡ Some h.found) number h.live.fact in
      let happened : slice_get log k ≡ Some e =
      subst (λ (x : Note). slice_get log x.number ≡ Some x.event) head h.happened.event in
      let passing : IsPassing tracker.sizes log packet h.found (record { number = k; event = e }) (noted (k + 1) es) said =
      subst (λ (x : Note). IsPassing tracker.sizes log packet h.found x (noted (k + 1) es) said) head
      (subst (λ (xs : List Note). IsPassing tracker.sizes log packet h.found h.note xs said) tail h.passing) in
      let here : k + suc (length es) ≡ k + 1 + length es = omega arith in
      subst
      (λ (o : Option Found). Meets (configuration_of tracker) (now_at log packet k) ended o (record { events = e ∷ es; class = class.Passed label id at said }))
      (sym live)
      (passes_by packet k ended e es h.found label id at said
      (subst (λ m. AllByRecursion (λ p. p ≤ m) (ftp_points said)) here points.1) happened live h.labelled (sym h.named)
      (h.point ∙ ap (λ m. m + 1) number) passing)
