-- A packet's own events, one after another: their numbers, the states behind them, and those that end an entry.
use Rattle.std.proofs.Common.{◌≡◌, ℕ, ◌+◌, ◌≤◌, zero, suc, Bool, true, false, List, [], ◌∷◌, ◌++◌, length, take, max, refl, sym, ap, subst, ◌∙◌, arith, inl, inr, length-append, Option, Some, None}
use Rattle.std.specs.List.{slice_get}
use Rattle.std.proofs.lemmas.Bool.{and_parts, false≢true}
use Rattle.tuple_core.specs.declared.Direction.{Direction}
use Rattle.tuple_core.specs.declared.Tuple.{Tuple}
use Rattle.history_book.specs.declared.event.Event.{Event}
use Rattle.history_book.specs.declared.event.Note.{Note}
use Rattle.history_book.specs.declared.event.Why.TheVariants as why
use Rattle.history_book.specs.declared.record.Record.{Record}
use Rattle.history_book.specs.declared.sizes.Sizes.{Sizes}
use Rattle.history_book.specs.declared.verdict.Class.{Class}
use Rattle.history_book.specs.History.{after, is_legal, run}
use Rattle.history_book.specs.Laws.{EventsMayHappen, FoundAreFoundAgain}
use Rattle.history_book.specs.Legality.{is_reopen, may_destroy}
use Rattle.history_book.specs.Mark.{mark_past}
use Rattle.history_book.specs.State.{Found, State, empty_state, live_under, next, record_of}
use Rattle.packet_headers.specs.declared.packet.Packet.{Packet}
use Rattle.proto_rules.specs.declared.Outcome.{Outcome}
use Rattle.proto_rules.specs.declared.Outcome.TheVariants as outcome
use Rattle.proto_rules.specs.Laws.{ExpiredAreTold}
use Rattle.proto_rules.specs.Protocol.{is_of_protocol}
use Rattle.proto_rules.specs.Step.{step_of}
use Rattle.packet_path.specs.Packet.{FlowPacket, Given, IsFlow}
use Rattle.packet_path.specs.Verdict.{AnswersFlow, IsKillOf, KillsAll}
use Rattle.replay_runs.specs.Report.{TrackerSetup}
use Rattle.replay_laws.specs.Reaction.{EndsAll, Meets, Reaction, ReactsTo, ReactsToFlow, ReactsToPacket, Situation, configuration_of, end_of}
use Rattle.replay_laws.proofs.Noted.{noted}

-- ---- numbers and states

run_take : (log : List Event) (s : State) (p : ℕ) (e : Event) → slice_get log p ≡ Some e
    → run s (take (suc p) log) ≡ next (run s (take p log)) e
run_take [] s p e at = cc
run_take (x ∷ xs) s zero e at = let same : x ≡ e = cc in ap (next s) same
run_take (x ∷ xs) s (suc p) e at = run_take xs (next s x) p e at

-- the state behind the event of a number is the next of the one before it
pub step_after : (log : List Event) (p : ℕ) (e : Event) → slice_get log p ≡ Some e → after log (p + 1) ≡ next (after log p) e
unfolding after
step_after log p e at =
    let here : p + 1 ≡ suc p = omega arith in
    ap (λ k. run empty_state (take k log)) here ∙ run_take log empty_state p e at

pub mark_noted : (n : ℕ) (es : List Event) → mark_past n (noted n es) ≡ n + length es
mark_noted n [] = omega arith
mark_noted n (e ∷ es) =
    let here : max n (n + 1) ≡ n + 1 = omega arith in
    let there : n + 1 + length es ≡ n + suc (length es) = omega arith in
    ap (λ m. mark_past m (noted (n + 1) es)) here ∙ mark_noted (n + 1) es ∙ there

pub noted-length : (n : ℕ) (es : List Event) → length (noted n es) ≡ length es
noted-length n [] = refl
noted-length n (e ∷ es) = ap suc (noted-length (n + 1) es)

pub none_noted : (n : ℕ) (es : List Event) → noted n es ≡ [] → es ≡ []
none_noted n [] h = refl
none_noted n (e ∷ es) h = cc

-- the first events and the others, with their numbers
pub record Split (n : ℕ) (own : List Event) (kills rest : List Note) : Type 0 where
  pub ends : List Event
  pub more : List Event
  pub all : own ≡ ends ++ more
  pub first : kills ≡ noted n ends
  pub second : rest ≡ noted (n + length ends) more

cons_same : {X : Type 0} {x y : X} {xs ys : List X} → x ≡ y → xs ≡ ys → x ∷ xs ≡ y ∷ ys
cons_same e f = cc

pub split : (n : ℕ) (own : List Event) (kills rest : List Note) → noted n own ≡ kills ++ rest → Split n own kills rest
split n own [] rest e =
    let here : n ≡ n + 0 = omega arith in
    record { ends = []; more = own; all = refl; first = refl; second = sym e ∙ ap (λ m. noted m own) here }
split n [] (k ∷ ks) rest e = cc
split n (x ∷ xs) (k ∷ ks) rest e =
    let head : k ≡ record { number = n; event = x } = cc in
    let tail : noted (n + 1) xs ≡ ks ++ rest = cc in
    let s : Split (n + 1) xs ks rest = split (n + 1) xs ks rest tail in
    let here : n + 1 + length s.ends ≡ n + suc (length s.ends) = omega arith in
    record {
      ends = x ∷ s.ends;
      more = s.more;
      all = ap (λ l. x ∷ l) s.all;
      first = cons_same head s.first;
      second = s.second ∙ ap (λ m. noted m s.more) here;
    }

-- ---- what a legal event says of the entry that was found

subject_same : (found : Found) (r : Record) (d : Direction) → Some found ≡ Some (record { subject = r; direction = d })
    → r ≡ found.subject
subject_same found r d e = cc

module _ (again : FoundAreFoundAgain) (sizes : Sizes) (log : List Event) (legal : is_legal sizes log ≡ true) where
  -- a test that the record with the id of what is found passes is passed by what is found
  pub of_found : (P : Option Record → Bool) (p : ℕ) (t : Tuple) (found : Found) → P None ≡ false
      → live_under t (after log p) ≡ Some found → P (record_of found.subject.id (after log p)) ≡ true
      → P (Some found.subject) ≡ true
  of_found P p t found nothing live may = by (record_of found.subject.id (after log p)) refl may
    where
      by : (o : Option Record) → record_of found.subject.id (after log p) ≡ o → P o ≡ true → P (Some found.subject) ≡ true
      by None is h = absurd (false≢true (sym nothing ∙ h))
      by (Some r) is h =
          subst (λ (x : Record). P (Some x) ≡ true)
          (subject_same found r found.direction (sym live ∙ again sizes log p p t found r legal live is)) h

-- ---- the events that end an entry

reopen_step : (o : Outcome) → is_reopen o ≡ true → o ≡ outcome.Reopen
reopen_step (outcome.Accept p) h = absurd (false≢true h)
reopen_step outcome.Ignore h = absurd (false≢true h)
reopen_step outcome.Invalid h = absurd (false≢true h)
reopen_step outcome.Reopen h = refl
reopen_step outcome.Reset h = absurd (false≢true h)
reopen_step outcome.Expired h = absurd (false≢true h)

-- a frame is reacted to as the packet of a flow that it is
to_given : (tracker : TrackerSetup) (s : State) (n : ℕ) (given : Given) (p : FlowPacket) (r : Reaction) → IsFlow given p
    → ReactsToFlow (configuration_of tracker) s n p r → ReactsTo (configuration_of tracker) s n given r
to_given tracker s n given p r flow h =
    subst (λ (x : Packet). ReactsToPacket (configuration_of tracker) s n x given.moment given.payload r) (sym flow.headers)
    (subst (λ m. ReactsToFlow (configuration_of tracker) s n (record { tuple = p.tuple; segment = p.segment; moment = m; payload = given.payload }) r)
    flow.moment
    (subst (λ (l : List ℕ). ReactsToFlow (configuration_of tracker) s n (record { tuple = p.tuple; segment = p.segment; moment = p.moment; payload = l }) r)
    flow.payload h))

-- a situation at a point
abbrev pub now_at : List Event → FlowPacket → ℕ → Situation
now_at log packet k = record { packet = packet; state = after log k; at = k }

module _ (may : EventsMayHappen) (again : FoundAreFoundAgain) (expired : ExpiredAreTold)
    (sizes : Sizes) (log : List Event) (legal : is_legal sizes log ≡ true) where
  end_by : (packet : FlowPacket) (p : ℕ) (found : Found) (e : Event) → live_under packet.tuple (after log p) ≡ Some found
      → slice_get log p ≡ Some e → IsKillOf packet found e
      → end_of packet found (step_of found.subject.part found.direction packet.segment packet.moment) ≡ Some e
  end_by packet p found e live at (inl is) =
      let reason = of_found again sizes log legal (λ o. may_destroy o (why.Expired packet.moment)) p packet.tuple found refl live
      (may sizes log p _ legal (at ∙ ap Some is)) in
      ap (end_of packet found) ((expired found.subject.part found.direction packet.segment packet.moment).always reason)
      ∙ ap Some (sym is)
  end_by packet p found e live at (inr is) =
      let reason = of_found again sizes log legal (λ o. may_destroy o (why.Reopened found.direction packet.segment packet.moment)) p
      packet.tuple found refl live (may sizes log p _ legal (at ∙ ap Some is)) in
      ap (end_of packet found)
      (reopen_step (step_of found.subject.part found.direction packet.segment packet.moment)
      (and_parts (is_of_protocol packet.segment found.subject.part.kind)
      (is_reopen (step_of found.subject.part found.direction packet.segment packet.moment)) reason).1)
      ∙ ap Some (sym is)

  ends_all : (packet : FlowPacket) (n : ℕ) (es : List Event) → KillsAll log n packet (noted n es) → EndsAll packet (after log n) es
  ends_all packet n [] k = tt
  ends_all packet n (e ∷ es) (k, ks) = (
    record { found = k.found; live = k.live.fact; end = end_by packet n k.found e k.live.fact k.happened.event k.kill },
    subst (λ (s : State). EndsAll packet s es) (step_after log n e k.happened.event) (ends_all packet (n + 1) es ks),
  )

  run_ends : (packet : FlowPacket) (n : ℕ) (es : List Event) → KillsAll log n packet (noted n es)
      → after log (n + length es) ≡ run (after log n) es
  run_ends packet n [] k = let here : n + 0 ≡ n = omega arith in ap (after log) here
  run_ends packet n (e ∷ es) (k, ks) =
      let here : n + suc (length es) ≡ n + 1 + length es = omega arith in
      ap (after log) here ∙ run_ends packet (n + 1) es ks ∙ ap (λ s. run s es) (step_after log n e k.happened.event)

  -- a packet of a flow, where it meets what it finds behind the events that end an entry
  pub flow_reacts : (tracker : TrackerSetup) (n : ℕ) (given : Given) (own : List Event) (class : Class)
      (Fits : FlowPacket → ℕ → List Note → Type 0)
      → ((packet : FlowPacket) (k ended : ℕ) (more : List Event) → n + length own ≡ k + length more
      → length own ≡ ended + length more → Fits packet k (noted k more)
      → Meets (configuration_of tracker) (now_at log packet k) ended (live_under packet.tuple (after log k)) (record { events = more; class = class }))
      → AnswersFlow log n given (noted n own) Fits
      → ReactsTo (configuration_of tracker) (after log n) n given (record { events = own; class = class })
  flow_reacts tracker n given own class Fits then f =
      let p : FlowPacket = f.packet in
      let s : Split n own f.kills f.rest = split n own f.kills f.rest f.all in
      let killed : KillsAll log n p (noted n s.ends) = subst (λ (ks : List Note). KillsAll log n p ks) s.first f.killed in
      let mark : mark_past n f.kills ≡ n + length s.ends = ap (mark_past n) s.first ∙ mark_noted n s.ends in
      let fits : Fits p (n + length s.ends) (noted (n + length s.ends) s.more) =
      subst (λ (ns : List Note). Fits p (n + length s.ends) ns) s.second (subst (λ m. Fits p m f.rest) mark f.fits) in
      let count : length own ≡ length s.ends + length s.more = ap length s.all ∙ length-append s.ends s.more in
      let few : length s.ends ≤ 4 = omega (arith, f.few, ap length s.first, noted-length n s.ends) in
      let total : n + length own ≡ n + length s.ends + length s.more = omega (arith, count) in
      let met : Meets (configuration_of tracker) (now_at log p (n + length s.ends)) (length s.ends) (live_under p.tuple (after log (n + length s.ends)))
      (record { events = s.more; class = class }) = then p (n + length s.ends) (length s.ends) s.more total count fits in
      to_given tracker (after log n) n given p (record { events = own; class = class }) f.flow
      (record {
        ends = s.ends;
        rest = s.more;
        all = s.all;
        few = few;
        ended = ends_all p n s.ends killed;
        met = subst (λ (x : State). Meets (configuration_of tracker) (record { packet = p; state = x; at = n + length s.ends }) (length s.ends)
            (live_under p.tuple x) (record { events = s.more; class = class })) (run_ends p n s.ends killed) met;
      })
