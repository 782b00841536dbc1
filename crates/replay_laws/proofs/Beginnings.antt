-- A packet that would begin a flow: the new entry, or what stands in its way.
use Rattle.std.proofs.Common.{◌≡◌, ◌⊎◌, ℕ, ◌+◌, ◌<◌, ◌≤◌, Bool, true, false, not, cond, true≢false, List, [], ◌∷◌, ◌++◌, length, filter, refl, sym, ap, ap₂, subst, ◌∙◌, arith, inl, inr, Option, Some, None, IsSome, nat_lt, slice_get}
use Rattle.std.specs.List.{find}
use Rattle.std.proofs.lemmas.List.{append-nil}
use Rattle.std.proofs.lemmas.Bool.{and_parts, false≢true, ltb-true, or_left}
use Rattle.expect_table.specs.declared.expectation.Expectation.{Expectation}
use Rattle.tuple_core.specs.declared.Proto.TheVariants as proto
use Rattle.tuple_core.specs.declared.Tuple.{Tuple}
use Rattle.history_book.specs.declared.event.Event.{Event}
use Rattle.history_book.specs.declared.event.Event.TheVariants.{Confirm, Destroy}
use Rattle.history_book.specs.declared.event.Note.{Note}
use Rattle.history_book.specs.declared.event.Why.{Why}
use Rattle.history_book.specs.declared.event.Why.TheVariants as why
use Rattle.history_book.specs.declared.verdict.Class.{Class}
use Rattle.history_book.specs.declared.record.Record.{Record}
use Rattle.history_book.specs.declared.verdict.Class.TheVariants as class
use Rattle.history_book.specs.declared.verdict.Translated.{Translated}
use Rattle.history_book.specs.History.{after, is_legal, run}
use Rattle.history_book.specs.Laws.{EventsMayHappen, UnusedPlacesAreRoom}
use Rattle.history_book.specs.Legality.{is_open_place, is_reason, may_confirm, may_destroy, same_proto}
use Rattle.history_book.specs.Sizes.{fewest_of_full}
use Rattle.history_book.specs.Record.{has_id, has_original, has_reply, has_tuple}
use Rattle.history_book.specs.State.{Found, State, first_found, is_free, is_unused, live_under, next, original_first, record_of, winner}
use Rattle.history_book.specs.StateLaws.{AbsentTuplesAreNobodys, FreeIsAbsent}
use Rattle.nat_setup.specs.Reply.{reply_with}
use Rattle.nat_setup.specs.Translation.{AtSomePoint}
use Rattle.proto_rules.specs.declared.Part.{Part}
use Rattle.proto_rules.specs.Start.{start_of}
use Rattle.packet_path.specs.Claim.{ClaimsIfExpected}
use Rattle.packet_path.specs.Full.{FindsNoRoom}
use Rattle.packet_path.specs.Made.{Makes}
use Rattle.packet_path.specs.NoPort.{FindsNoNumber}
use Rattle.packet_path.specs.Packet.{FlowPacket}
use Rattle.packet_path.specs.Room as path
use Rattle.packet_path.specs.Room.{Dropping, MakesRoom, StaysFull, drop_by, drops_by, may_go}
use Rattle.packet_path.specs.Winner.{MeetsWinner}
use Rattle.pool_visits.specs.Visit.{LivedThroughout, is_live_and}
use Rattle.replay_runs.specs.Report.{TrackerSetup}
use Rattle.replay_laws.specs.Reaction.{Begins, Drops, HasNoRoom, HasRoom, IsFullAgain, Meets, MeetsOrEnters, Reaction, Situation, behind, claims_of, configuration_of, drop_of, entry_of}
use Rattle.replay_laws.proofs.Noted.{noted}
use Rattle.replay_laws.proofs.Entering.{IsWanted, begun_absent, begun_reply, wanted}
use Rattle.replay_laws.proofs.Passage.{one_noted, same_reaction}
use Rattle.replay_laws.proofs.Stepping.{Split, none_noted, now_at, split, step_after}

-- what holds for any part that a segment starts holds where one is started
started_some : (P : Option Part → Type 0) (o : Option Part) → IsSome o → ((part : Part) → P (Some part)) → P o
started_some P None is then = absurd (false≢true is)
started_some P (Some part) is then = then part

full_same : {from at j k : ℕ} → from ≡ j → at ≡ k → class.Full from at ≡ class.Full j k
full_same e f = cc

ports_same : {from to k : ℕ} → from ≡ k → to ≡ k → class.NoPort from to ≡ class.NoPort k k
ports_same e f = cc

clash_same : {id i at j : ℕ} (translated : Translated) → id ≡ i → at ≡ j → class.Clash id at translated ≡ class.Clash i j translated
clash_same translated e f = cc

made_same : {id i at j : ℕ} {o p : Option ℕ} (translated : Translated) → id ≡ i → at ≡ j → o ≡ p
    → class.Made id at translated o ≡ class.Made i j translated p
made_same translated e f g = cc

-- claims leave the records
claims_records : (s : State) (packet : FlowPacket) (e : Option Expectation) → (run s (claims_of packet e)).records ≡ s.records
claims_records s packet None = refl
claims_records s packet (Some e) = refl

made_events : {own ends more claims : List Event} {r q : Record} → own ≡ ends ++ more → ends ≡ claims → more ≡ Confirm r ∷ [] → r ≡ q
    → own ≡ claims ++ Confirm q ∷ []
made_events e f g h = cc

winner_none : (t u : Tuple) (s : State) → live_under t s ≡ None → live_under u s ≡ None → winner t u s ≡ None
winner_none t u s h k = ap (λ o. first_found o (live_under u s)) h ∙ k

record_same : {id i : ℕ} {place : ℕ} {t u : Tuple} {reply : Tuple} {part : Part} {helper h : Bool} {master m : Option ℕ}
    → id ≡ i → t ≡ u → helper ≡ h → master ≡ m
    → ◌≡◌ {A = Record}
    (record { id = id; place = place; original = t; reply = reply; part = part; helper = helper; master = master })
    (record { id = i; place = place; original = u; reply = reply; part = part; helper = h; master = m })
record_same a b c d = cc

made_said : {own ends more claims : List Event} {r q : Record} {id i at : ℕ} {o p : Option ℕ} (translated : Translated)
    → own ≡ ends ++ more → ends ≡ claims → more ≡ Confirm r ∷ [] → r ≡ q → id ≡ i → at ≡ id + 1 → o ≡ p
    → ◌≡◌ {A = Reaction} (record { events = own; class = class.Made id at translated o })
    (record { events = claims ++ Confirm q ∷ []; class = class.Made i (i + 1) translated p })
made_said translated e f g same named point told =
    same_reaction (made_events e f g same) (made_same translated named (point ∙ ap (λ m. m + 1) named) told)

-- ---- a drop

-- the first of these events is the drop, and the others are behind it
record DropFirst (k : ℕ) (packet : FlowPacket) (more : List Event) (d : Dropping) (others : List Note) : Type 0 where
  pub es : List Event
  pub all : more ≡ drop_of packet d.subject ∷ es
  pub number : d.number ≡ k
  pub rest : noted (k + 1) es ≡ others

drop_first : (k : ℕ) (packet : FlowPacket) (more : List Event) (d : Dropping) (others : List Note) → noted k more ≡ drop_by packet d ∷ others
    → DropFirst k packet more d others
drop_first k packet [] d others e = cc
drop_first k packet (x ∷ xs) d others e =
    let head : record { number = k; event = x } ≡ drop_by packet d = cc in
    let tail : noted (k + 1) xs ≡ others = cc in
    record { es = xs; all = ap (λ (n : Note). n.event ∷ xs) head; number = sym (ap (λ (n : Note). n.number) head); rest = tail }

-- what is in no list is in no shorter one
find_filter : (p q : Record → Bool) (rs : List Record) → find p rs ≡ None → find p (filter q rs) ≡ None
find_filter p q [] h = refl
find_filter p q (r ∷ rs) h = by_first (p r) (q r) refl h (find_filter p q rs)
  where
    by_first : (b c : Bool) → p r ≡ b → cond b (Some r) (find p rs) ≡ None → (find p rs ≡ None → find p (filter q rs) ≡ None)
        → find p (cond c (r ∷ filter q rs) (filter q rs)) ≡ None
    by_first true c e h rest = cc
    by_first false true e h rest = ap (λ b. cond b (Some r) (find p (filter q rs))) e ∙ rest h
    by_first false false e h rest = rest h

none_first : (o r : Option Record) → original_first o r ≡ None → (o ≡ None) × (r ≡ None)
none_first (Some x) r h = cc
none_first None (Some x) h = cc
none_first None None h = (refl, refl)

-- a Destroy makes nothing live
destroyed_absent : (t : Tuple) (s : State) (id : ℕ) (w : Why) → live_under t s ≡ None → live_under t (next s (Destroy id w)) ≡ None
destroyed_absent t s id w h =
    let both = none_first (find (has_original t) s.records) (find (has_reply t) s.records) h in
    ap₂ original_first (find_filter (has_original t) (λ r. not (has_id id r)) s.records both.0)
    (find_filter (has_reply t) (λ r. not (has_id id r)) s.records both.1)

some_reason : (o : Option Record) (w : Why) (r : Record) → o ≡ Some r → may_destroy o w ≡ true → is_reason w r ≡ true
some_reason o w r e h = subst (λ (x : Option Record). may_destroy x w ≡ true) e h

module _ (may : EventsMayHappen) (tracker : TrackerSetup) (log : List Event) (legal : is_legal tracker.sizes log ≡ true)
    (packet : FlowPacket) where
  -- room, and who has one of the tuples, where the packet was looked for among the expectations
  entered : (k : ℕ) (part : Part) (translated : Translated) (reply : Tuple) (unclaimed master : Option ℕ) (es : List Event) (from upto : ℕ) (r : Reaction)
      (w : IsWanted log packet k es unclaimed master from upto) (met : Option Found)
      → length (after log upto).records < tracker.sizes.entries
      → winner packet.tuple reply (after log upto) ≡ met
      → MeetsOrEnters (configuration_of tracker) (now_at log packet k) part translated reply w.expectation met r
      → HasRoom (configuration_of tracker) (now_at log packet k) part translated reply r
  entered k part translated reply unclaimed master es from upto r w met room is enters = record {
    room = subst (λ (rs : List Record). length rs < tracker.sizes.entries) w.records room;
    then = subst
        (λ o. MeetsOrEnters (configuration_of tracker) (now_at log packet k) part translated reply o
        (winner packet.tuple reply (run (after log k) (claims_of packet o))) r) (sym w.is)
        (subst (λ (o : Option Found). MeetsOrEnters (configuration_of tracker) (now_at log packet k) part translated reply w.expectation o r)
        (sym is ∙ ap (winner packet.tuple reply) w.state) enters);
  }

  -- the situation behind the drop
  behind_drop : (k : ℕ) (d : Dropping) → d.number ≡ k → slice_get log d.number ≡ Some (drop_of packet d.subject)
      → now_at log packet (k + 1) ≡ behind (now_at log packet k) (drop_of packet d.subject)
  behind_drop k d here happened =
      ap (λ (s : State). record { packet = packet; state = s; at = k + 1 })
      (step_after log k (drop_of packet d.subject) (subst (λ p. slice_get log p ≡ Some (drop_of packet d.subject)) here happened))

  dropped : (k from upto : ℕ) (more : List Event) (others : List Note) (part : Part) (translated : Translated) (reply : Tuple) (class : Class) (d : Dropping)
      (f : DropFirst k packet more d others) → k ≤ from → MakesRoom tracker.sizes log packet from d upto
      → HasRoom (configuration_of tracker) (now_at log packet (k + 1)) part translated reply (record { events = f.es; class = class })
      ⊎ IsFullAgain (configuration_of tracker) k (now_at log packet (k + 1)) (record { events = f.es; class = class })
      → Drops (configuration_of tracker) (now_at log packet k) part translated reply (record { events = more; class = class })
  dropped k from upto more others part translated reply class d f low r then =
      let here : from ≡ k = omega (arith, low, r.happened.later, f.number) in
      let live : record_of d.subject.id (after log k) ≡ Some d.subject =
      subst (λ p. record_of d.subject.id (after log p) ≡ Some d.subject) f.number r.found.fact in
      let lawful : may_destroy (record_of d.subject.id (after log k)) (why.Dropped packet.moment) ≡ true =
      may tracker.sizes log k (drop_of packet d.subject) legal
      (subst (λ p. slice_get log p ≡ Some (drop_of packet d.subject)) f.number r.happened.event) in
      record {
        full = subst (λ p. fewest_of_full tracker.sizes ≤ length (after log p).records) here r.full.fact;
        subject = d.subject;
        live = live;
        goes = some_reason _ (why.Dropped packet.moment) d.subject live lawful;
        rest = f.es;
        all = f.all;
        then = subst
            (λ (x : Situation). HasRoom (configuration_of tracker) x part translated reply (record { events = f.es; class = class })
            ⊎ IsFullAgain (configuration_of tracker) k x (record { events = f.es; class = class }))
            (behind_drop k d f.number r.happened.event) then;
      }

  -- what is so of each place that was had, with no drop before it or with one
  placed : (k from upto : ℕ) (more : List Event) (others : List Note) (part : Part) (translated : Translated) (reply : Tuple) (class : Class) → k ≤ from
      → ((j : ℕ) (es : List Event) → j ≤ upto → noted j es ≡ others → j + length es ≡ k + length more
      → HasRoom (configuration_of tracker) (now_at log packet j) part translated reply (record { events = es; class = class }) × (upto ≤ j))
      → (o : Option Dropping) → noted k more ≡ drops_by packet o ++ others → path.HasRoom tracker.sizes log packet from o upto
      → (from ≤ k)
      × (HasRoom (configuration_of tracker) (now_at log packet k) part translated reply (record { events = more; class = class })
      ⊎ HasNoRoom (configuration_of tracker) (now_at log packet k) (record { events = more; class = class })
      ⊎ Drops (configuration_of tracker) (now_at log packet k) part translated reply (record { events = more; class = class }))
  placed k from upto more others part translated reply class low enters None own room =
      let x = enters k more (omega (arith, low, room)) own refl in
      (omega (arith, room, x.1), inl x.0)
  placed k from upto more others part translated reply class low enters (Some d) own room =
      let f : DropFirst k packet more d others = drop_first k packet more d others own in
      let count : k + 1 + length f.es ≡ k + length more = omega (arith, ap length f.all) in
      let x = enters (k + 1) f.es (omega (arith, f.number, room.before)) f.rest count in
      (omega (arith, f.number, room.happened.later), inr (inr (dropped k from upto more others part translated reply class d f low room (inl x.0))))

module _ (may : EventsMayHappen) (tracker : TrackerSetup) (log : List Event) (legal : is_legal tracker.sizes log ≡ true)
    (packet : FlowPacket) (k ended : ℕ) (more : List Event) where
  -- nothing is live under the packet's tuple
  none_met : (r : Reaction) → live_under packet.tuple (after log k) ≡ None
      → Begins (configuration_of tracker) (now_at log packet k) (start_of packet.segment packet.moment) r
      → Meets (configuration_of tracker) (now_at log packet k) ended (live_under packet.tuple (after log k)) r
  none_met r absent begins = subst (λ (o : Option Found). Meets (configuration_of tracker) (now_at log packet k) ended o r) (sym absent) begins

  -- an entry that is live at the one point between two that are one
  lived_once : (from at id : ℕ) (r : Record) → from ≡ k → at ≡ k → record_of id (after log k) ≡ Some r → may_go packet r ≡ true
      → LivedThroughout log (may_go packet) from at id
  lived_once from at id r first last live goes p low high =
      let here : p ≡ k = omega (arith, low, high, first, last) in
      ap (λ q. is_live_and (may_go packet) (record_of id (after log q))) here ∙ ap (is_live_and (may_go packet)) live ∙ goes

  not_going : (b : Bool) → (b ≡ true → ⊥) → b ≡ false
  not_going true h = absurd (h refl)
  not_going false h = refl

  stays_full : (from at : ℕ) (part : Part) (translated : Translated) (reply : Tuple) → k ≤ from → at ≤ k + length more → (o : Option Dropping)
      → noted k more ≡ drops_by packet o → StaysFull tracker.sizes log packet from o at
      → (from ≤ k)
      × (HasRoom (configuration_of tracker) (now_at log packet k) part translated reply (record { events = more; class = class.Full from at })
      ⊎ HasNoRoom (configuration_of tracker) (now_at log packet k) (record { events = more; class = class.Full from at })
      ⊎ Drops (configuration_of tracker) (now_at log packet k) part translated reply (record { events = more; class = class.Full from at }))
  stays_full from at part translated reply low high None own h =
      let empty : more ≡ [] = none_noted k more own in
      let first : from ≡ k = omega (arith, low, h.order, high, ap length empty) in
      let last : at ≡ k = omega (arith, low, h.order, high, ap length empty) in (
        omega (arith, first),
        inr (inl (record {
          full = subst (λ p. fewest_of_full tracker.sizes ≤ length (after log p).records) first h.full.fact;
          none = λ id r live. not_going (may_go packet r) (λ goes. h.none id (lived_once from at id r first last live goes));
          said = same_reaction empty (full_same first last);
        })),
      )
  stays_full from at part translated reply low high (Some d) own h =
      let f : DropFirst k packet more d [] = drop_first k packet more d [] own in
      let empty : f.es ≡ [] = none_noted (k + 1) f.es f.rest in
      let first : from ≡ k = omega (arith, low, h.room.happened.later, f.number) in
      let last : at ≡ k + 1 = omega (arith, high, ap length f.all, ap length empty, h.room.before, f.number) in (
        omega (arith, first),
        inr (inr (dropped may tracker log legal packet k from at more [] part translated reply (class.Full from at) d f low h.room (inr (record {
          full = subst (λ p. fewest_of_full tracker.sizes ≤ length (after log p).records) last h.full.fact;
          said = same_reaction empty (full_same first last);
        })))),
      )

  pub full_meets : (from at : ℕ) → at ≤ k + length more
      → FindsNoRoom tracker.setup tracker.sizes log k packet (noted k more) from at
      → Meets (configuration_of tracker) (now_at log packet k) ended (live_under packet.tuple (after log k)) (record { events = more; class = class.Full from at })
  full_meets from at high h =
      let low : k ≤ from = omega (arith, h.begun.absent.from, h.begun.absent.before) in
      let le : from ≤ k = (stays_le from at low high h.dropped h.own h.stays) in
      none_met _ (begun_absent tracker.setup log k packet h.translated h.reply from h.begun le)
      (started_some (λ o. Begins (configuration_of tracker) (now_at log packet k) o (record { events = more; class = class.Full from at })) _ h.begun.starts
      (λ part. inr (record {
        translated = h.translated;
        reply = h.reply;
        has = begun_reply tracker.setup log k packet h.translated h.reply from h.begun le;
        placed = (stays_full from at part h.translated h.reply low high h.dropped h.own h.stays).1;
      })))
    where
      stays_le : (from at : ℕ) → k ≤ from → at ≤ k + length more → (o : Option Dropping)
          → noted k more ≡ drops_by packet o → StaysFull tracker.sizes log packet from o at → from ≤ k
      stays_le from at low high None own h = omega (arith, h.order, high, ap length (none_noted k more own))
      stays_le from at low high (Some d) own h = omega (arith, h.room.happened.later, (drop_first k packet more d [] own).number)

  pub no_port_meets : (from to : ℕ) → to ≤ k + length more
      → FindsNoNumber tracker.setup log k packet (noted k more) from to
      → Meets (configuration_of tracker) (now_at log packet k) ended (live_under packet.tuple (after log k)) (record { events = more; class = class.NoPort from to })
  no_port_meets from to high h =
      let empty : more ≡ [] = none_noted k more h.own in
      let le : to ≤ k = omega (arith, high, ap length empty) in
      let first : from ≡ k = omega (arith, le, h.taken.ordered, h.absent.from, h.absent.before) in
      let last : to ≡ k = omega (arith, le, h.taken.ordered, h.absent.from, h.absent.before) in
      let here : h.absent.at ≡ k = omega (arith, first, h.absent.from, h.absent.before) in
      none_met _ (subst (λ p. live_under packet.tuple (after log p) ≡ None) here h.absent.absent.fact)
      (started_some (λ o. Begins (configuration_of tracker) (now_at log packet k) o (record { events = more; class = class.NoPort from to })) _ h.starts
      (λ part. inl (record {
        rule = h.taken.rule;
        is_first = h.taken.is_first;
        taken = λ number allowed. taken_now from to first last number (h.taken.taken number allowed);
        said = same_reaction empty (ports_same first last);
      })))
    where
      taken_now : (from to : ℕ) → from ≡ k → to ≡ k → (number : ℕ)
          → AtSomePoint log from to (λ s. is_free (reply_with h.taken.rule packet.tuple number) s ≡ false)
          → is_free (reply_with h.taken.rule packet.tuple number) (after log k) ≡ false
      taken_now from to first last number x =
          let there : x.point ≡ k = omega (arith, x.low, x.high, first, last) in
          subst (λ p. is_free (reply_with h.taken.rule packet.tuple number) (after log p) ≡ false) there x.fact.fact

  pub clash_meets : (id at : ℕ) (translated : Translated) → at ≤ k + length more
      → MeetsWinner tracker.setup tracker.sizes log k packet (noted k more)
      (record { id = id; at = at; translated = translated; merged = false })
      → Meets (configuration_of tracker) (now_at log packet k) ended (live_under packet.tuple (after log k))
      (record { events = more; class = class.Clash id at translated })
  clash_meets id at translated high h =
      let low : k ≤ h.placed.found_at = omega (arith, h.placed.begun.absent.from, h.placed.begun.absent.before) in
      let le : h.placed.found_at ≤ k = started_le _ h.placed.begun.starts (λ part. (had low part).0) in
      none_met _ (begun_absent tracker.setup log k packet translated h.reply h.placed.found_at h.placed.begun le)
      (started_some (λ o. Begins (configuration_of tracker) (now_at log packet k) o (record { events = more; class = class.Clash id at translated })) _
      h.placed.begun.starts
      (λ part. inr (record {
        translated = translated;
        reply = h.reply;
        has = begun_reply tracker.setup log k packet translated h.reply h.placed.found_at h.placed.begun le;
        placed = (had low part).1;
      })))
    where
      started_le : (o : Option Part) → IsSome o → ((part : Part) → h.placed.found_at ≤ k) → h.placed.found_at ≤ k
      started_le None is then = absurd (false≢true is)
      started_le (Some part) is then = then part

      enters : (part : Part) (j : ℕ) (es : List Event) → j ≤ h.placed.placed_at → noted j es ≡ h.placed.claims ++ [] → j + length es ≡ k + length more
          → HasRoom (configuration_of tracker) (now_at log packet j) part translated h.reply (record { events = es; class = class.Clash id at translated })
          × (h.placed.placed_at ≤ j)
      enters part j es from own count =
          let claims : h.placed.claims ≡ noted j es = sym (own ∙ append-nil h.placed.claims) in
          let w : IsWanted log packet j es h.unclaimed h.master h.placed.placed_at at =
          wanted may tracker.sizes log legal packet j es h.unclaimed h.master h.placed.placed_at at from (omega (arith, high, count))
          (subst (λ (ns : List Note). ClaimsIfExpected log packet ns h.unclaimed h.master h.placed.placed_at at) claims h.placed.claimed) in (
            entered may tracker log legal packet j part translated h.reply h.unclaimed h.master es h.placed.placed_at at _ w (Some h.found) h.room.fact
                h.live.fact (same_reaction w.claims (clash_same translated (sym h.named) w.point)),
            w.first,
          )

      had : k ≤ h.placed.found_at → (part : Part)
          → (h.placed.found_at ≤ k)
          × (HasRoom (configuration_of tracker) (now_at log packet k) part translated h.reply (record { events = more; class = class.Clash id at translated })
          ⊎ HasNoRoom (configuration_of tracker) (now_at log packet k) (record { events = more; class = class.Clash id at translated })
          ⊎ Drops (configuration_of tracker) (now_at log packet k) part translated h.reply (record { events = more; class = class.Clash id at translated }))
      had low part =
          placed may tracker log legal packet k h.placed.found_at h.placed.placed_at more (h.placed.claims ++ []) part translated h.reply
          (class.Clash id at translated) low (enters part) h.placed.dropped h.placed.own h.placed.room

  -- one that is merged would have been found at its first look
  pub none_merged : AbsentTuplesAreNobodys → (id at : ℕ) (translated : Translated) → at ≤ k + length more
      → MeetsWinner tracker.setup tracker.sizes log k packet (noted k more)
      (record { id = id; at = at; translated = translated; merged = true }) → ⊥
  none_merged nobodys id at translated high h =
      by_drop (omega (arith, h.placed.begun.absent.from, h.placed.begun.absent.before)) h.placed.dropped h.placed.own h.placed.room
    where
      -- nothing is live under the packet's tuple behind what made room
      not_at : (j : ℕ) (es : List Event) → (h.placed.placed_at ≤ j → live_under packet.tuple (after log j) ≡ None) → j ≤ h.placed.placed_at
          → noted j es ≡ h.placed.claims ++ [] → j + length es ≡ k + length more → ⊥
      not_at j es nothing from own count =
          let claims : h.placed.claims ≡ noted j es = sym (own ∙ append-nil h.placed.claims) in
          let w : IsWanted log packet j es h.unclaimed h.master h.placed.placed_at at =
          wanted may tracker.sizes log legal packet j es h.unclaimed h.master h.placed.placed_at at from (omega (arith, high, count))
          (subst (λ (ns : List Note). ClaimsIfExpected log packet ns h.unclaimed h.master h.placed.placed_at at) claims h.placed.claimed) in
          let empty : es ≡ [] = none_noted j es (sym claims ∙ h.silent refl) in
          let here : at ≡ j = omega (arith, w.point, high, count, ap length empty) in
          let absent : live_under packet.tuple (after log j) ≡ None = nothing w.first in
          let met : winner packet.tuple h.reply (after log j) ≡ Some h.found =
          subst (λ p. winner packet.tuple h.reply (after log p) ≡ Some h.found) here h.live.fact in
          let live : live_under h.reply (after log j) ≡ Some h.found =
          sym (ap (λ o. first_found o (live_under h.reply (after log j))) absent) ∙ met in
          let not : has_tuple packet.tuple h.found.subject ≡ false = nobodys packet.tuple h.reply (after log j) h.found absent live in
          let both = and_parts _ (has_reply h.reply h.found.subject) h.merge in
          let has : has_original packet.tuple h.found.subject ≡ true =
          (and_parts (same_proto packet.tuple.proto proto.Udp) (has_original packet.tuple h.found.subject) both.0).1 in
          true≢false (sym (or_left _ (has_reply packet.tuple h.found.subject) has) ∙ not)

      by_drop : k ≤ h.placed.found_at → (o : Option Dropping) → noted k more ≡ drops_by packet o ++ (h.placed.claims ++ [])
          → path.HasRoom tracker.sizes log packet h.placed.found_at o h.placed.placed_at → ⊥
      by_drop low None own room =
          not_at k more
          (λ first. begun_absent tracker.setup log k packet translated h.reply h.placed.found_at h.placed.begun (omega (arith, room, first)))
          (omega (arith, low, room)) own refl
      by_drop low (Some d) own room =
          let f : DropFirst k packet more d (h.placed.claims ++ []) = drop_first k packet more d (h.placed.claims ++ []) own in
          let le : h.placed.found_at ≤ k = omega (arith, f.number, room.happened.later) in
          let absent : live_under packet.tuple (after log k) ≡ None =
          begun_absent tracker.setup log k packet translated h.reply h.placed.found_at h.placed.begun le in
          let gone : live_under packet.tuple (after log (k + 1)) ≡ None =
          ap (λ (s : State). live_under packet.tuple s)
          (step_after log k (drop_of packet d.subject) (subst (λ p. slice_get log p ≡ Some (drop_of packet d.subject)) f.number room.happened.event))
          ∙ destroyed_absent packet.tuple (after log k) d.subject.id (why.Dropped packet.moment) absent in
          not_at (k + 1) f.es (λ first. gone) (omega (arith, f.number, room.before)) f.rest (omega (arith, ap length f.all))

  pub made_meets : FreeIsAbsent → UnusedPlacesAreRoom → (id at : ℕ) (translated : Translated) (unclaimed : Option ℕ)
      → Makes tracker.setup tracker.sizes log k packet (noted k more)
      (record { id = id; at = at; translated = translated; unclaimed = unclaimed })
      → Meets (configuration_of tracker) (now_at log packet k) ended (live_under packet.tuple (after log k))
      (record { events = more; class = class.Made id at translated unclaimed })
  made_meets free room id at translated unclaimed h =
      let subject : Record = h.subject in
      let low : k ≤ h.placed.found_at = omega (arith, h.placed.begun.absent.from, h.placed.begun.absent.before) in
      let had = placed may tracker log legal packet k h.placed.found_at h.placed.placed_at more
      (h.placed.claims ++ record { number = id; event = Confirm h.subject } ∷ []) subject.part translated subject.reply
      (class.Made id at translated unclaimed) low enters h.placed.dropped h.placed.own h.placed.room in
      none_met _ (begun_absent tracker.setup log k packet translated subject.reply h.placed.found_at h.placed.begun had.0)
      (subst (λ (o : Option Part). Begins (configuration_of tracker) (now_at log packet k) o (record { events = more; class = class.Made id at translated unclaimed }))
      (sym h.started.part)
      (inr (record {
        translated = translated;
        reply = subject.reply;
        has = begun_reply tracker.setup log k packet translated subject.reply h.placed.found_at h.placed.begun had.0;
        placed = had.1;
      })))
    where
      enters : (j : ℕ) (es : List Event) → j ≤ h.placed.placed_at
          → noted j es ≡ h.placed.claims ++ record { number = id; event = Confirm h.subject } ∷ [] → j + length es ≡ k + length more
          → HasRoom (configuration_of tracker) (now_at log packet j) h.subject.part translated h.subject.reply
          (record { events = es; class = class.Made id at translated unclaimed })
          × (h.placed.placed_at ≤ j)
      enters j es from own count =
          let subject : Record = h.subject in
          let note : Note = record { number = id; event = Confirm subject } in
          let s : Split j es h.placed.claims (note ∷ []) = split j es h.placed.claims (note ∷ []) own in
          let one = one_noted (j + length s.ends) s.more note (sym s.second) in
          let high : id ≤ j + length s.ends = omega (arith, one.1) in
          let w : IsWanted log packet j s.ends unclaimed subject.master h.placed.placed_at id =
          wanted may tracker.sizes log legal packet j s.ends unclaimed subject.master h.placed.placed_at id from high
          (subst (λ (ns : List Note). ClaimsIfExpected log packet ns unclaimed subject.master h.placed.placed_at id) s.first h.placed.claimed) in
          let legal_here : may_confirm tracker.sizes (after log id) id subject ≡ true =
          may tracker.sizes log id (Confirm subject) legal h.happened.event in
          let test_reply = and_parts _ (is_free subject.reply (after log id)) legal_here in
          let test_original = and_parts _ (is_free subject.original (after log id)) test_reply.0 in
          let test_place = and_parts _ (is_open_place tracker.sizes subject.place (after log id)) test_original.0 in
          let place = and_parts (nat_lt subject.place tracker.sizes.entries) (is_unused subject.place (after log id)) test_place.1 in
          let has_room : length (after log id).records < tracker.sizes.entries =
          room tracker.sizes log id subject.place legal (ltb-true _ _ place.0) place.1 in
          let nobody : winner packet.tuple subject.reply (after log id) ≡ None =
          winner_none packet.tuple subject.reply (after log id)
          (subst (λ (t : Tuple). live_under t (after log id) ≡ None) h.started.original
          ((free subject.original (after log id)).1 test_original.1))
          ((free subject.reply (after log id)).1 test_reply.1) in
          let same : subject ≡ entry_of (configuration_of tracker) (now_at log packet j) subject.part subject.reply w.expectation subject.place =
          record_same (h.named ∙ w.point) h.started.original h.started.helper w.owner in (
            entered may tracker log legal packet j subject.part translated subject.reply unclaimed subject.master s.ends h.placed.placed_at id _ w None has_room
                nobody (subject.place, made_said translated s.all w.claims one.0 same w.point h.point w.told),
            w.first,
          )
