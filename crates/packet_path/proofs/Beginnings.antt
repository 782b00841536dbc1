-- What is said of a packet that would begin a flow.
use Rattle.std.proofs.Common.{◌≡◌, ℕ, ◌+◌, ◌<◌, ◌≤◌, Bool, true, false, cond, List, [], ◌∷◌, ◌++◌, length, Option, Some, None, refl, sym, ap, subst, ◌∙◌, ◌⊎◌, inl, inr, ⊎_elim, arith, length-append}
use Rattle.std.specs.List.{All, AllByRecursion}
use Rattle.std.proofs.lemmas.List.{append-nil}
use Rattle.std.proofs.lemmas.List.Elements.{recursion_from_All}
use Rattle.std.specs.Prelude.{◌&&◌, IsSome, option_to_list}
use Rattle.std.proofs.lemmas.Bool.{and_parts, eqb-true, true≢false}
use Rattle.std.proofs.Math.Bool.{and_assoc}
use Rattle.tuple_core.specs.declared.Direction.{Direction}
use Rattle.tuple_core.specs.declared.Proto.TheVariants as proto
use Rattle.tuple_core.specs.declared.Tuple.{Tuple}
use Rattle.proto_rules.specs.declared.Part.{Part}
use Rattle.proto_rules.specs.Start.{start_of}
use Rattle.history_book.specs.declared.event.Event.TheVariants.{Confirm}
use Rattle.history_book.specs.declared.desk.Hold.{Hold}
use Rattle.history_book.specs.declared.event.Note.{Note}
use Rattle.history_book.specs.declared.outcome.ClaimOutcome.{ClaimOutcome}
use Rattle.history_book.specs.declared.outcome.TakeOutcome.TheVariants as take
use Rattle.history_book.specs.declared.record.Flow.{Flow}
use Rattle.history_book.specs.declared.record.Record.{Record}
use Rattle.history_book.specs.declared.verdict.Class.{Class}
use Rattle.tuple_core.specs.Tuple.{number_of}
use Rattle.history_book.specs.declared.verdict.Class.TheVariants as class
use Rattle.history_book.specs.declared.verdict.Translated.{Translated}
use Rattle.history_book.specs.declared.verdict.Translated.TheVariants.{Plain, Chosen}
use Rattle.history_book.specs.declared.event.Event.{Event}
use Rattle.history_book.specs.declared.sizes.Sizes.{Sizes}
use Rattle.nat_setup.specs.declared.rule.Rule.{Rule}
use Rattle.nat_setup.specs.declared.translate.TranslateOutcome.TheVariants as translate
use Rattle.nat_setup.specs.Rule.{rule_for}
use Rattle.nat_setup.specs.Translation.{TranslateSays, WasTranslated}
use Rattle.packet_path.specs.declared.begin.NewReply.{NewReply}
use Rattle.packet_path.specs.declared.setup.Setup.{Setup}
use Rattle.packet_path.specs.Begun.{WouldBegin}
use Rattle.packet_path.specs.Made.{is_helped}
use Rattle.packet_path.specs.Packet.{Given}
use Rattle.history_book.specs.Mark.{points_of, translated_points}
use Rattle.packet_path.specs.Verdict.{AnswersFlow, FitsFrame}
use Rattle.history_book.specs.Desk.{Confirms, FindsFull, IsClash, IsWinner, SamePlaces}
use Rattle.history_book.specs.WentOn.{Looked, MadeEvent, Saw, WentOn}
use Rattle.history_book.specs.Entry.{record_for}
use Rattle.history_book.specs.History.{after, is_legal}
use Rattle.history_book.specs.Laws.{EventsStay, LateEntriesAreNew, StatesStay, UnusedPlacesAreRoom}
use Rattle.history_book.specs.Legality.{same_proto}
use Rattle.history_book.specs.Mark.{mark_past}
use Rattle.history_book.specs.Places.{HoldsNothing, HoldsOne}
use Rattle.history_book.specs.Point.{At, StartsWith}
use Rattle.history_book.specs.Record.{has_original, has_reply, has_tuple}
use Rattle.history_book.specs.Sight.{IsHoldOf, IsKnown, Sight}
use Rattle.history_book.specs.SightLaws.{GoingOnAddsUp, RestingIsSeeing}
use Rattle.history_book.specs.State.{Found, State, first_found, live_under, winner}
use Rattle.history_book.specs.StateLaws.{AbsentTuplesAreNobodys, FreeIsAbsent}
use Rattle.packet_path.specs.Packet.{FlowPacket}
use Rattle.packet_path.specs.Internal.Attempt.{Answers, HadPlace, IsFoundFor, claimed_master, unclaimed_at}
use Rattle.history_book.specs.declared.answer.Row.{Row}
use Rattle.history_book.specs.declared.event.Why.TheVariants.{Dropped}
use Rattle.history_book.specs.Sizes.{fewest_of_full}
use Rattle.packet_path.specs.Internal.Scan.{DropsNone, DropsOne, RoomSays}
use Rattle.packet_path.specs.Room.{Dropping, IsFullAt, MakesRoom, drop_by, drops_by}
use Rattle.packet_path.specs.Winner.{IsNewWinner, MeetsWinner}
use Rattle.packet_path.proofs.Claims.{LookedFor}
use Rattle.packet_path.proofs.Growth.{at_grows, claims_grows, room_grows, translated_grows}
use Rattle.packet_path.proofs.Attempts.{absent_upto, flow_answer, placed_went, points_more, silent, silent_answer, starts_longer, starts_refl}

-- the flow that a packet begins
abbrev pub flow_of : FlowPacket → Part → Tuple → Bool → Option ℕ → Flow
flow_of packet part reply helper master =
    record { original = packet.tuple; reply = reply; part = part; helper = helper; master = master }

-- nothing was live under the packet's tuple at this point, and the reply tuple was found from there on, up to a point at which the
-- table was full
pub record IsFoundBefore (setup : Setup) (packet : FlowPacket) (s : Sight) (absent_at full_at : ℕ) (found : NewReply) : Type 0 where
  order : absent_at ≤ full_at
  absent : At s.front absent_at (λ x. live_under packet.tuple x ≡ None)
  translation : WasTranslated s.front (rule_for setup.rules.items packet.tuple) packet.tuple absent_at full_at found.translated found.reply
  full : IsFullAt s.sizes s.front full_at

-- the drop of a row
abbrev pub dropping : Row → Dropping
dropping row = record { number = row.at; subject = row.subject }

-- a packet drops one entry at most
drops_few : (packet : FlowPacket) (d : Option Dropping) → length (drops_by packet d) ≤ 1
drops_few packet None = omega arith
drops_few packet (Some d) = omega arith

-- points that may be none, and others
both_points : (m : ℕ) (o : Option ℕ) (ps : List ℕ) → AllByRecursion (λ p. p ≤ m) (option_to_list o) → AllByRecursion (λ p. p ≤ m) ps
    → AllByRecursion (λ p. p ≤ m) (option_to_list o ++ ps)
both_points m None ps h hs = hs
both_points m (Some p) ps (h, rest) hs = (h, hs)

-- a reply tuple that was found up to a point was so up to each later one
found_later : (log : List Event) (rule : Option Rule) (t : Tuple) (from upto later : ℕ) (translated : Translated) (reply : Tuple)
    → upto ≤ later → WasTranslated log rule t from upto translated reply → WasTranslated log rule t from later translated reply
found_later log None t from upto later Plain reply le h = h
found_later log None t from upto later (Chosen chosen taken_at) reply le h = h
found_later log (Some rule) t from upto later Plain reply le h = h
found_later log (Some rule) t from upto later (Chosen chosen taken_at) reply le h = (
  h.0,
  record {
    lawful = h.1.lawful;
    tried = h.1.tried;
    free = record { point = h.1.free.point; low = h.1.free.low; high = omega (arith, h.1.free.high, le); fact = h.1.free.fact };
  },
)

-- and from each earlier one on
found_earlier : (log : List Event) (rule : Option Rule) (t : Tuple) (lower from upto : ℕ) (translated : Translated) (reply : Tuple)
    → lower ≤ from → WasTranslated log rule t from upto translated reply → WasTranslated log rule t lower upto translated reply
found_earlier log None t lower from upto Plain reply le h = h
found_earlier log None t lower from upto (Chosen chosen taken_at) reply le h = h
found_earlier log (Some rule) t lower from upto Plain reply le h = h
found_earlier log (Some rule) t lower from upto (Chosen chosen None) reply le h = (
  h.0,
  record {
    lawful = h.1.lawful;
    tried = omega arith;
    free = record { point = h.1.free.point; low = omega (arith, h.1.free.low, le); high = h.1.free.high; fact = h.1.free.fact };
  },
)
found_earlier log (Some rule) t lower from upto (Chosen chosen (Some p)) reply le h = (
  h.0,
  record { lawful = h.1.lawful; tried = omega (arith, h.1.tried, le); free = h.1.free },
)

-- the point that a translation names is no later than the last
found_points : (log : List Event) (rule : Option Rule) (t : Tuple) (from upto : ℕ) (translated : Translated) (reply : Tuple)
    → WasTranslated log rule t from upto translated reply → AllByRecursion (λ p. p ≤ upto) (translated_points translated)
found_points log None t from upto Plain reply h = tt
found_points log None t from upto (Chosen chosen taken_at) reply h = absurd h
found_points log (Some rule) t from upto Plain reply h = absurd h
found_points log (Some rule) t from upto (Chosen chosen None) reply h = tt
found_points log (Some rule) t from upto (Chosen chosen (Some p)) reply h = (omega (arith, h.1.free.low, h.1.free.high), tt)

-- a place that is held for no entry is one of the pool
place_below : (s : Sight) (place : ℕ) → IsKnown s → HoldsOne (record { place = place; id = None }) s → place < s.sizes.entries
place_below s place known one =
    let hold : Hold = record { place = place; id = None } in
    (recursion_from_All (IsHoldOf s) (hold ∷ []) (subst (All (IsHoldOf s)) one.held known.held)).0.0

-- where a flow met a winner, a place was had for it, so not all places are those of live entries
pub had_place : UnusedPlacesAreRoom → (old mid new : Sight) (flow : Flow) (place id at : ℕ) (d : Direction) (both : Bool) → IsKnown new
    → HoldsOne (record { place = place; id = None }) old → SamePlaces old mid → SamePlaces mid new
    → Looked mid new at (IsClash place flow id d both) → At new.front at (λ s. length s.records < new.sizes.entries)
had_place room old mid new flow place id at d both known one same then looked = record {
  within = looked.fact.within;
  fact = room new.sizes new.front at place known.legal
      (place_below new place known (record { held = then.held ∙ same.held ∙ one.held; owed = then.owed ∙ same.owed ∙ one.owed }))
      looked.fact.fact.unused;
}

-- of a clash the winner alone
pub winner_looked : (mid new : Sight) (flow : Flow) (place id at : ℕ) (d : Direction) (both : Bool)
    → Looked mid new at (IsClash place flow id d both) → Looked mid new at (IsWinner flow id d both)
winner_looked mid new flow place id at d both looked = record {
  saw = looked.saw;
  low = looked.low;
  fact = record { within = looked.fact.within; fact = looked.fact.fact.winner };
}

module _ (states : StatesStay) (events : EventsStay) where
  pub no_entry : RestingIsSeeing → (setup : Setup) (s : Sight) (packet : FlowPacket) (n at : ℕ) → n ≤ 4
      → At s.front at (λ x. live_under packet.tuple x ≡ None)
      → start_of packet.segment packet.moment ≡ None → Answers setup s s packet n at (class.NoEntry at)
  no_entry resting setup s packet n at few absent none =
      silent states events setup s s packet n at at (class.NoEntry at) (resting s) absent.within refl
      (λ given mark kills flow count killed le.
      flow_answer states events s.front s.front (starts_refl s.front) mark given packet kills [] _ flow (omega (arith, count)) killed
      (record { own = refl; from = le; absent = absent; starts = none }))

  -- no number of the rule was free
  pub no_port : (setup : Setup) (old new : Sight) (packet : FlowPacket) (n absent_at from to : ℕ) → n ≤ 4
      → At old.front absent_at (λ x. live_under packet.tuple x ≡ None) → IsSome (start_of packet.segment packet.moment)
      → Saw old new → TranslateSays (rule_for setup.rules.items packet.tuple) packet.tuple old new (translate.NoPort from to)
      → Answers setup old new packet n absent_at (class.NoPort from to)
  no_port setup old new packet n absent_at from to few absent starts saw (low, had) =
      silent_answer states events setup old new packet n absent_at (class.NoPort from to) saw
      (omega (arith, had.ordered, had.within), (had.within, tt))
      (λ given mark kills flow count killed le.
      flow_answer states events new.front old.front saw.went.front mark given packet kills [] _ flow (omega (arith, count)) killed
      (record {
        own = refl;
        starts = starts;
        absent = absent_upto states events new.front old.front (mark_past mark kills) absent_at from packet.tuple saw.went.front le
            (omega (arith, absent.within, low)) absent;
        taken = had;
      }))

  -- from each mark up to the point at which nothing was live under its tuple, the packet would begin a flow
  would_begin : (setup : Setup) (longer log : List Event) (packet : FlowPacket) (k absent_at upto : ℕ) (translated : Translated) (reply : Tuple)
      → StartsWith longer log → k ≤ absent_at → absent_at ≤ upto → IsSome (start_of packet.segment packet.moment)
      → At log absent_at (λ x. live_under packet.tuple x ≡ None)
      → WasTranslated log (rule_for setup.rules.items packet.tuple) packet.tuple absent_at upto translated reply
      → WouldBegin setup longer k packet translated reply upto
  unfolding absent_upto
  would_begin setup longer log packet k absent_at upto translated reply starts low order begins absent was = record {
    starts = begins;
    absent = absent_upto states events longer log k absent_at upto packet.tuple starts low order absent;
    found = translated_grows events states longer log starts (rule_for setup.rules.items packet.tuple) packet.tuple absent_at upto translated reply was;
  }

  -- what was found for the packet's flow stays so when more is seen
  pub still_found : (setup : Setup) (packet : FlowPacket) (log longer : List Event) (absent_at : ℕ) (found : NewReply)
      → StartsWith longer log → IsFoundFor setup packet log absent_at found → IsFoundFor setup packet longer absent_at found
  still_found setup packet log longer absent_at found starts is = record {
    absent = at_grows states longer log absent_at (λ x. live_under packet.tuple x ≡ None) starts is.absent;
    translation = found_later longer (rule_for setup.rules.items packet.tuple) packet.tuple absent_at (length log) (length longer) found.translated
        found.reply (starts_longer longer log starts)
        (translated_grows events states longer log starts (rule_for setup.rules.items packet.tuple) packet.tuple absent_at (length log)
        found.translated found.reply is.translation);
  }

  -- the reply tuple that was found for the flow after nothing was live under its tuple
  pub reply_found : (setup : Setup) (packet : FlowPacket) (old new : Sight) (absent_at : ℕ) (reply : Tuple) (translated : Translated)
      → At old.front absent_at (λ x. live_under packet.tuple x ≡ None) → Saw old new
      → WasTranslated new.front (rule_for setup.rules.items packet.tuple) packet.tuple (length old.front) (length new.front) translated reply
      → IsFoundFor setup packet new.front absent_at (record { reply = reply; translated = translated })
  reply_found setup packet old new absent_at reply translated absent saw was = record {
    absent = at_grows states new.front old.front absent_at (λ x. live_under packet.tuple x ≡ None) saw.went.front absent;
    translation = found_earlier new.front (rule_for setup.rules.items packet.tuple) packet.tuple absent_at (length old.front) (length new.front)
        translated reply absent.within was;
  }

  -- what was found for the flow was so before the table was full
  pub found_before : (setup : Setup) (old new : Sight) (packet : FlowPacket) (found : NewReply) (absent_at at : ℕ) → HoldsNothing old
      → IsFoundFor setup packet old.front absent_at found → FindsFull old new at → IsFoundBefore setup packet new absent_at at found
  found_before setup old new packet found absent_at at empty is finds =
      let starts : StartsWith new.front old.front = finds.looked.saw.went.front in
      let rule = rule_for setup.rules.items packet.tuple in
      record {
        order = omega (arith, is.absent.within, finds.looked.low);
        absent = at_grows states new.front old.front absent_at (λ x. live_under packet.tuple x ≡ None) starts is.absent;
        translation = found_later new.front rule packet.tuple absent_at (length old.front) at found.translated found.reply finds.looked.low
            (translated_grows events states new.front old.front starts rule packet.tuple absent_at (length old.front) found.translated found.reply
            is.translation);
        full = full_at old new at empty finds;
      }
    where
      full_at : (old new : Sight) (at : ℕ) → HoldsNothing old → FindsFull old new at → IsFullAt new.sizes new.front at
      full_at old new at empty finds = record {
        within = finds.looked.fact.within;
        fact = subst (λ (z : Sizes). fewest_of_full z ≤ length (after new.front at).records) (sym finds.looked.saw.went.pass.sizes)
            (omega (arith, finds.looked.fact.fact, ap length empty.held, ap length empty.owed));
      }

  -- the table was full, and no entry that could go was live throughout the scan
  full_none : (setup : Setup) (old new : Sight) (packet : FlowPacket) (found : NewReply) (n absent_at full_at at : ℕ) → n ≤ 4
      → IsFoundBefore setup packet old absent_at full_at found → IsSome (start_of packet.segment packet.moment)
      → DropsNone (Dropped packet.moment) full_at old new at → Answers setup old new packet n absent_at (class.Full full_at at)
  full_none setup old new packet found n absent_at full_at at few is starts none =
      let front : StartsWith new.front old.front = none.saw.went.front in
      silent_answer states events setup old new packet n absent_at (class.Full full_at at) none.saw
      (omega (arith, none.low, none.within), (none.within, tt))
      (λ given mark kills flow count killed le.
      flow_answer states events new.front old.front front mark given packet kills [] _ flow (omega (arith, count)) killed
      (record {
        dropped = None;
        own = refl;
        translated = found.translated;
        reply = found.reply;
        begun = would_begin setup new.front old.front packet (mark_past mark kills) absent_at full_at found.translated found.reply front le is.order starts
            is.absent is.translation;
        stays = record {
          full = at_grows states new.front old.front full_at _ front is.full;
          order = none.low;
          within = none.within;
          none = none.none;
        };
      }))

  -- the drop of a scan made room, before a point of a later front
  drop_makes_room : (old mid new : Sight) (packet : FlowPacket) (full_at upto : ℕ) (row : Row) → IsFullAt old.sizes old.front full_at
      → DropsOne (Dropped packet.moment) full_at old mid row → StartsWith new.front mid.front → length mid.front ≤ upto
      → MakesRoom old.sizes new.front packet full_at (dropping row) upto
  drop_makes_room old mid new packet full_at upto row full one starts high =
      room_grows events states new.front mid.front starts old.sizes packet full_at (Some (dropping row)) upto (record {
        full = at_grows states mid.front old.front full_at _ one.made.went.front full;
        happened = record { event = one.made.happened; later = omega (arith, full.within, one.made.low) };
        before = omega (arith, one.made.high, high);
        found = one.found;
        first = one.first;
      })

  -- a drop, and the table was full again
  full_again : GoingOnAddsUp → (setup : Setup) (old mid new : Sight) (packet : FlowPacket) (found : NewReply) (n absent_at full_at at : ℕ) (row : Row)
      → n ≤ 4 → HoldsNothing mid → IsFoundBefore setup packet old absent_at full_at found → IsSome (start_of packet.segment packet.moment)
      → DropsOne (Dropped packet.moment) full_at old mid row → FindsFull mid new at
      → Answers setup old new packet n absent_at (class.Full full_at at)
  full_again going setup old mid new packet found n absent_at full_at at row few empty is starts one finds =
      let went : WentOn old new (drop_by packet (dropping row) ∷ []) = going.before old mid new _ one.made.went finds.looked.saw in
      let front : StartsWith new.front old.front = went.front in
      record {
        rest = drop_by packet (dropping row) ∷ [];
        went = went;
        few = omega arith;
        points = (
          omega (arith, is.full.within, starts_longer new.front old.front front),
          (finds.looked.fact.within, tt),
        );
        fits = λ given mark kills flow count killed le.
            flow_answer states events new.front old.front front mark given packet kills _ _ flow (omega (arith, count)) killed
            (record {
              dropped = Some (dropping row);
              own = refl;
              translated = found.translated;
              reply = found.reply;
              begun = would_begin setup new.front old.front packet (mark_past mark kills) absent_at full_at found.translated found.reply front le is.order
                  starts is.absent is.translation;
              stays = record {
                room = drop_makes_room old mid new packet full_at at row is.full one finds.looked.saw.went.front finds.looked.low;
                full = record {
                  within = finds.looked.fact.within;
                  fact = subst (λ (z : Sizes). fewest_of_full z ≤ length (after new.front at).records) one.made.went.pass.sizes
                      (omega (arith, finds.looked.fact.fact, ap length empty.held, ap length empty.owed));
                };
              };
            });
      }

  -- no place was had: no entry was dropped, or one and the table was full again
  pub no_room : GoingOnAddsUp → (setup : Setup) (old new : Sight) (packet : FlowPacket) (found : NewReply) (n absent_at full_at at : ℕ) → n ≤ 4
      → IsFoundBefore setup packet old absent_at full_at found → IsSome (start_of packet.segment packet.moment)
      → RoomSays (Dropped packet.moment) full_at old new (take.Full at) → Answers setup old new packet n absent_at (class.Full full_at at)
  no_room going setup old new packet found n absent_at full_at at few is starts (inl none) =
      full_none setup old new packet found n absent_at full_at at few is starts none
  no_room going setup old new packet found n absent_at full_at at few is starts (inr vain) =
      full_again going setup old vain.mid new packet found n absent_at full_at at vain.row few vain.empty is starts vain.one vain.finds

  -- a free place was had
  pub had_free : (setup : Setup) (old now : Sight) (packet : FlowPacket) (found : NewReply) (absent_at : ℕ) → WentOn old now []
      → IsFoundFor setup packet old.front absent_at found → HadPlace setup packet old now absent_at found
  had_free setup old now packet found absent_at went is =
      let starts : StartsWith now.front old.front = went.front in
      let rule = rule_for setup.rules.items packet.tuple in
      record {
        dropped = None;
        went = went;
        found_at = length old.front;
        order = is.absent.within;
        within = starts_longer now.front old.front starts;
        absent = at_grows states now.front old.front absent_at (λ x. live_under packet.tuple x ≡ None) starts is.absent;
        translation = translated_grows events states now.front old.front starts rule packet.tuple absent_at (length old.front) found.translated found.reply
            is.translation;
        room = starts_longer now.front old.front starts;
      }

  -- a place was had after a drop
  pub had_dropped : GoingOnAddsUp → (setup : Setup) (old now : Sight) (packet : FlowPacket) (found : NewReply) (absent_at full_at place : ℕ)
      → IsFoundBefore setup packet old absent_at full_at found → RoomSays (Dropped packet.moment) full_at old now (take.Taken place)
      → HadPlace setup packet old now absent_at found
  had_dropped going setup old now packet found absent_at full_at place is room =
      let one = room.one in
      let then : WentOn room.mid now [] = placed_went room.mid now place room.takes in
      let went : WentOn old now (drop_by packet (dropping room.row) ∷ []) = going.twice old room.mid now _ [] one.made.went then in
      let starts : StartsWith now.front old.front = went.front in
      let rule = rule_for setup.rules.items packet.tuple in
      record {
        dropped = Some (dropping room.row);
        went = went;
        found_at = full_at;
        order = is.order;
        within = omega (arith, is.full.within, starts_longer now.front old.front starts);
        absent = at_grows states now.front old.front absent_at (λ x. live_under packet.tuple x ≡ None) starts is.absent;
        translation = translated_grows events states now.front old.front starts rule packet.tuple absent_at full_at found.translated found.reply
            is.translation;
        room = drop_makes_room old room.mid now packet full_at (length now.front) room.row is.full one then.front
            (starts_longer now.front room.mid.front then.front);
      }

  -- a packet confirmed the entry of its flow, after a place was had and it was looked for among the expectations
  pub made_answer : GoingOnAddsUp → (setup : Setup) (first old mid new : Sight) (packet : FlowPacket) (part : Part) (found : NewReply) (n absent_at place id : ℕ)
      (answer : ClaimOutcome) → n ≤ 4 → start_of packet.segment packet.moment ≡ Some part
      → HadPlace setup packet first old absent_at found → LookedFor packet old mid answer
      → Confirms place (flow_of packet part found.reply (is_helped setup found.reply) (claimed_master answer)) mid new id
      → Answers setup first new packet n absent_at (class.Made id (id + 1) found.translated (unclaimed_at answer))
  made_answer going setup first old mid new packet part found n absent_at place id answer few starts had looked confirms =
      let subject : Record =
      record_for (flow_of packet part found.reply (is_helped setup found.reply) (claimed_master answer)) id place in
      let note : Note = record { number = id; event = Confirm subject } in
      let made : MadeEvent mid new id (Confirm subject) = confirms.made in
      let then : WentOn old new (looked.claims ++ note ∷ []) = going.twice old mid new looked.claims (note ∷ []) looked.went made.went in
      let went : WentOn first new (drops_by packet had.dropped ++ (looked.claims ++ note ∷ [])) =
      going.twice first old new (drops_by packet had.dropped) (looked.claims ++ note ∷ []) had.went then in
      let longer : length old.front ≤ length mid.front = starts_longer mid.front old.front looked.went.front in
      record {
        rest = drops_by packet had.dropped ++ (looked.claims ++ note ∷ []);
        went = went;
        few = omega (
          arith,
          length-append (drops_by packet had.dropped) (looked.claims ++ note ∷ []),
          drops_few packet had.dropped,
          length-append looked.claims (note ∷ []),
          looked.few,
        );
        points = (
          omega (arith, made.high),
          both_points (length new.front) (unclaimed_at answer) (translated_points found.translated)
              (points_more (length mid.front) (length new.front) (option_to_list (unclaimed_at answer))
              (starts_longer new.front mid.front made.went.front) looked.points)
              (points_more had.found_at (length new.front) (translated_points found.translated)
              (omega (arith, had.within, longer, made.low, made.high))
              (found_points old.front (rule_for setup.rules.items packet.tuple) packet.tuple absent_at had.found_at found.translated found.reply
              had.translation)),
        );
        fits = λ given mark kills flows count killed le.
            flow_answer states events new.front first.front went.front mark given packet kills _ _ flows (omega (arith, count)) killed
            (record {
              subject = subject;
              happened = record { event = made.happened; later = omega (arith, le, had.absent.within, longer, made.low) };
              named = refl;
              started = record { original = refl; part = starts; helper = refl };
              placed = record {
                dropped = had.dropped;
                claims = looked.claims;
                own = refl;
                found_at = had.found_at;
                begun = would_begin setup new.front old.front packet (mark_past mark kills) absent_at had.found_at found.translated found.reply then.front
                    le had.order (subst (λ (o : Option Part). IsSome o) (sym starts) refl) had.absent had.translation;
                placed_at = length old.front;
                room = room_grows events states new.front old.front then.front first.sizes packet had.found_at had.dropped (length old.front) had.room;
                claimed = claims_grows events states new.front mid.front made.went.front packet looked.claims (unclaimed_at answer)
                    (claimed_master answer) (length old.front) id (looked.expected (length old.front) id (omega arith) made.low);
              };
              point = refl;
            });
      }

  -- what was found by the packet's own tuple is found first
  by_own : (t u : Tuple) (s : State) (o : Option Found) (found : Found) → live_under t s ≡ o → first_found o (live_under u s) ≡ Some found
      → AbsentTuplesAreNobodys → has_tuple t found.subject ≡ true → live_under t s ≡ Some found
  by_own t u s (Some f) found is wins nobodys has = is ∙ wins
  by_own t u s None found is wins nobodys has =
      absurd (true≢false (sym has ∙ nobodys t u s found is wins))

  -- what is found is live under the one tuple or the other
  by_either : (t u : Tuple) (s : State) (o : Option Found) (found : Found) → live_under t s ≡ o → first_found o (live_under u s) ≡ Some found
      → (live_under t s ≡ Some found) ⊎ live_under u s ≡ Some found
  by_either t u s (Some f) found is wins = inl (is ∙ wins)
  by_either t u s None found is wins = inr wins

  -- the winner is newer than the point at which the packet's tuple was absent, where the rules of a verdict ask for it
  new_winner : AbsentTuplesAreNobodys → FreeIsAbsent → LateEntriesAreNew → (sizes : Sizes) (log : List Event) (rule : Option Rule) (translated : Translated)
      (t u : Tuple) (absent_at upto at : ℕ) (found : Found) → is_legal sizes log ≡ true → absent_at ≤ at → upto ≤ at
      → live_under t (after log absent_at) ≡ None → winner t u (after log at) ≡ Some found
      → WasTranslated log rule t absent_at upto translated u → IsNewWinner absent_at translated t found.subject
  new_winner nobodys is_free late sizes log rule Plain t u absent_at upto at found legal order before absent wins is = λ has.
      late sizes log absent_at at t found legal order absent
      (by_own t u (after log at) (live_under t (after log at)) found refl wins nobodys has)
  new_winner nobodys is_free late sizes log None (Chosen chosen taken_at) t u absent_at upto at found legal order before absent wins is = absurd is
  new_winner nobodys is_free late sizes log (Some rule) (Chosen chosen taken_at) t u absent_at upto at found legal order before absent wins is =
      ⊎_elim (λ own. late sizes log absent_at at t found legal order absent own)
      (λ other.
      let free = is.1.free in
      let newer : free.point ≤ found.subject.id = late sizes log free.point at u found legal (omega (arith, free.high, before))
      (subst (λ (x : Tuple). live_under x (after log free.point) ≡ None) (sym is.0) ((is_free chosen (after log free.point)).1 free.fact.fact)) other in
      omega (arith, newer, free.low, is.1.tried))
      (by_either t u (after log at) (live_under t (after log at)) found refl wins)

  older : (m n : ℕ) (translated : Translated) (t : Tuple) (found : Found) → m ≤ n → IsNewWinner n translated t found.subject
      → IsNewWinner m translated t found.subject
  older m n Plain t found le h = λ has. omega (arith, le, h has)
  older m n (Chosen chosen taken_at) t found le h = omega (arith, le, h)

  -- a packet that was expected is of TCP, and is not merged
  not_merged : (packet : FlowPacket) (both : Bool) (claims : List Note) → (claims ≡ []) ⊎ (same_proto packet.tuple.proto proto.Tcp ≡ true)
      → (same_proto packet.tuple.proto proto.Udp && both) ≡ true → claims ≡ []
  not_merged packet both claims connection merges =
      ⊎_elim (λ none. none)
      (λ tcp. absurd (omega (
        arith,
        eqb-true (number_of packet.tuple.proto) 6 tcp,
        eqb-true (number_of packet.tuple.proto) 17 (and_parts (same_proto packet.tuple.proto proto.Udp) both merges).0,
      )))
      connection

  meets : GoingOnAddsUp → AbsentTuplesAreNobodys → FreeIsAbsent → LateEntriesAreNew → (setup : Setup) (first old mid new : Sight) (packet : FlowPacket) (flow : Flow)
      (found : NewReply) (answer : ClaimOutcome) (absent_at id at : ℕ) (d : Direction) (both merged : Bool) → IsKnown new
      → IsSome (start_of packet.segment packet.moment) → (had : HadPlace setup packet first old absent_at found)
      → (seen : LookedFor packet old mid answer) → flow.original ≡ packet.tuple → flow.reply ≡ found.reply
      → Looked mid new at (IsWinner flow id d both) → At new.front at (λ s. length s.records < new.sizes.entries)
      → (same_proto packet.tuple.proto proto.Udp && both) ≡ merged
      → (mark : ℕ) (kills : List Note) → mark_past mark kills ≤ absent_at
      → MeetsWinner setup first.sizes new.front (mark_past mark kills) packet (drops_by packet had.dropped ++ seen.claims)
      (record { id = id; at = at; translated = found.translated; merged = merged })
  meets going nobodys is_free late setup first old mid new packet flow found answer absent_at id at d both merged known begins had seen original reply looked room
      merges mark kills le =
      let w = looked.fact.fact in
      let went : WentOn old new seen.claims = going.before old mid new seen.claims seen.went looked.saw in
      let front : StartsWith new.front old.front = went.front in
      let sizes : new.sizes ≡ first.sizes = went.pass.sizes ∙ had.went.pass.sizes in
      let absent' = at_grows states new.front old.front absent_at (λ x. live_under packet.tuple x ≡ None) front had.absent in
      let longer : length old.front ≤ length mid.front = starts_longer mid.front old.front seen.went.front in
      let before : (length old.front) ≤ at = omega (arith, longer, looked.low) in
      let rule : Option Rule = rule_for setup.rules.items packet.tuple in
      let wins : winner packet.tuple found.reply (after new.front at) ≡ Some w.found =
      ap (λ (t : Tuple). winner t found.reply (after new.front at)) (sym original)
      ∙ ap (λ (u : Tuple). winner flow.original u (after new.front at)) (sym reply) ∙ w.wins in
      let same : both ≡ (has_original packet.tuple w.found.subject && has_reply found.reply w.found.subject) =
      w.same ∙ ap (λ (t : Tuple). has_original t w.found.subject && has_reply flow.reply w.found.subject) original
      ∙ ap (λ (u : Tuple). has_original packet.tuple w.found.subject && has_reply u w.found.subject) reply in
      record {
        reply = found.reply;
        unclaimed = unclaimed_at answer;
        master = claimed_master answer;
        placed = record {
          dropped = had.dropped;
          claims = seen.claims;
          own = ap (λ (l : List Note). drops_by packet had.dropped ++ l) (sym (append-nil seen.claims));
          found_at = had.found_at;
          begun = would_begin setup new.front old.front packet (mark_past mark kills) absent_at had.found_at found.translated found.reply front le
              had.order begins had.absent had.translation;
          placed_at = length old.front;
          room = room_grows events states new.front old.front front first.sizes packet had.found_at had.dropped (length old.front) had.room;
          claimed = claims_grows events states new.front mid.front looked.saw.went.front packet seen.claims (unclaimed_at answer)
              (claimed_master answer) (length old.front) at (seen.expected (length old.front) at (omega arith) looked.low);
        };
        silent = λ is_merged. not_merged packet both seen.claims seen.connection (merges ∙ is_merged);
        found = w.found;
        live = record { within = looked.fact.within; fact = wins };
        named = w.named;
        merge = and_assoc (same_proto packet.tuple.proto proto.Udp) (has_original packet.tuple w.found.subject)
            (has_reply found.reply w.found.subject)
            ∙ ap (λ b. same_proto packet.tuple.proto proto.Udp && b) (sym same) ∙ merges;
        new = older (mark_past mark kills) absent_at found.translated packet.tuple w.found le
            (new_winner nobodys is_free late new.sizes new.front rule found.translated packet.tuple found.reply absent_at had.found_at at w.found known.legal
            (omega (arith, had.absent.within, before)) (omega (arith, had.within, before)) absent'.fact wins
            (translated_grows events states new.front old.front front rule packet.tuple absent_at had.found_at found.translated found.reply
            had.translation));
        room = subst (λ (z : Sizes). At new.front at (λ s. length s.records < z.entries)) sizes room;
      }

  -- a packet met a winner, and its class says just this
  meets_answer : GoingOnAddsUp → (setup : Setup) (first old mid new : Sight) (packet : FlowPacket) (found : NewReply) (answer : ClaimOutcome) (n absent_at at : ℕ)
      (k : Class) (P : FlowPacket → ℕ → List Note → Type 0) → n ≤ 4 → (had : HadPlace setup packet first old absent_at found)
      → (seen : LookedFor packet old mid answer) → Saw mid new → at ≤ length new.front
      → points_of k ≡ at ∷ translated_points found.translated
      → ((given : Given) (mark : ℕ) (own : List Note) → AnswersFlow new.front mark given own P
      → FitsFrame setup first.sizes new.front mark given own k)
      → ((mark : ℕ) (kills : List Note) → mark_past mark kills ≤ absent_at → P packet (mark_past mark kills) (drops_by packet had.dropped ++ seen.claims))
      → Answers setup first new packet n absent_at k
  meets_answer going setup first old mid new packet found answer n absent_at at k P few had seen saw within points fits meeting =
      let then : WentOn old new seen.claims = going.before old mid new seen.claims seen.went saw in
      let went : WentOn first new (drops_by packet had.dropped ++ seen.claims) =
      going.twice first old new (drops_by packet had.dropped) seen.claims had.went then in
      record {
        rest = drops_by packet had.dropped ++ seen.claims;
        went = went;
        few = omega (arith, length-append (drops_by packet had.dropped) seen.claims, drops_few packet had.dropped, seen.few);
        points = subst (AllByRecursion (λ p. p ≤ length new.front)) (sym points) (
          within,
          points_more had.found_at (length new.front) (translated_points found.translated)
              (omega (arith, had.within, starts_longer new.front old.front then.front))
              (found_points old.front (rule_for setup.rules.items packet.tuple) packet.tuple absent_at had.found_at found.translated found.reply had.translation),
        );
        fits = λ given mark kills flows count killed le.
            fits given mark (kills ++ (drops_by packet had.dropped ++ seen.claims))
            (flow_answer states events new.front first.front went.front mark given packet kills (drops_by packet had.dropped ++ seen.claims) P flows
            (omega (arith, count)) killed (meeting mark kills le));
      }

  pub winner_answer : GoingOnAddsUp → AbsentTuplesAreNobodys → FreeIsAbsent → LateEntriesAreNew → (setup : Setup) (first old mid new : Sight) (packet : FlowPacket) (flow : Flow)
      (found : NewReply) (answer : ClaimOutcome) (n absent_at id at : ℕ) (d : Direction) (both : Bool) → n ≤ 4 → IsKnown new
      → IsSome (start_of packet.segment packet.moment) → (had : HadPlace setup packet first old absent_at found)
      → LookedFor packet old mid answer → flow.original ≡ packet.tuple → flow.reply ≡ found.reply
      → Looked mid new at (IsWinner flow id d both) → At new.front at (λ s. length s.records < new.sizes.entries) → (b : Bool)
      → (same_proto packet.tuple.proto proto.Udp && both) ≡ b
      → Answers setup first new packet n absent_at (cond b (class.Merged id at found.translated) (class.Clash id at found.translated))
  winner_answer going nobodys is_free late setup first old mid new packet flow found answer n absent_at id at d both few known begins had seen original reply looked
      room true merges =
      meets_answer going setup first old mid new packet found answer n absent_at at (class.Merged id at found.translated) _ few had seen looked.saw
      looked.fact.within refl (λ given mark own h. h)
      (λ mark kills le. meets going nobodys is_free late setup first old mid new packet flow found answer absent_at id at d both true known begins had seen original
      reply looked room merges mark kills le)
  winner_answer going nobodys is_free late setup first old mid new packet flow found answer n absent_at id at d both few known begins had seen original reply looked
      room false merges =
      meets_answer going setup first old mid new packet found answer n absent_at at (class.Clash id at found.translated) _ few had seen looked.saw
      looked.fact.within refl (λ given mark own h. h)
      (λ mark kills le. meets going nobodys is_free late setup first old mid new packet flow found answer absent_at id at d both false known begins had seen original
      reply looked room merges mark kills le)
