-- A verdict that fits still fits when the history goes on: one case for each class.
use Rattle.std.proofs.Common.{◌≡◌, ℕ, ◌+◌, ◌≤◌, length, Bool, true, List, [], ◌∷◌, Option, Some, None, inl, inr, subst, sym, ap, ◌∙◌, ⊎_elim, arith}
use Rattle.tuple_core.specs.declared.Tuple.{Tuple}
use Rattle.history_book.specs.Laws.{EventsStay, StatesStay}
use Rattle.history_book.specs.Notes.{Happened}
use Rattle.history_book.specs.Point.{At, StartsWith}
use Rattle.history_book.specs.State.{Found, State, record_of}
use Rattle.history_book.specs.declared.record.Record.{Record}
use Rattle.pool_visits.specs.Visit.{LivedThroughout, is_live_and}
use Rattle.history_book.specs.declared.event.Event.{Event}
use Rattle.history_book.specs.declared.event.Note.{Note}
use Rattle.history_book.specs.declared.sizes.Sizes.{Sizes}
use Rattle.history_book.specs.declared.verdict.Class.{Class}
use Rattle.history_book.specs.declared.verdict.Class.TheVariants as class
use Rattle.proto_rules.specs.declared.Outcome.{Outcome}
use Rattle.expect_table.specs.declared.table.AddOutcome.{AddOutcome}
use Rattle.history_book.specs.declared.verdict.Ftp.{Ftp}
use Rattle.history_book.specs.declared.verdict.Ftp.TheVariants as ftp
use Rattle.history_book.specs.declared.verdict.Translated.{Translated}
use Rattle.history_book.specs.declared.verdict.Translated.TheVariants.{Plain, Chosen}
use Rattle.nat_setup.specs.declared.rule.Rule.{Rule}
use Rattle.nat_setup.specs.Rule.{rule_for}
use Rattle.nat_setup.specs.Translation.{AccountsForOwn, AtSomePoint, WasChosen, WasTranslated}
use Rattle.packet_path.specs.Absent.{WasAbsent}
use Rattle.packet_path.specs.Begun.{WouldBegin}
use Rattle.packet_path.specs.Claim.{ClaimsIfExpected}
use Rattle.packet_path.specs.FtpPart.{FtpFits, RefusesEnd}
use Rattle.packet_path.specs.Passed.{IsPassing}
use Rattle.packet_path.specs.Packet.{FlowPacket}
use Rattle.packet_path.specs.Packet.{Given}
use Rattle.packet_path.specs.declared.setup.Setup.{Setup}
use Rattle.packet_path.specs.Placed.{HasPlace, Placing}
use Rattle.packet_path.specs.Room.{Dropping, HasRoom, MakesRoom, StaysFull, may_go}
use Rattle.packet_path.specs.Winner.{Meeting, MeetsWinner}
use Rattle.packet_path.specs.Unchanged.{LeavesEntry}
use Rattle.packet_path.specs.Error.{AnswersError, LooksUp}
use Rattle.packet_path.specs.Verdict.{AnswersFlow, FitsFrame, Kills, KillsAll}

-- a fact at a point stays as the history goes on
pub at_grows : StatesStay → (longer log : List Event) (p : ℕ) (F : State → Type 0) → StartsWith longer log
    → At log p F → At longer p F
at_grows stay longer log p F starts fact =
    let same = stay longer log p starts fact.within in
    record { within = same.0; fact = subst F (sym same.1) fact.fact }

-- an answer to an error, of which another fact follows
pub error_still : (given : Given) (own : List Note) (P Q : Tuple → ℕ → Type 0)
    → ((inner : Tuple) (outer : ℕ) → P inner outer → Q inner outer) → AnswersError given own P → AnswersError given own Q
error_still given own P Q then f = record {
  inner = f.inner;
  outer = f.outer;
  error = f.error;
  none = f.none;
  fits = then f.inner f.outer f.fits;
}

module _ (events : EventsStay) (states : StatesStay) (longer log : List Event) (starts : StartsWith longer log) where
  longer_within : (p : ℕ) → p ≤ length log → p ≤ length longer
  longer_within p within = (states longer log p starts within).0

  pub happened_grows : (mark : ℕ) (note : Note) → Happened log mark note → Happened longer mark note
  happened_grows mark note h = record { event = events longer log _ _ starts h.event; later = h.later }

  pub kills_grows : (mark : ℕ) (packet : FlowPacket) (note : Note) → Kills log mark packet note → Kills longer mark packet note
  kills_grows mark packet note k = record {
    happened = happened_grows mark note k.happened;
    found = k.found;
    live = at_grows states longer log _ _ starts k.live;
    kill = k.kill;
  }

  pub kills_all_grows : (mark : ℕ) (packet : FlowPacket) (notes : List Note)
      → KillsAll log mark packet notes → KillsAll longer mark packet notes
  kills_all_grows mark packet [] k = tt
  kills_all_grows mark packet (n ∷ ns) (k, ks) = (kills_grows mark packet n k, kills_all_grows (n.number + 1) packet ns ks)

  flow_grows : (mark : ℕ) (given : Given) (own : List Note) (P Q : FlowPacket → ℕ → List Note → Type 0)
      → ((packet : FlowPacket) (k : ℕ) (rest : List Note) → P packet k rest → Q packet k rest)
      → AnswersFlow log mark given own P → AnswersFlow longer mark given own Q
  flow_grows mark given own P Q then f = record {
    packet = f.packet;
    flow = f.flow;
    kills = f.kills;
    rest = f.rest;
    all = f.all;
    few = f.few;
    killed = kills_all_grows mark f.packet f.kills f.killed;
    fits = then f.packet _ f.rest f.fits;
  }

  looked_grows : (mark : ℕ) (inner : Tuple) (at : ℕ) (found : Option Found) → LooksUp log mark inner at found
      → LooksUp longer mark inner at found
  looked_grows mark inner at found l = record { from = l.from; live = at_grows states longer log _ _ starts l.live }

  leaves_grows : (k : ℕ) (packet : FlowPacket) (rest : List Note) (id at : ℕ) (outcome : Outcome)
      → LeavesEntry log k packet rest id at outcome → LeavesEntry longer k packet rest id at outcome
  leaves_grows k packet rest id at outcome l = record {
    own = l.own;
    from = l.from;
    found = l.found;
    live = at_grows states longer log _ _ starts l.live;
    named = l.named;
    step = l.step;
  }

  absent_grows : (k : ℕ) (t : Tuple) (upto : ℕ) → WasAbsent log k t upto → WasAbsent longer k t upto
  absent_grows k t upto a = record {
    at = a.at;
    from = a.from;
    before = a.before;
    absent = at_grows states longer log _ _ starts a.absent;
  }

  pub some_point_grows : (from to : ℕ) (F : State → Type 0) → AtSomePoint log from to F → AtSomePoint longer from to F
  some_point_grows from to F b = record {
    point = b.point;
    low = b.low;
    high = b.high;
    fact = at_grows states longer log b.point F starts b.fact;
  }

  accounts_grow : (rule : Rule) (t : Tuple) (number : ℕ) (taken_at : Option ℕ)
      → AccountsForOwn log rule t number taken_at → AccountsForOwn longer rule t number taken_at
  accounts_grow rule t number None h = h
  accounts_grow rule t number (Some p) h = (h.0, at_grows states longer log p _ starts h.1)

  chosen_grows : (rule : Rule) (t reply : Tuple) (taken_at : Option ℕ) (from upto : ℕ)
      → WasChosen log rule t reply taken_at from upto → WasChosen longer rule t reply taken_at from upto
  chosen_grows rule t reply taken_at from upto c = record {
    lawful = record {
      number = c.lawful.number;
      allowed = c.lawful.allowed;
      gives = c.lawful.gives;
      own = accounts_grow rule t c.lawful.number taken_at c.lawful.own;
    };
    tried = c.tried;
    free = some_point_grows _ upto _ c.free;
  }

  pub translated_grows : (rule : Option Rule) (t : Tuple) (from upto : ℕ) (translated : Translated) (reply : Tuple)
      → WasTranslated log rule t from upto translated reply → WasTranslated longer rule t from upto translated reply
  translated_grows None t from upto Plain reply h = h
  translated_grows None t from upto (Chosen chosen taken_at) reply h = h
  translated_grows (Some rule) t from upto Plain reply h = h
  translated_grows (Some rule) t from upto (Chosen chosen taken_at) reply h = (h.0, chosen_grows rule t chosen taken_at from upto h.1)

  begun_grows : (setup : Setup) (k : ℕ) (packet : FlowPacket) (translated : Translated) (reply : Tuple) (upto : ℕ)
      → WouldBegin setup log k packet translated reply upto → WouldBegin setup longer k packet translated reply upto
  unfolding absent_grows
  begun_grows setup k packet translated reply upto b = record {
    starts = b.starts;
    absent = absent_grows k packet.tuple upto b.absent;
    found = translated_grows (rule_for setup.rules.items packet.tuple) packet.tuple b.absent.at upto translated reply b.found;
  }

  pub claims_grows : (packet : FlowPacket) (claims : List Note) (unclaimed master : Option ℕ) (from upto : ℕ)
      → ClaimsIfExpected log packet claims unclaimed master from upto → ClaimsIfExpected longer packet claims unclaimed master from upto
  claims_grows packet claims (Some p) master from upto c = record {
    none = c.none;
    alone = c.alone;
    low = c.low;
    high = c.high;
    unmatched = at_grows states longer log _ _ starts c.unmatched;
  }
  claims_grows packet claims None master from upto c = record {
    number = c.number;
    expectation = c.expectation;
    by = c.by;
    own = c.own;
    related = c.related;
    happened = happened_grows from _ c.happened;
    before = c.before;
  }

  refuses_grows : (sizes : Sizes) (packet : FlowPacket) (found : Found) (touched : ℕ) (further : List Note) (outcome : AddOutcome) (at : ℕ)
      → RefusesEnd sizes log packet found touched further outcome at → RefusesEnd sizes longer packet found touched further outcome at
  refuses_grows sizes packet found touched further outcome at r = record {
    want = r.want;
    asked = r.asked;
    own = r.own;
    later = r.later;
    gives = at_grows states longer log _ _ starts r.gives;
  }

  ftp_grows : (sizes : Sizes) (packet : FlowPacket) (found : Found) (touched : ℕ) (further : List Note) (part : Ftp)
      → FtpFits sizes log packet found touched further part → FtpFits sizes longer packet found touched further part
  ftp_grows sizes packet found touched further ftp.Nothing f = f
  ftp_grows sizes packet found touched further ftp.Address f = f
  ftp_grows sizes packet found touched further (ftp.Expected id) f = record {
    want = f.want;
    asked = f.asked;
    replaced = f.replaced;
    own = f.own;
    happened = happened_grows (touched + 1) _ f.happened;
  }
  ftp_grows sizes packet found touched further (ftp.Clash id at) f = refuses_grows sizes packet found touched further _ at f
  ftp_grows sizes packet found touched further (ftp.Full at) f = refuses_grows sizes packet found touched further _ at f
  ftp_grows sizes packet found touched further (ftp.Gone at) f = record {
    want = f.want;
    asked = f.asked;
    own = f.own;
    later = f.later;
    gone = at_grows states longer log _ _ starts f.gone;
  }

  passing_grows : (sizes : Sizes) (packet : FlowPacket) (found : Found) (note : Note) (further : List Note) (part : Ftp)
      → IsPassing sizes log packet found note further part → IsPassing sizes longer packet found note further part
  passing_grows sizes packet found note further part p =
      ⊎_elim
      (λ a. inl (record {
        after = a.after;
        event = a.event;
        payload = ftp_grows sizes packet found note.number further part a.payload;
      }))
      (λ r. inr r) p

  -- what lived throughout in the longer history did so in the first
  lived_shrinks : (test : Record → Bool) (from to id : ℕ) → to ≤ length log → LivedThroughout longer test from to id
      → LivedThroughout log test from to id
  lived_shrinks test from to id within lived p low high =
      subst (λ (s : State). is_live_and test (record_of id s) ≡ true) (states longer log p starts (omega (arith, high, within))).1 (lived p low high)

  makes_room_grows : (sizes : Sizes) (packet : FlowPacket) (from : ℕ) (d : Dropping) (upto : ℕ) → MakesRoom sizes log packet from d upto
      → MakesRoom sizes longer packet from d upto
  makes_room_grows sizes packet from d upto r = record {
    full = at_grows states longer log _ _ starts r.full;
    happened = happened_grows from _ r.happened;
    before = r.before;
    found = at_grows states longer log _ _ starts r.found;
    first = λ id q live lower lived.
        r.first id q (ap (λ (s : State). record_of id s) (sym (states longer log d.number starts r.found.within).1) ∙ live) lower
        (lived_shrinks (may_go packet) from d.number id r.found.within lived);
  }

  pub room_grows : (sizes : Sizes) (packet : FlowPacket) (from : ℕ) (dropped : Option Dropping) (upto : ℕ)
      → HasRoom sizes log packet from dropped upto → HasRoom sizes longer packet from dropped upto
  room_grows sizes packet from None upto r = r
  room_grows sizes packet from (Some d) upto r = makes_room_grows sizes packet from d upto r

  stays_grows : (sizes : Sizes) (packet : FlowPacket) (from : ℕ) (dropped : Option Dropping) (at : ℕ)
      → StaysFull sizes log packet from dropped at → StaysFull sizes longer packet from dropped at
  stays_grows sizes packet from None at f = record {
    full = at_grows states longer log _ _ starts f.full;
    order = f.order;
    within = longer_within at f.within;
    none = λ id lived. f.none id (lived_shrinks (may_go packet) from at id f.within lived);
  }
  stays_grows sizes packet from (Some d) at f = record {
    room = makes_room_grows sizes packet from d at f.room;
    full = at_grows states longer log _ _ starts f.full;
  }

  placed_grows : (setup : Setup) (sizes : Sizes) (k : ℕ) (packet : FlowPacket) (rest last : List Note) (said : Placing)
      → HasPlace setup sizes log k packet rest last said → HasPlace setup sizes longer k packet rest last said
  placed_grows setup sizes k packet rest last said h = record {
    dropped = h.dropped;
    claims = h.claims;
    own = h.own;
    found_at = h.found_at;
    begun = begun_grows setup k packet said.translated said.reply h.found_at h.begun;
    placed_at = h.placed_at;
    room = room_grows sizes packet h.found_at h.dropped h.placed_at h.room;
    claimed = claims_grows packet h.claims said.unclaimed said.master h.placed_at said.upto h.claimed;
  }

  winner_grows : (setup : Setup) (sizes : Sizes) (k : ℕ) (packet : FlowPacket) (rest : List Note) (said : Meeting)
      → MeetsWinner setup sizes log k packet rest said → MeetsWinner setup sizes longer k packet rest said
  unfolding placed_grows
  winner_grows setup sizes k packet rest said m = record {
    reply = m.reply;
    unclaimed = m.unclaimed;
    master = m.master;
    placed = placed_grows setup sizes k packet rest [] _ m.placed;
    silent = m.silent;
    found = m.found;
    live = at_grows states longer log _ _ starts m.live;
    named = m.named;
    merge = m.merge;
    new = m.new;
    room = at_grows states longer log _ _ starts m.room;
  }

  pub frame_grows : (setup : Setup) (sizes : Sizes) (mark : ℕ) (given : Given) (own : List Note) (verdict : Class)
      → FitsFrame setup sizes log mark given own verdict → FitsFrame setup sizes longer mark given own verdict
  frame_grows setup sizes mark given own (class.Untracked why) f = f
  frame_grows setup sizes mark given own class.BadHeader f = f
  frame_grows setup sizes mark given own (class.NoEntry at) f =
      flow_grows mark given own _ _
      (λ packet k rest b. record {
        own = b.own;
        from = b.from;
        absent = at_grows states longer log _ _ starts b.absent;
        starts = b.starts;
      }) f
  frame_grows setup sizes mark given own (class.BadState id at) f =
      flow_grows mark given own _ _ (λ packet k rest l. leaves_grows k packet rest id at _ l) f
  frame_grows setup sizes mark given own (class.ErrorLost at) f =
      error_still given own _ _ (λ inner outer l. looked_grows mark inner at _ l) f
  frame_grows setup sizes mark given own (class.ErrorAddress id at) f =
      error_still given own _ _
      (λ inner outer l. record {
        found = l.found;
        looked = looked_grows mark inner at _ l.looked;
        named = l.named;
        address = l.address;
      }) f
  frame_grows setup sizes mark given own (class.Error direction id at) f =
      error_still given own _ _
      (λ inner outer l. record {
        found = l.found;
        looked = looked_grows mark inner at _ l.looked;
        named = l.named;
        directed = l.directed;
        address = l.address;
      }) f
  frame_grows setup sizes mark given own (class.Made id at translated unclaimed) f =
      flow_grows mark given own _ _
      (λ packet k rest m. record {
        subject = m.subject;
        happened = happened_grows k _ m.happened;
        named = m.named;
        started = m.started;
        placed = placed_grows setup sizes k packet rest _ _ m.placed;
        point = m.point;
      }) f
  frame_grows setup sizes mark given own (class.Passed label id at ftp) f =
      flow_grows mark given own _ _
      (λ packet k rest m. record {
        note = m.note;
        found = m.found;
        further = m.further;
        own = m.own;
        happened = happened_grows k m.note m.happened;
        passing = passing_grows sizes packet m.found m.note m.further ftp m.passing;
        live = at_grows states longer log _ _ starts m.live;
        named = m.named;
        labelled = m.labelled;
        point = m.point;
      }) f
  frame_grows setup sizes mark given own (class.Ignored id at) f =
      flow_grows mark given own _ _ (λ packet k rest l. leaves_grows k packet rest id at _ l) f
  frame_grows setup sizes mark given own (class.Merged id at translated) f =
      flow_grows mark given own _ _ (λ packet k rest m. winner_grows setup sizes k packet rest _ m) f
  frame_grows setup sizes mark given own (class.Clash id at translated) f =
      flow_grows mark given own _ _ (λ packet k rest m. winner_grows setup sizes k packet rest _ m) f
  frame_grows setup sizes mark given own (class.NoPort from to) f =
      flow_grows mark given own _ _
      (λ packet k rest m. record {
        own = m.own;
        starts = m.starts;
        absent = absent_grows k packet.tuple from m.absent;
        taken = record {
          rule = m.taken.rule;
          is_first = m.taken.is_first;
          ordered = m.taken.ordered;
          within = longer_within to m.taken.within;
          taken = λ number allowed. some_point_grows from to _ (m.taken.taken number allowed);
        };
      }) f
  frame_grows setup sizes mark given own (class.Full from at) f =
      flow_grows mark given own _ _
      (λ packet k rest m. record {
        dropped = m.dropped;
        own = m.own;
        translated = m.translated;
        reply = m.reply;
        begun = begun_grows setup k packet m.translated m.reply from m.begun;
        stays = stays_grows sizes packet from m.dropped at m.stays;
      }) f
  frame_grows setup sizes mark given own (class.Contended id at) f =
      record {
        four = f.four;
        stands = flow_grows mark given own _ _
            (λ packet k rest m.
            ⊎_elim (λ l. inl (leaves_grows k packet rest id at _ l)) (λ l. inr (leaves_grows k packet rest id at _ l)) m) f.stands;
      }
