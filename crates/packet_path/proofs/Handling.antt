-- One kill after another, and what is left when a frame is handled.
use Rattle.std.proofs.Common.{◌≡◌, ℕ, ◌+◌, ◌-◌, max, ◌≤◌, true, List, [], ◌∷◌, ◌++◌, length, Some, refl, sym, ap, subst, ◌∙◌, arith, length-append}
use Rattle.std.specs.List.{AllByRecursion}
use Rattle.std.specs.Prelude.{◌≢◌}
use Rattle.tuple_core.specs.Inverse.{inverse}
use Rattle.tuple_core.specs.declared.Direction.{Direction}
use Rattle.tuple_core.specs.declared.Tuple.{Tuple}
use Rattle.room_list.specs.Roomed.{Roomed}
use Rattle.history_book.specs.declared.event.Event.{Event}
use Rattle.history_book.specs.declared.event.Note.{Note}
use Rattle.history_book.specs.declared.record.Record.{Record}
use Rattle.history_book.specs.declared.sizes.Sizes.{Sizes}
use Rattle.history_book.specs.declared.verdict.Class.{Class}
use Rattle.history_book.specs.declared.verdict.Verdict.{Verdict}
use Rattle.history_book.specs.Desk.{IsLiveUnder, IsReady}
use Rattle.history_book.specs.SightLaws.{GoingOnAddsUp}
use Rattle.history_book.specs.WentOn.{Looked, Saw, WentOn}
use Rattle.history_book.specs.History.{after}
use Rattle.history_book.specs.Laws.{EventsStay, StatesStay}
use Rattle.history_book.specs.Mark.{mark_past}
use Rattle.history_book.specs.Places.{HoldsNothing}
use Rattle.history_book.specs.Point.{StartsWith}
use Rattle.history_book.specs.Sight.{IsKnown, Sight}
use Rattle.history_book.specs.State.{live_under}
use Rattle.packet_path.specs.Packet.{FlowPacket}
use Rattle.packet_path.specs.Error.{AnswersError, IsMisdirected, IsRelated, LooksUp}
use Rattle.packet_headers.specs.declared.frame.Span.{Span}
use Rattle.packet_headers.specs.declared.packet.Packet.{Packet}
use Rattle.packet_headers.specs.declared.packet.Packet.TheVariants as packet
use Rattle.tuple_core.specs.declared.Segment.{Segment}
use Rattle.packet_path.specs.Internal.Attempt.{Answers, GoesOnKilling, IsKilling, KilledOne}
use Rattle.packet_path.specs.Internal.Fast.{Answered, Appended, TryAt}
use Rattle.packet_path.specs.Handled.{Handled, HandledInto}
use Rattle.packet_path.specs.Packet.{Given, IsFlow, is_flow, packet_in}
use Rattle.packet_path.specs.declared.setup.Setup.{Setup}
use Rattle.history_book.specs.Mark.{points_of}
use Rattle.packet_path.specs.Taken.{taken_by}
use Rattle.packet_path.specs.Verdict.{FitsFrame, Kills, KillsAll}
use Rattle.packet_path.proofs.Growth.{at_grows, kills_all_grows}
use Rattle.packet_path.proofs.Marks.{happened_lower, mark_past-le}
use Rattle.packet_path.proofs.Attempts.{starts_longer}

kills_push : (log : List Event) (m from : ℕ) (packet : FlowPacket) (kills : List Note) (note : Note) → KillsAll log m packet kills
    → mark_past m kills ≤ from → Kills log from packet note → KillsAll log m packet (kills ++ note ∷ [])
kills_push log m from packet [] note all le kill =
    (record { happened = happened_lower log m from note le kill.happened; found = kill.found; live = kill.live; kill = kill.kill }, tt)
kills_push log m from packet (k ∷ ks) note (one, all) le kill =
    (one, kills_push log (k.number + 1) from packet ks note all (omega (arith, le, mark_least (max m (k.number + 1)) ks, mark_order m (k.number + 1) ks)) kill)
  where
    mark_least : (m : ℕ) (notes : List Note) → m ≤ mark_past m notes
    mark_least m [] = omega arith
    mark_least m (x ∷ xs) = omega (arith, mark_least (max m (x.number + 1)) xs)

    mark_order : (m n : ℕ) (notes : List Note) → mark_past n notes ≤ mark_past (max m n) notes
    mark_order m n notes = mark_past-le n (max m n) notes (omega arith)

mark_push : (m : ℕ) (kills : List Note) (note : Note) → mark_past m (kills ++ note ∷ []) ≡ max (mark_past m kills) (note.number + 1)
mark_push m [] note = refl
mark_push m (k ∷ ks) note = mark_push (max m (k.number + 1)) ks note

-- nothing was done yet
pub killing_none : GoingOnAddsUp → (old : Sight) (packet : FlowPacket) → IsKnown old → HoldsNothing old → IsKilling old old packet 0
killing_none going old packet known empty = record {
  kills = [];
  went = (going.resting old).went;
  count = refl;
  few = omega arith;
  all = tt;
  mark = omega arith;
  spare = omega arith;
  taken = refl;
  empty = empty;
  known = known;
}

module _ (states : StatesStay) (events : EventsStay) (going : GoingOnAddsUp) (old : Sight) (packet : FlowPacket) where
  -- one kill more
  pub killing_more : (now new : Sight) (n : ℕ) → IsKilling old now packet n → KilledOne now new packet n (length now.front)
      → new.taken ≡ now.taken → HoldsNothing new → IsKnown new → IsKilling old new packet (n + 1)
  killing_more now new n k one taken empty known =
      let grown : KillsAll new.front (length old.front) packet k.kills =
      kills_all_grows events states new.front now.front one.went.front (length old.front) packet k.kills k.all in
      record {
        kills = k.kills ++ one.note ∷ [];
        went = going.twice old now new k.kills (one.note ∷ []) k.went one.went;
        count = length-append k.kills (one.note ∷ []) ∙ ap (λ m. m + 1) k.count;
        few = omega (arith, one.few);
        all = kills_push new.front (length old.front) (length now.front) packet k.kills one.note grown k.mark one.kill;
        mark = omega (arith, mark_push (length old.front) k.kills one.note, k.mark, one.high, starts_longer new.front now.front one.went.front);
        spare = omega (arith, k.spare, one.went.spare);
        taken = taken ∙ k.taken;
        empty = empty;
        known = known;
      }

  -- the entry was gone
  pub killing_again : (now new : Sight) (n : ℕ) → IsKilling old now packet n → Saw now new → HoldsNothing new → IsKnown new
      → IsKilling old new packet n
  killing_again now new n k saw empty known = record {
    kills = k.kills;
    went = going.before old now new k.kills k.went saw;
    count = k.count;
    few = k.few;
    all = kills_all_grows events states new.front now.front saw.went.front (length old.front) packet k.kills k.all;
    mark = omega (arith, k.mark, starts_longer new.front now.front saw.went.front);
    spare = omega (arith, k.spare, saw.spare);
    taken = saw.taken ∙ k.taken;
    empty = empty;
    known = known;
  }

  -- an answer after the kills
  pub killing_done : (setup : Setup) (now new : Sight) (n : ℕ) (verdict : Verdict) (given : Given) → IsFlow given packet → IsKilling old now packet n
      → Answers setup now new packet n (length now.front) verdict.class → new.taken ≡ taken_by verdict.class now.taken → HoldsNothing new → verdict.first ≡ length old.own
      → verdict.made ≡ length new.own - length old.own → Handled setup given old new verdict
  killing_done setup now new n verdict given flow k a taken empty first made =
      let went : WentOn old new (k.kills ++ a.rest) = going.twice old now new k.kills a.rest k.went a.went in
      record {
        own = k.kills ++ a.rest;
        went = went;
        first = first;
        made = omega (arith, made, ap length went.own, length-append old.own (k.kills ++ a.rest));
        few = omega (arith, length-append k.kills a.rest, k.count, k.few, a.few);
        fits = subst (λ (z : Sizes). FitsFrame setup z new.front (length old.front) given (k.kills ++ a.rest) verdict.class) k.went.pass.sizes
            (a.fits given (length old.front) k.kills flow k.count k.all k.mark);
        points = a.points;
        held = empty.held;
        owed = empty.owed;
        taken = taken ∙ ap (taken_by verdict.class) k.taken;
      }

  -- a packet was answered after so many kills, and its verdict is appended
  pub answered_into : (setup : Setup) (t : TryAt) (now new : Sight) (before after : Roomed Verdict) → IsKilling old now packet t.kills
      → HoldsNothing new → t.counting.first ≡ length old.own → Answered setup packet t now new before after
      → (given : Given) → IsFlow given packet → HandledInto t.counting.base setup given old new before after
  answered_into setup t now new before after killing empty starts a given flow =
      let first = t.counting.first in
      let verdict : Verdict = record { class = a.class; first = first; made = length new.own - first } in
      record {
        verdict = verdict;
        handled = killing_done setup now new t.kills verdict given flow killing a.answers a.taken empty starts
            (ap (λ n. length new.own - n) starts);
        items = a.appended.items;
        room = a.appended.room;
      }

  -- from the desk's first sight of a packet, after so many kills: one more, or none
  pub goes_on_more : (now new : Sight) (killed first : ℕ) → GoesOnKilling old now packet killed first
      → KilledOne now new packet killed (length now.front) → new.taken ≡ now.taken → HoldsNothing new → IsKnown new
      → GoesOnKilling old new packet (killed + 1) first
  goes_on_more now new killed first goes one taken empty known = record {
    killing = killing_more now new killed goes.killing one taken empty known;
    spare = omega (arith, goes.spare, one.went.spare);
    low = omega (arith, goes.low, ap length one.went.own, length-append now.own (one.note ∷ []));
    high = omega (arith, goes.high, ap length one.went.own, length-append now.own (one.note ∷ []));
  }

  pub goes_on_again : (now new : Sight) (killed first : ℕ) → GoesOnKilling old now packet killed first
      → Saw now new → HoldsNothing new → IsKnown new → GoesOnKilling old new packet killed first
  goes_on_again now new killed first goes saw empty known = record {
    killing = killing_again now new killed goes.killing saw empty known;
    spare = omega (arith, goes.spare, saw.spare);
    low = omega (arith, goes.low, ap length saw.went.own, length-append now.own []);
    high = omega (arith, goes.high, ap length saw.went.own, length-append now.own []);
  }

-- what is handled after making room is handled
pub handled_ready : (setup : Setup) (k : ℕ) (old mid new : Sight) (given : Given) (verdict : Verdict) → IsReady k old mid → Handled setup given mid new verdict
    → Handled setup given old new verdict
handled_ready setup k old mid new given verdict ready h =
    let front : mid.front ≡ old.front = ap (λ (s : Sight). s.front) ready.same in
    let own : mid.own ≡ old.own = ap (λ (s : Sight). s.own) ready.same in
    let sizes : mid.sizes ≡ old.sizes = ap (λ (s : Sight). s.sizes) ready.same in
    record {
      own = h.own;
      went = record {
        front = subst (StartsWith new.front) front h.went.front;
        own = h.went.own ∙ ap (λ (l : List Note). l ++ h.own) own;
        spare = omega (arith, h.went.spare, ready.kept);
        pass = record {
          tracker = h.went.pass.tracker ∙ ap (λ (s : Sight). s.tracker) ready.same;
          sizes = h.went.pass.sizes ∙ sizes;
          shares = h.went.pass.shares ∙ ap (λ (s : Sight). s.shares) ready.same;
          returned = h.went.pass.returned ∙ ap (λ (s : Sight). s.returned) ready.same;
          gathered = h.went.pass.gathered ∙ ap (λ (s : Sight). s.gathered) ready.same;
        };
      };
      first = h.first ∙ ap length own;
      made = h.made;
      few = h.few;
      fits = subst (λ (l : List Event). FitsFrame setup old.sizes new.front (length l) given h.own verdict.class) front
          (subst (λ (z : Sizes). FitsFrame setup z new.front (length mid.front) given h.own verdict.class) sizes h.fits);
      points = h.points;
      held = h.held;
      owed = h.owed;
      taken = h.taken ∙ ap (λ (s : Sight). taken_by verdict.class s.taken) ready.same;
    }

-- a frame that makes no event is handled
pub handled_silent : (setup : Setup) (old new : Sight) (given : Given) (verdict : Verdict) → Saw old new → HoldsNothing new
    → new.taken ≡ taken_by verdict.class old.taken → verdict.first ≡ length old.own → verdict.made ≡ 0
    → FitsFrame setup old.sizes new.front (length old.front) given [] verdict.class
    → AllByRecursion (λ p. p ≤ length new.front) (points_of verdict.class) → Handled setup given old new verdict
handled_silent setup old new given verdict saw empty taken first made fits points = record {
  own = [];
  went = saw.went;
  first = first;
  made = made;
  few = omega arith;
  fits = fits;
  points = points;
  held = empty.held;
  owed = empty.owed;
  taken = taken;
}

-- the same, with its verdict appended
pub silent_into : (setup : Setup) (base first : ℕ) (old new : Sight) (given : Given) (class : Class) (before after : Roomed Verdict) → Saw old new → HoldsNothing new
    → new.taken ≡ taken_by class old.taken → first ≡ length old.own → FitsFrame setup old.sizes new.front (length old.front) given [] class
    → AllByRecursion (λ p. p ≤ length new.front) (points_of class) → Appended class first base new.own before after
    → HandledInto base setup given old new before after
silent_into setup base first old new given class before after saw empty taken starts fits points appended =
    let verdict : Verdict = record { class = class; first = first; made = length new.own - first } in
    record {
      verdict = verdict;
      handled = handled_silent setup old new given verdict saw empty taken starts
          (omega (arith, starts, ap length saw.went.own, length-append old.own [])) fits points;
      items = appended.items;
      room = appended.room;
    }

-- what an error is about was looked up at a point that stays when the desk sees more
pub error_found : StatesStay → (old mid new : Sight) (inner looked_up : Tuple) (place id at : ℕ) (d : Direction)
    → looked_up ≡ inverse inner → (looked : Looked old mid at (IsLiveUnder looked_up place id d)) → Saw mid new
    → LooksUp new.front (length old.front) inner at (Some (record { subject = looked.fact.fact.subject; direction = d }))
error_found states old mid new inner looked_up place id at d same looked saw =
    let subject : Record = looked.fact.fact.subject in
    record {
      from = looked.low;
      live = at_grows states new.front mid.front at
          (λ s. live_under (inverse inner) s ≡ Some (record { subject = subject; direction = d })) saw.went.front
          (record {
            within = looked.fact.within;
            fact = ap (λ t. live_under t (after mid.front at)) (sym same) ∙ looked.fact.fact.live;
          });
    }

pub error_related : StatesStay → (old mid new : Sight) (inner looked_up : Tuple) (outer place id at moment : ℕ) (d : Direction)
    → looked_up ≡ inverse inner → Looked old mid at (IsLiveUnder looked_up place id d) → Saw mid new → looked_up.dst ≡ outer
    → AnswersError (record { packet = packet.Error inner outer; moment = moment; payload = [] }) []
    (λ i o. IsRelated new.front (length old.front) i o d id at)
error_related states old mid new inner looked_up outer place id at moment d same looked saw address = record {
  inner = inner;
  outer = outer;
  error = refl;
  none = refl;
  fits = record {
    found = record { subject = looked.fact.fact.subject; direction = d };
    looked = error_found states old mid new inner looked_up place id at d same looked saw;
    named = looked.fact.fact.named;
    directed = refl;
    address = ap (λ (t : Tuple). t.dst) (sym same) ∙ address;
  };
}

pub error_misdirected : StatesStay → (old mid new : Sight) (inner looked_up : Tuple) (outer place id at moment : ℕ) (d : Direction)
    → looked_up ≡ inverse inner → Looked old mid at (IsLiveUnder looked_up place id d) → Saw mid new → looked_up.dst ≢ outer
    → AnswersError (record { packet = packet.Error inner outer; moment = moment; payload = [] }) []
    (λ i o. IsMisdirected new.front (length old.front) i o id at)
error_misdirected states old mid new inner looked_up outer place id at moment d same looked saw address = record {
  inner = inner;
  outer = outer;
  error = refl;
  none = refl;
  fits = record {
    found = record { subject = looked.fact.fact.subject; direction = d };
    looked = error_found states old mid new inner looked_up place id at d same looked saw;
    named = looked.fact.fact.named;
    address = λ e. address (ap (λ (t : Tuple). t.dst) same ∙ e);
  };
}

-- what is appended after making room is appended
pub appended_ready : (base : ℕ) (setup : Setup) (k : ℕ) (old mid new : Sight) (given : Given) (before after : Roomed Verdict) → IsReady k old mid
    → HandledInto base setup given mid new before after → HandledInto base setup given old new before after
appended_ready base setup k old mid new given before after ready h = record {
  verdict = h.verdict;
  handled = handled_ready setup k old mid new given h.verdict ready h.handled;
  items = h.items;
  room = h.room;
}

-- a frame has one packet of a flow
abbrev tuple_in : Packet → Tuple → Tuple
tuple_in (packet.Flow t segment span) d = t
tuple_in (packet.Untracked why) d = d
tuple_in packet.Invalid d = d
tuple_in (packet.Error inner outer) d = d

abbrev segment_in : Packet → Segment → Segment
segment_in (packet.Flow t segment span) d = segment
segment_in (packet.Untracked why) d = d
segment_in packet.Invalid d = d
segment_in (packet.Error inner outer) d = d

pub same_flow : (given : Given) (p q : FlowPacket) → IsFlow given p → IsFlow given q → p ≡ q
same_flow given p q f g =
    let e : packet.Flow p.tuple p.segment f.span ≡ packet.Flow q.tuple q.segment g.span = sym f.headers ∙ g.headers in
    let tuple : p.tuple ≡ q.tuple = ap (λ (x : Packet). tuple_in x p.tuple) e in
    let segment : p.segment ≡ q.segment = ap (λ (x : Packet). segment_in x p.segment) e in
    let moment : p.moment ≡ q.moment = f.moment ∙ sym g.moment in
    let payload : p.payload ≡ q.payload = f.payload ∙ sym g.payload in
    λ i. record { tuple = tuple i; segment = segment i; moment = moment i; payload = payload i }

-- what is a packet of a flow in a zone is one by its headers
pub flow_in_zone : (zone : ℕ) (p : Packet) (t : Tuple) (segment : Segment) (span : Span) → packet_in zone p ≡ packet.Flow t segment span
    → is_flow p ≡ true
flow_in_zone zone (packet.Flow u s x) t segment span e = refl
flow_in_zone zone (packet.Untracked why) t segment span e = ap is_flow e
flow_in_zone zone packet.Invalid t segment span e = ap is_flow e
flow_in_zone zone (packet.Error inner outer) t segment span e = ap is_flow e
