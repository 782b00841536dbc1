-- A verdict that fits from a mark on fits from any lower one: one case for each class.
use Rattle.std.proofs.Common.{ℕ, ◌+◌, ◌≤◌, List, [], ◌∷◌, max, arith, Option, inl, inr, ⊎_elim}
use Rattle.tuple_core.specs.declared.Tuple.{Tuple}
use Rattle.history_book.specs.Mark.{mark_past}
use Rattle.history_book.specs.Notes.{Happened}
use Rattle.history_book.specs.State.{Found}
use Rattle.history_book.specs.declared.event.Event.{Event}
use Rattle.history_book.specs.declared.event.Note.{Note}
use Rattle.history_book.specs.declared.record.Record.{Record}
use Rattle.history_book.specs.declared.sizes.Sizes.{Sizes}
use Rattle.history_book.specs.declared.verdict.Class.{Class}
use Rattle.history_book.specs.declared.verdict.Class.TheVariants as class
use Rattle.proto_rules.specs.declared.Outcome.{Outcome}
use Rattle.packet_path.specs.Packet.{FlowPacket}
use Rattle.packet_path.specs.Packet.{Given}
use Rattle.packet_path.specs.Unchanged.{LeavesEntry}
use Rattle.packet_path.specs.Error.{LooksUp}
use Rattle.packet_path.specs.Absent.{WasAbsent}
use Rattle.packet_path.specs.Begun.{WouldBegin}
use Rattle.packet_path.specs.declared.setup.Setup.{Setup}
use Rattle.packet_path.specs.Placed.{HasPlace, Placing}
use Rattle.packet_path.specs.Winner.{IsNewWinner, Meeting, MeetsWinner}
use Rattle.history_book.specs.declared.verdict.Translated.{Translated}
use Rattle.history_book.specs.declared.verdict.Translated.TheVariants.{Chosen, Plain}
use Rattle.packet_path.specs.Verdict.{AnswersFlow, FitsFrame, KillsAll}
use Rattle.packet_path.proofs.Growth.{error_still}

pub mark_past-le : (m n : ℕ) (notes : List Note) → m ≤ n → mark_past m notes ≤ mark_past n notes
mark_past-le m n [] le = le
mark_past-le m n (x ∷ xs) le = mark_past-le (max m (x.number + 1)) (max n (x.number + 1)) xs (omega arith)

pub happened_lower : (log : List Event) (m n : ℕ) (note : Note) → m ≤ n → Happened log n note → Happened log m note
happened_lower log m n note le h = record { event = h.event; later = omega (arith, h.later) }

pub absent_lower : (log : List Event) (m n : ℕ) (t : Tuple) (upto : ℕ) → m ≤ n → WasAbsent log n t upto → WasAbsent log m t upto
absent_lower log m n t upto le a = record { at = a.at; from = omega (arith, a.from); before = a.before; absent = a.absent }

begun_lower : (setup : Setup) (log : List Event) (m n : ℕ) (packet : FlowPacket) (translated : Translated) (reply : Tuple) (upto : ℕ)
    → m ≤ n → WouldBegin setup log n packet translated reply upto → WouldBegin setup log m packet translated reply upto
unfolding absent_lower
begun_lower setup log m n packet translated reply upto le b = record {
  starts = b.starts;
  absent = absent_lower log m n packet.tuple upto le b.absent;
  found = b.found;
}

new_lower : (m n : ℕ) (translated : Translated) (t : Tuple) (r : Record) → m ≤ n → IsNewWinner n translated t r
    → IsNewWinner m translated t r
new_lower m n Plain t r le h = λ has. omega (arith, h has)
new_lower m n (Chosen chosen taken_at) t r le h = omega (arith, h)

kills_lower : (log : List Event) (m n : ℕ) (packet : FlowPacket) (notes : List Note) → m ≤ n
    → KillsAll log n packet notes → KillsAll log m packet notes
kills_lower log m n packet [] le k = tt
kills_lower log m n packet (x ∷ xs) le (k, ks) =
    (record { happened = happened_lower log m n x le k.happened; found = k.found; live = k.live; kill = k.kill }, ks)

module _ (log : List Event) (m n : ℕ) (le : m ≤ n) where
  flow_lower : (given : Given) (own : List Note) (P Q : FlowPacket → ℕ → List Note → Type 0)
      → ((packet : FlowPacket) (j k : ℕ) (rest : List Note) → j ≤ k → P packet k rest → Q packet j rest)
      → AnswersFlow log n given own P → AnswersFlow log m given own Q
  flow_lower given own P Q then f = record {
    packet = f.packet;
    flow = f.flow;
    kills = f.kills;
    rest = f.rest;
    all = f.all;
    few = f.few;
    killed = kills_lower log m n f.packet f.kills le f.killed;
    fits = then f.packet (mark_past m f.kills) (mark_past n f.kills) f.rest (mark_past-le m n f.kills le) f.fits;
  }

  looked_lower : (inner : Tuple) (at : ℕ) (found : Option Found) → LooksUp log n inner at found → LooksUp log m inner at found
  looked_lower inner at found l = record { from = omega (arith, l.from, le); live = l.live }

  leaves_lower : (j k : ℕ) (packet : FlowPacket) (rest : List Note) (id at : ℕ) (outcome : Outcome) → j ≤ k
      → LeavesEntry log k packet rest id at outcome → LeavesEntry log j packet rest id at outcome
  leaves_lower j k packet rest id at outcome lower l = record {
    own = l.own;
    from = omega (arith, l.from, lower);
    found = l.found;
    live = l.live;
    named = l.named;
    step = l.step;
  }

  placed_lower : (setup : Setup) (sizes : Sizes) (j k : ℕ) (packet : FlowPacket) (rest last : List Note) (said : Placing) → j ≤ k
      → HasPlace setup sizes log k packet rest last said → HasPlace setup sizes log j packet rest last said
  placed_lower setup sizes j k packet rest last said lower h = record {
    dropped = h.dropped;
    claims = h.claims;
    own = h.own;
    found_at = h.found_at;
    begun = begun_lower setup log j k packet said.translated said.reply h.found_at lower h.begun;
    placed_at = h.placed_at;
    room = h.room;
    claimed = h.claimed;
  }

  winner_lower : (setup : Setup) (sizes : Sizes) (j k : ℕ) (packet : FlowPacket) (rest : List Note) (said : Meeting) → j ≤ k
      → MeetsWinner setup sizes log k packet rest said → MeetsWinner setup sizes log j packet rest said
  unfolding placed_lower
  winner_lower setup sizes j k packet rest said lower h = record {
    reply = h.reply;
    unclaimed = h.unclaimed;
    master = h.master;
    placed = placed_lower setup sizes j k packet rest [] _ lower h.placed;
    silent = h.silent;
    found = h.found;
    live = h.live;
    named = h.named;
    merge = h.merge;
    new = new_lower j k said.translated packet.tuple h.found.subject lower h.new;
    room = h.room;
  }

  pub frame_lower : (setup : Setup) (sizes : Sizes) (given : Given) (own : List Note) (verdict : Class)
      → FitsFrame setup sizes log n given own verdict → FitsFrame setup sizes log m given own verdict
  frame_lower setup sizes given own (class.Untracked why) f = f
  frame_lower setup sizes given own class.BadHeader f = f
  frame_lower setup sizes given own (class.NoEntry at) f =
      flow_lower given own _ _
      (λ packet j k rest lower b. record {
        own = b.own;
        from = omega (arith, b.from, lower);
        absent = b.absent;
        starts = b.starts;
      }) f
  frame_lower setup sizes given own (class.BadState id at) f =
      flow_lower given own _ _ (λ packet j k rest lower l. leaves_lower j k packet rest id at _ lower l) f
  frame_lower setup sizes given own (class.ErrorLost at) f =
      error_still given own _ _ (λ inner outer l. looked_lower inner at _ l) f
  frame_lower setup sizes given own (class.ErrorAddress id at) f =
      error_still given own _ _
      (λ inner outer l. record {
        found = l.found;
        looked = looked_lower inner at _ l.looked;
        named = l.named;
        address = l.address;
      }) f
  frame_lower setup sizes given own (class.Error direction id at) f =
      error_still given own _ _
      (λ inner outer l. record {
        found = l.found;
        looked = looked_lower inner at _ l.looked;
        named = l.named;
        directed = l.directed;
        address = l.address;
      }) f
  frame_lower setup sizes given own (class.Made id at translated unclaimed) f =
      flow_lower given own _ _
      (λ packet j k rest lower h. record {
        subject = h.subject;
        happened = happened_lower log j k _ lower h.happened;
        named = h.named;
        started = h.started;
        placed = placed_lower setup sizes j k packet rest _ _ lower h.placed;
        point = h.point;
      }) f
  frame_lower setup sizes given own (class.Passed label id at ftp) f =
      flow_lower given own _ _
      (λ packet j k rest lower h. record {
        note = h.note;
        found = h.found;
        further = h.further;
        own = h.own;
        happened = happened_lower log j k h.note lower h.happened;
        passing = h.passing;
        live = h.live;
        named = h.named;
        labelled = h.labelled;
        point = h.point;
      }) f
  frame_lower setup sizes given own (class.Ignored id at) f =
      flow_lower given own _ _ (λ packet j k rest lower l. leaves_lower j k packet rest id at _ lower l) f
  frame_lower setup sizes given own (class.Merged id at translated) f =
      flow_lower given own _ _ (λ packet j k rest lower h. winner_lower setup sizes j k packet rest _ lower h) f
  frame_lower setup sizes given own (class.Clash id at translated) f =
      flow_lower given own _ _ (λ packet j k rest lower h. winner_lower setup sizes j k packet rest _ lower h) f
  frame_lower setup sizes given own (class.NoPort from to) f =
      flow_lower given own _ _
      (λ packet j k rest lower h. record {
        own = h.own;
        starts = h.starts;
        absent = absent_lower log j k packet.tuple from lower h.absent;
        taken = h.taken;
      }) f
  frame_lower setup sizes given own (class.Full from at) f =
      flow_lower given own _ _
      (λ packet j k rest lower h. record {
        dropped = h.dropped;
        own = h.own;
        translated = h.translated;
        reply = h.reply;
        begun = begun_lower setup log j k packet h.translated h.reply from lower h.begun;
        stays = h.stays;
      }) f
  frame_lower setup sizes given own (class.Contended id at) f =
      record {
        four = f.four;
        stands = flow_lower given own _ _
            (λ packet j k rest lower h.
            ⊎_elim (λ l. inl (leaves_lower j k packet rest id at _ lower l)) (λ l. inr (leaves_lower j k packet rest id at _ lower l)) h) f.stands;
      }
