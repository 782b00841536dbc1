-- Attempts that follow one another, over what the desk knew.
use Rattle.std.proofs.Common.{◌≡◌, ℕ, ◌≤◌, List, [], ◌∷◌, ◌++◌, length, None, refl, sym, ap, subst, ◌∙◌, arith, append_assoc, length-append}
use Rattle.std.specs.List.{AllByRecursion}
use Rattle.std.proofs.lemmas.List.{append-nil}
use Rattle.tuple_core.specs.declared.Tuple.{Tuple}
use Rattle.history_book.specs.declared.event.Event.{Event}
use Rattle.history_book.specs.declared.event.Note.{Note}
use Rattle.history_book.specs.declared.sizes.Sizes.{Sizes}
use Rattle.history_book.specs.declared.verdict.Class.{Class}
use Rattle.history_book.specs.Desk.{Takes}
use Rattle.history_book.specs.WentOn.{Saw, WentOn}
use Rattle.history_book.specs.Laws.{EventsStay, StatesStay}
use Rattle.history_book.specs.Mark.{mark_past}
use Rattle.history_book.specs.Point.{At, StartsWith}
use Rattle.history_book.specs.Sight.{Sight}
use Rattle.history_book.specs.SightLaws.{GoingOnAddsUp, SeeingAddsUp}
use Rattle.history_book.specs.State.{live_under}
use Rattle.packet_path.specs.declared.attempt.Attempt.{Attempt}
use Rattle.packet_path.specs.declared.attempt.Attempt.TheVariants.{Again, Done, Killed}
use Rattle.packet_path.specs.Packet.{FlowPacket}
use Rattle.packet_path.specs.Absent.{WasAbsent}
use Rattle.packet_path.specs.Internal.Attempt.{Answers, AttemptSays, KilledOne}
use Rattle.packet_path.specs.Packet.{Given, IsFlow}
use Rattle.packet_path.specs.declared.setup.Setup.{Setup}
use Rattle.history_book.specs.Mark.{points_of}
use Rattle.packet_path.specs.Verdict.{AnswersFlow, FitsFrame, KillsAll}
use Rattle.packet_path.proofs.Growth.{at_grows, frame_grows, kills_all_grows, kills_grows}
use Rattle.packet_path.proofs.Marks.{happened_lower}

pub starts_refl : (l : List Event) → StartsWith l l
starts_refl l = ([], sym (append-nil l))

pub starts_trans : (c b a : List Event) → StartsWith c b → StartsWith b a → StartsWith c a
starts_trans c b a (r, e) (q, f) =
    (q ++ r, e ∙ ap (λ (l : List Event). l ++ r) f ∙ append_assoc a q r)

pub starts_longer : (b a : List Event) → StartsWith b a → length a ≤ length b
starts_longer b a (r, e) = omega (arith, ap length e, length-append a r)

pub points_more : (m n : ℕ) (ps : List ℕ) → m ≤ n → AllByRecursion (λ p. p ≤ m) ps → AllByRecursion (λ p. p ≤ n) ps
points_more m n [] le h = tt
points_more m n (p ∷ ps) le (h, hs) = (omega (arith, h), points_more m n ps le hs)

-- a desk that took a place went on without an event
pub placed_went : (a b : Sight) (place : ℕ) → Takes a b place → WentOn a b []
placed_went a b place takes =
    let went : WentOn a (record b { taken = a.taken }) [] = takes.saw.went in
    record {
      front = went.front;
      own = went.own;
      spare = went.spare;
      pass = record {
        tracker = went.pass.tracker;
        sizes = went.pass.sizes;
        shares = went.pass.shares;
        returned = went.pass.returned;
        gathered = went.pass.gathered;
      };
    }

module _ (states : StatesStay) (events : EventsStay) (going : GoingOnAddsUp) (twice : SeeingAddsUp) where
  -- an answer of a desk that went on without an event is one of the desk before
  pub answers_on : (setup : Setup) (a b c : Sight) (packet : FlowPacket) (n from : ℕ) (k : Class) → WentOn a b [] → Answers setup b c packet n from k
      → Answers setup a c packet n from k
  answers_on setup a b c packet n from k went ans = record {
    rest = ans.rest;
    went = going.twice a b c [] ans.rest went ans.went;
    few = ans.few;
    points = ans.points;
    fits = λ given mark kills flow count killed le.
        subst (λ (z : Sizes). FitsFrame setup z c.front mark given (kills ++ ans.rest) k) went.pass.sizes
        (ans.fits given mark kills flow count (kills_all_grows events states b.front a.front went.front mark packet kills killed) le);
  }

  -- an answer of a desk that had seen more is one of a desk that had seen less
  pub answers_after : (setup : Setup) (a b c : Sight) (packet : FlowPacket) (n from : ℕ) (k : Class) → Saw a b → Answers setup b c packet n from k
      → Answers setup a c packet n from k
  answers_after setup a b c packet n from k saw ans = answers_on setup a b c packet n from k saw.went ans

  -- an answer stays when the desk sees more
  pub answers_before : (setup : Setup) (a b c : Sight) (packet : FlowPacket) (n from : ℕ) (k : Class) → Answers setup a b packet n from k → Saw b c
      → Answers setup a c packet n from k
  answers_before setup a b c packet n from k ans saw = record {
    rest = ans.rest;
    went = going.before a b c ans.rest ans.went saw;
    few = ans.few;
    points = points_more (length b.front) (length c.front) (points_of k) (starts_longer c.front b.front saw.went.front) ans.points;
    fits = λ given mark kills flow count killed le.
        frame_grows events states c.front b.front saw.went.front setup a.sizes mark given (kills ++ ans.rest) k
        (ans.fits given mark kills flow count killed le);
  }

  pub killed_after : (a b c : Sight) (packet : FlowPacket) (n from : ℕ) → Saw a b → KilledOne b c packet n from → KilledOne a c packet n from
  killed_after a b c packet n from saw one = record {
    few = one.few;
    note = one.note;
    went = going.after a b c (one.note ∷ []) saw one.went;
    high = one.high;
    kill = one.kill;
  }

  pub killed_before : (a b c : Sight) (packet : FlowPacket) (n from : ℕ) → KilledOne a b packet n from → Saw b c → KilledOne a c packet n from
  killed_before a b c packet n from one saw = record {
    few = one.few;
    note = one.note;
    went = going.before a b c (one.note ∷ []) one.went saw;
    high = omega (arith, one.high, starts_longer c.front b.front saw.went.front);
    kill = kills_grows events states c.front b.front saw.went.front from packet one.note one.kill;
  }

  pub attempt_after : (setup : Setup) (a b c : Sight) (packet : FlowPacket) (n from : ℕ) (r : Attempt) → Saw a b → AttemptSays setup b c packet n from r
      → AttemptSays setup a c packet n from r
  attempt_after setup a b c packet n from (Done k) saw h = answers_after setup a b c packet n from k saw h
  attempt_after setup a b c packet n from Killed saw h = killed_after a b c packet n from saw h
  attempt_after setup a b c packet n from Again saw h = twice a b c saw h

  pub attempt_before : (setup : Setup) (a b c : Sight) (packet : FlowPacket) (n from : ℕ) (r : Attempt) → AttemptSays setup a b packet n from r → Saw b c
      → AttemptSays setup a c packet n from r
  attempt_before setup a b c packet n from (Done k) h saw = answers_before setup a b c packet n from k h saw
  attempt_before setup a b c packet n from Killed h saw = killed_before a b c packet n from h saw
  attempt_before setup a b c packet n from Again h saw = twice a b c h saw

  -- an attempt that answers from a point on answers from any earlier one on
  pub answers_from : (setup : Setup) (a b : Sight) (packet : FlowPacket) (n f from : ℕ) (k : Class) → f ≤ from → Answers setup a b packet n from k
      → Answers setup a b packet n f k
  answers_from setup a b packet n f from k le ans = record {
    rest = ans.rest;
    went = ans.went;
    few = ans.few;
    points = ans.points;
    fits = λ given mark kills flow count killed h. ans.fits given mark kills flow count killed (omega (arith, h));
  }

  pub attempt_from : (setup : Setup) (a b : Sight) (packet : FlowPacket) (n f from : ℕ) (r : Attempt) → f ≤ from → AttemptSays setup a b packet n from r
      → AttemptSays setup a b packet n f r
  attempt_from setup a b packet n f from (Done k) le h = answers_from setup a b packet n f from k le h
  attempt_from setup a b packet n f from Killed le h = record {
    few = h.few;
    note = h.note;
    went = h.went;
    high = h.high;
    kill = record {
      happened = happened_lower b.front f from h.note le h.kill.happened;
      found = h.kill.found;
      live = h.kill.live;
      kill = h.kill.kill;
    };
  }
  attempt_from setup a b packet n f from Again le h = h

module _ (states : StatesStay) (events : EventsStay) where
  -- what is said of a packet after its kills
  pub flow_answer : (longer log : List Event) (starts : StartsWith longer log) (mark : ℕ) (given : Given) (packet : FlowPacket)
      (kills rest : List Note) (P : FlowPacket → ℕ → List Note → Type 0) → IsFlow given packet → length kills ≤ 4
      → KillsAll log mark packet kills → P packet (mark_past mark kills) rest
      → AnswersFlow longer mark given (kills ++ rest) P
  flow_answer longer log starts mark given packet kills rest P flow few killed fits = record {
    packet = packet;
    flow = flow;
    kills = kills;
    rest = rest;
    all = refl;
    few = few;
    killed = kills_all_grows events states longer log starts mark packet kills killed;
    fits = fits;
  }

  -- an answer without an event
  pub silent_answer : (setup : Setup) (old new : Sight) (packet : FlowPacket) (n from : ℕ) (k : Class) → Saw old new
      → AllByRecursion (λ p. p ≤ length new.front) (points_of k)
      → ((given : Given) (mark : ℕ) (kills : List Note) → IsFlow given packet → length kills ≡ n
      → KillsAll old.front mark packet kills → mark_past mark kills ≤ from
      → FitsFrame setup old.sizes new.front mark given (kills ++ []) k)
      → Answers setup old new packet n from k
  silent_answer setup old new packet n from k saw points fits = record {
    rest = [];
    went = saw.went;
    few = omega arith;
    points = points;
    fits = fits;
  }

  -- such an answer, at a point of what the desk sees
  pub silent : (setup : Setup) (old new : Sight) (packet : FlowPacket) (n from at : ℕ) (k : Class) → Saw old new → at ≤ length new.front
      → points_of k ≡ at ∷ []
      → ((given : Given) (mark : ℕ) (kills : List Note) → IsFlow given packet → length kills ≡ n
      → KillsAll old.front mark packet kills → mark_past mark kills ≤ from
      → FitsFrame setup old.sizes new.front mark given (kills ++ []) k)
      → Answers setup old new packet n from k
  silent setup old new packet n from at k saw within points fits =
      silent_answer setup old new packet n from k saw (subst (AllByRecursion (λ p. p ≤ length new.front)) (sym points) (within, tt)) fits

  -- what was absent at a point from `from` on was so from each earlier one on
  unfoldable pub absent_upto : (longer log : List Event) (k absent_at upto : ℕ) (t : Tuple) → StartsWith longer log → k ≤ absent_at
      → absent_at ≤ upto → At log absent_at (λ s. live_under t s ≡ None) → WasAbsent longer k t upto
  absent_upto longer log k absent_at upto t starts low high absent = record {
    at = absent_at;
    from = low;
    before = high;
    absent = at_grows states longer log absent_at (λ s. live_under t s ≡ None) starts absent;
  }
