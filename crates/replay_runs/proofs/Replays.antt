-- What a replay has done so far.
use Rattle.std.proofs.Common.{◌≡◌, ℕ, ◌+◌, ◌*◌, ◌-◌, ◌<◌, ◌≤◌, List, [], ◌∷◌, ◌++◌, length, map, take, drop, get_or, refl, sym, ap, subst, ◌∙◌, arith, length-append, length-drop}
use Rattle.std.proofs.lemmas.List.{drop-append-le, get_or-map, take-append-le, take_more}
use Rattle.std.proofs.Math.Seq.{drop-length, take-length}
use Rattle.room_list.specs.Roomed.{Roomed}
use Rattle.history_book.specs.declared.event.Event.{Event}
use Rattle.history_book.specs.declared.event.Note.{Note}
use Rattle.history_book.specs.declared.sizes.Sizes.{Sizes}
use Rattle.history_book.specs.declared.verdict.Verdict.{Verdict}
use Rattle.history_book.specs.Mark.{mark_after_packet, mark_past, points_of}
use Rattle.history_book.specs.Point.{StartsWith}
use Rattle.history_book.specs.Sight.{IsKnown, Sight}
use Rattle.history_book.specs.SightLaws.{GoingOnAddsUp}
use Rattle.history_book.specs.WentOn.{WentOn}
use Rattle.packet_headers.specs.declared.frame.Frame.{Frame}
use Rattle.packet_path.specs.declared.setup.Setup.{Setup}
use Rattle.packet_path.specs.Handled.{counted_from, Handled}
use Rattle.packet_path.specs.Laws.{LowerMarksFit, VerdictsStillFit}
use Rattle.packet_path.specs.Packet.{Given, given_of}
use Rattle.packet_path.specs.Verdict.{FitsFrame}
use Rattle.replay_runs.specs.Internal.Replayed.{Replayed, tracker_with}
use Rattle.replay_runs.specs.Report.{at_start, past_packet, past_verdicts, Progress, TrackerSetup, VerdictFits, VerdictsFit}
use Rattle.replay_runs.proofs.Marks.{mark_at-le, mark_past-le, own_below}

-- so many of the packets were handled
pub record IsReplayed (setup : Setup) (packets : List Given) (index : ℕ) (old new : Sight) (verdicts : Roomed Verdict) : Type 0 where
  pub own : List Note
  pub went : WentOn old new own
  pub few : length own ≤ 8 * index
  pub fit : VerdictsFit (tracker_with setup old) new.front own at_start (take index packets) verdicts.items
  pub mark : (past_verdicts at_start own verdicts.items).mark ≤ length new.front
  pub counted : length verdicts.items ≡ index
  pub room : length packets ≤ verdicts.room
  pub held : new.held ≡ []
  pub owed : new.owed ≡ []
  pub known : IsKnown new

module _ (still : VerdictsStillFit) (tracker : TrackerSetup) (longer log : List Event) (starts : StartsWith longer log) where
  -- verdicts fit when the history goes on
  pub notes_still_fit : (mine : List Note) (now : Progress) (ps : List Given) (vs : List Verdict)
      → VerdictsFit tracker log mine now ps vs → VerdictsFit tracker longer mine now ps vs
  notes_still_fit mine now [] [] fit = fit
  notes_still_fit mine now [] (w ∷ vs) fit = absurd fit
  notes_still_fit mine now (q ∷ ps) [] fit = absurd fit
  notes_still_fit mine now (q ∷ ps) (w ∷ vs) (f, fs) = (
    record {
      starts = f.starts;
      within = f.within;
      fits = still tracker.setup tracker.sizes log longer now.mark q (take w.made mine) w.class starts f.fits;
    },
    notes_still_fit (drop w.made mine) (past_packet now mine w) ps vs fs,
  )

-- what a verdict more needs
pub record NewVerdict (tracker : TrackerSetup) (log : List Event) (own : List Note) (now : Progress) (packet : Given) (v : Verdict) : Type 0 where
  pub starts : v.first ≡ now.first
  pub made : v.made ≡ length own
  pub fits : FitsFrame tracker.setup tracker.sizes log now.mark packet own v.class

module _ (tracker : TrackerSetup) (log : List Event) where
  -- the verdict that made all that is left
  last_verdict : (own : List Note) (now : Progress) (p : Given) (v : Verdict)
      → NewVerdict tracker log own now p v → VerdictFits tracker log own now p v × (drop v.made own ≡ [])
  last_verdict own now p v new =
      let same : own ≡ take v.made own = sym (ap (λ n. take n own) new.made ∙ take-length own) in (
        record {
          starts = new.starts;
          within = omega (arith, new.made);
          fits = subst (λ xs. FitsFrame tracker.setup tracker.sizes log now.mark p xs v.class) same new.fits;
        },
        ap (λ n. drop n own) new.made ∙ drop-length own,
      )

  -- a verdict fits when its thread makes more events
  verdict_stays : (mine own : List Note) (now : Progress) (p : Given) (v : Verdict)
      → VerdictFits tracker log mine now p v → VerdictFits tracker log (mine ++ own) now p v
  verdict_stays mine own now p v f =
      let same : take v.made mine ≡ take v.made (mine ++ own) = sym (take-append-le v.made mine own f.within) in
      record {
        starts = f.starts;
        within = omega (arith, f.within, length-append mine own);
        fits = subst (λ xs. FitsFrame tracker.setup tracker.sizes log now.mark p xs v.class) same f.fits;
      }

  -- how far the thread is then does not change by them
  past_stays : (mine own : List Note) (now : Progress) (p : Given) (v : Verdict) → VerdictFits tracker log mine now p v
      → past_packet now (mine ++ own) v ≡ past_packet now mine v
  past_stays mine own now p v f =
      ap (λ (xs : List Note). record { first = now.first + v.made; index = now.index + 1; mark = mark_after_packet now.mark xs v.class })
      (take-append-le v.made mine own f.within)

  -- one verdict more
  verdicts_push : (mine own : List Note) (now : Progress) (ps : List Given) (vs : List Verdict)
      (p : Given) (v : Verdict) → VerdictsFit tracker log mine now ps vs
      → NewVerdict tracker log own (past_verdicts now mine vs) p v
      → VerdictsFit tracker log (mine ++ own) now (ps ++ p ∷ []) (vs ++ v ∷ [])
  verdicts_push mine own now [] [] p v fit new =
      subst (λ xs. VerdictsFit tracker log (xs ++ own) now (p ∷ []) (v ∷ [])) (sym fit) (last_verdict own now p v new)
  verdicts_push mine own now [] (w ∷ vs) p v fit new = absurd fit
  verdicts_push mine own now (q ∷ ps) [] p v fit new = absurd fit
  verdicts_push mine own now (q ∷ ps) (w ∷ vs) p v (f, fs) new =
      let rest = verdicts_push (drop w.made mine) own (past_packet now mine w) ps vs p v fs new in
      let dropped : drop w.made mine ++ own ≡ drop w.made (mine ++ own) = sym (drop-append-le w.made mine own f.within) in (
        verdict_stays mine own now q w f,
        subst (λ xs. VerdictsFit tracker log xs (past_packet now (mine ++ own) w) (ps ++ p ∷ []) (vs ++ v ∷ [])) dropped
            (subst (λ (then : Progress). VerdictsFit tracker log (drop w.made mine ++ own) then (ps ++ p ∷ []) (vs ++ v ∷ []))
            (sym (past_stays mine own now q w f)) rest),
      )

  -- how far the thread is after one verdict more
  past_push : (mine own : List Note) (now : Progress) (ps : List Given) (vs : List Verdict)
      (v : Verdict) → VerdictsFit tracker log mine now ps vs
      → past_verdicts now (mine ++ own) (vs ++ v ∷ []) ≡ past_packet (past_verdicts now mine vs) own v
  past_push mine own now [] [] v fit = ap (λ xs. past_packet now (xs ++ own) v) fit
  past_push mine own now [] (w ∷ vs) v fit = absurd fit
  past_push mine own now (q ∷ ps) [] v fit = absurd fit
  past_push mine own now (q ∷ ps) (w ∷ vs) v (f, fs) =
      ap (λ (then : Progress). past_verdicts then (drop w.made (mine ++ own)) (vs ++ v ∷ [])) (past_stays mine own now q w f)
      ∙ ap (λ xs. past_verdicts (past_packet now mine w) xs (vs ++ v ∷ [])) (drop-append-le w.made mine own f.within)
      ∙ past_push (drop w.made mine) own (past_packet now mine w) ps vs v fs

  -- it has made all of the events
  first_past : (mine : List Note) (now : Progress) (ps : List Given) (vs : List Verdict)
      → VerdictsFit tracker log mine now ps vs → (past_verdicts now mine vs).first ≡ now.first + length mine
  first_past mine now [] [] fit = omega (arith, ap length fit)
  first_past mine now [] (w ∷ vs) fit = absurd fit
  first_past mine now (q ∷ ps) [] fit = absurd fit
  first_past mine now (q ∷ ps) (w ∷ vs) (f, fs) =
      omega (arith, first_past (drop w.made mine) (past_packet now mine w) ps vs fs, length-drop w.made mine, f.within)

-- no packet was handled yet
pub replayed_start : GoingOnAddsUp → (setup : Setup) (packets : List Given) (old : Sight) (verdicts : Roomed Verdict) → IsKnown old
    → verdicts.items ≡ [] → length packets ≤ verdicts.room → old.held ≡ [] → old.owed ≡ [] → IsReplayed setup packets 0 old old verdicts
replayed_start going setup packets old verdicts known none room held owed = record {
  own = [];
  went = (going.resting old).went;
  few = omega arith;
  fit = subst (λ vs. VerdictsFit (tracker_with setup old) old.front [] at_start [] vs) (sym none) refl;
  mark = subst (λ vs. (past_verdicts at_start [] vs).mark ≤ length old.front) (sym none) (omega arith);
  counted = ap length none;
  room = room;
  held = held;
  owed = owed;
  known = known;
}

module _ (going : GoingOnAddsUp) (still : VerdictsStillFit) (lower : LowerMarksFit) (setup : Setup) (packets : List Given) (d : Given) (index : ℕ)
    (old mid new : Sight) (verdicts more : Roomed Verdict) (v : Verdict) (so_far : IsReplayed setup packets index old mid verdicts)
    (handled : Handled setup (get_or packets index d) mid new v) (known : IsKnown new) where
  longer : length mid.front ≤ length new.front
  longer = omega (arith, ap length handled.went.front.1, length-append mid.front handled.went.front.0)

  before : Progress
  before = past_verdicts at_start so_far.own verdicts.items

  next_mark : (past_verdicts at_start (so_far.own ++ handled.own) (verdicts.items ++ counted_from (length old.own) v ∷ [])).mark
      ≤ length new.front
  unfolding before
  next_mark =
      let end : ℕ = length new.front in
      let all : take v.made handled.own ≡ handled.own = ap (λ n. take n handled.own) handled.made ∙ take-length handled.own in
      rw (past_push (tracker_with setup old) mid.front so_far.own handled.own at_start (take index packets)
      verdicts.items (counted_from (length old.own) v) so_far.fit)
      (subst (λ xs. mark_after_packet before.mark xs v.class ≤ end) (sym all)
      (mark_at-le end (mark_past before.mark handled.own) (points_of v.class)
      (mark_past-le end before.mark handled.own (omega (arith, so_far.mark, longer)) (own_below new mid.own handled.own known handled.went.own))
      handled.points))

  next_verdict : NewVerdict (tracker_with setup old) new.front handled.own before (get_or packets index d) (counted_from (length old.own) v)
  unfolding before
  next_verdict = record {
    starts = omega (
      arith,
      handled.first,
      ap length so_far.went.own,
      length-append old.own so_far.own,
      first_past (tracker_with setup old) mid.front so_far.own at_start (take index packets) verdicts.items so_far.fit,
    );
    made = handled.made;
    fits = lower setup old.sizes new.front before.mark (length mid.front) (get_or packets index d)
        handled.own v.class so_far.mark
        (subst (λ (z : Sizes). FitsFrame setup z new.front (length mid.front) (get_or packets index d) handled.own v.class)
        so_far.went.pass.sizes handled.fits);
  }

  next_fit : index < length packets → VerdictsFit (tracker_with setup old) new.front (so_far.own ++ handled.own) at_start
      (take (index + 1) packets) (verdicts.items ++ counted_from (length old.own) v ∷ [])
  unfolding before
  next_fit below =
      subst (λ ps. VerdictsFit (tracker_with setup old) new.front (so_far.own ++ handled.own) at_start ps
      (verdicts.items ++ counted_from (length old.own) v ∷ []))
      (sym (take_more packets index d below))
      (verdicts_push (tracker_with setup old) new.front so_far.own handled.own at_start
      (take index packets) verdicts.items (get_or packets index d) (counted_from (length old.own) v)
      (notes_still_fit still (tracker_with setup old) new.front mid.front handled.went.front so_far.own at_start (take index packets)
      verdicts.items so_far.fit)
      next_verdict)

  -- one packet more was handled
  pub replayed_next : index < length packets → more.items ≡ verdicts.items ++ counted_from (length old.own) v ∷ []
      → more.room ≡ verdicts.room → IsReplayed setup packets (index + 1) old new more
  replayed_next below items room = record {
    own = so_far.own ++ handled.own;
    went = going.twice old mid new so_far.own handled.own so_far.went handled.went;
    few = omega (arith, so_far.few, handled.few, length-append so_far.own handled.own);
    fit = subst (λ vs. VerdictsFit (tracker_with setup old) new.front (so_far.own ++ handled.own) at_start (take (index + 1) packets) vs)
        (sym items) (next_fit below);
    mark = subst (λ vs. (past_verdicts at_start (so_far.own ++ handled.own) vs).mark ≤ length new.front) (sym items) next_mark;
    counted = ap length items ∙ length-append verdicts.items (counted_from (length old.own) v ∷ []) ∙ ap (λ n. n + 1) so_far.counted;
    room = omega (arith, so_far.room, room);
    held = handled.held;
    owed = handled.owed;
    known = known;
  }

-- what is handled of a frame is handled of what was given of it
pub handled_at : (setup : Setup) (old new : Sight) (index zone : ℕ) (bytes : List ℕ) (frames : List Frame) (d : Frame) (e : Given) (v : Verdict)
    → index < length frames → Handled setup (given_of zone bytes (get_or frames index d)) old new v
    → Handled setup (get_or (map (given_of zone bytes) frames) index e) old new v
handled_at setup old new index zone bytes frames d e v below handled =
    subst (λ g. Handled setup g old new v) (sym (get_or-map (given_of zone bytes) frames index d e below)) handled

-- all packets were handled
pub replayed_all : (setup : Setup) (packets : List Given) (index : ℕ) (old new : Sight) (verdicts : Roomed Verdict)
    → IsReplayed setup packets index old new verdicts → index ≡ length packets → Replayed setup packets old new verdicts.items
replayed_all setup packets index old new verdicts done all = record {
  own = done.own;
  went = done.went;
  few = omega (arith, done.few, all);
  fit = subst (λ ps. VerdictsFit (tracker_with setup old) new.front done.own at_start ps verdicts.items)
      (ap (λ n. take n packets) all ∙ take-length packets) done.fit;
  mark = done.mark;
  held = done.held;
  owed = done.owed;
  known = done.known;
}
