-- A thread that makes each event that is still to come has seen none of them: its mark is not above the next of them.
use Rattle.std.proofs.Common.{◌≡◌, ℕ, zero, suc, ◌+◌, ◌≤◌, List, [], ◌∷◌, length, take, drop, max, ap, refl, sym, subst, ◌∙◌, arith}
use Rattle.history_book.specs.declared.event.Event.{Event}
use Rattle.history_book.specs.declared.event.Note.{Note}
use Rattle.history_book.specs.declared.verdict.Class.{Class}
use Rattle.history_book.specs.declared.verdict.Verdict.{Verdict}
use Rattle.history_book.specs.Mark.{mark_after_packet, mark_at, mark_past, points_of}
use Rattle.packet_path.specs.Packet.{Given}
use Rattle.packet_path.specs.Verdict.{FitsFrame}
use Rattle.replay_runs.specs.Report.{past_packet, Progress, TrackerSetup, VerdictsFit}
use Rattle.replay_laws.proofs.First.{first_is_later}
use Rattle.replay_laws.proofs.Noted.{noted}
use Rattle.replay_laws.proofs.Within.{AreWithin, points_within}

-- ---- numbered events

pub noted_take : (n k : ℕ) (es : List Event) → take k (noted n es) ≡ noted n (take k es)
noted_take n zero es = refl
noted_take n (suc k) [] = refl
noted_take n (suc k) (e ∷ es) = ap (λ (ns : List Note). record { number = n; event = e } ∷ ns) (noted_take (n + 1) k es)

pub noted_drop : (n k : ℕ) (es : List Event) → k ≤ length es → drop k (noted n es) ≡ noted (n + k) (drop k es)
noted_drop n zero es within = let same : n + 0 ≡ n = omega arith in ap (λ (m : ℕ). noted m es) (sym same)
noted_drop n (suc k) [] within = absurd (omega (arith, within))
noted_drop n (suc k) (e ∷ es) within =
    let same : n + 1 + k ≡ n + suc k = omega arith in
    noted_drop (n + 1) k es (omega (arith, within)) ∙ ap (λ (m : ℕ). noted m (drop k es)) same

pub noted_length : (n : ℕ) (es : List Event) → length (noted n es) ≡ length es
noted_length n [] = refl
noted_length n (e ∷ es) = ap suc (noted_length (n + 1) es)

pub noted_none : (n : ℕ) (es : List Event) → noted n es ≡ [] → es ≡ []
noted_none n [] none = refl
noted_none n (e ∷ es) none = absurd (cc)

-- ---- marks

pub past_up : (mark : ℕ) (notes : List Note) → mark ≤ mark_past mark notes
past_up mark [] = omega arith
past_up mark (x ∷ xs) = let up : max mark (x.number + 1) ≤ mark_past (max mark (x.number + 1)) xs = past_up (max mark (x.number + 1)) xs in omega (arith, up)

pub at_up : (mark : ℕ) (points : List ℕ) → mark ≤ mark_at mark points
at_up mark [] = omega arith
at_up mark (p ∷ ps) = let up : max mark p ≤ mark_at (max mark p) ps = at_up (max mark p) ps in omega (arith, up)

-- the mark at points is none below them
pub at_each : (most mark : ℕ) (points : List ℕ) → mark_at mark points ≤ most → AreWithin most points
at_each most mark [] le = tt
at_each most mark (p ∷ ps) le =
    let up : max mark p ≤ mark_at (max mark p) ps = at_up (max mark p) ps in
    (omega (arith, up, le), at_each most (max mark p) ps le)

pub at_most : (most mark : ℕ) (points : List ℕ) → mark ≤ most → AreWithin most points → mark_at mark points ≤ most
at_most most mark [] le h = le
at_most most mark (p ∷ ps) le (h, hs) = at_most most (max mark p) ps (omega (arith, le, h)) hs

-- the mark past numbered events is at least just behind them, and at most so where it was not ahead
pub past_least : (n mark : ℕ) (es : List Event) → n + length es ≤ max n (mark_past mark (noted n es))
past_least n mark [] = omega arith
past_least n mark (e ∷ es) =
    let more : n + 1 + length es ≤ max (n + 1) (mark_past (max mark (n + 1)) (noted (n + 1) es)) = past_least (n + 1) (max mark (n + 1)) es in
    let up : max mark (n + 1) ≤ mark_past (max mark (n + 1)) (noted (n + 1) es) = past_up (max mark (n + 1)) (noted (n + 1) es) in
    omega (arith, more, up)

pub past_most : (n mark most : ℕ) (es : List Event) → n + length es ≤ most → mark ≤ most → mark_past mark (noted n es) ≤ most
past_most n mark most [] within le = le
past_most n mark most (e ∷ es) within le = past_most (n + 1) (max mark (n + 1)) most es (omega (arith, within)) (omega (arith, within, le))

-- ---- the mark of the one thread

-- some of these events are no more than all
pub taken_within : (n k most : ℕ) (es : List Event) → n + length es ≡ most → n + length (take k es) ≤ most
taken_within n zero most es whole = omega (arith, whole)
taken_within n (suc k) most [] whole = omega (arith, whole)
taken_within n (suc k) most (e ∷ es) whole = let rest = taken_within (n + 1) k most es (omega (arith, whole)) in omega (arith, rest)

module _ (tracker : TrackerSetup) (log : List Event) where
  -- after a verdict the mark is within the history
  pub next_within : (n mark made : ℕ) (es : List Event) (given : Given) (verdict : Class) → mark ≤ length log → n + length es ≡ length log
      → FitsFrame tracker.setup tracker.sizes log mark given (take made (noted n es)) verdict
      → mark_after_packet mark (take made (noted n es)) verdict ≤ length log
  next_within n mark made es given verdict le whole fits =
      let past : mark_past mark (take made (noted n es)) ≤ length log =
      subst (λ (ns : List Note). mark_past mark ns ≤ length log) (sym (noted_take n made es))
      (past_most n mark (length log) (take made es) (taken_within n made (length log) es whole) le) in
      at_most (length log) (mark_past mark (take made (noted n es))) (points_of verdict) past
      (points_within log tracker.setup tracker.sizes mark given (take made (noted n es)) verdict fits)

  -- a packet that made the next event was not ahead of it; else the mark is no higher than that after the packet
  by_made : (n mark made : ℕ) (es : List Event) (given : Given) (verdict : Class) → mark ≤ length log → n + length es ≡ length log
      → FitsFrame tracker.setup tracker.sizes log mark given (take made (noted n es)) verdict → (made ≡ 0 → mark ≤ n) → mark ≤ n
  by_made n mark zero es given verdict le whole fits silent = silent refl
  by_made n mark (suc k) [] given verdict le whole fits silent = omega (arith, le, whole)
  by_made n mark (suc k) (e ∷ es) given verdict le whole fits silent =
      first_is_later log mark given (record { number = n; event = e }) (take k (noted (n + 1) es)) tracker.setup tracker.sizes verdict fits

  none_left : (n mark : ℕ) (es : List Event) → mark ≤ length log → n + length es ≡ length log → noted n es ≡ [] → mark ≤ n
  none_left n mark [] le whole none = omega (arith, le, whole)
  none_left n mark (e ∷ es) le whole none = absurd (cc)

  pub mark_not_above : (n : ℕ) (es : List Event) (now : Progress) (gs : List Given) (vs : List Verdict)
      → VerdictsFit tracker log (noted n es) now gs vs → now.mark ≤ length log → n + length es ≡ length log → now.mark ≤ n
  mark_not_above n es now [] [] fit le whole = none_left n now.mark es le whole fit
  mark_not_above n es now [] (v ∷ vs) fit le whole = absurd fit
  mark_not_above n es now (g ∷ gs) [] fit le whole = absurd fit
  mark_not_above n es now (g ∷ gs) (v ∷ vs) (here, later) le whole =
      let next : Progress = past_packet now (noted n es) v in
      let within : next.mark ≤ length log = next_within n now.mark v.made es g v.class le whole here.fits in
      by_made n now.mark v.made es g v.class le whole here.fits
      (λ none.
      let same : VerdictsFit tracker log (noted n es) next gs vs =
      subst (λ (k : ℕ). VerdictsFit tracker log (drop k (noted n es)) next gs vs) none later in
      let up : next.mark ≤ n = mark_not_above n es next gs vs same within whole in
      let past : now.mark ≤ mark_past now.mark (take v.made (noted n es)) = past_up now.mark (take v.made (noted n es)) in
      let at : mark_past now.mark (take v.made (noted n es)) ≤ next.mark = at_up (mark_past now.mark (take v.made (noted n es))) (points_of v.class) in
      omega (arith, up, past, at))
