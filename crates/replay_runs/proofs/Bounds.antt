-- How many verdicts and answers there can be, and how late they are.
use Rattle.std.proofs.Common.{◌≡◌, ℕ, zero, suc, ◌^◌, ◌<◌, ◌≤◌, List, [], ◌∷◌, length, map, max, drop, refl, ap, arith}
use Rattle.std.specs.List.{list_all}
use Rattle.std.specs.Prelude.{All}
use Rattle.std.proofs.lemmas.Bool.{and_parts, leb-true}
use Rattle.std.proofs.lemmas.List.{length-map}
use Rattle.room_list.specs.Roomed.{Roomed}
use Rattle.history_book.specs.declared.event.Event.{Event}
use Rattle.history_book.specs.declared.event.Note.{Note}
use Rattle.history_book.specs.declared.verdict.Verdict.{Verdict}
use Rattle.packet_headers.specs.Capture.{AreInside, AreTimely, is_timely}
use Rattle.packet_headers.specs.declared.frame.Frame.{Frame}
use Rattle.packet_path.specs.Packet.{Given, given_of}
use Rattle.packet_headers.specs.declared.frame.Capture.{Capture}
use Rattle.packet_headers.specs.Frames.{frames_in}
use Rattle.replay_runs.specs.Internal.Jobs.{CanBeReplayed}
use Rattle.replay_runs.specs.Internal.Replayed.{given_frames}
use Rattle.replay_runs.specs.Report.{at_start, latest, latest_of, past_packet, Progress, TrackerSetup, VerdictsFit}
use Rattle.replay_runs.specs.Run.{AreThreads}

-- there is one verdict for each packet
one_each : (tracker : TrackerSetup) (log : List Event) (mine : List Note) (now : Progress) (ps : List Given) (vs : List Verdict)
    → VerdictsFit tracker log mine now ps vs → length vs ≡ length ps
one_each tracker log mine now [] [] fit = refl
one_each tracker log mine now [] (w ∷ vs) fit = absurd fit
one_each tracker log mine now (q ∷ ps) [] fit = absurd fit
one_each tracker log mine now (q ∷ ps) (w ∷ vs) (f, fs) = ap suc (one_each tracker log (drop w.made mine) (past_packet now mine w) ps vs fs)

module _ (tracker : TrackerSetup) (log : List Event) (end : ℕ) where
  -- one list of verdicts for each capture
  pub one_thread_each : (gss : List (List Given)) (vss : List (Roomed Verdict)) (lists : List (Roomed Note))
      → AreThreads tracker log end gss vss lists → length vss ≡ length gss
  one_thread_each [] [] [] threads = refl
  one_thread_each [] [] (l ∷ lists) threads = absurd threads
  one_thread_each [] (w ∷ vss) lists threads = absurd threads
  one_thread_each (gs ∷ gss) [] lists threads = absurd threads
  one_thread_each (gs ∷ gss) (w ∷ vss) [] threads = absurd threads
  one_thread_each (gs ∷ gss) (w ∷ vss) (l ∷ lists) (thread, threads) = ap suc (one_thread_each gss vss lists threads)

  -- no list has more verdicts than its capture has packets
  pub verdicts_few : (n : ℕ) (gss : List (List Given)) (vss : List (Roomed Verdict)) (lists : List (Roomed Note))
      → AreThreads tracker log end gss vss lists → All (λ (gs : List Given). length gs < n) gss
      → All (λ (vs : Roomed Verdict). length vs.items < n) vss
  verdicts_few n [] [] lists threads few k d within = absurd (omega (arith, within))
  verdicts_few n [] (w ∷ vss) lists threads few k d within = absurd threads
  verdicts_few n (gs ∷ gss) [] lists threads few k d within = absurd threads
  verdicts_few n (gs ∷ gss) (w ∷ vss) [] threads few k d within = absurd threads
  verdicts_few n (gs ∷ gss) (w ∷ vss) (l ∷ lists) (thread, threads) few zero d within =
      omega (arith, few 0 gs (omega arith), one_each tracker log l.items at_start gs w.items thread.fit)
  verdicts_few n (gs ∷ gss) (w ∷ vss) (l ∷ lists) (thread, threads) few (suc k) d within =
      verdicts_few n gss vss lists threads (λ i e below. few (suc i) e (omega (arith, below))) k d (omega (arith, within))

-- the frames of a capture are no later than this
latest_within : (zone : ℕ) (bytes : List ℕ) (frames : List Frame) (moment : ℕ) → moment ≤ 10 ^ 16 → AreTimely frames
    → latest moment (map (given_of zone bytes) frames) ≤ 10 ^ 16
unfolding given_of
latest_within zone bytes [] moment le timely = le
latest_within zone bytes (f ∷ frames) moment le timely =
    let both = and_parts (is_timely f) (list_all is_timely frames) timely in
    let here : f.moment ≤ 10 ^ 16 = leb-true f.moment (10 ^ 16) both.0 in
    latest_within zone bytes frames (max moment f.moment) (omega (arith, le, here)) both.1

-- nor are those of several
pub latest_of_within : (captures : List Capture) (moment : ℕ) → moment ≤ 10 ^ 16 → All CanBeReplayed captures
    → latest_of moment (map given_frames captures) ≤ 10 ^ 16
latest_of_within [] moment le can = le
latest_of_within (c ∷ captures) moment le can =
    latest_of_within captures (latest moment (given_frames c))
    (latest_within c.zone c.bytes.items c.frames.items moment le (can 0 c (omega arith)).timely)
    (λ k d within. can (suc k) d (omega (arith, within)))

-- each of captures that have no more frames than this together can be replayed
pub can_replay : (captures : List Capture) → All (λ c. AreInside c.bytes.items c.frames.items) captures
    → All (λ c. AreTimely c.frames.items) captures → frames_in captures ≤ 4194304 → All CanBeReplayed captures
can_replay [] inside timely few k d within = absurd (omega (arith, within))
can_replay (c ∷ captures) inside timely few zero d within = record {
  inside = inside 0 c (omega arith);
  timely = timely 0 c (omega arith);
  few = omega (arith, few);
}
can_replay (c ∷ captures) inside timely few (suc k) d within =
    can_replay captures (λ i e below. inside (suc i) e (omega (arith, below))) (λ i e below. timely (suc i) e (omega (arith, below)))
    (omega (arith, few)) k d (omega (arith, within))

-- none of them gives more packets than a report has room for
pub given_few : (captures : List Capture) → All CanBeReplayed captures → All (λ (gs : List Given). length gs < 2 ^ 32) (map given_frames captures)
given_few [] can k d within = absurd (omega (arith, within))
given_few (c ∷ captures) can zero d within =
    omega (arith, (can 0 c (omega arith)).few, length-map c.frames.items (given_of c.zone c.bytes.items))
given_few (c ∷ captures) can (suc k) d within =
    given_few captures (λ i e below. can (suc i) e (omega (arith, below))) k d (omega (arith, within))
