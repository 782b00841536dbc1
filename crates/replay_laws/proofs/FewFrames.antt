-- One capture of fewer frames than it takes for FULL leaves no table nearly full: each frame confirms at most one entry.
use Rattle.std.proofs.Common.{ℕ, ◌+◌, ◌≤◌, List, [], ◌∷◌, length, take, drop, ap, arith}
use Rattle.history_book.specs.declared.event.Event.{Event}
use Rattle.history_book.specs.declared.verdict.Verdict.{Verdict}
use Rattle.history_book.specs.History.{after, run}
use Rattle.history_book.specs.Numbered.{events_of}
use Rattle.history_book.specs.State.{State, empty_state}
use Rattle.packet_path.specs.Packet.{Given}
use Rattle.replay_laws.specs.OneAnswer.{FewFramesAreNeverNearlyFull, Follows, IsFollowed, OneThreadFollows}
use Rattle.replay_laws.specs.Reaction.{Configuration, configuration_of}
use Rattle.replay_laws.proofs.Counting.{confirms, confirms_front, confirms_split, run_within}
use Rattle.replay_laws.proofs.FewConfirms.{frame_few}

-- as many entries are confirmed as there are frames, or fewer
follows_few : (tracker : Configuration) (s : State) (at : ℕ) (gs : List Given) (es : List Event) (vs : List Verdict)
    → Follows tracker s at gs es vs → confirms es ≤ length gs
follows_few tracker s at [] es [] h = omega (arith, ap (λ (fs : List Event). confirms fs) h)
follows_few tracker s at [] es (v ∷ vs) h = absurd h
follows_few tracker s at (g ∷ gs) es [] h = absurd h
follows_few tracker s at (g ∷ gs) es (v ∷ vs) (first, made, reacts, rest) =
    omega (
      arith,
      confirms_split v.made es,
      frame_few tracker s at g (record { events = take v.made es; class = v.class }) reacts,
      follows_few tracker (run s (take v.made es)) (at + v.made) gs (drop v.made es) vs rest,
    )

after_within : (log : List Event) (p : ℕ) → length (after log p).records ≤ confirms log
unfolding after
after_within log p = omega (arith, run_within empty_state (take p log), confirms_front p log)

pub few_frames : OneThreadFollows → FewFramesAreNeverNearlyFull
few_frames follow tracker frames wait report h few p within full =
    let followed : IsFollowed tracker frames report = follow tracker frames wait report h in
    let log : List Event = events_of report.history.items in
    let confirmed : confirms log ≤ length frames =
    follows_few (configuration_of tracker) empty_state 0 frames log followed.verdicts.items followed.follows in
    absurd (omega (arith, after_within log p, confirmed, few, full))
