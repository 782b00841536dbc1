-- Two reports of one capture that is replayed alone are the same.
use Rattle.std.proofs.Common.{◌≡◌, ℕ, List, [], ◌∷◌, map, length, refl, sym, ap, subst, ◌∙◌, arith, take_all}
use Rattle.std.proofs.lemmas.List.{length-map}
use Rattle.ftp_helper.specs.Laws.{NamedEndsAreUnique}
use Rattle.room_list.specs.Roomed.{Roomed}
use Rattle.history_book.specs.declared.event.Event.{Event}
use Rattle.history_book.specs.declared.event.Numbered.{Numbered}
use Rattle.history_book.specs.declared.report.Report.{Report}
use Rattle.history_book.specs.declared.verdict.Verdict.{Verdict}
use Rattle.history_book.specs.History.{after, run}
use Rattle.history_book.specs.Merge.{spans_of, spans_of_verdicts}
use Rattle.history_book.specs.Numbered.{events_of}
use Rattle.history_book.specs.State.{State, empty_state}
use Rattle.history_book.specs.StateLaws.{FreeIsAbsent}
use Rattle.packet_path.specs.Packet.{Given}
use Rattle.replay_runs.specs.Report.{AreNamedFrom, AreNamedInEach, IsWellFormed, TrackerSetup}
use Rattle.replay_laws.specs.OneAnswer.{Follows, IsFollowed, NeverNearlyFull, OnePacketOneAnswer, OneThreadFollows, alone, unplaced}
use Rattle.replay_laws.specs.Reaction.{Configuration, configuration_of}
use Rattle.replay_laws.proofs.Bare.{length_same, run_same}
use Rattle.replay_laws.proofs.SameItems.{AreFirst, same_indexes, same_items}
use Rattle.replay_laws.proofs.Alone.{answers_none, made_all, threads_zero}
use Rattle.replay_laws.proofs.TwoReports.{KeepsRoom, two_follow}

-- with no command there is no answer, and the script made no event
after_all : (history : List Numbered) → after (events_of history) (length history) ≡ run empty_state (events_of history)
unfolding after
after_all history =
    ap (run empty_state) (take_all (length history) (events_of history) (omega (arith, length-map history (λ (n : Numbered). n.event))))

room_after : (tracker : TrackerSetup) (log : List Event) → NeverNearlyFull tracker.sizes log → KeepsRoom (configuration_of tracker) empty_state log
unfolding after
room_after tracker log h = h

-- what a report of one thread says
record IsAlone (report : Report) : Type 0 where
  pub answers : report.answers.items ≡ []
  pub first : AreFirst report.history.items
  pub live : report.live ≡ length (run empty_state (events_of report.history.items)).records

is_alone : (tracker : TrackerSetup) (frames : List Given) (wait : ℕ) (report : Report)
    → IsWellFormed tracker (alone frames wait) report → IsAlone report
is_alone tracker frames wait report h =
    record {
      answers = answers_none tracker frames wait report h;
      first = threads_zero tracker frames wait report h;
      live = h.live ∙ ap (λ (s : State). length s.records) (after_all report.history.items);
    }

-- the events of the thread name the packets of its verdicts
named_alone : (tracker : TrackerSetup) (frames : List Given) (wait : ℕ) (report : Report) (verdicts : Roomed Verdict)
    → IsWellFormed tracker (alone frames wait) report → IsAlone report → report.threads.items ≡ verdicts ∷ []
    → AreNamedFrom 0 report.history.items (spans_of_verdicts verdicts.items)
named_alone tracker frames wait report verdicts h a e =
    subst (λ (ns : List Numbered). AreNamedFrom 0 ns (spans_of_verdicts verdicts.items))
    (made_all report.history.items a.first)
    ((subst (λ (vs : List (Roomed Verdict)). AreNamedInEach 0 report.history.items (spans_of vs report.answers.items)) e h.named).0)

pub one_packet_one_answer : NamedEndsAreUnique → FreeIsAbsent → OneThreadFollows → OnePacketOneAnswer
one_packet_one_answer unique absent follow tracker twin frames wait report other alike h k room undropped same =
    let left : IsFollowed tracker frames report = follow tracker frames wait report h in
    let right : IsFollowed twin frames other = follow twin frames wait other k in
    let followed : Follows (configuration_of tracker) empty_state 0 frames (events_of other.history.items) right.verdicts.items =
    subst (λ (c : Configuration). Follows c empty_state 0 frames (events_of other.history.items) right.verdicts.items) (sym alike)
    right.follows in
    let a : IsAlone report = is_alone tracker frames wait report h in
    let b : IsAlone other = is_alone twin frames wait other k in
    let ns : List Numbered = report.history.items in
    let ms : List Numbered = other.history.items in
    let both : (map unplaced (events_of ns) ≡ map unplaced (events_of ms)) × (left.verdicts.items ≡ right.verdicts.items) =
    two_follow unique absent (configuration_of tracker) empty_state empty_state 0 frames (events_of ns) (events_of ms)
    left.verdicts.items right.verdicts.items refl left.follows followed
    (room_after tracker (events_of ns) room) undropped same in
    let long : length ns ≡ length ms =
    sym (length-map ns (λ (n : Numbered). n.event)) ∙ sym (length-map (events_of ns) unplaced)
    ∙ ap (λ (x : List Event). length x) both.0
    ∙ length-map (events_of ms) unplaced ∙ length-map ms (λ (n : Numbered). n.event) in
    let named : AreNamedFrom 0 ns (spans_of_verdicts right.verdicts.items) =
    subst (λ (vs : List Verdict). AreNamedFrom 0 ns (spans_of_verdicts vs)) both.1
    (named_alone tracker frames wait report left.verdicts h a left.alone) in
    record {
      history = same_items 0 ns ms h.numbered k.numbered a.first b.first
          (same_indexes (spans_of_verdicts right.verdicts.items) 0 ns ms long named
          (named_alone twin frames wait other right.verdicts k b right.alone))
          both.0;
      verdicts = ap (map (λ (vs : Roomed Verdict). vs.items)) left.alone
          ∙ ap (λ (vs : List Verdict). vs ∷ []) both.1
          ∙ sym (ap (map (λ (vs : Roomed Verdict). vs.items)) right.alone);
      answers = a.answers ∙ sym b.answers;
      live = a.live
          ∙ length_same (run empty_state (events_of ns)) (run empty_state (events_of ms))
          (run_same empty_state empty_state (events_of ns) (events_of ms) refl both.0)
          ∙ sym b.live;
    }
