-- A report made of the events of several desks is well formed.
use Rattle.std.proofs.Common.{◌≡◌, ℕ, ◌+◌, ◌<◌, ◌≤◌, true, List, [], ◌∷◌, ◌++◌, length, take, Some, slice_get, refl, sym, ap, ap₂, subst, ◌∙◌, arith}
use Rattle.std.specs.List.{AllByRecursion}
use Rattle.std.proofs.lemmas.List.{append_cancel_right, map-append}
use Rattle.std.proofs.lemmas.List.Elements.{All-from_recursion, recursion_from_All}
use Rattle.room_list.specs.Roomed.{Roomed}
use Rattle.conntrack_cmd.specs.Laws.{AnswersStillFit}
use Rattle.history_book.specs.declared.answer.Answer.{Answer}
use Rattle.history_book.specs.declared.event.Event.{Event}
use Rattle.history_book.specs.declared.event.Note.{Note}
use Rattle.history_book.specs.declared.event.Numbered.{Numbered}
use Rattle.history_book.specs.declared.report.Closed.{Closed}
use Rattle.history_book.specs.declared.report.Report.{Report}
use Rattle.history_book.specs.declared.sizes.Sizes.{Sizes}
use Rattle.history_book.specs.declared.verdict.Verdict.{Verdict}
use Rattle.history_book.specs.Close.{AreAllEventsOf, Closes}
use Rattle.history_book.specs.History.{after, is_legal}
use Rattle.history_book.specs.Merge.{all_notes, AreNumbers, CoverEach, CoverFrom, IsMerged, spans_of, spans_of_answers}
use Rattle.history_book.specs.Numbered.{events_of, IsNumberedFrom, notes_of}
use Rattle.packet_path.specs.Laws.{VerdictsStillFit}
use Rattle.replay_runs.specs.declared.replay.RunOutcome.{RunOutcome}
use Rattle.replay_runs.specs.Report.{AnswersFit, AreNamedInEach, at_start, captures_end, IsWellFormed, latest_of, made_by, run_of, ThreadsFit, TrackerSetup, Work}
use Rattle.replay_runs.specs.Heard.{AreHeard, captures_made, made_before, made_before_join}
use Rattle.replay_runs.specs.Run.{CanReport, HasEnded, IsRun, items_of, left_with, made_to_wait}
use Rattle.replay_runs.proofs.Counting.{all_count, all_numbers, times, times_append}
use Rattle.replay_runs.proofs.Each.{each_append}
use Rattle.replay_runs.proofs.FitsNamed.{answers_cover}
use Rattle.replay_runs.proofs.Interleaved.{each_of_history, events_same, made_same, StandsIn}
use Rattle.replay_runs.proofs.Joining.{notes_push}
use Rattle.replay_runs.proofs.Names.{all_named, all_named_notes, each_stands, named_in_notes}
use Rattle.replay_runs.proofs.Scripts.{answers_stay}
use Rattle.replay_runs.proofs.Threads.{captures_are, each_named_from, ends_within, lists_count, lists_covered, lists_fit, ListsFit, made_rises, script_made, threads_fit, threads_within}

-- events that are all of a history are so in another order
turned : (log : List Event) (own gathered : List Note) → AreAllEventsOf log (own ++ gathered) → AreAllEventsOf log (gathered ++ own)
turned log own gathered all = record {
  events = All-from_recursion (λ (n : Note). slice_get log n.number ≡ Some n.event) (gathered ++ own)
      (each_append (λ (n : Note). slice_get log n.number ≡ Some n.event) gathered own (last own gathered both) (first own gathered both));
  once = λ n below. times_append n gathered own ∙ omega (arith, all.once n below, times_append n own gathered);
}
  where
    both : AllByRecursion (λ (n : Note). slice_get log n.number ≡ Some n.event) (own ++ gathered)
    both = recursion_from_All (λ (n : Note). slice_get log n.number ≡ Some n.event) (own ++ gathered) all.events

    first : (xs ys : List Note) → AllByRecursion (λ (n : Note). slice_get log n.number ≡ Some n.event) (xs ++ ys)
        → AllByRecursion (λ (n : Note). slice_get log n.number ≡ Some n.event) xs
    first [] ys h = tt
    first (x ∷ xs) ys (h, hs) = (h, first xs ys hs)

    last : (xs ys : List Note) → AllByRecursion (λ (n : Note). slice_get log n.number ≡ Some n.event) (xs ++ ys)
        → AllByRecursion (λ (n : Note). slice_get log n.number ≡ Some n.event) ys
    last [] ys h = h
    last (x ∷ xs) ys (h, hs) = last xs ys hs

-- what holds of the notes of named events holds of these
unnoted : (log : List Event) (names : List Numbered) → AllByRecursion (λ (n : Note). slice_get log n.number ≡ Some n.event) (notes_of names)
    → AllByRecursion (λ (n : Numbered). slice_get log n.number ≡ Some n.event) names
unnoted log [] h = tt
unnoted log (x ∷ names) (h, hs) = (h, unnoted log names hs)

module _ (still : VerdictsStillFit) (answers_still : AnswersStillFit) (tracker : TrackerSetup) (work : Work) (outcome : RunOutcome)
    (closed : Closed) (lists : List (Roomed Note)) (has : HasEnded tracker work outcome closed)
    (pushed : lists ≡ outcome.joined.lists.items ++ closed.notes ∷ []) where
  threads : List (Roomed Verdict)
  threads = outcome.joined.threads.items

  answers : List Answer
  answers = outcome.answers.items

  script : List Note
  script = closed.notes.items

  lists_are : ListsFit tracker has.closes.log has.run.end script work.captures threads lists
  unfolding threads script
  lists_are =
      subst (λ ls. ListsFit tracker has.closes.log has.run.end script work.captures threads ls) (sym pushed)
      (lists_fit still tracker has.closes.log has.desk.front has.closes.front has.run.end closed.notes (rw has.closes.notes has.run.known.ordered)
      work.captures threads outcome.joined.lists.items has.run.threads)

  all_events : AreAllEventsOf has.closes.log (all_notes lists)
  all_events =
      subst (λ xs. AreAllEventsOf has.closes.log xs)
      (ap (λ xs. xs ++ has.desk.own) has.run.gathered ∙ ap (λ xs. all_notes outcome.joined.lists.items ++ xs) (sym has.closes.notes)
      ∙ sym (notes_push outcome.joined.lists.items closed.notes) ∙ ap all_notes (sym pushed))
      (turned has.closes.log has.desk.own has.desk.gathered has.closes.all)

  -- the lists are one for each thread and the script's
  pub count_lists : length lists ≡ length outcome.joined.threads.items + 1
  unfolding threads
  count_lists = lists_count tracker has.closes.log has.run.end script lists_are

  -- their numbers are those of a history
  pub are_numbers : AreNumbers (all_notes lists)
  are_numbers = all_numbers has.closes.log (all_notes lists) all_events

  -- the answers fit wherever the captures ended before `wait`
  script_fit : (e : ℕ) → e ≤ has.run.end → AnswersFit (record {
    log = has.closes.log;
    moment = latest_of 0 work.captures;
    wait = work.wait;
    end_of_captures = e;
  }) script at_start work.commands answers
  unfolding script answers
  script_fit e within =
      subst (λ xs. AnswersFit (record { log = has.closes.log; moment = latest_of 0 work.captures; wait = work.wait; end_of_captures = e }) xs at_start
      work.commands answers) (sym has.closes.notes)
      (answers_stay answers_still has.closes.log has.desk.front has.closes.front (latest_of 0 work.captures) work.wait e has.desk.own at_start
      work.commands answers (has.run.fit e within))

  script_covered : CoverFrom 0 (length script) (spans_of_answers answers)
  script_covered =
      answers_cover (record { log = has.closes.log; moment = latest_of 0 work.captures; wait = work.wait; end_of_captures = 0 }) script at_start
      (length script) work.commands answers (script_fit 0 (omega arith)) (omega arith)

  -- and the spans cover them
  pub covered : CoverEach lists (spans_of outcome.joined.threads.items outcome.answers.items)
  unfolding threads answers
  covered = lists_covered tracker has.closes.log has.run.end script lists_are answers script_covered

  names : List Numbered
  names = all_named 0 lists (spans_of threads answers)

  names_noted : notes_of names ≡ all_notes lists
  unfolding names threads answers
  names_noted = all_named_notes 0 lists (spans_of threads answers) covered

  module _ (history : List Numbered) (merged : IsMerged lists (spans_of threads answers) history) (in_order : IsNumberedFrom 0 history) where
    long : length history ≡ length has.closes.log
    long = merged.whole ∙ all_count has.closes.log (all_notes lists) all_events

    stands : AllByRecursion (StandsIn history) names
    unfolding names threads answers
    stands = each_stands lists (spans_of threads answers) history covered merged

    once : (q : ℕ) → q < length history → times q (notes_of names) ≡ 1
    once q below = ap (times q) names_noted ∙ all_events.once q (omega (arith, below, long))

    events_are : has.closes.log ≡ events_of history
    events_are =
        sym (events_same history names stands once has.closes.log long
        (unnoted has.closes.log names (subst (λ xs. AllByRecursion (λ (n : Note). slice_get has.closes.log n.number ≡ Some n.event) xs) (sym names_noted)
        (recursion_from_All (λ (n : Note). slice_get has.closes.log n.number ≡ Some n.event) (all_notes lists) all_events.events))) in_order)

    made : (t : ℕ) → made_by t history ≡ made_by t names
    unfolding names threads answers
    made t = made_same history names stands once t in_order (made_rises tracker has.closes.log has.run.end script lists_are answers covered t 0)

    all_fit : ThreadsFit tracker history 0 work.captures threads
    unfolding names threads answers
    all_fit =
        threads_fit tracker has.run.end script history
        (subst (λ (log : List Event). ListsFit tracker log has.run.end script work.captures threads lists) events_are lists_are)
        answers 0 (λ t from. made t)

    all_owned : AllByRecursion (λ (n : Numbered). n.thread ≤ length work.captures) history
    unfolding names threads answers
    all_owned =
        each_of_history history names stands once (λ (n : Numbered). n.thread ≤ length work.captures)
        (threads_within tracker has.closes.log has.run.end script lists_are answers 0 (length work.captures) (omega arith))

    all_are_named : AreNamedInEach 0 history (spans_of threads answers)
    unfolding names threads answers
    all_are_named = each_named_from history 0 lists (spans_of threads answers) covered (λ t from. made t)

    captures_before : captures_end history 0 threads ≤ has.run.end
    unfolding names threads answers
    captures_before =
        ends_within tracker has.run.end script history
        (subst (λ (log : List Event). ListsFit tracker log has.run.end script work.captures threads lists) events_are lists_are)
        answers 0 (λ t from. made t)

    script_notes : notes_of (made_by (length work.captures) history) ≡ script
    unfolding names threads answers
    script_notes =
        ap notes_of (made (length work.captures))
        ∙ ap notes_of (script_made tracker has.closes.log has.run.end script lists_are answers 0 (length work.captures) (omega arith))
        ∙ named_in_notes (length work.captures) 0 0 (length script) script (spans_of_answers answers) script_covered (omega arith)

    -- what each thread made before all joined, by the report and by the run
    all_made : captures_made history 0 work.captures ++ take (made_before work.wait answers) (notes_of (made_by (length work.captures) history)) ∷ []
        ≡ made_to_wait work.wait (left_with has.desk outcome)
    unfolding names threads answers script
    all_made =
        let lists_made : captures_made history 0 work.captures ++ script ∷ [] ≡ items_of outcome.joined.lists.items ++ script ∷ [] =
        captures_are tracker has.run.end script history
        (subst (λ (log : List Event). ListsFit tracker log has.run.end script work.captures threads lists) events_are lists_are)
        answers 0 (λ t from. made t)
        ∙ ap items_of pushed ∙ map-append (λ (l : Roomed Note). l.items) outcome.joined.lists.items (closed.notes ∷ []) in
        ap₂ (λ (xss : List (List Note)) (xs : List Note). xss ++ take (made_before work.wait answers) xs ∷ [])
        (append_cancel_right (captures_made history 0 work.captures) (items_of outcome.joined.lists.items) (script ∷ []) lists_made)
        (script_notes ∙ has.closes.notes)

    all_answered : AnswersFit (run_of work history threads) (notes_of (made_by (length work.captures) history)) at_start work.commands answers
    all_answered =
        subst (λ xs. AnswersFit (run_of work history threads) xs at_start work.commands answers) (sym script_notes)
        (subst (λ (log : List Event). AnswersFit (record {
          log = log;
          moment = latest_of 0 work.captures;
          wait = work.wait;
          end_of_captures = captures_end history 0 threads;
        }) script at_start work.commands answers) events_are
        (script_fit (captures_end history 0 threads) captures_before))

    -- a report of the merged events is well formed
    reported : (report : Report) → report.history.items ≡ history → report.threads.items ≡ threads → report.answers.items ≡ answers
        → report.live ≡ closed.live → IsWellFormed tracker work report
    reported report is_history is_threads is_answers is_live = record {
      numbered = subst (IsNumberedFrom 0) (sym is_history) in_order;
      legal = subst (λ xs. is_legal tracker.sizes (events_of xs) ≡ true) (sym is_history)
          (subst (λ log. is_legal tracker.sizes log ≡ true) events_are
          (subst (λ (z : Sizes). is_legal z has.closes.log ≡ true) has.run.sized has.closes.legal));
      owned = subst (λ xs. AllByRecursion (λ (n : Numbered). n.thread ≤ length work.captures) xs) (sym is_history) all_owned;
      named = subst (λ xs. AreNamedInEach 0 xs (spans_of report.threads.items report.answers.items)) (sym is_history)
          (subst (λ vss. AreNamedInEach 0 history (spans_of vss report.answers.items)) (sym is_threads)
          (subst (λ xs. AreNamedInEach 0 history (spans_of threads xs)) (sym is_answers) all_are_named));
      verdicts = subst (λ vss. ThreadsFit tracker report.history.items 0 work.captures vss) (sym is_threads)
          (subst (λ xs. ThreadsFit tracker xs 0 work.captures threads) (sym is_history) all_fit);
      answers = subst (λ xs. AnswersFit (run_of work report.history.items report.threads.items)
          (notes_of (made_by (length work.captures) report.history.items)) at_start work.commands xs) (sym is_answers)
          (subst (λ vss. AnswersFit (run_of work report.history.items vss)
          (notes_of (made_by (length work.captures) report.history.items)) at_start work.commands answers) (sym is_threads)
          (subst (λ xs. AnswersFit (run_of work xs threads) (notes_of (made_by (length work.captures) xs)) at_start work.commands answers)
          (sym is_history) all_answered));
      live = is_live ∙ has.closes.live ∙ ap (λ k. length (after has.closes.log k).records) (sym long)
          ∙ ap (λ log. length (after log (length history)).records) events_are
          ∙ ap (λ (xs : List Numbered). length (after (events_of xs) (length xs)).records) (sym is_history);
    }

    -- what was heard is so of a report of the merged events
    heard_so : (report : Report) → report.history.items ≡ history → report.answers.items ≡ answers
        → AreHeard (made_before_join work report) outcome.heard
    unfolding answers
    heard_so report is_history is_answers =
        subst (λ (given : List Answer). AreHeard (captures_made report.history.items 0 work.captures
        ++ take (made_before work.wait given) (notes_of (made_by (length work.captures) report.history.items)) ∷ []) outcome.heard) (sym is_answers)
        (subst (λ (xs : List Numbered). AreHeard (captures_made xs 0 work.captures
        ++ take (made_before work.wait answers) (notes_of (made_by (length work.captures) xs)) ∷ []) outcome.heard) (sym is_history)
        (subst (λ (made : List (List Note)). AreHeard made outcome.heard) (sym all_made) has.run.heard))

  -- so the report is
  pub run_reported : (report : Report)
      → IsMerged lists (spans_of outcome.joined.threads.items outcome.answers.items) report.history.items
      → IsNumberedFrom 0 report.history.items → report.threads ≡ outcome.joined.threads → report.answers ≡ outcome.answers
      → report.live ≡ closed.live → IsWellFormed tracker work report
  unfolding threads answers
  run_reported report merged in_order is_threads is_answers is_live =
      reported report.history.items merged in_order report refl
      (ap (λ (x : Roomed (Roomed Verdict)). x.items) is_threads) (ap (λ (x : Roomed Answer). x.items) is_answers) is_live

  -- and what was heard is so of it
  pub run_heard : (report : Report)
      → IsMerged lists (spans_of outcome.joined.threads.items outcome.answers.items) report.history.items
      → IsNumberedFrom 0 report.history.items → report.answers ≡ outcome.answers → AreHeard (made_before_join work report) outcome.heard
  unfolding threads answers
  run_heard report merged in_order is_answers =
      heard_so report.history.items merged in_order report refl (ap (λ (x : Roomed Answer). x.items) is_answers)
