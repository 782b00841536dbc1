-- The whole text of a report.
use Rattle.std.specs.Prelude.{ℕ, List, ◌++◌, length}
use Rattle.history_book.specs.declared.event.Numbered.{Numbered}
use Rattle.history_book.specs.declared.report.Report.{Report}
use Rattle.history_book.specs.declared.verdict.Verdict.{Verdict}
use Rattle.room_list.specs.Roomed.{Roomed}
use Rattle.history_book.specs.declared.answer.Answer.{Answer}
use Rattle.report_text.specs.Answer.{answer_text}
use Rattle.report_text.specs.Texts.{texts_from}
use Rattle.report_text.specs.Line.{event_line, history_head, script_head, thread_head, verdict_line}

-- an event's line tells the event's number in place of its index
abbrev pub line_of_event : ℕ → ℕ → Numbered → List ℕ
line_of_event script index e = event_line script e

-- the number of events, and each of them, with a script of this number among the threads
unfoldable pub history_text : ℕ → List Numbered → List ℕ
history_text script events = history_head (length events) ++ texts_from (line_of_event script) 0 events

-- the number of a thread's packets, and the verdict on each
unfoldable pub thread_text : ℕ → Roomed Verdict → List ℕ
thread_text thread verdicts =
    thread_head thread (length verdicts.items) ++ texts_from verdict_line 0 verdicts.items

-- the events, and each capture's verdicts; the script is the thread behind those of the captures
unfoldable pub tracking_text : Report → List ℕ
tracking_text report =
    history_text (length report.threads.items) report.history.items ++ texts_from thread_text 0 report.threads.items

-- the number of commands, and the answer to each
unfoldable pub script_text : List Answer → List ℕ
script_text answers = script_head (length answers) ++ texts_from answer_text 0 answers

-- what the tracking gave, and then the answers to the script
unfoldable pub report_text : Report → List ℕ
report_text report = tracking_text report ++ script_text report.answers.items
