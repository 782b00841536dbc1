-- The lines of a report. Each ends with a line feed.
use Rattle.std.specs.Prelude.{ℕ, List, ◌++◌, codes, decimal}
use Rattle.history_book.specs.declared.event.Numbered.{Numbered}
use Rattle.history_book.specs.declared.verdict.Verdict.{Verdict}
use Rattle.report_text.specs.Piece.{class_text, event_text, who_text}

-- the line before the events, of which there are so many
unfoldable pub history_head : ℕ → List ℕ
history_head events = codes "events " ++ decimal events ++ codes "\n"

-- an event of the history, with a script of this number among the threads
unfoldable pub event_line : ℕ → Numbered → List ℕ
event_line script e = decimal e.number ++ event_text (who_text script e.thread e.index) e.event ++ codes "\n"

-- the line before the verdicts on the packets of a thread
unfoldable pub thread_head : ℕ → ℕ → List ℕ
thread_head thread packets =
    codes "thread " ++ decimal thread ++ codes " packets " ++ decimal packets ++ codes "\n"

-- the verdict on the packet of this index
unfoldable pub verdict_line : ℕ → Verdict → List ℕ
verdict_line index v = decimal index ++ codes " " ++ class_text v.class ++ codes "\n"

-- the line before the answers to a script of so many commands
unfoldable pub script_head : ℕ → List ℕ
script_head commands = codes "script " ++ decimal commands ++ codes "\n"
