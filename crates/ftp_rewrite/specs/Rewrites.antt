-- The lines of a whole run: how each packet of a connection with edits leaves, in the order of the history. A connection with
-- the helper is looked after from its Confirm to its Destroy; its packets are those that an entry let pass by a Touch.
use Rattle.std.specs.Prelude.{ℕ, ◌==◌, if◌then◌else◌, List, [], ◌∷◌, ◌++◌, Option, Some, None, option_to_list}
use Rattle.std.specs.List.{fold}
use Rattle.tuple_core.specs.declared.Direction.{Direction}
use Rattle.history_book.specs.declared.event.Event.{Event}
use Rattle.history_book.specs.declared.event.Event.TheVariants.{Confirm, Touch, Destroy, Expect, Claim, Unexpect}
use Rattle.history_book.specs.declared.event.Numbered.{Numbered}
use Rattle.history_book.specs.declared.report.Report.{Report}
use Rattle.ftp_rewrite.specs.declared.session.Session.{Session}
use Rattle.ftp_rewrite.specs.Line.{Line, LineText}
use Rattle.ftp_rewrite.specs.NewEnd.{asked_by}
use Rattle.ftp_rewrite.specs.Sent.{◌>>=◌, ftp_by, Recorded, Run, Sent, sent_by}
use Rattle.ftp_rewrite.specs.Session.{begun, dealt, Dealt, has_edits, leaving, met}

-- a packet of a connection once it is dealt with: the session, the segment, and the payload with which it leaves
pub record Passed : Type 0 where
  pub session : Session
  pub sent : Sent
  pub text : LineText

abbrev pub passed_with : Sent → Dealt → Passed
passed_with sent d = record { session = d.session; sent = sent; text = d.text }

-- the packet that made this Touch of an entry, met by a session
unfoldable pub passed : Run → Numbered → ℕ → Direction → Session → Option Passed
passed run item id direction s = do
  sent ← sent_by run.captures item
  ftp ← ftp_by run.verdicts item id
  Some (passed_with sent (dealt (met direction sent.numbers.seq s) direction sent (asked_by run.history direction sent.payload ftp)))

-- what is left of a session by a packet, if it is one of the connection
abbrev pub session_past : Session → Option Passed → Session
session_past s None = s
session_past s (Some p) = p.session

-- the session of an entry whose first packet is this segment
abbrev pub begun_by : Option Session → Option Sent → Option Session
begun_by s None = s
begun_by s (Some sent) = Some (begun sent.numbers.seq)

abbrev pub touched : Run → Numbered → ℕ → Direction → Option Session → Option Session
touched run item id direction None = None
touched run item id direction (Some s) = Some (session_past s (passed run item id direction s))

-- the session of an entry after one event
abbrev pub after_event : Run → ℕ → Option Session → Numbered → Event → Option Session
after_event run id s item (Confirm subject) =
    (if subject.id == id then (if subject.helper then begun_by s (sent_by run.captures item) else s) else s)
after_event run id s item (Touch own direction segment moment after) = (if own == id then touched run item own direction s else s)
after_event run id s item (Destroy own why) = (if own == id then None else s)
after_event run id s item (Expect expectation replaced moment) = s
after_event run id s item (Claim expectation master tuple moment) = s
after_event run id s item (Unexpect expectation moment) = s

abbrev pub after_item : Run → ℕ → Option Session → Numbered → Option Session
after_item run id s item = after_event run id s item item.event

-- and after these
unfoldable pub session_of : Run → ℕ → List Numbered → Option Session
session_of run id items = fold (after_item run id) None items

-- the line of a packet, if its connection has an edit once it is dealt with
abbrev pub line_past : Numbered → ℕ → Direction → Passed → Option Line
line_past item id direction p = (if has_edits p.session then Some (leaving item id direction p.session p.sent p.text) else None)

abbrev pub line_of_passed : Numbered → ℕ → Direction → Option Passed → Option Line
line_of_passed item id direction None = None
line_of_passed item id direction (Some p) = line_past item id direction p

abbrev pub line_touched : Run → Numbered → ℕ → Direction → Option Session → Option Line
line_touched run item id direction None = None
line_touched run item id direction (Some s) = line_of_passed item id direction (passed run item id direction s)

-- the line of one event, by the sessions of all entries before it
abbrev pub line_by_event : Run → (ℕ → Option Session) → Numbered → Event → Option Line
line_by_event run sessions item (Confirm subject) = None
line_by_event run sessions item (Touch id direction segment moment after) = line_touched run item id direction (sessions id)
line_by_event run sessions item (Destroy id why) = None
line_by_event run sessions item (Expect expectation replaced moment) = None
line_by_event run sessions item (Claim expectation master tuple moment) = None
line_by_event run sessions item (Unexpect expectation moment) = None

abbrev pub line_by : Run → (ℕ → Option Session) → Numbered → Option Line
line_by run sessions item = line_by_event run sessions item item.event

-- the lines of the next items behind these
unfoldable pub lines_behind : Run → (before items : List Numbered) → List Line
lines_behind run before [] = []
lines_behind run before (item ∷ items) =
    option_to_list (line_by run (λ id. session_of run id before) item) ++ lines_behind run (before ++ item ∷ []) items

-- all lines
unfoldable pub rewritten : Run → List Line
rewritten run = lines_behind run [] run.history

-- the run of a report on these captures
abbrev pub run_of : Report → List Recorded → Run
run_of report captures = record { captures = captures; verdicts = report.threads.items; history = report.history.items }
