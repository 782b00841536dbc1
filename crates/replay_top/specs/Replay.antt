-- What a run of the program reports and prints.
use Rattle.std.specs.Prelude.{◌≡◌, ℕ, ◌+◌, Bool, true, false, Option, None, Some, is_some, List, [], ◌∷◌, ◌++◌, length, map, get_or, drop}
use Rattle.command_words.specs.Words.{Origin, Request, made, named}
use Rattle.ct_io.specs.Counts.{Rose}
use Rattle.ct_io.specs.Source.{Source}
use Rattle.ct_io.specs.Tape.{Tape}
use Rattle.ftp_rewrite.specs.Rewrites.{rewritten, run_of}
use Rattle.ftp_rewrite.specs.Sent.{Recorded}
use Rattle.ftp_rewrite.specs.Text.{rewrites_text}
use Rattle.ip_reassembly.specs.Defragged.{defragged}
use Rattle.nat_setup.specs.declared.rule.Rule.{Rule}
use Rattle.packet_headers.specs.declared.frame.Frame.{Frame}
use Rattle.packet_path.specs.Packet.{Given, given_of}
use Rattle.packet_path.specs.declared.setup.Setup.{Setup}
use Rattle.history_book.specs.declared.event.Note.{Note}
use Rattle.history_book.specs.declared.report.Report.{Report}
use Rattle.history_book.specs.declared.sizes.Sizes.{Sizes}
use Rattle.run_inputs.specs.Content.{Content, frames, rules, script}
use Rattle.run_inputs.specs.Made.{AreInputsOf}
use Rattle.replay_runs.specs.Heard.{HeardEach, made_before_join}
use Rattle.replay_runs.specs.Report.{IsWellFormed, Work}
use Rattle.run_inputs.specs.Files.{AskFor}
use Rattle.report_text.specs.Heard.{heard_counts, heard_text}
use Rattle.report_text.specs.Report.{report_text}
use Rattle.report_text.specs.Summary.{summary_text}
use Rattle.report_text.specs.Wrote.{followed_by, WroteFront}

-- the rules of files that say this; without a file of rules there are none
abbrev pub rules_in : List Content → List Rule
rules_in [] = []
rules_in (rules said ∷ contents) = said
rules_in (script commands wait ∷ contents) = rules_in contents
rules_in (frames said ∷ contents) = rules_in contents

-- the bytes and the frames of a capture as it is replayed; where that is asked for, its fragments are put together first
abbrev pub as_replayed : Bool → List ℕ → List Frame → Recorded
as_replayed false bytes said = record { bytes = bytes; frames = said }
as_replayed true bytes said = record { bytes = (defragged bytes said).bytes; frames = (defragged bytes said).frames }

-- what was given of a capture in a zone
abbrev pub given_frames : ℕ → Recorded → List Given
given_frames zone capture = map (given_of zone capture.bytes) capture.frames

-- the same of the captures among files with these bytes, which say this; the captures are in these zones, in their
-- order, and in zone 0 past the list
abbrev pub given_in : Bool → List ℕ → List (List ℕ) → List Content → List (List Given)
given_in defrag zones [] contents = []
given_in defrag zones (bytes ∷ more) [] = []
given_in defrag zones (bytes ∷ more) (rules said ∷ contents) = given_in defrag zones more contents
given_in defrag zones (bytes ∷ more) (script commands wait ∷ contents) = given_in defrag zones more contents
given_in defrag zones (bytes ∷ more) (frames said ∷ contents) =
    given_frames (get_or zones 0 0) (as_replayed defrag bytes said) ∷ given_in defrag (drop 1 zones) more contents

-- the same captures, as they are replayed
abbrev pub captures_in : Bool → List (List ℕ) → List Content → List Recorded
captures_in defrag [] contents = []
captures_in defrag (bytes ∷ more) [] = []
captures_in defrag (bytes ∷ more) (rules said ∷ contents) = captures_in defrag more contents
captures_in defrag (bytes ∷ more) (script commands wait ∷ contents) = captures_in defrag more contents
captures_in defrag (bytes ∷ more) (frames said ∷ contents) = as_replayed defrag bytes said ∷ captures_in defrag more contents

-- the work with these captures, by the script of files that say this; without a script there is no command
abbrev pub work_with : List (List Given) → List Content → Work
work_with captures [] = record { captures = captures; commands = []; wait = 0 }
work_with captures (rules said ∷ contents) = work_with captures contents
work_with captures (script commands wait ∷ contents) =
    record { captures = captures; commands = commands; wait = wait }
work_with captures (frames said ∷ contents) = work_with captures contents

-- how many threads work through it, besides the script's
abbrev pub threads_of : Origin → ℕ
threads_of (named names) = length names.captures
threads_of (made workload) = workload.threads

-- The sizes of the tracker that is asked for. It makes a pass for each capture and one for the script. Its buckets and its
-- seed are read by no definition of this clause.
abbrev pub sizes_of : Request → Sizes
sizes_of asked =
    record { entries = asked.entries; buckets = asked.buckets; seed = 1; passes = threads_of asked.origin + 1; expectations = 1024 }

-- the work that is asked for, with files that have these bytes and say this
abbrev pub work_asked : Request → List (List ℕ) → List Content → Work
work_asked asked bytes contents = work_with (given_in asked.defrag asked.zones bytes contents) contents

-- The report is that of what is asked for: files that are named, which are read, or a workload that is made. It is well
-- formed for what their bytes say, each capture in its zone, its fragments put together where that is asked for, with a
-- tracker of the sizes, the rules and the ports of the helper that are asked for. Where a listener is asked for, and only
-- then, there is a list of what was heard of each thread: the first of the events that it made before all threads joined.
-- Where the contents of a file are told, its bytes are these; else no more is said of them.
pub record IsReplayOf (files : Source) (asked : Request) (report : Report) (heard : Option (List (List Note))) : Type 0 where
  pub bytes : List (List ℕ)
  pub contents : List Content
  pub inputs : AreInputsOf files asked.origin bytes contents
  pub setup : Setup
  pub rules : setup.rules.items ≡ rules_in contents
  pub ftp : setup.ftp.items ≡ asked.ftp
  pub well_formed : IsWellFormed (record { setup = setup; sizes = sizes_of asked }) (work_asked asked bytes contents) report
  pub listened : is_some heard ≡ asked.listen
  pub heard_first : HeardEach (made_before_join (work_asked asked bytes contents) report) heard

-- the report is that of what the words ask for
abbrev pub IsReplay : List (List ℕ) → Source → Report → Option (List (List Note)) → Type 0
IsReplay words files report heard = AskFor words (λ asked. IsReplayOf files asked report heard)

-- what is printed of a report: its text, or its summary where that is asked for
abbrev pub text_of : Bool → Report → List ℕ
text_of false report = report_text report
text_of true report = summary_text report

-- what is printed of what a listener heard of threads that made these events: a line for each of them, behind the report
abbrev pub heard_lines : List (List Note) → Option (List (List Note)) → List ℕ
heard_lines events None = []
heard_lines events (Some heard) = heard_text (heard_counts (map length events) (map length heard))

-- what is printed of how the packets of a report on these captures leave, where that is asked for
abbrev pub rewrite_lines : Bool → List Recorded → Report → List ℕ
rewrite_lines false captures report = []
rewrite_lines true captures report = rewrites_text (rewritten (run_of report captures))

-- all that is printed of a run of what is asked for, with files that have these bytes and say this
abbrev pub printed : Request → List (List ℕ) → List Content → Report → Option (List (List Note)) → List ℕ
printed asked bytes contents report heard =
    text_of asked.summary report ++ heard_lines (made_before_join (work_asked asked bytes contents) report) heard
    ++ rewrite_lines asked.rewrite (captures_in asked.defrag bytes contents) report

-- the report is that of what is asked for, and what was written is followed by exactly the text that is
pub record IsPrintedFor (files : Source) (before after : Tape) (heard : Option (List (List Note))) (report : Report) (asked : Request) : Type 0 where
  pub replay : IsReplayOf files asked report heard
  pub text : after.written ≡ followed_by before.written (printed asked replay.bytes replay.contents report heard)

-- the same of what the words ask for
abbrev pub IsPrinted : List (List ℕ) → Source → Tape → Tape → Option (List (List Note)) → Report → Type 0
IsPrinted words files before after heard report = AskFor words (IsPrintedFor files before after heard report)

-- the same report, but the count of faults rose, and only some first bytes of the text were written
pub record IsCutShortFor (files : Source) (before after : Tape) (heard : Option (List (List Note))) (report : Report) (asked : Request) : Type 0 where
  pub replay : IsReplayOf files asked report heard
  pub failed : Rose before.faults after.faults
  pub text : WroteFront (printed asked replay.bytes replay.contents report heard) before.written after.written

abbrev pub IsCutShort : List (List ℕ) → Source → Tape → Tape → Option (List (List Note)) → Report → Type 0
IsCutShort words files before after heard report = AskFor words (IsCutShortFor files before after heard report)
