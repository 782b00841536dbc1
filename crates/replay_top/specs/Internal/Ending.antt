-- What is so where a run ends in each way.
use Rattle.std.specs.Prelude.{◌≡◌, ℕ, Option, None, Some, option_map, List, [], length, map, Result, Ok, Err, codes}
use Rattle.command_words.specs.Words.{Request}
use Rattle.command_words.specs.declared.WordsError.{WordsError}
use Rattle.command_words.specs.declared.WordsError.TheVariants as unasked
use Rattle.ct_io.specs.Source.{SameFaults, Source}
use Rattle.ct_io.specs.Tape.{Tape}
use Rattle.history_book.specs.declared.event.Note.{Note}
use Rattle.replay_top.specs.declared.ending.Ending.{Ending}
use Rattle.replay_top.specs.declared.ending.Ending.TheVariants.{Done, NotWritten, Refused}
use Rattle.run_inputs.specs.declared.flaw.Refusal.{Refusal}
use Rattle.run_inputs.specs.declared.flaw.Refusal.TheVariants as refusal
use Rattle.replay_top.specs.ErrorLine.{error_line, flaw_line, words_limit_text}
use Rattle.run_inputs.specs.Reading.{HasCauseFrom, part_of, SameFaultsBut}
use Rattle.run_inputs.specs.Content.{no_totals}
use Rattle.replay_runs.specs.declared.listened.Listened.{Listened}
use Rattle.replay_runs.specs.Heard.{made_before_join}
use Rattle.replay_top.specs.declared.ending.Replayed.{Replayed}
use Rattle.replay_top.specs.Internal.Replaying.{rewritten_text}
use Rattle.replay_top.specs.Replay.{captures_in, heard_lines, IsCutShortFor, IsPrintedFor, IsReplayOf, rewrite_lines, work_asked}
use Rattle.report_text.specs.declared.heard.HeardCount.{HeardCount}
use Rattle.report_text.specs.declared.write.WriteFault.{WriteFault}
use Rattle.report_text.specs.Heard.{heard_counts, heard_text}
use Rattle.run_inputs.specs.Files.{file_at, files_of, InputFile}

-- the refusal of words that ask for nothing
abbrev pub refusal_for : WordsError → Refusal
refusal_for unasked.Usage = refusal.Misused
refusal_for (unasked.Limit limit) = refusal.PastLimit limit
refusal_for unasked.NoMemory = refusal.NoMemory

-- the name of the file that a refusal is about; no text where it is about none
abbrev pub name_among : List InputFile → Refusal → List ℕ
name_among inputs refusal.Misused = []
name_among inputs (refusal.PastLimit limit) = []
name_among inputs (refusal.Flawed file flaw) = (file_at inputs file).name
name_among inputs (refusal.NotOpened file) = (file_at inputs file).name
name_among inputs (refusal.NotRead file) = (file_at inputs file).name
name_among inputs refusal.NoMemory = []

-- the line of a refusal that is about the file of this name
abbrev pub line_about : List ℕ → Refusal → List ℕ
line_about name refusal.Misused = error_line [] (codes "the words are not of the stated form\n")
line_about name (refusal.PastLimit limit) = error_line [] (words_limit_text limit)
line_about name (refusal.Flawed file flaw) = flaw_line name flaw
line_about name (refusal.NotOpened file) = error_line name (codes ": open failed\n")
line_about name (refusal.NotRead file) = error_line name (codes ": read failed\n")
line_about name refusal.NoMemory = error_line [] (codes "out of memory\n")

-- what a listener heard, if there was one
abbrev pub heard_of : Option Listened → Option (List (List Note))
heard_of = option_map (λ (l : Listened). l.heard)

-- how many events each thread made, of which so many were heard; none without a listener
abbrev pub counts_of : Option Listened → List HeardCount
counts_of None = []
counts_of (Some l) = heard_counts l.made.items (map length l.heard)

-- a replay of what is asked for, with a line for each thread of which a listener heard, and for each packet of a connection
-- from its first edit on
pub record IsReplayWith (files : Source) (asked : Request) (made : Replayed) : Type 0 where
  pub replay : IsReplayOf files asked made.report (heard_of made.listened)
  pub lines : heard_text (counts_of made.listened)
      ≡ heard_lines (made_before_join (work_asked asked replay.bytes replay.contents) made.report) (heard_of made.listened)
  pub rewrites : rewritten_text made.rewrites
      ≡ rewrite_lines asked.rewrite (captures_in asked.defrag replay.bytes replay.contents) made.report

-- what reading and replaying the files that are asked for gives; counts rise only with a failure
abbrev pub Replays : Request → Source → Source → Result Replayed Refusal → Type 0
Replays asked files files' (Ok made) = IsReplayWith files asked made × SameFaults files files'
Replays asked files files' (Err why) =
    HasCauseFrom (part_of no_totals 0 (files_of asked)) files files' why × SameFaultsBut why files files'

-- how a run ends whose text was written, or only its front
abbrev pub ended : Result (Unit {0}) WriteFault → Replayed → Ending
ended (Ok done) made = Done made
ended (Err fault) made = NotWritten made

-- how a run that is asked for ends: what it did with the files, and what it wrote
abbrev pub Ends : Request → Source → Source → Tape → Tape → Ending → Type 0
Ends asked files files' out out' (Done made) =
    IsPrintedFor files out out' (heard_of made.listened) made.report asked × SameFaults files files' × (out'.faults ≡ out.faults)
Ends asked files files' out out' (NotWritten made) =
    IsCutShortFor files out out' (heard_of made.listened) made.report asked × SameFaults files files'
Ends asked files files' out out' (Refused why) =
    HasCauseFrom (part_of no_totals 0 (files_of asked)) files files' why × (out' ≡ out) × SameFaultsBut why files files'
