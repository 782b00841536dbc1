-- What a replay is given, and what it gives.
use Rattle.std.specs.Prelude.{◌≡◌, ℕ, Bool, false, true, is_some, List, [], map, None, Option, Some}
use Rattle.packet_headers.specs.declared.frame.Capture.{Capture}
use Rattle.command_words.specs.Words.{Request}
use Rattle.conntrack_cmd.specs.declared.read.Script.{Script}
use Rattle.ftp_rewrite.specs.Line.{seen}
use Rattle.ftp_rewrite.specs.Rewrites.{rewritten, run_of}
use Rattle.ftp_rewrite.specs.Sent.{Recorded, recorded}
use Rattle.ftp_rewrite.specs.Text.{rewrites_text}
use Rattle.ftp_rewrite.specs.declared.rewrite.Rewrite.{Rewrite}
use Rattle.history_book.specs.declared.report.Report.{Report}
use Rattle.packet_path.specs.Packet.{Given}
use Rattle.packet_path.specs.declared.setup.Setup.{Setup}
use Rattle.run_inputs.specs.declared.input.Inputs.{Inputs}
use Rattle.replay_top.specs.declared.ending.Replayed.{Replayed}
use Rattle.replay_top.specs.Replay.{as_replayed, given_frames, rewrite_lines, sizes_of}
use Rattle.replay_runs.specs.Heard.{AreHeard, made_before_join}
use Rattle.replay_runs.specs.Report.{IsWellFormed, Work}
use Rattle.room_list.specs.Roomed.{Roomed}

-- a capture as it is replayed, and its zone
pub record Prepared : Type 0 where
  pub zone : ℕ
  pub capture : Recorded

-- a capture that was read, with its fragments put together or as they are
abbrev pub prepared : Bool → Capture → Prepared
prepared defrag c = record { zone = c.zone; capture = as_replayed defrag c.bytes.items c.frames.items }

-- what is given of it
abbrev pub given_of_capture : Bool → Capture → List Given
given_of_capture defrag c = given_frames c.zone (as_replayed defrag c.bytes.items c.frames.items)

-- its bytes and its frames
abbrev pub recorded_of : Bool → Capture → Recorded
recorded_of defrag c = as_replayed defrag c.bytes.items c.frames.items

-- the text of how packets leave; none where that was not asked for
abbrev pub rewritten_text : Option (Roomed Rewrite) → List ℕ
rewritten_text None = []
rewritten_text (Some lines) = rewrites_text (map seen lines.items)

-- the same of the captures that were kept for it
abbrev pub kept_lines : Option (Roomed Capture) → Report → List ℕ
kept_lines None report = []
kept_lines (Some captures) report = rewrites_text (rewritten (run_of report (map recorded captures.items)))

-- they are kept where that is asked for
abbrev pub kept_if : Bool → Roomed Capture → Option (Roomed Capture)
kept_if false captures = None
kept_if true captures = Some captures

-- the work of these captures and a script
abbrev pub work_in : Bool → List Capture → Script → Work
work_in defrag captures script = record {
  captures = map (given_of_capture defrag) captures;
  commands = script.commands.items;
  wait = script.wait;
}

-- the report is that of what was read, as it is asked for, and so is what was heard
pub record ReplaysInputs (asked : Request) (inputs : Inputs) (made : Replayed) : Type 0 where
  pub setup : Setup
  pub rules : setup.rules ≡ inputs.rules
  pub ftp : setup.ftp.items ≡ asked.ftp
  pub well_formed : IsWellFormed (record { setup = setup; sizes = sizes_of asked })
      (work_in asked.defrag inputs.captures.items inputs.script) made.report
  pub listened : is_some made.listened ≡ asked.listen
  pub rewrites : rewritten_text made.rewrites ≡ rewrite_lines asked.rewrite (map (recorded_of asked.defrag) inputs.captures.items) made.report
  pub heard : AreHeard (made_before_join (work_in asked.defrag inputs.captures.items inputs.script) made.report) made.listened
