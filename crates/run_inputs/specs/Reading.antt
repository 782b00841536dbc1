-- What reading some of the files of a run gives. They stand behind captures of some total, and the first of them has some
-- number in the run.
use Rattle.std.specs.Prelude.{if◌then◌else◌, ◌≡◌, ◌≢◌, ◌≤◌, ℕ, ◌+◌, min, nat_le, List, [], ◌∷◌, length, map, Option, Some, None, Result, Ok, Err, IfSome}
use Rattle.command_words.specs.Words.{made, named, Names, Origin, Request, Workload}
use Rattle.conntrack_cmd.specs.declared.read.Script.{Script}
use Rattle.ct_io.specs.Source.{SameFaults, Source}
use Rattle.nat_setup.specs.declared.rule.Rule.{Rule}
use Rattle.packet_headers.specs.Capture.{AreInside, AreTimely}
use Rattle.packet_headers.specs.declared.frame.Capture.{Capture}
use Rattle.run_inputs.specs.declared.totals.CaptureTotals.{CaptureTotals}
use Rattle.run_inputs.specs.declared.flaw.FileKind.{FileKind}
use Rattle.run_inputs.specs.declared.flaw.FileKind.TheVariants as kind
use Rattle.run_inputs.specs.declared.flaw.Flaw.{Flaw}
use Rattle.run_inputs.specs.declared.flaw.Flaw.TheVariants as flaw
use Rattle.run_inputs.specs.declared.flaw.Refusal.{Refusal}
use Rattle.run_inputs.specs.declared.flaw.Refusal.TheVariants.{Flawed, Misused, NoMemory, NotOpened, NotRead, PastLimit}
use Rattle.run_inputs.specs.declared.input.Inputs.{Inputs}
use Rattle.run_inputs.specs.Causes.{CannotOpen, CannotRead, refusal_status}
use Rattle.run_inputs.specs.Content.{bytes_left, Content, totals_with, IsShortEnough, frames, IsRead, most_bytes, most_capture_bytes, most_packets, no_totals, rules, script, Totals}
use Rattle.run_inputs.specs.Flaw.{HasFlaw}
use Rattle.run_inputs.specs.Inputs.{AreGiven, AreReadFrom, FirstFlawFrom, ReachesFrom}
use Rattle.run_inputs.specs.Made.{AreMade}
use Rattle.run_inputs.specs.Ready.{CanReplay, IsReady}
use Rattle.run_inputs.specs.Files.{files_of_kind, InputFile}

-- ---- totals

abbrev pub totals_as : CaptureTotals → Totals
totals_as totals = record { bytes = totals.bytes; packets = totals.packets }

-- captures of this total and files with these bytes, which say this, together
abbrev pub totals_after : Totals → List (List ℕ) → List Content → Totals
totals_after before [] contents = before
totals_after before (bytes ∷ more) [] = before
totals_after before (bytes ∷ more) (content ∷ contents) = totals_after (totals_with before bytes content) more contents

-- how many bytes of a further file of this kind are read
abbrev pub most_read : FileKind → Totals → ℕ
most_read kind.Rules before = most_bytes kind.Rules
most_read kind.Script before = most_bytes kind.Script
most_read kind.Capture before = min (most_bytes kind.Capture) (bytes_left before)

-- the flaw of one with more bytes
abbrev pub too_long : FileKind → Totals → Flaw
too_long kind.Rules before = flaw.TooLong kind.Rules
too_long kind.Script before = flaw.TooLong kind.Script
too_long kind.Capture before =
    if nat_le (most_bytes kind.Capture) (bytes_left before) then flaw.TooLong kind.Capture else flaw.AllTooLong

-- ---- why files were not read

-- some of the files of a run: they stand behind captures of this total, and the first of them has this number in the run
pub record Part : Type 0 where
  pub before : Totals
  pub first : ℕ
  pub inputs : List InputFile

abbrev pub part_of : Totals → ℕ → List InputFile → Part
part_of before first inputs = record { before = before; first = first; inputs = inputs }

-- the file of this number has this flaw, and each of these files before it is read
pub record IsFirstFlaw (part : Part) (files : Source) (file : ℕ) (flaw : Flaw) : Type 0 where
  pub index : ℕ
  pub number : file ≡ part.first + index
  pub bytes : List (List ℕ)
  pub given : AreGiven files part.inputs bytes
  pub found : FirstFlawFrom part.before part.inputs bytes index flaw

-- each of these files before the one of this number is read, and behind those this holds of that one
pub record IsReached (part : Part) (files : Source) (file : ℕ) (P : Totals → InputFile → Type 0) : Type 0 where
  pub index : ℕ
  pub number : file ≡ part.first + index
  pub bytes : List (List ℕ)
  pub given : AreGiven files part.inputs bytes
  pub reached : ReachesFrom P part.before part.inputs bytes index

-- the cause of a refusal in one of these files
abbrev pub HasCauseFrom : Part → Source → Source → Refusal → Type 0
HasCauseFrom part files files' Misused = ⊥
HasCauseFrom part files files' (PastLimit limit) = ⊥
HasCauseFrom part files files' (Flawed file flaw) = IsFirstFlaw part files file flaw
HasCauseFrom part files files' (NotOpened file) = IsReached part files file (CannotOpen files files')
HasCauseFrom part files files' (NotRead file) = IsReached part files file (CannotRead files files')
HasCauseFrom part files files' NoMemory = Unit {0}

-- counts stand, unless this refusal is that of a failure
abbrev pub SameFaultsBut : Refusal → Source → Source → Type 0
SameFaultsBut why files files' = refusal_status why ≢ 3 → SameFaults files files'

-- the files gave something of which this holds, or there is a cause in one of them
abbrev pub ReadAs : {X : Type 0} → Part → (X → Type 0) → Source → Source → Result X Refusal → Type 0
ReadAs part Gave files files' (Ok x) = Gave x × SameFaults files files'
ReadAs part Gave files files' (Err why) = HasCauseFrom part files files' why × SameFaultsBut why files files'

-- ---- what files gave

-- these are the contents of the file, where they are told
abbrev pub IsGiven : Source → List ℕ → List ℕ → Type 0
IsGiven files name bytes = IfSome (files.contents name) (λ contents. bytes ≡ contents)

-- the file gave these bytes, not too many
pub record GaveBytes (files : Source) (before : Totals) (input : InputFile) (bytes : List ℕ) : Type 0 where
  pub given : IsGiven files input.name bytes
  pub fits : IsShortEnough input.kind before bytes

-- the file was read, and says this
pub record GaveContent (files : Source) (before : Totals) (input : InputFile) (content : Content) : Type 0 where
  pub bytes : List ℕ
  pub given : IsGiven files input.name bytes
  pub read : IsRead input.kind before bytes content

-- the file of rules gave these, which are lawful; without a name there are none
abbrev pub GaveRules : Source → Option (List ℕ) → List Rule → Type 0
GaveRules files None said = said ≡ []
GaveRules files (Some name) said =
    GaveContent files no_totals (record { kind = kind.Rules; name = name }) (rules said)

-- the script gave these commands; without a name there is none
abbrev pub GaveScript : Source → Option (List ℕ) → Script → Type 0
GaveScript files None said = (said.commands.items ≡ []) × (said.wait ≡ 0)
GaveScript files (Some name) said =
    GaveContent files no_totals (record { kind = kind.Script; name = name }) (script said.commands.items said.wait)

-- a capture that was read, the bytes of whose file are these
pub record GaveCapture (files : Source) (before : Totals) (name : List ℕ) (capture : Capture) : Type 0 where
  pub given : IsGiven files name capture.bytes.items
  pub read : IsRead kind.Capture before capture.bytes.items (frames capture.frames.items)
  pub inside : AreInside capture.bytes.items capture.frames.items
  pub timely : AreTimely capture.frames.items

-- the files have these bytes and say this
pub record GaveContents (files : Source) (before : Totals) (inputs : List InputFile) (bytes : List (List ℕ)) (contents : List Content) : Type 0 where
  pub given : AreGiven files inputs bytes
  pub read : AreReadFrom before inputs bytes contents

abbrev pub bytes_in : List Capture → List (List ℕ)
bytes_in captures = map (λ (c : Capture). c.bytes.items) captures

abbrev pub contents_in : List Capture → List Content
contents_in captures = map (λ (c : Capture). frames c.frames.items) captures

abbrev pub zones_in : List Capture → List ℕ
zones_in captures = map (λ (c : Capture). c.zone) captures

-- these captures were read, each is in its zone, and they can be replayed together
pub record GaveCaptures (files : Source) (names : List (List ℕ)) (zones : List ℕ) (captures : List Capture) : Type 0 where
  pub gave : GaveContents files no_totals (files_of_kind kind.Capture names) (bytes_in captures) (contents_in captures)
  pub in_zones : zones_in captures ≡ zones
  pub ready : CanReplay captures

-- all files of these names were read
pub record GaveNamed (files : Source) (names : Names) (inputs : Inputs) : Type 0 where
  pub rules : GaveRules files names.rules inputs.rules.items
  pub script : GaveScript files names.script inputs.script
  pub captures : GaveContents files no_totals (files_of_kind kind.Capture names.captures)
      (bytes_in inputs.captures.items) (contents_in inputs.captures.items)
  pub ready : IsReady inputs

-- the captures are those of this workload, without rules and without a command
pub record GaveMade (workload : Workload) (inputs : Inputs) : Type 0 where
  pub rules : inputs.rules.items ≡ []
  pub commands : inputs.script.commands.items ≡ []
  pub wait : inputs.script.wait ≡ 0
  pub captures : AreMade workload (bytes_in inputs.captures.items) (contents_in inputs.captures.items)
  pub ready : IsReady inputs

abbrev pub GaveOrigin : Source → Origin → Inputs → Type 0
GaveOrigin files (named names) inputs = GaveNamed files names inputs
GaveOrigin files (made workload) inputs = GaveMade workload inputs

-- all that is asked for is there, and each capture is in its zone
pub record GaveInputs (files : Source) (asked : Request) (inputs : Inputs) : Type 0 where
  pub origin : GaveOrigin files asked.origin inputs
  pub in_zones : zones_in inputs.captures.items ≡ asked.zones

-- ---- a capture by itself

-- there is room for it behind captures of this total
pub record HasRoomFor (before : Totals) (capture : Capture) : Type 0 where
  pub bytes : before.bytes + length capture.bytes.items ≤ most_capture_bytes
  pub packets : before.packets + length capture.frames.items ≤ most_packets

-- why bytes of this kind were not taken, which stand in the file of this number
abbrev pub IsReasonIn : ℕ → FileKind → Totals → List ℕ → Refusal → Type 0
IsReasonIn at kind before bytes Misused = ⊥
IsReasonIn at kind before bytes (PastLimit limit) = ⊥
IsReasonIn at kind before bytes (Flawed file flaw) = (file ≡ at) × HasFlaw kind before bytes flaw
IsReasonIn at kind before bytes (NotOpened file) = ⊥
IsReasonIn at kind before bytes (NotRead file) = ⊥
IsReasonIn at kind before bytes NoMemory = Unit {0}

-- the bytes are this capture, or there is a reason
abbrev pub CaptureReadAs : ℕ → Totals → List ℕ → Result Capture Refusal → Type 0
CaptureReadAs file before bytes (Ok capture) =
    (capture.bytes.items ≡ bytes) × IsRead kind.Capture before bytes (frames capture.frames.items)
    × AreInside bytes capture.frames.items × AreTimely capture.frames.items
CaptureReadAs file before bytes (Err why) = IsReasonIn file kind.Capture before bytes why
