-- What a file that is read says, and the limits of files.
use Rattle.std.specs.Prelude.{ℕ, ◌+◌, ◌-◌, ◌≤◌, List, length}
use Rattle.conntrack_cmd.specs.declared.command.Command.{Command}
use Rattle.conntrack_cmd.specs.Script.{IsScript}
use Rattle.nat_setup.specs.declared.rule.Rule.{Rule}
use Rattle.nat_setup.specs.RuleFile.{IsRulesFile}
use Rattle.packet_headers.specs.declared.frame.Frame.{Frame}
use Rattle.packet_headers.specs.Capture.{IsCapture}
use Rattle.run_inputs.specs.declared.flaw.FileKind.{FileKind}
use Rattle.run_inputs.specs.declared.flaw.FileKind.TheVariants as kind

-- rules; the commands of a script, so many of them before `wait`; or the frames of a capture
pub data Content : Type 0 where
  rules : (rules : List Rule) → Content
  script : (commands : List Command) → (wait : ℕ) → Content
  frames : (frames : List Frame) → Content

-- the bytes of a file of this kind say this
abbrev pub IsContentOf : FileKind → List ℕ → Content → Type 0
IsContentOf kind.Rules bytes (rules said) = IsRulesFile bytes said
IsContentOf kind.Rules bytes (script commands wait) = ⊥
IsContentOf kind.Rules bytes (frames said) = ⊥
IsContentOf kind.Script bytes (rules said) = ⊥
IsContentOf kind.Script bytes (script commands wait) = IsScript bytes commands wait
IsContentOf kind.Script bytes (frames said) = ⊥
IsContentOf kind.Capture bytes (rules said) = ⊥
IsContentOf kind.Capture bytes (script commands wait) = ⊥
IsContentOf kind.Capture bytes (frames said) = IsCapture bytes said

-- the most bytes of a file of this kind, of all captures together, and the most packets of all
abbrev pub most_bytes : FileKind → ℕ
most_bytes kind.Rules = 1048576
most_bytes kind.Script = 1048576
most_bytes kind.Capture = 268435456

abbrev pub most_capture_bytes : ℕ
most_capture_bytes = 1073741824

abbrev pub most_packets : ℕ
most_packets = 4194304

-- how many bytes and packets captures have together
pub record Totals : Type 0 where
  pub bytes : ℕ
  pub packets : ℕ

abbrev pub no_totals : Totals
no_totals = record { bytes = 0; packets = 0 }

-- the same with a further file, which counts where it is a capture
abbrev pub totals_with : Totals → List ℕ → Content → Totals
totals_with before bytes (rules said) = before
totals_with before bytes (script commands wait) = before
totals_with before bytes (frames said) = record { bytes = before.bytes + length bytes; packets = before.packets + length said }

-- how many bytes a further capture may have, for all together to have few enough
abbrev pub bytes_left : Totals → ℕ
bytes_left before = most_capture_bytes - before.bytes

-- there are not too many bytes in a file, behind captures of this total
abbrev pub IsShortEnough : FileKind → Totals → List ℕ → Type 0
IsShortEnough kind.Rules before bytes = length bytes ≤ most_bytes kind.Rules
IsShortEnough kind.Script before bytes = length bytes ≤ most_bytes kind.Script
IsShortEnough kind.Capture before bytes = (length bytes ≤ most_bytes kind.Capture) × (length bytes ≤ bytes_left before)

-- a file of this kind is read, behind captures of this total, and says this
pub record IsRead (kind : FileKind) (before : Totals) (bytes : List ℕ) (content : Content) : Type 0 where
  pub fits : IsShortEnough kind before bytes
  pub says : IsContentOf kind bytes content
  pub few : (totals_with before bytes content).packets ≤ most_packets
