-- What is wrong with a file that is not read.
use Rattle.std.specs.Prelude.{◌≡◌, ℕ, ◌+◌, ◌<◌, ◌≤◌, List, length}
use Rattle.conntrack_cmd.specs.Script as script
use Rattle.nat_setup.specs.RuleFile as rules
use Rattle.packet_headers.specs.declared.frame.Frame.{Frame}
use Rattle.packet_headers.specs.Capture as capture
use Rattle.run_inputs.specs.declared.flaw.FileKind.{FileKind}
use Rattle.run_inputs.specs.declared.flaw.FileKind.TheVariants as kind
use Rattle.run_inputs.specs.declared.flaw.Flaw.{Flaw}
use Rattle.run_inputs.specs.declared.flaw.Flaw.TheVariants.{AllTooLong, Capture, Rules, Script, TooLong, TooManyPackets}
use Rattle.run_inputs.specs.Content.{IsShortEnough, Totals, bytes_left, most_bytes, most_packets}

-- a file has too many bytes of its kind, and no limit of all captures is passed by an earlier byte
abbrev pub IsTooLong : FileKind → Totals → List ℕ → Type 0
IsTooLong kind.Rules before bytes = most_bytes kind.Rules < length bytes
IsTooLong kind.Script before bytes = most_bytes kind.Script < length bytes
IsTooLong kind.Capture before bytes = (most_bytes kind.Capture < length bytes) × (most_bytes kind.Capture ≤ bytes_left before)

-- the bytes are a capture with which all captures have too many packets
pub record HasTooManyPackets (before : Totals) (bytes : List ℕ) : Type 0 where
  pub frames : List Frame
  pub capture : capture.IsCapture bytes frames
  pub many : most_packets < before.packets + length frames

-- A file of this kind with these bytes, behind captures of this total, has this flaw. Only where there are not too many
-- bytes is one looked for in them, and only in a capture without another flaw are packets counted.
abbrev pub HasFlaw : FileKind → Totals → List ℕ → Flaw → Type 0
HasFlaw of before bytes (TooLong kind) = (of ≡ kind) × IsTooLong kind before bytes
HasFlaw of before bytes AllTooLong =
    (of ≡ kind.Capture) × (bytes_left before < length bytes) × (bytes_left before < most_bytes kind.Capture)
HasFlaw of before bytes (Rules fault) = (of ≡ kind.Rules) × IsShortEnough kind.Rules before bytes × rules.HasFault bytes fault
HasFlaw of before bytes (Script fault) = (of ≡ kind.Script) × IsShortEnough kind.Script before bytes × script.HasFault bytes fault
HasFlaw of before bytes (Capture fault) =
    (of ≡ kind.Capture) × IsShortEnough kind.Capture before bytes × capture.HasFault bytes fault
HasFlaw of before bytes TooManyPackets =
    (of ≡ kind.Capture) × IsShortEnough kind.Capture before bytes × HasTooManyPackets before bytes

-- the status of a run that ends with the flaw
abbrev pub flaw_status : Flaw → ℕ
flaw_status (TooLong kind) = 5
flaw_status AllTooLong = 5
flaw_status (Rules fault) = 2
flaw_status (Script fault) = 2
flaw_status (Capture fault) = 2
flaw_status TooManyPackets = 5
