-- The one line on the error output.
use Rattle.std.specs.Prelude.{decimal, ◌≡◌, ℕ, ◌⊎◌, List, [], ◌++◌, codes}
use Rattle.ct_io.specs.Counts.{Rose}
use Rattle.ct_io.specs.Tape.{Tape}
use Rattle.command_words.specs.declared.WordsLimit.{WordsLimit}
use Rattle.command_words.specs.declared.WordsLimit.TheVariants as limit
use Rattle.conntrack_cmd.specs.declared.read.ScriptFault.{ScriptFault}
use Rattle.conntrack_cmd.specs.declared.read.ScriptKind.{ScriptKind}
use Rattle.conntrack_cmd.specs.declared.read.ScriptKind.TheVariants as script_kind
use Rattle.nat_setup.specs.declared.read.RuleFault.{RuleFault}
use Rattle.nat_setup.specs.declared.read.RuleKind.{RuleKind}
use Rattle.nat_setup.specs.declared.read.RuleKind.TheVariants as rule_kind
use Rattle.packet_headers.specs.declared.capture.CaptureFault.{CaptureFault}
use Rattle.packet_headers.specs.declared.capture.CaptureFault.TheVariants as fault
use Rattle.run_inputs.specs.declared.flaw.FileKind.{FileKind}
use Rattle.run_inputs.specs.declared.flaw.FileKind.TheVariants as kind
use Rattle.run_inputs.specs.declared.flaw.Flaw.{Flaw}
use Rattle.run_inputs.specs.declared.flaw.Flaw.TheVariants as flaw
use Rattle.run_inputs.specs.declared.flaw.Refusal.{Refusal}
use Rattle.run_inputs.specs.declared.flaw.Refusal.TheVariants as refusal
use Rattle.run_inputs.specs.Files.{name_of}
use Rattle.report_text.specs.Wrote.{followed_by, WroteFront}

-- the program's name, what the line is about, and the problem
abbrev pub error_line : List ℕ → List ℕ → List ℕ
error_line about problem = codes "ctreplay: " ++ about ++ problem

-- a fault of a capture, in words
abbrev pub fault_text : CaptureFault → List ℕ
fault_text fault.ShortHeader = codes ": short header\n"
fault_text fault.BadMagic = codes ": bad magic\n"
fault_text fault.BadVersion = codes ": bad version\n"
fault_text (fault.LinkType number) = codes ": link type " ++ decimal number ++ codes "\n"
fault_text (fault.CutRecord index offset) =
    codes ": record " ++ decimal index ++ codes " cut at offset " ++ decimal offset ++ codes "\n"
fault_text (fault.TooLong index) = codes ": record " ++ decimal index ++ codes " too long\n"
fault_text (fault.Fraction index) = codes ": record " ++ decimal index ++ codes " fraction\n"

-- a fault in the line of this number, in words
abbrev pub line_fault_text : ℕ → List ℕ → List ℕ
line_fault_text line problem = codes ": line " ++ decimal line ++ problem

-- what is wrong with a line of a file of rules
abbrev pub rule_kind_text : RuleKind → List ℕ
rule_kind_text rule_kind.Word = codes ": word\n"
rule_kind_text rule_kind.Address = codes ": address\n"
rule_kind_text rule_kind.Prefix = codes ": prefix\n"
rule_kind_text rule_kind.Range = codes ": range\n"
rule_kind_text rule_kind.TooMany = codes ": too many\n"

-- a fault of a file of rules, in words
abbrev pub rule_fault_text : RuleFault → List ℕ
rule_fault_text fault = line_fault_text fault.line (rule_kind_text fault.kind)

-- what is wrong with a line of a script
abbrev pub script_kind_text : ScriptKind → List ℕ
script_kind_text script_kind.Command = codes ": command\n"
script_kind_text script_kind.Option = codes ": option\n"
script_kind_text script_kind.Value = codes ": value\n"
script_kind_text script_kind.Repeat = codes ": repeat\n"
script_kind_text script_kind.TooMany = codes ": too many\n"

-- a fault of a script, in words
abbrev pub script_fault_text : ScriptFault → List ℕ
script_fault_text fault = line_fault_text fault.line (script_kind_text fault.kind)

-- a limit of the words, in words
abbrev pub words_limit_text : WordsLimit → List ℕ
words_limit_text limit.Entries = codes "limit: entries\n"
words_limit_text limit.Buckets = codes "limit: buckets\n"
words_limit_text limit.Seed = codes "limit: seed\n"
words_limit_text limit.Packets = codes "limit: packets\n"
words_limit_text limit.Threads = codes "limit: threads\n"
words_limit_text limit.Flows = codes "limit: flows\n"
words_limit_text limit.Captures = codes "limit: captures\n"

-- a limit of a kind of file, in words
abbrev pub limit_text : FileKind → List ℕ
limit_text kind.Rules = codes "limit: rules bytes\n"
limit_text kind.Script = codes "limit: script bytes\n"
limit_text kind.Capture = codes "limit: capture bytes\n"

-- the line of a flaw of the file of this name; a limit names no file
abbrev pub flaw_line : List ℕ → Flaw → List ℕ
flaw_line name (flaw.TooLong kind) = error_line [] (limit_text kind)
flaw_line name flaw.AllTooLong = error_line [] (codes "limit: all capture bytes\n")
flaw_line name (flaw.Rules fault) = error_line name (rule_fault_text fault)
flaw_line name (flaw.Script fault) = error_line name (script_fault_text fault)
flaw_line name (flaw.Capture fault) = error_line name (fault_text fault)
flaw_line name flaw.TooManyPackets = error_line [] (codes "limit: all packets\n")

-- the line of a refusal of a run with these words
abbrev pub line_of : List (List ℕ) → Refusal → List ℕ
line_of words refusal.Misused = error_line [] (codes "the words are not of the stated form\n")
line_of words (refusal.PastLimit limit) = error_line [] (words_limit_text limit)
line_of words (refusal.Flawed file flaw) = flaw_line (name_of words file) flaw
line_of words (refusal.NotOpened file) = error_line (name_of words file) (codes ": open failed\n")
line_of words (refusal.NotRead file) = error_line (name_of words file) (codes ": read failed\n")
line_of words refusal.NoMemory = error_line [] (codes "out of memory\n")

-- the line of a report that could not be written
abbrev pub write_failed : List ℕ
write_failed = error_line [] (codes "write failed\n")

-- all of the line was written, and the count of faults stands; or it rose, and only some first bytes were
abbrev pub Tells : List ℕ → Tape → Tape → Type 0
Tells line before after =
    (after.written ≡ followed_by before.written line) × (after.faults ≡ before.faults)
    ⊎ Rose before.faults after.faults × WroteFront line before.written after.written
