-- Inputs that can be replayed.
use Rattle.std.specs.Prelude.{◌≤◌, ◌^◌, All, List, length}
use Rattle.std.specs.List.{AllByRecursion}
use Rattle.conntrack_cmd.specs.Moment.{moment_of}
use Rattle.conntrack_cmd.specs.declared.command.Command.{Command}
use Rattle.nat_setup.specs.Rule.{IsLawfulRule}
use Rattle.packet_headers.specs.Capture.{AreInside, AreTimely}
use Rattle.packet_headers.specs.declared.frame.Capture.{Capture}
use Rattle.run_inputs.specs.declared.input.Inputs.{Inputs}
use Rattle.packet_headers.specs.Frames.{frames_in}

-- captures that can be replayed together
pub record CanReplay (captures : List Capture) : Type 0 where
  pub threads : length captures ≤ 63
  pub few : frames_in captures ≤ 4194304
  pub inside : All (λ (c : Capture). AreInside c.bytes.items c.frames.items) captures
  pub timely : All (λ (c : Capture). AreTimely c.frames.items) captures

-- rules, a script and captures that can be
pub record IsReady (inputs : Inputs) : Type 0 where
  pub lawful : AllByRecursion IsLawfulRule inputs.rules.items
  pub commands : length inputs.script.commands.items ≤ 256
  pub named : All (λ (c : Command). moment_of c ≤ 10 ^ 16) inputs.script.commands.items
  pub captures : CanReplay inputs.captures.items
