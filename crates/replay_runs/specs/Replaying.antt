-- What a replay is given.
use Rattle.std.specs.Prelude.{List, map}
use Rattle.conntrack_cmd.specs.declared.read.Script.{Script}
use Rattle.packet_path.specs.Packet.{given_of}
use Rattle.packet_headers.specs.declared.frame.Capture.{Capture}
use Rattle.replay_runs.specs.Report.{Work}

-- the work of these captures and this script
abbrev pub work_of : List Capture → Script → Work
work_of captures script = record {
  captures = map (λ (c : Capture). map (given_of c.zone c.bytes.items) c.frames.items) captures;
  commands = script.commands.items;
  wait = script.wait;
}
