use Rattle.std.proofs.Common.{◌-◌, length}
use Rattle.packet_headers.proofs.CaptureFrames.{HasRead}
use Rattle.packet_headers.proofs.capture.read_records.Given as goal

abbrev pub invariant-records : goal.invariant-records
invariant-records l = HasRead l.bytes l.form l.frames.items l.at

abbrev pub decreases-records : goal.decreases-records
decreases-records l = length l.bytes - l.at
