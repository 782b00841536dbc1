use Rattle.std.proofs.Common.{◌≡◌, ◌*◌, min}
use Rattle.made_captures.specs.MadeCapture.{made_capture}
use Rattle.made_captures.proofs.make_capture.Given as goal

abbrev pub invariant-flows : goal.invariant-flows
invariant-flows l = l.bytes.items ≡ made_capture l.seed (min (l.flow * 4) l.packets) l.thread
