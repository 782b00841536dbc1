use Rattle.ip_reassembly.proofs.Frames.{HasRead}
use Rattle.ip_reassembly.proofs.reassembly.put_together.Given as goal

abbrev pub invariant-frames : goal.invariant-frames
invariant-frames l = HasRead l.bytes l.fn.frames.items l.index l.groups l.made.items l.frames.items
