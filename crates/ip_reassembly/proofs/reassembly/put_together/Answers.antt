use Rattle.std.proofs.Common.{◌<◌, ◌≤◌, length, arith}
use Rattle.ip_reassembly.proofs.Frames.{frame_at, frame_inside, read_all, read_next, read_none}
use Rattle.ip_reassembly.proofs.reassembly.put_together.Goals as goal

pub frames-init : goal.frames-init
frames-init c = read_none c.args.bytes.now c.args.frames.now.items c.new-groups.result c.empty-made.result.items c.new-groups.ensures.empty c.empty-made.ensures c.requires.inside

pub reread-requires-clause-inside : goal.reread-requires-clause-inside
reread-requires-clause-inside c =
    let within : c.frames.index < length c.args.frames.now.items = omega (arith, c.frames-test.true, c.len-index-end.ensures.exact) in
    frame_inside c.args.bytes.now c.args.frames.now.items c.frames.index c.at-frame.result.now c.requires.inside within
    (frame_at c.args.bytes.now c.args.frames.now.items c.frames.index c.frames.groups c.frames.made.items c.frames.frames.items c.at-frame.result.now
    c.frames.invariant within c.at-frame.ensures)

pub frames-preserved : goal.frames-preserved
frames-preserved c =
    let within : c.frames.index < length c.args.frames.now.items = omega (arith, c.frames-test.true, c.len-index-end.ensures.exact) in
    read_next c.args.bytes.now c.args.frames.now.items c.frames.index c.frames.groups c.reread.new.groups c.frames.made.items c.reread.new.made.items
    c.frames.frames.items c.set.new.self.items c.at-frame.result.now c.in_ok-new.new c.frames.invariant within c.at-frame.ensures
    c.in_ok-new.ensures.sound c.in_ok-new.ensures.becomes c.in_ok-new.ensures.longer c.in_ok-new.ensures.inside c.in_ok-new.ensures.moment c.set.ensures.items

pub returns-clause-bytes : goal.returns-clause-bytes
returns-clause-bytes c =
    let over : length c.args.frames.now.items ≤ c.frames.index = omega (arith, c.frames-test.false, c.len-index-end.ensures.exact) in
    (read_all c.args.bytes.now c.args.frames.now.items c.frames.index c.frames.groups c.frames.made.items c.frames.frames.items c.frames.invariant over).0

pub returns-clause-frames : goal.returns-clause-frames
returns-clause-frames c =
    let over : length c.args.frames.now.items ≤ c.frames.index = omega (arith, c.frames-test.false, c.len-index-end.ensures.exact) in
    (read_all c.args.bytes.now c.args.frames.now.items c.frames.index c.frames.groups c.frames.made.items c.frames.frames.items c.frames.invariant over).1
