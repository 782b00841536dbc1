use Rattle.std.proofs.Common.{arith}
use Rattle.replay_top.proofs.Reassembled.{next_done}
use Rattle.replay_top.proofs.reassembly.all_reassembled.Goals as goal

pub captures-preserved : goal.captures-preserved
captures-preserved c = record {
  midway = next_done c.args.captures.items c.captures-2.all.items c.captures-2.left.items c.remove-capture.new.self.items c.push.new.self.items
      c.remove-capture.result c.in_ok-reassembled.field-0 c.captures-2.invariant.midway c.remove-capture.ensures.item c.remove-capture.ensures.items (record {
        prepares = c.in_ok-reassembled.ensures.prepares;
        inside = c.in_ok-reassembled.ensures.inside;
        timely = c.in_ok-reassembled.ensures.timely;
        many = c.in_ok-reassembled.ensures.many;
      }) c.push.ensures.items;
  room = omega (arith, c.push.ensures.room, c.captures-2.invariant.room);
}
