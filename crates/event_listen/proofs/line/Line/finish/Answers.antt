use Rattle.std.proofs.Common.{ap, ◌∙◌, arith, length, length-append, map, [], ◌∷◌}
use Rattle.event_listen.specs.Internal.{id_of}
use Rattle.event_listen.proofs.Finishing.{finish_goes_on}
use Rattle.event_listen.proofs.Lists.{map_more, popped}
use Rattle.event_listen.proofs.line.Line.finish.Goals as goal

pub senders-preserved : goal.senders-preserved
senders-preserved g c =
    let sendings = c.in-Some.ensures.item in
    let ears = popped c.senders.ears.items c.pop-in-Some.new.self.items c.pop-in-Some.result c.unwrap-ear.result c.pop-in-Some.ensures.items c.unwrap-ear.ensures in
    let queues = popped c.senders.queues.items c.pop-in-Some-2.new.self.items c.pop-in-Some-2.result c.unwrap-queue.result c.pop-in-Some-2.ensures.items c.unwrap-queue.ensures in (
      omega (arith, ap length sendings, length-append c.pop.new.self.items (c.in-Some.sending ∷ []), ap length c.put_first.ensures.items),
      finish_goes_on c.args.sendings.items _ _ c.senders.ears.items c.pop-in-Some.new.self.items c.senders.sendings.items c.pop.new.self.items c.senders.lists.items c.put_first.new.self.items
          (id_of c.unwrap-queue.result) c.unwrap-ear.result c.in-Some.sending c.in_ok-finish.field-0 c.senders.invariant.1
          (ap (map id_of) queues ∙ map_more id_of c.pop-in-Some-2.new.self.items c.unwrap-queue.result) ears sendings c.put_first.ensures.items c.in_ok-finish.ensures.whole c.in_ok-finish.ensures.filled,
    )
