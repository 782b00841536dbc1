use Rattle.std.proofs.Common.{ap, ◌∙◌, arith, map}
use Rattle.event_listen.specs.Internal.{id_of}
use Rattle.event_listen.proofs.Laying.{capacities_more, laid_more}
use Rattle.event_listen.proofs.Lists.{map_more}
use Rattle.event_listen.proofs.line.Line.new.Goals as goal

pub senders-preserved : goal.senders-preserved
senders-preserved c =
    let made = c.in_ok-queue.ensures in (
      omega arith,
      omega arith,
      omega arith,
      capacities_more c.args.capacity c.senders.queues.items c.push_reserved.new.self.items c.in_ok-queue.queue c.senders.invariant.3 made.queue c.push_reserved.ensures.items,
      laid_more c.args.capacity c.senders.sender _ _ c.senders.ears.items c.push_reserved-in-senders.new.self.items c.senders.sendings.items c.push.new.self.items (id_of c.in_ok-queue.queue)
          c.in_ok-queue.ear c.in_ok-queue.sending c.senders.invariant.4 (ap (map id_of) c.push_reserved.ensures.items ∙ map_more id_of c.senders.queues.items c.in_ok-queue.queue)
          c.push_reserved-in-senders.ensures.items c.push.ensures.items made.ear made.sending,
    )
