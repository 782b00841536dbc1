use Rattle.std.proofs.Common.{◌+◌, ◌≤◌, length, map}
use Rattle.event_listen.specs.Internal.{id_of}
use Rattle.event_listen.proofs.Finishing.{IsFinishing}
use Rattle.event_listen.proofs.line.Line.finish.Given as goal

abbrev pub invariant-senders : goal.invariant-senders
invariant-senders g l = (length l.sendings.items + length l.lists.items ≤ l.lists.room) × IsFinishing l.fn.sendings.items (map id_of l.queues.items) l.ears.items l.sendings.items l.lists.items

abbrev pub decreases-senders : goal.decreases-senders
decreases-senders g l = length l.sendings.items
