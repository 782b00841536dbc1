use Rattle.std.proofs.Common.{◌≡◌, ◌≤◌, map, vec_capacity}
use Rattle.std.specs.Prelude.{All}
use Rattle.crossbeam_queue.specs.Passes.{ruled_capacity}
use Rattle.event_listen.specs.Internal.{id_of}
use Rattle.event_listen.proofs.Laying.{IsLaid}
use Rattle.event_listen.proofs.line.Line.new.Given as goal

abbrev pub invariant-senders : goal.invariant-senders
invariant-senders l = (l.senders ≤ vec_capacity l.queues) × (l.senders ≤ vec_capacity l.ears) × (l.senders ≤ l.sendings.room) × All (λ q. ruled_capacity q ≡ l.capacity) l.queues.items
    × IsLaid l.capacity l.sender (map id_of l.queues.items) l.ears.items l.sendings.items
