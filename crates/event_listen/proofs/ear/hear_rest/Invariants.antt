use Rattle.std.proofs.Common.{◌≡◌, true}
use Rattle.crossbeam_queue.specs.Passes.{view, IsPassOf}
use Rattle.event_listen.specs.Internal.{HasHeard}
use Rattle.event_listen.proofs.ear.hear_rest.Given as goal

abbrev pub invariant-notes : goal.invariant-notes
invariant-notes g l =
    (goal.iterator-notes g).can_next l.iterator' × (goal.iterator-notes g).is_finite l.iterator' × IsPassOf l.queue l.end
    × HasHeard (view l.end) l.notes.items × ((view l.end).sends ≡ true) × ((view l.end).sent ≡ (view l.fn.end).sent)
