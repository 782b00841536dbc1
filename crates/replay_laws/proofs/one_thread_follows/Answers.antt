use Rattle.replay_laws.proofs.Alone.{follows}
use Rattle.replay_laws.proofs.Reacting.{frame_reacts}
use Rattle.replay_laws.proofs.one_thread_follows.Goals as goal

pub returns : goal.returns
returns c = follows (frame_reacts c.events_may_happen.ensures c.found_are_found_again.ensures c.unused_places_are_room.ensures
    c.free_is_absent.ensures c.absent_tuples_are_nobodys.ensures c.expired_are_told.ensures c.resets_are_unanswered.ensures
    c.same_part_is_equality.ensures)
