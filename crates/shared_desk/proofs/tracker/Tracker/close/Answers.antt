use Rattle.std.proofs.Common.{refl}
use Rattle.shared_desk.proofs.Joining.{closes_last}
use Rattle.shared_desk.proofs.tracker.Tracker.close.Goals as goal

pub returns : goal.returns
returns c =
    let p = c.spot.inside in
    rw (← c.spot.view_is) (closes_last p.stub p.notes p.spare c.close-word.result (record { events = c.events_in.result; live = c.live_in.result; notes = p.notes })
    c.spot.invariant c.close-word.ensures c.events_in.ensures c.live_in.ensures refl)
