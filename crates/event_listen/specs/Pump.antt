-- What a sender's end answers once it was to send a thread's own events.
use Rattle.std.specs.Prelude.{◌≡◌, ◌<◌, ◌≤◌, true, List, ◌++◌, length}
use Rattle.history_book.specs.declared.event.Note.{Note}
use Rattle.event_listen.specs.declared.sending.Pumped.{Pumped}
use Rattle.event_listen.specs.declared.sending.Pumped.TheVariants as pumped
use Rattle.event_listen.specs.Line.{SendingSight}

-- these are the first of the notes
abbrev pub BeginsWith : List Note → List Note → Type 0
BeginsWith notes first = (rest : List Note) × (notes ≡ first ++ rest)

-- The end has sent what it had sent before, and then the next own events, but not all. It has sent at least as many notes
-- as its queue holds, and keeps that the queue was full.
pub record SendsSome (own : List Note) (old new : SendingSight) : Type 0 where
  pub end : new ≡ record old { sent = new.sent; full = true }
  pub before : BeginsWith new.sent old.sent
  pub next : BeginsWith own new.sent
  pub some : length new.sent < length own
  pub full : old.capacity ≤ length new.sent

-- every own event is sent, or only some
abbrev pub PumpSays : List Note → SendingSight → SendingSight → Pumped → Type 0
PumpSays own old new pumped.All = new ≡ record old { sent = own }
PumpSays own old new pumped.Full = SendsSome own old new
