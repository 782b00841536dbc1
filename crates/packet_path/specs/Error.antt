-- An ICMP error (RFC 792): the entry that it is about is looked up by the inverse of the tuple in it,
-- and nothing changes.
use Rattle.std.specs.Prelude.{◌≡◌, ◌≢◌, ℕ, ◌≤◌, Option, Some, List, []}
use Rattle.tuple_core.specs.Inverse.{inverse}
use Rattle.tuple_core.specs.declared.Direction.{Direction}
use Rattle.tuple_core.specs.declared.Tuple.{Tuple}
use Rattle.history_book.specs.declared.event.Event.{Event}
use Rattle.history_book.specs.declared.event.Note.{Note}
use Rattle.history_book.specs.Point.{At}
use Rattle.history_book.specs.State.{Found, live_under}
use Rattle.packet_headers.specs.declared.packet.Packet.TheVariants as packet
use Rattle.packet_path.specs.Packet.{Given}

-- at this point from the mark on, this is live under the inverse of the tuple in the error
pub record LooksUp (log : List Event) (mark : ℕ) (inner : Tuple) (at : ℕ) (found : Option Found) : Type 0 where
  pub from : mark ≤ at
  pub live : At log at (λ s. live_under (inverse inner) s ≡ found)

-- the error is about an entry, and was sent to another address than the one that the inner packet came from
pub record IsMisdirected (log : List Event) (mark : ℕ) (inner : Tuple) (outer id at : ℕ) : Type 0 where
  pub found : Found
  pub looked : LooksUp log mark inner at (Some found)
  pub named : found.subject.id ≡ id
  pub address : (inverse inner).dst ≢ outer

-- the error is about an entry, and goes the way of the found direction
pub record IsRelated (log : List Event) (mark : ℕ) (inner : Tuple) (outer : ℕ) (direction : Direction) (id at : ℕ) : Type 0 where
  pub found : Found
  pub looked : LooksUp log mark inner at (Some found)
  pub named : found.subject.id ≡ id
  pub directed : found.direction ≡ direction
  pub address : (inverse inner).dst ≡ outer

-- it was an error, this is so of the tuple in it and the address that it was sent to, and no event was made
pub record AnswersError (given : Given) (own : List Note) (Fits : Tuple → ℕ → Type 0) : Type 0 where
  pub inner : Tuple
  pub outer : ℕ
  pub error : given.packet ≡ packet.Error inner outer
  pub none : own ≡ []
  pub fits : Fits inner outer
