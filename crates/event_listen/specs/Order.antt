-- The rule of a sender's queue.
use Rattle.std.specs.Prelude.{◌≡◌, ℕ, Bool, true, List, ◌++◌}
use mathlib.Core.Option.{some}
use lib.ListN.{get_elem?}
use Rattle.history_book.specs.declared.event.Note.{Note}
use Rattle.event_listen.specs.declared.talk.Talk.{Talk}

-- what a pass of the queue knows: whether it may send, and hear, and what it has sent and heard
abbrev pub talk : Bool → Bool → List Note → List Note → Talk
talk sends hears sent heard = record { sends = sends; hears = hears; sent = sent; heard = heard }

-- where the pass may send, it is the sender's and knows what was sent; where it may hear, it is the listener's and knows
-- what was heard
pub record IsTalkOf (sender listener : ℕ) (sent heard : List Note) (pass : ℕ) (v : Talk) : Type 0 where
  pub sends : v.sends ≡ true → (pass ≡ sender) × (v.sent ≡ sent)
  pub hears : v.hears ≡ true → (pass ≡ listener) × (v.heard ≡ heard)

-- What the sender has sent is what the listener has heard of it, and then the notes in the queue, in order. One pass at
-- most may send, and one at most may hear.
pub record IsInOrder (notes : List Note) (views : List Talk) : Type 0 where
  pub sender : ℕ
  pub listener : ℕ
  pub sent : List Note
  pub heard : List Note
  pub order : sent ≡ heard ++ notes
  pub each : (pass : ℕ) (v : Talk) → get_elem? views pass ≡ some v → IsTalkOf sender listener sent heard pass v
