-- What contracts see of a line from senders to a listener, and of its two kinds of ends.
use Rattle.std.specs.Prelude.{◌≡◌, ℕ, ◌≤◌, Bool, true, false, Some, List, [], length, map, slice_get, All}
use Rattle.atomic_table.specs.Seated.{TableId}
use Rattle.history_book.specs.declared.event.Note.{Note}

-- the queues of the senders, in order of sender, and how many notes each of them holds at most
pub record LineSight : Type 0 where
  pub queues : List TableId
  pub capacity : ℕ

-- A sender's end: its number, its queue with what that holds at most, the notes that it has sent, and whether it ever
-- answered that the queue was full.
pub record SendingSight : Type 0 where
  pub sender : ℕ
  pub queue : TableId
  pub capacity : ℕ
  pub sent : List Note
  pub full : Bool

-- the listener's end of one queue: which one it is, and the notes that it has heard of that sender
pub record EarSight : Type 0 where
  pub queue : TableId
  pub heard : List Note

-- it is the line's sending of its number
pub record IsSendingOf (line : LineSight) (s : SendingSight) : Type 0 where
  pub queue : slice_get line.queues s.sender ≡ Some s.queue
  pub capacity : s.capacity ≡ line.capacity

-- they are all sendings of the line, in order of sender
pub record AreSendingsOf (line : LineSight) (sendings : List SendingSight) : Type 0 where
  pub queues : map (λ s. s.queue) sendings ≡ line.queues
  pub each : All (IsSendingOf line) sendings

-- it hears each queue of the line
abbrev pub IsHearingOf : LineSight → List EarSight → Type 0
IsHearingOf line ears = map (λ e. e.queue) ears ≡ line.queues

-- nothing was sent, and no queue was found full
pub record HasSentNothing (s : SendingSight) : Type 0 where
  pub sent : s.sent ≡ []
  pub full : s.full ≡ false

-- where it ever found the queue full, it has sent at least as many notes as that holds
abbrev pub IsFilled : SendingSight → Type 0
IsFilled s = s.full ≡ true → s.capacity ≤ length s.sent
