-- A try of a packet of a flow, whose verdict is appended where it is answered.
use Rattle.std.specs.Prelude.{◌≡◌, ℕ, ◌+◌, ◌-◌, List, [], ◌∷◌, ◌++◌, length}
use Rattle.room_list.specs.Roomed.{Roomed}
use Rattle.history_book.specs.declared.event.Note.{Note}
use Rattle.history_book.specs.declared.verdict.Class.{Class}
use Rattle.history_book.specs.declared.verdict.Class.TheVariants.{Passed}
use Rattle.history_book.specs.declared.verdict.Ftp.{Ftp}
use Rattle.history_book.specs.declared.verdict.Verdict.{Verdict}
use Rattle.history_book.specs.Label.{label_of}
use Rattle.history_book.specs.Sight.{Sight}
use Rattle.history_book.specs.State.{Found}
use Rattle.history_book.specs.WentOn.{Saw}
use Rattle.packet_path.specs.declared.fast.Tried.{Tried}
use Rattle.packet_path.specs.declared.fast.Tried.TheVariants.{Done, Killed, Left}
use Rattle.packet_path.specs.declared.setup.Setup.{Setup}
use Rattle.packet_path.specs.Internal.Attempt.{Answers, Follows, KilledOne}
use Rattle.packet_path.specs.Packet.{FlowPacket}
use Rattle.packet_path.specs.Taken.{taken_by}

-- a packet's own events begin with the desk's own event of index `first`, and its verdict counts them from `base` on
pub record Counting : Type 0 where
  pub first : ℕ
  pub base : ℕ

-- a try of a packet behind so many kills, whose verdict counts its events so
pub record TryAt : Type 0 where
  pub kills : ℕ
  pub counting : Counting

-- a verdict of this class is now the last of a list: it has all of the desk's own events from the one of index `first` on, and counts
-- from `base`
pub record Appended (class : Class) (first base : ℕ) (own : List Note) (before after : Roomed Verdict) : Type 0 where
  pub items : after.items ≡ before.items ++ record { class = class; first = first - base; made = length own - first } ∷ []
  pub room : after.room ≡ before.room

-- what a packet's entry was before it, and the direction in which the packet found it, are those that its verdict names, with
-- what came of its payload behind its Touch
pub record ReadInto (packet : FlowPacket) (found : Found) (touched : ℕ) (n : Counting) (old new : Sight) (before after : Roomed Verdict) : Type 0 where
  pub ftp : Ftp
  pub follows : Follows packet found touched old new ftp
  pub appended : Appended (Passed (label_of found.subject found.direction) found.subject.id (touched + 1) ftp) n.first n.base new.own before after

-- the packet was answered, and its verdict appended
pub record Answered (setup : Setup) (packet : FlowPacket) (t : TryAt) (old new : Sight) (before after : Roomed Verdict) : Type 0 where
  pub class : Class
  pub answers : Answers setup old new packet t.kills (length old.front) class
  pub taken : new.taken ≡ taken_by class old.taken
  pub appended : Appended class t.counting.first t.counting.base new.own before after

-- nothing was done, and the list is as it was
pub record LeftIt (old new : Sight) (before after : Roomed Verdict) : Type 0 where
  pub saw : Saw old new
  pub kept : after ≡ before

-- behind so many kills the packet destroyed the entry that it met, for a reason that a packet kills for, and the list is as it was
pub record Ended (packet : FlowPacket) (kills : ℕ) (old new : Sight) (before after : Roomed Verdict) : Type 0 where
  pub killed : KilledOne old new packet kills (length old.front)
  pub taken : new.taken ≡ old.taken
  pub kept : after ≡ before

-- what came of a try
abbrev pub TriedSays : Setup → FlowPacket → TryAt → Sight → Sight → Roomed Verdict → Roomed Verdict → Tried → Type 0
TriedSays setup packet t old new before after Done = Answered setup packet t old new before after
TriedSays setup packet t old new before after Killed = Ended packet t.kills old new before after
TriedSays setup packet t old new before after Left = LeftIt old new before after
