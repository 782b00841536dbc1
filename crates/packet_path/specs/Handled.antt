-- What handling one frame leaves of a desk.
use Rattle.std.specs.Prelude.{◌≡◌, ℕ, ◌-◌, ◌≤◌, List, [], ◌∷◌, ◌++◌, length}
use Rattle.std.specs.List.{AllByRecursion}
use Rattle.room_list.specs.Roomed.{Roomed}
use Rattle.history_book.specs.declared.event.Note.{Note}
use Rattle.history_book.specs.declared.verdict.Verdict.{Verdict}
use Rattle.history_book.specs.Mark.{points_of}
use Rattle.history_book.specs.Sight.{Sight}
use Rattle.history_book.specs.WentOn.{WentOn}
use Rattle.packet_path.specs.Packet.{Given}
use Rattle.packet_path.specs.declared.setup.Setup.{Setup}
use Rattle.packet_path.specs.Taken.{taken_by}
use Rattle.packet_path.specs.Verdict.{FitsFrame}

-- Of a tracker that is set up so: the desk went on by the events of the verdict, at most seven, and the verdict fits the
-- frame on the new front: nothing of it is older than what the desk had seen, nor later than what it sees now. No place is
-- held or owed. None was taken but for a packet that begins a flow, and for that one.
pub record Handled (setup : Setup) (given : Given) (old new : Sight) (verdict : Verdict) : Type 0 where
  pub own : List Note
  pub went : WentOn old new own
  pub first : verdict.first ≡ length old.own
  pub made : verdict.made ≡ length own
  pub few : length own ≤ 7
  pub fits : FitsFrame setup old.sizes new.front (length old.front) given own verdict.class
  pub points : AllByRecursion (λ p. p ≤ length new.front) (points_of verdict.class)
  pub held : new.held ≡ []
  pub owed : new.owed ≡ []
  pub taken : new.taken ≡ taken_by verdict.class old.taken

-- the verdict, with its events counted from this index of the desk's own on
abbrev pub counted_from : ℕ → Verdict → Verdict
counted_from base verdict = record verdict { first = verdict.first - base }

-- A frame was handled so, and its verdict, counted so, is now the last of a list, whose room stays.
pub record HandledInto (base : ℕ) (setup : Setup) (given : Given) (old new : Sight) (before after : Roomed Verdict) : Type 0 where
  pub verdict : Verdict
  pub handled : Handled setup given old new verdict
  pub items : after.items ≡ before.items ++ counted_from base verdict ∷ []
  pub room : after.room ≡ before.room
