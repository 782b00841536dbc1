-- What a listener beside the threads of a run has heard of them.
use Rattle.std.specs.Prelude.{◌≡◌, ℕ, ◌+◌, ◌≤◌, Option, None, Some, List, [], ◌∷◌, ◌++◌, length, map, min, take}
use Rattle.std.specs.List.{AllZip, sum_by}
use Rattle.event_listen.specs.Pump.{BeginsWith}
use Rattle.history_book.specs.declared.answer.Answer.{Answer}
use Rattle.history_book.specs.declared.event.Note.{Note}
use Rattle.history_book.specs.declared.event.Numbered.{Numbered}
use Rattle.history_book.specs.declared.report.Report.{Report}
use Rattle.history_book.specs.Numbered.{notes_of}
use Rattle.packet_path.specs.Packet.{Given}
use Rattle.replay_runs.specs.declared.listened.Listened.{Listened}
use Rattle.replay_runs.specs.Report.{made_by, Work}

-- These notes were heard of a thread that made these events: they are its first ones. They are all of them where those
-- are 1,024 at most, and else at least so many.
pub record IsHeardOf (made heard : List Note) : Type 0 where
  pub first : BeginsWith made heard
  pub enough : min 1024 (length made) ≤ length heard

-- the same of each of the threads that made these events; without a listener nothing was heard
abbrev pub HeardEach : List (List Note) → Option (List (List Note)) → Type 0
HeardEach made None = Unit {0}
HeardEach made (Some heard) = AllZip IsHeardOf made heard

-- each of the threads was heard, and its events are counted
pub record IsListened (made : List (List Note)) (l : Listened) : Type 0 where
  pub heard : AllZip IsHeardOf made l.heard
  pub counted : l.made.items ≡ map length made

abbrev pub AreHeard : List (List Note) → Option Listened → Type 0
AreHeard made None = Unit {0}
AreHeard made (Some l) = IsListened made l

-- how many events the first commands of a script made, of which there are so many
abbrev pub made_before : ℕ → List Answer → ℕ
made_before count answers = sum_by (λ (a : Answer). a.made) (take count answers)

-- the events that the threads of captures made, from this thread on
abbrev pub captures_made : List Numbered → ℕ → List (List Given) → List (List Note)
captures_made history thread [] = []
captures_made history thread (gs ∷ gss) = notes_of (made_by thread history) ∷ captures_made history (thread + 1) gss

-- what each thread made before all of them joined: the captures', all of their events, and then the script, those of its
-- commands before `wait`
abbrev pub made_before_join : Work → Report → List (List Note)
made_before_join work report =
    captures_made report.history.items 0 work.captures
    ++ take (made_before work.wait report.answers.items) (notes_of (made_by (length work.captures) report.history.items)) ∷ []
