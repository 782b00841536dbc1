-- What the fields of the ends say.
use Rattle.std.specs.Prelude.{◌≡◌, ℕ, ◌≤◌, Bool, true, List, [], length}
use Rattle.atomic_table.specs.Seated.{TableId}
use Rattle.crossbeam_queue.specs.declared.array_queue.Slotted.{Slotted}
use Rattle.crossbeam_queue.specs.Passes.{Pass, view}
use Rattle.history_book.specs.declared.event.Note.{Note}
use Rattle.event_listen.specs.declared.talk.Talk.{Talk}

-- which queue it is
abbrev pub id_of : {S D Q A : Type 0} → Slotted S D Q A → TableId
id_of q = q.table.shared.table_id

-- what the pass has sent
abbrev pub sent_by : Pass Note Talk → List Note
sent_by pass = (view pass).sent

-- the pass has no slot out, may send, and has sent so many notes; as many as the queue holds, where that was found full
pub record IsSender (pass : Pass Note Talk) (capacity count : ℕ) (full : Bool) : Type 0 where
  pub home : pass.me.1 ≡ []
  pub sends : (view pass).sends ≡ true
  pub counted : count ≡ length (sent_by pass)
  pub filled : full ≡ true → capacity ≤ length (sent_by pass)

-- what is known may be heard, and these notes were
pub record HasHeard (v : Talk) (notes : List Note) : Type 0 where
  pub hears : v.hears ≡ true
  pub heard : v.heard ≡ notes

-- the pass has no slot out, and has heard these notes
pub record IsListener (pass : Pass Note Talk) (notes : List Note) : Type 0 where
  pub home : pass.me.1 ≡ []
  pub heard : HasHeard (view pass) notes
