-- The phases of the places: 0 is FREE, 1 OWNED, 2 DEAD, and 3 plus an id is LIVE of that id. A place that is live is that
-- of the entry of its id, and the place of a live entry is live, except in the middle of a commit: there the record was
-- born and is not yet shown, and the place is still OWNED, or it dies and is shown no longer, and the place is DEAD.
use Rattle.std.specs.Prelude.{◌≡◌, ℕ, ◌+◌, ◌<◌, ◌==◌, ◌&&◌, nat_lt, List}
use Rattle.history_book.specs.declared.event.Event.{Event}
use Rattle.history_book.specs.declared.record.Record.{Record}
use Rattle.history_book.specs.declared.sizes.Sizes.{Sizes}
use Rattle.track_rule.specs.declared.view.Middle.{Middle}
use Rattle.track_rule.specs.declared.view.Middle.TheVariants.{Calm, Born, Dying}
use Rattle.track_rule.specs.declared.view.View.{View}
use Rattle.track_rule.specs.History.{records_after}
use Rattle.track_rule.specs.Layout.{phase_at}
use Rattle.track_rule.specs.Sums.{Each, bit, total}

-- how many references to a place the table has: one while the phase is LIVE of some id
abbrev pub table_keeps : ℕ → ℕ
table_keeps phase = bit (nat_lt 2 phase)

-- 1 where the record has this place
abbrev pub of_place : ℕ → Record → ℕ
of_place place r = bit (r.place == place)

-- 1 where it has besides this id
abbrev pub of_both : ℕ → ℕ → Record → ℕ
of_both place id r = bit (r.place == place && r.id == id)

-- 1 where the phase is LIVE of this id
abbrev pub shows : ℕ → ℕ → ℕ
shows phase id = bit (phase == 3 + id)

-- what weighs the record in the middle of whose commit a pass is
abbrev pub middle_weight : (Record → ℕ) → Middle → ℕ
middle_weight weight Calm = 0
middle_weight weight (Born r) = weight r
middle_weight weight (Dying r) = weight r

abbrev pub middle_of : (Record → ℕ) → View → ℕ
middle_of weight v = middle_weight weight v.commit.middle

-- in the middle of a commit: OWNED until LIVE is stored, DEAD until the Destroy is made
abbrev pub IsMiddlePhase : Sizes → List ℕ → Middle → Type 0
IsMiddlePhase z words Calm = Unit {0}
IsMiddlePhase z words (Born r) = phase_at z words r.place ≡ 1
IsMiddlePhase z words (Dying r) = phase_at z words r.place ≡ 2

pub record ArePhases (z : Sizes) (log : List Event) (words : List ℕ) (views : List View) : Type 0 where
  pub shown : (p id : ℕ) → p < z.entries → total (of_both p id) (records_after log) ≡ shows (phase_at z words p) id + total (middle_of (of_both p id)) views
  pub used : (p : ℕ) → p < z.entries → total (of_place p) (records_after log) ≡ table_keeps (phase_at z words p) + total (middle_of (of_place p)) views
  pub middle : Each (λ v. IsMiddlePhase z words v.commit.middle) views
