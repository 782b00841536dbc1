-- What holds of the edits of a stream.
use Rattle.std.specs.Prelude.{◌≡◌, ℕ, ◌+◌, ◌-◌, ◌^◌, ◌<◌, ◌≤◌, Bool, true, ◌||◌, nat_lt, nat_le, List, [], ◌∷◌, ◌++◌, length, map, take, drop}
use Rattle.std.specs.List.{list_all}
use Rattle.ftp_rewrite.specs.declared.adjust.Edit.{Edit}
use Rattle.ftp_rewrite.specs.Edit.{answer_to, AreInOrderFrom, back, back_from, edit_at, edits_after, end_from, end_of, forward, forward_from, most_edits, offset_of}

-- a place is not strictly inside the bytes that an edit replaces
abbrev pub is_outside : List Edit → ℕ → Bool
is_outside edits x = list_all (λ e. nat_le x e.offset || nat_le (end_of e) x) edits

-- edits as there is room for them
pub record AreEdits (edits : List Edit) : Type 0 where
  pub order : AreInOrderFrom 0 edits
  pub few : length edits ≤ most_edits
  pub small : list_all (λ e. nat_lt e.new_length (2 ^ 16)) edits ≡ true

-- A number that is moved forward and then back is what it was, unless it is strictly inside an edit or too far from the
-- base.
abbrev pub BackUndoesForward : Type 0
BackUndoesForward = (base number : ℕ) (edits : List Edit) → base < 2 ^ 32 → number < 2 ^ 32 → AreEdits edits
    → is_outside edits (offset_of base number) ≡ true → offset_of base number < 2 ^ 31 - 2 ^ 22
    → back base edits (forward base edits number) ≡ number

-- A place that is moved forward and then back is where it was, whatever its distance from the base: the place that is y
-- bytes long once it is rewritten is the one to which y moves back.
abbrev pub BackIsThePlace : Type 0
BackIsThePlace = (edits : List Edit) (x : ℕ) → AreInOrderFrom 0 edits → is_outside edits x ≡ true
    → back_from 0 0 edits (forward_from 0 0 edits x) ≡ x

-- Edits that were answered stay edits as there is room for them; at first there is none.
abbrev pub EditsStayInOrder : Type 0
EditsStayInOrder = (edits : List Edit) (base at old new : ℕ) → AreEdits edits → 0 < old → 0 < new → new < 2 ^ 16
    → AreEdits (edits_after (answer_to edits (edit_at base at old new)) edits (edit_at base at old new))

-- an edit with its new text
pub record Replacement : Type 0 where
  pub offset : ℕ
  pub old_length : ℕ
  pub text : List ℕ

abbrev pub edit_by : Replacement → Edit
edit_by r = record { offset = r.offset; old_length = r.old_length; new_length = length r.text }

-- the bytes of a stream from a place on, with each of these texts in the place of what it replaces
abbrev pub rewritten_from : ℕ → List Replacement → List ℕ → List ℕ
rewritten_from start [] bytes = bytes
rewritten_from start (r ∷ rs) bytes =
    take (r.offset - start) bytes ++ (r.text ++ rewritten_from (r.offset + r.old_length) rs (drop (r.offset + r.old_length - start) bytes))

-- Of a stream's first bytes, in which some edits end and behind which the later ones begin, the place behind them moves
-- forward to their length once they are rewritten.
abbrev pub ForwardIsTheLength : Type 0
ForwardIsTheLength = (ended later : List Replacement) (first : List ℕ)
    → AreInOrderFrom 0 (map edit_by ended) → end_from 0 (map edit_by ended) ≤ length first → AreInOrderFrom (length first) (map edit_by later)
    → forward_from 0 0 (map edit_by (ended ++ later)) (length first) ≡ length (rewritten_from 0 ended first)
