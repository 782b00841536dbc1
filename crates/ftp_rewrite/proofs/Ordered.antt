-- Edits that were answered stay in order.
use Rattle.std.proofs.Common.{◌≡◌, ℕ, ◌<◌, ◌^◌, Bool, true, false, List, [], ◌∷◌, ◌++◌, length, refl, arith, length-append}
use Rattle.std.proofs.lemmas.Bool.{and_parts}
use Rattle.std.proofs.lemmas.Bool.Decides.{nat_tests}
use Rattle.std.specs.Prelude.{if◌then◌else◌, nat_lt, nat_le}
use Rattle.std.specs.List.{list_all, list_any}
use Rattle.ftp_rewrite.specs.declared.adjust.Added.{Added}
use Rattle.ftp_rewrite.specs.declared.adjust.Added.TheVariants as added
use Rattle.ftp_rewrite.specs.declared.adjust.Edit.{Edit}
use Rattle.ftp_rewrite.specs.Edit.{edit_at, edits_after, is_same_edit, most_edits, overlaps}
use Rattle.ftp_rewrite.specs.Laws.{AreEdits, EditsStayInOrder}
use Rattle.ftp_rewrite.proofs.Walks.{order_more}

-- what each of the three tests, in their order, answers
abbrev answer_by : (again over full : Bool) → Added
answer_by again over full = (if again then added.Again else (if over then added.Overlap else (if full then added.Full else added.Added)))

abbrev is_short : Edit → Bool
is_short e = nat_lt e.new_length (2 ^ 16)

short_more : (edits : List Edit) (e : Edit) → list_all is_short edits ≡ true → is_short e ≡ true → list_all is_short (edits ++ e ∷ []) ≡ true
short_more [] e all own = rw own refl
short_more (x ∷ xs) e all own =
    let parts = and_parts (is_short x) (list_all is_short xs) all in
    rw parts.0 (short_more xs e parts.1 own)

is_below : (m n : ℕ) → m < n → nat_lt m n ≡ true
is_below m n h = grind (arith, nat_tests)

has_room : (most many : ℕ) → nat_le most many ≡ false → many < most
has_room most many h = grind (arith, nat_tests)

stay : (edits : List Edit) (e : Edit) (again over full : Bool) → overlaps edits e ≡ over → nat_le most_edits (length edits) ≡ full
    → AreEdits edits → 0 < e.old_length → 0 < e.new_length → e.new_length < 2 ^ 16 → AreEdits (edits_after (answer_by again over full) edits e)
stay edits e true over full apart room are old new short = are
stay edits e false true full apart room are old new short = are
stay edits e false false true apart room are old new short = are
stay edits e false false false apart room are old new short = record {
  order = order_more edits e are.order apart old new;
  few = omega (arith, has_room most_edits (length edits) room, length-append edits (e ∷ []));
  small = short_more edits e are.small (is_below e.new_length (2 ^ 16) short);
}

pub edits_stay_in_order : EditsStayInOrder
edits_stay_in_order edits base at old new are some_old some_new short =
    let e : Edit = edit_at base at old new in
    stay edits e (list_any (is_same_edit e) edits) (overlaps edits e) (nat_le most_edits (length edits)) refl refl are some_old some_new short
