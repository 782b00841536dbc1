-- What a search of the records has found so far.
use Rattle.std.proofs.Common.{◌≡◌, ℕ, ◌+◌, ◌<◌, Bool, true, false, cond, refl, sym, ap, ◌∙◌, length, get_or, List, drop, Option, Some, None, add-one, drop-cons}
use Rattle.std.specs.Prelude.{find, is_some}
use Rattle.std.specs.List.{slice_get}
use Rattle.std.proofs.lemmas.Option.{slice_get-get_or}
use Rattle.tuple_core.specs.declared.Direction.{Direction}
use Rattle.tuple_core.specs.declared.Direction.TheVariants.{Original, Reply}
use Rattle.tuple_core.specs.declared.Tuple.{Tuple}
use Rattle.history_book.specs.declared.record.Record.{Record}
use Rattle.history_book.specs.Find.{IsFoundAt, IsRecordAt}
use Rattle.history_book.specs.Record.{direction_of, has_id, has_original, has_reply}
use Rattle.history_book.specs.State.{original_first, state_of}

find_at : {X : Type 0} (p : X → Bool) (xs : List X) (i : ℕ) (d : X) → i < length xs
    → find p (drop i xs) ≡ cond (p (get_or xs i d)) (Some (get_or xs i d)) (find p (drop (i + 1) xs))
find_at p xs i d within = rw (add-one, drop-cons xs i d) refl

-- the first that passes is here
pub found_here : {X : Type 0} (p : X → Bool) (xs : List X) (i : ℕ) (d : X) → i < length xs
    → find p (drop i xs) ≡ find p xs → p (get_or xs i d) ≡ true → find p xs ≡ Some (get_or xs i d)
found_here p xs i d within so_far passes =
    sym so_far ∙ find_at p xs i d within ∙ ap (λ b. cond b (Some (get_or xs i d)) (find p (drop (i + 1) xs))) passes

-- the first that passes is further on
pub passed_here : {X : Type 0} (p : X → Bool) (xs : List X) (i : ℕ) (d : X) → i < length xs
    → find p (drop i xs) ≡ find p xs → p (get_or xs i d) ≡ false → find p (drop (i + 1) xs) ≡ find p xs
passed_here p xs i d within so_far fails =
    sym (find_at p xs i d within ∙ ap (λ b. cond b (Some (get_or xs i d)) (find p (drop (i + 1) xs))) fails) ∙ so_far

pub record_here : (id : ℕ) (rs : List Record) (i : ℕ) (d : Record) → i < length rs
    → find (has_id id) (drop i rs) ≡ find (has_id id) rs → has_id id (get_or rs i d) ≡ true → IsRecordAt id (state_of rs) i
record_here id rs i d within so_far passes = record {
  subject = get_or rs i d;
  item = slice_get-get_or rs i d within;
  same = found_here (has_id id) rs i d within so_far passes;
}

-- no record before this index has the tuple as its original one, and the first that has it as its
-- reply one is the remembered one
abbrev pub ReplySoFar : Tuple → List Record → ℕ → Option ℕ → Type 0
ReplySoFar t rs index None = find (has_reply t) (drop index rs) ≡ find (has_reply t) rs
ReplySoFar t rs index (Some i) = (r : Record) × (slice_get rs i ≡ Some r) × (find (has_reply t) rs ≡ Some r)

pub record FoundSoFar (t : Tuple) (rs : List Record) (index : ℕ) (reply : Option ℕ) : Type 0 where
  pub original : find (has_original t) (drop index rs) ≡ find (has_original t) rs
  pub replied : ReplySoFar t rs index reply

chosen_original : (a b : Bool) → cond a (Some Original) (cond b (Some Reply) None) ≡ Some Original → a ≡ true
chosen_original true b h = refl
chosen_original false true h = cc
chosen_original false false h = cc

chosen_reply : (a b : Bool) → cond a (Some Original) (cond b (Some Reply) None) ≡ Some Reply → (a ≡ false) × (b ≡ true)
chosen_reply true b h = cc
chosen_reply false true h = (refl, refl)
chosen_reply false false h = cc

abbrev none_direction : Option Direction
none_direction = None

chosen_none : (a b : Bool) → cond a (Some Original) (cond b (Some Reply) None) ≡ none_direction → (a ≡ false) × (b ≡ false)
chosen_none true b h = cc
chosen_none false true h = cc
chosen_none false false h = (refl, refl)

module _ (t : Tuple) (rs : List Record) (i : ℕ) (d : Record) (within : i < length rs) where
  pub found_original : (reply : Option ℕ) → FoundSoFar t rs i reply → direction_of t (get_or rs i d) ≡ Some Original
      → IsFoundAt t (state_of rs) (record { index = i; direction = Original })
  found_original reply so_far here =
      let passes = chosen_original (has_original t (get_or rs i d)) (has_reply t (get_or rs i d)) here in
      let first = found_here (has_original t) rs i d within so_far.original passes in
      record {
        subject = get_or rs i d;
        item = slice_get-get_or rs i d within;
        live = ap (λ o. original_first o (find (has_reply t) rs)) first;
      }

  pub reply_first : (reply : Option ℕ) → is_some reply ≡ false → FoundSoFar t rs i reply
      → direction_of t (get_or rs i d) ≡ Some Reply → FoundSoFar t rs (i + 1) (Some i)
  reply_first (Some k) empty so_far here = cc
  reply_first None empty so_far here =
      let parts = chosen_reply (has_original t (get_or rs i d)) (has_reply t (get_or rs i d)) here in
      record {
        original = passed_here (has_original t) rs i d within so_far.original parts.0;
        replied = (get_or rs i d, slice_get-get_or rs i d within, found_here (has_reply t) rs i d within so_far.replied parts.1);
      }

  pub reply_again : (reply : Option ℕ) → is_some reply ≡ true → FoundSoFar t rs i reply
      → direction_of t (get_or rs i d) ≡ Some Reply → FoundSoFar t rs (i + 1) reply
  reply_again None empty so_far here = cc
  reply_again (Some k) empty so_far here =
      let parts = chosen_reply (has_original t (get_or rs i d)) (has_reply t (get_or rs i d)) here in
      record {
        original = passed_here (has_original t) rs i d within so_far.original parts.0;
        replied = so_far.replied;
      }

  pub neither : (reply : Option ℕ) → FoundSoFar t rs i reply → direction_of t (get_or rs i d) ≡ None → FoundSoFar t rs (i + 1) reply
  neither None so_far here =
      let parts = chosen_none (has_original t (get_or rs i d)) (has_reply t (get_or rs i d)) here in
      record {
        original = passed_here (has_original t) rs i d within so_far.original parts.0;
        replied = passed_here (has_reply t) rs i d within so_far.replied parts.1;
      }
  neither (Some k) so_far here =
      let parts = chosen_none (has_original t (get_or rs i d)) (has_reply t (get_or rs i d)) here in
      record {
        original = passed_here (has_original t) rs i d within so_far.original parts.0;
        replied = so_far.replied;
      }
