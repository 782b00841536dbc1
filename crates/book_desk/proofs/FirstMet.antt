-- What one pass over the records has found for a new flow.
use Rattle.std.proofs.Common.{◌≡◌, ℕ, ◌+◌, ◌<◌, Bool, true, false, cond, refl, sym, ap, ◌∙◌, length, get_or, List, drop, Option, Some, None, add-one, drop-cons}
use Rattle.std.specs.Prelude.{find}
use Rattle.std.specs.List.{slice_get}
use Rattle.std.proofs.lemmas.Option.{slice_get-get_or}
use Rattle.tuple_core.specs.declared.Direction.TheVariants.{Original}
use Rattle.tuple_core.specs.declared.Tuple.{Tuple}
use Rattle.history_book.specs.declared.record.Record.{Record}
use Rattle.history_book.specs.Record.{has_original, has_reply}
use Rattle.history_book.specs.State.{first_found, live_under, original_first, state_of}
use Rattle.book_desk.specs.declared.entries.Candidates.{Candidates}
use Rattle.book_desk.specs.Internal.Book.{WinsAt}
use Rattle.book_desk.specs.Internal.Winner.{first_of}

find_at : {X : Type 0} (p : X → Bool) (xs : List X) (i : ℕ) (d : X) → i < length xs
    → find p (drop i xs) ≡ cond (p (get_or xs i d)) (Some (get_or xs i d)) (find p (drop (i + 1) xs))
find_at p xs i d within = rw (add-one, drop-cons xs i d) refl

-- none before this index passes, or the first that passes is the remembered one
abbrev pub IsFirst : {X : Type 0} → (X → Bool) → List X → ℕ → Option ℕ → Type 0
IsFirst p xs index None = find p (drop index xs) ≡ find p xs
IsFirst {X} p xs index (Some i) = (x : X) × (slice_get xs i ≡ Some x) × (find p xs ≡ Some x)

module _ {X : Type 0} (p : X → Bool) (xs : List X) (i : ℕ) (d : X) (within : i < length xs) where
  -- where none before passes and this one does, this is the first
  first_here : IsFirst p xs i None → p (get_or xs i d) ≡ true → find p xs ≡ Some (get_or xs i d)
  first_here so_far passes =
      sym so_far ∙ find_at p xs i d within ∙ ap (λ b. cond b (Some (get_or xs i d)) (find p (drop (i + 1) xs))) passes

  -- where this one does not pass either, the first is further on
  first_later : IsFirst p xs i None → p (get_or xs i d) ≡ false → IsFirst p xs (i + 1) None
  first_later so_far fails =
      sym (find_at p xs i d within ∙ ap (λ b. cond b (Some (get_or xs i d)) (find p (drop (i + 1) xs))) fails) ∙ so_far

  -- the first so far, after this one
  first_step : (o : Option ℕ) (b : Bool) → p (get_or xs i d) ≡ b → IsFirst p xs i o → IsFirst p xs (i + 1) (first_of o b i)
  first_step (Some k) b here so_far = so_far
  first_step None true here so_far = (get_or xs i d, slice_get-get_or xs i d within, first_here so_far here)
  first_step None false here so_far = first_later so_far here

-- each candidate is the first of its test among the records so far, and none of these has the original tuple
pub record AreFirst (original reply : Tuple) (rs : List Record) (index : ℕ) (c : Candidates) : Type 0 where
  pub none_original : IsFirst (has_original original) rs index None
  pub original_by_reply : IsFirst (has_reply original) rs index c.original_by_reply
  pub reply_by_original : IsFirst (has_original reply) rs index c.reply_by_original
  pub reply_by_reply : IsFirst (has_reply reply) rs index c.reply_by_reply

module _ (original reply : Tuple) (rs : List Record) (i : ℕ) where
  -- a record that has the original tuple, where none before it has
  pub met_here : (d : Record) → i < length rs → IsFirst (has_original original) rs i None → has_original original (get_or rs i d) ≡ true
      → WinsAt original reply (state_of rs) (record { index = i; direction = Original })
  met_here d within so_far passes = record {
    subject = get_or rs i d;
    item = slice_get-get_or rs i d within;
    wins = ap (λ o. first_found (original_first o (find (has_reply original) rs)) (live_under reply (state_of rs)))
        (first_here (has_original original) rs i d within so_far passes);
  }

  -- the candidates after a record that does not have the original tuple
  pub candidates_step : (d : Record) (old new : Candidates) → i < length rs → AreFirst original reply rs i old
      → has_original original (get_or rs i d) ≡ false
      → new.original_by_reply ≡ first_of old.original_by_reply (has_reply original (get_or rs i d)) i
      → new.reply_by_original ≡ first_of old.reply_by_original (has_original reply (get_or rs i d)) i
      → new.reply_by_reply ≡ first_of old.reply_by_reply (has_reply reply (get_or rs i d)) i
      → AreFirst original reply rs (i + 1) new
  candidates_step d old new within so_far fails a b c = record {
    none_original = first_later (has_original original) rs i d within so_far.none_original fails;
    original_by_reply = rw a (first_step (has_reply original) rs i d within old.original_by_reply _ refl so_far.original_by_reply);
    reply_by_original = rw b (first_step (has_original reply) rs i d within old.reply_by_original _ refl so_far.reply_by_original);
    reply_by_reply = rw c (first_step (has_reply reply) rs i d within old.reply_by_reply _ refl so_far.reply_by_reply);
  }
