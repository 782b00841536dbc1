-- What a change of its part leaves of a record, and what tests say of it.
use Rattle.std.proofs.Common.{◌≡◌, ℕ, Bool, true, false, cond, refl, sym, ◌∙◌, List, [], ◌∷◌}
use Rattle.std.specs.List.{AllByRecursion, list_any, filter}
use Rattle.std.proofs.lemmas.Bool.{or_parts}
use Rattle.proto_rules.specs.declared.Part.{Part}
use Rattle.history_book.specs.declared.record.Record.{Record}
use Rattle.history_book.specs.Laws.{AreApart, IsSameEntry}
use Rattle.history_book.specs.Record.{has_id}
use Rattle.history_book.specs.State.{with_part}

pub same_entry_refl : (r : Record) → IsSameEntry r r
same_entry_refl r = record { id = refl; place = refl; original = refl; reply = refl; helper = refl; master = refl }

pub same_entry_trans : (q r s : Record) → IsSameEntry q r → IsSameEntry r s → IsSameEntry q s
same_entry_trans q r s a b = record {
  id = b.id ∙ a.id;
  place = b.place ∙ a.place;
  original = b.original ∙ a.original;
  reply = b.reply ∙ a.reply;
  helper = b.helper ∙ a.helper;
  master = b.master ∙ a.master;
}

pub with_part-same : (id : ℕ) (part : Part) (r : Record) → IsSameEntry r (with_part id part r)
with_part-same id part r =
    elim (has_id id r) as (λ b. IsSameEntry r (cond b (record r { part = part }) r)) [
      | true ↦ record { id = refl; place = refl; original = refl; reply = refl; helper = refl; master = refl }
      | false ↦ same_entry_refl r
    ]

pub apart_same : (q r s t : Record) → IsSameEntry q r → IsSameEntry s t → AreApart q s → AreApart r t
apart_same q r s t a b h = record {
  ids = λ e. h.ids (sym a.id ∙ e ∙ b.id);
  places = λ e. h.places (sym a.place ∙ e ∙ b.place);
  originals = λ e. h.originals (sym a.original ∙ e ∙ b.original);
  original_reply = λ e. h.original_reply (sym a.original ∙ e ∙ b.reply);
  reply_original = λ e. h.reply_original (sym a.reply ∙ e ∙ b.original);
  replies = λ e. h.replies (sym a.reply ∙ e ∙ b.reply);
}

-- a fact of each item of a list, after a filter
pub each_filter : {X : Type 0} (P : X → Type 0) (keep : X → Bool) (xs : List X)
    → AllByRecursion P xs → AllByRecursion P (filter keep xs)
each_filter P keep [] h = tt
each_filter P keep (x ∷ xs) (h, hs) =
    elim (keep x) as (λ b. AllByRecursion P (cond b (x ∷ filter keep xs) (filter keep xs)))
    [ true ↦ (h, each_filter P keep xs hs) | false ↦ each_filter P keep xs hs ]

-- where no item passes a test, each fails it
pub each_fails : {X : Type 0} (p : X → Bool) (xs : List X) → list_any p xs ≡ false → AllByRecursion (λ x. p x ≡ false) xs
each_fails p [] h = tt
each_fails p (x ∷ xs) h = ((or_parts (p x) (list_any p xs) h).0, each_fails p xs (or_parts (p x) (list_any p xs) h).1)
