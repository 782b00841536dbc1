-- Fronts that go on, and the one place that a desk keeps.
use Rattle.std.proofs.Common.{◌≡◌, ℕ, ◌≤◌, Bool, true, false, cond, List, [], ◌∷◌, ◌++◌, length, sym, ap, subst, ◌∙◌, Some, arith, append_assoc, length-append, refl}
use Rattle.std.specs.List.{find}
use Rattle.std.proofs.lemmas.Bool.{eqb-true}
use Rattle.std.proofs.lemmas.List.{append-nil}
use Rattle.history_book.specs.declared.desk.Hold.{Hold}
use Rattle.history_book.specs.declared.event.Event.{Event}
use Rattle.history_book.specs.declared.record.Record.{Record}
use Rattle.history_book.specs.Desk.{HoldsOneMore, SamePlaces}
use Rattle.history_book.specs.Held.{held_id}
use Rattle.history_book.specs.Places.{HoldsNothing, HoldsOne, OneHoldHasItsId}
use Rattle.history_book.specs.Point.{StartsWith}
use Rattle.history_book.specs.Record.{has_id}
use Rattle.history_book.specs.Sight.{Sight}
use Rattle.history_book.specs.State.{State, record_of}
use Rattle.history_book.specs.WentOn.{Looked}

pub starts_refl : (l : List Event) → StartsWith l l
starts_refl l = ([], sym (append-nil l))

pub starts_trans : (c b a : List Event) → StartsWith c b → StartsWith b a → StartsWith c a
starts_trans c b a (r, e) (q, f) = (q ++ r, e ∙ ap (λ (l : List Event). l ++ r) f ∙ append_assoc a q r)

pub starts_longer : (b a : List Event) → StartsWith b a → length a ≤ length b
starts_longer b a (r, e) = omega (arith, ap length e, length-append a r)

-- what is found passes the test
pub found_has : {X : Type 0} (p : X → Bool) (xs : List X) (y : X) → find p xs ≡ Some y → p y ≡ true
found_has p [] y h = cc
found_has p (x ∷ xs) y h = first_has p x y xs (p x) refl h (found_has p xs y)
  where
    first_has : {X : Type 0} (p : X → Bool) (x y : X) (xs : List X) (b : Bool) → p x ≡ b
        → cond b (Some x) (find p xs) ≡ Some y → (find p xs ≡ Some y → p y ≡ true) → p y ≡ true
    first_has p x y xs true e h rest = cc
    first_has p x y xs false e h rest = rest h

-- a record that is found by its id has it
pub has_id_of : (id : ℕ) (s : State) (r : Record) → record_of id s ≡ Some r → r.id ≡ id
has_id_of id s r h = eqb-true r.id id (found_has (has_id id) s.records r h)

-- the only place that is held is held for the entry
pub holds_one : (old mid : Sight) (place id : ℕ) → HoldsNothing old → HoldsOneMore old mid place (Some id)
    → HoldsOne (record { place = place; id = Some id }) mid
holds_one old mid place id empty more = record {
  held = more.held ∙ ap (λ (l : List Hold). record { place = place; id = Some id } ∷ l) empty.held;
  owed = more.owed ∙ empty.owed;
}

module _ (one : OneHoldHasItsId) (old mid : Sight) (place id : ℕ) (empty : HoldsNothing old) (more : HoldsOneMore old mid place (Some id)) where
  pub is_held_id : held_id place mid.held ≡ id
  is_held_id = one place id mid (holds_one old mid place id empty more)

  pub looked_at_one : (then : Sight) (at : ℕ) (F : ℕ → State → Type 0) → Looked mid then at (F (held_id place mid.held)) → Looked mid then at (F id)
  looked_at_one then at F looked = subst (λ i. Looked mid then at (F i)) is_held_id looked

-- what holds nothing still does where the places are the same
pub still_empty : (a b : Sight) → SamePlaces a b → HoldsNothing a → HoldsNothing b
still_empty a b same empty = record { held = same.held ∙ empty.held; owed = same.owed ∙ empty.owed }
