-- The one place that a desk keeps.
use Rattle.std.proofs.Common.{◌≡◌, ℕ, ◌≤◌, Bool, true, false, cond, List, [], ◌∷◌, length, refl, ap, ◌∙◌, Some, None, arith}
use Rattle.std.proofs.lemmas.Bool.{eq-eqb}
use Rattle.history_book.specs.declared.desk.Hold.{Hold}
use Rattle.history_book.specs.Held.{held_id, is_at, is_held, without}
use Rattle.history_book.specs.Sight.{Sight}
use Rattle.history_book.specs.Places.{HoldsNothing, HoldsOne}

first_only : (place : ℕ) (h : Hold) (b : Bool) → is_at place h ≡ b → is_held place (h ∷ []) ≡ true → cond b [] (h ∷ []) ≡ []
first_only place h true is held = refl
first_only place h false is held = cc

-- without its one reference nothing is held
only_reference : (place : ℕ) (held : List Hold) → is_held place held ≡ true → length held ≤ 1 → without place held ≡ []
only_reference place [] held few = refl
only_reference place (h ∷ []) held few = first_only place h (is_at place h) refl held
only_reference place (h ∷ g ∷ hs) held few = absurd (omega (arith, few))

pub nothing_left : (place : ℕ) (old new : Sight) → is_held place old.held ≡ true → length old.held ≤ 1 → old.owed ≡ []
    → new.held ≡ without place old.held → new.owed ≡ old.owed → HoldsNothing new
nothing_left place old new held few owed less same = record {
  held = less ∙ only_reference place old.held held few;
  owed = same ∙ owed;
}

-- the id for which the one place is held
pub only_id : (place id : ℕ) (s : Sight) → HoldsOne (record { place = place; id = Some id }) s → held_id place s.held ≡ id
only_id place id s one =
    ap (held_id place) one.held
    ∙ ap (λ b. Rattle.history_book.specs.Held.id_of (cond b (Some (record { place = place; id = Some id })) None)) (eq-eqb place place refl)
