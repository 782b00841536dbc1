-- A clerk at rest, and what a desk knows of it.
use Rattle.std.specs.List.{AllByRecursion}
use Rattle.std.specs.Prelude.{◌==◌, ◌||◌, if◌then◌else◌}
use Rattle.std.proofs.Common.{◌≡◌, ℕ, false, List, [], ◌∷◌, map, refl, sym, ap, ◌∙◌, arith, append-nil, subst}
use Rattle.std.proofs.lemmas.Bool.{cond_both, or_from}
use Rattle.history_book.specs.Held.{is_held as is_hold, paid, without as without_hold}
use Rattle.history_book.specs.Point.{StartsWith}
use Rattle.history_book.specs.Sight.{Sight}
use Rattle.history_book.specs.WentOn.{IsSamePass, Saw}
use Rattle.track_rule.specs.declared.view.Keep.{Keep}
use Rattle.track_rule.specs.declared.view.Purpose.{Purpose}
use Rattle.track_rule.specs.declared.view.Purpose.TheVariants.{Taken, Testing, Shown, For}
use Rattle.track_rule.specs.Free.{taken_out}
use Rattle.track_rule.specs.PhaseSteps.{holds_open, is_open}
use Rattle.track_rule.specs.References.{is_held, without}
use Rattle.track_rule.specs.Sights.{PassSight}
use Rattle.shared_desk.specs.Rest.{IsIdle, IsSettled}
use Rattle.shared_desk.specs.Sights.{ClerkSight, hold_of, sight_of, taken_by}

-- a clerk at rest looks what stands at no place
pub settled_closed : (held : List Keep) → AllByRecursion (λ (k : Keep). IsSettled k.purpose) held → holds_open held ≡ false
settled_closed [] s = refl
settled_closed (k ∷ ks) s = or_from (is_open k.purpose) (holds_open ks) (not_open k.purpose s.0) (settled_closed ks s.1)
  where
    not_open : (p : Purpose) → IsSettled p → is_open p ≡ false
    not_open Taken h = refl
    not_open Testing h = absurd h
    not_open (Shown id) h = absurd h
    not_open (For id) h = refl

-- a clerk by its parts
abbrev pub clerk_at : PassSight → ℕ → ClerkSight
clerk_at p spare = record { pass = p; spare = spare }

-- as a desk, but that it took no place since
abbrev pub then_of : PassSight → ClerkSight → Sight
then_of v c = record (sight_of c) { taken = taken_by v }

-- where it took none, that is the desk
pub now_of : (P : Sight → Type 0) (v : PassSight) (c : ClerkSight) → taken_by c.pass ≡ taken_by v → P (then_of v c) → P (sight_of c)
now_of P v c still h = subst (λ (n : ℕ). P (record (sight_of c) { taken = n })) (sym still) h

-- references as a desk sees them
pub holds_without : (place : ℕ) (held : List Keep) → map hold_of (without place held) ≡ without_hold place (map hold_of held)
holds_without place [] = refl
holds_without place (k ∷ ks) =
    cond_both (k.place == place) ks (k ∷ without place ks)
    (λ xs. map hold_of xs ≡ (if k.place == place then map hold_of ks else hold_of k ∷ without_hold place (map hold_of ks)))
    (λ e. ap (λ b. if b then map hold_of ks else hold_of k ∷ without_hold place (map hold_of ks)) (sym e))
    (λ e. ap (λ xs. hold_of k ∷ xs) (holds_without place ks)
    ∙ ap (λ b. if b then map hold_of ks else hold_of k ∷ without_hold place (map hold_of ks)) (sym e))

pub holds_held : (place : ℕ) (held : List Keep) → is_hold place (map hold_of held) ≡ is_held place held
holds_held place [] = refl
holds_held place (k ∷ ks) = ap (λ b. k.place == place || b) (holds_held place ks)

pub paid_taken_out : (place : ℕ) (owed : List ℕ) → taken_out place owed ≡ paid place owed
paid_taken_out place [] = refl
paid_taken_out place (p ∷ ps) = ap (λ xs. if p == place then ps else p ∷ xs) (paid_taken_out place ps)

-- the pass has no more than before
pub idle_still : (p q : PassSight) → IsIdle p → q.slots ≡ p.slots → q.view.free ≡ p.view.free → q.view.commit ≡ p.view.commit
    → q.view.expected ≡ p.view.expected → q.view.buckets.shut ≡ p.view.buckets.shut → q.view.places.carried ≡ p.view.places.carried → IsIdle q
idle_still p q h slots free commit expected shut carried = record {
  slots = slots ∙ h.slots;
  free = free ∙ h.free;
  hand = ap (λ c. c.hand) commit ∙ h.hand;
  middle = ap (λ c. c.middle) commit ∙ h.middle;
  expected = expected ∙ h.expected;
  shut = shut ∙ h.shut;
  carried = carried ∙ h.carried;
}

-- the desk made no event
pub saw_more : (a b : Sight) → StartsWith b.front a.front → b.own ≡ a.own → b.spare ≡ a.spare → b.taken ≡ a.taken → IsSamePass a b → Saw a b
saw_more a b front own spare taken pass = record {
  went = record { front = front; own = own ∙ sym (append-nil a.own); spare = omega (arith, spare); pass = pass };
  spare = spare;
  taken = taken;
}

-- and saw no further one
pub saw_none : (a b : Sight) → b.front ≡ a.front → b.own ≡ a.own → b.spare ≡ a.spare → b.taken ≡ a.taken → IsSamePass a b → Saw a b
saw_none a b front own spare taken pass = saw_more a b ([], front ∙ sym (append-nil a.front)) own spare taken pass
