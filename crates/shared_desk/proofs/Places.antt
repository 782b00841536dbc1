-- Whether a live record has a place, and whether it is in use.
use Rattle.std.specs.List.{All, AllPairs}
use Rattle.std.specs.Prelude.{◌==◌, ◌||◌, not}
use Rattle.std.proofs.Common.{◌≡◌, ◌≢◌, ℕ, ◌+◌, ◌<◌, ◌≤◌, Bool, true, false, List, [], ◌∷◌, length, map, refl, sym, ap, subst, ◌∙◌, ⊎_elim, arith}
use Rattle.std.proofs.lemmas.Bool.{cases_lt, cond_both, eqb-true, false≢true, ne_eqb, or_cases, or_from, or_left, or_right}
use Rattle.history_book.specs.declared.desk.Hold.{Hold}
use Rattle.history_book.specs.declared.event.Event.{Event}
use Rattle.history_book.specs.declared.event.Note.{Note}
use Rattle.history_book.specs.Held.{is_at, is_held, is_owed}
use Rattle.history_book.specs.History.{after}
use Rattle.history_book.specs.Record.{has_place}
use Rattle.history_book.specs.Sight.{IsHoldOf, IsKnown, Sight, notes_from}
use Rattle.history_book.specs.State.{is_unused}
use Rattle.track_rule.specs.declared.view.Keep.{Keep}
use Rattle.track_rule.specs.Free.{taken_out}
use Rattle.track_rule.specs.History.{records_after}
use Rattle.track_rule.specs.Phases.{of_place}
use Rattle.track_rule.specs.References.{held_times, is_at as is_kept_at}
use Rattle.track_rule.specs.Sums.{times, total}
use Rattle.shared_desk.specs.Sights.{hold_of}
use Rattle.shared_desk.proofs.Lists.{all_first, all_rest, none_of, pairs_first, pairs_rest, some_of}
use Rattle.shared_desk.proofs.Resting.{holds_held}

-- no live record has it
pub is_unused_after : (place : ℕ) (log : List Event) → total (of_place place) (records_after log) ≡ 0 → is_unused place (after log (length log)) ≡ true
is_unused_after place log none = ap not (none_of (has_place place) (records_after log) none)

-- one has it
pub is_used_after : (place : ℕ) (log : List Event) → 0 < total (of_place place) (records_after log) → not (is_unused place (after log (length log))) ≡ true
is_used_after place log any = ap (λ b. not (not b)) (some_of (has_place place) (records_after log) any)

-- one that counts is in use: a live record has it, or it is held, or owed
pub in_use : (place : ℕ) (log : List Event) (held : List Keep) (owed : List ℕ)
    → 0 < held_times place held + times place owed + total (of_place place) (records_after log)
    → (not (is_unused place (after log (length log))) || is_held place (map hold_of held) || is_owed place owed) ≡ true
in_use place log held owed some =
    ⊎_elim
    (λ (any : 0 < total (of_place place) (records_after log)).
    or_left (live || is_held place (map hold_of held)) (is_owed place owed) (or_left live (is_held place (map hold_of held)) (is_used_after place log any)))
    (λ (none : total (of_place place) (records_after log) ≤ 0).
    ⊎_elim
    (λ (any : 0 < held_times place held).
    or_left (live || is_held place (map hold_of held)) (is_owed place owed)
    (or_right live (is_held place (map hold_of held)) (holds_held place held ∙ some_of (is_kept_at place) held any)))
    (λ (unheld : held_times place held ≤ 0).
    or_right (live || is_held place (map hold_of held)) (is_owed place owed) (some_of (λ p. p == place) owed (omega (arith, some, none, unheld))))
    (cases_lt 0 (held_times place held)))
    (cases_lt 0 (total (of_place place) (records_after log)))
  where
    live : Bool
    live = not (is_unused place (after log (length log)))

-- notes give their events back
pub events_from : (k : ℕ) (es : List Event) → map (λ (n : Note). n.event) (notes_from k es) ≡ es
events_from k [] = refl
events_from k (e ∷ es) = ap (λ t. e ∷ t) (events_from (k + 1) es)

pub same_events : (notes : List Note) (log front : List Event) → notes ≡ notes_from 0 log → notes ≡ notes_from 0 front → log ≡ front
same_events notes log front a b = sym (events_from 0 log) ∙ ap (map (λ (n : Note). n.event)) (sym a ∙ b) ∙ events_from 0 front

-- a place that is held is one of the pool
pub held_below : (s : Sight) (place : ℕ) → IsKnown s → is_held place s.held ≡ true → place < s.sizes.entries
held_below s place k there = among s.held k.held there
  where
    among : (hs : List Hold) → All (IsHoldOf s) hs → is_held place hs ≡ true → place < s.sizes.entries
    among [] all e = absurd (false≢true e)
    among (h ∷ hs) all e =
        ⊎_elim (λ i. subst (λ (p : ℕ). p < s.sizes.entries) (eqb-true h.place place i) (all_first (IsHoldOf s) h hs all).0)
        (λ i. among hs (all_rest (IsHoldOf s) h hs all) i) (or_cases (is_at place h) (is_held place hs) e)

-- a place that is owed is not held
pub owed_unheld : (place : ℕ) (owed : List ℕ) → is_owed place owed ≡ true → (hs : List Hold) → All (λ (h : Hold). is_owed h.place owed ≡ false) hs
    → is_held place hs ≡ false
owed_unheld place owed there [] all = refl
owed_unheld place owed there (h ∷ hs) all =
    or_from (h.place == place) (is_held place hs)
    (ne_eqb h.place place (λ i. false≢true (sym (all_first (λ (g : Hold). is_owed g.place owed ≡ false) h hs all) ∙ ap (λ p. is_owed p owed) i ∙ there)))
    (owed_unheld place owed there hs (all_rest (λ (g : Hold). is_owed g.place owed ≡ false) h hs all))

-- one that is owed once is not owed when it is taken out
pub taken_out_once : (place : ℕ) (owed : List ℕ) → AllPairs (λ p q. p ≢ q) owed → is_owed place (taken_out place owed) ≡ false
taken_out_once place [] once = refl
taken_out_once place (p ∷ ps) once =
    cond_both (p == place) ps (p ∷ taken_out place ps) (λ xs. is_owed place xs ≡ false)
    (λ e. apart ps (subst (λ (x : ℕ). All (λ q. x ≢ q) ps) (eqb-true p place e) (pairs_first (λ x q. x ≢ q) p ps once)))
    (λ e. or_from (p == place) (is_owed place (taken_out place ps)) e (taken_out_once place ps (pairs_rest (λ x q. x ≢ q) p ps once)))
  where
    apart : (qs : List ℕ) → All (λ q. place ≢ q) qs → is_owed place qs ≡ false
    apart [] all = refl
    apart (q ∷ qs) all =
        or_from (q == place) (is_owed place qs) (ne_eqb q place (λ i. all_first (λ x. place ≢ x) q qs all (sym i)))
        (apart qs (all_rest (λ x. place ≢ x) q qs all))
