-- The records without one, and what is expected without that of one.
use Rattle.std.proofs.Common.{◌≡◌, ◌≢◌, ℕ, ◌+◌, suc, Bool, true, false, Some, List, [], ◌∷◌, length, refl, sym, ap, ◌∙◌, ⊎_elim, arith, ne_eqb}
use Rattle.std.specs.Prelude.{filter, find, if◌then◌else◌, not, ◌==◌, ◌&&◌}
use Rattle.std.specs.List.{All}
use Rattle.std.proofs.lemmas.Bool.{cases_Bool, eqb-true, false≢true}
use mathlib.Core.Option.{some}
use lib.ListN.{get_elem?}
use Rattle.expect_table.specs.Expectations.{without_master}
use Rattle.expect_table.specs.Match.{is_of}
use Rattle.expect_table.specs.declared.expectation.Expectation.{Expectation}
use Rattle.history_book.specs.Legality.{helps_in}
use Rattle.history_book.specs.Record.{has_id}
use Rattle.history_book.specs.State.{State, record_of}
use Rattle.history_book.specs.declared.record.Record.{Record}
use Rattle.track_rule.specs.Sums.{bit, total}
use Rattle.track_rule.proofs.Sums.{length_total, total_only}

-- the records of other ids
abbrev pub others : ℕ → List Record → List Record
others i rs = filter (λ r. not (has_id i r)) rs

-- what weighs the record of the id
abbrev of_id : ℕ → (Record → ℕ) → Record → ℕ
of_id i f r = (if has_id i r then f r else 0)

total_both : (f : Record → ℕ) (i : ℕ) (rs : List Record) → total f (others i rs) + total (of_id i f) rs ≡ total f rs
total_both f i [] = omega arith
total_both f i (r ∷ rs) =
    elim (has_id i r) as (λ b. total f (if not b then r ∷ others i rs else others i rs) + ((if b then f r else 0) + total (of_id i f) rs) ≡ f r + total f rs) [
      | true ↦ omega (arith, total_both f i rs)
      | false ↦ omega (arith, total_both f i rs)
    ]

-- where one record has the id, the others weigh less by it
pub total_others : (f : Record → ℕ) (i : ℕ) (rs : List Record) (j : ℕ) (r : Record) → get_elem? rs j ≡ some r → has_id i r ≡ true
    → total (λ (x : Record). bit (has_id i x)) rs ≡ 1 → total f (others i rs) + f r ≡ total f rs
total_others f i rs j r at its one =
    let only : total (of_id i f) rs ≡ of_id i f r =
    total_only (of_id i f) (λ (x : Record). bit (has_id i x)) rs j r at (one ∙ sym (ap bit its)) (λ k x there none. not_its (has_id i x) (f x) none) in
    omega (arith, total_both f i rs, only, ap (λ (b : Bool). if b then f r else 0) its)
  where
    not_its : (b : Bool) (n : ℕ) → bit b ≡ 0 → (if b then n else 0) ≡ 0
    not_its true n e = absurd (omega (arith, e))
    not_its false n e = refl

pub length_others : (i : ℕ) (rs : List Record) (j : ℕ) (r : Record) → get_elem? rs j ≡ some r → has_id i r ≡ true
    → total (λ (x : Record). bit (has_id i x)) rs ≡ 1 → length (others i rs) + 1 ≡ length rs
length_others i rs j r at its one = omega (arith, total_others (λ x. 1) i rs j r at its one, length_total (others i rs), length_total rs)

-- another id names the record that it named
pub find_others : (i j : ℕ) (rs : List Record) → j ≢ i → find (has_id j) (others i rs) ≡ find (has_id j) rs
find_others i j [] other = refl
find_others i j (r ∷ rs) other =
    ⊎_elim
    (λ (e : has_id i r ≡ true).
    let off : has_id j r ≡ false = ne_eqb r.id j (λ k. other (sym k ∙ eqb-true r.id i e)) in
    ap (λ (b : Bool). find (has_id j) (if not b then r ∷ others i rs else others i rs)) e ∙ find_others i j rs other
    ∙ sym (ap (λ (b : Bool). if b then Some r else find (has_id j) rs) off))
    (λ (e : has_id i r ≡ false).
    ap (λ (b : Bool). find (has_id j) (if not b then r ∷ others i rs else others i rs)) e
    ∙ ap (λ o. if has_id j r then Some r else o) (find_others i j rs other))
    (cases_Bool (has_id i r))

-- of an entry without the helper nothing is expected
pub none_expected : (s : State) (i : ℕ) (r : Record) (es : List Expectation) → record_of i s ≡ Some r → r.helper ≡ false
    → All (λ e. helps_in e.zone (record_of e.master s) ≡ true) es → without_master i es ≡ es
none_expected s i r [] its none all = refl
none_expected s i r (e ∷ es) its none all =
    let off : is_of i e ≡ false = ne_eqb e.master i (λ k.
    false≢true (sym (ap (λ (b : Bool). b && r.original.zone == e.zone) none)
    ∙ sym (ap (helps_in e.zone) (ap (λ (n : ℕ). record_of n s) k ∙ its)) ∙ all 0 e (omega arith))) in
    ap (λ (b : Bool). if not b then e ∷ without_master i es else without_master i es) off
    ∙ ap (λ xs. e ∷ xs) (none_expected s i r es its none (λ k d short. all (suc k) d (omega (arith, short))))
