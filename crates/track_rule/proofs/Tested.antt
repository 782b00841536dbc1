-- What a load of a phase makes of the references of its pass: they are to the same places, and for new entries where they were. One
-- to look what stands at the place is for the id of which the phase is LIVE.
use Rattle.std.proofs.Common.{◌⊎◌, ◌≡◌, ◌≢◌, ℕ, ◌-◌, ◌<◌, Bool, true, false, List, [], ◌∷◌, length, refl, sym, ap, subst, ◌∙◌, ⊎_elim, inl, inr, arith, set}
use Rattle.std.specs.Prelude.{◌==◌, ◌&&◌, ◌||◌, nat_lt, if◌then◌else◌}
use Rattle.std.proofs.lemmas.Bool.{and_from, and_parts, cases_Bool, cond_both, eqb-true, false≢true, ltb-true, or_parts}
use Rattle.std.proofs.lemmas.List.{length-map}
use mathlib.Core.Option.{some}
use lib.ListN.{get_elem?}
use Rattle.history_book.specs.declared.event.Event.{Event}
use Rattle.history_book.specs.declared.sizes.Sizes.{Sizes}
use Rattle.track_rule.specs.declared.view.Keep.{Keep}
use Rattle.track_rule.specs.declared.view.Purpose.{Purpose}
use Rattle.track_rule.specs.declared.view.Purpose.TheVariants.{Taken, Testing, Shown, For}
use Rattle.track_rule.specs.declared.view.View.{View}
use Rattle.track_rule.specs.KeptWords.{AreKeptWords, HasTuples, is_for, is_for_entry, is_kept_for, shown_times, shows_held}
use Rattle.track_rule.specs.PhaseSteps.{holds_open, is_open, kept_for, purpose_at, saw_confirm, test_at, tested}
use Rattle.track_rule.specs.References.{AreKept, IsKeptFor, WasConfirmed, held_times, is_at, is_for_new, taken_times, takes}
use Rattle.track_rule.specs.Sights.{AreHeldBelow}
use Rattle.track_rule.specs.Sums.{bit, total}
use Rattle.track_rule.proofs.Sums.{each_put, total_alike, total_map, total_set}

module _ (front : List Event) (place : ℕ) where
  -- what is for an id is for it whether its Confirm was seen or not
  for_new : (i : ℕ) → is_for_new (kept_for front place i) ≡ false
  for_new i = cond_both (saw_confirm front i place) (For i) (Shown i) (λ p. is_for_new p ≡ false) (λ e. refl) (λ e. refl)

  for_id : (j i : ℕ) → is_for j (kept_for front place i) ≡ (i == j)
  for_id j i = cond_both (saw_confirm front i place) (For i) (Shown i) (λ p. is_for j p ≡ (i == j)) (λ e. refl) (λ e. refl)

  for_kept : (log : List Event) (i : ℕ) → WasConfirmed log i place → IsKeptFor log place (kept_for front place i)
  for_kept log i was = cond_both (saw_confirm front i place) (For i) (Shown i) (IsKeptFor log place) (λ e. was) (λ e. was)

  same_new : (id : ℕ) (p : Purpose) → is_for_new (purpose_at front place id p) ≡ is_for_new p
  same_new id Taken = refl
  same_new id Testing = for_new id
  same_new id (Shown i) = for_new i
  same_new id (For i) = refl

  -- it is for an id for which it was, or for this one
  same_id : (id j : ℕ) (p : Purpose) → is_for j (purpose_at front place id p) ≡ true → (is_for j p ≡ true) ⊎ (j ≡ id)
  same_id id j Taken e = inl e
  same_id id j Testing e = inr (sym (eqb-true id j (sym (for_id j id) ∙ e)))
  same_id id j (Shown i) e = inl (sym (for_id j i) ∙ e)
  same_id id j (For i) e = inl e

  still_kept : (log : List Event) (id : ℕ) (p : Purpose) → WasConfirmed log id place → IsKeptFor log place p → IsKeptFor log place (purpose_at front place id p)
  still_kept log id Taken was h = h
  still_kept log id Testing was h = for_kept log id was
  still_kept log id (Shown i) was h = for_kept log i h
  still_kept log id (For i) was h = h

  -- what looks at nothing is as it was
  same_purpose : (id : ℕ) (p : Purpose) → is_open p ≡ false → purpose_at front place id p ≡ p
  same_purpose id Taken e = refl
  same_purpose id Testing e = absurd (false≢true (sym e))
  same_purpose id (Shown i) e = absurd (false≢true (sym e))
  same_purpose id (For i) e = refl

module _ (front : List Event) (place n : ℕ) where
  test_new : (k : Keep) → is_for_new (test_at front place n k).purpose ≡ is_for_new k.purpose
  test_new k =
      cond_both (nat_lt 2 n && is_at place k) (purpose_at front place (n - 3) k.purpose) k.purpose (λ p. is_for_new p ≡ is_for_new k.purpose)
      (λ e. same_new front place (n - 3) k.purpose) (λ e. refl)

  pub tested_times : (q : ℕ) (held : List Keep) → held_times q (tested front place n held) ≡ held_times q held
  tested_times q held = total_map (λ k. bit (is_at q k)) (test_at front place n) held

  pub tested_taken : (q : ℕ) (held : List Keep) → taken_times q (tested front place n held) ≡ taken_times q held
  tested_taken q held =
      total_map (λ k. bit (is_at q k && is_for_new k.purpose)) (test_at front place n) held
      ∙ total_alike (λ k. bit (is_at q k && is_for_new (test_at front place n k).purpose)) (λ k. bit (is_at q k && is_for_new k.purpose)) held
      (λ i k at. ap (λ (b : Bool). bit (is_at q k && b)) (test_new k))

  pub tested_length : (held : List Keep) → length (tested front place n held) ≡ length held
  tested_length held = length-map held (test_at front place n)

  pub tested_below : (entries : ℕ) (held : List Keep) → AreHeldBelow entries held → AreHeldBelow entries (tested front place n held)
  tested_below entries [] h = tt
  tested_below entries (k ∷ ks) h = (h.0, tested_below entries ks h.1)

  -- the phase is LIVE of an id that was confirmed at the place, or of none
  pub tested_kept : (log : List Event) (held : List Keep) → (2 < n → WasConfirmed log (n - 3) place) → AreKept log held → AreKept log (tested front place n held)
  tested_kept log [] was h = tt
  tested_kept log (k ∷ ks) was h = (
    cond_both (nat_lt 2 n && is_at place k) (purpose_at front place (n - 3) k.purpose) k.purpose (IsKeptFor log k.place)
        (λ e.
        let parts = and_parts (nat_lt 2 n) (is_at place k) e in
        let here : k.place ≡ place = eqb-true k.place place parts.1 in
        subst (λ (q : ℕ). IsKeptFor log q (purpose_at front place (n - 3) k.purpose)) (sym here)
        (still_kept front place log (n - 3) k.purpose (was (ltb-true 2 n parts.0)) (subst (λ (q : ℕ). IsKeptFor log q k.purpose) here h.0)))
        (λ e. h.0),
    tested_kept log ks was h.1,
  )

  -- where the phase is LIVE of no id, and where no place is held to look what stands there, all is as it was
  test_left : (k : Keep) → (nat_lt 2 n ≡ false) ⊎ (is_open k.purpose ≡ false) → test_at front place n k ≡ k
  test_left k why =
      let same : (if nat_lt 2 n && is_at place k then purpose_at front place (n - 3) k.purpose else k.purpose) ≡ k.purpose =
      cond_both (nat_lt 2 n && is_at place k) (purpose_at front place (n - 3) k.purpose) k.purpose (λ p. p ≡ k.purpose)
      (λ e.
      ⊎_elim
      (λ (f : nat_lt 2 n ≡ false). absurd (false≢true (sym f ∙ (and_parts (nat_lt 2 n) (is_at place k) e).0)))
      (λ (f : is_open k.purpose ≡ false). same_purpose front place (n - 3) k.purpose f) why)
      (λ e. refl) in
      λ i. record k { purpose = same i }

  pub tested_low : (held : List Keep) → nat_lt 2 n ≡ false → tested front place n held ≡ held
  tested_low [] few = refl
  tested_low (k ∷ ks) few = λ i. test_left k (inl few) i ∷ tested_low ks few i

  pub tested_left : (held : List Keep) → holds_open held ≡ false → tested front place n held ≡ held
  tested_left [] none = refl
  tested_left (k ∷ ks) none =
      let parts = or_parts (is_open k.purpose) (holds_open ks) none in
      λ i. test_left k (inr parts.0) i ∷ tested_left ks parts.1 i

  -- a place that is held for an id was held for it before, or is that one
  pub tested_for : (q j : ℕ) (held : List Keep) → is_kept_for q j (tested front place n held) ≡ true
      → (is_kept_for q j held ≡ true) ⊎ ((q ≡ place) × (2 < n) × (j ≡ n - 3))
  tested_for q j [] e = absurd (false≢true e)
  tested_for q j (k ∷ ks) e =
      ⊎_elim
      (λ (f : (is_for j (test_at front place n k).purpose && is_at q k) ≡ true).
      let parts = and_parts (is_for j (test_at front place n k).purpose) (is_at q k) f in
      head_for (nat_lt 2 n && is_at place k) refl parts.0 parts.1)
      (λ (f : (is_for j (test_at front place n k).purpose && is_at q k) ≡ false).
      ⊎_elim
      (λ (g : is_kept_for q j ks ≡ true). inl (ap (λ (b : Bool). (is_for j k.purpose && is_at q k) || b) g ∙ or_true (is_for j k.purpose && is_at q k)))
      (λ (g : (q ≡ place) × (2 < n) × (j ≡ n - 3)). inr g)
      (tested_for q j ks (sym (ap (λ (b : Bool). b || is_kept_for q j (tested front place n ks)) f) ∙ e)))
      (cases_Bool (is_for j (test_at front place n k).purpose && is_at q k))
    where
      or_true : (b : Bool) → (b || true) ≡ true
      or_true true = refl
      or_true false = refl

      first_for : is_for j k.purpose ≡ true → is_at q k ≡ true → is_kept_for q j (k ∷ ks) ≡ true
      first_for a b = ap (λ (x : Bool). x || is_kept_for q j ks) (and_from (is_for j k.purpose) (is_at q k) a b)

      head_for : (b : Bool) → (nat_lt 2 n && is_at place k) ≡ b → is_for j (if b then purpose_at front place (n - 3) k.purpose else k.purpose) ≡ true → is_at q k ≡ true
          → (is_kept_for q j (k ∷ ks) ≡ true) ⊎ ((q ≡ place) × (2 < n) × (j ≡ n - 3))
      head_for false is a here = inl (first_for a here)
      head_for true is a here =
          let parts = and_parts (nat_lt 2 n) (is_at place k) is in
          ⊎_elim
          (λ (f : is_for j k.purpose ≡ true). inl (first_for f here))
          (λ (f : j ≡ n - 3). inr (sym (eqb-true k.place q here) ∙ eqb-true k.place place parts.1, ltb-true 2 n parts.0, f))
          (same_id front place (n - 3) j k.purpose a)

  -- another place is held for ids as often as before
  pub tested_shown : (q : ℕ) (held : List Keep) → q ≢ place → shown_times q (tested front place n held) ≡ shown_times q held
  tested_shown q held other =
      total_map (λ k. bit (is_for_entry k.purpose && is_at q k)) (test_at front place n) held
      ∙ total_alike (λ k. bit (is_for_entry (test_at front place n k).purpose && is_at q k)) (λ k. bit (is_for_entry k.purpose && is_at q k)) held
      (λ i k at.
      cond_both (nat_lt 2 n && is_at place k) (purpose_at front place (n - 3) k.purpose) k.purpose
      (λ p. bit (is_for_entry p && is_at q k) ≡ bit (is_for_entry k.purpose && is_at q k))
      (λ e.
      let here : k.place ≡ place = eqb-true k.place place (and_parts (nat_lt 2 n) (is_at place k) e).1 in
      ⊎_elim
      (λ (f : is_at q k ≡ true). absurd (other (sym (eqb-true k.place q f) ∙ here)))
      (λ (f : is_at q k ≡ false). none_counts (is_for_entry (purpose_at front place (n - 3) k.purpose)) (is_at q k) f ∙ sym (none_counts (is_for_entry k.purpose) (is_at q k) f))
      (cases_Bool (is_at q k)))
      (λ e. refl))
    where
      none_counts : (a b : Bool) → b ≡ false → bit (a && b) ≡ 0
      none_counts true b e = ap bit e
      none_counts false b e = refl

-- the tuple words of what is held for ids, where the phase is LIVE of an id whose tuples stand there, or of none
pub words_tested : (z : Sizes) (log : List Event) (ws : List ℕ) (vs : List View) (i : ℕ) (v w : View) (p n : ℕ) → get_elem? vs i ≡ some v
    → w.places.held ≡ tested v.seen.front p n v.places.held → (2 < n → HasTuples z log ws (n - 3) p) → (2 < n → total (takes p) vs ≡ 0)
    → AreKeptWords z log ws vs → AreKeptWords z log ws (set vs i w)
words_tested z log ws vs i v w p n at held stand none h = record {
  each = each_put (λ u. (q j : ℕ) → is_kept_for q j u.places.held ≡ true → HasTuples z log ws j q) vs i w h.each
      (λ q j is.
      ⊎_elim
      (λ (e : is_kept_for q j v.places.held ≡ true). h.each i v at q j e)
      (λ (e : (q ≡ p) × (2 < n) × (j ≡ n - 3)).
      subst (λ (x : ℕ). HasTuples z log ws j x) (sym e.0) (subst (λ (x : ℕ). HasTuples z log ws x p) (sym e.2) (stand e.1)))
      (tested_for v.seen.front p n q j v.places.held (sym (ap (is_kept_for q j) held) ∙ is)));
  apart = λ q any.
      let before : 0 < total (takes q) vs =
      omega (arith, any, total_set (takes q) vs i v w at, ap (taken_times q) held, tested_taken v.seen.front p n q v.places.held) in
      let same : shows_held q w ≡ shows_held q v =
      ap (shown_times q) held
      ∙ ⊎_elim
      (λ (e : nat_lt 2 n ≡ true).
      tested_shown v.seen.front p n q v.places.held
      (λ (f : q ≡ p). absurd (omega (arith, before, ap (λ (x : ℕ). total (takes x) vs) f, none (ltb-true 2 n e)))))
      (λ (e : nat_lt 2 n ≡ false). ap (shown_times q) (tested_low v.seen.front p n v.places.held e))
      (cases_Bool (nat_lt 2 n)) in
      omega (arith, h.apart q before, same, total_set (shows_held q) vs i v w at);
}
