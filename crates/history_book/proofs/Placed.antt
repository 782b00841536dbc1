-- The places of live records.
use Rattle.std.proofs.Common.{◌≡◌, ℕ, Bool, true, false, cond, List, [], ◌∷◌, sym, ap, subst, ◌∙◌, ◌⊎◌, inl, inr, ⊎_elim, Some}
use Rattle.std.specs.List.{find}
use Rattle.std.specs.Prelude.{◌≢◌}
use Rattle.std.proofs.lemmas.Bool.{eq-eqb, eqb-true, not-true, true≢false}
use Rattle.history_book.specs.declared.event.Event.{Event}
use Rattle.history_book.specs.declared.record.Record.{Record}
use Rattle.history_book.specs.declared.sizes.Sizes.{Sizes}
use Rattle.history_book.specs.History.{after, is_legal}
use Rattle.history_book.specs.Laws.{AreApart}
use Rattle.history_book.specs.Record.{has_id, has_place}
use Rattle.history_book.specs.Sight.{WasConfirmedIn}
use Rattle.history_book.specs.State.{State, is_unused, record_of}
use Rattle.history_book.proofs.Again.{found_confirmed}
use Rattle.history_book.proofs.Entries.{each_fails}
use Rattle.history_book.proofs.Pairs.{Pairs}
use Rattle.history_book.proofs.Passing.{found_holds, found_passes}
use Rattle.history_book.proofs.Records.{apart_sym}
use Rattle.history_book.proofs.Sound.{sound_after}

pub confirmed_in : (sizes : Sizes) (log : List Event) (p id : ℕ) (r : Record) → is_legal sizes log ≡ true
    → record_of id (after log p) ≡ Some r → WasConfirmedIn log r.place id
confirmed_in sizes log p id r legal at =
    let c = found_confirmed sizes log p id r legal at in
    subst (WasConfirmedIn log r.place) c.1
    (record { subject = c.0.subject; event = c.0.event; placed = sym c.0.same.place })

pub placed_in : (sizes : Sizes) (log : List Event) (p id : ℕ) (r : Record) → is_legal sizes log ≡ true
    → record_of id (after log p) ≡ Some r → (place : ℕ) → WasConfirmedIn log place id → r.place ≡ place
placed_in sizes log p id r legal at place was =
    let own = confirmed_in sizes log p id r legal at in
    let same : own.subject ≡ was.subject = let e = own.event in let f = was.event in cc in
    sym own.placed ∙ ap (λ (x : Record). x.place) same ∙ was.placed

pub unused_nobodys : (s : State) (place id : ℕ) (r : Record) → is_unused place s ≡ true → record_of id s ≡ Some r → r.place ≢ place
unused_nobodys s place id r unused at same =
    let fails : has_place place r ≡ false =
    found_holds (λ x. has_place place x ≡ false) (has_id id) s.records r
    (each_fails (has_place place) s.records (not-true _ unused)) at in
    true≢false (sym (eq-eqb r.place place same) ∙ fails)

-- of two that are found in a list, they are one or apart
either : (p q : Record → Bool) (rs : List Record) (r s : Record) → Pairs rs → find p rs ≡ Some r → find q rs ≡ Some s
    → (r ≡ s) ⊎ AreApart r s
either p q [] r s apart at other = cc
either p q (x ∷ rs) r s (a, apart) at other = by_first (p x) (q x) at other (λ f g. either p q rs r s apart f g)
  where
    by_first : (b c : Bool) → cond b (Some x) (find p rs) ≡ Some r → cond c (Some x) (find q rs) ≡ Some s
        → (find p rs ≡ Some r → find q rs ≡ Some s → (r ≡ s) ⊎ AreApart r s) → (r ≡ s) ⊎ AreApart r s
    by_first true true f g rest = inl (let e : x ≡ r = cc in let d : x ≡ s = cc in sym e ∙ d)
    by_first true false f g rest =
        let e : x ≡ r = cc in
        inr (subst (λ (y : Record). AreApart y s) e (found_holds (AreApart x) q rs s a g))
    by_first false true f g rest =
        let e : x ≡ s = cc in
        inr (apart_sym s r (subst (λ (y : Record). AreApart y r) e (found_holds (AreApart x) p rs r a f)))
    by_first false false f g rest = rest f g

pub one_entry_of : (sizes : Sizes) (log : List Event) (p id other : ℕ) (r q : Record) → is_legal sizes log ≡ true
    → record_of id (after log p) ≡ Some r → record_of other (after log p) ≡ Some q → r.place ≡ q.place → id ≡ other
one_entry_of sizes log p id other r q legal at there places =
    ⊎_elim
    (λ e. sym (eqb-true r.id id (found_passes (has_id id) (after log p).records r at)) ∙ ap (λ (x : Record). x.id) e
    ∙ eqb-true q.id other (found_passes (has_id other) (after log p).records q there))
    (λ a. absurd (a.places places))
    (either (has_id id) (has_id other) (after log p).records r q (sound_after sizes p log legal).apart at there)
