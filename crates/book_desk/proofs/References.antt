-- What each change does to the references.
use Rattle.std.proofs.Common.{◌≡◌, ◌≢◌, ℕ, List, [], ◌∷◌, ◌++◌, length, refl, sym, ap, subst, ◌∙◌, arith, Option, Some, None}
use Rattle.std.specs.List.{AllByRecursion, AllPairs, remove, slice_get}
use Rattle.std.specs.Prelude.{slice_set}
use Rattle.std.proofs.lemmas.Bool.{cond_both, eqb-true, eqb-false}
use Rattle.std.proofs.lemmas.List.Elements.{All-from_recursion}
use Rattle.std.proofs.lemmas.List.Kept.{AllPairs-cons}
use Rattle.history_book.specs.declared.desk.Hold.{Hold}
use Rattle.history_book.specs.declared.event.Event.{Event}
use Rattle.history_book.specs.declared.event.Event.TheVariants.{Confirm}
use Rattle.history_book.specs.declared.record.Record.{Record}
use Rattle.history_book.specs.Held.{for_entry, held_for, is_at, without}
use Rattle.history_book.specs.Sight.{IsForEntryOf, IsForOne}
use Rattle.book_desk.specs.Fields.{Agree, AreReferences, IsForRecord}
use Rattle.book_desk.proofs.Histories.{get_append, get_last}
use Rattle.book_desk.proofs.Lists.{each_map, each_push, each_remove, each_rest, each_set, each_two}

-- references agree when one is given up
agree_without : (place : ℕ) (held : List Hold) → Agree held → Agree (without place held)
agree_without place [] a = tt
agree_without place (g ∷ gs) (a, rest) =
    cond_both (is_at place g) gs (g ∷ without place gs) Agree
    (λ e. rest)
    (λ e. (each_rest (is_at place) (without place) (λ x xs. refl) (IsForOne g) gs refl a, agree_without place gs rest))

-- references to one entry agree on it still when each is given an entry
for_one : (place id : ℕ) (g h : Hold) → IsForOne g h → IsForOne (for_entry place id g) (for_entry place id h)
for_one place id g h one =
    cond_both (is_at place g) (record g { id = Some id }) g (λ (k : Hold). IsForOne k (for_entry place id h))
    (λ at. cond_both (is_at place h) (record h { id = Some id }) h (λ (k : Hold). IsForOne (record g { id = Some id }) k)
    (λ e. record { same = λ q. refl; entry = λ q. refl })
    (λ e. record {
      same = λ q. absurd (eqb-false h.place place e (sym q ∙ eqb-true g.place place at));
      entry = λ q. refl;
    }))
    (λ off. cond_both (is_at place h) (record h { id = Some id }) h (λ (k : Hold). IsForOne g k)
    (λ e. record {
      same = λ q. absurd (eqb-false g.place place off (q ∙ eqb-true h.place place e));
      entry = one.entry;
    })
    (λ e. one))

-- the same of one reference and each of others
for_ones : (place id : ℕ) (g : Hold) (hs : List Hold) → AllByRecursion (IsForOne g) hs
    → AllByRecursion (IsForOne (for_entry place id g)) (held_for place id hs)
for_ones place id g [] a = tt
for_ones place id g (h ∷ hs) (a, as') = (for_one place id g h a, for_ones place id g hs as')

-- references agree when each is given an entry
agree_for : (place id : ℕ) (held : List Hold) → Agree held → Agree (held_for place id held)
agree_for place id [] a = tt
agree_for place id (g ∷ gs) (a, rest) = (for_ones place id g gs a, agree_for place id gs rest)

-- any two references agree
pub pairs_agree : (held : List Hold) → Agree held → AllPairs IsForOne held
pairs_agree [] a = λ i j d below short. absurd (omega (arith, short))
pairs_agree (g ∷ gs) (a, rest) = AllPairs-cons IsForOne g gs (All-from_recursion (IsForOne g) gs a) (pairs_agree gs rest)

-- an entry that was confirmed stays so
for_entry_grows : (front more : List Event) (place : ℕ) (id : Option ℕ) → IsForEntryOf front place id → IsForEntryOf (front ++ more) place id
for_entry_grows front more place None h = tt
for_entry_grows front more place (Some n) h = record {
  subject = h.subject;
  event = get_append front more n (Confirm h.subject) h.event;
  placed = h.placed;
}

-- a longer history leaves the references right
pub refs_grow : (front more : List Event) (rs : List Record) (held : List Hold) → AreReferences front rs held
    → AreReferences (front ++ more) rs held
refs_grow front more rs held h = record {
  confirmed = each_map (λ (k : Hold). IsForEntryOf front k.place k.id) (λ (k : Hold). IsForEntryOf (front ++ more) k.place k.id) held
      (λ k one. for_entry_grows front more k.place k.id one) h.confirmed;
  current = h.current;
  agreed = h.agreed;
}

-- one reference more
pub refs_more : (front : List Event) (rs : List Record) (held : List Hold) (h : Hold) → AreReferences front rs held
    → IsForEntryOf front h.place h.id → AllByRecursion (IsForRecord h) rs → AllByRecursion (IsForOne h) held
    → AreReferences front rs (h ∷ held)
refs_more front rs held h refs entry current one = record {
  confirmed = (entry, refs.confirmed);
  current = (current, refs.current);
  agreed = (one, refs.agreed);
}

-- one reference less
pub refs_without : (front : List Event) (rs : List Record) (held : List Hold) (place : ℕ) → AreReferences front rs held
    → AreReferences front rs (without place held)
refs_without front rs held place refs = record {
  confirmed = each_rest (is_at place) (without place) (λ x xs. refl) (λ (k : Hold). IsForEntryOf front k.place k.id) held refl refs.confirmed;
  current = each_rest (is_at place) (without place) (λ x xs. refl) (λ k. AllByRecursion (IsForRecord k) rs) held refl refs.current;
  agreed = agree_without place held refs.agreed;
}

-- a record is written with its id and place
pub refs_set : (front : List Event) (rs : List Record) (held : List Hold) (i : ℕ) (r s : Record) → AreReferences front rs held
    → AllByRecursion (λ h. IsForRecord h r) held → s.id ≡ r.id → s.place ≡ r.place → AreReferences front (slice_set rs i s) held
refs_set front rs held i r s refs own id place = record {
  confirmed = refs.confirmed;
  current = each_two (λ h. AllByRecursion (IsForRecord h) rs) (λ h. IsForRecord h r) (λ h. AllByRecursion (IsForRecord h) (slice_set rs i s)) held
      (λ h all one. each_set (IsForRecord h) rs i s all (λ e. one (e ∙ place) ∙ ap Some (sym id))) refs.current own;
  agreed = refs.agreed;
}

-- one record less
pub refs_remove : (front : List Event) (rs : List Record) (held : List Hold) (i : ℕ) → AreReferences front rs held
    → AreReferences front (remove rs i) held
refs_remove front rs held i refs = record {
  confirmed = refs.confirmed;
  current = each_map (λ h. AllByRecursion (IsForRecord h) rs) (λ h. AllByRecursion (IsForRecord h) (remove rs i)) held
      (λ h all. each_remove (IsForRecord h) rs i all) refs.current;
  agreed = refs.agreed;
}

-- a reference that is given an entry keeps its place
place_kept : (place id : ℕ) (h : Hold) → (for_entry place id h).place ≡ h.place
place_kept place id h =
    cond_both (is_at place h) (record h { id = Some id }) h (λ (k : Hold). k.place ≡ h.place) (λ e. refl) (λ e. refl)

-- a reference that is given its entry is to it
entry_here : (front : List Event) (r : Record) (h : Hold) → r.id ≡ length front → IsForEntryOf front h.place h.id
    → IsForEntryOf (front ++ Confirm r ∷ []) h.place (for_entry r.place r.id h).id
entry_here front r h id old =
    cond_both (is_at r.place h) (record h { id = Some r.id }) h (λ (k : Hold). IsForEntryOf (front ++ Confirm r ∷ []) h.place k.id)
    (λ e. record {
      subject = r;
      event = ap (slice_get (front ++ Confirm r ∷ [])) id ∙ get_last front (Confirm r);
      placed = sym (eqb-true h.place r.place e);
    })
    (λ e. for_entry_grows front (Confirm r ∷ []) h.place h.id old)

-- and to that of the record where one has the place
record_here : (r : Record) (rs : List Record) (h : Hold) → AllByRecursion (λ (s : Record). s.place ≢ r.place) rs
    → AllByRecursion (IsForRecord h) rs → AllByRecursion (IsForRecord (for_entry r.place r.id h)) (rs ++ r ∷ [])
record_here r rs h none old =
    cond_both (is_at r.place h) (record h { id = Some r.id }) h (λ (k : Hold). AllByRecursion (IsForRecord k) (rs ++ r ∷ []))
    (λ e. each_push (IsForRecord (record h { id = Some r.id })) rs r
    (each_map (λ (s : Record). s.place ≢ r.place) (IsForRecord (record h { id = Some r.id })) rs
    (λ s apart same. absurd (apart (sym same ∙ eqb-true h.place r.place e))) none)
    (λ same. refl))
    (λ e. each_push (IsForRecord h) rs r old (λ same. absurd (eqb-false h.place r.place e same)))

-- the same of each reference, of the entry
entries_here : (front : List Event) (r : Record) (held : List Hold) → r.id ≡ length front
    → AllByRecursion (λ (h : Hold). IsForEntryOf front h.place h.id) held
    → AllByRecursion (λ (h : Hold). IsForEntryOf (front ++ Confirm r ∷ []) h.place h.id) (held_for r.place r.id held)
entries_here front r [] id old = tt
entries_here front r (h ∷ hs) id (old, olds) = (
  subst (λ (p : ℕ). IsForEntryOf (front ++ Confirm r ∷ []) p (for_entry r.place r.id h).id) (sym (place_kept r.place r.id h))
      (entry_here front r h id old),
  entries_here front r hs id olds,
)

-- and of the records
records_here : (r : Record) (rs : List Record) (held : List Hold) → AllByRecursion (λ (s : Record). s.place ≢ r.place) rs
    → AllByRecursion (λ h. AllByRecursion (IsForRecord h) rs) held
    → AllByRecursion (λ h. AllByRecursion (IsForRecord h) (rs ++ r ∷ [])) (held_for r.place r.id held)
records_here r rs [] none old = tt
records_here r rs (h ∷ hs) none (old, olds) = (record_here r rs h none old, records_here r rs hs none olds)

-- a record is confirmed in a place that no record has, with its number as its id
pub refs_confirm : (front : List Event) (rs : List Record) (held : List Hold) (r : Record) → AreReferences front rs held
    → r.id ≡ length front → AllByRecursion (λ (s : Record). s.place ≢ r.place) rs
    → AreReferences (front ++ Confirm r ∷ []) (rs ++ r ∷ []) (held_for r.place r.id held)
refs_confirm front rs held r refs id none = record {
  confirmed = entries_here front r held id refs.confirmed;
  current = records_here r rs held none refs.current;
  agreed = agree_for r.place r.id held refs.agreed;
}
