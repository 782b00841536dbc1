-- The records of a state, found by their index.
use Rattle.std.proofs.Common.{◌≡◌, ℕ, zero, suc, true, false, not, cond, List, [], ◌∷◌, refl, sym, ap, subst, ◌∙◌, Some}
use Rattle.std.specs.List.{AllByRecursion, filter, find, slice_get, remove}
use Rattle.std.specs.Prelude.{map, slice_set, ◌≢◌}
use Rattle.std.proofs.lemmas.Bool.{eq-eqb, ne_eqb}
use Rattle.proto_rules.specs.declared.Part.{Part}
use Rattle.history_book.specs.declared.record.Record.{Record}
use Rattle.history_book.specs.Laws.{AreApart}
use Rattle.history_book.specs.Record.{has_id}
use Rattle.history_book.specs.State.{with_part}
use Rattle.history_book.proofs.Pairs.{Pairs}

pub each_at : {X : Type 0} (P : X → Type 0) (xs : List X) (i : ℕ) (x : X) → AllByRecursion P xs → slice_get xs i ≡ Some x → P x
each_at P [] i x h at = cc
each_at P (y ∷ ys) zero x (h, hs) at = let same : y ≡ x = cc in subst P same h
each_at P (y ∷ ys) (suc i) x (h, hs) at = each_at P ys i x hs at

-- a record of the state is the one with its id
pub own_record : (rs : List Record) (i : ℕ) (r : Record) → Pairs rs → slice_get rs i ≡ Some r → find (has_id r.id) rs ≡ Some r
own_record [] i r h at = cc
own_record (q ∷ rs) zero r (h, hs) at =
    let same : q ≡ r = cc in
    let here : has_id r.id q ≡ true = eq-eqb q.id r.id (ap (λ (x : Record). x.id) same) in
    ap (λ b. cond b (Some q) (find (has_id r.id) rs)) here ∙ ap Some same
own_record (q ∷ rs) (suc i) r (h, hs) at =
    let other : has_id r.id q ≡ false = ne_eqb q.id r.id (each_at (AreApart q) rs i r h at).ids in
    ap (λ b. cond b (Some q) (find (has_id r.id) rs)) other ∙ own_record rs i r hs at

pub apart_sym : (r s : Record) → AreApart r s → AreApart s r
apart_sym r s h = record {
  ids = λ e. h.ids (sym e);
  places = λ e. h.places (sym e);
  originals = λ e. h.originals (sym e);
  original_reply = λ e. h.reply_original (sym e);
  reply_original = λ e. h.original_reply (sym e);
  replies = λ e. h.replies (sym e);
}

-- the others are apart from the record at an index
pub others_apart : (rs : List Record) (i : ℕ) (r : Record) → Pairs rs → slice_get rs i ≡ Some r
    → AllByRecursion (AreApart r) (remove rs i)
others_apart [] i r h at = cc
others_apart (q ∷ rs) zero r (h, hs) at =
    let same : q ≡ r = cc in subst (λ (x : Record). AllByRecursion (AreApart x) rs) same h
others_apart (q ∷ rs) (suc i) r (h, hs) at =
    (apart_sym q r (each_at (AreApart q) rs i r h at), others_apart rs i r hs at)

-- no other record has the id
pub with_part-other : (id : ℕ) (part : Part) (r : Record) → r.id ≢ id → with_part id part r ≡ r
with_part-other id part r other = ap (λ b. cond b (record r { part = part }) r) (ne_eqb r.id id other)

pub with_part-others : (id : ℕ) (part : Part) (rs : List Record) → AllByRecursion (λ r. r.id ≢ id) rs → map (with_part id part) rs ≡ rs
with_part-others id part [] h = refl
with_part-others id part (r ∷ rs) (h, hs) = cc (with_part-other id part r h, with_part-others id part rs hs)

pub later_ids : (q : Record) (rs : List Record) → AllByRecursion (AreApart q) rs → AllByRecursion (λ r. r.id ≢ q.id) rs
later_ids q [] h = tt
later_ids q (r ∷ rs) (h, hs) = (λ e. h.ids (sym e), later_ids q rs hs)

-- a change of the one record with the id is a write at its index
pub map-with_part : (rs : List Record) (i : ℕ) (r : Record) (part : Part) → Pairs rs → slice_get rs i ≡ Some r
    → slice_set rs i (record r { part = part }) ≡ map (with_part r.id part) rs
map-with_part [] i r part h at = cc
map-with_part (q ∷ rs) zero r part (h, hs) at =
    let same : q ≡ r = cc in
    let ids : AllByRecursion (λ x. x.id ≢ r.id) rs =
    subst (λ (y : Record). AllByRecursion (λ x. x.id ≢ y.id) rs) same (later_ids q rs h) in
    let here : with_part r.id part q ≡ record r { part = part } =
    ap (λ b. cond b (record q { part = part }) q) (eq-eqb q.id r.id (ap (λ (x : Record). x.id) same))
    ∙ ap (λ (x : Record). record x { part = part }) same in
    cc (here, with_part-others r.id part rs ids)
map-with_part (q ∷ rs) (suc i) r part (h, hs) at =
    cc (with_part-other r.id part q (each_at (AreApart q) rs i r h at).ids, map-with_part rs i r part hs at)

keep_others : (id : ℕ) (rs : List Record) → AllByRecursion (λ r. r.id ≢ id) rs → filter (λ r. not (has_id id r)) rs ≡ rs
keep_others id [] h = refl
keep_others id (r ∷ rs) (h, hs) =
    ap (λ b. cond (not b) (r ∷ filter (λ x. not (has_id id x)) rs) (filter (λ x. not (has_id id x)) rs)) (ne_eqb r.id id h)
    ∙ ap (λ xs. r ∷ xs) (keep_others id rs hs)

-- to take out the one record with the id is to take out the one at its index
pub remove-filter : (rs : List Record) (i : ℕ) (r : Record) → Pairs rs → slice_get rs i ≡ Some r
    → remove rs i ≡ filter (λ q. not (has_id r.id q)) rs
remove-filter [] i r h at = cc
remove-filter (q ∷ rs) zero r (h, hs) at =
    let same : q ≡ r = cc in
    let ids : AllByRecursion (λ x. x.id ≢ r.id) rs =
    subst (λ (y : Record). AllByRecursion (λ x. x.id ≢ y.id) rs) same (later_ids q rs h) in
    sym (ap (λ b. cond (not b) (q ∷ filter (λ x. not (has_id r.id x)) rs) (filter (λ x. not (has_id r.id x)) rs))
    (eq-eqb q.id r.id (ap (λ (x : Record). x.id) same)) ∙ keep_others r.id rs ids)
remove-filter (q ∷ rs) (suc i) r (h, hs) at =
    sym (ap (λ b. cond (not b) (q ∷ filter (λ x. not (has_id r.id x)) rs) (filter (λ x. not (has_id r.id x)) rs))
    (ne_eqb q.id r.id (each_at (AreApart q) rs i r h at).ids)
    ∙ ap (λ xs. q ∷ xs) (sym (remove-filter rs i r hs at)))
