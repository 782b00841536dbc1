-- The Confirm of a record whose links its pass has put in.
use Rattle.std.proofs.Common.{◌⊎◌, ◌≤◌, inl, inr, set, ◌≡◌, ◌≢◌, ℕ, ◌+◌, ◌<◌, zero, suc, Bool, true, false, Some, None, List, [], ◌∷◌, ◌++◌, length, refl, sym, ap, subst, ◌∙◌, ⊎_elim, arith, eq-eqb, ne_eqb}
use Rattle.std.specs.Prelude.{slice_get, ◌==◌, ◌&&◌, ◌||◌, if◌then◌else◌, find}
use Rattle.std.specs.List.{All, list_any}
use Rattle.std.proofs.Math.Bool.{or-true}
use Rattle.std.proofs.lemmas.Bool.{and_from, and_parts, cases_Bool, cases_eq, cond_both, eqb-true, false≢true, or_from}
use mathlib.Core.Option.{some, some-injective}
use lib.ListN.{get_elem?}
use Rattle.tuple_core.specs.Tuple.{number_of}
use Rattle.tuple_core.specs.Words.{address_word, flow_word}
use Rattle.tuple_core.specs.declared.Tuple.{Tuple}
use Rattle.history_book.specs.Record.{has_id, has_original, has_reply, has_tuple, same_tuple}
use Rattle.history_book.specs.declared.event.Event.{Event}
use Rattle.history_book.specs.declared.event.Event.TheVariants.{Confirm}
use Rattle.history_book.specs.declared.record.Record.{Record}
use Rattle.history_book.specs.declared.sizes.Sizes.{Sizes}
use Rattle.track_rule.specs.declared.view.ChainLink.{ChainLink}
use Rattle.track_rule.specs.declared.view.Hook.{Hook}
use Rattle.track_rule.specs.declared.view.Keep.{Keep}
use Rattle.track_rule.specs.declared.view.Pair.{Pair}
use Rattle.track_rule.specs.declared.view.Purpose.TheVariants.{For}
use Rattle.track_rule.specs.declared.view.View.{View}
use Rattle.track_rule.specs.Chains.{bucket_of, links_in, original_of, pair_of, reply_of, side}
use Rattle.track_rule.specs.CommitSteps.{dropped, has_pair, held_for}
use Rattle.track_rule.specs.KeptWords.{AreKeptWords, HasTuples, is_for, is_for_entry, is_kept_for, shown_times, shows_held}
use Rattle.track_rule.specs.Links.{hook_of, hooks_of}
use Rattle.track_rule.specs.Phases.{of_both}
use Rattle.track_rule.specs.References.{AreKept, held_times, is_at, is_for_new, is_taken, taken_times, takes}
use Rattle.track_rule.specs.Sums.{Each, bit, total}
use Rattle.track_rule.proofs.Lists.{other_bit, same_bit}
use Rattle.track_rule.proofs.Sums.{each_put, total_set}

-- LISTS

-- what is found is found in a longer list
pub find_more : {X : Type 0} (p : X → Bool) (xs ys : List X) (x : X) → find p xs ≡ Some x → find p (xs ++ ys) ≡ Some x
find_more p [] ys x e = cc
find_more p (y ∷ xs) ys x e =
    elim (p y) as (λ b. (if b then Some y else find p xs) ≡ Some x → (if b then Some y else find p (xs ++ ys)) ≡ Some x) [
      | true ↦ λ k. k
      | false ↦ λ k. find_more p xs ys x k
    ] e

-- an item that passes no test changes nothing
pub find_same : {X : Type 0} (p : X → Bool) (xs : List X) (x : X) → p x ≡ false → find p (xs ++ x ∷ []) ≡ find p xs
find_same p [] x e = ap (λ (b : Bool). if b then Some x else None) e
find_same p (y ∷ xs) x e = ap (λ o. if p y then Some y else o) (find_same p xs x e)

-- the last one is found where no other passes
pub find_last : {X : Type 0} (p : X → Bool) (xs : List X) (x : X) → list_any p xs ≡ false → p x ≡ true → find p (xs ++ x ∷ []) ≡ Some x
find_last p [] x none_passes e = ap (λ (b : Bool). if b then Some x else None) e
find_last p (y ∷ xs) x none_passes e =
    elim (p y) as (λ b. (b || list_any p xs) ≡ false → (if b then Some y else find p (xs ++ x ∷ [])) ≡ Some x) [
      | true ↦ λ k. absurd (false≢true (sym k))
      | false ↦ λ k. find_last p xs x k e
    ] none_passes

-- the sum without the newest link at a link
pub total_dropped : (f : Hook → ℕ) (x : ℕ) (hooks : List Hook) → 0 < hooks_of x hooks → total f (dropped x hooks) + f (hook_of x hooks) ≡ total f hooks
total_dropped f x [] any = absurd (omega (arith, any))
total_dropped f x (h ∷ hs) any =
    elim (h.link == x) as (λ b. 0 < bit b + hooks_of x hs
    → total f (if b then hs else h ∷ dropped x hs) + f (if b then h else hook_of x hs) ≡ f h + total f hs) [
      | true ↦ λ k. omega arith
      | false ↦ λ k. omega (arith, total_dropped f x hs (omega (arith, k)))
    ] any

-- another one is as it was
pub hook_else : (x y : ℕ) → y ≢ x → (hooks : List Hook) → hook_of y (dropped x hooks) ≡ hook_of y hooks
hook_else x y other [] = refl
hook_else x y other (h ∷ hs) =
    cond_both (h.link == x) hs (h ∷ dropped x hs) (λ ks. hook_of y ks ≡ (if h.link == y then h else hook_of y hs))
    (λ e. sym (ap (λ (b : Bool). if b then h else hook_of y hs) (ne_eqb h.link y (λ k. other (sym k ∙ eqb-true h.link x e)))))
    (λ e. ap (λ k. if h.link == y then h else k) (hook_else x y other hs))

pub each_dropped : (F : Hook → Type 0) (x : ℕ) (hooks : List Hook) → Each F hooks → Each F (dropped x hooks)
each_dropped F x [] all = all
each_dropped F x (h ∷ hs) all =
    cond_both (h.link == x) hs (h ∷ dropped x hs) (Each F) (λ e i k at. all (suc i) k at)
    (λ e. each_cons h (dropped x hs) (all 0 h refl) (each_dropped F x hs (λ i k at. all (suc i) k at)))
  where
    each_cons : (k : Hook) (ks : List Hook) → F k → Each F ks → Each F (k ∷ ks)
    each_cons k ks f rest zero m at = subst F (some-injective k m at) f
    each_cons k ks f rest (suc i) m at = rest i m at

-- held for another purpose, a place is held as often
pub held_kept : (place id q : ℕ) (held : List Keep) → held_times q (held_for place id held) ≡ held_times q held
held_kept place id q [] = refl
held_kept place id q (k ∷ ks) =
    cond_both (is_at place k && is_for_new k.purpose) (record k { purpose = For id } ∷ ks) (k ∷ held_for place id ks) (λ xs. held_times q xs ≡ bit (is_at q k) + held_times q ks)
    (λ e. refl) (λ e. ap (λ n. bit (is_at q k) + n) (held_kept place id q ks))

pub held_long : (place id : ℕ) (held : List Keep) → length (held_for place id held) ≡ length held
held_long place id [] = refl
held_long place id (k ∷ ks) =
    cond_both (is_at place k && is_for_new k.purpose) (record k { purpose = For id } ∷ ks) (k ∷ held_for place id ks) (λ xs. length xs ≡ suc (length ks))
    (λ e. refl) (λ e. ap suc (held_long place id ks))

-- what is held for an id then was, or is that place, for that id
kept_held : (place id p i : ℕ) (held : List Keep) → is_kept_for p i (held_for place id held) ≡ true
    → (is_kept_for p i held ≡ true) ⊎ (p ≡ place) × (i ≡ id)
kept_held place id p i [] e = inl e
kept_held place id p i (k ∷ ks) e =
    cond_both (is_at place k && is_for_new k.purpose) (record k { purpose = For id } ∷ ks) (k ∷ held_for place id ks)
    (λ ys. is_kept_for p i ys ≡ true → (((is_for i k.purpose && is_at p k) || is_kept_for p i ks) ≡ true) ⊎ (p ≡ place) × (i ≡ id))
    (λ c f.
    ⊎_elim
    (λ (t : (id == i && is_at p k) ≡ true).
    let parts = and_parts (id == i) (is_at p k) t in
    let here : k.place ≡ place = eqb-true k.place place (and_parts (is_at place k) (is_for_new k.purpose) c).0 in
    inr (sym (eqb-true k.place p parts.1) ∙ here, sym (eqb-true id i parts.0)))
    (λ (t : (id == i && is_at p k) ≡ false).
    inl (more_true (sym (ap (λ (b : Bool). b || is_kept_for p i ks) t) ∙ f)))
    (cases_Bool (id == i && is_at p k)))
    (λ c f.
    ⊎_elim
    (λ (t : (is_for i k.purpose && is_at p k) ≡ true). inl (ap (λ (b : Bool). b || is_kept_for p i ks) t))
    (λ (t : (is_for i k.purpose && is_at p k) ≡ false).
    ⊎_elim
    (λ (g : is_kept_for p i ks ≡ true). inl (more_true g))
    (λ (g : (p ≡ place) × (i ≡ id)). inr g)
    (kept_held place id p i ks (sym (ap (λ (b : Bool). b || is_kept_for p i (held_for place id ks)) t) ∙ f)))
    (cases_Bool (is_for i k.purpose && is_at p k))) e
  where
    more_true : is_kept_for p i ks ≡ true → ((is_for i k.purpose && is_at p k) || is_kept_for p i ks) ≡ true
    more_true g = ap (λ (b : Bool). (is_for i k.purpose && is_at p k) || b) g ∙ or-true (is_for i k.purpose && is_at p k)

-- that is once more there, and no more elsewhere
held_shown : (place id q : ℕ) (held : List Keep) → shown_times q (held_for place id held) ≤ shown_times q held + bit (place == q)
held_shown place id q [] = omega arith
held_shown place id q (k ∷ ks) =
    cond_both (is_at place k && is_for_new k.purpose) (record k { purpose = For id } ∷ ks) (k ∷ held_for place id ks)
    (λ ys. shown_times q ys ≤ bit (is_for_entry k.purpose && is_at q k) + shown_times q ks + bit (place == q))
    (λ c. omega (arith, ap (λ (n : ℕ). bit (n == q)) (eqb-true k.place place (and_parts (is_at place k) (is_for_new k.purpose) c).0)))
    (λ c. omega (arith, held_shown place id q ks))

-- it is taken once less there, and no more elsewhere
pub held_taken : (place id q : ℕ) (held : List Keep) → is_taken place held ≡ true
    → total (λ k. bit (is_at q k && is_for_new k.purpose)) (held_for place id held) + bit (place == q) ≡ total (λ k. bit (is_at q k && is_for_new k.purpose)) held
held_taken place id q [] taken = cc
held_taken place id q (k ∷ ks) taken =
    ⊎_elim
    (λ (e : (is_at place k && is_for_new k.purpose) ≡ true).
    let parts = and_parts (is_at place k) (is_for_new k.purpose) e in
    let here : k.place ≡ place = eqb-true k.place place parts.0 in
    ap (λ (b : Bool). total (λ x. bit (is_at q x && is_for_new x.purpose)) (if b then record k { purpose = For id } ∷ ks else k ∷ held_for place id ks) + bit (place == q)) e
    ∙ omega (
      arith,
      never (k.place == q),
      ap (λ (n : ℕ). bit (n == q)) here,
      both (k.place == q) (is_for_new k.purpose) parts.1,
    ))
    (λ (e : (is_at place k && is_for_new k.purpose) ≡ false).
    ap (λ (b : Bool). total (λ x. bit (is_at q x && is_for_new x.purpose)) (if b then record k { purpose = For id } ∷ ks else k ∷ held_for place id ks) + bit (place == q)) e
    ∙ omega (arith, held_taken place id q ks (sym (ap (λ (b : Bool). b || is_taken place ks) e) ∙ taken)))
    (cases_Bool (is_at place k && is_for_new k.purpose))
  where
    never : (b : Bool) → bit (b && false) ≡ 0
    never true = refl
    never false = refl

    both : (b c : Bool) → c ≡ true → bit (b && c) ≡ bit b
    both true c e = ap bit e
    both false c e = refl

pub kept_for : (log : List Event) (place id : ℕ) (held : List Keep) → (r : Record) → slice_get log id ≡ Some (Confirm r) → r.place ≡ place
    → AreKept log held → AreKept log (held_for place id held)
kept_for log place id [] r there its h = tt
kept_for log place id (k ∷ ks) r there its h =
    cond_both (is_at place k && is_for_new k.purpose) (record k { purpose = For id } ∷ ks) (k ∷ held_for place id ks) (AreKept log)
    (λ e. (
      record {
        subject = r;
        event = there;
        its_place = its ∙ sym (eqb-true k.place place (and_parts (is_at place k) (is_for_new k.purpose) e).0);
      },
      h.1,
    ))
    (λ e. (h.0, kept_for log place id ks r there its h.1))

-- ids of live records are below the length of the history
pub low_ids : (n : ℕ) (rs : List Record) → All (λ r. r.id < n) rs → list_any (has_id n) rs ≡ false
low_ids n [] all = refl
low_ids n (r ∷ rs) all =
    or_from (has_id n r) (list_any (has_id n) rs) (ne_eqb r.id n (λ e. omega (arith, e, all 0 r (omega arith))))
    (low_ids n rs (λ i d short. all (suc i) d (omega (arith, short))))

-- a record that is live with this id and place has a low id
pub low_both : (n p i : ℕ) (rs : List Record) → All (λ r. r.id < n) rs → 0 < total (of_both p i) rs → i < n
low_both n p i [] all any = absurd (omega (arith, any))
low_both n p i (r ∷ rs) all any =
    ⊎_elim
    (λ (e : (r.place == p && r.id == i) ≡ true).
    omega (arith, all 0 r (omega arith), eqb-true r.id i (and_parts (r.place == p) (r.id == i) e).1))
    (λ (e : (r.place == p && r.id == i) ≡ false).
    low_both n p i rs (λ k d short. all (suc k) d (omega (arith, short))) (omega (arith, any, ap bit e)))
    (cases_Bool (r.place == p && r.id == i))

-- TUPLES

-- one tuple has one pair of words
pub same_pair : (t u : Tuple) → same_tuple t u ≡ true → pair_of t ≡ pair_of u
same_pair t u e =
    let one = and_parts _ (t.b == u.b) e in
    let two = and_parts _ (t.a == u.a) one.0 in
    let three = and_parts _ (t.dst == u.dst) two.0 in
    let four = and_parts _ (t.src == u.src) three.0 in
    let five = and_parts (number_of t.proto == number_of u.proto) (t.zone == u.zone) four.0 in
    λ i. record {
      first = words (eqb-true t.src u.src four.1) (eqb-true t.dst u.dst three.1) i;
      second = flow (eqb-true t.zone u.zone five.1) (eqb-true (number_of t.proto) (number_of u.proto) five.0) (eqb-true t.a u.a two.1) (eqb-true t.b u.b one.1) i;
    }
  where
    words : t.src ≡ u.src → t.dst ≡ u.dst → address_word t ≡ address_word u
    words p q = omega (arith, p, q)

    flow : t.zone ≡ u.zone → number_of t.proto ≡ number_of u.proto → t.a ≡ u.a → t.b ≡ u.b → flow_word t ≡ flow_word u
    flow z p q r = omega (arith, z, p, q, r)

-- an entry with a tuple weighs one in the bucket of the tuple
pub weighs_one : (z : Sizes) (t : Tuple) (e : ChainLink) → e.pair ≡ pair_of t → side z (bucket_of z (pair_of t)) (has_pair (pair_of t)) e ≡ 1
weighs_one z t e same =
    ap (λ (b : Bool). if b then has_pair (pair_of t) e else 0) (eq-eqb (bucket_of z e.pair) (bucket_of z (pair_of t)) (ap (bucket_of z) same))
    ∙ ap bit (and_from (e.pair.first == (pair_of t).first) (e.pair.second == (pair_of t).second)
    (eq-eqb e.pair.first (pair_of t).first (ap (λ (p : Pair). p.first) same)) (eq-eqb e.pair.second (pair_of t).second (ap (λ (p : Pair). p.second) same)))

-- where no record weighs anything there, none has the tuple
pub free_there : (z : Sizes) (t : Tuple) (rs : List Record) → total (links_in z (bucket_of z (pair_of t)) (has_pair (pair_of t))) rs ≡ 0 → list_any (has_tuple t) rs ≡ false
free_there z t [] none_weighs = refl
free_there z t (r ∷ rs) none_weighs =
    or_from (has_tuple t r) (list_any (has_tuple t) rs)
    (or_from (has_original t r) (has_reply t r)
    (⊎_elim
    (λ (e : has_original t r ≡ true). absurd (omega (arith, none_weighs, weighs_one z t (original_of r) (same_pair r.original t e))))
    (λ (e : has_original t r ≡ false). e) (cases_Bool (has_original t r)))
    (⊎_elim
    (λ (e : has_reply t r ≡ true). absurd (omega (arith, none_weighs, weighs_one z t (reply_of r) (same_pair r.reply t e))))
    (λ (e : has_reply t r ≡ false). e) (cases_Bool (has_reply t r))))
    (free_there z t rs (omega (arith, none_weighs)))

-- The place that a pass has taken is held for the id of the entry that was confirmed there: no pass has taken it then.
pub words_for : (z : Sizes) (log : List Event) (ws : List ℕ) (vs : List View) (i place id : ℕ) (v w : View) → get_elem? vs i ≡ some v
    → is_taken place v.places.held ≡ true → w.places.held ≡ held_for place id v.places.held → total (takes place) vs ≤ 1
    → HasTuples z log ws id place → AreKeptWords z log ws vs → AreKeptWords z log ws (set vs i w)
words_for z log ws vs i place id v w at taken held one its h = record {
  each = each_put (λ u. (p n : ℕ) → is_kept_for p n u.places.held ≡ true → HasTuples z log ws n p) vs i w h.each
      (λ p n is.
      ⊎_elim
      (λ (e : is_kept_for p n v.places.held ≡ true). h.each i v at p n e)
      (λ (e : (p ≡ place) × (n ≡ id)). subst (λ (k : ℕ). HasTuples z log ws k p) (sym e.1) (subst (HasTuples z log ws id) (sym e.0) its))
      (kept_held place id p n v.places.held (sym (ap (is_kept_for p n) held) ∙ is)));
  apart = λ p any.
      let took = total_set (takes p) vs i v w at in
      let less = held_taken place id p v.places.held taken in
      ⊎_elim
      (λ (e : place ≡ p).
      absurd (omega (arith, any, took, ap (taken_times p) held, less, same_bit place p e, ap (λ (k : ℕ). total (takes k) vs) e, one)))
      (λ (e : place ≢ p).
      omega (
        arith,
        h.apart p (omega (arith, any, took, ap (taken_times p) held, less)),
        total_set (shows_held p) vs i v w at,
        ap (shown_times p) held,
        held_shown place id p v.places.held,
        other_bit place p e,
      ))
      (cases_eq place p);
}
