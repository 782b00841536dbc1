-- What each event keeps of a state, and so what holds in every state of a legal history.
use Rattle.std.proofs.Common.{◌≡◌, ℕ, ◌+◌, ◌<◌, ◌≤◌, zero, suc, Bool, true, false, not, cond, refl, sym, ap, subst, ◌∙◌, List, [], ◌∷◌, ◌++◌, take, Option, Some, arith}
use Rattle.std.specs.List.{AllByRecursion, filter, find, slice_get}
use Rattle.std.specs.Prelude.{map, ◌==◌, ◌≢◌}
use Rattle.std.proofs.lemmas.Bool.{and_parts, eqb-false, eqb-true, not-true, false≢true}
use Rattle.history_book.specs.declared.event.Event.{Event}
use Rattle.history_book.specs.declared.event.Event.TheVariants.{Confirm, Touch, Destroy, Expect, Claim, Unexpect}
use Rattle.history_book.specs.declared.event.Why.{Why}
use Rattle.proto_rules.specs.declared.Part.{Part}
use Rattle.history_book.specs.declared.record.Record.{Record}
use Rattle.history_book.specs.Legality.{is_of_one_flow, is_open_place, may_confirm, may_destroy, may_happen}
use Rattle.history_book.specs.History.{after, is_legal, is_legal_from, run}
use Rattle.history_book.specs.Laws.{IsConfirmed, IsSameEntry}
use Rattle.history_book.specs.Record.{has_id, has_place, has_tuple}
use Rattle.history_book.specs.declared.sizes.Sizes.{Sizes}
use Rattle.history_book.specs.State.{State, empty_state, is_free, is_unused, next, record_of, with_part}
use Rattle.history_book.proofs.Entries.{each_fails, each_filter, same_entry_refl, same_entry_trans, with_part-same}
use Rattle.history_book.proofs.Pairs.{Pairs, each_new, pairs_filter, pairs_push, pairs_touched}

-- a state whose records are apart, all confirmed before event n
pub record Sound (n : ℕ) (s : State) : Type 0 where
  pub apart : Pairs s.records
  pub older : AllByRecursion (λ r. r.id < n) s.records

-- what the test of a Confirm says
pub record MayConfirm (n : ℕ) (rs : List Record) (s : Record) : Type 0 where
  pub id : s.id ≡ n
  pub place : AllByRecursion (λ r. has_place s.place r ≡ false) rs
  pub original : AllByRecursion (λ r. has_tuple s.original r ≡ false) rs
  pub reply : AllByRecursion (λ r. has_tuple s.reply r ≡ false) rs

pub may_confirm-parts : (sizes : Sizes) (n : ℕ) (s : State) (r : Record) → may_confirm sizes s n r ≡ true
    → MayConfirm n s.records r
may_confirm-parts sizes n s r h =
    let a = and_parts _ (is_free r.reply s) h in
    let b = and_parts _ (is_free r.original s) a.0 in
    let c = and_parts _ (is_open_place sizes r.place s) b.0 in
    let d = and_parts (r.id == n) (is_of_one_flow r) c.0 in
    let e = and_parts _ (is_unused r.place s) c.1 in
    record {
      id = eqb-true r.id n d.0;
      place = each_fails (has_place r.place) s.records (not-true _ e.1);
      original = each_fails (has_tuple r.original) s.records (not-true _ b.1);
      reply = each_fails (has_tuple r.reply) s.records (not-true _ a.1);
    }

older_more : (m n : ℕ) (rs : List Record) → m ≤ n → AllByRecursion (λ r. r.id < m) rs → AllByRecursion (λ r. r.id < n) rs
older_more m n [] le h = tt
older_more m n (r ∷ rs) le (h, hs) = (omega arith, older_more m n rs le hs)

older_push : (n : ℕ) (rs : List Record) (s : Record) → AllByRecursion (λ r. r.id < n) rs → s.id < n
    → AllByRecursion (λ r. r.id < n) (rs ++ s ∷ [])
older_push n [] s h one = (one, tt)
older_push n (r ∷ rs) s (h, hs) one = (h, older_push n rs s hs one)

older_touched : (n id : ℕ) (part : Part) (rs : List Record) → AllByRecursion (λ r. r.id < n) rs
    → AllByRecursion (λ r. r.id < n) (map (with_part id part) rs)
older_touched n id part [] h = tt
older_touched n id part (r ∷ rs) (h, hs) =
    (omega (arith, h, (with_part-same id part r).id), older_touched n id part rs hs)

pub sound_more : (m n : ℕ) (s : State) → m ≤ n → Sound m s → Sound n s
sound_more m n s le h = record { apart = h.apart; older = older_more m n s.records le h.older }

-- an event that leaves the records
sound_expects : (n : ℕ) (s t : State) → t.records ≡ s.records → Sound n s → Sound (n + 1) t
sound_expects n s t same sound = record {
  apart = subst Pairs (sym same) sound.apart;
  older = subst (λ (rs : List Record). AllByRecursion (λ r. r.id < n + 1) rs) (sym same)
      (older_more n (n + 1) s.records (omega arith) sound.older);
}

pub sound_next : (sizes : Sizes) (n : ℕ) (s : State) (e : Event) → may_happen sizes s n e ≡ true
    → Sound n s → Sound (n + 1) (next s e)
sound_next sizes n s (Confirm r) may sound =
    let parts : MayConfirm n s.records r = may_confirm-parts sizes n s r may in
    let before : AllByRecursion (λ q. q.id < r.id) s.records =
    older_more n r.id s.records (omega (arith, parts.id)) sound.older in
    record {
      apart = pairs_push s.records r sound.apart (each_new r s.records before parts.place parts.original parts.reply);
      older = older_push (n + 1) s.records r (older_more n (n + 1) s.records (omega arith) sound.older)
          (omega (arith, parts.id));
    }
sound_next sizes n s (Touch id direction segment moment part) may sound = record {
  apart = pairs_touched id part s.records sound.apart;
  older = older_touched (n + 1) id part s.records (older_more n (n + 1) s.records (omega arith) sound.older);
}
sound_next sizes n s (Destroy id why) may sound = record {
  apart = pairs_filter (λ r. not (has_id id r)) s.records sound.apart;
  older = each_filter (λ r. r.id < n + 1) (λ r. not (has_id id r)) s.records
      (older_more n (n + 1) s.records (omega arith) sound.older);
}
sound_next sizes n s (Expect expectation replaced moment) may sound = sound_expects n s (next s (Expect expectation replaced moment)) refl sound
sound_next sizes n s (Claim expectation master tuple moment) may sound = sound_expects n s (next s (Claim expectation master tuple moment)) refl sound
sound_next sizes n s (Unexpect expectation moment) may sound = sound_expects n s (next s (Unexpect expectation moment)) refl sound

pub sound_run : (sizes : Sizes) (n m p : ℕ) (s : State) (log : List Event) → is_legal_from sizes s n log ≡ true
    → n + p ≤ m → Sound n s → Sound m (run s (take p log))
sound_run sizes n m zero s log legal le sound = sound_more n m s (omega arith) sound
sound_run sizes n m (suc p) s [] legal le sound = sound_more n m s (omega arith) sound
sound_run sizes n m (suc p) s (e ∷ es) legal le sound =
    let parts = and_parts (may_happen sizes s n e) (is_legal_from sizes (next s e) (n + 1) es) legal in
    sound_run sizes (n + 1) m p (next s e) es parts.1 (omega arith) (sound_next sizes n s e parts.0 sound)

pub sound_after : (sizes : Sizes) (p : ℕ) (log : List Event) → is_legal sizes log ≡ true → Sound p (after log p)
unfolding is_legal after
sound_after sizes p log legal =
    sound_run sizes 0 p p empty_state log legal (omega arith) (record { apart = tt; older = tt })

-- the events from number n on
abbrev pub IsRest : List Event → ℕ → List Event → Type 0
IsRest log n rest = (k : ℕ) (e : Event) → slice_get rest k ≡ Some e → slice_get log (k + n) ≡ Some e

pub rest_all : (log : List Event) → IsRest log 0 log
rest_all log k e at =
    let same : k ≡ k + 0 = omega arith in
    subst (λ i. slice_get log i ≡ Some e) same at

pub rest_next : (log : List Event) (n : ℕ) (e : Event) (es : List Event) → IsRest log n (e ∷ es) → IsRest log (n + 1) es
rest_next log n e es rest k x at =
    let same : suc k + n ≡ k + (n + 1) = omega arith in
    subst (λ i. slice_get log i ≡ Some x) same (rest (suc k) x at)

confirmed_touched : (log : List Event) (id : ℕ) (part : Part) (r : Record) → IsConfirmed log r → IsConfirmed log (with_part id part r)
confirmed_touched log id part r h =
    let same : IsSameEntry r (with_part id part r) = with_part-same id part r in
    record {
      subject = h.subject;
      event = ap (slice_get log) same.id ∙ h.event;
      same = same_entry_trans h.subject r (with_part id part r) h.same same;
    }

confirmed_push : (log : List Event) (rs : List Record) (s : Record) → AllByRecursion (IsConfirmed log) rs → IsConfirmed log s
    → AllByRecursion (IsConfirmed log) (rs ++ s ∷ [])
confirmed_push log [] s h one = (one, tt)
confirmed_push log (r ∷ rs) s (h, hs) one = (h, confirmed_push log rs s hs one)

confirmed_map : (log : List Event) (id : ℕ) (part : Part) (rs : List Record) → AllByRecursion (IsConfirmed log) rs
    → AllByRecursion (IsConfirmed log) (map (with_part id part) rs)
confirmed_map log id part [] h = tt
confirmed_map log id part (r ∷ rs) (h, hs) = (confirmed_touched log id part r h, confirmed_map log id part rs hs)

confirmed_next : (sizes : Sizes) (n : ℕ) (log : List Event) (s : State) (e : Event) → may_happen sizes s n e ≡ true
    → slice_get log n ≡ Some e → AllByRecursion (IsConfirmed log) s.records
    → AllByRecursion (IsConfirmed log) (next s e).records
confirmed_next sizes n log s (Confirm r) may at h =
    let parts : MayConfirm n s.records r = may_confirm-parts sizes n s r may in
    confirmed_push log s.records r h (record { subject = r; event = ap (slice_get log) parts.id ∙ at; same = same_entry_refl r })
confirmed_next sizes n log s (Touch id direction segment moment part) may at h = confirmed_map log id part s.records h
confirmed_next sizes n log s (Destroy id why) may at h =
    each_filter (IsConfirmed log) (λ r. not (has_id id r)) s.records h
confirmed_next sizes n log s (Expect expectation replaced moment) may at h = h
confirmed_next sizes n log s (Claim expectation master tuple moment) may at h = h
confirmed_next sizes n log s (Unexpect expectation moment) may at h = h

pub confirmed_run : (sizes : Sizes) (n p : ℕ) (log : List Event) (s : State) (rest : List Event)
    → is_legal_from sizes s n rest ≡ true → IsRest log n rest → AllByRecursion (IsConfirmed log) s.records
    → AllByRecursion (IsConfirmed log) (run s (take p rest)).records
confirmed_run sizes n zero log s rest legal from h = h
confirmed_run sizes n (suc p) log s [] legal from h = h
confirmed_run sizes n (suc p) log s (e ∷ es) legal from h =
    let parts = and_parts (may_happen sizes s n e) (is_legal_from sizes (next s e) (n + 1) es) legal in
    let here : 0 + n ≡ n = omega arith in
    let at : slice_get log n ≡ Some e = subst (λ i. slice_get log i ≡ Some e) here (from 0 e refl) in
    confirmed_run sizes (n + 1) p log (next s e) es parts.1 (rest_next log n e es from)
    (confirmed_next sizes n log s e parts.0 at h)

pub confirmed_after : (sizes : Sizes) (p : ℕ) (log : List Event) → is_legal sizes log ≡ true
    → AllByRecursion (IsConfirmed log) (after log p).records
unfolding is_legal after
confirmed_after sizes p log legal = confirmed_run sizes 0 p log empty_state log legal (rest_all log) tt

abbrev pub IsDead : ℕ → State → Type 0
IsDead id s = AllByRecursion (λ r. r.id ≢ id) s.records

dead_push : (id : ℕ) (rs : List Record) (r : Record) → AllByRecursion (λ q. q.id ≢ id) rs → r.id ≢ id
    → AllByRecursion (λ q. q.id ≢ id) (rs ++ r ∷ [])
dead_push id [] r h one = (one, tt)
dead_push id (q ∷ rs) r (h, hs) one = (h, dead_push id rs r hs one)

dead_touched : (id other : ℕ) (part : Part) (rs : List Record) → AllByRecursion (λ r. r.id ≢ id) rs
    → AllByRecursion (λ r. r.id ≢ id) (map (with_part other part) rs)
dead_touched id other part [] h = tt
dead_touched id other part (r ∷ rs) (h, hs) =
    (λ e. h (sym (with_part-same other part r).id ∙ e), dead_touched id other part rs hs)

dead_next : (sizes : Sizes) (n id : ℕ) (s : State) (e : Event) → may_happen sizes s n e ≡ true → id < n
    → IsDead id s → IsDead id (next s e)
dead_next sizes n id s (Confirm r) may old h =
    let parts : MayConfirm n s.records r = may_confirm-parts sizes n s r may in
    dead_push id s.records r h (λ e. omega (arith, e, parts.id))
dead_next sizes n id s (Touch other direction segment moment part) may old h = dead_touched id other part s.records h
dead_next sizes n id s (Destroy other why) may old h =
    each_filter (λ r. r.id ≢ id) (λ r. not (has_id other r)) s.records h
dead_next sizes n id s (Expect expectation replaced moment) may old h = h
dead_next sizes n id s (Claim expectation master tuple moment) may old h = h
dead_next sizes n id s (Unexpect expectation moment) may old h = h

pub dead_run : (sizes : Sizes) (n p id : ℕ) (s : State) (log : List Event) → is_legal_from sizes s n log ≡ true → id < n
    → IsDead id s → IsDead id (run s (take p log))
dead_run sizes n zero id s log legal old h = h
dead_run sizes n (suc p) id s [] legal old h = h
dead_run sizes n (suc p) id s (e ∷ es) legal old h =
    let parts = and_parts (may_happen sizes s n e) (is_legal_from sizes (next s e) (n + 1) es) legal in
    dead_run sizes (n + 1) p id (next s e) es parts.1 (omega arith) (dead_next sizes n id s e parts.0 old h)

dead_keep : (id : ℕ) (r : Record) (rest : List Record) (b : Bool) → has_id id r ≡ b → AllByRecursion (λ q. q.id ≢ id) rest
    → AllByRecursion (λ q. q.id ≢ id) (cond (not b) (r ∷ rest) rest)
dead_keep id r rest true e h = h
dead_keep id r rest false e h = (eqb-false r.id id e, h)

-- no record of the id is left
dead_filter : (id : ℕ) (rs : List Record) → AllByRecursion (λ r. r.id ≢ id) (filter (λ r. not (has_id id r)) rs)
dead_filter id [] = tt
dead_filter id (r ∷ rs) =
    dead_keep id r (filter (λ q. not (has_id id q)) rs) (has_id id r) refl (dead_filter id rs)

old_first : (id n : ℕ) (why : Why) (r : Record) (other : Option Record) (b : Bool) → has_id id r ≡ b
    → may_destroy (cond b (Some r) other) why ≡ true → r.id < n → (may_destroy other why ≡ true → id < n) → id < n
old_first id n why r other true e may h later = omega (arith, eqb-true r.id id e, h)
old_first id n why r other false e may h later = later may

-- an entry that may be destroyed is one of the state's
destroyed_old : (id n : ℕ) (why : Why) (rs : List Record) → may_destroy (find (has_id id) rs) why ≡ true
    → AllByRecursion (λ r. r.id < n) rs → id < n
destroyed_old id n why [] may h = absurd (false≢true may)
destroyed_old id n why (r ∷ rs) may (h, hs) =
    old_first id n why r (find (has_id id) rs) (has_id id r) refl may h (λ m. destroyed_old id n why rs m hs)

dead_first : (sizes : Sizes) (m p id : ℕ) (why : Why) (s : State) (e : Event) (es : List Event)
    → is_legal_from sizes s m (e ∷ es) ≡ true → Sound m s → e ≡ Destroy id why
    → IsDead id (run (next s e) (take p es))
dead_first sizes m p id why s e es legal sound same =
    let parts = and_parts (may_happen sizes s m e) (is_legal_from sizes (next s e) (m + 1) es) legal in
    let may : may_destroy (record_of id s) why ≡ true =
    subst (λ (x : Event). may_happen sizes s m x ≡ true) same parts.0 in
    let old : id < m = destroyed_old id m why s.records may sound.older in
    let gone : IsDead id (next s e) = subst (λ (x : Event). IsDead id (next s x)) (sym same) (dead_filter id s.records) in
    dead_run sizes (m + 1) p id (next s e) es parts.1 (omega arith) gone

pub dead_after : (sizes : Sizes) (n p id : ℕ) (why : Why) (s : State) (m : ℕ) (log : List Event)
    → is_legal_from sizes s m log ≡ true → Sound m s → slice_get log n ≡ Some (Destroy id why) → n < p
    → IsDead id (run s (take p log))
dead_after sizes n p id why s m [] legal sound at below = cc
dead_after sizes n zero id why s m (e ∷ es) legal sound at below = absurd (omega arith)
dead_after sizes zero (suc p) id why s m (e ∷ es) legal sound at below =
    dead_first sizes m p id why s e es legal sound (cc)
dead_after sizes (suc n) (suc p) id why s m (e ∷ es) legal sound at below =
    let parts = and_parts (may_happen sizes s m e) (is_legal_from sizes (next s e) (m + 1) es) legal in
    dead_after sizes n p id why (next s e) (m + 1) es parts.1 (sound_next sizes m s e parts.0 sound) at (omega arith)

pub dead_at : (sizes : Sizes) (n p id : ℕ) (why : Why) (log : List Event) → is_legal sizes log ≡ true
    → slice_get log n ≡ Some (Destroy id why) → n < p → IsDead id (after log p)
unfolding is_legal after
dead_at sizes n p id why log legal at below =
    dead_after sizes n p id why empty_state 0 log legal (record { apart = tt; older = tt }) at below
