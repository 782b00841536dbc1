-- What the rule says of the chain of a bucket that a pass has shut, what it weighs, and that who is named there is live; and of the
-- chain of one that is open.
use Rattle.std.proofs.Common.{◌≡◌, ◌≢◌, ℕ, ◌+◌, ◌*◌, ◌%◌, ◌<◌, ◌≤◌, Bool, true, false, Option, Some, None, List, [], ◌∷◌, refl, ap, subst, ◌∙◌, ⊎_elim, arith, eq-eqb, ne_eqb}
use Rattle.std.specs.Prelude.{◌==◌, ◌&&◌, if◌then◌else◌}
use Rattle.std.proofs.lemmas.Bool.{and_parts, cases_Bool, cases_eq, cases_lt, eqb-true}
use mathlib.Core.Option.{some}
use lib.ListN.{get_elem?}
use Rattle.atomic_table.specs.Table.{State}
use Rattle.expect_table.specs.declared.expectation.Expectation.{Expectation}
use Rattle.history_book.specs.Record.{has_id}
use Rattle.history_book.specs.declared.record.Record.{Record}
use Rattle.history_book.specs.declared.sizes.Sizes.{Sizes}
use Rattle.track_rule.specs.declared.slot.Slot.{Slot}
use Rattle.track_rule.specs.declared.view.ChainLink.{ChainLink}
use Rattle.track_rule.specs.declared.view.Hand.{Hand}
use Rattle.track_rule.specs.declared.view.Hook.{Hook}
use Rattle.track_rule.specs.declared.view.Middle.{Middle}
use Rattle.track_rule.specs.declared.view.Middle.TheVariants.{Calm, Born, Dying}
use Rattle.track_rule.specs.declared.view.Shut.{Shut}
use Rattle.track_rule.specs.declared.view.View.{View}
use Rattle.track_rule.specs.BucketSteps.{IsShutAt}
use Rattle.track_rule.specs.Chains.{bucket_of, chain_in, each_link, chain_link, links_in, loose_of, original_of, pair_of, reply_of, shuts_of, side}
use Rattle.track_rule.specs.Commits.{IsCommitting, IsMiddle, shuts_in}
use Rattle.track_rule.specs.History.{records_after}
use Rattle.track_rule.specs.Layout.{gen_at, phase_at, place_of}
use Rattle.track_rule.specs.Phases.{middle_of, middle_weight, of_both, of_place, table_keeps}
use Rattle.track_rule.specs.Rule.{IsKept, Ledger}
use Rattle.track_rule.specs.Sums.{bit, total}
use Rattle.track_rule.proofs.ChainLists.{loose_zero, side_low, total_rev}
use Rattle.track_rule.proofs.Lists.{bit_both, bit_fails, find_there, other_bit, same_bit}
use Rattle.track_rule.proofs.Sums.{total_alike, total_le, total_only, total_term, total_times}

-- links that are not in a bucket weigh nothing there
loose_none : (z : Sizes) (b : ℕ) (f : ChainLink → ℕ) (hooks : List Hook)
    → total (λ (h : Hook). (if h.up then side z b each_link (chain_link h) else 0)) hooks ≡ 0
    → total (λ (h : Hook). (if h.up then side z b f (chain_link h) else 0)) hooks ≡ 0
loose_none z b f [] none_there = refl
loose_none z b f (h ∷ hs) none_there =
    omega (arith, off h.up (bucket_of z h.pair == b) 1 (f (chain_link h)) (omega arith) (omega (arith, none_there)), loose_none z b f hs (omega (arith, none_there)))
  where
    off : (u k : Bool) (m n : ℕ) → 0 < m → (if u then (if k then m else 0) else 0) ≡ 0 → (if u then (if k then n else 0) else 0) ≡ 0
    off true true m n any e = absurd (omega (arith, any, e))
    off true false m n any e = refl
    off false k m n any e = refl

module _ (z : Sizes) (l : Ledger) (s : State Slot View) (h : IsKept z l s) (b : ℕ) (below : b < z.buckets) where
  -- a pass has no link that is up in a bucket that it has not shut
  loose_else : (f : ChainLink → ℕ) (j : ℕ) (u : View) → get_elem? s.views j ≡ some u → shuts_of b u ≡ 0 → loose_of z b f u ≡ 0
  loose_else f j u there none_shut =
      loose_none z b f u.buckets.hooks
      (⊎_elim (λ (e : 0 < loose_of z b each_link u). absurd (omega (arith, none_shut, h.chains.home j u there b below e)))
      (λ (e : loose_of z b each_link u ≤ 0). omega (arith, e)) (cases_lt 0 (loose_of z b each_link u)))

  -- so the chain of one that nobody has shut is that of the live records
  pub open_weighs : gen_at z s.words b % 2 ≡ 0 → (f : ChainLink → ℕ) → total f (l.chains b) ≡ total (links_in z b f) (records_after l.log)
  open_weighs even f = omega (
    arith,
    h.chains.chained b below f,
    total_alike (loose_of z b f) (shuts_of b) s.views (λ j u there.
        let off : shuts_of b u ≡ 0 = omega (arith, even, h.chains.gens b below, total_term (shuts_of b) s.views j u there) in
        omega (arith, off, loose_else f j u there off)),
    even,
    h.chains.gens b below,
  )

module _ (z : Sizes) (l : Ledger) (s : State Slot View) (id : ℕ) (v : View) (h : IsKept z l s) (at : get_elem? s.views id ≡ some v)
    (b : ℕ) (below : b < z.buckets) (mine : 0 < shuts_of b v) where
  -- no other pass has the bucket
  shut_only : total (shuts_of b) s.views ≡ shuts_of b v
  shut_only = omega (arith, h.chains.gens b below, mine, total_term (shuts_of b) s.views id v at)

  -- so none has a link that is up in it
  loose_only : (f : ChainLink → ℕ) → total (loose_of z b f) s.views ≡ loose_of z b f v
  loose_only f = total_only (loose_of z b f) (shuts_of b) s.views id v at shut_only (λ j u there off. loose_else z l s h b below f j u there off)

  -- what its chain weighs
  pub shut_weighs : (f : ChainLink → ℕ) → total f (chain_in b v.buckets.shut) ≡ total (links_in z b f) (records_after l.log) + loose_of z b f v
  shut_weighs f = omega (arith, ap (total f) (h.chains.mine b below id v at mine), h.chains.chained b below f, loose_only f)

-- where a record weighs something in a bucket, one of its tuples belongs there
module _ (z : Sizes) (b : ℕ) (f : ChainLink → ℕ) where
  side_else : (e : ChainLink) → bucket_of z e.pair ≢ b → side z b f e ≡ 0
  side_else e other = ap (λ (k : Bool). if k then f e else 0) (ne_eqb (bucket_of z e.pair) b other)

  weighs_shut : (r : Record) (shut : List Shut) → 0 < shuts_in (bucket_of z (pair_of r.original)) shut → 0 < shuts_in (bucket_of z (pair_of r.reply)) shut
      → 0 < links_in z b f r → 0 < shuts_in b shut
  weighs_shut r shut original reply some_there =
      ⊎_elim (λ (e : bucket_of z (pair_of r.original) ≡ b). subst (λ (c : ℕ). 0 < shuts_in c shut) e original)
      (λ (e : bucket_of z (pair_of r.original) ≢ b).
      ⊎_elim (λ (f : bucket_of z (pair_of r.reply) ≡ b). subst (λ (c : ℕ). 0 < shuts_in c shut) f reply)
      (λ (f : bucket_of z (pair_of r.reply) ≢ b). absurd (omega (arith, some_there, side_else (original_of r) e, side_else (reply_of r) f)))
      (cases_eq (bucket_of z (pair_of r.reply)) b)) (cases_eq (bucket_of z (pair_of r.original)) b)

-- it is this id
abbrev is_id : ℕ → Option ℕ → Bool
is_id i None = false
is_id i (Some n) = n == i

-- 1 where the entry of a chain is of this place and names this id
abbrev names : ℕ → ℕ → ChainLink → ℕ
names p i e = bit (place_of e.link == p && is_id i e.id)

module _ (z : Sizes) (b p i : ℕ) where
  -- a record's links name it, at its place
  its_names : (r : Record) → (names p i (original_of r) ≡ of_both p i r) × (names p i (reply_of r) ≡ of_both p i r)
  its_names r = (ap (λ (n : ℕ). bit (n == p && r.id == i)) (omega arith), ap (λ (n : ℕ). bit (n == p && r.id == i)) (omega arith))

  named_low : (r : Record) → links_in z b (names p i) r ≤ 2 * of_both p i r
  named_low r = let same = its_names r in omega (arith, same.0, same.1, side_low z b (names p i) (original_of r), side_low z b (names p i) (reply_of r))

  named_place : (r : Record) → of_place p r ≡ 0 → links_in z b (names p i) r ≡ 0
  named_place r other = omega (arith, named_low r, other, bit_both (r.place == p) (r.id == i))

module _ (z : Sizes) (l : Ledger) (s : State Slot View) (id : ℕ) (v : View) (h : IsKept z l s) (at : get_elem? s.views id ≡ some v)
    (b : ℕ) (below : b < z.buckets) (p i : ℕ) (low : p < z.entries) (calm : v.commit.middle ≡ Calm)
    (passed : List ChainLink) (e : ChainLink) (rest : List ChainLink) (shut : IsShutAt b v passed (e ∷ rest)) (its_id : e.id ≡ Some i) (here : place_of e.link ≡ p) where
  named_one : names p i e ≡ 1
  named_one = ap bit (λ k. (eq-eqb (place_of e.link) p here k) && (ap (is_id i) its_id ∙ eq-eqb i i refl) k)

  -- a live record is named there
  some_named : 0 < total (links_in z b (names p i)) (records_after l.log)
  some_named = omega (
    arith,
    named_one,
    ap (total (names p i)) shut.all,
    total_rev (names p i) passed (e ∷ rest),
    shut_weighs z l s id v h at b below shut.mine (names p i),
    loose_zero z b (names p i) v.buckets.hooks (λ j k there. bit_fails (place_of k.link == p)),
  )

  some_both : 0 < total (of_both p i) (records_after l.log)
  some_both = omega (
    arith,
    some_named,
    total_le (links_in z b (names p i)) (λ r. 2 * of_both p i r) (records_after l.log) (λ j r there. named_low z b p i r),
    total_times 2 (of_both p i) (records_after l.log),
  )

  -- a pass in the middle of its commit has shut the bucket
  committing_else : (r : Record) (hand : Option Hand) (carried : List ℕ) (others : List Shut) → IsCommitting z l.log hand carried others r → shuts_in b others ≡ 0
      → of_both p i r ≡ 0
  committing_else r hand carried others k none_shut =
      ⊎_elim
      (λ (t : (r.place == p && r.id == i) ≡ true).
      let there = find_there (has_id r.id) (records_after l.log) r k.live in
      let its_place : of_place p r ≡ 1 = same_bit r.place p (eqb-true r.place p (and_parts (r.place == p) (r.id == i) t).0) in
      let only : total (links_in z b (names p i)) (records_after l.log) ≡ links_in z b (names p i) r =
      total_only (links_in z b (names p i)) (of_place p) (records_after l.log) there.0 r there.1
      (omega (arith, its_place, h.references.taken p, total_term (of_place p) (records_after l.log) there.0 r there.1))
      (λ j x at' other. named_place z b p i x other) in
      absurd (omega (arith, none_shut, weighs_shut z b (names p i) r others k.original k.reply (omega (arith, some_named, only)))))
      (λ (t : (r.place == p && r.id == i) ≡ false). ap bit t)
      (cases_Bool (r.place == p && r.id == i))

  middle_else : (m : Middle) (hand : Option Hand) (carried : List ℕ) (others : List Shut) (expected : Option (List Expectation))
      → IsMiddle z l.log m hand carried others expected → shuts_in b others ≡ 0
      → middle_weight (of_both p i) m ≡ 0
  middle_else Calm hand carried others expected k none_shut = refl
  middle_else (Born r) hand carried others expected k none_shut = committing_else r hand carried others k none_shut
  middle_else (Dying r) hand carried others expected k none_shut = committing_else r hand carried others k.0 none_shut

  -- so none is, and the phase shows the record
  pub shown_live : phase_at z s.words p ≡ 3 + i
  shown_live =
      ⊎_elim (λ (t : phase_at z s.words p ≡ 3 + i). t)
      (λ (t : phase_at z s.words p ≢ 3 + i).
      absurd (omega (
        arith,
        some_both,
        h.phases.shown p i low,
        other_bit (phase_at z s.words p) (3 + i) t,
        total_only (middle_of (of_both p i)) (shuts_of b) s.views id v at (shut_only z l s id v h at b below shut.mine)
            (λ j u there none_shut. middle_else u.commit.middle u.commit.hand u.places.carried u.buckets.shut u.expected (h.commits j u there) none_shut),
        ap (middle_weight (of_both p i)) calm,
      )))
      (cases_eq (phase_at z s.words p) (3 + i))

-- 1 where the entry of a chain is of this place
abbrev pub at_place : ℕ → ChainLink → ℕ
at_place p e = bit (place_of e.link == p)

-- a record's links are of its place
its_place : (p : ℕ) (r : Record) → (at_place p (original_of r) ≡ of_place p r) × (at_place p (reply_of r) ≡ of_place p r)
its_place p r = (ap (λ (n : ℕ). bit (n == p)) (omega arith), ap (λ (n : ℕ). bit (n == p)) (omega arith))

placed_low : (z : Sizes) (b p : ℕ) (r : Record) → links_in z b (at_place p) r ≤ 2 * of_place p r
placed_low z b p r =
    let same = its_place p r in omega (arith, same.0, same.1, side_low z b (at_place p) (original_of r), side_low z b (at_place p) (reply_of r))

-- an entry in the chain of a bucket that nobody has shut
module _ (z : Sizes) (l : Ledger) (s : State Slot View) (h : IsKept z l s) (b : ℕ) (below : b < z.buckets) (even : gen_at z s.words b % 2 ≡ 0)
    (p : ℕ) (any : 0 < total (at_place p) (l.chains b)) where
  some_placed : 0 < total (links_in z b (at_place p)) (records_after l.log)
  some_placed = omega (arith, any, open_weighs z l s h b below even (at_place p))

  some_there : 0 < total (of_place p) (records_after l.log)
  some_there = omega (
    arith,
    some_placed,
    total_le (links_in z b (at_place p)) (λ r. 2 * of_place p r) (records_after l.log) (λ j r there. placed_low z b p r),
    total_times 2 (of_place p) (records_after l.log),
  )

  committing_none : (r : Record) (hand : Option Hand) (carried : List ℕ) (others : List Shut) → IsCommitting z l.log hand carried others r → shuts_in b others ≡ 0
      → of_place p r ≡ 0
  committing_none r hand carried others k none_shut =
      ⊎_elim
      (λ (t : r.place ≡ p).
      let there = find_there (has_id r.id) (records_after l.log) r k.live in
      let only : total (links_in z b (at_place p)) (records_after l.log) ≡ links_in z b (at_place p) r =
      total_only (links_in z b (at_place p)) (of_place p) (records_after l.log) there.0 r there.1
      (omega (arith, same_bit r.place p t, h.references.taken p, total_term (of_place p) (records_after l.log) there.0 r there.1))
      (λ j x at' other. omega (arith, other, placed_low z b p x)) in
      absurd (omega (arith, none_shut, weighs_shut z b (at_place p) r others k.original k.reply (omega (arith, some_placed, only)))))
      (λ (t : r.place ≢ p). other_bit r.place p t)
      (cases_eq r.place p)

  middle_none : (m : Middle) (hand : Option Hand) (carried : List ℕ) (others : List Shut) (expected : Option (List Expectation))
      → IsMiddle z l.log m hand carried others expected → shuts_in b others ≡ 0 → middle_weight (of_place p) m ≡ 0
  middle_none Calm hand carried others expected k none_shut = refl
  middle_none (Born r) hand carried others expected k none_shut = committing_none r hand carried others k none_shut
  middle_none (Dying r) hand carried others expected k none_shut = committing_none r hand carried others k.0 none_shut

  -- so its place is LIVE, and the table has its reference
  open_keeps : p < z.entries → table_keeps (phase_at z s.words p) ≡ 1
  open_keeps low = omega (
    arith,
    some_there,
    h.references.taken p,
    h.phases.used p low,
    total_alike (middle_of (of_place p)) (shuts_of b) s.views (λ j u there.
        let off : shuts_of b u ≡ 0 = omega (arith, even, h.chains.gens b below, total_term (shuts_of b) s.views j u there) in
        omega (arith, off, middle_none u.commit.middle u.commit.hand u.places.carried u.buckets.shut u.expected (h.commits j u there) off)),
    even,
    h.chains.gens b below,
  )

-- no such chain has an entry of a place of which the table has no reference
pub open_none : (z : Sizes) (l : Ledger) (s : State Slot View) → IsKept z l s → (p : ℕ) → p < z.entries → table_keeps (phase_at z s.words p) ≡ 0
    → (b : ℕ) → b < z.buckets → gen_at z s.words b % 2 ≡ 0 → total (at_place p) (l.chains b) ≡ 0
open_none z l s h p low idle b below even =
    ⊎_elim
    (λ (e : 0 < total (at_place p) (l.chains b)). absurd (omega (arith, idle, open_keeps z l s h b below even p e low)))
    (λ (e : total (at_place p) (l.chains b) ≤ 0). omega (arith, e))
    (cases_lt 0 (total (at_place p) (l.chains b)))
