-- A Confirm is lawful where its pass has taken the place, and has both links in chains that have no other link with either tuple.
use Rattle.std.proofs.Common.{◌≡◌, ℕ, ◌+◌, ◌*◌, ◌<◌, ◌≤◌, true, List, [], ◌∷◌, ◌++◌, length, refl, sym, ap, ◌∙◌, ⊎_elim, arith, eq-eqb, length-append}
use Rattle.std.specs.Prelude.{◌==◌, ◌&&◌, not, nat_lt, bit_xor}
use Rattle.std.specs.Int.{is_power_of_two}
use Rattle.std.proofs.lemmas.Bool.{and_from, cases_lt, false≢true}
use Rattle.std.proofs.lemmas.Nat.{mod_below}
use Rattle.std.proofs.lemmas.Bool.Decides.{nat_tests}
use lib.Count.{ones}
use mathlib.Core.Option.{some}
use lib.ListN.{get_elem?}
use Rattle.atomic_table.specs.Table.{State}
use Rattle.tuple_core.specs.Hash.{mix}
use Rattle.tuple_core.specs.declared.Tuple.{Tuple}
use Rattle.history_book.specs.History.{after}
use Rattle.history_book.specs.Laws.{StatesFollow}
use Rattle.history_book.specs.Legality.{is_of_one_flow, is_open_place, may_happen}
use Rattle.history_book.specs.Record.{has_place}
use Rattle.history_book.specs.Sizes.{AreWithinLimits}
use Rattle.history_book.specs.State.{is_free, is_unused, next}
use Rattle.history_book.specs.declared.event.Event.{Event}
use Rattle.history_book.specs.declared.event.Event.TheVariants.{Confirm}
use Rattle.history_book.specs.declared.record.Record.{Record}
use Rattle.history_book.specs.declared.sizes.Sizes.{Sizes}
use Rattle.track_rule.specs.declared.slot.Slot.{Slot}
use Rattle.track_rule.specs.declared.view.Pair.{Pair}
use Rattle.track_rule.specs.declared.view.View.{View}
use Rattle.track_rule.specs.Chains.{bucket_of, chain_in, loose_of, pair_of}
use Rattle.track_rule.specs.CommitSteps.{CanConfirm, HasLink, born, has_pair}
use Rattle.track_rule.specs.History.{records_after, state_after}
use Rattle.track_rule.specs.Phases.{of_place}
use Rattle.track_rule.specs.References.{is_at, is_for_new, keeps, takes}
use Rattle.track_rule.specs.Rule.{IsKept, Ledger}
use Rattle.track_rule.specs.Sums.{total}
use Rattle.track_rule.proofs.Confirming.{free_there}
use Rattle.track_rule.proofs.Lists.{none_of, takes_held, total_some}
use Rattle.track_rule.proofs.Sums.{total_term}

-- there is a bucket
some_buckets : (z : Sizes) → AreWithinLimits z → 0 < z.buckets
unfolding ones
some_buckets z h =
    ⊎_elim (λ (e : 0 < z.buckets). e)
    (λ (e : z.buckets ≤ 0).
    let none : z.buckets ≡ 0 = omega (arith, e) in
    absurd (false≢true (sym (ap is_power_of_two none) ∙ h.power)))
    (cases_lt 0 z.buckets)

pub bucket_low : (z : Sizes) (p : Pair) → AreWithinLimits z → bucket_of z p < z.buckets
bucket_low z p h = mod_below (mix (bit_xor (mix (bit_xor p.first z.seed)) p.second)) z.buckets (some_buckets z h)

-- what a step on all events makes of the state
pub state_on : StatesFollow → (log : List Event) (e : Event) → state_after (log ++ e ∷ []) ≡ next (state_after log) e
state_on follow log e =
    let long : length (log ++ e ∷ []) ≡ length log + 1 = length-append log (e ∷ []) in
    ap (after (log ++ e ∷ [])) long ∙ follow log e

module _ (l : Ledger) (s : State Slot View) (id : ℕ) (v : View) (r : Record) (h : IsKept v.passes.sizes l s) (at : get_elem? s.views id ≡ some v)
    (has_some : 0 < v.passes.shares) (can : CanConfirm r v) where
  -- no live record has a tuple whose link is the pass's alone
  pub tuple_free : (link : ℕ) (t : Tuple) → HasLink link t v → is_free t (state_after l.log) ≡ true
  tuple_free link t has =
      let z : Sizes = v.passes.sizes in
      let b : ℕ = bucket_of z (pair_of t) in
      let below : b < z.buckets = bucket_low z (pair_of t) h.limits in
      let known : chain_in b v.buckets.shut ≡ l.chains b = h.chains.mine b below id v at has.shut in
      ap not (free_there z t (records_after l.log) (omega (
        arith,
        h.chains.chained b below (has_pair (pair_of t)),
        ap (total (has_pair (pair_of t))) known,
        has.clear,
        total_term (loose_of z b (has_pair (pair_of t))) s.views id v at,
      )))

  -- the place is one of the pool, and of no live record
  some_taken : 1 ≤ takes r.place v
  some_taken = total_some (λ k. is_at r.place k && is_for_new k.purpose) v.places.held can.taken

  pub place_below : r.place < v.passes.sizes.entries
  place_below =
      ⊎_elim (λ (e : r.place < v.passes.sizes.entries). e)
      (λ (e : v.passes.sizes.entries ≤ r.place).
      absurd (omega (arith, h.references.beyond r.place e, total_term (keeps r.place) s.views id v at, some_taken, takes_held r.place v.places.held)))
      (cases_lt r.place v.passes.sizes.entries)

  pub none_there : total (of_place r.place) (records_after l.log) ≡ 0
  none_there = omega (arith, h.references.taken r.place, total_term (takes r.place) s.views id v at, some_taken)

  pub place_unused : is_unused r.place (state_after l.log) ≡ true
  place_unused = ap not (none_of (has_place r.place) (records_after l.log) none_there)

  pub lawful : may_happen v.passes.sizes (state_after l.log) (length l.log) (Confirm (born (length l.log) r)) ≡ true
  lawful =
      let z : Sizes = v.passes.sizes in
      let n : ℕ = length l.log in
      let st = state_after l.log in
      let b : Record = born n r in
      and_from (b.id == n && is_of_one_flow b && is_open_place z b.place st && is_free b.original st) (is_free b.reply st)
      (and_from (b.id == n && is_of_one_flow b && is_open_place z b.place st) (is_free b.original st)
      (and_from (b.id == n && is_of_one_flow b) (is_open_place z b.place st)
      (and_from (b.id == n) (is_of_one_flow b) (eq-eqb n n refl) can.protocol)
      (and_from (nat_lt b.place z.entries) (is_unused b.place st) (less b.place z.entries place_below) place_unused))
      (tuple_free (1 + 2 * r.place) r.original can.original))
      (tuple_free (2 + 2 * r.place) r.reply can.reply)
    where
      less : (a b : ℕ) → a < b → nat_lt a b ≡ true
      less a b lt = grind (arith, nat_tests, lt)
