-- How full the table is: each place is on the free list, or a pass holds or owes it, or a live record has it. So there are no more
-- places than these are together.
use Rattle.std.specs.Prelude.{min}
use Rattle.std.proofs.Common.{◌≡◌, ℕ, ◌+◌, ◌-◌, ◌*◌, ◌<◌, ◌≤◌, zero, suc, List, length, ap, ⊎_elim, arith}
use Rattle.std.proofs.lemmas.Bool.{cases_lt}
use mathlib.Core.Option.{some}
use lib.ListN.{get_elem?}
use Rattle.atomic_table.specs.Table.{State}
use Rattle.history_book.specs.declared.record.Record.{Record}
use Rattle.history_book.specs.declared.sizes.Sizes.{Sizes}
use Rattle.track_rule.specs.declared.slot.Slot.{Slot}
use Rattle.track_rule.specs.declared.view.Keep.{Keep}
use Rattle.track_rule.specs.declared.view.View.{View}
use Rattle.track_rule.specs.Free.{owes}
use Rattle.track_rule.specs.History.{records_after}
use Rattle.track_rule.specs.Layout.{phase_at, refs_at}
use Rattle.track_rule.specs.Passes.{shares_of}
use Rattle.track_rule.specs.Phases.{of_place, table_keeps}
use Rattle.track_rule.specs.References.{held_times, keeps}
use Rattle.track_rule.specs.Rule.{IsKept, Ledger}
use Rattle.track_rule.specs.Steps.{kept_places, uses}
use Rattle.track_rule.specs.Sums.{Each, times, total}
use Rattle.track_rule.proofs.Counting.{below, below_add, below_items, below_le, below_ones, below_total}
use Rattle.track_rule.proofs.Sums.{total_add, total_gap, total_le, total_term, total_times}

-- what is free, owed, kept by passes or kept by the table is in use, where what passes keep they hold
some_use : (free owed refs kept table held live : ℕ) → free + owed + min refs 1 ≡ 1 → refs ≡ kept + table → kept ≤ 2 * held → table ≤ live
    → 1 ≤ free + (held + owed) + live
some_use free owed zero kept table held live one all low shown = omega (arith, one)
some_use free owed (suc refs) kept table held live one all low shown = omega (arith, all, low, shown)

module _ (z : Sizes) (l : Ledger) (s : State Slot View) (h : IsKept z l s) where
  -- who carries the table's reference to a place holds it, so what passes keep some pass holds
  keeps_held : (p : ℕ) → total (keeps p) s.views ≤ 2 * total (λ v. held_times p v.places.held) s.views
  keeps_held p =
      omega (
        arith,
        total_le (keeps p) (λ v. 2 * held_times p v.places.held) s.views (λ i v at. omega (arith, h.references.carried i v at p)),
        total_times 2 (λ (v : View). held_times p v.places.held) s.views,
      )

  -- each place is in use, or free
  pub in_use : (p : ℕ) → p < z.entries → 1 ≤ times p l.free + total (uses p) s.views + total (of_place p) (records_after l.log)
  in_use p below =
      let held : View → ℕ = λ v. held_times p v.places.held in
      let present : 1 ≤ times p l.free + (total held s.views + total (owes p) s.views) + total (of_place p) (records_after l.log) =
      some_use (times p l.free) (total (owes p) s.views) (refs_at z s.words p) (total (keeps p) s.views) (table_keeps (phase_at z s.words p))
      (total held s.views) (total (of_place p) (records_after l.log)) (h.free_list.once p below) (h.references.counted p below) (keeps_held p)
      (omega (arith, h.phases.used p below)) in
      omega (arith, present, total_add held (owes p) s.views)

  -- so there are no more places than are free, live, held and owed
  few_links : z.entries ≤ length l.free + total kept_places s.views + length (records_after l.log)
  few_links =
      let n : ℕ = z.entries in
      let rs : List Record = records_after l.log in
      omega (
        arith,
        below_ones n,
        below_le (λ p. 1) (λ p. times p l.free + total (uses p) s.views + total (of_place p) rs) n in_use,
        below_add (λ p. times p l.free + total (uses p) s.views) (λ p. total (of_place p) rs) n,
        below_add (λ p. times p l.free) (λ p. total (uses p) s.views) n,
        below_items (λ (p : ℕ). p) l.free n,
        below_items (λ (r : Record). r.place) rs n,
        below_total uses s.views n,
        total_le (λ v. below (λ p. uses p v) n) kept_places s.views (λ i v at. own_places v n),
      )
    where
      own_places : (v : View) (n : ℕ) → below (λ p. uses p v) n ≤ kept_places v
      own_places v n =
          omega (
            arith,
            below_add (λ p. held_times p v.places.held) (λ p. times p v.places.owed) n,
            below_items (λ (k : Keep). k.place) v.places.held n,
            below_items (λ (p : ℕ). p) v.places.owed n,
          )

  -- each share of a pass is worth four places
  places_low : Each (λ v. kept_places v ≤ 4 * shares_of v) s.views
  places_low i v at =
      ⊎_elim
      (λ (e : 0 < v.passes.shares). omega (arith, h.free_list.few i v at, e))
      (λ (e : v.passes.shares ≤ 0).
      let none = ((h.passes.each i v at).spent (omega (arith, e))).nothing in
      omega (arith, ap length none.held, ap length none.owed))
      (cases_lt 0 v.passes.shares)

  -- and the other passes have four at most for each share
  pub full : (id : ℕ) (v : View) → get_elem? s.views id ≡ some v
      → z.entries ≤ length l.free + length (records_after l.log) + kept_places v + 4 * (z.passes - shares_of v)
  full id v at =
      omega (
        arith,
        few_links,
        total_gap kept_places (λ u. 4 * shares_of u) s.views id v at places_low,
        total_times 4 shares_of s.views,
        h.passes.all,
        total_term shares_of s.views id v at,
      )
