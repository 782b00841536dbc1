use Rattle.std.proofs.Common.{◌≤◌, length, sym, subst, arith}
use Rattle.std.proofs.lemmas.Bool.{false≢true}
use Rattle.history_book.specs.Checked.{sizes_with}
use Rattle.history_book.specs.Internal.Checking.{state_in}
use Rattle.history_book.specs.State.{State}
use Rattle.history_book.proofs.Checking.{IsSoundTo, broken_here, few_live, legal_unbroken, sound_on, sound_start}
use Rattle.history_book.proofs.check.check_history.Goals as goal

pub items-init : goal.items-init
items-init c =
    subst (λ (s : State). IsSoundTo (sizes_with c.args.entries c.args.expectations) c.args.history.now.items 0 s)
    (sym c.new-table.ensures) (sound_start (sizes_with c.args.entries c.args.expectations) c.args.history.now.items)

pub items-preserved : goal.items-preserved
items-preserved c =
    sound_on (sizes_with c.args.entries c.args.expectations) c.sizes_with-sizes.result c.args.history.now.items c.items.index _
    c.is_broken.result (state_in c.items.table) (state_in c.go_on.new.self) c.sizes_with-sizes.ensures c.items.invariant
    c.at-item.ensures c.is_broken.ensures c.if-is_broken.false c.in_ok-go_on.ensures

pub returns-then-is_broken-clause-broken : goal.returns-then-is_broken-clause-broken
returns-then-is_broken-clause-broken c =
    broken_here (sizes_with c.args.entries c.args.expectations) c.sizes_with-sizes.result c.args.history.now.items c.items.index _
    c.is_broken.result (state_in c.items.table) c.sizes_with-sizes.ensures c.items.invariant c.at-item.ensures
    c.is_broken.ensures c.if-is_broken.true

pub returns-then-is_broken-clause-legal : goal.returns-then-is_broken-clause-legal
returns-then-is_broken-clause-legal c = (
  λ t. absurd (false≢true t),
  λ h. absurd (legal_unbroken (sizes_with c.args.entries c.args.expectations) c.args.history.now.items h c.items.index
      (broken_here (sizes_with c.args.entries c.args.expectations) c.sizes_with-sizes.result c.args.history.now.items c.items.index _
      c.is_broken.result (state_in c.items.table) c.sizes_with-sizes.ensures c.items.invariant c.at-item.ensures
      c.is_broken.ensures c.if-is_broken.true).here),
)

pub overflow_cast-live : goal.overflow_cast-live
overflow_cast-live c =
    let few : length (state_in c.items.table).records ≤ c.args.entries =
    few_live (sizes_with c.args.entries c.args.expectations) c.args.history.now.items c.items.index (state_in c.items.table)
    c.items.invariant (omega (arith, c.items-test.false, c.len-index-end.ensures.exact)) in
    omega (arith, few, c.len-live.ensures, c.ranges.entries)
