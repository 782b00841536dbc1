-- Each call in its turn: what it did, and what it tells its desk.
use Rattle.std.proofs.Common.{◌≡◌, ℕ, ◌+◌, ◌≤◌, true, List, length, refl, ap, arith, Option, None}
use Rattle.std.specs.Prelude.{◌==◌}
use Rattle.atomic_table.specs.Table.{Me}
use Rattle.expect_table.specs.declared.expectation.Expectation.{Expectation}
use Rattle.expect_table.specs.declared.expectation.Want.{Want}
use Rattle.tuple_core.specs.declared.Direction.{Direction}
use Rattle.tuple_core.specs.declared.Segment.{Segment}
use Rattle.tuple_core.specs.declared.Tuple.{Tuple}
use Rattle.history_book.specs.declared.event.Event.{Event}
use Rattle.history_book.specs.declared.event.Why.{Why}
use Rattle.history_book.specs.declared.outcome.ClaimOutcome.{ClaimOutcome}
use Rattle.history_book.specs.declared.outcome.ConfirmOutcome.{ConfirmOutcome}
use Rattle.history_book.specs.declared.outcome.ExpectOutcome.{ExpectOutcome}
use Rattle.history_book.specs.declared.outcome.FindOutcome.{FindOutcome}
use Rattle.history_book.specs.declared.outcome.HoldOutcome.{HoldOutcome}
use Rattle.history_book.specs.declared.outcome.KillOutcome.{KillOutcome}
use Rattle.history_book.specs.declared.outcome.PeekOutcome.{PeekOutcome}
use Rattle.history_book.specs.declared.outcome.ReleaseOutcome.{ReleaseOutcome}
use Rattle.history_book.specs.declared.outcome.TakeOutcome.{TakeOutcome}
use Rattle.history_book.specs.declared.outcome.TouchOutcome.{TouchOutcome}
use Rattle.history_book.specs.declared.outcome.UnexpectOutcome.{UnexpectOutcome}
use Rattle.history_book.specs.declared.record.Flow.{Flow}
use Rattle.history_book.specs.Desk.{ConfirmSays, FindSays, HoldSays, KillSays, PeekSays, RecycleSays, ReleaseSays, TakeSays, TouchSays}
use Rattle.history_book.specs.DeskExpectations.{ClaimSays, ExpectSays, ListsExpected, UnexpectSays}
use Rattle.history_book.specs.Entry.{is_helped_entry}
use Rattle.history_book.specs.Held.{held_id, is_at, is_held, is_owed, is_taken}
use Rattle.history_book.specs.Sight.{Sight}
use Rattle.book_desk.specs.declared.book.Book.{Book}
use Rattle.book_desk.specs.declared.turn.change.PlaceChange.{PlaceChange}
use Rattle.book_desk.specs.declared.turn.change.PlaceChange.TheVariants.{Same, Pays}
use Rattle.book_desk.specs.declared.turn.pass.TurnPass.{TurnPass}
use Rattle.book_desk.specs.declared.turn.view.TurnView.{TurnView}
use Rattle.book_desk.specs.Internal.Book.{StaysBook, Tells, counted, spare_before, taken_then}
use Rattle.book_desk.specs.Internal.Seated.{IsSeated, numbers_of, sight_at}
use Rattle.book_desk.specs.Turn.Change.{IsRightChange, confirmed_change, found_change, held_after, held_change, owed_after, released_change, taken_change}
use Rattle.book_desk.specs.Turn.Steps.{TookBook}
use Rattle.book_desk.specs.Turn.Sums.{total}
use Rattle.book_desk.proofs.Passes.Among.{CanChange, any_among, held_balance}
use Rattle.book_desk.proofs.Passes.Answers.{claim_places, claim_says, confirm_places, confirm_says, expect_places, expect_says, find_places, find_says, hold_places, hold_says, kill_places, kill_says, lists_says, peek_says, recycle_says, release_places, release_says, take_places, take_says, touch_places, touch_says, unexpect_places, unexpect_says}
use Rattle.book_desk.proofs.Passes.Right.{confirm_right, find_right, hold_right, recycle_right, release_right, take_right}
use Rattle.book_desk.proofs.Passes.Turned.{IsAfter, IsTurn, can_confirm, can_find, can_hold, can_release, can_take, held_then, owed_then, told}

-- a call that left the book right, with this change of its places
is_turn : (p : TurnPass) (me : Me (Option Book) TurnView) (b b' : Book) (places : PlaceChange) (made : Option Event) (less : ℕ)
    → IsSeated p → (took : TookBook p.seat.me.0 me b) → StaysBook b b' made → b'.sizes ≡ b.sizes
    → b'.holds.items ≡ held_after places b.holds.items → b'.owed.items ≡ owed_after places b.owed.items
    → CanChange places p.seat.me.0.held p.seat.me.0.owed → IsRightChange places b.free.items b' → p.spare ≡ spare_before less made
    → IsTurn p me b b' places made less
is_turn p me b b' places made less seated took stays sizes held owed can right room = record {
  seated = seated;
  log = took.0;
  has = took.1;
  same = took.2;
  book = stays took.0 took.1.book;
  sizes = sizes;
  held = held;
  owed = owed;
  can = can;
  right = right;
  room = room;
}

pub find_turn : (p : TurnPass) (me : Me (Option Book) TurnView) (b b' : Book) (t' : Tuple) (o : FindOutcome) → IsSeated p → (took : TookBook p.seat.me.0 me b) → StaysBook b b' None → b'.sizes ≡ b.sizes
    → Tells b b' None (λ (old new : Sight). FindSays t' old new o) → length p.seat.me.0.held + length p.seat.me.0.owed ≤ 3 → IsTurn p me b b' (found_change o) None p.spare
find_turn p me b b' t' o seated took stays sizes says ok =
    is_turn p me b b' (found_change o) None p.spare seated took stays sizes
    ((find_places (numbers_of p.seat.table_id) p.seat.me.0 took.0 b b' p.notes.items p.spare took.1 p.taken t' o (says took.0 p.spare p.taken took.1.book)).0) ((find_places (numbers_of p.seat.table_id) p.seat.me.0 took.0 b b' p.notes.items p.spare took.1 p.taken t' o (says took.0 p.spare p.taken took.1.book)).1) (can_find o p.seat.me.0.held p.seat.me.0.owed ok)
    (find_right took.0 p.spare p.taken b b' took.1.book (stays took.0 took.1.book) t' o (says took.0 p.spare p.taken took.1.book)) refl

pub find_told : (p : TurnPass) (me : Me (Option Book) TurnView) (b b' : Book) (q : PlaceChange) (t' : Tuple) (o : FindOutcome) (new : TurnPass)
    → (t : IsTurn p me b b' (found_change o) None p.spare) → IsAfter p me (found_change o) q None p.spare new → new.taken ≡ p.taken
    → Tells b b' None (λ (old new : Sight). FindSays t' old new o)
    → FindSays t' (sight_at p) (sight_at new) o
find_told p me b b' q t' o new t a same says =
    told p me b b' (found_change o) q None p.spare new t a p.taken same (λ (old later : Sight). FindSays t' old later o)
    (find_says (numbers_of p.seat.table_id) p.seat.me.0 t.log b b' p.notes.items p.spare t.has p.taken t' o (says t.log p.spare p.taken t.has.book))

pub hold_turn : (p : TurnPass) (me : Me (Option Book) TurnView) (b b' : Book) (place : ℕ) (o : HoldOutcome) → IsSeated p → (took : TookBook p.seat.me.0 me b) → StaysBook b b' None → b'.sizes ≡ b.sizes
    → Tells b b' None (λ (old new : Sight). HoldSays place old new o) → length p.seat.me.0.held + length p.seat.me.0.owed ≤ 3 → IsTurn p me b b' (held_change place o) None p.spare
hold_turn p me b b' place o seated took stays sizes says ok =
    is_turn p me b b' (held_change place o) None p.spare seated took stays sizes
    ((hold_places (numbers_of p.seat.table_id) p.seat.me.0 took.0 b b' p.notes.items p.spare took.1 p.taken place o (says took.0 p.spare p.taken took.1.book)).0) ((hold_places (numbers_of p.seat.table_id) p.seat.me.0 took.0 b b' p.notes.items p.spare took.1 p.taken place o (says took.0 p.spare p.taken took.1.book)).1) (can_hold place o p.seat.me.0.held p.seat.me.0.owed ok)
    (hold_right took.0 p.spare p.taken b b' took.1.book (stays took.0 took.1.book) place o (says took.0 p.spare p.taken took.1.book)) refl

pub hold_told : (p : TurnPass) (me : Me (Option Book) TurnView) (b b' : Book) (q : PlaceChange) (place : ℕ) (o : HoldOutcome) (new : TurnPass)
    → (t : IsTurn p me b b' (held_change place o) None p.spare) → IsAfter p me (held_change place o) q None p.spare new → new.taken ≡ p.taken
    → Tells b b' None (λ (old new : Sight). HoldSays place old new o)
    → HoldSays place (sight_at p) (sight_at new) o
hold_told p me b b' q place o new t a same says =
    told p me b b' (held_change place o) q None p.spare new t a p.taken same (λ (old later : Sight). HoldSays place old later o)
    (hold_says (numbers_of p.seat.table_id) p.seat.me.0 t.log b b' p.notes.items p.spare t.has p.taken place o (says t.log p.spare p.taken t.has.book))

pub take_turn : (p : TurnPass) (me : Me (Option Book) TurnView) (b b' : Book) (o : TakeOutcome) → IsSeated p → (took : TookBook p.seat.me.0 me b) → StaysBook b b' None → b'.sizes ≡ b.sizes
    → Tells b b' None (λ (old new : Sight). TakeSays old (counted o new) o) → length p.seat.me.0.held + length p.seat.me.0.owed ≤ 3 → IsTurn p me b b' (taken_change o) None p.spare
take_turn p me b b' o seated took stays sizes says ok =
    is_turn p me b b' (taken_change o) None p.spare seated took stays sizes
    ((take_places (numbers_of p.seat.table_id) p.seat.me.0 took.0 b b' p.notes.items p.spare took.1 p.taken o (says took.0 p.spare p.taken took.1.book)).0) ((take_places (numbers_of p.seat.table_id) p.seat.me.0 took.0 b b' p.notes.items p.spare took.1 p.taken o (says took.0 p.spare p.taken took.1.book)).1) (can_take o p.seat.me.0.held p.seat.me.0.owed ok)
    (take_right took.0 p.spare p.taken b b' took.1.book (stays took.0 took.1.book) o (says took.0 p.spare p.taken took.1.book)) refl

pub take_told : (p : TurnPass) (me : Me (Option Book) TurnView) (b b' : Book) (q : PlaceChange) (o : TakeOutcome) (new : TurnPass)
    → (t : IsTurn p me b b' (taken_change o) None p.spare) → IsAfter p me (taken_change o) q None p.spare new → new.taken ≡ taken_then o p.taken
    → Tells b b' None (λ (old new : Sight). TakeSays old (counted o new) o)
    → TakeSays (sight_at p) (sight_at new) o
take_told p me b b' q o new t a same says =
    told p me b b' (taken_change o) q None p.spare new t a (taken_then o p.taken) same (λ (old later : Sight). TakeSays old later o)
    (take_says (numbers_of p.seat.table_id) p.seat.me.0 t.log b b' p.notes.items p.spare t.has p.taken o (says t.log p.spare p.taken t.has.book))

pub release_turn : (p : TurnPass) (me : Me (Option Book) TurnView) (b b' : Book) (place : ℕ) (o : ReleaseOutcome) → IsSeated p → (took : TookBook p.seat.me.0 me b) → StaysBook b b' None → b'.sizes ≡ b.sizes
    → Tells b b' None (λ (old new : Sight). ReleaseSays place old new o) → is_held place p.seat.me.0.held ≡ true → IsTurn p me b b' (released_change place o) None p.spare
release_turn p me b b' place o seated took stays sizes says ok =
    is_turn p me b b' (released_change place o) None p.spare seated took stays sizes
    ((release_places (numbers_of p.seat.table_id) p.seat.me.0 took.0 b b' p.notes.items p.spare took.1 p.taken place o (says took.0 p.spare p.taken took.1.book)).0) ((release_places (numbers_of p.seat.table_id) p.seat.me.0 took.0 b b' p.notes.items p.spare took.1 p.taken place o (says took.0 p.spare p.taken took.1.book)).1) (can_release place o p.seat.me.0.held p.seat.me.0.owed ok)
    (release_right took.0 p.spare p.taken b b' took.1.book (stays took.0 took.1.book) place o (any_among (is_at place) p.seat.me.0.held b.holds.items took.1.held ok)
    (says took.0 p.spare p.taken took.1.book)) refl

pub release_told : (p : TurnPass) (me : Me (Option Book) TurnView) (b b' : Book) (q : PlaceChange) (place : ℕ) (o : ReleaseOutcome) (new : TurnPass)
    → (t : IsTurn p me b b' (released_change place o) None p.spare) → IsAfter p me (released_change place o) q None p.spare new → new.taken ≡ p.taken
    → Tells b b' None (λ (old new : Sight). ReleaseSays place old new o) → is_held place p.seat.me.0.held ≡ true
    → ReleaseSays place (sight_at p) (sight_at new) o
release_told p me b b' q place o new t a same says there =
    told p me b b' (released_change place o) q None p.spare new t a p.taken same (λ (old later : Sight). ReleaseSays place old later o)
    (release_says (numbers_of p.seat.table_id) p.seat.me.0 t.log b b' p.notes.items p.spare t.has p.taken place o there
    (held_then p me b b' (released_change place o) q None p.spare new t a)
    (λ one weight. omega (
      arith,
      t.has.only_held one weight,
      ap (total weight) t.held,
      held_balance (released_change place o) p.seat.me.0.held b.holds.items p.seat.me.0.owed t.has.book.references.agreed t.has.held t.can weight,
    ))
    (says t.log p.spare p.taken t.has.book))

pub recycle_turn : (p : TurnPass) (me : Me (Option Book) TurnView) (b b' : Book) (place : ℕ) → IsSeated p → (took : TookBook p.seat.me.0 me b) → StaysBook b b' None → b'.sizes ≡ b.sizes
    → Tells b b' None (λ (old new : Sight). RecycleSays place old new) → is_owed place p.seat.me.0.owed ≡ true → IsTurn p me b b' (Pays place) None p.spare
recycle_turn p me b b' place seated took stays sizes says ok =
    is_turn p me b b' (Pays place) None p.spare seated took stays sizes
    ((says took.0 p.spare p.taken took.1.book).held) ((says took.0 p.spare p.taken took.1.book).owed) ok
    (recycle_right took.0 p.spare p.taken b b' took.1.book (stays took.0 took.1.book) place (any_among (λ q. q == place) p.seat.me.0.owed b.owed.items took.1.owed ok) sizes
    (says took.0 p.spare p.taken took.1.book)) refl

pub recycle_told : (p : TurnPass) (me : Me (Option Book) TurnView) (b b' : Book) (q : PlaceChange) (place : ℕ) (new : TurnPass)
    → (t : IsTurn p me b b' (Pays place) None p.spare) → IsAfter p me (Pays place) q None p.spare new → new.taken ≡ p.taken
    → Tells b b' None (λ (old new : Sight). RecycleSays place old new)
    → RecycleSays place (sight_at p) (sight_at new)
recycle_told p me b b' q place new t a same says =
    told p me b b' (Pays place) q None p.spare new t a p.taken same (λ (old later : Sight). RecycleSays place old later)
    (recycle_says (numbers_of p.seat.table_id) p.seat.me.0 t.log b b' p.notes.items p.spare t.has p.taken place
    (held_then p me b b' (Pays place) q None p.spare new t a) (owed_then p me b b' (Pays place) q None p.spare new t a)
    (says t.log p.spare p.taken t.has.book))

pub peek_turn : (p : TurnPass) (me : Me (Option Book) TurnView) (b : Book) (place : ℕ) (o : PeekOutcome) → IsSeated p → (took : TookBook p.seat.me.0 me b)
    → Tells b b None (λ (old new : Sight). PeekSays place old new o) → IsTurn p me b b Same None p.spare
peek_turn p me b place o seated took says =
    is_turn p me b b Same None p.spare seated took (λ log h. h) refl
    refl refl tt tt refl

pub peek_told : (p : TurnPass) (me : Me (Option Book) TurnView) (b : Book) (q : PlaceChange) (place : ℕ) (o : PeekOutcome) (new : TurnPass)
    → (t : IsTurn p me b b Same None p.spare) → IsAfter p me Same q None p.spare new → new.taken ≡ p.taken
    → Tells b b None (λ (old new : Sight). PeekSays place old new o) → is_held place p.seat.me.0.held ≡ true
    → PeekSays place (sight_at p) (sight_at new) o
peek_told p me b q place o new t a same says there =
    told p me b b Same q None p.spare new t a p.taken same (λ (old later : Sight). PeekSays place old later o)
    (peek_says (numbers_of p.seat.table_id) p.seat.me.0 t.log b b p.notes.items p.spare t.has p.taken place o there (says t.log p.spare p.taken t.has.book))

pub lists_turn : (p : TurnPass) (me : Me (Option Book) TurnView) (b : Book) (listed : List Expectation) (at : ℕ) → IsSeated p → (took : TookBook p.seat.me.0 me b)
    → Tells b b None (λ (old new : Sight). ListsExpected listed old new at) → IsTurn p me b b Same None p.spare
lists_turn p me b listed at seated took says =
    is_turn p me b b Same None p.spare seated took (λ log h. h) refl
    refl refl tt tt refl

pub lists_told : (p : TurnPass) (me : Me (Option Book) TurnView) (b : Book) (q : PlaceChange) (listed : List Expectation) (at : ℕ) (new : TurnPass)
    → (t : IsTurn p me b b Same None p.spare) → IsAfter p me Same q None p.spare new → new.taken ≡ p.taken
    → Tells b b None (λ (old new : Sight). ListsExpected listed old new at)
    → ListsExpected listed (sight_at p) (sight_at new) at
lists_told p me b q listed at new t a same says =
    told p me b b Same q None p.spare new t a p.taken same (λ (old later : Sight). ListsExpected listed old later at)
    (lists_says (numbers_of p.seat.table_id) p.seat.me.0 t.log b b p.notes.items p.spare t.has p.taken listed at (says t.log p.spare p.taken t.has.book))

pub confirm_turn : (p : TurnPass) (me : Me (Option Book) TurnView) (b b' : Book) (made : Option Event) (less : ℕ) (place : ℕ) (flow : Flow) (o : ConfirmOutcome) → IsSeated p → (took : TookBook p.seat.me.0 me b) → StaysBook b b' made → b'.sizes ≡ b.sizes
    → Tells b b' made (λ (old new : Sight). ConfirmSays place flow old new o) → is_taken place p.seat.me.0.held ≡ true → p.spare ≡ spare_before less made → IsTurn p me b b' (confirmed_change place o) made less
confirm_turn p me b b' made less place flow o seated took stays sizes says ok room =
    is_turn p me b b' (confirmed_change place o) made less seated took stays sizes
    ((confirm_places (numbers_of p.seat.table_id) p.seat.me.0 took.0 b b' made p.notes.items less took.1 p.taken sizes place flow o (says took.0 less p.taken took.1.book)).0) ((confirm_places (numbers_of p.seat.table_id) p.seat.me.0 took.0 b b' made p.notes.items less took.1 p.taken sizes place flow o (says took.0 less p.taken took.1.book)).1) (can_confirm place o p.seat.me.0.held p.seat.me.0.owed ok) (confirm_right place o b.free.items b') room

pub confirm_told : (p : TurnPass) (me : Me (Option Book) TurnView) (b b' : Book) (q : PlaceChange) (made : Option Event) (less : ℕ) (place : ℕ) (flow : Flow) (o : ConfirmOutcome) (new : TurnPass)
    → (t : IsTurn p me b b' (confirmed_change place o) made less) → IsAfter p me (confirmed_change place o) q made less new → new.taken ≡ p.taken
    → Tells b b' made (λ (old new : Sight). ConfirmSays place flow old new o)
    → ConfirmSays place flow (sight_at p) (sight_at new) o
confirm_told p me b b' q made less place flow o new t a same says =
    told p me b b' (confirmed_change place o) q made less new t a p.taken same (λ (old later : Sight). ConfirmSays place flow old later o)
    (confirm_says (numbers_of p.seat.table_id) p.seat.me.0 t.log b b' made p.notes.items less t.has p.taken t.sizes place flow o (says t.log less p.taken t.has.book))

pub touch_turn : (p : TurnPass) (me : Me (Option Book) TurnView) (b b' : Book) (made : Option Event) (less : ℕ) (place : ℕ) (direction : Direction) (segment : Segment) (moment : ℕ) (o : TouchOutcome) → IsSeated p → (took : TookBook p.seat.me.0 me b) → StaysBook b b' made → b'.sizes ≡ b.sizes
    → Tells b b' made (λ (old new : Sight). TouchSays place direction segment moment old new o) → p.spare ≡ spare_before less made → IsTurn p me b b' Same made less
touch_turn p me b b' made less place direction segment moment o seated took stays sizes says room =
    is_turn p me b b' Same made less seated took stays sizes
    ((touch_places (numbers_of p.seat.table_id) p.seat.me.0 took.0 b b' made p.notes.items less took.1 p.taken sizes place direction segment moment o (says took.0 less p.taken took.1.book)).held) ((touch_places (numbers_of p.seat.table_id) p.seat.me.0 took.0 b b' made p.notes.items less took.1 p.taken sizes place direction segment moment o (says took.0 less p.taken took.1.book)).owed) tt tt room

pub touch_told : (p : TurnPass) (me : Me (Option Book) TurnView) (b b' : Book) (q : PlaceChange) (made : Option Event) (less : ℕ) (place : ℕ) (direction : Direction) (segment : Segment) (moment : ℕ) (o : TouchOutcome) (new : TurnPass)
    → (t : IsTurn p me b b' Same made less) → IsAfter p me Same q made less new → new.taken ≡ p.taken
    → Tells b b' made (λ (old new : Sight). TouchSays place direction segment moment old new o) → is_held place p.seat.me.0.held ≡ true
    → TouchSays place direction segment moment (sight_at p) (sight_at new) o
touch_told p me b b' q made less place direction segment moment o new t a same says there =
    told p me b b' Same q made less new t a p.taken same (λ (old later : Sight). TouchSays place direction segment moment old later o)
    (touch_says (numbers_of p.seat.table_id) p.seat.me.0 t.log b b' made p.notes.items less t.has p.taken t.sizes place direction segment moment o there (says t.log less p.taken t.has.book))

pub kill_turn : (p : TurnPass) (me : Me (Option Book) TurnView) (b b' : Book) (made : Option Event) (less : ℕ) (place : ℕ) (why : Why) (o : KillOutcome) → IsSeated p → (took : TookBook p.seat.me.0 me b) → StaysBook b b' made → b'.sizes ≡ b.sizes
    → Tells b b' made (λ (old new : Sight). KillSays place why old new o) → p.spare ≡ spare_before less made → IsTurn p me b b' Same made less
kill_turn p me b b' made less place why o seated took stays sizes says room =
    is_turn p me b b' Same made less seated took stays sizes
    ((kill_places (numbers_of p.seat.table_id) p.seat.me.0 took.0 b b' made p.notes.items less took.1 p.taken sizes place why o (says took.0 less p.taken took.1.book)).held) ((kill_places (numbers_of p.seat.table_id) p.seat.me.0 took.0 b b' made p.notes.items less took.1 p.taken sizes place why o (says took.0 less p.taken took.1.book)).owed) tt tt room

pub kill_told : (p : TurnPass) (me : Me (Option Book) TurnView) (b b' : Book) (q : PlaceChange) (made : Option Event) (less : ℕ) (place : ℕ) (why : Why) (o : KillOutcome) (new : TurnPass)
    → (t : IsTurn p me b b' Same made less) → IsAfter p me Same q made less new → new.taken ≡ p.taken
    → Tells b b' made (λ (old new : Sight). KillSays place why old new o) → is_held place p.seat.me.0.held ≡ true
    → KillSays place why (sight_at p) (sight_at new) o
kill_told p me b b' q made less place why o new t a same says there =
    told p me b b' Same q made less new t a p.taken same (λ (old later : Sight). KillSays place why old later o)
    (kill_says (numbers_of p.seat.table_id) p.seat.me.0 t.log b b' made p.notes.items less t.has p.taken t.sizes place why o there (says t.log less p.taken t.has.book))

pub expect_turn : (p : TurnPass) (me : Me (Option Book) TurnView) (b b' : Book) (made : Option Event) (less : ℕ) (place : ℕ) (want : Want) (moment : ℕ) (o : ExpectOutcome) → IsSeated p → (took : TookBook p.seat.me.0 me b) → StaysBook b b' made → b'.sizes ≡ b.sizes
    → Tells b b' made (λ (old new : Sight). ExpectSays place want moment old new o) → p.spare ≡ spare_before less made → IsTurn p me b b' Same made less
expect_turn p me b b' made less place want moment o seated took stays sizes says room =
    is_turn p me b b' Same made less seated took stays sizes
    ((expect_places (numbers_of p.seat.table_id) p.seat.me.0 took.0 b b' made p.notes.items less took.1 p.taken sizes place want moment o (says took.0 less p.taken took.1.book)).held) ((expect_places (numbers_of p.seat.table_id) p.seat.me.0 took.0 b b' made p.notes.items less took.1 p.taken sizes place want moment o (says took.0 less p.taken took.1.book)).owed) tt tt room

pub expect_told : (p : TurnPass) (me : Me (Option Book) TurnView) (b b' : Book) (q : PlaceChange) (made : Option Event) (less : ℕ) (place : ℕ) (want : Want) (moment : ℕ) (o : ExpectOutcome) (new : TurnPass)
    → (t : IsTurn p me b b' Same made less) → IsAfter p me Same q made less new → new.taken ≡ p.taken
    → Tells b b' made (λ (old new : Sight). ExpectSays place want moment old new o) → is_held place p.seat.me.0.held ≡ true
    → is_helped_entry (held_id place p.seat.me.0.held) p.seat.me.0.front ≡ true
    → ExpectSays place want moment (sight_at p) (sight_at new) o
expect_told p me b b' q made less place want moment o new t a same says there helped =
    told p me b b' Same q made less new t a p.taken same (λ (old later : Sight). ExpectSays place want moment old later o)
    (expect_says (numbers_of p.seat.table_id) p.seat.me.0 t.log b b' made p.notes.items less t.has p.taken t.sizes place want moment o there helped (says t.log less p.taken t.has.book))

pub claim_turn : (p : TurnPass) (me : Me (Option Book) TurnView) (b b' : Book) (made : Option Event) (less : ℕ) (t' : Tuple) (moment : ℕ) (o : ClaimOutcome) → IsSeated p → (took : TookBook p.seat.me.0 me b) → StaysBook b b' made → b'.sizes ≡ b.sizes
    → Tells b b' made (λ (old new : Sight). ClaimSays t' moment old new o) → p.spare ≡ spare_before less made → IsTurn p me b b' Same made less
claim_turn p me b b' made less t' moment o seated took stays sizes says room =
    is_turn p me b b' Same made less seated took stays sizes
    ((claim_places (numbers_of p.seat.table_id) p.seat.me.0 took.0 b b' made p.notes.items less took.1 p.taken sizes t' moment o (says took.0 less p.taken took.1.book)).held) ((claim_places (numbers_of p.seat.table_id) p.seat.me.0 took.0 b b' made p.notes.items less took.1 p.taken sizes t' moment o (says took.0 less p.taken took.1.book)).owed) tt tt room

pub claim_told : (p : TurnPass) (me : Me (Option Book) TurnView) (b b' : Book) (q : PlaceChange) (made : Option Event) (less : ℕ) (t' : Tuple) (moment : ℕ) (o : ClaimOutcome) (new : TurnPass)
    → (t : IsTurn p me b b' Same made less) → IsAfter p me Same q made less new → new.taken ≡ p.taken
    → Tells b b' made (λ (old new : Sight). ClaimSays t' moment old new o)
    → ClaimSays t' moment (sight_at p) (sight_at new) o
claim_told p me b b' q made less t' moment o new t a same says =
    told p me b b' Same q made less new t a p.taken same (λ (old later : Sight). ClaimSays t' moment old later o)
    (claim_says (numbers_of p.seat.table_id) p.seat.me.0 t.log b b' made p.notes.items less t.has p.taken t.sizes t' moment o (says t.log less p.taken t.has.book))

pub unexpect_turn : (p : TurnPass) (me : Me (Option Book) TurnView) (b b' : Book) (made : Option Event) (less : ℕ) (id moment : ℕ) (o : UnexpectOutcome) → IsSeated p → (took : TookBook p.seat.me.0 me b) → StaysBook b b' made → b'.sizes ≡ b.sizes
    → Tells b b' made (λ (old new : Sight). UnexpectSays id moment old new o) → p.spare ≡ spare_before less made → IsTurn p me b b' Same made less
unexpect_turn p me b b' made less id moment o seated took stays sizes says room =
    is_turn p me b b' Same made less seated took stays sizes
    ((unexpect_places (numbers_of p.seat.table_id) p.seat.me.0 took.0 b b' made p.notes.items less took.1 p.taken sizes id moment o (says took.0 less p.taken took.1.book)).held) ((unexpect_places (numbers_of p.seat.table_id) p.seat.me.0 took.0 b b' made p.notes.items less took.1 p.taken sizes id moment o (says took.0 less p.taken took.1.book)).owed) tt tt room

pub unexpect_told : (p : TurnPass) (me : Me (Option Book) TurnView) (b b' : Book) (q : PlaceChange) (made : Option Event) (less : ℕ) (id moment : ℕ) (o : UnexpectOutcome) (new : TurnPass)
    → (t : IsTurn p me b b' Same made less) → IsAfter p me Same q made less new → new.taken ≡ p.taken
    → Tells b b' made (λ (old new : Sight). UnexpectSays id moment old new o)
    → UnexpectSays id moment (sight_at p) (sight_at new) o
unexpect_told p me b b' q made less id moment o new t a same says =
    told p me b b' Same q made less new t a p.taken same (λ (old later : Sight). UnexpectSays id moment old later o)
    (unexpect_says (numbers_of p.seat.table_id) p.seat.me.0 t.log b b' made p.notes.items less t.has p.taken t.sizes id moment o (says t.log less p.taken t.has.book))
