-- An answer that fits still fits when the history goes on: one case for each command.
use Rattle.std.proofs.Common.{◌≡◌, ℕ, ◌≤◌, ◌<◌, Bool, true, List, [], ◌∷◌, length, None, sym, subst, arith}
use Rattle.std.specs.List.{AllByRecursion, find}
use Rattle.expect_table.specs.Match as expected
use Rattle.history_book.specs.declared.answer.Row.{Row}
use Rattle.history_book.specs.declared.answer.Said.{Said}
use Rattle.history_book.specs.declared.event.Event.{Event}
use Rattle.history_book.specs.declared.event.Note.{Note}
use Rattle.history_book.specs.declared.event.Why.{Why}
use Rattle.history_book.specs.declared.filter.Filter.{Filter}
use Rattle.history_book.specs.declared.record.Record.{Record}
use Rattle.history_book.specs.History.{after}
use Rattle.history_book.specs.Laws.{EventsStay, StatesStay}
use Rattle.history_book.specs.Notes.{Happened}
use Rattle.history_book.specs.Point.{At, StartsWith}
use Rattle.history_book.specs.State.{State, record_of}
use Rattle.conntrack_cmd.specs.declared.command.Command.{Command}
use Rattle.conntrack_cmd.specs.declared.command.Command.TheVariants as command
use Rattle.pool_visits.specs.Row.{IsRow}
use Rattle.pool_visits.specs.Visit.{LivedThroughout, is_live_and}
use Rattle.conntrack_cmd.specs.Answer.{AreDestroyed, FitsCommand, FitsCommandFrom, NoLateIsLeft, NoneIsLeft, is_there_and_late}

pub at_grows : StatesStay → (longer log : List Event) (p : ℕ) (F : State → Type 0) → StartsWith longer log
    → At log p F → At longer p F
at_grows stay longer log p F starts fact =
    let same = stay longer log p starts fact.within in
    record { within = same.0; fact = subst F (sym same.1) fact.fact }

module _ (events : EventsStay) (states : StatesStay) (longer log : List Event) (starts : StartsWith longer log) where
  -- the states of the first events are the same
  pub same_state : (p : ℕ) → p ≤ length log → after longer p ≡ after log p
  same_state p within = (states longer log p starts within).1

  pub happened_grows : (mark to : ℕ) (own : List Note) → AllByRecursion (λ n. Happened log mark n × (n.number < to)) own
      → AllByRecursion (λ n. Happened longer mark n × (n.number < to)) own
  happened_grows mark to [] h = tt
  happened_grows mark to (n ∷ ns) ((happened, below), hs) =
      ((record { event = events longer log _ _ starts happened.event; later = happened.later }, below), happened_grows mark to ns hs)

  pub lived_shrinks : (test : Record → Bool) (from to id : ℕ) → to ≤ length log → LivedThroughout longer test from to id
      → LivedThroughout log test from to id
  lived_shrinks test from to id within lived p low high =
      subst (λ (s : State). is_live_and test (record_of id s) ≡ true) (same_state p (omega (arith, high, within))) (lived p low high)

  pub rows_grow : (filter : Filter) (from to : ℕ) (rows : List Row) → AllByRecursion (IsRow log filter from to) rows
      → AllByRecursion (IsRow longer filter from to) rows
  rows_grow filter from to [] h = tt
  rows_grow filter from to (row ∷ rows) (h, hs) =
      (record { low = h.low; high = h.high; live = at_grows states longer log _ _ starts h.live; selects = h.selects }, rows_grow filter from to rows hs)

  pub destroyed_grow : (why : Why) (notes : List Note) (rows : List Row) → AreDestroyed log why notes rows → AreDestroyed longer why notes rows
  destroyed_grow why [] [] h = tt
  destroyed_grow why [] (row ∷ rows) h = h
  destroyed_grow why (note ∷ notes) [] h = h
  destroyed_grow why (note ∷ notes) (row ∷ rows) (h, hs) =
      (record { event = h.event; number = h.number; found = at_grows states longer log _ _ starts h.found }, destroyed_grow why notes rows hs)

  left_grows : (test : Record → Bool) (from to : ℕ) → from ≤ to → to ≤ length log → NoneIsLeft log test from to
      → NoneIsLeft longer test from to
  left_grows test from to order within left id live =
      subst (λ (s : State). record_of id s ≡ None) (sym (same_state to within))
      (left id (subst (λ (s : State). is_live_and test (record_of id s) ≡ true) (same_state from (omega (arith, order, within))) live))

  late_grows : (moment from to : ℕ) → from ≤ to → to ≤ length log → NoLateIsLeft log moment from to → NoLateIsLeft longer moment from to
  late_grows moment from to order within left id late =
      subst (λ (s : State). find (expected.has_id id) s.expects ≡ None) (sym (same_state to within))
      (left id (subst (λ (s : State). is_there_and_late moment (find (expected.has_id id) s.expects) ≡ true)
      (same_state from (omega (arith, order, within))) late))

  said_grows : (asked : Command) (own : List Note) (answer : Said) (from to : ℕ) → from ≤ to → to ≤ length log
      → FitsCommandFrom log asked own answer from to → FitsCommandFrom longer asked own answer from to
  said_grows (command.List filter) own answer from to order within f = record {
    rows = f.rows;
    is = f.is;
    no_event = f.no_event;
    order = f.order;
    each = rows_grow filter from to f.rows.items f.each;
    whole = λ id lived. f.whole id (lived_shrinks _ from to id within lived);
  }
  said_grows command.ListExpect own answer from to order within f = record {
    rows = f.rows;
    is = f.is;
    no_event = f.no_event;
    one = f.one;
    listed = at_grows states longer log _ _ starts f.listed;
  }
  said_grows (command.Get t) own answer from to order within f = record {
    row = f.row;
    is = f.is;
    no_event = f.no_event;
    one = f.one;
    found = at_grows states longer log _ _ starts f.found;
  }
  said_grows (command.Delete filter) own answer from to order within f = record {
    rows = f.rows;
    is = f.is;
    found = f.found;
    each = destroyed_grow _ own f.found f.each;
    same = f.same;
    order = f.order;
    left = left_grows _ from to order within f.left;
  }
  said_grows command.Flush own answer from to order within f = record {
    is = f.is;
    each = f.each;
    left = left_grows _ from to order within f.left;
  }
  said_grows command.Count own answer from to order within f = record {
    live = f.live;
    is = f.is;
    no_event = f.no_event;
    one = f.one;
    counted = at_grows states longer log _ _ starts f.counted;
  }
  said_grows (command.Expire moment) own answer from to order within f = record {
    kills = f.kills;
    ends = f.ends;
    is = f.is;
    all = f.all;
    killed = f.killed;
    ended = f.ended;
    no_survivor = λ id lived. f.no_survivor id (lived_shrinks _ from to id within lived);
    left = late_grows moment from to order within f.left;
  }

  pub answer_grows : (mark : ℕ) (asked : Command) (own : List Note) (answer : Said) (from to : ℕ)
      → FitsCommand log mark asked own answer from to → FitsCommand longer mark asked own answer from to
  answer_grows mark asked own answer from to f = record {
    later = f.later;
    order = f.order;
    within = (states longer log to starts f.within).0;
    events = happened_grows from to own f.events;
    fits = said_grows asked own answer from to f.order f.within f.fits;
  }
