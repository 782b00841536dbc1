-- Desks that are joined, and the end of a tracker.
use Rattle.std.proofs.Common.{◌≡◌, ℕ, Bool, cond, ◌+◌, ◌≤◌, true, List, [], ◌∷◌, ◌++◌, length, refl, sym, ap, subst, ◌∙◌, arith, Option, Some, length-append, map}
use Rattle.std.specs.List.{All, count_by, slice_get}
use Rattle.std.proofs.lemmas.List.Elements.{All-append}
use Rattle.std.proofs.lemmas.List.Sums.{sum_by-cons}
use Rattle.atomic_table.specs.Table.{Me}
use Rattle.history_book.specs.declared.event.Event.{Event}
use Rattle.history_book.specs.declared.event.Note.{Note}
use Rattle.history_book.specs.declared.report.Closed.{Closed}
use Rattle.history_book.specs.declared.sizes.Sizes.{Sizes}
use Rattle.history_book.specs.Close.{Closes}
use Rattle.history_book.specs.History.{is_legal}
use Rattle.history_book.specs.Sight.{AreEventsOf, IsHoldOf, IsKnown, notes_from}
use Rattle.history_book.specs.State.{State}
use Rattle.book_desk.specs.declared.book.Book.{Book}
use Rattle.book_desk.specs.declared.turn.pass.TurnPass.{TurnPass}
use Rattle.book_desk.specs.declared.turn.view.TurnView.{TurnView}
use Rattle.book_desk.specs.Internal.Seated.{IsSeated, numbers_of, pass_sight, sight_at}
use Rattle.book_desk.specs.Turn.Rule.{IsTable}
use Rattle.book_desk.specs.Turn.Steps.{AreAll, IsLast, Looks, joined}
use Rattle.book_desk.specs.Turn.Sums.{total}
use Rattle.book_desk.proofs.Plain.{numbered, once_from}
use Rattle.book_desk.proofs.Passes.Called.{events_later}
use Rattle.book_desk.proofs.Passes.Sums.{total_append}

-- a pass that took in another one, and then saw all events
known_joined : (tracker : List ℕ) (v w : TurnView) (log : List Event) (notes others : List Note) (spare taken more other_taken now : ℕ)
    → IsKnown (pass_sight tracker v notes spare taken) → IsKnown (pass_sight tracker w others more other_taken) → notes ≡ v.own → others ≡ w.own
    → v.held ≡ [] → (all : AreAll (joined v w) log)
    → IsKnown (pass_sight tracker (record (joined v w) { front = log }) notes spare now)
known_joined tracker v w log notes others spare taken more other_taken now k l own own' none all = record {
  legal = all.legal;
  few = omega (arith, all.few, all.passes);
  own = events_later log v.front notes all.front k.own;
  ordered = k.ordered;
  held = subst (All (IsHoldOf (pass_sight tracker (record (joined v w) { front = log }) notes spare now))) (sym none) (λ i d short. absurd (omega (arith, short)));
  agreed = k.agreed;
  owed = k.owed;
  unowed = k.unowed;
  once = k.once;
  places = k.places;
  spared = k.spared;
  shared = k.shared;
  passes = all.shares;
  gathered = All-append (λ (n : Note). slice_get log n.number ≡ Some n.event) (v.gathered ++ w.own) w.gathered
      (All-append (λ (n : Note). slice_get log n.number ≡ Some n.event) v.gathered w.own
      (events_later log v.front v.gathered all.front k.gathered)
      (subst (AreEventsOf log) own' (events_later log w.front others all.told l.own)))
      (events_later log w.front w.gathered all.told l.gathered);
  gathered_few = omega (
    arith,
    length-append (v.gathered ++ w.own) w.gathered,
    length-append v.gathered w.own,
    k.gathered_few,
    l.gathered_few,
    l.spared,
    l.shared,
    ap length own',
  );
  alone = λ one. own ∙ all.alone one;
}

-- what a pass knows it knows by whatever numbers of its tracker
known_anywhere : (s t : List ℕ) (v : TurnView) (notes : List Note) (spare taken : ℕ) → IsKnown (pass_sight t v notes spare taken) → IsKnown (pass_sight s v notes spare taken)
known_anywhere s t v notes spare taken k = record {
  legal = k.legal;
  few = k.few;
  own = k.own;
  ordered = k.ordered;
  held = k.held;
  agreed = k.agreed;
  owed = k.owed;
  unowed = k.unowed;
  once = k.once;
  places = k.places;
  spared = k.spared;
  shared = k.shared;
  passes = k.passes;
  gathered = k.gathered;
  gathered_few = k.gathered_few;
  alone = k.alone;
}

-- a desk that took in another one is right
pub seated_joined : (p q new : TurnPass) (mid : Me (Option Book) TurnView) (word : ℕ) → IsSeated p → IsSeated q → p.seat.me.0.held ≡ []
    → mid ≡ (joined p.seat.me.0 q.seat.me.0, []) → Looks mid.0 new.seat.me.0 word → new.seat.me.1 ≡ [] → new.seat.table_id ≡ p.seat.table_id
    → new.sizes ≡ p.sizes → new.notes ≡ p.notes → new.spare ≡ p.spare → IsSeated new
seated_joined p q new mid word h k none is looks away table sizes notes spare =
    let v : TurnView = p.seat.me.0 in
    let w : TurnView = q.seat.me.0 in
    let first : mid.0 ≡ joined v w = ap (λ (m : Me (Option Book) TurnView). m.0) is in
    let seen : Looks (joined v w) new.seat.me.0 word = subst (λ (u : TurnView). Looks u new.seat.me.0 word) first looks in
    let log : List Event = new.seat.me.0.front in
    let view : new.seat.me.0 ≡ record (joined v w) { front = log } = seen.same in
    record {
      table = subst IsTable (sym table) h.table;
      away = away;
      turn = ap (λ (u : TurnView). u.turn) view ∙ h.turn;
      sizes = sizes ∙ h.sizes ∙ sym (ap (λ (u : TurnView). u.sizes) view);
      own = ap (λ ns. ns.items) notes ∙ h.own ∙ sym (ap (λ (u : TurnView). u.own) view);
      room = subst (λ ns. length ns.items + new.spare ≤ ns.room) (sym notes) (subst (λ (n : ℕ). length p.notes.items + n ≤ p.notes.room) (sym spare) h.room);
      knows = subst (λ ns. IsKnown (pass_sight (numbers_of new.seat.table_id) new.seat.me.0 ns.items new.spare new.taken)) (sym notes)
          (subst (λ (n : ℕ). IsKnown (pass_sight (numbers_of new.seat.table_id) new.seat.me.0 p.notes.items n new.taken)) (sym spare)
          (subst (λ (u : TurnView). IsKnown (pass_sight (numbers_of new.seat.table_id) u p.notes.items p.spare new.taken)) (sym view)
          (subst (λ t. IsKnown (pass_sight (numbers_of t) (record (joined v w) { front = log }) p.notes.items p.spare new.taken)) (sym table)
          (known_joined (numbers_of p.seat.table_id) v w log p.notes.items q.notes.items p.spare p.taken q.spare q.taken new.taken h.knows (known_anywhere (numbers_of p.seat.table_id) (numbers_of q.seat.table_id) q.seat.me.0 q.notes.items q.spare q.taken k.knows) h.own k.own none seen.all))));
    }

-- counting is a sum
count_total : (p : Note → Bool) (notes : List Note) → count_by p notes ≡ total (λ n. cond (p n) 1 0) notes
count_total p [] = refl
count_total p (n ∷ ns) = omega (arith, sum_by-cons (λ (m : Note). cond (p m) 1 0) n ns, count_total p ns)

-- notes give their events back
events_from : (k : ℕ) (es : List Event) → map (λ (n : Note). n.event) (notes_from k es) ≡ es
events_from k [] = refl
events_from k (e ∷ es) = ap (λ t. e ∷ t) (events_from (k + 1) es)

-- what the last desk leaves
pub closes_last : (p : TurnPass) (b : Book) (closed : Closed) → IsSeated p → IsLast p.seat.me.0 b → closed.events ≡ b.events
    → closed.live ≡ length b.records.items → closed.notes.items ≡ p.notes.items → Closes (sight_at p) closed
closes_last p b closed h last events live notes =
    let v : TurnView = p.seat.me.0 in
    let log : List Event = last.log in
    record {
      log = log;
      front = last.front;
      legal = subst (λ (z : Sizes). is_legal z log ≡ true) last.sizes last.book.history.legal;
      events = events ∙ last.book.events;
      live = live ∙ ap (λ (s : State). length s.records) last.book.history.state;
      notes = notes;
      all = record {
        events = All-append (λ (n : Note). slice_get log n.number ≡ Some n.event) p.notes.items v.gathered
            (subst (AreEventsOf log) (sym h.own) last.own) last.gathered;
        once = λ n low. omega (
          arith,
          count_total (numbered n) (p.notes.items ++ v.gathered),
          total_append (λ m. cond (numbered n m) 1 0) p.notes.items v.gathered,
          ap (total (λ m. cond (numbered n m) 1 0)) h.own,
          last.made (λ m. cond (numbered n m) 1 0),
          count_total (numbered n) (notes_from 0 log),
          once_from n 0 log (omega arith) (omega (arith, low)),
        );
      };
      alone = λ one.
          sym (events_from 0 log) ∙ ap (map (λ (n : Note). n.event)) (sym (last.alone one) ∙ sym h.own ∙ h.knows.alone one) ∙ events_from 0 v.front;
    }
