-- A call in its turn, by the fields of its desk.
use Rattle.std.proofs.Common.{◌≡◌, ℕ, ◌+◌, ◌^◌, ◌<◌, ◌≤◌, true, List, [], ◌∷◌, length, refl, sym, ap, subst, ◌∙◌, ⊎_elim, arith, Option, Some, None}
use Rattle.std.specs.List.{slice_get}
use Rattle.std.specs.Prelude.{◌&&◌, OnSome, is_some}
use Rattle.std.proofs.lemmas.Bool.{and_parts, false≢true, or_cases, or_left, or_right}
use Rattle.atomic_table.specs.Table.{Me}
use Rattle.tuple_core.specs.declared.Segment.{Segment}
use Rattle.history_book.specs.declared.event.Event.{Event}
use Rattle.history_book.specs.declared.event.Why.{Why}
use Rattle.history_book.specs.declared.event.Why.TheVariants as why
use Rattle.history_book.specs.declared.desk.Hold.{Hold}
use Rattle.history_book.specs.declared.outcome.ConfirmOutcome.{ConfirmOutcome}
use Rattle.history_book.specs.declared.outcome.ConfirmOutcome.TheVariants as confirm
use Rattle.history_book.specs.declared.outcome.ReleaseOutcome.{ReleaseOutcome}
use Rattle.history_book.specs.declared.outcome.ReleaseOutcome.TheVariants as release
use Rattle.history_book.specs.declared.record.Record.{Record}
use Rattle.history_book.specs.Held.{is_at, is_held, is_held_for_entry, is_taken}
use Rattle.history_book.specs.declared.outcome.FindOutcome.{FindOutcome}
use Rattle.history_book.specs.declared.outcome.FindOutcome.TheVariants as find
use Rattle.history_book.specs.declared.outcome.HoldOutcome.{HoldOutcome}
use Rattle.history_book.specs.declared.outcome.HoldOutcome.TheVariants as hold
use Rattle.history_book.specs.declared.outcome.TakeOutcome.{TakeOutcome}
use Rattle.history_book.specs.declared.outcome.TakeOutcome.TheVariants as take
use Rattle.history_book.specs.Entry.{confirmed_by, is_helped_entry, is_of_entry, is_of_record, suits_entry}
use Rattle.history_book.specs.Legality.{has_helper}
use Rattle.history_book.specs.Point.{StartsWith}
use Rattle.history_book.specs.Sight.{IsKnown, Sight}
use Rattle.book_desk.specs.declared.book.Book.{Book}
use Rattle.book_desk.specs.declared.turn.change.Ending.{Ending}
use Rattle.book_desk.specs.declared.turn.change.PlaceChange.{PlaceChange}
use Rattle.book_desk.specs.declared.turn.pass.TurnPass.{TurnPass}
use Rattle.book_desk.specs.declared.turn.view.TurnView.{TurnView}
use Rattle.book_desk.specs.Fields.{IsBook}
use Rattle.book_desk.specs.Made.{with_made, noted}
use Rattle.book_desk.specs.Internal.Book.{spare_after, spare_before}
use Rattle.book_desk.specs.Internal.Seated.{IsSeated, numbers_of, pass_sight, sight_at}
use Rattle.book_desk.specs.Turn.Change.{IsRightChange, confirmed_change, found_change, held_after, held_change, owed_after, released_change, taken_change}
use Rattle.book_desk.specs.Turn.Rule.{IsTable}
use Rattle.book_desk.specs.Turn.Steps.{CanEnd, HasTurn, ended, turned}
use Rattle.book_desk.proofs.Histories.{get_append}
use Rattle.book_desk.proofs.Plain.{longer}
use Rattle.book_desk.proofs.Passes.Among.{Among, CanChange}
use Rattle.book_desk.proofs.Passes.Answers.{before, behind}
use Rattle.book_desk.proofs.Passes.Called.{IsCall, can_end, held_among, known_after, owed_among}

-- what a call did in its turn, and what its desk was before
pub record IsTurn (p : TurnPass) (me : Me (Option Book) TurnView) (b b' : Book) (places : PlaceChange) (made : Option Event) (less : ℕ) : Type 0 where
  pub seated : IsSeated p
  pub log : List Event
  pub has : HasTurn p.seat.me.0 log b
  pub same : me ≡ (turned p.seat.me.0 log b, (0, None) ∷ [])
  pub book : IsBook (with_made log made) b'
  pub sizes : b'.sizes ≡ b.sizes
  pub held : b'.holds.items ≡ held_after places b.holds.items
  pub owed : b'.owed.items ≡ owed_after places b.owed.items
  pub can : CanChange places p.seat.me.0.held p.seat.me.0.owed
  pub right : IsRightChange places b.free.items b'
  pub room : p.spare ≡ spare_before less made

module _ (p : TurnPass) (me : Me (Option Book) TurnView) (b b' : Book) (places : PlaceChange) (made : Option Event) (less : ℕ)
    (t : IsTurn p me b b' places made less) where
  abbrev ending : Ending
  ending = record { places = places; made = made }

  call : IsCall (numbers_of p.seat.table_id) p.seat.me.0 t.log b b' ending p.notes.items p.spare p.taken
  call = record {
    has = t.has;
    some_shares = omega (arith, t.seated.knows.shared);
    known = t.seated.knows;
    own = t.seated.own;
    book = t.book;
    sizes = t.sizes;
    held = t.held;
    owed = t.owed;
    can = t.can;
    right = t.right;
  }

  -- the turn may end so
  pub turn_ends : (q : PlaceChange) → q ≡ places → CanEnd (record { places = q; made = made }) me.0 b'
  turn_ends q is =
      subst (λ (x : PlaceChange). CanEnd (record { places = x; made = made }) me.0 b') (sym is)
      (subst (λ (m : Me (Option Book) TurnView). CanEnd ending m.0 b') (sym t.same)
      (can_end (numbers_of p.seat.table_id) p.seat.me.0 t.log b b' ending p.notes.items p.spare p.taken less call t.room))

  -- there are few events then
  pub turn_few : b'.events < 2 ^ 40
  turn_few =
      let k = known_after (numbers_of p.seat.table_id) p.seat.me.0 t.log b b' ending p.notes.items p.spare p.taken less call t.room p.taken in
      omega (arith, k.few, t.book.events)

-- the desk after the turn
pub record IsAfter (p : TurnPass) (me : Me (Option Book) TurnView) (places q : PlaceChange) (made : Option Event) (less : ℕ) (new : TurnPass) : Type 0 where
  pub change : q ≡ places
  pub table : new.seat.table_id ≡ p.seat.table_id
  pub ended : new.seat.me ≡ (ended (record { places = q; made = made }) me.0, [])
  pub sizes : new.sizes ≡ p.sizes
  pub notes : new.notes.items ≡ noted p.notes.items (length me.0.front) made
  pub room : new.notes.room ≡ p.notes.room
  pub spare : new.spare ≡ less

module _ (p : TurnPass) (me : Me (Option Book) TurnView) (b b' : Book) (places q : PlaceChange) (made : Option Event) (less : ℕ) (new : TurnPass)
    (t : IsTurn p me b b' places made less) (a : IsAfter p me places q made less new) where
  abbrev end_of : Ending
  end_of = record { places = places; made = made }

  -- what the pass knows then
  knows_then : new.seat.me ≡ (ended end_of (turned p.seat.me.0 t.log b), [])
  knows_then =
      let last : Ending → Me (Option Book) TurnView → Me (Option Book) TurnView = λ e m. (ended e m.0, []) in
      a.ended ∙ ap (λ (x : PlaceChange). last (record { places = x; made = made }) me) a.change ∙ ap (last end_of) t.same

  notes_then : new.notes.items ≡ noted p.notes.items (length t.log) made
  notes_then = a.notes ∙ ap (λ (m : Me (Option Book) TurnView). noted p.notes.items (length m.0.front) made) t.same

  pub sight_then : sight_at new ≡ behind (numbers_of p.seat.table_id) p.seat.me.0 t.log b b' made p.notes.items less t.has new.taken places
  sight_then =
      ap (λ tr. pass_sight (numbers_of tr) new.seat.me.0 new.notes.items new.spare new.taken) a.table
      ∙ ap (λ (m : Me (Option Book) TurnView). pass_sight (numbers_of p.seat.table_id) m.0 new.notes.items new.spare new.taken) knows_then
      ∙ ap (λ ns. pass_sight (numbers_of p.seat.table_id) (ended end_of (turned p.seat.me.0 t.log b)) ns new.spare new.taken) notes_then
      ∙ ap (λ (k : ℕ). pass_sight (numbers_of p.seat.table_id) (ended end_of (turned p.seat.me.0 t.log b)) (noted p.notes.items (length t.log) made) k new.taken) a.spare

  pub sight_first : before (numbers_of p.seat.table_id) p.seat.me.0 t.log b b' made p.notes.items less t.has p.taken ≡ sight_at p
  sight_first = ap (λ (k : ℕ). pass_sight (numbers_of p.seat.table_id) p.seat.me.0 p.notes.items k p.taken) (sym t.room)

  -- the desk is right after it
  pub seated_then : IsSeated new
  seated_then =
      let view : new.seat.me.0 ≡ ended end_of (turned p.seat.me.0 t.log b) = ap (λ (m : Me (Option Book) TurnView). m.0) knows_then in
      record {
        table = subst IsTable (sym a.table) t.seated.table;
        away = ap (λ (m : Me (Option Book) TurnView). m.1) knows_then;
        turn = ap (λ (v : TurnView). v.turn) view;
        sizes = a.sizes ∙ t.seated.sizes ∙ sym (ap (λ (v : TurnView). v.sizes) view);
        own = notes_then ∙ ap (λ ns. noted ns (length t.log) made) t.seated.own ∙ sym (ap (λ (v : TurnView). v.own) view);
        room = omega (
          arith,
          t.seated.room,
          a.room,
          a.spare,
          ap length a.notes,
          longer p.notes.items (length me.0.front) made p.spare less t.room,
        );
        knows = subst IsKnown (sym sight_then)
            (known_after (numbers_of p.seat.table_id) p.seat.me.0 t.log b b' end_of p.notes.items p.spare p.taken less
            (call p me b b' places made less t) t.room new.taken);
      }

  -- what is told of the pass is told of the desk, which took a place so many times
  pub told : (taken : ℕ) → new.taken ≡ taken → (Says : Sight → Sight → Type 0)
      → Says (before (numbers_of p.seat.table_id) p.seat.me.0 t.log b b' made p.notes.items less t.has p.taken)
      (behind (numbers_of p.seat.table_id) p.seat.me.0 t.log b b' made p.notes.items less t.has taken places)
      → Says (sight_at p) (sight_at new)
  told taken is Says says =
      subst (Says (sight_at p)) (sym sight_then)
      (subst (λ (k : ℕ). Says (sight_at p) (behind (numbers_of p.seat.table_id) p.seat.me.0 t.log b b' made p.notes.items less t.has k places)) (sym is)
      (subst (λ (s : Sight). Says s (behind (numbers_of p.seat.table_id) p.seat.me.0 t.log b b' made p.notes.items less t.has taken places)) sight_first says))

  -- what the pass keeps then is among what the book has then
  pub held_then : Among (held_after places p.seat.me.0.held) b'.holds.items
  held_then = held_among (numbers_of p.seat.table_id) p.seat.me.0 t.log b b' end_of p.notes.items p.spare p.taken less (call p me b b' places made less t) t.room

  pub owed_then : Among (owed_after places p.seat.me.0.owed) b'.owed.items
  owed_then = owed_among (numbers_of p.seat.table_id) p.seat.me.0 t.log b b' end_of p.notes.items p.spare p.taken less (call p me b b' places made less t) t.room

-- where there is room for one event, there is for the one that a call made
pub room_for : (spare : ℕ) (made : Option Event) → 1 ≤ spare → spare ≡ spare_before (spare_after spare made) made
room_for spare None some = refl
room_for spare (Some e) some = omega (arith, some)

pub some_room : (spare : ℕ) (made : Option Event) → 1 ≤ spare → OnSome made (1 ≤ spare)
some_room spare None some = tt
some_room spare (Some e) some = some

-- an answer that adds a reference has room for it
pub can_find : (o : FindOutcome) (held : List Hold) (owed : List ℕ) → length held + length owed ≤ 3 → CanChange (found_change o) held owed
can_find (find.Found place id direction at) held owed few = few
can_find (find.Absent at) held owed few = tt

pub can_hold : (place : ℕ) (o : HoldOutcome) (held : List Hold) (owed : List ℕ) → length held + length owed ≤ 3 → CanChange (held_change place o) held owed
can_hold place (hold.Held id at) held owed few = few
can_hold place (hold.Empty at) held owed few = tt

pub can_take : (o : TakeOutcome) (held : List Hold) (owed : List ℕ) → length held + length owed ≤ 3 → CanChange (taken_change o) held owed
can_take (take.Taken place) held owed few = few
can_take (take.Full at) held owed few = tt

pub can_confirm : (place : ℕ) (o : ConfirmOutcome) (held : List Hold) (owed : List ℕ) → is_taken place held ≡ true → CanChange (confirmed_change place o) held owed
can_confirm place (confirm.Confirmed id) held owed taken = taken
can_confirm place (confirm.Clash id direction both at) held owed taken = tt

pub can_release : (place : ℕ) (o : ReleaseOutcome) (held : List Hold) (owed : List ℕ) → is_held place held ≡ true → CanChange (released_change place o) held owed
can_release place release.Kept held owed there = there
can_release place release.Last held owed there = there

-- a place that is held for an entry is held
pub held_at_all : (place : ℕ) (held : List Hold) → is_held_for_entry place held ≡ true → is_held place held ≡ true
held_at_all place [] some = absurd (false≢true some)
held_at_all place (h ∷ hs) some =
    ⊎_elim
    (λ e. or_left (is_at place h) (is_held place hs) (and_parts (is_at place h) (is_some h.id) e).0)
    (λ e. or_right (is_at place h) (is_held place hs) (held_at_all place hs e))
    (or_cases (is_at place h && is_some h.id) (is_held_for_entry place hs) some)

-- what was so of the Confirm of an entry is so as the history goes on
confirmed_on : (Q : Option Record → Type 0) (log front : List Event) (id : ℕ) (o : Option Event) → (Q None → ⊥) → StartsWith log front → slice_get front id ≡ o
    → Q (confirmed_by o) → Q (confirmed_by (slice_get log id))
confirmed_on Q log front id None none starts at q = absurd (none q)
confirmed_on Q log front id (Some e) none (rest, same) at q =
    subst (λ (x : Option Event). Q (confirmed_by x)) (sym (ap (λ l. slice_get l id) same ∙ get_append front rest id e at)) q

pub of_entry_on : (segment : Segment) (log front : List Event) (id : ℕ) → StartsWith log front → is_of_entry segment id front ≡ true → is_of_entry segment id log ≡ true
of_entry_on segment log front id starts h =
    confirmed_on (λ r. is_of_record segment r ≡ true) log front id (slice_get front id) false≢true starts refl h

pub helped_on : (log front : List Event) (id : ℕ) → StartsWith log front → is_helped_entry id front ≡ true → is_helped_entry id log ≡ true
helped_on log front id starts h = confirmed_on (λ r. has_helper r ≡ true) log front id (slice_get front id) false≢true starts refl h

pub suits_on : (w : Why) (log front : List Event) (id : ℕ) → StartsWith log front → suits_entry w id front ≡ true → suits_entry w id log ≡ true
suits_on (why.Expired moment) log front id starts h = refl
suits_on (why.Reopened direction segment moment) log front id starts h = of_entry_on segment log front id starts h
suits_on (why.Reset segment moment) log front id starts h = of_entry_on segment log front id starts h
suits_on (why.Deleted filter) log front id starts h = refl
suits_on why.Flushed log front id starts h = refl
suits_on (why.Dropped moment) log front id starts h = refl
