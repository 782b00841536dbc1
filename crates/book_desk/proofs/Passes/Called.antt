-- What a turn leaves of its pass.
use Rattle.std.proofs.Common.{◌≡◌, ℕ, ◌+◌, ◌<◌, ◌≤◌, true, false, List, [], ◌∷◌, length, refl, ap, subst, ◌∙◌, ⊎_elim, arith, Option, Some, None, length-append}
use Rattle.std.specs.List.{AllByRecursion, slice_get}
use Rattle.std.specs.Prelude.{◌==◌}
use Rattle.std.proofs.lemmas.Bool.{cases_lt}
use Rattle.std.proofs.lemmas.List.Elements.{All-from_recursion, recursion_from_All}
use Rattle.history_book.specs.declared.desk.Hold.{Hold}
use Rattle.history_book.specs.declared.event.Event.{Event}
use Rattle.history_book.specs.declared.event.Note.{Note}
use Rattle.history_book.specs.declared.sizes.Sizes.{Sizes}
use Rattle.history_book.specs.History.{is_legal}
use Rattle.history_book.specs.Held.{is_owed}
use Rattle.history_book.specs.Point.{StartsWith}
use Rattle.history_book.specs.Sight.{AreEventsOf, IsForEntryOf, IsKnown}
use Rattle.book_desk.specs.declared.book.Book.{Book}
use Rattle.book_desk.specs.declared.turn.change.Ending.{Ending}
use Rattle.book_desk.specs.declared.turn.view.TurnView.{TurnView}
use Rattle.book_desk.specs.Fields.{IsBook}
use Rattle.book_desk.specs.Made.{with_made, noted}
use Rattle.book_desk.specs.Uses.{tally}
use Rattle.book_desk.specs.Internal.Book.{spare_before}
use Rattle.book_desk.specs.Internal.Seated.{pass_sight}
use Rattle.book_desk.specs.Turn.Change.{IsRightChange, held_after, owed_after}
use Rattle.book_desk.specs.Turn.Steps.{CanEnd, HasTurn, ended, turned}
use Rattle.book_desk.specs.Turn.Sums.{total}
use Rattle.book_desk.proofs.Counting.{all_below, apart_once, each_counted}
use Rattle.book_desk.proofs.Histories.{get_append}
use Rattle.book_desk.proofs.Lists.{each_map, each_two, none_of}
use Rattle.book_desk.proofs.Plain.{longer}
use Rattle.book_desk.proofs.Pool.{place_below}
use Rattle.book_desk.proofs.References.{pairs_agree}
use Rattle.book_desk.proofs.Passes.Among.{Among, CanChange, agree_among, each_hold_among, each_place_among, few_after, held_balance, none_among, owed_balance, tally_among}
use Rattle.book_desk.proofs.Passes.Ended.{alone_on, events_on, own_on, ordered_on}

-- events of the first part of a history are events of it
pub events_later : (log front : List Event) (notes : List Note) → StartsWith log front → AreEventsOf front notes → AreEventsOf log notes
events_later log front notes (rest, same) h =
    All-from_recursion (λ (n : Note). slice_get log n.number ≡ Some n.event) notes
    (each_map (λ (n : Note). slice_get front n.number ≡ Some n.event) (λ (n : Note). slice_get log n.number ≡ Some n.event) notes
    (λ n at. ap (λ l. slice_get l n.number) same ∙ get_append front rest n.number n.event at)
    (recursion_from_All (λ (n : Note). slice_get front n.number ≡ Some n.event) notes h))

longer_log : (log : List Event) (made : Option Event) (spare less : ℕ) → spare ≡ spare_before less made
    → length (with_made log made) + less ≡ length log + spare
longer_log log None spare less is = omega (arith, is)
longer_log log (Some e) spare less is = omega (arith, is, length-append log (e ∷ []))

-- a call in its turn: what it did to the book, and to the pass's places and events
pub record IsCall (tracker : List ℕ) (v : TurnView) (log : List Event) (b b' : Book) (e : Ending) (notes : List Note) (spare taken : ℕ) : Type 0 where
  pub has : HasTurn v log b
  pub some_shares : 0 < v.shares
  pub known : IsKnown (pass_sight tracker v notes spare taken)
  pub own : notes ≡ v.own
  pub book : IsBook (with_made log e.made) b'
  pub sizes : b'.sizes ≡ b.sizes
  pub held : b'.holds.items ≡ held_after e.places b.holds.items
  pub owed : b'.owed.items ≡ owed_after e.places b.owed.items
  pub can : CanChange e.places v.held v.owed
  pub right : IsRightChange e.places b.free.items b'

module _ (tracker : List ℕ) (v : TurnView) (log : List Event) (b b' : Book) (e : Ending) (notes : List Note) (spare taken less : ℕ)
    (c : IsCall tracker v log b b' e notes spare taken) (room : spare ≡ spare_before less e.made) where
  pub can_end : CanEnd e (turned v log b) b'
  can_end = record {
    some = c.some_shares;
    turn = refl;
    book = c.book;
    sizes = c.sizes ∙ c.has.sizes;
    held = λ weight. omega (
      arith,
      ap (total weight) c.held,
      held_balance e.places v.held b.holds.items v.owed c.has.book.references.agreed c.has.held c.can weight,
    );
    owed = λ weight. omega (arith, ap (total weight) c.owed, owed_balance e.places v.held v.owed b.owed.items c.has.owed c.can weight);
    right = c.right;
    few = few_after e.places v.held v.owed c.known.places c.can;
    own_few = omega (arith, longer v.own (length log) e.made spare less room, ap length c.own, c.known.spared);
  }

  -- what the pass keeps then is among what the book has then
  pub held_among : Among (held_after e.places v.held) b'.holds.items
  held_among weight = omega (arith, can_end.held weight, c.has.held weight)

  pub owed_among : Among (owed_after e.places v.owed) b'.owed.items
  owed_among weight = omega (arith, can_end.owed weight, c.has.owed weight)

  passes : v.sizes.passes ≤ 64
  passes = omega (arith, c.has.book.limits.passes, ap (λ (z : Sizes). z.passes) c.has.sizes)

  entries : b'.sizes.entries ≡ v.sizes.entries
  entries = ap (λ (z : Sizes). z.entries) (c.sizes ∙ c.has.sizes)

  held_there : AllByRecursion (λ (k : Hold). k.place < v.sizes.entries) b'.holds.items
  held_there = each_map (λ (k : Hold). k.place < b'.sizes.entries) (λ (k : Hold). k.place < v.sizes.entries) b'.holds.items
      (λ k low. omega (arith, low, entries))
      (all_below (λ (k : Hold). k.place) b'.sizes.entries b'.holds.items (λ p above. omega (arith, c.book.places.beyond p above)))

  owed_there : AllByRecursion (λ p. p < v.sizes.entries) b'.owed.items
  owed_there = each_map (λ p. p < b'.sizes.entries) (λ p. p < v.sizes.entries) b'.owed.items (λ p low. omega (arith, low, entries))
      (all_below (λ p. p) b'.sizes.entries b'.owed.items (λ p above. omega (arith, c.book.places.beyond p above)))

  unowed_there : AllByRecursion (λ (k : Hold). is_owed k.place b'.owed.items ≡ false) b'.holds.items
  unowed_there = each_counted (λ (k : Hold). k.place) (λ p. is_owed p b'.owed.items ≡ false) b'.holds.items (λ p some_there.
      none_of (λ q. q == p) b'.owed.items (omega (
        arith,
        some_there,
        c.book.places.once p
            (place_below b'.sizes.entries b'.records.items b'.holds.items b'.free.items b'.owed.items p c.book.places (omega (arith, some_there))),
      )))

  -- however often it took a place
  pub known_after : (now : ℕ) → IsKnown (pass_sight tracker (ended e (turned v log b)) (noted notes (length log) e.made) less now)
  known_after now =
      let held : List Hold = held_after e.places v.held in
      let owed : List ℕ = owed_after e.places v.owed in
      let own_there : AreEventsOf log notes = events_later log v.front notes c.has.all.front c.known.own in
      record {
        legal = subst (λ (z : Sizes). is_legal z (with_made log e.made) ≡ true) (c.sizes ∙ c.has.sizes) c.book.history.legal;
        few = omega (arith, c.has.all.few, passes, longer_log log e.made spare less room, c.known.spared, ap length c.own);
        own = own_on log e.made notes own_there;
        ordered = ordered_on log e.made notes own_there c.known.ordered;
        held = All-from_recursion (λ (k : Hold). (k.place < v.sizes.entries) × IsForEntryOf (with_made log e.made) k.place k.id) held
            (each_hold_among (λ (k : Hold). (k.place < v.sizes.entries) × IsForEntryOf (with_made log e.made) k.place k.id) held b'.holds.items held_among
            (each_two (λ (k : Hold). k.place < v.sizes.entries) (λ (k : Hold). IsForEntryOf (with_made log e.made) k.place k.id)
            (λ (k : Hold). (k.place < v.sizes.entries) × IsForEntryOf (with_made log e.made) k.place k.id) b'.holds.items
            (λ k low entry. (low, entry)) held_there c.book.references.confirmed));
        agreed = pairs_agree held (agree_among held b'.holds.items c.book.references.agreed held_among);
        owed = All-from_recursion (λ p. p < v.sizes.entries) owed (each_place_among (λ p. p < v.sizes.entries) owed b'.owed.items owed_among owed_there);
        unowed = All-from_recursion (λ (k : Hold). is_owed k.place owed ≡ false) held
            (each_hold_among (λ (k : Hold). is_owed k.place owed ≡ false) held b'.holds.items held_among
            (each_map (λ (k : Hold). is_owed k.place b'.owed.items ≡ false) (λ (k : Hold). is_owed k.place owed ≡ false) b'.holds.items
            (λ k none. none_among (λ q. q == k.place) owed b'.owed.items owed_among none) unowed_there));
        once = apart_once owed (λ p. omega (
          arith,
          tally_among (λ q. q == p) owed b'.owed.items owed_among,
          ⊎_elim (λ (low : p < b'.sizes.entries). owed_once p low) (λ (high : b'.sizes.entries ≤ p). owed_none p high) (cases_lt p b'.sizes.entries),
        ));
        places = can_end.few;
        spared = omega (arith, longer notes (length log) e.made spare less room, c.known.spared);
        shared = c.known.shared;
        passes = c.known.passes;
        gathered = events_on log e.made v.gathered (events_later log v.front v.gathered c.has.all.front c.known.gathered);
        gathered_few = c.known.gathered_few;
        alone = λ one. alone_on log e.made notes (c.own ∙ c.has.all.alone one);
      }
    where
      owed_once : (p : ℕ) → p < b'.sizes.entries → tally (λ q. q == p) b'.owed.items ≤ 1
      owed_once p low = omega (arith, c.book.places.once p low)

      owed_none : (p : ℕ) → b'.sizes.entries ≤ p → tally (λ q. q == p) b'.owed.items ≤ 1
      owed_none p high = omega (arith, c.book.places.beyond p high)
