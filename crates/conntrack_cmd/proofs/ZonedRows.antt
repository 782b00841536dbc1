-- A command for one zone names entries of that zone alone.
use Rattle.std.proofs.Common.{◌≡◌, ◌∙◌, ℕ, ◌<◌, true, List, [], ◌∷◌, length, Option, Some, slice_get, sym, subst, ap}
use Rattle.std.proofs.lemmas.Bool.{and_parts, eqb-true}
use Rattle.std.proofs.lemmas.List.Elements.{All-from_recursion}
use Rattle.std.proofs.lemmas.List.Sorted.{All-permutation}
use Rattle.std.specs.List.{All, AllByRecursion}
use Rattle.history_book.specs.declared.answer.Row.{Row}
use Rattle.history_book.specs.declared.answer.Said.{Said}
use Rattle.history_book.specs.declared.event.Event.{Event}
use Rattle.history_book.specs.declared.event.Event.TheVariants.{Destroy}
use Rattle.history_book.specs.declared.event.Note.{Note}
use Rattle.history_book.specs.declared.event.Why.TheVariants.{Deleted}
use Rattle.history_book.specs.declared.filter.Filter.{Filter}
use Rattle.history_book.specs.declared.record.Record.{Record}
use Rattle.history_book.specs.declared.sizes.Sizes.{Sizes}
use Rattle.history_book.specs.Filter.{is_number, selects}
use Rattle.history_book.specs.History.{after, is_legal}
use Rattle.history_book.specs.Laws.{EventsMayHappen}
use Rattle.history_book.specs.Legality.{may_destroy, may_happen}
use Rattle.history_book.specs.Notes.{Happened}
use Rattle.history_book.specs.State.{record_of}
use Rattle.history_book.specs.ZoneLaws.{OtherZonesStay}
use Rattle.history_book.specs.Zones.{event_zone, zone_of_live}
use Rattle.history_book.specs.declared.answer.Answer.{Answer}
use Rattle.history_book.specs.Sight.{IsKnown, Sight}
use Rattle.conntrack_cmd.specs.declared.command.Command.{Command}
use Rattle.conntrack_cmd.specs.declared.command.Command.TheVariants as command
use Rattle.conntrack_cmd.specs.Performed.{Performed}
use Rattle.pool_visits.specs.Row.{IsDestroyed, IsRow}
use Rattle.conntrack_cmd.specs.Answer.{AreDestroyed}
use Rattle.conntrack_cmd.specs.Laws.{DestroysInZone, IsRowOfZone, NamesItsZone, ZonedDeletesNameTheirZone, ZonedDeletesLeaveOtherZones, ZonedListsNameTheirZone, rows_said}

has_zone : (filter : Filter) (zone : ℕ) (r : Record) → filter.zone ≡ Some zone → selects filter r ≡ true → r.original.zone ≡ zone
has_zone filter zone r named is =
    let last : is_number filter.zone r.original.zone ≡ true = (and_parts _ (is_number filter.zone r.original.zone) is).1 in
    sym (eqb-true zone r.original.zone (subst (λ (z : Option ℕ). is_number z r.original.zone ≡ true) named last))

rows_named : (log : List Event) (filter : Filter) (zone : ℕ) (from to : ℕ) (rows : List Row) → filter.zone ≡ Some zone
    → AllByRecursion (IsRow log filter from to) rows → AllByRecursion (IsRowOfZone zone) rows
rows_named log filter zone from to [] named are = tt
rows_named log filter zone from to (row ∷ rows) named (is, are) =
    (has_zone filter zone row.subject named is.selects, rows_named log filter zone from to rows named are)

pub lists : ZonedListsNameTheirZone
lists log mark filter zone own answer from to named fits =
    let listed = fits.fits in
    subst (λ (a : Said). All (IsRowOfZone zone) (rows_said a)) (sym listed.is)
    (All-from_recursion (IsRowOfZone zone) listed.rows.items (rows_named log filter zone from to listed.rows.items named listed.each))

some_same : (x y : ℕ) → Some x ≡ Some y → x ≡ y
some_same x y e = cc

module _ (may : EventsMayHappen) (sizes : Sizes) (log : List Event) (legal : is_legal sizes log ≡ true) (filter : Filter) (zone : ℕ) (named : filter.zone ≡ Some zone) where
  was_live : (note : Note) (row : Row) → IsDestroyed log (Deleted filter) note row → record_of row.subject.id (after log note.number) ≡ Some row.subject
  was_live note row is = subst (λ (n : ℕ). record_of row.subject.id (after log n) ≡ Some row.subject) is.number is.found.fact

  row_named : (mark : ℕ) (note : Note) (row : Row) → Happened log mark note → IsDestroyed log (Deleted filter) note row → IsRowOfZone zone row
  row_named mark note row happened is =
      let event : slice_get log note.number ≡ Some (Destroy row.subject.id (Deleted filter)) = happened.event ∙ ap (λ (e : Event). Some e) is.event in
      let lawful : may_happen sizes (after log note.number) note.number (Destroy row.subject.id (Deleted filter)) ≡ true = may sizes log note.number _ legal event in
      has_zone filter zone row.subject named (subst (λ (r : Option Record). may_destroy r (Deleted filter) ≡ true) (was_live note row is) lawful)

  destroyed : OtherZonesStay → (mark : ℕ) (note : Note) (row : Row) → Happened log mark note → IsDestroyed log (Deleted filter) note row → DestroysInZone log zone filter note
  destroyed stay mark note row happened is = record {
    subject = row.subject;
    event = is.event;
    live = was_live note row is;
    in_zone = row_named mark note row happened is;
    apart = λ other differs.
        stay sizes log note.number note.number other note.event legal (may sizes log note.number note.event legal happened.event)
        (λ same. differs (some_same other zone (sym same ∙ ap (event_zone (after log note.number)) is.event
        ∙ ap zone_of_live (was_live note row is) ∙ ap (λ (z : ℕ). Some z) (row_named mark note row happened is))));
  }

  all_destroyed : OtherZonesStay → (mark to : ℕ) (notes : List Note) (rows : List Row) → AllByRecursion (λ n. Happened log mark n × (n.number < to)) notes
      → AreDestroyed log (Deleted filter) notes rows → AllByRecursion (DestroysInZone log zone filter) notes
  all_destroyed stay mark to [] [] happened are = tt
  all_destroyed stay mark to [] (row ∷ rows) happened are = absurd are
  all_destroyed stay mark to (note ∷ notes) [] happened are = absurd are
  all_destroyed stay mark to (note ∷ notes) (row ∷ rows) ((first, low), happened) (is, are) =
      (destroyed stay mark note row first is, all_destroyed stay mark to notes rows happened are)

  all_rows : (mark to : ℕ) (notes : List Note) (rows : List Row) → AllByRecursion (λ n. Happened log mark n × (n.number < to)) notes
      → AreDestroyed log (Deleted filter) notes rows → AllByRecursion (IsRowOfZone zone) rows
  all_rows mark to [] [] happened are = tt
  all_rows mark to [] (row ∷ rows) happened are = absurd are
  all_rows mark to (note ∷ notes) [] happened are = absurd are
  all_rows mark to (note ∷ notes) (row ∷ rows) ((first, low), happened) (is, are) =
      (row_named mark note row first is, all_rows mark to notes rows happened are)

pub deletes : EventsMayHappen → ZonedDeletesNameTheirZone
deletes may sizes log mark filter zone own answer from to legal named fits =
    let deleted = fits.fits in
    subst (λ (a : Said). All (IsRowOfZone zone) (rows_said a)) (sym deleted.is)
    (All-permutation (IsRowOfZone zone) deleted.found deleted.rows.items deleted.same
    (All-from_recursion (IsRowOfZone zone) deleted.found (all_rows may sizes log legal filter zone named from to own deleted.found fits.events deleted.each)))

pub stays : EventsMayHappen → OtherZonesStay → ZonedDeletesLeaveOtherZones
stays may stay sizes log mark filter zone own answer from to legal named fits =
    all_destroyed may sizes log legal filter zone named stay from to own fits.fits.found fits.events fits.fits.each

-- so an answer that was performed names its command's zone
pub names_its_zone : EventsMayHappen → (asked : Command) (moment : ℕ) (old new : Sight) (answer : Answer) → IsKnown new
    → Performed asked moment old new answer → NamesItsZone asked answer
names_its_zone may (command.List filter) moment old new answer known p = λ zone named.
    lists new.front (length old.front) filter zone p.own answer.said answer.from answer.to named p.fits
names_its_zone may command.ListExpect moment old new answer known p = λ zone none. absurd (cc none)
names_its_zone may (command.Get tuple) moment old new answer known p = λ zone none. absurd (cc none)
names_its_zone may (command.Delete filter) moment old new answer known p = λ zone named.
    deletes may new.sizes new.front (length old.front) filter zone p.own answer.said answer.from answer.to known.legal named p.fits
names_its_zone may command.Flush moment old new answer known p = λ zone none. absurd (cc none)
names_its_zone may command.Count moment old new answer known p = λ zone none. absurd (cc none)
names_its_zone may (command.Expire at) moment old new answer known p = λ zone none. absurd (cc none)
