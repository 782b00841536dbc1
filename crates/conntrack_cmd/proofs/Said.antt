-- What is said of a sweep between two looks.
use Rattle.std.proofs.Common.{◌≡◌, ℕ, ◌+◌, ◌<◌, ◌≤◌, Bool, true, List, [], ◌∷◌, length, refl, sym, ap, subst, ◌∙◌, arith}
use Rattle.std.specs.List.{AllByRecursion}
use Rattle.std.specs.List.Sorted.{IsNonDecreasingBy, IsPermutation}
use Rattle.history_book.specs.declared.answer.Row.{Row}
use Rattle.history_book.specs.declared.answer.Said.{Said}
use Rattle.history_book.specs.declared.answer.Said.TheVariants as said
use Rattle.history_book.specs.declared.event.Event.{Event}
use Rattle.history_book.specs.declared.event.Note.{Note}
use Rattle.history_book.specs.declared.event.Why.{Why}
use Rattle.history_book.specs.declared.event.Why.TheVariants as why
use Rattle.history_book.specs.declared.filter.Filter.{Filter}
use Rattle.history_book.specs.declared.record.Record.{Record}
use Rattle.history_book.specs.declared.sizes.Sizes.{Sizes}
use Rattle.history_book.specs.SightLaws.{GoingOnAddsUp}
use Rattle.history_book.specs.WentOn.{Looked}
use Rattle.history_book.specs.Filter.{selects}
use Rattle.history_book.specs.History.{is_legal}
use Rattle.history_book.specs.Laws.{EntriesKeepTheirPlace, EventsStay, GoneEntriesStayGone, LiveRecordsAreConfirmed, PlacesAreInThePool, StatesStay}
use Rattle.history_book.specs.Notes.{Happened}
use Rattle.history_book.specs.Places.{HoldsNothing}
use Rattle.history_book.specs.Point.{StartsWith}
use Rattle.history_book.specs.Sight.{IsKnown, Sight}
use Rattle.history_book.specs.State.{State}
use Rattle.room_list.specs.Roomed.{Roomed}
use Rattle.conntrack_cmd.specs.declared.command.Command.{Command}
use Rattle.conntrack_cmd.specs.declared.command.Command.TheVariants as command
use Rattle.pool_visits.specs.Row.{IsRow}
use Rattle.conntrack_cmd.specs.Answer.{AreDestroyed, FitsCommandFrom, IsDestroyFor}
use Rattle.conntrack_cmd.specs.Internal.Loops.{IsCounting, IsDestroying, IsListing, MadeNotes}
use Rattle.conntrack_cmd.specs.Internal.Spoken.{Speaks}
use Rattle.pool_visits.specs.Laws.{AllVisitsStay, LivedHaveRows}
use Rattle.pool_visits.specs.Visit.{AreVisited}
use Rattle.conntrack_cmd.proofs.Ends.{all_have_rows, each_permuted, has_row_permuted, in_order, none_left, passes_same}
use Rattle.conntrack_cmd.proofs.Growth.{at_grows, destroyed_grow, happened_grows}
use Rattle.conntrack_cmd.proofs.Fronts.{starts_longer}
use Rattle.conntrack_cmd.proofs.Sweeps.{each_map}

-- each event destroyed an entry for the reason
pub destroyed_for : (log : List Event) (w : Why) (notes : List Note) (rows : List Row) → AreDestroyed log w notes rows
    → AllByRecursion (IsDestroyFor w) notes
destroyed_for log w [] rows h = tt
destroyed_for log w (n ∷ ns) [] h = absurd h
destroyed_for log w (n ∷ ns) (r ∷ rs) (h, hs) = ((r.subject.id, h.event), destroyed_for log w ns rs hs)

-- the visits up to some front, between two points that lie further apart
pub visited_between : AllVisitsStay → (b new : Sight) (test : Record → Bool) (entries low high from to : ℕ) (rows : List Row)
    → IsKnown b → IsKnown new → StartsWith new.front b.front → new.sizes ≡ b.sizes → entries ≡ new.sizes.entries → from ≤ low → low ≤ high
    → high ≤ length b.front → high ≤ to → AreVisited b.front test entries low high rows → AreVisited new.front test new.sizes.entries from to rows
visited_between stay b new test entries low high from to rows was known starts same all first order within last visited =
    subst (λ n. AreVisited new.front test n from to rows) all
    (stay new.sizes new.front b.front test entries low high from to rows
    (record {
      starts = starts;
      longer_legal = known.legal;
      legal = subst (λ (z : Sizes). is_legal z b.front ≡ true) (sym same) was.legal;
    })
    first order last within visited)

module _ (going : GoingOnAddsUp) (states : StatesStay) (old a b new : Sight) (from to : ℕ) (F G : State → Type 0) (first : Looked old a from F)
    (last : Looked b new to G) where
  -- events made between the two looks
  pub made_between : EventsStay → (asked : Command) (spoken : Said) (notes : List Note) → MadeNotes a b notes
      → length notes ≤ old.sizes.entries + old.sizes.expectations → HoldsNothing new
      → FitsCommandFrom new.front asked notes spoken from to → Speaks asked old new (record { said = spoken; from = from; to = to })
  made_between events asked spoken notes made few empty fits =
      let longer : length a.front ≤ length b.front = starts_longer b.front a.front made.went.front in
      record {
        own = notes;
        went = going.before old b new notes (going.after old a b notes first.saw made.went) last.saw;
        few = few;
        fits = record {
          later = first.low;
          order = omega (arith, first.fact.within, longer, last.low);
          within = last.fact.within;
          events = each_map (λ (n : Note). Happened new.front (length a.front) n × (n.number < length b.front))
              (λ (n : Note). Happened new.front from n × (n.number < to)) notes
              (λ n h. (record { event = h.0.event; later = omega (arith, h.0.later, first.fact.within) }, omega (arith, h.1, last.low)))
              (happened_grows events states new.front b.front last.saw.went.front (length a.front) (length b.front) notes made.happened);
          fits = fits;
        };
        taken = last.saw.taken ∙ made.taken ∙ first.saw.taken;
        empty = empty;
      }

  pub list_speaks : EventsStay → AllVisitsStay → LivedHaveRows → EntriesKeepTheirPlace → PlacesAreInThePool → (filter : Filter) (rows : List Row) (sorted : Roomed Row)
      → IsListing filter a b a.sizes.entries rows → IsPermutation rows sorted.items → IsNonDecreasingBy (λ r. r.subject.id) sorted.items
      → HoldsNothing new → IsKnown new
      → Speaks (command.List filter) old new (record { said = said.Listed sorted; from = from; to = to })
  list_speaks events stay have keep pool filter rows sorted l same rises empty known =
      let longer : length a.front ≤ length b.front = starts_longer b.front a.front l.saw.went.front in
      made_between events (command.List filter) (said.Listed sorted) []
      (record { went = l.saw.went; taken = l.saw.taken; happened = tt })
      (omega arith) empty
      (record {
        rows = sorted;
        is = refl;
        no_event = refl;
        order = in_order rows sorted.items same rises l.places.once;
        each = each_permuted (IsRow new.front filter from to) rows sorted.items same
            (each_map (IsRow b.front filter (length a.front) (length b.front)) (IsRow new.front filter from to) rows
            (λ r h. record {
              low = omega (arith, h.low, first.fact.within);
              high = omega (arith, h.high, last.low);
              live = at_grows states new.front b.front _ _ last.saw.went.front h.live;
              selects = h.selects;
            }) l.each);
        whole = λ id lived. has_row_permuted id rows sorted.items same
            (all_have_rows have keep pool new.sizes new.front known.legal (selects filter) from to rows
            (omega (arith, first.fact.within, longer, last.low))
            (visited_between stay b new (selects filter) a.sizes.entries (length a.front) (length b.front) from to rows l.known known last.saw.went.front
            last.saw.went.pass.sizes (ap (λ (z : Sizes). z.entries) (sym (last.saw.went.pass.sizes ∙ l.saw.went.pass.sizes))) first.fact.within longer (omega arith) last.low l.visited) id lived);
      })

  pub delete_speaks : EventsStay → AllVisitsStay → LivedHaveRows → EntriesKeepTheirPlace → PlacesAreInThePool → LiveRecordsAreConfirmed → GoneEntriesStayGone
      → (filter : Filter) (rows : List Row) (sorted : Roomed Row)
      → IsDestroying (why.Deleted filter) a b a.sizes.entries rows → IsPermutation rows sorted.items
      → IsNonDecreasingBy (λ r. r.subject.id) sorted.items → HoldsNothing new → IsKnown new
      → Speaks (command.Delete filter) old new (record { said = said.Deleted sorted; from = from; to = to })
  delete_speaks events stay have keep pool confirmed gone filter rows sorted d same rises empty known =
      let longer : length a.front ≤ length b.front = starts_longer b.front a.front d.made.went.front in
      made_between events (command.Delete filter) (said.Deleted sorted) d.notes d.made
      (omega (arith, d.as_many, d.few, ap (λ (z : Sizes). z.entries) first.saw.went.pass.sizes)) empty
      (record {
        rows = sorted;
        is = refl;
        found = rows;
        each = destroyed_grow events states new.front b.front last.saw.went.front (why.Deleted filter) d.notes rows d.each;
        same = same;
        order = in_order rows sorted.items same rises d.places.once;
        left = none_left have keep pool new.sizes new.front known.legal confirmed gone (selects filter) (passes_same filter) from to
            (visited_between stay b new (selects filter) a.sizes.entries (length a.front) (length b.front) from to [] d.known known last.saw.went.front
            last.saw.went.pass.sizes (ap (λ (z : Sizes). z.entries) (sym (last.saw.went.pass.sizes ∙ d.made.went.pass.sizes))) first.fact.within longer (omega arith) last.low d.visited);
      })

  pub flush_speaks : EventsStay → AllVisitsStay → LivedHaveRows → EntriesKeepTheirPlace → PlacesAreInThePool → LiveRecordsAreConfirmed → GoneEntriesStayGone
      → (ended : ℕ) → IsCounting why.Flushed a b a.sizes.entries ended → HoldsNothing new → IsKnown new
      → Speaks command.Flush old new (record { said = said.Flushed; from = from; to = to })
  flush_speaks events stay have keep pool confirmed gone ended c empty known =
      let d = c.destroying in
      let longer : length a.front ≤ length b.front = starts_longer b.front a.front d.made.went.front in
      made_between events command.Flush said.Flushed d.notes d.made
      (omega (arith, d.as_many, d.few, ap (λ (z : Sizes). z.entries) first.saw.went.pass.sizes)) empty
      (record {
        is = refl;
        each = destroyed_for b.front why.Flushed d.notes c.rows d.each;
        left = none_left have keep pool new.sizes new.front known.legal confirmed gone (λ r. true) (λ r s o e. refl) from to
            (visited_between stay b new (λ r. true) a.sizes.entries (length a.front) (length b.front) from to [] d.known known last.saw.went.front
            last.saw.went.pass.sizes (ap (λ (z : Sizes). z.entries) (sym (last.saw.went.pass.sizes ∙ d.made.went.pass.sizes))) first.fact.within longer (omega arith) last.low d.visited);
      })
