-- One place more.
use Rattle.std.proofs.Common.{◌≡◌, ℕ, ◌+◌, ◌<◌, ◌≤◌, Bool, true, false, cond, List, [], ◌∷◌, ◌++◌, length, refl, sym, ap, subst, ◌∙◌, arith, length-append}
use Rattle.std.specs.List.{AllByRecursion}
use Rattle.std.specs.Prelude.{◌==◌, ◌≢◌}
use Rattle.std.proofs.lemmas.Bool.{eqb-true, ne_eqb}
use Rattle.std.proofs.lemmas.List.{append-nil}
use Rattle.std.proofs.lemmas.List.Sums.{sum_by-append, sum_by-cons}
use Rattle.history_book.specs.declared.answer.Row.{Row}
use Rattle.history_book.specs.declared.event.Event.{Event}
use Rattle.history_book.specs.declared.event.Event.TheVariants.{Destroy}
use Rattle.history_book.specs.declared.event.Note.{Note}
use Rattle.history_book.specs.declared.event.Why.{Why}
use Rattle.history_book.specs.declared.filter.Filter.{Filter}
use Rattle.history_book.specs.declared.record.Record.{Record}
use Rattle.history_book.specs.declared.sizes.Sizes.{Sizes}
use Rattle.history_book.specs.SightLaws.{GoingOnAddsUp}
use Rattle.history_book.specs.WentOn.{Saw}
use Rattle.history_book.specs.Filter.{selects}
use Rattle.history_book.specs.History.{is_legal}
use Rattle.history_book.specs.Laws.{EntriesKeepTheirPlace, EventsStay, StatesStay}
use Rattle.history_book.specs.Legality.{is_reason}
use Rattle.history_book.specs.Notes.{Happened}
use Rattle.history_book.specs.Places.{HoldsNothing}
use Rattle.history_book.specs.Point.{StartsWith}
use Rattle.history_book.specs.Sight.{IsKnown, Sight, WasConfirmedIn}
use Rattle.pool_visits.specs.Laws.{VisitsAddUp}
use Rattle.pool_visits.specs.Row.{IsDestroyed, IsRow}
use Rattle.pool_visits.specs.Visit.{AreVisited, DestroysRow, LeavesPlace, Visited}
use Rattle.conntrack_cmd.specs.Answer.{AreDestroyed}
use Rattle.conntrack_cmd.specs.Internal.Loops.{AreOfPlaces, IsCounting, IsDestroying, IsListing, WasLive, times}
use Rattle.conntrack_cmd.proofs.Growth.{at_grows, destroyed_grow, happened_grows}
use Rattle.conntrack_cmd.proofs.Fronts.{starts_longer}

pub each_push : {X : Type 0} (P : X → Type 0) (xs : List X) (x : X) → AllByRecursion P xs → P x → AllByRecursion P (xs ++ x ∷ [])
each_push P [] x h p = (p, tt)
each_push P (y ∷ ys) x (h, hs) p = (h, each_push P ys x hs p)

each_last : {X : Type 0} (P : X → Type 0) (xs : List X) (x : X) → AllByRecursion P (xs ++ x ∷ []) → P x
each_last P [] x (h, tt) = h
each_last P (y ∷ ys) x (h, hs) = each_last P ys x hs

pub each_map : {X : Type 0} (P Q : X → Type 0) (xs : List X) → ((x : X) → P x → Q x) → AllByRecursion P xs → AllByRecursion Q xs
each_map P Q [] f h = tt
each_map P Q (x ∷ xs) f (h, hs) = (f x h, each_map P Q xs f hs)

times_push : (id : ℕ) (rows : List Row) (row : Row) → times id (rows ++ row ∷ []) ≡ times id rows + cond (row.subject.id == id) 1 0
times_push id rows row = omega (arith, sum_by-append (λ (r : Row). cond (r.subject.id == id) 1 0) rows (row ∷ []))

times_none : (id : ℕ) (rows : List Row) → AllByRecursion (λ (r : Row). r.subject.id ≢ id) rows → times id rows ≡ 0
times_none id [] h = refl
times_none id (r ∷ rs) (h, hs) =
    omega (arith, sum_by-cons (λ (r : Row). cond (r.subject.id == id) 1 0) r rs, ap {B = ℕ} (λ (b : Bool). cond b 1 0) (ne_eqb r.subject.id id h), times_none id rs hs)

once_push : (rows : List Row) (row : Row) → ((id : ℕ) → times id rows ≤ 1) → times row.subject.id rows ≡ 0
    → (id : ℕ) → times id (rows ++ row ∷ []) ≤ 1
once_push rows row once none id = by_same (row.subject.id == id) refl
  where
    by_same : (b : Bool) → (row.subject.id == id) ≡ b → times id (rows ++ row ∷ []) ≤ 1
    by_same true e =
        omega (arith, times_push id rows row, ap {B = ℕ} (λ (b : Bool). cond b 1 0) e, ap (λ i. times i rows) (sym (eqb-true row.subject.id id e)), none)
    by_same false e = omega (arith, times_push id rows row, ap {B = ℕ} (λ (b : Bool). cond b 1 0) e, once id)

none_below : (p : ℕ) → p < 0 → ⊥
none_below p h = omega (arith, h)

destroyed_push : (why : Why) (log : List Event) (notes : List Note) (rows : List Row) (note : Note) (row : Row) → AreDestroyed log why notes rows
    → IsDestroyed log why note row → AreDestroyed log why (notes ++ note ∷ []) (rows ++ row ∷ [])
destroyed_push why log [] [] note row h one = (one, tt)
destroyed_push why log [] (r ∷ rs) note row h one = absurd h
destroyed_push why log (n ∷ ns) [] note row h one = absurd h
destroyed_push why log (n ∷ ns) (r ∷ rs) note row (h, hs) one = (h, destroyed_push why log ns rs note row hs one)

module _ (states : StatesStay) (keep : EntriesKeepTheirPlace) where
  -- rows of entries of places stay so
  places_grow : (longer log : List Event) (count : ℕ) (rows : List Row) → StartsWith longer log → AreOfPlaces log count rows
      → AreOfPlaces longer (count + 1) rows
  places_grow longer log count rows starts h = record {
    live = each_map (WasLive log) (WasLive longer) rows (λ r w. at_grows states longer log r.at _ starts w) h.live;
    below = each_map (λ (r : Row). r.subject.place < count) (λ (r : Row). r.subject.place < count + 1) rows (λ r lt. omega (arith, lt)) h.below;
    once = h.once;
  }

  -- an entry of the next place has no row yet
  no_row_yet : (sizes : Sizes) (log : List Event) (count : ℕ) (row : Row) → is_legal sizes log ≡ true → WasLive log row
      → row.subject.place ≡ count → (rows : List Row) → AllByRecursion (WasLive log) rows → AllByRecursion (λ r. r.subject.place < count) rows
      → AllByRecursion (λ (r : Row). r.subject.id ≢ row.subject.id) rows
  no_row_yet sizes log count row legal live placed [] h below = tt
  no_row_yet sizes log count row legal live placed (r ∷ rs) (h, hs) (b, bs) = (
    (λ e.
        let was : WasConfirmedIn log r.subject.place r.subject.id = (keep sizes log r.at r.subject.id r.subject legal h.fact).0 in
        let same : row.subject.place ≡ r.subject.place =
        (keep sizes log row.at row.subject.id row.subject legal live.fact).1 r.subject.place
        (subst (λ i. WasConfirmedIn log r.subject.place i) e was) in
        omega (arith, same, placed, b)),
    no_row_yet sizes log count row legal live placed rs hs bs,
  )

  places_push : (sizes : Sizes) (log : List Event) (count : ℕ) (rows : List Row) (row : Row) → is_legal sizes log ≡ true
      → AreOfPlaces log (count + 1) rows → AllByRecursion (λ r. r.subject.place < count) rows → WasLive log row → row.subject.place ≡ count
      → AreOfPlaces log (count + 1) (rows ++ row ∷ [])
  places_push sizes log count rows row legal h below live placed = record {
    live = each_push (WasLive log) rows row h.live live;
    below = each_push (λ (r : Row). r.subject.place < count + 1) rows row h.below (omega (arith, placed));
    once = once_push rows row h.once
        (times_none row.subject.id rows (no_row_yet sizes log count row legal live placed rows h.live below));
  }

  module _ (going : GoingOnAddsUp) (add : VisitsAddUp) (old now new : Sight) (count : ℕ) where
    -- the visits of earlier places, and that of the next
    visits_more : (test : Record → Bool) (at : ℕ) (rows more : List Row) → IsKnown now → IsKnown new → now.sizes ≡ old.sizes
        → new.sizes ≡ now.sizes → StartsWith now.front old.front → StartsWith new.front now.front
        → length now.front ≤ at → at ≤ length new.front
        → AreVisited now.front test count (length old.front) (length now.front) rows
        → Visited new.front test count (length now.front) at more
        → AreVisited new.front test (count + 1) (length old.front) (length new.front) (rows ++ more)
    visits_more test at rows more known known' same same' first then low high earlier visit =
        add now.sizes new.front now.front test count (length old.front) (length now.front) (length now.front) at (length new.front) rows more
        (record {
          starts = then;
          longer_legal = subst (λ (z : Sizes). is_legal z new.front ≡ true) same' known'.legal;
          legal = known.legal;
        })
        (record {
          first = starts_longer now.front old.front first;
          within = omega arith;
          next = omega arith;
          between = low;
          inside = high;
          behind = high;
        })
        earlier visit

    rows_wider : (filter : Filter) (rows : List Row) → Saw now new
        → AllByRecursion (IsRow now.front filter (length old.front) (length now.front)) rows
        → AllByRecursion (IsRow new.front filter (length old.front) (length new.front)) rows
    rows_wider filter rows saw each =
        each_map (IsRow now.front filter (length old.front) (length now.front)) (IsRow new.front filter (length old.front) (length new.front)) rows
        (λ r h. record {
          low = h.low;
          high = omega (arith, h.high, starts_longer new.front now.front saw.went.front);
          live = at_grows states new.front now.front _ _ saw.went.front h.live;
          selects = h.selects;
        }) each

    pub listing_none : (filter : Filter) (rows : List Row) → IsListing filter old now count rows → Saw now new
        → Visited new.front (selects filter) count (length now.front) (length new.front) [] → HoldsNothing new → IsKnown new
        → IsListing filter old new (count + 1) rows
    listing_none filter rows l saw visit empty known = record {
      saw = going.seen old now new l.saw saw;
      few = omega (arith, l.few);
      each = rows_wider filter rows saw l.each;
      places = places_grow new.front now.front count rows saw.went.front l.places;
      visited = subst (AreVisited new.front (selects filter) (count + 1) (length old.front) (length new.front)) (append-nil rows)
          (visits_more (selects filter) (length new.front) rows [] l.known known l.saw.went.pass.sizes saw.went.pass.sizes l.saw.went.front saw.went.front
          (starts_longer new.front now.front saw.went.front) (omega arith) l.visited visit);
      empty = empty;
      known = known;
    }

    listing_some : (filter : Filter) (rows : List Row) (row : Row) → IsListing filter old now count rows → Saw now new
        → IsRow new.front filter (length now.front) (length new.front) row → row.subject.place ≡ count
        → Visited new.front (selects filter) count (length now.front) (length new.front) (row ∷ []) → HoldsNothing new → IsKnown new
        → IsListing filter old new (count + 1) (rows ++ row ∷ [])
    listing_some filter rows row l saw is placed visit empty known = record {
      saw = going.seen old now new l.saw saw;
      few = omega (arith, length-append rows (row ∷ []), l.few);
      each = each_push (IsRow new.front filter (length old.front) (length new.front)) rows row (rows_wider filter rows saw l.each)
          (record {
            low = omega (arith, is.low, starts_longer now.front old.front l.saw.went.front);
            high = is.high;
            live = is.live;
            selects = is.selects;
          });
      places = places_push new.sizes new.front count rows row known.legal (places_grow new.front now.front count rows saw.went.front l.places)
          l.places.below is.live placed;
      visited = visits_more (selects filter) (length new.front) rows (row ∷ []) l.known known l.saw.went.pass.sizes saw.went.pass.sizes l.saw.went.front
          saw.went.front (starts_longer new.front now.front saw.went.front) (omega arith) l.visited visit;
      empty = empty;
      known = known;
    }

    pub listing_pushed : (filter : Filter) (rows more : List Row) (row : Row) → more ≡ rows ++ row ∷ [] → IsListing filter old now count rows
        → Saw now new → IsRow new.front filter (length now.front) (length new.front) row → row.subject.place ≡ count
        → Visited new.front (selects filter) count (length now.front) (length new.front) (row ∷ []) → HoldsNothing new → IsKnown new
        → IsListing filter old new (count + 1) more
    listing_pushed filter rows more row pushed l saw is placed visit empty known =
        subst (IsListing filter old new (count + 1)) (sym pushed) (listing_some filter rows row l saw is placed visit empty known)

    module _ (events : EventsStay) (why : Why) (rows : List Row) (d : IsDestroying why old now count rows) where
      made_wider : StartsWith new.front now.front
          → AllByRecursion (λ n. Happened new.front (length old.front) n × (n.number < length new.front)) d.notes
      made_wider then =
          each_map (λ (n : Note). Happened new.front (length old.front) n × (n.number < length now.front))
          (λ (n : Note). Happened new.front (length old.front) n × (n.number < length new.front)) d.notes
          (λ n h. (h.0, omega (arith, h.1, starts_longer new.front now.front then)))
          (happened_grows events states new.front now.front then (length old.front) (length now.front) d.notes d.made.happened)

      pub destroying_none : (at : ℕ) → LeavesPlace why count now new at → HoldsNothing new → IsKnown new
          → IsDestroying why old new (count + 1) rows
      destroying_none at left empty known = let saw : Saw now new = left.saw in record {
        notes = d.notes;
        made = record {
          went = going.before old now new d.notes d.made.went saw;
          taken = saw.taken ∙ d.made.taken;
          happened = made_wider saw.went.front;
        };
        few = omega (arith, d.few);
        as_many = d.as_many;
        each = destroyed_grow events states new.front now.front saw.went.front why d.notes rows d.each;
        places = places_grow new.front now.front count rows saw.went.front d.places;
        visited = visits_more (is_reason why) at [] [] d.known known d.made.went.pass.sizes saw.went.pass.sizes d.made.went.front saw.went.front
            left.low left.within d.visited left.visited;
        empty = empty;
        known = known;
      }

      destroying_some : (row : Row) → DestroysRow why count now new row → HoldsNothing new → IsKnown new
          → IsDestroying why old new (count + 1) (rows ++ row ∷ [])
      destroying_some row k empty known =
          let note : Note = record { number = row.at; event = Destroy row.subject.id why } in
          record {
            notes = d.notes ++ note ∷ [];
            made = record {
              went = going.twice old now new d.notes (note ∷ []) d.made.went k.made.went;
              taken = k.made.taken ∙ d.made.taken;
              happened = each_push (λ (n : Note). Happened new.front (length old.front) n × (n.number < length new.front)) d.notes note
                  (made_wider k.made.went.front) (
                    record { event = k.made.happened; later = omega (arith, k.made.low, starts_longer now.front old.front d.made.went.front) },
                    k.made.high,
                  );
            };
            few = omega (arith, length-append rows (row ∷ []), d.few);
            as_many = length-append d.notes (note ∷ []) ∙ ap (λ n. n + 1) d.as_many ∙ sym (length-append rows (row ∷ []));
            each = destroyed_push why new.front d.notes rows note row
                (destroyed_grow events states new.front now.front k.made.went.front why d.notes rows d.each) k.destroyed;
            places = places_push new.sizes new.front count rows row known.legal (places_grow new.front now.front count rows k.made.went.front d.places)
                d.places.below k.destroyed.found k.placed;
            visited = visits_more (is_reason why) (length new.front) [] [] d.known known d.made.went.pass.sizes k.made.went.pass.sizes d.made.went.front
                k.made.went.front (starts_longer new.front now.front k.made.went.front) (omega arith) d.visited k.visited;
            empty = empty;
            known = known;
          }

    pub destroying_pushed : (events : EventsStay) (why : Why) (rows more : List Row) (row : Row) → more ≡ rows ++ row ∷ []
        → IsDestroying why old now count rows → DestroysRow why count now new row → HoldsNothing new → IsKnown new
        → IsDestroying why old new (count + 1) more
    destroying_pushed events why rows more row pushed d k empty known =
        subst (IsDestroying why old new (count + 1)) (sym pushed) (destroying_some events why rows d row k empty known)

    pub counting_none : (events : EventsStay) (why : Why) (ended : ℕ) → IsCounting why old now count ended
        → (at : ℕ) → LeavesPlace why count now new at → HoldsNothing new → IsKnown new
        → IsCounting why old new (count + 1) ended
    counting_none events why ended c at left empty known = record {
      rows = c.rows;
      destroying = destroying_none events why c.rows c.destroying at left empty known;
      exact = c.exact;
    }

    pub counting_some : (events : EventsStay) (why : Why) (ended : ℕ) (row : Row) → IsCounting why old now count ended
        → DestroysRow why count now new row → HoldsNothing new → IsKnown new
        → IsCounting why old new (count + 1) (ended + 1)
    counting_some events why ended row c k empty known = record {
      rows = c.rows ++ row ∷ [];
      destroying = destroying_some events why c.rows c.destroying row k empty known;
      exact = ap (λ n. n + 1) c.exact ∙ sym (length-append c.rows (row ∷ []));
    }

-- before the first place
pub listing_start : GoingOnAddsUp → (filter : Filter) (s : Sight) → HoldsNothing s → IsKnown s → IsListing filter s s 0 []
listing_start going filter s empty known = record {
  saw = going.resting s;
  few = omega arith;
  each = tt;
  places = record { live = tt; below = tt; once = λ id. omega arith };
  visited = λ place below. absurd (none_below place below);
  empty = empty;
  known = known;
}

pub destroying_start : GoingOnAddsUp → (why : Why) (s : Sight) → HoldsNothing s → IsKnown s → IsDestroying why s s 0 []
destroying_start going why s empty known = record {
  notes = [];
  made = record { went = (going.resting s).went; taken = refl; happened = tt };
  few = omega arith;
  as_many = refl;
  each = tt;
  places = record { live = tt; below = tt; once = λ id. omega arith };
  visited = λ place below. absurd (none_below place below);
  empty = empty;
  known = known;
}

pub counting_start : GoingOnAddsUp → (why : Why) (s : Sight) → HoldsNothing s → IsKnown s → IsCounting why s s 0 0
counting_start going why s empty known = record { rows = []; destroying = destroying_start going why s empty known; exact = refl }
