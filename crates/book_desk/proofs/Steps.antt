-- What each change of the places leaves of a right book.
use Rattle.std.proofs.Common.{◌≡◌, ◌≢◌, ℕ, ◌+◌, ◌*◌, ◌-◌, ◌<◌, ◌≤◌, zero, suc, Bool, true, false, not, List, [], ◌∷◌, ◌++◌, length, refl, sym, ap, subst, ◌∙◌, ⊎_elim, arith, Some, None}
use Rattle.std.specs.List.{AllByRecursion, AllPairs, list_any, position, remove, slice_get}
use Rattle.std.specs.Prelude.{◌==◌, ◌||◌}
use Rattle.std.proofs.lemmas.Bool.{eq-eqb, eqb-true, or_cases, or_from, or_parts, true_from_ne_false}
use Rattle.std.proofs.lemmas.List.Elements.{recursion_from_All}
use Rattle.room_list.specs.Roomed.{Roomed}
use Rattle.history_book.specs.declared.desk.Hold.{Hold}
use Rattle.history_book.specs.declared.event.Event.{Event}
use Rattle.history_book.specs.declared.record.Record.{Record}
use Rattle.history_book.specs.Desk.{FindsFull, IsLiveIn, Takes, is_in_use}
use Rattle.history_book.specs.Held.{is_at, is_held, is_owed, paid, without}
use Rattle.history_book.specs.History.{after}
use Rattle.history_book.specs.Laws.{AreApart, IsConfirmed, LiveRecordsAreConfirmed, RecordsAreApart}
use Rattle.history_book.specs.StateLaws.{IdsNameRecords}
use Rattle.history_book.specs.Record.{has_place}
use Rattle.history_book.specs.Sight.{IsForOne, WasConfirmedIn, risen}
use Rattle.history_book.specs.State.{State}
use Rattle.book_desk.specs.declared.book.Book.{Book}
use Rattle.book_desk.specs.Fields.{AreReferences, IsBook, IsForRecord, state_in}
use Rattle.book_desk.specs.Uses.{ArePlaces, bit, tally, times, uses}
use Rattle.book_desk.specs.Internal.Book.{sight_in}
use Rattle.book_desk.proofs.Lists.{each_at, each_map, none_of, same_bit, tally-remove, tally_none, tally_some}
use Rattle.book_desk.proofs.Pool.{few_free, full_pool, length-paid, length-without, place_below, places_hold, places_keep, places_owe, places_pay, places_take, same_paid, same_removed}
use Rattle.book_desk.proofs.Counting.{none_has}
use Rattle.book_desk.proofs.Histories.{looked, saw}
use Rattle.book_desk.proofs.Positions.{passes_at}
use Rattle.book_desk.proofs.References.{refs_more, refs_without}

-- what stands in a list is counted
pub tally_at : {X : Type 0} (q : X → Bool) (xs : List X) (i : ℕ) (x : X) → slice_get xs i ≡ Some x → q x ≡ true → 1 ≤ tally q xs
tally_at q xs i x at passes = omega (arith, tally-remove q xs i x at, ap bit passes)

-- a record has its place
pub same_place_passes : (r : Record) → has_place r.place r ≡ true
same_place_passes r = eq-eqb r.place r.place refl

-- the record in a place is the only one there
only_one : (rs : List Record) (i : ℕ) (r : Record) → tally (has_place r.place) rs ≤ 1 → slice_get rs i ≡ Some r
    → AllByRecursion (IsForRecord (record { place = r.place; id = Some r.id })) rs
only_one [] i r one at = tt
only_one (x ∷ xs) zero r one at =
    let here : x ≡ r = cc in (
      (λ e. ap (λ (s : Record). Some s.id) (sym here)),
      each_map (λ (s : Record). s.place ≢ r.place) (IsForRecord (record { place = r.place; id = Some r.id })) xs
          (λ s apart e. absurd (apart (sym e)))
          (none_has (λ (s : Record). s.place) r.place xs (omega (arith, one, same_bit x.place r.place (ap (λ (s : Record). s.place) here)))),
    )
only_one (x ∷ xs) (suc i) r one at = (
  (λ e. absurd (omega (arith, one, same_bit x.place r.place (sym e), tally_at (has_place r.place) xs i r at (same_place_passes r)))),
  only_one xs i r (omega (arith, one)) at,
)

-- references for the record in a place agree with a further one for it
all_for_one : (rs : List Record) (held : List Hold) (i : ℕ) (r : Record) → slice_get rs i ≡ Some r
    → AllByRecursion (λ h. AllByRecursion (IsForRecord h) rs) held
    → AllByRecursion (IsForOne (record { place = r.place; id = Some r.id })) held
all_for_one rs held i r at current =
    each_map (λ h. AllByRecursion (IsForRecord h) rs) (IsForOne (record { place = r.place; id = Some r.id })) held
    (λ g all. record {
      same = λ e. sym (each_at (IsForRecord g) rs i r all at (sym e));
      entry = λ e. refl;
    }) current

-- a live record was confirmed in its place
pub confirmed_record : LiveRecordsAreConfirmed → (log : List Event) (b : Book) (i : ℕ) (r : Record) → IsBook log b → slice_get b.records.items i ≡ Some r
    → IsConfirmed log r
confirmed_record law log b i r h at =
    let live : AllByRecursion (IsConfirmed log) (after log (length log)).records =
    recursion_from_All (IsConfirmed log) (after log (length log)).records (law b.sizes log (length log) h.history.legal).0 in
    let rs : b.records.items ≡ (after log (length log)).records = ap (λ (s : State). s.records) h.history.state in
    each_at (IsConfirmed log) (after log (length log)).records i r live (sym (ap (λ l. slice_get l i) rs) ∙ at)

-- and in its place
confirmed_there : LiveRecordsAreConfirmed → (log : List Event) (b : Book) (i : ℕ) (r : Record) → IsBook log b → slice_get b.records.items i ≡ Some r
    → WasConfirmedIn log r.place r.id
confirmed_there law log b i r h at =
    let one : IsConfirmed log r = confirmed_record law log b i r h at in
    record { subject = one.subject; event = one.event; placed = sym one.same.place }

-- the place of a live record is held once more
pub book_hold : LiveRecordsAreConfirmed → (log : List Event) (b : Book) (holds : Roomed Hold) (i : ℕ) (r : Record) → IsBook log b
    → length b.holds.items + length b.owed.items < 4 * b.sizes.passes → slice_get b.records.items i ≡ Some r
    → holds.items ≡ record { place = r.place; id = Some r.id } ∷ b.holds.items → holds.room ≡ b.holds.room
    → IsBook log (record b { holds = holds })
book_hold law log b holds i r h few at items room =
    let k : Hold = record { place = r.place; id = Some r.id } in
    let rs : List Record = b.records.items in
    record {
      limits = h.limits;
      events = h.events;
      history = h.history;
      places = subst (λ hs. ArePlaces b.sizes.entries rs hs b.free.items b.owed.items) (sym items)
          (places_hold b.sizes.entries rs b.holds.items b.free.items b.owed.items h.places k
          (tally_at (has_place r.place) rs i r at (same_place_passes r)));
      references = subst (λ hs. AreReferences log rs hs) (sym items)
          (refs_more log rs b.holds.items k h.references (confirmed_there law log b i r h at)
          (only_one rs i r (h.places.single r.place) at) (all_for_one rs b.holds.items i r at h.references.current));
      few = omega (arith, few, ap length items);
      rooms = record { records = h.rooms.records; free = h.rooms.free; holds = omega (arith, room, h.rooms.holds); owed = h.rooms.owed; expects = h.rooms.expects };
    }

-- the place of a free one is nobody's
pub record IsNobodys (b : Book) (p : ℕ) : Type 0 where
  pub below : p < b.sizes.entries
  pub records : tally (has_place p) b.records.items ≡ 0
  pub holds : tally (is_at p) b.holds.items ≡ 0
  pub owed : times p b.owed.items ≡ 0

-- a free place is nobody's
pub free_nobodys : (log : List Event) (b : Book) (i p : ℕ) → IsBook log b → slice_get b.free.items i ≡ Some p → IsNobodys b p
free_nobodys log b i p h at =
    let there = same_removed b.free.items i p at in
    let low : p < b.sizes.entries =
    place_below b.sizes.entries b.records.items b.holds.items b.free.items b.owed.items p h.places (omega (arith, there)) in
    record {
      below = low;
      records = omega (arith, there, h.places.once p low);
      holds = omega (arith, there, h.places.once p low);
      owed = omega (arith, there, h.places.once p low);
    }

-- a free place is taken
pub book_take : (log : List Event) (b : Book) (holds : Roomed Hold) (free : Roomed ℕ) (i p : ℕ) → IsBook log b
    → length b.holds.items + length b.owed.items < 4 * b.sizes.passes → slice_get b.free.items i ≡ Some p
    → holds.items ≡ record { place = p; id = None } ∷ b.holds.items → holds.room ≡ b.holds.room
    → free.items ≡ remove b.free.items i → free.room ≡ b.free.room
    → IsBook log (record b { holds = holds; free = free })
book_take log b holds free i p h few at items room rest free_room =
    let k : Hold = record { place = p; id = None } in
    let rs : List Record = b.records.items in
    let nobody : IsNobodys b p = free_nobodys log b i p h at in
    record {
      limits = h.limits;
      events = h.events;
      history = h.history;
      places = subst (λ hs. ArePlaces b.sizes.entries rs hs free.items b.owed.items) (sym items)
          (subst (λ fs. ArePlaces b.sizes.entries rs (k ∷ b.holds.items) fs b.owed.items) (sym rest)
          (places_take b.sizes.entries rs b.holds.items b.free.items b.owed.items h.places i k at));
      references = subst (λ hs. AreReferences log rs hs) (sym items)
          (refs_more log rs b.holds.items k h.references tt
          (each_map (λ (s : Record). s.place ≢ p) (IsForRecord k) rs (λ s apart e. absurd (apart (sym e)))
          (none_has (λ (s : Record). s.place) p rs nobody.records))
          (each_map (λ (g : Hold). g.place ≢ p) (IsForOne k) b.holds.items
          (λ g apart. record { same = λ e. absurd (apart (sym e)); entry = λ e. absurd (apart (sym e)) })
          (none_has (λ (g : Hold). g.place) p b.holds.items nobody.holds)));
      few = omega (arith, few, ap length items);
      rooms = record { records = h.rooms.records; free = omega (arith, free_room, h.rooms.free); holds = omega (arith, room, h.rooms.holds); owed = h.rooms.owed; expects = h.rooms.expects };
    }

-- a reference is given up, and others are left
pub book_keep : (log : List Event) (b : Book) (holds : Roomed Hold) (a : ℕ) → IsBook log b → is_held a b.holds.items ≡ true
    → holds.items ≡ without a b.holds.items → holds.room ≡ b.holds.room
    → 1 ≤ uses a b.records.items holds.items → IsBook log (record b { holds = holds })
book_keep log b holds a h there items room used =
    let rs : List Record = b.records.items in
    record {
      limits = h.limits;
      events = h.events;
      history = h.history;
      places = subst (λ hs. ArePlaces b.sizes.entries rs hs b.free.items b.owed.items) (sym items)
          (places_keep b.sizes.entries rs b.holds.items b.free.items b.owed.items h.places a there
          (subst (λ hs. 1 ≤ uses a rs hs) items used));
      references = subst (λ hs. AreReferences log rs hs) (sym items)
          (refs_without log rs b.holds.items a h.references);
      few = omega (arith, h.few, ap length items, length-without a b.holds.items there);
      rooms = record { records = h.rooms.records; free = h.rooms.free; holds = omega (arith, room, h.rooms.holds); owed = h.rooms.owed; expects = h.rooms.expects };
    }

-- the last reference is given up
pub book_owe : (log : List Event) (b : Book) (holds : Roomed Hold) (owed : Roomed ℕ) (a : ℕ) → IsBook log b → is_held a b.holds.items ≡ true
    → holds.items ≡ without a b.holds.items → holds.room ≡ b.holds.room
    → owed.items ≡ a ∷ b.owed.items → owed.room ≡ b.owed.room
    → uses a b.records.items holds.items ≡ 0 → IsBook log (record b { holds = holds; owed = owed })
book_owe log b holds owed a h there items room more owed_room unused =
    let rs : List Record = b.records.items in
    record {
      limits = h.limits;
      events = h.events;
      history = h.history;
      places = subst (λ hs. ArePlaces b.sizes.entries rs hs b.free.items owed.items) (sym items)
          (subst (λ os. ArePlaces b.sizes.entries rs (without a b.holds.items) b.free.items os) (sym more)
          (places_owe b.sizes.entries rs b.holds.items b.free.items b.owed.items h.places a there
          (subst (λ hs. uses a rs hs ≡ 0) items unused)));
      references = subst (λ hs. AreReferences log rs hs) (sym items)
          (refs_without log rs b.holds.items a h.references);
      few = omega (arith, h.few, ap length items, length-without a b.holds.items there, ap length more);
      rooms = record { records = h.rooms.records; free = h.rooms.free; holds = omega (arith, room, h.rooms.holds); owed = omega (arith, owed_room, h.rooms.owed); expects = h.rooms.expects };
    }

-- an owed place is free again
pub book_pay : (log : List Event) (b : Book) (free owed : Roomed ℕ) (a : ℕ) → IsBook log b → is_owed a b.owed.items ≡ true
    → owed.items ≡ paid a b.owed.items → owed.room ≡ b.owed.room
    → free.items ≡ b.free.items ++ a ∷ [] → free.room ≡ b.free.room
    → IsBook log (record b { free = free; owed = owed })
book_pay log b free owed a h there items room more free_room =
    let rs : List Record = b.records.items in
    record {
      limits = h.limits;
      events = h.events;
      history = h.history;
      places = subst (λ os. ArePlaces b.sizes.entries rs b.holds.items free.items os) (sym items)
          (subst (λ fs. ArePlaces b.sizes.entries rs b.holds.items fs (paid a b.owed.items)) (sym more)
          (places_pay b.sizes.entries rs b.holds.items b.free.items b.owed.items h.places a there));
      references = h.references;
      few = omega (arith, h.few, ap length items, length-paid a b.owed.items there);
      rooms = record { records = h.rooms.records; free = omega (arith, free_room, h.rooms.free); holds = h.rooms.holds; owed = omega (arith, room, h.rooms.owed); expects = h.rooms.expects };
    }

-- there is room for an owed place among the free ones
pub pay_room : (log : List Event) (b : Book) (a : ℕ) → IsBook log b → is_owed a b.owed.items ≡ true → length b.free.items < b.free.room
pay_room log b a h there =
    omega (
      arith,
      h.rooms.free,
      length-paid a b.owed.items there,
      few_free b.sizes.entries b.records.items b.holds.items b.free.items b.owed.items h.places,
    )

-- twice not is nothing
not_not : (x : Bool) → not (not x) ≡ x
not_not true = refl
not_not false = refl

-- whether a place is in use, by the fields
pub used_is : (log : List Event) (spare taken : ℕ) (b : Book) (p : ℕ) → IsBook log b
    → is_in_use p (sight_in log spare taken b) ≡ (list_any (has_place p) b.records.items || is_held p b.holds.items || is_owed p b.owed.items)
used_is log spare taken b p h =
    ap (λ (s : State). not (not (list_any (has_place p) s.records)) || is_held p b.holds.items || is_owed p b.owed.items) (sym h.history.state)
    ∙ ap (λ x. x || is_held p b.holds.items || is_owed p b.owed.items) (not_not (list_any (has_place p) b.records.items))

-- a place that counts is in use
pub used : (log : List Event) (spare taken : ℕ) (b : Book) (p : ℕ) → IsBook log b
    → 1 ≤ uses p b.records.items b.holds.items + times p b.owed.items → is_in_use p (sight_in log spare taken b) ≡ true
used log spare taken b p h some =
    used_is log spare taken b p h ∙ true_from_ne_false _ (λ e.
    let parts = or_parts (list_any (has_place p) b.records.items || is_held p b.holds.items) (is_owed p b.owed.items) e in
    let both = or_parts (list_any (has_place p) b.records.items) (is_held p b.holds.items) parts.0 in
    omega (
      arith,
      some,
      tally_none (has_place p) b.records.items both.0,
      tally_none (is_at p) b.holds.items both.1,
      tally_none (λ q. q == p) b.owed.items parts.1,
    ))

-- a place that does not count is in no use
pub unused : (log : List Event) (spare taken : ℕ) (b : Book) (p : ℕ) → IsBook log b
    → uses p b.records.items b.holds.items + times p b.owed.items ≡ 0 → is_in_use p (sight_in log spare taken b) ≡ false
unused log spare taken b p h none =
    used_is log spare taken b p h ∙ or_from _ _ (or_from _ _ (none_of (has_place p) b.records.items (omega (arith, none)))
    (none_of (is_at p) b.holds.items (omega (arith, none)))) (none_of (λ q. q == p) b.owed.items (omega (arith, none)))

-- a place that is given back is in no use
pub recycled : (log : List Event) (spare taken : ℕ) (b new : Book) (a : ℕ) → IsBook log b → IsBook log new → is_owed a b.owed.items ≡ true
    → new.records ≡ b.records → new.holds ≡ b.holds → new.owed.items ≡ paid a b.owed.items → is_in_use a (sight_in log spare taken new) ≡ false
recycled log spare taken b new a h right there records holds owed =
    let less = same_paid a b.owed.items there in
    let low : a < b.sizes.entries =
    place_below b.sizes.entries b.records.items b.holds.items b.free.items b.owed.items a h.places (omega (arith, less)) in
    unused log spare taken new a right (omega (
      arith,
      less,
      h.places.once a low,
      ap (times a) owed,
      ap (λ (rs : Roomed Record). tally (has_place a) rs.items) records,
      ap (λ (hs : Roomed Hold). tally (is_at a) hs.items) holds,
    ))

-- what the full pool says
pub full : (log : List Event) (spare taken : ℕ) (b : Book) (at : ℕ) → IsBook log b → at ≡ b.events → b.free.items ≡ []
    → FindsFull (sight_in log spare taken b) (sight_in log spare taken b) at
full log spare taken b at h here none = record {
  looked = looked log spare taken b b at
      (λ s. b.sizes.entries - 4 * (1 - 1) - (length b.holds.items + length b.owed.items) ≤ length s.records) h here refl
      (omega (arith, full_pool b.sizes.entries b.records.items b.holds.items b.free.items b.owed.items h.places none));
  same = record { held = refl; owed = refl };
  alone = λ one p low. used log spare taken b p h (omega (arith, h.places.once p low, ap (times p) none));
}

-- what is so of the records is so of the state after the events
state_has : (F : List Record → Type 0) (log : List Event) (b : Book) → IsBook log b → F b.records.items
    → F (after log (length log)).records
state_has F log b h fact = subst (λ (s : State). F s.records) h.history.state fact

-- what a taken place says
pub takes : (log : List Event) (spare taken : ℕ) (b new : Book) (i p : ℕ) → IsBook log b → slice_get b.free.items i ≡ Some p
    → new.sizes ≡ b.sizes → new.holds.items ≡ record { place = p; id = None } ∷ b.holds.items → new.owed ≡ b.owed
    → Takes (sight_in log spare taken b) (sight_in log spare (risen taken) new) p
takes log spare taken b new i p h at sizes holds owed =
    let nobody : IsNobodys b p = free_nobodys log b i p h at in
    record {
      saw = saw log spare taken b new sizes;
      taken = refl;
      below = nobody.below;
      unheld = none_of (is_at p) b.holds.items nobody.holds;
      unowed = none_of (λ q. q == p) b.owed.items nobody.owed;
      holds = record { held = holds; owed = ap (λ os. os.items) owed };
      alone = λ one. ap not (state_has (λ rs. list_any (has_place p) rs ≡ false) log b h (none_of (has_place p) b.records.items nobody.records));
    }

-- a reference that is given up leaves the place in use
pub still_used : (p : ℕ) (rs : List Record) (held : List Hold) → (is_held p held || list_any (has_place p) rs) ≡ true → 1 ≤ uses p rs held
still_used p rs held h =
    ⊎_elim (λ (e : is_held p held ≡ true). omega (arith, tally_some (is_at p) held e))
    (λ (e : list_any (has_place p) rs ≡ true). omega (arith, tally_some (has_place p) rs e)) (or_cases (is_held p held) (list_any (has_place p) rs) h)

-- or the place in no use
pub not_used : (p : ℕ) (rs : List Record) (held : List Hold) → (is_held p held || list_any (has_place p) rs) ≡ false → uses p rs held ≡ 0
not_used p rs held h =
    let parts = or_parts (is_held p held) (list_any (has_place p) rs) h in
    omega (arith, tally_none (is_at p) held parts.0, tally_none (has_place p) rs parts.1)

-- the records of a right book are apart
pub apart_of : RecordsAreApart → (log : List Event) (b : Book) → IsBook log b → AllPairs AreApart b.records.items
apart_of apart log b h =
    subst (λ (s : State). AllPairs AreApart s.records) (sym h.history.state) (apart b.sizes log (length log) h.history.legal)

-- the entry in a place is live in it
pub live_in : RecordsAreApart → IdsNameRecords → (log : List Event) (b : Book) (p i : ℕ) (r : Record) → IsBook log b → position (has_place p) b.records.items ≡ Some i
    → slice_get b.records.items i ≡ Some r → IsLiveIn p r.id (state_in b)
live_in apart ids log b p i r h found at = record {
  subject = r;
  is = ids (state_in b) i r (apart_of apart log b h) at;
  placed = eqb-true r.place p (passes_at (has_place p) b.records.items i r found at);
}
