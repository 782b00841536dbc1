-- Values behind forms, each of which stands for one.
use Rattle.std.proofs.Common.{◌≡◌, ℕ, ◌<◌, ◌^◌, zero, suc, List, [], ◌∷◌, ◌++◌, length, true, refl, sym, ap, subst, ◌∙◌, None, Some, Option, arith}
use Rattle.std.specs.List.{AllByRecursion, cons_option, filter_map, slice_get}
use Rattle.std.specs.Prelude.{is_some, slice_index_or}
use Rattle.std.proofs.lemmas.List.{length-append}
use Rattle.std.proofs.lemmas.Option.{get_or_from_slice_get, same_Some, slice_get_within}
use Rattle.std.proofs.lemmas.List.Elements.{All-push, filter_map-append, recursion_from_All}
use Rattle.history_book.specs.declared.packed.Stored.{Stored}
use Rattle.history_book.specs.declared.packed.Stored.TheVariants.{Here, Whole}
use Rattle.history_book.specs.Internal.Packed.{ArePacked, value_of, values_of}
use Rattle.room_list.specs.Roomed.{Roomed}

length_one : {T : Type 0} (o : Option T) (vs : List T) (n : ℕ) → length vs ≡ n → is_some o ≡ true
    → length (cons_option o vs) ≡ suc n
length_one None vs n e h = cc
length_one (Some v) vs n e h = ap suc e

-- as many values as forms, where each has one
length_each : {S T : Type 0} (f : S → Option T) (forms : List S) → AllByRecursion (λ s. is_some (f s) ≡ true) forms
    → length (filter_map f forms) ≡ length forms
length_each f [] h = refl
length_each f (s ∷ forms) (h, hs) = length_one (f s) (filter_map f forms) (length forms) (length_each f forms hs) h

get_zero : {T : Type 0} (o : Option T) (vs : List T) → is_some o ≡ true → slice_get (cons_option o vs) zero ≡ o
get_zero None vs h = cc
get_zero (Some v) vs h = refl

get_suc : {T : Type 0} (o : Option T) (vs : List T) (k : ℕ) → is_some o ≡ true
    → slice_get (cons_option o vs) (suc k) ≡ slice_get vs k
get_suc None vs k h = cc
get_suc (Some v) vs k h = refl

-- a value stands where its form does
get_each : {S T : Type 0} (f : S → Option T) (forms : List S) → AllByRecursion (λ s. is_some (f s) ≡ true) forms
    → (k : ℕ) (s : S) → slice_get forms k ≡ Some s → slice_get (filter_map f forms) k ≡ f s
get_each f [] h k s is = cc
get_each f (x ∷ forms) (h, hs) zero s is = get_zero (f x) (filter_map f forms) h ∙ ap f (same_Some x s is)
get_each f (x ∷ forms) (h, hs) (suc k) s is = get_suc (f x) (filter_map f forms) k h ∙ get_each f forms hs k s is

still_there : {T : Type 0} (whole : List T) (at : ℕ) (v : T) → is_some (slice_get whole at) ≡ true
    → slice_get (whole ++ v ∷ []) at ≡ slice_get whole at
still_there [] at v h = cc
still_there (w ∷ whole) zero v h = refl
still_there (w ∷ whole) (suc at) v h = still_there whole at v h

still_value : {T : Type 0} (whole : List T) (v : T) (o : Stored T) → is_some (value_of whole o) ≡ true
    → value_of (whole ++ v ∷ []) o ≡ value_of whole o
still_value whole v (Here x) h = refl
still_value whole v (Whole at) h = still_there whole at v h

values_more : {S T : Type 0} (stored : S → Stored T) (whole : List T) (v : T) (forms : List S)
    → AllByRecursion (λ s. is_some (value_of whole (stored s)) ≡ true) forms
    → values_of stored (whole ++ v ∷ []) forms ≡ values_of stored whole forms
values_more stored whole v [] h = refl
values_more stored whole v (s ∷ forms) (h, hs) =
    ap (λ (o : Option _). cons_option o (values_of stored (whole ++ v ∷ []) forms)) (still_value whole v (stored s) h)
    ∙ ap (cons_option (value_of whole (stored s))) (values_more stored whole v forms hs)

last_whole : {T : Type 0} (whole : List T) (v : T) → slice_get (whole ++ v ∷ []) (length whole) ≡ Some v
last_whole [] v = refl
last_whole (w ∷ whole) v = last_whole whole v

within_some : {T : Type 0} (whole : List T) (at : ℕ) → is_some (slice_get whole at) ≡ true → at < length whole
within_some [] at h = cc
within_some (w ∷ whole) zero h = omega arith
within_some (w ∷ whole) (suc at) h = omega (arith, within_some whole at h)

module _ {S T : Type 0} (stored : S → Stored T) (forms : Roomed S) (whole : Roomed T) (room : ℕ)
    (h : ArePacked stored forms whole room) where
  each : AllByRecursion (λ s. is_some (value_of whole.items (stored s)) ≡ true) forms.items
  each = recursion_from_All (λ s. is_some (value_of whole.items (stored s)) ≡ true) forms.items h.values

  pub length_values : length (values_of stored whole.items forms.items) ≡ length forms.items
  length_values = length_each (λ s. value_of whole.items (stored s)) forms.items each

  pub length_seen : (now : Roomed T) → record { items = values_of stored whole.items forms.items; room = room } ≡ now
      → length forms.items ≡ length now.items
  length_seen now seen = sym length_values ∙ ap (λ (l : Roomed T). length l.items) seen

  pub is_few : (now : Roomed T) → record { items = values_of stored whole.items forms.items; room = room } ≡ now
      → length now.items < 2 ^ 32
  is_few now seen = omega (arith, length_seen now seen, h.fits, h.few)

  -- room for one more value is room for its form
  pub has_room : (now : Roomed T) → record { items = values_of stored whole.items forms.items; room = room } ≡ now
      → length now.items < now.room → length forms.items < room
  has_room now seen short =
      let long : length (values_of stored whole.items forms.items) ≡ length now.items =
      ap (λ (l : Roomed T). length l.items) seen in
      let same : room ≡ now.room = ap (λ (l : Roomed T). l.room) seen in
      omega (arith, short, long, same, length_values)

  pub get_value : (k : ℕ) (s : S) → slice_get forms.items k ≡ Some s
      → slice_get (values_of stored whole.items forms.items) k ≡ value_of whole.items (stored s)
  get_value k s is = get_each (λ s. value_of whole.items (stored s)) forms.items each k s is

  -- a form that stands whole names a value that stands there
  pub stands_whole : (k at : ℕ) (s : S) → slice_get forms.items k ≡ Some s → stored s ≡ Whole at → at < length whole.items
  stands_whole k at s is named =
      let some : is_some (value_of whole.items (stored s)) ≡ true =
      subst (λ (x : S). is_some (value_of whole.items (stored x)) ≡ true) (get_or_from_slice_get forms.items k s s is)
      (h.values k s (slice_get_within forms.items k s is)) in
      within_some whole.items at (sym (ap (λ (o : Stored T). is_some (value_of whole.items o)) named) ∙ some)

  -- a further value that has a short form
  module _ (form : S) (value : T) (says : stored form ≡ Here value) (longer : Roomed S)
      (items : longer.items ≡ forms.items ++ form ∷ []) (same : longer.room ≡ forms.room) (short : length forms.items < room) where
    pub push_short : values_of stored whole.items longer.items ≡ values_of stored whole.items forms.items ++ value ∷ []
    push_short =
        ap (values_of stored whole.items) items
        ∙ filter_map-append (λ s. value_of whole.items (stored s)) forms.items (form ∷ [])
        ∙ ap (λ (o : Stored T). values_of stored whole.items forms.items ++ cons_option (value_of whole.items o) []) says

    pub still_packed : ArePacked stored longer whole room
    still_packed = record {
      values = rw items (All-push (λ s. is_some (value_of whole.items (stored s)) ≡ true) forms.items form h.values
          (ap (λ (o : Stored T). is_some (value_of whole.items o)) says));
      fits = omega (arith, ap length items, length-append forms.items (form ∷ []), short);
      form_room = omega (arith, h.form_room, same);
      whole_room = h.whole_room;
      fewer = omega (arith, h.fewer, ap length items, length-append forms.items (form ∷ []));
      few = h.few;
    }

  -- and one that stands whole
  module _ (form : S) (value : T) (says : stored form ≡ Whole (length whole.items)) (longer : Roomed S) (more : Roomed T)
      (items : longer.items ≡ forms.items ++ form ∷ []) (same : longer.room ≡ forms.room)
      (more_items : more.items ≡ whole.items ++ value ∷ []) (more_same : more.room ≡ whole.room)
      (short : length forms.items < room) where
    push_named : value_of (whole.items ++ value ∷ []) (stored form) ≡ Some value
    push_named =
        ap (value_of (whole.items ++ value ∷ [])) says ∙ last_whole whole.items value

    pub push_whole : values_of stored more.items longer.items ≡ values_of stored whole.items forms.items ++ value ∷ []
    push_whole =
        ap (λ (w : List T). values_of stored w longer.items) more_items
        ∙ ap (values_of stored (whole.items ++ value ∷ [])) items
        ∙ filter_map-append (λ s. value_of (whole.items ++ value ∷ []) (stored s)) forms.items (form ∷ [])
        ∙ ap (λ (l : List T). l ++ cons_option (value_of (whole.items ++ value ∷ []) (stored form)) [])
        (values_more stored whole.items value forms.items each)
        ∙ ap (λ (o : Option T). values_of stored whole.items forms.items ++ cons_option o []) push_named

    still_some : (s : S) → is_some (value_of whole.items (stored s)) ≡ true
        → is_some (value_of (whole.items ++ value ∷ []) (stored s)) ≡ true
    still_some s some = ap is_some (still_value whole.items value (stored s) some) ∙ some

    pub still_packed_whole : ArePacked stored longer more room
    still_packed_whole = record {
      values = rw (items, more_items)
          (All-push (λ s. is_some (value_of (whole.items ++ value ∷ []) (stored s)) ≡ true) forms.items form
          (λ k d within. still_some (slice_index_or forms.items k d) (h.values k d within))
          (ap is_some push_named));
      fits = omega (arith, ap length items, length-append forms.items (form ∷ []), short);
      form_room = omega (arith, h.form_room, same);
      whole_room = omega (arith, h.whole_room, more_same);
      fewer = omega (
        arith,
        h.fewer,
        ap length items,
        length-append forms.items (form ∷ []),
        ap length more_items,
        length-append whole.items (value ∷ []),
      );
      few = h.few;
    }
