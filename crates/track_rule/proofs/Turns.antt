-- The turn of the free list: it is taken, and given back.
use Rattle.std.proofs.Common.{◌≡◌, ◌≢◌, ℕ, ◌+◌, ◌<◌, ◌≤◌, eqb, true, false, Bool, Option, Some, None, List, [], ◌∷◌, length, refl, sym, ap, subst, ◌∙◌, ⊎_elim, inl, inr, arith, set, eq-eqb, ne_eqb}
use Rattle.std.specs.Prelude.{slice_index, slice_set, is_some, min, unwrap_or}
use Rattle.std.proofs.lemmas.Bool.{cases_Bool, cases_lt, false≢true}
use Rattle.std.proofs.lemmas.List.{get_or-set_other, get_or-set_same, length-set}
use Rattle.std.proofs.lemmas.Option.{none-some}
use prog.Atomic.{either}
use mathlib.Core.Option.{none, some}
use lib.ListN.{get_elem?}
use Rattle.atomic_table.specs.Table.{Act, Allows, Me, State, Valid, carried_after, gives, keeps as unchanged, rest, step, stepped, takes}
use Rattle.atomic_table.proofs.Lists.{exchanged, set_else, set_here}
use Rattle.room_list.specs.Roomed.{Roomed}
use Rattle.history_book.specs.declared.sizes.Sizes.{Sizes}
use Rattle.track_rule.specs.declared.slot.Slot.{Slot}
use Rattle.track_rule.specs.declared.slot.Slot.TheVariants.{Free}
use Rattle.track_rule.specs.declared.view.View.{View}
use Rattle.track_rule.specs.Free.{has_turn, is_among, known_free, owes, turn_of}
use Rattle.track_rule.specs.Layout.{phase_at, phase_word, refs_at, refs_word}
use Rattle.track_rule.specs.History.{records_after}
use Rattle.track_rule.specs.Passes.{IsPass}
use Rattle.track_rule.specs.Phases.{of_place}
use Rattle.track_rule.specs.Readings.{found, noted, stored}
use Rattle.track_rule.specs.References.{keeps}
use Rattle.track_rule.specs.Rule.{RuleHolds, IsKept, Ledger}
use Rattle.track_rule.specs.Slots.{list_in}
use Rattle.track_rule.specs.Steps.{CanGive, GiveStep, TakeStep, TakesFree, TookFree, gave_free, with_turn}
use Rattle.track_rule.specs.Sums.{times, total}
use Rattle.track_rule.proofs.Counting.{few_places}
use Rattle.track_rule.proofs.Events.{notes_same}
use Rattle.track_rule.proofs.Frames.{Quiet}
use Rattle.track_rule.proofs.Hooks.{no_record_there}
use Rattle.track_rule.proofs.KeptWords.{words_same}
use Rattle.track_rule.proofs.Lists.{length_unlisted, unlisted_in, unlisted_out}
use Rattle.track_rule.proofs.Loads.{others_there, reads}
use Rattle.track_rule.proofs.LastRead.{stored_on}
use Rattle.track_rule.proofs.Balance.{Moves, free_moved, moved, pass_moved, references_left, same_lines}
use Rattle.track_rule.proofs.Sums.{total_term}

-- the turn's word is no other one
module _ (z : Sizes) (ws : List ℕ) (n : ℕ) where
  turn_quiet : Quiet z ws (slice_set ws 1 n)
  turn_quiet k other apart = get_or-set_other ws 1 k n 0 other

  turn_refs : (p : ℕ) → refs_at z (slice_set ws 1 n) p ≡ refs_at z ws p
  turn_refs p = get_or-set_other ws 1 (refs_word z p) n 0 (λ e. omega (arith, e))

  turn_phase : (p : ℕ) → phase_at z (slice_set ws 1 n) p ≡ phase_at z ws p
  turn_phase p = get_or-set_other ws 1 (phase_word z p) n 0 (λ e. omega (arith, e))

module _ (l : Ledger) (s : State Slot View) (id : ℕ) (v : View) (h : IsKept v.passes.sizes l s) (at : get_elem? s.views id ≡ some v)
    (has_some : 0 < v.passes.shares) where
  long : 1 < length s.words
  long = omega (arith, h.count)

  -- taking it where it is free
  took : (list : Roomed ℕ) → list.items ≡ l.free → v.free ≡ None → slice_index s.words 1 ≡ 0
      → IsKept v.passes.sizes l (record { words = slice_set s.words 1 1; homes = slice_set s.homes 0 none; views = set s.views id (with_turn list.items v) })
  took list same calm free =
      let w : View = with_turn list.items v in
      let p : IsPass v.passes.sizes l.log v = h.passes.each id v at in
      let m : Moves v w = record { made = record { passes = refl; own = refl; gathered = refl }; commit = refl; expected = refl } in
      let now : slice_index (slice_set s.words 1 1) 1 ≡ 1 = get_or-set_same s.words 1 1 0 long in
      let before : has_turn v ≡ 0 = ap turn_of calm in
      moved v.passes.sizes l s id v w (slice_set s.words 1 1) (slice_set s.homes 0 none) l.free h at m
      (pass_moved v.passes.sizes l.log v w p m.made has_some p.front p.told) (turn_quiet v.passes.sizes s.words 1) (length-set s.words 1 1)
      (λ k other. set_else s.homes 0 k none other)
      (references_left v.passes.sizes l.log s.words (slice_set s.words 1 1) s.views id v w at refl refl refl refl (turn_refs v.passes.sizes s.words 1)
      (turn_phase v.passes.sizes s.words 1) h.references)
      (free_moved v.passes.sizes s.words (slice_set s.words 1 1) s.homes (slice_set s.homes 0 none) s.views id v w l.free l.free at (record {
        once = λ q below. ap (λ (n : ℕ). times q l.free + owes q v + min n 1) (turn_refs v.passes.sizes s.words 1 q);
        beyond = λ q above. refl;
        idle = λ q on. turn_phase v.passes.sizes s.words 1 q ∙ h.free_list.idle q on;
        phases = turn_phase v.passes.sizes s.words 1;
        turn = omega (arith, now, free, before);
        single = omega (arith, now);
        home = λ none_has. absurd (omega (arith, none_has, now));
        others = inl refl;
        away = λ other e. let shown : Some list.items ≡ Some other = e in some_same list.items other l.free shown same;
        few = h.free_list.few id v at;
        clear = λ q on. let c = h.free_list.clear id v at q on in (c.0, turn_phase v.passes.sizes s.words 1 q ∙ c.1);
        owned = λ q on. let c = h.free_list.owned id v at q on in (c.0, turn_phase v.passes.sizes s.words 1 q ∙ c.1);
        ended = λ q on. let c = h.free_list.ended id v at q on in (c.0, turn_phase v.passes.sizes s.words 1 q ∙ c.1);
      }) h.free_list) (same_lines v.passes.sizes l s id v w h at refl (λ q. omega arith) (λ q. omega arith) refl refl)
      (stored_on v.passes.sizes l.log s.words s.views id 1 1 v w h.passes at has_some long (record { reading = stored 1 1; more = refl; word = refl; value = refl }) h.readings) (h.commits id v at)
      (words_same v.passes.sizes l.log s.words s.views id v w at refl h.kept_words)
    where
      some_same : (a b f : List ℕ) → Some a ≡ Some b → a ≡ f → b ≡ f
      some_same a b f e x = cc

  -- what it tells
  told : (c : List (ℕ × Slot)) (list : Roomed ℕ) → list.items ≡ l.free → v.passes.sizes.entries ≤ list.room → slice_index s.words 1 ≡ 0
      → TookFree v c (with_turn list.items v) ((0, Free list) ∷ c)
  told c list same room free = record {
    view = refl;
    out = refl;
    room = room;
    fits = few_places v.passes.sizes.entries list.items v.places.owed
        (λ q below. omega (arith, h.free_list.once q below, mine q, ap (times q) same))
        (λ q above. omega (arith, h.free_list.beyond q above, mine q, ap (times q) same));
    apart = λ q.
        ⊎_elim
        (λ (e : q < v.passes.sizes.entries).
        omega (arith, h.free_list.once q e, mine q, ap (times q) same, h.references.counted q e, total_term (keeps q) s.views id v at))
        (λ (e : v.passes.sizes.entries ≤ q).
        omega (arith, h.free_list.beyond q e, mine q, ap (times q) same, h.references.beyond q e, total_term (keeps q) s.views id v at))
        (cases_lt q v.passes.sizes.entries);
    below = λ q above. omega (arith, h.free_list.beyond q above, mine q, ap (times q) same);
    clear = λ q on. (h.free_list.clear id v at q on).0;
    sole = λ one. sym (h.readings one id v at has_some 1) ∙ free;
    unused = λ log one own q any.
        subst (λ es. total (of_place q) (records_after es) ≡ 0) (notes_same 0 l.log log (sym ((h.passes.each id v at).alone one has_some) ∙ own))
        (unused q (omega (arith, any, mine q, ap (times q) same)));
  }
    where
      mine : (q : ℕ) → owes q v ≤ total (owes q) s.views
      mine q = total_term (owes q) s.views id v at

      -- a place without references has no live record
      unused : (q : ℕ) → 0 < times q l.free + total (owes q) s.views → total (of_place q) (records_after l.log) ≡ 0
      unused q any =
          ⊎_elim (λ (e : q < v.passes.sizes.entries). no_record_there v.passes.sizes l s h id v at q e (omega (arith, any, h.free_list.once q e)))
          (λ (e : v.passes.sizes.entries ≤ q). absurd (omega (arith, any, h.free_list.beyond q e))) (cases_lt q v.passes.sizes.entries)

  -- where another pass has it nothing changes
  missed : slice_index s.words 1 ≢ 0
      → IsKept v.passes.sizes l (record { words = slice_set s.words 1 (slice_index s.words 1); homes = s.homes; views = set s.views id (noted (found 1 1) v) })
  missed other =
      let w : View = noted (found 1 1) v in
      let p : IsPass v.passes.sizes l.log v = h.passes.each id v at in
      let m : Moves v w = record { made = record { passes = refl; own = refl; gathered = refl }; commit = refl; expected = refl } in
      reads v.passes.sizes l s id 1 v w h at m (pass_moved v.passes.sizes l.log v w p m.made has_some p.front p.told) refl refl
      (same_lines v.passes.sizes l s id v w h at refl (λ q. omega arith) (λ q. omega arith) refl refl) has_some
      (record { reading = found 1 1; more = refl; word = refl; value = omega (arith, other, h.free_list.single) })

  -- giving it back with this list
  gave : (list : Roomed ℕ) → (free : List ℕ) → v.free ≡ Some free → CanGive v list → 0 < length s.homes
      → IsKept v.passes.sizes (record l { free = list.items })
      (record { words = slice_set s.words 1 0; homes = slice_set s.homes 0 (some (Free list)); views = set s.views id (gave_free list.items v) })
  gave list free has can homes =
      let w : View = gave_free list.items v in
      let p : IsPass v.passes.sizes l.log v = h.passes.each id v at in
      let m : Moves v w = record { made = record { passes = refl; own = refl; gathered = refl }; commit = refl; expected = refl } in
      let now : slice_index (slice_set s.words 1 0) 1 ≡ 0 = get_or-set_same s.words 1 0 0 long in
      let mine : has_turn v ≡ 1 = ap turn_of has in
      let known : known_free v ≡ l.free = ap (λ (o : Option (List ℕ)). unwrap_or o []) has ∙ h.free_list.away id v at free has in
      moved v.passes.sizes l s id v w (slice_set s.words 1 0) (slice_set s.homes 0 (some (Free list))) list.items h at m
      (pass_moved v.passes.sizes l.log v w p m.made has_some p.front p.told) (turn_quiet v.passes.sizes s.words 0) (length-set s.words 1 0)
      (λ k other. set_else s.homes 0 k (some (Free list)) other)
      (references_left v.passes.sizes l.log s.words (slice_set s.words 1 0) s.views id v w at refl refl refl refl (turn_refs v.passes.sizes s.words 0)
      (turn_phase v.passes.sizes s.words 0) h.references)
      (free_moved v.passes.sizes s.words (slice_set s.words 1 0) s.homes (slice_set s.homes 0 (some (Free list))) s.views id v w l.free list.items at (record {
        once = λ q below. omega (arith, can.whole q, ap (times q) known, turn_refs v.passes.sizes s.words 0 q);
        beyond = λ q above. omega (arith, can.whole q, ap (times q) known);
        idle = λ q on. turn_phase v.passes.sizes s.words 0 q ∙
            ⊎_elim
            (λ (e : 0 < times q v.places.clear). (h.free_list.clear id v at q e).1)
            (λ (e : times q v.places.clear ≤ 0). h.free_list.idle q (omega (arith, on, can.clear q, ap (times q) known, e)))
            (cases_lt 0 (times q v.places.clear));
        phases = turn_phase v.passes.sizes s.words 0;
        turn = omega (arith, now, mine, h.free_list.turn, h.free_list.single, total_term has_turn s.views id v at);
        single = omega (arith, now);
        home = λ none_has. record { list = list; there = set_here s.homes 0 (some (Free list)) homes; same = refl; room = can.room };
        others = inr (omega (arith, mine, h.free_list.turn, h.free_list.single, total_term has_turn s.views id v at));
        away = λ other e. absurd (none-some other e);
        few = omega (arith, h.free_list.few id v at, length_unlisted list.items v.places.owed);
        clear = λ q on.
            ⊎_elim
            (λ (e : is_among q list.items ≡ true). absurd (omega (arith, on, unlisted_in list.items q v.places.clear e)))
            (λ (e : is_among q list.items ≡ false).
            let c = h.free_list.clear id v at q (omega (arith, on, unlisted_out list.items q v.places.clear e)) in
            (omega (arith, c.0, unlisted_out list.items q v.places.owed e), turn_phase v.passes.sizes s.words 0 q ∙ c.1))
            (cases_Bool (is_among q list.items));
        owned = λ q on. let c = h.free_list.owned id v at q on in (c.0, turn_phase v.passes.sizes s.words 0 q ∙ c.1);
        ended = λ q on. let c = h.free_list.ended id v at q on in (c.0, turn_phase v.passes.sizes s.words 0 q ∙ c.1);
      }) h.free_list) (same_lines v.passes.sizes l s id v w h at refl (λ q. omega arith) (λ q. omega arith) refl refl)
      (stored_on v.passes.sizes l.log s.words s.views id 1 0 v w h.passes at has_some long (record { reading = stored 1 0; more = refl; word = refl; value = refl }) h.readings) (h.commits id v at)
      (words_same v.passes.sizes l.log s.words s.views id v w at refl h.kept_words)

-- taking the turn keeps the rule
pub taking : (slots id : ℕ) (v : View) (c : List (ℕ × Slot)) → 0 < v.passes.shares → v.free ≡ None
    → Allows (RuleHolds v.passes.sizes) slots id (v, c) 1 (λ n. either (eqb n 0) 1 n) (TakeStep (step slots 1 0 1 none) (v, c))
taking slots id v c has_some calm s (l, h) sized at range =
    exchanged (slice_index s.words 1) 0 1
    (λ (n : ℕ). (w : View) × (a : Act Slot) × Valid s.homes c a × RuleHolds v.passes.sizes (stepped s 1 n id c w a)
    × TakeStep (step slots 1 0 1 none) (v, c) (slice_index s.words 1) (w, carried_after c a))
    (λ (hit : slice_index s.words 1 ≡ 0).
    let home = h.free_list.home hit in
    let list : Roomed ℕ = home.list in
    let w : View = with_turn list.items v in (
      w,
      takes 0 (Free list),
      home.there,
      (l, took l s id v h at has_some list home.same calm hit),
      subst (λ (b : Bool). TakesFree b v c w ((0, Free list) ∷ c)) (sym (eq-eqb (slice_index s.words 1) 0 hit))
          (told l s id v h at has_some c list home.same home.room hit),
    ))
    (λ (miss : slice_index s.words 1 ≢ 0).
    let w : View = noted (found 1 1) v in (
      w,
      unchanged,
      tt,
      (l, missed l s id v h at has_some miss),
      subst (λ (b : Bool). TakesFree b v c w c) (sym (ne_eqb (slice_index s.words 1) 0 miss)) (record {
        view = refl;
        out = refl;
        others = others_there l s id v h at has_some has_turn (λ u n. ap turn_of n.free) (omega (arith, miss, ap turn_of calm, h.free_list.turn));
      }),
    ))

-- giving it back keeps the rule
pub giving : (slots id : ℕ) (v : View) (free : List ℕ) (list : Roomed ℕ) (c : List (ℕ × Slot)) → 0 < slots → 0 < v.passes.shares → v.free ≡ Some free
    → CanGive v list
    → Allows (RuleHolds v.passes.sizes) slots id (v, (0, Free list) ∷ c) 1 (λ _. 0) (λ _. GiveStep (step slots 1 0 0 none) (v, (0, Free list) ∷ c) 0)
giving slots id v free list c some_slots has_some has can s (l, h) sized at range = (
  gave_free list.items v,
  gives,
  tt,
  (record l { free = list.items }, gave l s id v h at has_some list free has can (omega (arith, some_slots, sized))),
  (refl, refl),
)

pub giving_back : (slots id : ℕ) (me : Me Slot View) → 0 < slots → 0 < me.0.passes.shares → is_some me.0.free ≡ true
    → me.1 ≡ (0, Free (list_in me.1)) ∷ rest me.1 → CanGive me.0 (list_in me.1)
    → Allows (RuleHolds me.0.passes.sizes) slots id me 1 (λ _. 0) (λ _. GiveStep (step slots 1 0 0 none) me 0)
giving_back slots id me some_slots has_some turn out can =
    let list : Roomed ℕ = list_in me.1 in
    let known : (free : List ℕ) × (me.0.free ≡ Some free) = known_list me.0.free turn in
    let family : List (ℕ × Slot) → Type 0 = λ c.
    Allows (RuleHolds me.0.passes.sizes) slots id (me.0, c) 1 (λ _. 0) (λ _. GiveStep (step slots 1 0 0 none) (me.0, c) 0) in
    subst family (sym out) (giving slots id me.0 known.0 list (rest me.1) some_slots has_some known.1 can)
  where
    known_list : (o : Option (List ℕ)) → is_some o ≡ true → (free : List ℕ) × (o ≡ Some free)
    known_list None e = absurd (false≢true e)
    known_list (Some free) e = (free, refl)
