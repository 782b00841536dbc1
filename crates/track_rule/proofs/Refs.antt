-- The references of a place: the first one, one more, and one less.
use Rattle.std.specs.Prelude.{if◌then◌else◌, ◌&&◌, not}
use Rattle.std.proofs.lemmas.Bool.{false≢true}
use Rattle.history_book.specs.Point.{StartsWith}
use Rattle.track_rule.specs.declared.view.Seen.{Seen}
use Rattle.track_rule.specs.declared.view.Purpose.TheVariants.{Taken}
use Rattle.std.proofs.Common.{◌⊎◌, ◌≡◌, ◌≢◌, ℕ, ◌+◌, ◌-◌, ◌%◌, ◌^◌, ◌<◌, ◌≤◌, zero, suc, eqb, true, false, Bool, Option, Some, None, List, [], ◌∷◌, length, refl, sym, ap, subst, ◌∙◌, ⊎_elim, inl, inr, arith, set, eq-eqb, ne_eqb}
use Rattle.std.specs.Prelude.{slice_index, slice_set, min, unwrap_or, ◌==◌}
use Rattle.std.proofs.lemmas.Bool.{and_parts, cases_eq, not-true}
use Rattle.std.proofs.lemmas.List.{get_or-set_other, get_or-set_same, length-set}
use prog.Atomic.{either}
use mathlib.Core.Option.{none, some}
use lib.ListN.{get_elem?}
use Rattle.atomic_table.specs.Table.{Act, Allows, State, Valid, carried_after, keeps as unchanged, step, stepped}
use Rattle.atomic_table.proofs.Lists.{exchanged}
use Rattle.history_book.specs.declared.sizes.Sizes.{Sizes}
use Rattle.track_rule.specs.declared.slot.Slot.{Slot}
use Rattle.track_rule.specs.declared.view.View.{View}
use Rattle.track_rule.specs.Free.{IsHome, has_turn, is_among, known_free, owes, taken_out, turn_of, unlisted}
use Rattle.track_rule.specs.Layout.{phase_at, phase_word, refs_at, refs_word}
use Rattle.track_rule.specs.Passes.{AreFronts, IsPass}
use Rattle.track_rule.specs.Readings.{stored}
use Rattle.track_rule.specs.History.{records_after}
use Rattle.track_rule.specs.Phases.{middle_of, middle_weight, of_place}
use Rattle.track_rule.specs.Records.{has_hand}
use Rattle.track_rule.specs.References.{AreKept, ends, held_times, is_at, is_for_new, is_held, is_taken, keeps, taken_times, takes, without}
use Rattle.track_rule.specs.Rule.{RuleHolds, IsKept, Ledger}
use Rattle.track_rule.specs.Steps.{IsCount, LowerStep, LowersRefs, OpenStep, Opens, RaiseStep, RaisedRefs, RaisesRefs, first_ref, is_second, keep, let_go, let_go_of, opened, owed_then, raised, read_refs}
use Rattle.track_rule.specs.Sums.{bit, times, total}
use Rattle.track_rule.proofs.Frames.{Quiet, middle_more}
use Rattle.track_rule.proofs.KeptWords.{words_opened, words_same, words_testing, words_without}
use Rattle.track_rule.specs.KeptWords.{AreKeptWords}
use Rattle.track_rule.proofs.LastRead.{ReadsAt, stored_on}
use Rattle.track_rule.specs.declared.view.Middle.{Middle}
use Rattle.track_rule.specs.declared.view.Middle.TheVariants.{Calm}
use Rattle.track_rule.specs.Commits.{IsMiddle, IsMiddleOf}
use Rattle.track_rule.proofs.Lists.{bit_low, kept_without, length_without, other_bit, other_taken, other_without, same_bit, same_taken, same_without, taken_else, takes_held, takes_other, takes_testing, takes_without, total_none, total_some, unlisted_else, unlisted_less, unlisted_low}
use Rattle.track_rule.proofs.Loads.{one_place, refs_read, refs_told}
use Rattle.track_rule.proofs.Balance.{Lines, Moves, free_moved, moved, pass_moved, references_moved, same_lines}
use Rattle.track_rule.proofs.Hooks.{ended_lines, hooks_new, lowered_lines, new_hooks, no_record_there, none_ended, opened_lines, still_owned}
use Rattle.track_rule.specs.Links.{is_up}
use Rattle.track_rule.proofs.Sums.{total_le, total_term}

-- the references word of one place
module _ (z : Sizes) (ws : List ℕ) (p n : ℕ) where
  refs_quiet : Quiet z ws (slice_set ws (refs_word z p) n)
  refs_quiet k other apart = get_or-set_other ws (refs_word z p) k n 0 (apart p)

  refs_turn : slice_index (slice_set ws (refs_word z p) n) 1 ≡ slice_index ws 1
  refs_turn = get_or-set_other ws (refs_word z p) 1 n 0 (λ e. omega (arith, e))

  refs_else : (q : ℕ) → q ≢ p → refs_at z (slice_set ws (refs_word z p) n) q ≡ refs_at z ws q
  refs_else q other = get_or-set_other ws (refs_word z p) (refs_word z q) n 0 (λ e. other (one_place z q p e))

  refs_phase : (q : ℕ) → phase_at z (slice_set ws (refs_word z p) n) q ≡ phase_at z ws q
  refs_phase q = get_or-set_other ws (refs_word z p) (phase_word z q) n 0 (λ e. omega (arith, e))

  refs_here : refs_word z p < length ws → refs_at z (slice_set ws (refs_word z p) n) p ≡ n
  refs_here low = get_or-set_same ws (refs_word z p) n 0 low

-- The view changes in its places, the free list and the readings: what it keeps and owes changes at one place alone.
pub record RefsMove (v w : View) (p n : ℕ) (free free' : List ℕ) (before : ℕ) : Type 0 where
  pub moves : Moves v w
  pub seen : w.seen ≡ v.seen
  pub keeps_here : n + keeps p v ≡ before + keeps p w
  pub keeps_else : (q : ℕ) → q ≢ p → keeps q w ≡ keeps q v
  pub once_here : times p free' + owes p w + min n 1 ≡ times p free + owes p v + min before 1
  pub once_else : (q : ℕ) → q ≢ p → times q free' + owes q w ≡ times q free + owes q v
  pub fewer : (q : ℕ) → times q free' ≤ times q free
  pub carried : (q : ℕ) → times q w.places.carried ≤ held_times q w.places.held
  pub carried_for : (q : ℕ) → times q w.places.carried ≤ takes q w + middle_of (of_place q) w + ends q w
  pub turn : has_turn w ≡ has_turn v
  pub holder : (free' ≡ free) ⊎ (has_turn v ≡ 1)
  pub away : (list : List ℕ) → w.free ≡ Some list → list ≡ free'
  pub few : length w.places.held + length w.places.owed ≤ 4
  pub clear : w.places.clear ≡ v.places.clear
  pub owed : (q : ℕ) → 0 < times q v.places.owed → 0 < times q w.places.owed
  pub owned : (q : ℕ) → 0 < times q w.places.owned → (0 < takes q w) × (0 < times q v.places.owned)
  pub ended : (q : ℕ) → 0 < times q w.places.ended → (0 < times q w.places.carried) × (0 < times q v.places.ended)

-- a references word becomes n, and the view changes so
pub counts : (z : Sizes) (l : Ledger) (s : State Slot View) (id p n : ℕ) (v w : View) (free' : List ℕ) → IsKept z l s → get_elem? s.views id ≡ some v
    → 0 < v.passes.shares → p < z.entries → RefsMove v w p n l.free free' (refs_at z s.words p) → Lines z l s id v w
    → ((q : ℕ) → total (takes q) s.views + total (ends q) s.views + total (of_place q) (records_after l.log) + takes q w + ends q w ≤ 1 + takes q v + ends q v) → AreKept l.log w.places.held → IsMiddleOf z l.log w
    → ReadsAt (refs_word z p) n v w → AreKeptWords z l.log s.words (set s.views id w)
    → IsKept z (record l { free = free' }) (record { words = slice_set s.words (refs_word z p) n; homes = s.homes; views = set s.views id w })
counts z l s id p n v w free' h at has_some below t lines taken purposes middle read words =
    let one : IsPass z l.log v = h.passes.each id v at in
    let ws : List ℕ = s.words in
    let now : refs_at z (slice_set ws (refs_word z p) n) p ≡ n = refs_here z ws p n (omega (arith, h.count, below)) in
    moved z l s id v w (slice_set ws (refs_word z p) n) s.homes free' h at t.moves
    (pass_moved z l.log v w one t.moves.made has_some (subst (λ (x : Seen). StartsWith l.log x.front) (sym t.seen) one.front)
    (subst (λ (x : Seen). AreFronts l.log x.told) (sym t.seen) one.told))
    (refs_quiet z ws p n) (length-set ws (refs_word z p) n) (λ k other. refl)
    (references_moved z l.log ws (slice_set ws (refs_word z p) n) s.views id v w at (record {
      count = λ q low.
          ⊎_elim
          (λ (e : q ≡ p). subst (λ (x : ℕ). refs_at z (slice_set ws (refs_word z p) n) x + keeps x v ≡ refs_at z ws x + keeps x w) (sym e)
          (omega (arith, now, t.keeps_here)))
          (λ (e : q ≢ p). omega (arith, refs_else z ws p n q e, t.keeps_else q e)) (cases_eq q p);
      beyond = λ q above. t.keeps_else q (λ e. omega (arith, e, above, below));
      phases = refs_phase z ws p n;
      carried = t.carried;
      carried_for = t.carried_for;
      taken = taken;
      purposes = purposes;
    }) h.references)
    (free_moved z ws (slice_set ws (refs_word z p) n) s.homes s.homes s.views id v w l.free free' at (record {
      once = λ q low.
          ⊎_elim
          (λ (e : q ≡ p).
          subst (λ (x : ℕ). times x free' + owes x w + min (refs_at z (slice_set ws (refs_word z p) n) x) 1 ≡ times x l.free + owes x v + min (refs_at z ws x) 1) (sym e)
          (ap (λ (k : ℕ). times p free' + owes p w + min k 1) now ∙ t.once_here))
          (λ (e : q ≢ p). omega (arith, ap (λ (k : ℕ). min k 1) (refs_else z ws p n q e), t.once_else q e)) (cases_eq q p);
      beyond = λ q above. t.once_else q (λ e. omega (arith, e, above, below));
      idle = λ q on. refs_phase z ws p n q ∙ h.free_list.idle q (omega (arith, on, t.fewer q));
      phases = refs_phase z ws p n;
      turn = omega (arith, refs_turn z ws p n, t.turn);
      single = omega (arith, refs_turn z ws p n, h.free_list.single);
      home = λ none_has.
          ⊎_elim
          (λ (e : free' ≡ l.free). subst (IsHome z s.homes) (sym e) (h.free_list.home (sym (refs_turn z ws p n) ∙ none_has)))
          (λ (e : has_turn v ≡ 1).
          absurd (omega (arith, none_has, refs_turn z ws p n, h.free_list.turn, e, total_term has_turn s.views id v at)))
          t.holder;
      others =
          ⊎_elim (λ (e : free' ≡ l.free). inl e)
          (λ (e : has_turn v ≡ 1). inr (omega (arith, h.free_list.turn, h.free_list.single, e, total_term has_turn s.views id v at))) t.holder;
      away = t.away;
      few = t.few;
      clear = λ q on.
          let c = h.free_list.clear id v at q (omega (arith, on, ap (times q) t.clear)) in
          (t.owed q c.0, refs_phase z ws p n q ∙ c.1);
      owned = λ q on.
          let c = t.owned q on in
          (c.0, refs_phase z ws p n q ∙ (h.free_list.owned id v at q c.1).1);
      ended = λ q on.
          let c = t.ended q on in
          (c.0, refs_phase z ws p n q ∙ (h.free_list.ended id v at q c.1).1);
    }) h.free_list) lines (stored_on z l.log ws s.views id (refs_word z p) n v w h.passes at has_some (omega (arith, h.count, below)) read h.readings) middle words

-- the first reference to a place from the free list
pub opening : (slots id p : ℕ) (v : View) (c : List (ℕ × Slot)) → p < v.passes.sizes.entries → 0 < v.passes.shares
    → is_among p (known_free v) ≡ true → length v.places.held + length v.places.owed ≤ 3
    → Allows (RuleHolds v.passes.sizes) slots id (v, c) (refs_word v.passes.sizes p) (λ _. 1)
    (λ _. OpenStep (step slots (refs_word v.passes.sizes p) 1 0 none) (v, c) 1)
opening slots id p v c below has_some on room s (l, h) sized at range =
    let z : Sizes = v.passes.sizes in
    let w : View = opened p (new_hooks v.passes.sizes s.words p v.buckets.hooks) v in
    let turn : has_turn v ≡ 1 = has_list v.free p on in
    let known : known_free v ≡ l.free = of_turn v l.free turn (h.free_list.away id v at) in
    let there : is_among p l.free ≡ true = sym (ap (is_among p) known) ∙ on in
    let counted : 1 ≤ times p l.free = total_some (λ q. q == p) l.free there in
    let once = h.free_list.once p below in
    let nobody : refs_at z s.words p ≡ 0 = none_left (times p l.free) (total (owes p) s.views) (refs_at z s.words p) once counted in
    let mine : keeps p v ≤ total (keeps p) s.views = total_term (keeps p) s.views id v at in
    let owing : owes p v ≤ total (owes p) s.views = total_term (owes p) s.views id v at in
    let not_held : keeps p v ≡ 0 = omega (arith, nobody, h.references.counted p below, mine) in
    let not_owed : owes p v ≡ 0 = omega (arith, once, counted, owing) in
    let taken : known_free v ≡ l.free = known in (
      w,
      unchanged,
      tt,
      (
        record l { free = taken_out p (known_free v) },
        counts z l s id p 1 v w (taken_out p (known_free v)) h at has_some below (record {
          moves = record { made = record { passes = refl; own = refl; gathered = refl }; commit = refl; expected = refl };
          seen = refl;
          keeps_here = omega (arith, nobody, same_bit p p refl);
          keeps_else = λ q other. omega (arith, other_bit p q (λ e. other (sym e)));
          once_here = omega (arith, nobody, ap (times p) known, same_taken p (known_free v) on);
          once_else = λ q other. omega (arith, ap (times q) known, other_taken p q (known_free v) on (λ e. other (sym e)));
          fewer = λ q. ⊎_elim (λ (e : p ≡ q). subst (λ (x : ℕ). times x (taken_out p (known_free v)) ≤ times x l.free) e
              (omega (arith, ap (times p) known, same_taken p (known_free v) on)))
              (λ (e : p ≢ q). omega (arith, ap (times q) known, other_taken p q (known_free v) on e)) (cases_eq p q);
          carried = λ q. omega (arith, h.references.carried id v at q);
          carried_for = λ q. omega (arith, h.references.carried_for id v at q);
          turn = sym turn;
          holder = inr turn;
          away = λ list e. some_injective_list (taken_out p (known_free v)) list e;
          few = omega (arith, room);
          clear = refl;
          owed = λ q any. any;
          owned = λ q on. (omega (arith, (h.free_list.owned id v at q on).0), on);
          ended = λ q on. ((h.free_list.ended id v at q on).0, on);
        }) (opened_lines z l s h id v at p below nobody)
            (λ q.
            ⊎_elim
            (λ (e : p ≡ q). subst (λ (k : ℕ). total (takes k) s.views + total (ends k) s.views + total (of_place k) (records_after l.log) + takes k w + ends k w ≤ 1 + takes k v + ends k v) e (omega (
              arith,
              no_record_there z l s h id v at p below nobody,
              none_ended z l s h id v at p below nobody,
              takes_low p s.views,
              h.references.counted p below,
              nobody,
              bit_low (is_at p (keep p Taken) && is_for_new Taken),
            )))
            (λ (e : p ≢ q). omega (arith, h.references.taken q, takes_other q p true e)) (cases_eq p q))
            (tt, h.references.purposes id v at) (h.commits id v at) (record { reading = first_ref p v; more = refl; word = refl; value = refl })
            (words_opened z l.log s.words s.views id p v w at refl (omega (arith, h.references.counted p below, nobody)) h.kept_words),
      ),
      λ q same. subst (λ (k : ℕ). Opens k v w × (c ≡ c)) (one_place z p q same)
          (record { view = refl; hooks = hooks_new z s.words p v.buckets.hooks; held = omega (arith, not_held); owed = not_owed }, refl),
    )
  where
    has_list : (o : Option (List ℕ)) (p : ℕ) → is_among p (unwrap_or o []) ≡ true → turn_of o ≡ 1
    has_list None p e = absurd (false≢true e)
    has_list (Some list) p e = refl

    of_turn : (v : View) (free : List ℕ) → has_turn v ≡ 1 → ((list : List ℕ) → v.free ≡ Some list → list ≡ free) → known_free v ≡ free
    of_turn v free turn away = of_option v.free turn away
      where
        of_option : (o : Option (List ℕ)) → turn_of o ≡ 1 → ((list : List ℕ) → o ≡ Some list → list ≡ free) → unwrap_or o [] ≡ free
        of_option None turn away = absurd (omega (arith, turn))
        of_option (Some list) turn away = away list refl

    none_left : (f o n : ℕ) → f + o + min n 1 ≡ 1 → 1 ≤ f → n ≡ 0
    none_left f o zero all any = refl
    none_left f o (suc n) all any = absurd (omega (arith, all, any))

    some_injective_list : (a b : List ℕ) → Some a ≡ Some b → b ≡ a
    some_injective_list a b e = cc

    takes_low : (p : ℕ) (vs : List View) → total (takes p) vs ≤ total (keeps p) vs
    takes_low p vs = total_le (takes p) (keeps p) vs (λ i u at. omega (arith, takes_held p u.places.held))

-- one of three that add up to one, of which the last counts once at most
none_owed : (f o d n : ℕ) → f + o + min n 1 ≡ 1 → d ≤ o → 0 < n → d ≡ 0
none_owed f o d zero all low any = absurd (omega (arith, any))
none_owed f o d (suc n) all low any = omega (arith, all, low)

both_some : (m n : ℕ) → 0 < m → 0 < n → min m 1 ≡ min n 1
both_some zero n a b = absurd (omega (arith, a))
both_some (suc m) zero a b = absurd (omega (arith, b))
both_some (suc m) (suc n) a b = omega arith

module _ (slots id p seen : ℕ) (v : View) (c : List (ℕ × Slot)) (below : p < v.passes.sizes.entries) (has_some : 0 < v.passes.shares)
    (some_seen : 0 < seen) (s : State Slot View) (l : Ledger) (h : IsKept v.passes.sizes l s) (at : get_elem? s.views id ≡ some v) where
  -- the second reference of a commit, or one to look what stands there
  raised_hit : (second : Bool) → is_second p v ≡ second → (second ≡ false → length v.places.held + length v.places.owed ≤ 3)
      → refs_at v.passes.sizes s.words p ≡ seen
      → IsKept v.passes.sizes l (record {
        words = slice_set s.words (refs_word v.passes.sizes p) (seen + 1);
        homes = s.homes;
        views = set s.views id (raised second p seen v);
      })
  raised_hit true is room hit =
      let parts = and_parts (is_taken p v.places.held && has_hand p v == 1) (not (is_among p v.places.carried)) is in
      let taking : 1 ≤ takes p v =
      total_some (λ k. is_at p k && is_for_new k.purpose) v.places.held (and_parts (is_taken p v.places.held) (has_hand p v == 1) parts.0).0 in
      let mine : 1 ≤ held_times p v.places.held = omega (arith, takes_held p v.places.held, taking) in
      let none : times p v.places.carried ≡ 0 = total_none (λ q. q == p) v.places.carried (not-true (is_among p v.places.carried) parts.1) in
      counts v.passes.sizes l s id p (seen + 1) v (raised true p seen v) l.free h at has_some below (record {
        moves = record { made = record { passes = refl; own = refl; gathered = refl }; commit = refl; expected = refl };
        seen = refl;
        keeps_here = omega (arith, hit, same_bit p p refl);
        keeps_else = λ q other. omega (arith, other_bit p q (λ e. other (sym e)));
        once_here = ap (λ (k : ℕ). times p l.free + owes p v + k)
            (both_some (seen + 1) (refs_at v.passes.sizes s.words p) (omega arith) (omega (arith, hit, some_seen)));
        once_else = λ q other. refl;
        fewer = λ q. omega arith;
        carried = λ q.
            ⊎_elim
            (λ (e : p ≡ q). subst (λ (k : ℕ). times k (p ∷ v.places.carried) ≤ held_times k v.places.held) e (omega (arith, none, mine, same_bit p p refl)))
            (λ (e : p ≢ q). omega (arith, other_bit p q e, h.references.carried id v at q)) (cases_eq p q);
        carried_for = λ q.
            ⊎_elim
            (λ (e : p ≡ q).
            subst (λ (k : ℕ). times k (p ∷ v.places.carried) ≤ takes k v + middle_of (of_place k) v + ends k v) e
            (omega (arith, none, taking, same_bit p p refl)))
            (λ (e : p ≢ q). omega (arith, other_bit p q e, h.references.carried_for id v at q)) (cases_eq p q);
        turn = refl;
        holder = inl refl;
        away = h.free_list.away id v at;
        few = h.free_list.few id v at;
        clear = refl;
        owed = λ q any. any;
        owned = λ q on. ((h.free_list.owned id v at q on).0, on);
        ended = λ q on. (omega (arith, (h.free_list.ended id v at q on).0), on);
      }) (same_lines v.passes.sizes l s id v (raised true p seen v) h at refl (λ q. omega arith) (λ q. omega arith) refl refl)
      (λ q. omega (arith, h.references.taken q)) (h.references.purposes id v at)
      (middle_more v.passes.sizes l.log v (raised true p seen v) refl refl (λ q. omega arith) (λ b. omega arith) (h.commits id v at))
      (record { reading = stored (refs_word v.passes.sizes p) (seen + 1); more = refl; word = refl; value = refl })
      (words_same v.passes.sizes l.log s.words s.views id v (raised true p seen v) at refl h.kept_words)
  raised_hit false is room hit =
      counts v.passes.sizes l s id p (seen + 1) v (raised false p seen v) l.free h at has_some below (record {
        moves = record { made = record { passes = refl; own = refl; gathered = refl }; commit = refl; expected = refl };
        seen = refl;
        keeps_here = omega (arith, hit, same_bit p p refl);
        keeps_else = λ q other. omega (arith, other_bit p q (λ e. other (sym e)));
        once_here = ap (λ (k : ℕ). times p l.free + owes p v + k)
            (both_some (seen + 1) (refs_at v.passes.sizes s.words p) (omega arith) (omega (arith, hit, some_seen)));
        once_else = λ q other. refl;
        fewer = λ q. omega arith;
        carried = λ q. omega (arith, h.references.carried id v at q);
        carried_for = λ q. omega (arith, h.references.carried_for id v at q, takes_testing q p);
        turn = refl;
        holder = inl refl;
        away = h.free_list.away id v at;
        few = omega (arith, room refl);
        clear = refl;
        owed = λ q any. any;
        owned = λ q on. (omega (arith, (h.free_list.owned id v at q on).0), on);
        ended = λ q on. ((h.free_list.ended id v at q on).0, on);
      }) (same_lines v.passes.sizes l s id v (raised false p seen v) h at refl (λ q. omega arith) (λ q. omega arith) refl refl)
      (λ q. omega (arith, h.references.taken q, takes_testing q p)) (tt, h.references.purposes id v at) (h.commits id v at) (record { reading = stored (refs_word v.passes.sizes p) (seen + 1); more = refl; word = refl; value = refl })
      (words_testing v.passes.sizes l.log s.words s.views id p v (raised false p seen v) at refl h.kept_words)

  raised_tells : refs_at v.passes.sizes s.words p ≡ seen → RaisedRefs p seen v (raised (is_second p v) p seen v)
  raised_tells hit = record {
    view = refl;
    count = subst (λ (n : ℕ). IsCount p n v) hit (refs_told l s id p v h at below has_some);
    owed = none_owed (times p l.free) (total (owes p) s.views) (owes p v) (refs_at v.passes.sizes s.words p) (h.free_list.once p below)
        (total_term (owes p) s.views id v at) (omega (arith, hit, some_seen));
  }

pub raising : (slots id p seen : ℕ) (v : View) (c : List (ℕ × Slot)) → p < v.passes.sizes.entries → 0 < v.passes.shares → 0 < seen
    → (is_second p v ≡ false → length v.places.held + length v.places.owed ≤ 3)
    → Allows (RuleHolds v.passes.sizes) slots id (v, c) (refs_word v.passes.sizes p) (λ n. either (eqb n seen) (seen + 1) n)
    (RaiseStep (step slots (refs_word v.passes.sizes p) seen (seen + 1) none) (v, c))
raising slots id p seen v c below has_some some_seen room s (l, h) sized at range =
    let z : Sizes = v.passes.sizes in
    let word : ℕ = refs_word v.passes.sizes p in
    let n : ℕ = slice_index s.words (refs_word v.passes.sizes p) in
    exchanged (slice_index s.words (refs_word v.passes.sizes p)) seen (seen + 1)
    (λ (m : ℕ). (w : View) × (a : Act Slot) × Valid s.homes c a × RuleHolds v.passes.sizes (stepped s (refs_word v.passes.sizes p) m id c w a)
    × RaiseStep (step slots (refs_word v.passes.sizes p) seen (seen + 1) none) (v, c) (slice_index s.words (refs_word v.passes.sizes p)) (w, carried_after c a))
    (λ (hit : slice_index s.words (refs_word v.passes.sizes p) ≡ seen).
    let w : View = raised (is_second p v) p seen v in
    let told : RaisedRefs p seen v w = raised_tells slots id p seen v c below has_some some_seen s l h at hit in (
      w,
      unchanged,
      tt,
      (l, raised_hit slots id p seen v c below has_some some_seen s l h at (is_second p v) refl room hit),
      λ q same. subst (λ (k : ℕ). RaisesRefs (n == seen) k seen v n w × (c ≡ c)) (one_place z p q same)
          (subst (λ (b : Bool). RaisesRefs b p seen v n w × (c ≡ c)) (sym (eq-eqb n seen hit)) (told, refl)),
    ))
    (λ (miss : slice_index s.words (refs_word v.passes.sizes p) ≢ seen).
    let w : View = read_refs p n v in
    let told : IsCount p n v = refs_told l s id p v h at below has_some in (
      w,
      unchanged,
      tt,
      (l, refs_read l s id p v h at below has_some),
      λ q same. subst (λ (k : ℕ). RaisesRefs (n == seen) k seen v n w × (c ≡ c)) (one_place z p q same)
          (subst (λ (b : Bool). RaisesRefs b p seen v n w × (c ≡ c)) (sym (ne_eqb n seen miss))
          (record { view = refl; other = ne_eqb n seen miss; count = told }, refl)),
    ))

-- one reference less
lowered_word : (n : ℕ) → 0 < n → n < 2 ^ 64 → (n + (2 ^ 64 - 1)) % 2 ^ 64 ≡ n - 1
lowered_word n has_some range = omega (arith, has_some, range)

times_then : (p q n : ℕ) (owed : List ℕ) → times q (owed_then p n owed) ≡ times q owed + bit (n == 1 && p == q)
times_then p q n owed = owed_at (n == 1)
  where
    owed_at : (b : Bool) → times q (if b then p ∷ owed else owed) ≡ times q owed + bit (b && p == q)
    owed_at true = omega arith
    owed_at false = omega arith

length_then : (p n : ℕ) (owed : List ℕ) → length (owed_then p n owed) ≤ length owed + 1
length_then p n owed = long_at (n == 1)
  where
    long_at : (b : Bool) → length (if b then p ∷ owed else owed) ≤ length owed + 1
    long_at true = omega arith
    long_at false = omega arith

-- what is owed at the place, and the references that are left
last_balance : (f d n : ℕ) → 0 < n → f + (d + bit (n == 1)) + min (n - 1) 1 ≡ f + d + min n 1
last_balance f d zero has_some = absurd (omega (arith, has_some))
last_balance f d (suc zero) has_some = omega arith
last_balance f d (suc (suc n)) has_some = omega (arith, other_bit (suc (suc n)) 1 (λ e. omega (arith, e)))

module _ (id p : ℕ) (v : View) (below : p < v.passes.sizes.entries) (has_some : 0 < v.passes.shares) (held : is_held p v.places.held ≡ true)
    (down : is_up p v.buckets.hooks ≡ false) (calm : is_among p v.places.carried ≡ true → v.commit.middle ≡ Calm) (s : State Slot View) (l : Ledger) (h : IsKept v.passes.sizes l s) (at : get_elem? s.views id ≡ some v)
    (some_left : 0 < refs_at v.passes.sizes s.words p) where
  -- the table's reference, or one of the pass's own
  lowered : (carries : Bool) → is_among p v.places.carried ≡ carries → IsKept v.passes.sizes l (record {
    words = slice_set s.words (refs_word v.passes.sizes p) (refs_at v.passes.sizes s.words p - 1);
    homes = s.homes;
    views = set s.views id (let_go_of carries p (refs_at v.passes.sizes s.words p) v);
  })
  lowered true is =
      let n : ℕ = refs_at v.passes.sizes s.words p in
      let some_carried : 1 ≤ times p v.places.carried = total_some (λ q. q == p) v.places.carried is in
      let two : 2 ≤ n =
      omega (arith, h.references.counted p below, total_term (keeps p) s.views id v at, some_carried, h.references.carried id v at p) in
      counts v.passes.sizes l s id p (n - 1) v (let_go_of true p n v) l.free h at has_some below (record {
        moves = record { made = record { passes = refl; own = refl; gathered = refl }; commit = refl; expected = refl };
        seen = refl;
        keeps_here = omega (arith, some_left, same_taken p v.places.carried is);
        keeps_else = λ q other. omega (arith, other_taken p q v.places.carried is (λ e. other (sym e)));
        once_here = ap (λ (k : ℕ). times p l.free + owes p v + k) (both_some (n - 1) n (omega (arith, two)) some_left);
        once_else = λ q other. refl;
        fewer = λ q. omega arith;
        carried = λ q.
            ⊎_elim
            (λ (e : p ≡ q). subst (λ (k : ℕ). times k (taken_out p v.places.carried) ≤ held_times k v.places.held) e
            (omega (arith, h.references.carried id v at p, same_taken p v.places.carried is)))
            (λ (e : p ≢ q). omega (arith, h.references.carried id v at q, other_taken p q v.places.carried is e)) (cases_eq p q);
        carried_for = λ q.
            ⊎_elim
            (λ (e : p ≡ q).
            subst (λ (k : ℕ). times k (taken_out p v.places.carried) ≤ takes k v + middle_of (of_place k) v + times k (unlisted (p ∷ []) v.places.ended)) e
            (omega (
              arith,
              h.references.carried_for id v at p,
              same_taken p v.places.carried is,
              ap (middle_weight (of_place p)) (calm is),
              h.references.taken p,
              total_term (takes p) s.views id v at,
              total_term (ends p) s.views id v at,
            )))
            (λ (e : p ≢ q). omega (
              arith,
              h.references.carried_for id v at q,
              other_taken p q v.places.carried is e,
              unlisted_else p q v.places.ended (λ x. e (sym x)),
            ))
            (cases_eq p q);
        turn = refl;
        holder = inl refl;
        away = h.free_list.away id v at;
        few = h.free_list.few id v at;
        clear = refl;
        owed = λ q any. any;
        owned = λ q on. ((h.free_list.owned id v at q on).0, on);
        ended = λ q on.
            let left = unlisted_less p q v.places.ended on in
            (omega (arith, (h.free_list.ended id v at q left.0).0, other_taken p q v.places.carried is (λ e. left.1 (sym e))), left.0);
      }) (ended_lines v.passes.sizes l s id p n v h at down)
      (λ q. omega (arith, h.references.taken q, unlisted_low p q v.places.ended)) (h.references.purposes id v at)
      (subst (λ (m : Middle). IsMiddle v.passes.sizes l.log m v.commit.hand (taken_out p v.places.carried) v.buckets.shut v.expected) (sym (calm is)) tt)
      (record { reading = stored (refs_word v.passes.sizes p) (n - 1); more = refl; word = refl; value = refl })
      (words_same v.passes.sizes l.log s.words s.views id v (let_go_of true p n v) at refl h.kept_words)
  lowered false is =
      let n : ℕ = refs_at v.passes.sizes s.words p in
      let some_held : 1 ≤ held_times p v.places.held = total_some (is_at p) v.places.held held in
      let none : times p v.places.carried ≡ 0 = total_none (λ q. q == p) v.places.carried is in
      let less : held_times p (without p v.places.held) + 1 ≡ held_times p v.places.held = same_without p v.places.held held in
      counts v.passes.sizes l s id p (n - 1) v (let_go_of false p n v) l.free h at has_some below (record {
        moves = record { made = record { passes = refl; own = refl; gathered = refl }; commit = refl; expected = refl };
        seen = refl;
        keeps_here = omega (arith, some_left, less);
        keeps_else = λ q other. omega (arith, other_without p q v.places.held held (λ e. other (sym e)));
        once_here = omega (arith, times_here p n v.places.owed, last_balance (times p l.free) (owes p v) n some_left);
        once_else = λ q other. omega (arith, times_else p q n v.places.owed other);
        fewer = λ q. omega arith;
        carried = λ q.
            ⊎_elim
            (λ (e : p ≡ q). subst (λ (k : ℕ). times k v.places.carried ≤ held_times k (without p v.places.held)) e (omega (arith, none)))
            (λ (e : p ≢ q). omega (arith, h.references.carried id v at q, other_without p q v.places.held held e)) (cases_eq p q);
        carried_for = λ q.
            ⊎_elim
            (λ (e : p ≡ q).
            subst (λ (k : ℕ). times k v.places.carried ≤ taken_times k (without p v.places.held) + middle_of (of_place k) v + ends k v) e (omega (arith, none)))
            (λ (e : p ≢ q). omega (arith, h.references.carried_for id v at q, taken_else p q v.places.held held (λ x. e (sym x)))) (cases_eq p q);
        turn = refl;
        holder = inl refl;
        away = h.free_list.away id v at;
        few = omega (arith, h.free_list.few id v at, length_without p v.places.held held, length_then p n v.places.owed);
        clear = refl;
        owed = λ q any. omega (arith, any, times_then p q n v.places.owed);
        owned = λ q on.
            let o = still_owned p q v.places.held v.places.owned on in (
              ⊎_elim
                  (λ (e : q ≡ p). subst (λ (k : ℕ). 0 < taken_times k (without p v.places.held)) (sym e)
                  (total_some (λ k. is_at p k && is_for_new k.purpose) (without p v.places.held) (o.1 e)))
                  (λ (e : q ≢ p). omega (arith, taken_else p q v.places.held held e, (h.free_list.owned id v at q o.0).0))
                  (cases_eq q p),
              o.0,
            );
        ended = λ q on. ((h.free_list.ended id v at q on).0, on);
      }) (lowered_lines v.passes.sizes l s id p n v h at some_held less (λ q other. other_without p q v.places.held held (λ e. other (sym e))) down)
      (λ q. omega (arith, h.references.taken q, takes_without q p v.places.held)) (kept_without l.log p v.places.held (h.references.purposes id v at)) (h.commits id v at) (record { reading = stored (refs_word v.passes.sizes p) (n - 1); more = refl; word = refl; value = refl })
      (words_without v.passes.sizes l.log s.words s.views id p v (let_go_of false p n v) at refl h.kept_words)
    where
      times_here : (p n : ℕ) (owed : List ℕ) → times p (owed_then p n owed) ≡ times p owed + bit (n == 1)
      times_here p n owed = times_then p p n owed ∙ ap (λ (b : Bool). times p owed + bit (n == 1 && b)) (eq-eqb p p refl) ∙ both (n == 1)
        where
          both : (b : Bool) → times p owed + bit (b && true) ≡ times p owed + bit b
          both true = refl
          both false = refl

      times_else : (p q n : ℕ) (owed : List ℕ) → q ≢ p → times q (owed_then p n owed) ≡ times q owed
      times_else p q n owed other = times_then p q n owed ∙ ap (λ (b : Bool). times q owed + bit (n == 1 && b)) (ne_eqb p q (λ e. other (sym e))) ∙ neither (n == 1)
        where
          neither : (b : Bool) → times q owed + bit (b && false) ≡ times q owed
          neither true = omega arith
          neither false = omega arith

pub lowering : (slots id p : ℕ) (v : View) (c : List (ℕ × Slot)) → p < v.passes.sizes.entries → 0 < v.passes.shares
    → is_held p v.places.held ≡ true → is_up p v.buckets.hooks ≡ false → (is_among p v.places.carried ≡ true → v.commit.middle ≡ Calm)
    → Allows (RuleHolds v.passes.sizes) slots id (v, c) (refs_word v.passes.sizes p) (λ n. (n + (2 ^ 64 - 1)) % 2 ^ 64)
    (LowerStep (step slots (refs_word v.passes.sizes p) 1 0 none) (v, c))
lowering slots id p v c below has_some held down calm s (l, h) sized at range =
    let z : Sizes = v.passes.sizes in
    let n : ℕ = slice_index s.words (refs_word z p) in
    let w : View = let_go p n v in
    let told : IsCount p n v = refs_told l s id p v h at below has_some in
    let some_held : 1 ≤ held_times p v.places.held = total_some (is_at p) v.places.held held in
    let some_left : 0 < n = omega (arith, told.own, some_held) in
    let owing : owes p v ≤ total (owes p) s.views = total_term (owes p) s.views id v at in
    let not_owed : owes p v ≡ 0 = none_owed (times p l.free) (total (owes p) s.views) (owes p v) n (h.free_list.once p below) owing some_left in
    let next : (n + (2 ^ 64 - 1)) % 2 ^ 64 ≡ n - 1 = lowered_word n some_left range in (
      w,
      unchanged,
      tt,
      (
        l,
        subst (λ (k : ℕ). IsKept z l (record { words = slice_set s.words (refs_word z p) k; homes = s.homes; views = set s.views id w })) (sym next)
            (lowered id p v below has_some held down calm s l h at some_left (is_among p v.places.carried) refl),
      ),
      λ q same. subst (λ (k : ℕ). LowersRefs k v n w × (c ≡ c)) (one_place z p q same)
          (record { view = refl; some = some_left; count = told; mine = some_held; owed = not_owed }, refl),
    )
