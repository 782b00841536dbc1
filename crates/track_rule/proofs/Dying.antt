-- The phase of a place whose entry is live is made DEAD, before the Destroy of its record.
use Rattle.std.proofs.Common.{◌≡◌, ◌≢◌, ℕ, ◌+◌, ◌-◌, ◌<◌, ◌≤◌, true, Option, Some, None, List, [], ◌∷◌, ◌++◌, length, refl, sym, ap, subst, ◌∙◌, ⊎_elim, arith, set}
use Rattle.std.specs.Prelude.{slice_index, slice_set, min, ◌==◌}
use Rattle.std.proofs.lemmas.Bool.{cases_eq}
use Rattle.std.proofs.lemmas.List.{get_or-set_same, length-set}
use mathlib.Core.Option.{none, some}
use lib.ListN.{get_elem?}
use Rattle.atomic_table.specs.Table.{Allows, Me, State, Step, keeps as unchanged, step}
use Rattle.expect_table.specs.declared.expectation.Expectation.{Expectation}
use Rattle.history_book.specs.Laws.{LiveRecordsAreConfirmed}
use Rattle.history_book.specs.State.{record_of}
use Rattle.history_book.specs.declared.record.Record.{Record}
use Rattle.history_book.specs.declared.sizes.Sizes.{Sizes}
use Rattle.track_rule.specs.declared.slot.Slot.{Slot}
use Rattle.track_rule.specs.declared.view.Hand.{Hand}
use Rattle.track_rule.specs.declared.view.Middle.TheVariants.{Calm}
use Rattle.track_rule.specs.declared.view.View.{View}
use Rattle.track_rule.specs.declared.view.Walk.{Walk}
use Rattle.track_rule.specs.Chains.{each_link, hooks_at, loose_of, shuts_of}
use Rattle.track_rule.specs.Commits.{AreCommits, IsMiddleOf}
use Rattle.track_rule.specs.Expected.{has_expected}
use Rattle.track_rule.specs.Free.{IsFreeList, has_turn, owes}
use Rattle.track_rule.specs.History.{records_after, state_after}
use Rattle.track_rule.specs.KillSteps.{DeadStep, IsShutFor, MayDie, shown_dead}
use Rattle.track_rule.specs.Layout.{phase_at, phase_word, refs_at, turn_at}
use Rattle.track_rule.specs.Links.{HasHooks}
use Rattle.track_rule.specs.Passes.{IsPass}
use Rattle.track_rule.specs.Phases.{ArePhases, IsMiddlePhase, middle_of, middle_weight, of_both, of_place, shows, table_keeps}
use Rattle.track_rule.specs.Readings.{stored}
use Rattle.track_rule.specs.Records.{AreRecords, IsHand, has_hand, is_hand_of, record_in}
use Rattle.track_rule.specs.References.{AreKept, AreReferences, ends, held_times, is_at, is_held, keeps, takes}
use Rattle.track_rule.specs.Rule.{RuleHolds, IsKept, Ledger}
use Rattle.track_rule.specs.Slots.{expected_number, free_number, hand_number}
use Rattle.track_rule.specs.Sums.{bit, times, total}
use Rattle.track_rule.specs.TouchSteps.{known_phase, known_record}
use Rattle.track_rule.specs.Walks.{IsWalk}
use Rattle.track_rule.proofs.Balance.{MakesNone, pass_moved, passes_moved}
use Rattle.track_rule.proofs.Carried.{carries_set}
use Rattle.track_rule.proofs.Frames.{SameChains, chains_stay, hooks_stay, links_stay, middle_on, walk_stays}
use Rattle.track_rule.proofs.LastRead.{stored_on}
use Rattle.track_rule.proofs.LivePlaces.{both_shown, found_confirmed, hand_confirmed, live_keeps, none_else, one_place}
use Rattle.track_rule.proofs.KeptWords.{words_left}
use Rattle.track_rule.proofs.Lists.{other_bit, same_bit, total_some}
use Rattle.track_rule.proofs.PhaseMoves.{low_shows, one_phase, phase_else, phase_first, phase_refs, phase_same, phase_turn}
use Rattle.track_rule.proofs.RecordTurns.{hand_there}
use Rattle.track_rule.proofs.Seats.{StaysAt, same_at}
use Rattle.track_rule.proofs.Sums.{each_other, each_put, total_same, total_set, total_term, total_two}

-- what a pass knows that is about to show a record DEAD
pub record KnowsLive (l : Ledger) (s : State Slot View) (v : View) (r : Record) : Type 0 where
  pub below : r.place < v.passes.sizes.entries
  pub held : 0 < held_times r.place v.places.held
  pub apart : times r.place v.places.carried ≡ 0
  pub turn : has_hand r.place v ≡ 1
  pub shown : phase_at v.passes.sizes s.words r.place ≡ 3 + r.id
  pub live : record_of r.id (state_after l.log) ≡ Some r
  pub calm : v.commit.middle ≡ Calm

module _ (l : Ledger) (s : State Slot View) (id : ℕ) (v : View) (r : Record) (h : IsKept v.passes.sizes l s) (at : get_elem? s.views id ≡ some v)
    (has_some : 0 < v.passes.shares) (k : KnowsLive l s v r) (shut : IsShutFor v r) where
  abbrev w : View
  w = shown_dead r.place r v

  abbrev new : List ℕ
  new = slice_set s.words (phase_word v.passes.sizes r.place) 2

  here : phase_at v.passes.sizes new r.place ≡ 2
  here = get_or-set_same s.words (phase_word v.passes.sizes r.place) 2 0 (omega (arith, h.count, k.below))

  calm : (f : Record → ℕ) → middle_of f v ≡ 0
  calm f = ap (middle_weight f) k.calm

  carried_here : times r.place w.places.carried ≡ 1
  carried_here = omega (arith, k.apart, same_bit r.place r.place refl)

  carried_else : (q : ℕ) → q ≢ r.place → times q w.places.carried ≡ times q v.places.carried
  carried_else q other = omega (arith, other_bit r.place q (λ e. other (sym e)))

  dead_references : AreReferences v.passes.sizes l.log new (set s.views id w)
  dead_references =
      let z : Sizes = v.passes.sizes in
      record {
        counted = λ q below.
            ⊎_elim
            (λ (e : q ≡ r.place).
            subst (λ (x : ℕ). refs_at z new x ≡ total (keeps x) (set s.views id w) + table_keeps (phase_at z new x)) (sym e) (omega (
              arith,
              phase_refs z s.words r.place 2 r.place,
              h.references.counted r.place k.below,
              ap table_keeps k.shown,
              live_keeps r.id,
              total_set (keeps r.place) s.views id v w at,
              carried_here,
              k.apart,
              ap table_keeps here,
            )))
            (λ (e : q ≢ r.place). omega (
              arith,
              phase_refs z s.words r.place 2 q,
              h.references.counted q below,
              total_set (keeps q) s.views id v w at,
              carried_else q e,
              ap table_keeps (phase_else z s.words r.place 2 q e),
            ))
            (cases_eq q r.place);
        beyond = λ q above. omega (
          arith,
          h.references.beyond q above,
          total_set (keeps q) s.views id v w at,
          carried_else q (λ e. omega (arith, e, above, k.below)),
        );
        carried = each_put (λ u. (q : ℕ) → times q u.places.carried ≤ held_times q u.places.held) s.views id w h.references.carried
            (λ q.
            ⊎_elim
            (λ (e : q ≡ r.place).
            subst (λ (x : ℕ). times x (r.place ∷ v.places.carried) ≤ held_times x v.places.held) (sym e) (omega (arith, carried_here, k.held)))
            (λ (e : q ≢ r.place). omega (arith, carried_else q e, h.references.carried id v at q))
            (cases_eq q r.place));
        carried_for = each_put (λ u. (q : ℕ) → times q u.places.carried ≤ takes q u + middle_of (of_place q) u + ends q u) s.views id w h.references.carried_for
            (λ q. omega (arith, h.references.carried_for id v at q, calm (of_place q)));
        taken = λ q. omega (arith, h.references.taken q, total_same (takes q) s.views id v w at refl, total_same (ends q) s.views id v w at refl);
        purposes = each_put (λ u. AreKept l.log u.places.held) s.views id w h.references.purposes (h.references.purposes id v at);
      }

  -- what is free, cleared or owned is of another place
  low_else : (q : ℕ) → phase_at v.passes.sizes s.words q ≤ 2 → q ≢ r.place
  low_else q low e = omega (arith, low, ap (phase_at v.passes.sizes s.words) e, k.shown)

  low_stays : (q n : ℕ) → n ≤ 2 → phase_at v.passes.sizes s.words q ≡ n → phase_at v.passes.sizes new q ≡ n
  low_stays q n low e = phase_else v.passes.sizes s.words r.place 2 q (low_else q (omega (arith, e, low))) ∙ e

  dead_free : IsFreeList v.passes.sizes new s.homes (set s.views id w) l.free
  dead_free =
      let z : Sizes = v.passes.sizes in
      let turn : slice_index new 1 ≡ slice_index s.words 1 = phase_first z s.words r.place 2 1 (omega arith) in
      record {
        once = λ q below. omega (
          arith,
          h.free_list.once q below,
          ap (λ (n : ℕ). min n 1) (phase_refs z s.words r.place 2 q),
          total_same (owes q) s.views id v w at refl,
        );
        beyond = λ q above. omega (arith, h.free_list.beyond q above, total_same (owes q) s.views id v w at refl);
        idle = λ q on. low_stays q 0 (omega arith) (h.free_list.idle q on);
        turn = turn ∙ h.free_list.turn ∙ sym (total_same has_turn s.views id v w at refl);
        single = omega (arith, turn, h.free_list.single);
        home = λ free. h.free_list.home (sym turn ∙ free);
        away = each_put (λ u. (list : List ℕ) → u.free ≡ Some list → list ≡ l.free) s.views id w h.free_list.away (h.free_list.away id v at);
        few = each_put (λ u. length u.places.held + length u.places.owed ≤ 4) s.views id w h.free_list.few (h.free_list.few id v at);
        clear = each_put (λ u. (q : ℕ) → 0 < times q u.places.clear → (0 < times q u.places.owed) × (phase_at z new q ≡ 0)) s.views id w
            (λ i u at' q on. let c = h.free_list.clear i u at' q on in (c.0, low_stays q 0 (omega arith) c.1))
            (λ q on. let c = h.free_list.clear id v at q on in (c.0, low_stays q 0 (omega arith) c.1));
        owned = each_put (λ u. (q : ℕ) → 0 < times q u.places.owned → (0 < takes q u) × (phase_at z new q ≡ 1)) s.views id w
            (λ i u at' q on. let c = h.free_list.owned i u at' q on in (c.0, low_stays q 1 (omega arith) c.1))
            (λ q on. let c = h.free_list.owned id v at q on in (c.0, low_stays q 1 (omega arith) c.1));
        ended = each_put (λ u. (q : ℕ) → 0 < times q u.places.ended → (0 < times q u.places.carried) × (phase_at z new q ≡ 2)) s.views id w
            (λ i u at' q on. let c = h.free_list.ended i u at' q on in (c.0, low_stays q 2 (omega arith) c.1))
            (λ q on. let c = h.free_list.ended id v at q on in (omega (arith, c.0), low_stays q 2 (omega arith) c.1));
      }

  dead_phases : ArePhases v.passes.sizes l.log new (set s.views id w)
  dead_phases =
      let z : Sizes = v.passes.sizes in
      record {
        shown = λ q i below.
            ⊎_elim
            (λ (e : q ≡ r.place).
            subst (λ (x : ℕ). total (of_both x i) (records_after l.log) ≡ shows (phase_at z new x) i + total (middle_of (of_both x i)) (set s.views id w)) (sym e) (omega (
              arith,
              h.phases.shown r.place i k.below,
              ap (λ (ph : ℕ). shows ph i) k.shown,
              both_shown r i,
              ap (λ (ph : ℕ). shows ph i) here,
              low_shows 2 i (omega arith),
              calm (of_both r.place i),
              total_set (middle_of (of_both r.place i)) s.views id v w at,
            )))
            (λ (e : q ≢ r.place). omega (
              arith,
              h.phases.shown q i below,
              ap (λ (ph : ℕ). shows ph i) (phase_else z s.words r.place 2 q e),
              calm (of_both q i),
              none_else r q i e,
              total_set (middle_of (of_both q i)) s.views id v w at,
            ))
            (cases_eq q r.place);
        used = λ q below.
            ⊎_elim
            (λ (e : q ≡ r.place).
            subst (λ (x : ℕ). total (of_place x) (records_after l.log) ≡ table_keeps (phase_at z new x) + total (middle_of (of_place x)) (set s.views id w)) (sym e) (omega (
              arith,
              h.phases.used r.place k.below,
              ap table_keeps k.shown,
              live_keeps r.id,
              ap table_keeps here,
              calm (of_place r.place),
              same_bit r.place r.place refl,
              total_set (middle_of (of_place r.place)) s.views id v w at,
            )))
            (λ (e : q ≢ r.place). omega (
              arith,
              h.phases.used q below,
              ap table_keeps (phase_else z s.words r.place 2 q e),
              calm (of_place q),
              other_bit r.place q (λ x. e (sym x)),
              total_set (middle_of (of_place q)) s.views id v w at,
            ))
            (cases_eq q r.place);
        middle = each_other (λ u. IsMiddlePhase z new u.commit.middle) s.views id w
            (λ j u other at'.
            middle_on z l.log s.words new u.commit.middle u.commit.hand u.places.carried u.buckets.shut u.expected (h.commits j u at')
            (λ x n low committing weighs phase. low_stays x.place n low phase) (h.phases.middle j u at'))
            here;
      }

  own_hand : (x : Hand) × (v.commit.hand ≡ Some x) × (x.place ≡ r.place)
  own_hand = hand_there r.place v.commit.hand k.turn

  same_hand : (q : ℕ) → has_hand q w ≡ has_hand q v
  same_hand q = sym (ap (is_hand_of q) own_hand.1 ∙ ap (λ (n : ℕ). bit (n == q)) own_hand.2)

  -- the record of another place
  hand_else : (x : Hand) → x.place ≢ r.place → IsHand v.passes.sizes l.log s.words x → IsHand v.passes.sizes l.log new x
  hand_else x other j =
      let same = phase_else v.passes.sizes s.words r.place 2 x.place other in
      record { below = j.below; shown = λ shown. same ∙ j.shown shown; idle = λ low. omega (arith, j.idle low, same); live = j.live }

  dead_records : AreRecords v.passes.sizes l.log new s.homes (set s.views id w)
  dead_records =
      let z : Sizes = v.passes.sizes in
      record {
        turn = λ q below. phase_turn z s.words r.place 2 q ∙ h.records.turn q below ∙ sym (total_same (has_hand q) s.views id v w at (same_hand q));
        single = λ q. omega (arith, h.records.single q, total_same (has_hand q) s.views id v w at (same_hand q));
        home = λ q below free.
            let was : turn_at z s.words q ≡ 0 = sym (phase_turn z s.words r.place 2 q) ∙ free in
            let other : q ≢ r.place = λ e. omega (
              arith,
              was,
              h.records.turn q below,
              total_term (has_hand q) s.views id v at,
              ap (λ (x : ℕ). has_hand x v) e,
              k.turn,
            ) in
            let j = h.records.home q below was in
            record {
              slot = j.slot;
              there = j.there;
              kind = j.kind;
              live = subst (λ (ph : ℕ). 3 ≤ ph → record_in j.slot ≡ record_of (ph - 3) (state_after l.log)) (sym (phase_else z s.words r.place 2 q other)) j.live;
            };
        away = each_other (λ u. (x : Hand) → u.commit.hand ≡ Some x → IsHand z l.log new x) s.views id w
            (λ j u apart at' x e.
            hand_else x (λ same. omega (
              arith,
              h.records.single r.place,
              total_two (has_hand r.place) s.views id j v u at at' apart,
              k.turn,
              ap (is_hand_of r.place) e,
              same_bit x.place r.place same,
            )) (h.records.away j u at' x e))
            (λ x e. subst (IsHand z l.log new) (one_hand _ x e) (record {
              below = k.below;
              shown = λ shown. absurd (omega (arith, shown));
              idle = λ low. omega (arith, here);
              live = λ shown. absurd (omega (arith, shown));
            }));
      }
    where
      one_hand : (a b : Hand) → Some a ≡ Some b → a ≡ b
      one_hand a b e = cc

  dead_commits : AreCommits v.passes.sizes l.log (set s.views id w)
  dead_commits = each_put (IsMiddleOf v.passes.sizes l.log) s.views id w h.commits (
    record {
      turn = same_bit r.place r.place refl;
      reference = omega (arith, carried_here);
      original = shut.original;
      reply = shut.reply;
      live = k.live;
    },
    shut.helped,
  )

  pub dead_kept : IsKept v.passes.sizes l (record {
    words = slice_set s.words (phase_word v.passes.sizes r.place) 2;
    homes = s.homes;
    views = set s.views id (shown_dead r.place r v);
  })
  dead_kept =
      let z : Sizes = v.passes.sizes in
      let one : IsPass z l.log v = h.passes.each id v at in
      let m : MakesNone v w = record { passes = refl; own = refl; gathered = refl } in
      let same : SameChains z s.words new = phase_same z s.words r.place 2 in
      let expected : slice_index new 2 ≡ slice_index s.words 2 = phase_first z s.words r.place 2 2 (omega arith) in
      record {
        limits = h.limits;
        count = length-set s.words (phase_word z r.place) 2 ∙ h.count;
        passes = passes_moved z l.log s.views id v w at m (pass_moved z l.log v w one m has_some one.front one.told) h.passes;
        history = record { legal = h.history.legal; word = phase_first z s.words r.place 2 0 (omega arith) ∙ h.history.word };
        references = dead_references;
        free_list = dead_free;
        records = dead_records;
        phases = dead_phases;
        commits = dead_commits;
        chains = chains_stay z s.words new same l.log s.views (set s.views id w) l.chains (carries_set (λ (u : View). u.buckets.shut) [] s.views id v w at refl)
            (λ b weight. total_same (loose_of z b weight) s.views id v w at refl)
            (each_put (λ (u : View). (c : ℕ) → c < z.buckets → 0 < loose_of z c each_link u → 0 < shuts_of c u) s.views id w h.chains.home (h.chains.home id v at))
            (λ link any. omega (arith, h.chains.lone link any, total_same (hooks_at link) s.views id v w at refl)) h.chains;
        links =
            let j = hooks_stay z s.words new same.links v.places v.buckets.hooks (h.links.hooks id v at) in
            links_stay z s.words new same s.views (set s.views id w)
            (each_put (λ u. HasHooks z new u.places u.buckets.hooks) s.views id w
            (λ i u at'. hooks_stay z s.words new same.links u.places u.buckets.hooks (h.links.hooks i u at'))
            (record { each = j.each; held = j.held; linked = j.linked; one = j.one })) h.links;
        walks = record {
          each = each_put (λ (u : View). (n : Walk) → u.walk ≡ Some n → IsWalk z new l.chains u.seen.front n) s.views id w
              (λ i u at' n e. walk_stays z s.words new same l.chains u.seen.front n (h.walks.each i u at' n e))
              (λ n e. walk_stays z s.words new same l.chains v.seen.front n (h.walks.each id v at n e));
        };
        readings = stored_on z l.log s.words s.views id (phase_word z r.place) 2 v w h.passes at has_some (omega (arith, h.count, k.below))
            (record { reading = stored (phase_word z r.place) 2; more = refl; word = refl; value = refl }) h.readings;
        kept_words = words_left z l.log s.words s.views id v w at l.log new (λ i e at'. at') (λ p i o. o) same.links refl h.kept_words;
        expected = record {
          turn = expected ∙ h.expected.turn ∙ sym (total_same has_expected s.views id v w at refl);
          single = omega (arith, expected, h.expected.single);
          home = λ free. h.expected.home (sym expected ∙ free);
          away = each_put (λ (u : View). (list : List Expectation) → u.expected ≡ Some list → list ≡ (state_after l.log).expects) s.views id w h.expected.away
              (h.expected.away id v at);
        };
      }

-- what a pass is to know of a place, before it shows it DEAD
pub record AsksDead (place : ℕ) (v : View) : Type 0 where
  pub held : is_held place v.places.held ≡ true
  pub turn : has_hand place v ≡ 1
  pub live : 3 ≤ known_phase v.commit.hand
  pub calm : v.commit.middle ≡ Calm
  pub ready : MayDie v (known_record v.commit.hand)

-- the record that it has is the live one of the place
knows_live : (l : Ledger) (s : State Slot View) (id : ℕ) (v : View) (place : ℕ) (r : Record) → IsKept v.passes.sizes l s → get_elem? s.views id ≡ some v
    → LiveRecordsAreConfirmed → AsksDead place v → known_record v.commit.hand ≡ Some r
    → (r.place ≡ place) × (known_phase v.commit.hand ≡ 3 + r.id) × KnowsLive l s v r
knows_live l s id v place r h at low a known =
    let z : Sizes = v.passes.sizes in
    let own = hand_there place v.commit.hand a.turn in
    let x : Hand = own.0 in
    let j : IsHand z l.log s.words own.0 = h.records.away id v at own.0 own.1 in
    let shown : 3 ≤ own.0.phase = omega (arith, a.live, ap known_phase own.1) in
    let live : record_of (own.0.phase - 3) (state_after l.log) ≡ Some r = sym (j.live shown) ∙ sym (ap known_record own.1) ∙ known in
    let found = found_confirmed z l s h low (own.0.phase - 3) r live in
    let same : r.place ≡ place = one_place l.log (own.0.phase - 3) r.place own.0.place found.1
    (hand_confirmed z l s h low own.0 (own.0.phase - 3) j (omega (arith, shown))) ∙ own.2 in
    let here : own.0.place ≡ r.place = own.2 ∙ sym same in
    let below : r.place < z.entries = omega (arith, j.below, here) in
    let shown_here : phase_at z s.words r.place ≡ 3 + r.id =
    ap (phase_at z s.words) (sym here) ∙ j.shown (omega (arith, shown)) ∙ omega (arith, shown, found.0) in (
      same,
      omega (arith, ap known_phase own.1, shown, found.0),
      record {
        below = below;
        held = subst (λ (q : ℕ). 0 < held_times q v.places.held) (sym same) (total_some (is_at place) v.places.held a.held);
        apart = omega (
          arith,
          h.references.carried_for id v at r.place,
          h.references.taken r.place,
          total_term (takes r.place) s.views id v at,
          total_term (ends r.place) s.views id v at,
          h.phases.used r.place below,
          ap table_keeps shown_here,
          live_keeps r.id,
          ap (middle_weight (of_place r.place)) a.calm,
        );
        turn = ap (λ (q : ℕ). has_hand q v) same ∙ a.turn;
        shown = shown_here;
        live = ap (λ (n : ℕ). record_of n (state_after l.log)) found.0 ∙ live;
        calm = a.calm;
      },
    )

-- the phase of a live entry is made DEAD
showing : (slots id place : ℕ) (v : View) (c : List (ℕ × Slot)) (r : Record) → 0 < v.passes.shares → AsksDead place v → LiveRecordsAreConfirmed
    → known_record v.commit.hand ≡ Some r → IsShutFor v r
    → Allows (RuleHolds v.passes.sizes) slots id (v, c) (phase_word v.passes.sizes place) (λ _. 2)
    (λ _. DeadStep (step slots (phase_word v.passes.sizes place) 2 0 none) (v, c) 2)
showing slots id place v c r has_some a low known shut s (l, h) long at range =
    let z : Sizes = v.passes.sizes in
    let found = knows_live l s id v place r h at low a known in (
      shown_dead place r v,
      unchanged,
      tt,
      (
        l,
        subst (λ (q : ℕ). IsKept z l (record { words = slice_set s.words (phase_word z q) 2; homes = s.homes; views = set s.views id (shown_dead q r v) })) found.0
            (dead_kept l s id v r h at has_some found.2 shut),
      ),
      λ q x word same.
          let place_is : place ≡ q = one_phase z place q word in
          let subject : r ≡ x = one_record r x (sym known ∙ same) in (
            record {
              view = λ k. shown_dead (place_is k) (subject k) v;
              placed = sym (ap (λ (y : Record). y.place) subject) ∙ found.0 ∙ place_is;
              shown = found.1 ∙ ap (λ (y : Record). 3 + y.id) subject;
            },
            refl,
          ),
    )
  where
    one_record : (a b : Record) → Some a ≡ Some b → a ≡ b
    one_record a b e = cc

pub dying : (slots id place : ℕ) (v : View) (c : List (ℕ × Slot)) → 0 < v.passes.shares → AsksDead place v → LiveRecordsAreConfirmed
    → Allows (RuleHolds v.passes.sizes) slots id (v, c) (phase_word v.passes.sizes place) (λ _. 2)
    (λ _. DeadStep (step slots (phase_word v.passes.sizes place) 2 0 none) (v, c) 2)
dying slots id place v c has_some a low = by_record (known_record v.commit.hand) refl a.ready
  where
    by_record : (o : Option Record) → known_record v.commit.hand ≡ o → MayDie v o
        → Allows (RuleHolds v.passes.sizes) slots id (v, c) (phase_word v.passes.sizes place) (λ _. 2)
        (λ _. DeadStep (step slots (phase_word v.passes.sizes place) 2 0 none) (v, c) 2)
    by_record None e ready = absurd ready
    by_record (Some r) e ready = showing slots id place v c r has_some a low e ready

-- the same shares, turns and places
pub stays_dead : (place : ℕ) (s : Step Slot) (me me' : Me Slot View) → has_hand place me.0 ≡ 1 → MayDie me.0 (known_record me.0.commit.hand) → DeadStep s me 2 me'
    → s.word ≡ phase_word me.0.passes.sizes place → StaysAt me.0 me'.0 × (me'.1 ≡ me.1)
stays_dead place s me me' turn ready told word = by_record (known_record me.0.commit.hand) refl ready
  where
    by_record : (o : Option Record) → known_record me.0.commit.hand ≡ o → MayDie me.0 o → StaysAt me.0 me'.0 × (me'.1 ≡ me.1)
    by_record None e k = absurd k
    by_record (Some r) e k =
        let t = told place r word e in
        let hand = hand_there place me.0.commit.hand turn in (
          same_at me.0 me'.0 _ t.0.view (record {
            passes = refl;
            same = λ i. free_number me.0.free ++ ((λ j. (2 + sym hand.2 j) ∷ []) ∙ sym (ap hand_number hand.1)) i ++ expected_number me.0.expected;
            pool = λ x. record { held = x.held; owed = x.owed };
          }),
          t.1,
        )
