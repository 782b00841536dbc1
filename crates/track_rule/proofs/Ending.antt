-- A Destroy keeps the rule: the record is live no longer, and its links are those of the pass.
use Rattle.std.proofs.Common.{◌≡◌, ◌≢◌, ℕ, zero, suc, ◌+◌, ◌*◌, ◌%◌, ◌^◌, ◌<◌, ◌≤◌, Bool, true, false, Option, Some, None, List, [], ◌∷◌, length, map, refl, sym, ap, subst, ◌∙◌, ⊎_elim, arith, set, eq-eqb, ne_eqb, length-append}
use Rattle.std.specs.Prelude.{slice_index, slice_set, ◌==◌, ◌&&◌, find, if◌then◌else◌, is_some, min}
use Rattle.std.proofs.lemmas.Bool.{and_parts, cases_Bool, cases_eq, cases_lt, eqb-true, false≢true}
use mathlib.Core.Option.{some, some-injective}
use lib.ListN.{get_elem?}
use Rattle.atomic_table.specs.Table.{State}
use Rattle.tuple_core.specs.declared.Tuple.{Tuple}
use Rattle.expect_table.specs.Expectations.{without_master}
use Rattle.expect_table.specs.declared.expectation.Expectation.{Expectation}
use Rattle.history_book.specs.History.{is_legal}
use Rattle.history_book.specs.Laws.{LegalHistoriesGoOn, LiveRecordsAreConfirmed, MastersHelpInTheirZone, StatesFollow}
use Rattle.history_book.specs.Legality.{may_destroy}
use Rattle.history_book.specs.Record.{has_id}
use Rattle.history_book.specs.State.{record_of}
use Rattle.history_book.specs.declared.event.Event.{Event}
use Rattle.history_book.specs.declared.event.Event.TheVariants.{Destroy}
use Rattle.history_book.specs.declared.record.Record.{Record}
use Rattle.history_book.specs.declared.sizes.Sizes.{Sizes}
use Rattle.track_rule.specs.declared.slot.Slot.{Slot}
use Rattle.track_rule.specs.declared.view.ChainLink.{ChainLink}
use Rattle.track_rule.specs.declared.view.Hand.{Hand}
use Rattle.track_rule.specs.declared.view.Hook.{Hook}
use Rattle.track_rule.specs.declared.view.Middle.{Middle}
use Rattle.track_rule.specs.declared.view.Middle.TheVariants.{Dying}
use Rattle.track_rule.specs.declared.view.Pair.{Pair}
use Rattle.track_rule.specs.declared.view.View.{View}
use Rattle.track_rule.specs.Chains.{AreChains, bucket_of, each_link, chain_link, hooks_at, links_in, loose_of, original_of, pair_of, reply_of, shuts_of, side}
use Rattle.track_rule.specs.CommitSteps.{told}
use Rattle.track_rule.specs.Commits.{AreCommits, HasItsTurn, IsCommitting, IsMiddle}
use Rattle.track_rule.specs.Expected.{AreExpected, expected_turn, has_expected}
use Rattle.track_rule.specs.Free.{IsFreeList, has_turn, owes}
use Rattle.track_rule.specs.History.{packed, records_after, state_after}
use Rattle.track_rule.specs.KillSteps.{Destroying, MayDestroy, destroyed, loose_hook, with_destroy, without_its}
use Rattle.track_rule.specs.Layout.{first_word, head_word, phase_at, place_of, second_word}
use Rattle.track_rule.specs.Links.{AreLinks, HasHooks, IsHook, IsOwned, last_link}
use Rattle.track_rule.specs.Phases.{ArePhases, IsMiddlePhase, middle_of, middle_weight, of_both, of_place, shows, table_keeps}
use Rattle.track_rule.specs.Readings.{stored}
use Rattle.track_rule.specs.Records.{AreRecords, is_hand_of}
use Rattle.track_rule.specs.References.{AreKept, AreReferences, WasConfirmed, ends, held_times, keeps, takes}
use Rattle.track_rule.specs.Rule.{IsKept, Ledger}
use Rattle.track_rule.specs.Sums.{Each, bit, times, total}
use Rattle.track_rule.proofs.Adding.{event_added}
use Rattle.track_rule.proofs.ChainLists.{chain_each}
use Rattle.track_rule.proofs.Confirms.{bucket_low, state_on}
use Rattle.track_rule.proofs.Events.{get_append, kept_on}
use Rattle.track_rule.proofs.Frames.{SameChains, hooks_stay, links_stay, middle_same}
use Rattle.track_rule.proofs.HistoryWord.{word_other, word_phase, word_refs, word_same}
use Rattle.track_rule.proofs.KeptWords.{words_left, StaysOnly}
use Rattle.track_rule.proofs.Leaving.{length_others, none_expected, others, total_others}
use Rattle.track_rule.proofs.Leaving as leaving
use Rattle.track_rule.proofs.Lists.{counted_there, find_there, other_bit, same_bit, bit_both}
use Rattle.track_rule.proofs.LivePlaces.{both_confirmed, found_confirmed, one_place, own_both}
use Rattle.track_rule.proofs.Named.{chains_both, hooks_else, named_chains, named_here, records_else, shut_else, told_linked, told_mine, told_ordered, told_shuts, told_walks, two_links}
use Rattle.track_rule.proofs.OneRecord.{one_commit, one_record}
use Rattle.track_rule.proofs.UpHooks.{one_only, up_two}
use Rattle.track_rule.proofs.Sums.{each_other, each_put, total_alike, total_le, total_map, total_same, total_set, total_term, total_two}

-- what is expected stays where it is known, or not known
same_turn : (i : ℕ) (o : Option (List Expectation)) → expected_turn (without_its i o) ≡ expected_turn o
same_turn i None = refl
same_turn i (Some list) = refl

-- who has the turn of the expectations, and what it knows of them
some_turn : (o : Option (List Expectation)) → is_some o ≡ true → expected_turn o ≡ 1
some_turn None e = absurd (false≢true e)
some_turn (Some list) e = refl

its_list : (i : ℕ) (o : Option (List Expectation)) (list : List Expectation) → without_its i o ≡ Some list
    → (before : List Expectation) × (o ≡ Some before) × (list ≡ without_master i before)
its_list i None list e = cc
its_list i (Some before) list e = (before, refl, one_list list (without_master i before) e)
  where
    one_list : (a b : List Expectation) → Some b ≡ Some a → a ≡ b
    one_list a b k = cc

-- it is the entry of this link, with this tuple
abbrev is_link_at : ℕ → Pair → ChainLink → Bool
is_link_at link p e = e.link == link && (e.pair.first == p.first && e.pair.second == p.second)

abbrev is_link : ℕ → Pair → ChainLink → ℕ
is_link link p e = bit (is_link_at link p e)

link_weighs : (z : Sizes) (e : ChainLink) → side z (bucket_of z e.pair) (is_link e.link e.pair) e ≡ 1
link_weighs z e =
    ap (λ (k : Bool). if k then is_link e.link e.pair e else 0) (eq-eqb (bucket_of z e.pair) (bucket_of z e.pair) refl)
    ∙ ap bit (λ i. eq-eqb e.link e.link refl i && (eq-eqb e.pair.first e.pair.first refl i && eq-eqb e.pair.second e.pair.second refl i))

each_two : (F : Hook → Type 0) (a b : Hook) (hooks : List Hook) → F a → F b → Each F hooks → Each F (a ∷ b ∷ hooks)
each_two F a b hooks f g all zero x at = subst F (some-injective a x at) f
each_two F a b hooks f g all (suc zero) x at = subst F (some-injective b x at) g
each_two F a b hooks f g all (suc (suc i)) x at = all i x at

-- what no word shows, after a Destroy
abbrev pub ended_ledger : Ledger → Destroying → Record → View → Ledger
ended_ledger l d r v = record l { log = with_destroy l.log d; chains = named_chains r.place None v l.chains }

module _ (l : Ledger) (s : State Slot View) (id : ℕ) (v : View) (d : Destroying) (r : Record) (h : IsKept v.passes.sizes l s) (at : get_elem? s.views id ≡ some v)
    (has_some : 0 < v.passes.shares) (dying : v.commit.middle ≡ Dying r) (may : MayDestroy d v r) (follow : StatesFollow) (go_on : LegalHistoriesGoOn)
    (low : LiveRecordsAreConfirmed) (helped : MastersHelpInTheirZone) where
  abbrev event : Event
  event = Destroy d.id d.why

  abbrev made : List Event
  made = with_destroy l.log d

  abbrev after_it : View
  after_it = destroyed l.log d r v

  abbrev words : List ℕ
  words = slice_set s.words 0 (packed (with_destroy l.log d))

  middle : IsCommitting v.passes.sizes l.log v.commit.hand v.places.carried v.buckets.shut r × HasItsTurn r v.expected
  middle = subst (λ (m : Middle). IsMiddle v.passes.sizes l.log m v.commit.hand v.places.carried v.buckets.shut v.expected) dying (h.commits id v at)

  commit : IsCommitting v.passes.sizes l.log v.commit.hand v.places.carried v.buckets.shut r
  commit = middle.0

  mine : (f : Record → ℕ) → middle_of f v ≡ f r
  mine f = ap (middle_weight f) dying

  some_held : 0 < held_times r.place v.places.held
  some_held = omega (arith, commit.reference, h.references.carried id v at r.place)

  place_below : r.place < v.passes.sizes.entries
  place_below =
      ⊎_elim (λ (e : r.place < v.passes.sizes.entries). e)
      (λ (e : v.passes.sizes.entries ≤ r.place).
      absurd (omega (arith, h.references.beyond r.place e, total_term (keeps r.place) s.views id v at, some_held)))
      (cases_lt r.place v.passes.sizes.entries)

  -- THE RECORD

  pub known_before : record_of d.id (state_after l.log) ≡ Some r
  known_before = ap (λ (n : ℕ). record_of n (state_after l.log)) (sym may.same) ∙ commit.live

  its : WasConfirmed l.log d.id r.place
  its = (found_confirmed v.passes.sizes l s h low d.id r known_before).1

  there : (j : ℕ) × (get_elem? (records_after l.log) j ≡ some r) × (has_id d.id r ≡ true)
  there = find_there (has_id d.id) (records_after l.log) r known_before

  one_live : total (of_place r.place) (records_after l.log) ≡ 1
  one_live = omega (
    arith,
    h.references.taken r.place,
    total_term (of_place r.place) (records_after l.log) there.0 r there.1,
    same_bit r.place r.place refl,
  )

  -- no other one has the id, since it would have the place
  id_place : (x : Record) (j : ℕ) → get_elem? (records_after l.log) j ≡ some x → bit (has_id d.id x) ≤ of_place r.place x
  id_place x j at' =
      ⊎_elim
      (λ (e : x.id ≡ d.id).
      let here : x.place ≡ r.place = one_place l.log d.id x.place r.place
      (both_confirmed l.log x.place d.id (records_after l.log) (low v.passes.sizes l.log (length l.log) h.history.legal).0 (omega (
        arith,
        total_term (of_both x.place d.id) (records_after l.log) j x at',
        own_both x,
        ap (λ (n : ℕ). of_both x.place n x) e,
      ))) its in
      omega (arith, same_bit x.place r.place here, same_bit x.id d.id e))
      (λ (e : x.id ≢ d.id). omega (arith, other_bit x.id d.id e))
      (cases_eq x.id d.id)

  one_id : total (λ (x : Record). bit (has_id d.id x)) (records_after l.log) ≡ 1
  one_id = omega (
    arith,
    one_live,
    total_le (λ (x : Record). bit (has_id d.id x)) (of_place r.place) (records_after l.log) (λ j x at'. id_place x j at'),
    total_term (λ (x : Record). bit (has_id d.id x)) (records_after l.log) there.0 r there.1,
    ap bit there.2,
  )

  records_on : records_after made ≡ others d.id (records_after l.log)
  records_on = ap (λ st. st.records) (state_on follow l.log event)

  expects_on : (state_after made).expects ≡ without_master d.id (state_after l.log).expects
  expects_on = ap (λ st. st.expects) (state_on follow l.log event)

  -- a sum over the live records has one less
  weighs : (f : Record → ℕ) → total f (records_after made) + f r ≡ total f (records_after l.log)
  weighs f = omega (arith, ap (total f) records_on, total_others f d.id (records_after l.log) there.0 r there.1 there.2 one_id)

  pub ended_packed : packed made + 2 ^ 40 ≡ packed l.log + 1
  ended_packed = omega (
    arith,
    length-append l.log (event ∷ []),
    ap length records_on,
    length_others d.id (records_after l.log) there.0 r there.1 there.2 one_id,
  )

  pub end_legal : is_legal v.passes.sizes (with_destroy l.log d) ≡ true
  end_legal =
      go_on v.passes.sizes l.log event h.history.legal (ap (λ (o : Option Record). may_destroy o d.why) known_before ∙ may.reason)

  other_stays : (i : ℕ) → i ≢ d.id → record_of i (state_after made) ≡ record_of i (state_after l.log)
  other_stays i other = ap (find (has_id i)) records_on ∙ leaving.find_others d.id i (records_after l.log) other

  phase_is : phase_at v.passes.sizes s.words r.place ≡ 2
  phase_is = subst (IsMiddlePhase v.passes.sizes s.words) dying (h.phases.middle id v at)

  ended_records : AreRecords v.passes.sizes made words s.homes (set s.views id after_it)
  ended_records =
      one_record l s id v h at low made d.id r.place its commit.turn other_stays after_it (λ q. refl) (λ x e.
      let k = h.records.away id v at x e in
      let here : x.place ≡ r.place = hand_here x (sym (ap (is_hand_of r.place) e) ∙ commit.turn) in
      let was : phase_at v.passes.sizes s.words x.place ≡ 2 = ap (phase_at v.passes.sizes s.words) here ∙ phase_is in
      record {
        below = k.below;
        shown = λ shown. absurd (omega (arith, shown, k.shown shown, was));
        idle = λ idle. omega (arith, word_phase v.passes.sizes s.words (packed made) x.place, was);
        live = λ live. absurd (omega (arith, live, k.shown (omega (arith, live)), was));
      })
    where
      hand_here : (x : Hand) → bit (x.place == r.place) ≡ 1 → x.place ≡ r.place
      hand_here x e =
          ⊎_elim (λ (k : x.place ≡ r.place). k) (λ (k : x.place ≢ r.place). absurd (omega (arith, e, other_bit x.place r.place k))) (cases_eq x.place r.place)

  ended_commits : AreCommits v.passes.sizes made (set s.views id after_it)
  ended_commits = one_commit l s id v h at low made d.id r.place its commit.turn other_stays after_it refl

  ended_references : AreReferences v.passes.sizes made words (set s.views id after_it)
  ended_references =
      let z : Sizes = v.passes.sizes in
      record {
        counted = λ q below. omega (
          arith,
          h.references.counted q below,
          word_refs z s.words (packed made) q,
          ap table_keeps (word_phase z s.words (packed made) q),
          total_same (keeps q) s.views id v after_it at refl,
        );
        beyond = λ q above. total_same (keeps q) s.views id v after_it at refl ∙ h.references.beyond q above;
        carried = each_put (λ u. (q : ℕ) → times q u.places.carried ≤ held_times q u.places.held) s.views id after_it h.references.carried
            (h.references.carried id v at);
        carried_for = each_put (λ u. (q : ℕ) → times q u.places.carried ≤ takes q u + middle_of (of_place q) u + ends q u) s.views id after_it h.references.carried_for
            (λ q. omega (arith, h.references.carried_for id v at q, mine (of_place q)));
        taken = λ q. omega (
          arith,
          h.references.taken q,
          weighs (of_place q),
          total_same (takes q) s.views id v after_it at refl,
          total_set (ends q) s.views id v after_it at,
        );
        purposes = each_put (λ u. AreKept made u.places.held) s.views id after_it
            (λ i u at'. kept_on l.log event u.places.held (h.references.purposes i u at')) (kept_on l.log event v.places.held (h.references.purposes id v at));
      }

  ended_free : IsFreeList v.passes.sizes words s.homes (set s.views id after_it) l.free
  ended_free =
      let z : Sizes = v.passes.sizes in
      let turn : slice_index words 1 ≡ slice_index s.words 1 = word_other z s.words (packed made) 1 (omega arith) in
      record {
        once = λ q below. omega (
          arith,
          h.free_list.once q below,
          ap (λ (k : ℕ). min k 1) (word_refs z s.words (packed made) q),
          total_same (owes q) s.views id v after_it at refl,
        );
        beyond = λ q above. omega (arith, h.free_list.beyond q above, total_same (owes q) s.views id v after_it at refl);
        idle = λ q on. word_phase z s.words (packed made) q ∙ h.free_list.idle q on;
        turn = turn ∙ h.free_list.turn ∙ sym (total_same has_turn s.views id v after_it at refl);
        single = omega (arith, turn, h.free_list.single);
        home = λ calm. h.free_list.home (sym turn ∙ calm);
        away = each_put (λ u. (list : List ℕ) → u.free ≡ Some list → list ≡ l.free) s.views id after_it h.free_list.away (h.free_list.away id v at);
        few = each_put (λ u. length u.places.held + length u.places.owed ≤ 4) s.views id after_it h.free_list.few (h.free_list.few id v at);
        clear = each_put (λ u. (q : ℕ) → 0 < times q u.places.clear → (0 < times q u.places.owed) × (phase_at z words q ≡ 0)) s.views id after_it
            (λ i u at' q on. let c = h.free_list.clear i u at' q on in (c.0, word_phase z s.words (packed made) q ∙ c.1))
            (λ q on. let c = h.free_list.clear id v at q on in (c.0, word_phase z s.words (packed made) q ∙ c.1));
        owned = each_put (λ u. (q : ℕ) → 0 < times q u.places.owned → (0 < takes q u) × (phase_at z words q ≡ 1)) s.views id after_it
            (λ i u at' q on. let c = h.free_list.owned i u at' q on in (c.0, word_phase z s.words (packed made) q ∙ c.1))
            (λ q on. let c = h.free_list.owned id v at q on in (c.0, word_phase z s.words (packed made) q ∙ c.1));
        ended = each_put (λ u. (q : ℕ) → 0 < times q u.places.ended → (0 < times q u.places.carried) × (phase_at z words q ≡ 2)) s.views id after_it
            (λ i u at' q on. let c = h.free_list.ended i u at' q on in (c.0, word_phase z s.words (packed made) q ∙ c.1))
            (λ q on.
            ⊎_elim
            (λ (e : r.place ≡ q). (
              subst (λ (k : ℕ). 0 < times k v.places.carried) e commit.reference,
              word_phase z s.words (packed made) q ∙ ap (phase_at z s.words) (sym e) ∙ phase_is,
            ))
            (λ (e : r.place ≢ q).
            let c = h.free_list.ended id v at q (omega (arith, on, other_bit r.place q e)) in (c.0, word_phase z s.words (packed made) q ∙ c.1))
            (cases_eq r.place q));
      }

  ended_phases : ArePhases v.passes.sizes made words (set s.views id after_it)
  ended_phases =
      let z : Sizes = v.passes.sizes in
      record {
        shown = λ q i below. omega (
          arith,
          h.phases.shown q i below,
          ap (λ (ph : ℕ). shows ph i) (word_phase z s.words (packed made) q),
          weighs (of_both q i),
          mine (of_both q i),
          total_set (middle_of (of_both q i)) s.views id v after_it at,
        );
        used = λ q below. omega (
          arith,
          h.phases.used q below,
          ap table_keeps (word_phase z s.words (packed made) q),
          weighs (of_place q),
          mine (of_place q),
          total_set (middle_of (of_place q)) s.views id v after_it at,
        );
        middle = each_put (λ u. IsMiddlePhase z words u.commit.middle) s.views id after_it
            (λ i u at'. middle_same z s.words words (word_phase z s.words (packed made)) u.commit.middle (h.phases.middle i u at')) tt;
      }

  -- THE LINKS

  -- no pass has a link of the place yet
  no_link : (link : ℕ) → 0 < link → place_of link ≡ r.place → total (hooks_at link) s.views ≡ 0
  no_link link any e = omega (arith, h.chains.lone link any, ap (λ (q : ℕ). total (of_place q) (records_after l.log)) e, one_live)

  hooks_elsewhere : (j : ℕ) (u : View) → get_elem? s.views j ≡ some u → Each (λ k. place_of k.link ≢ r.place) u.buckets.hooks
  hooks_elsewhere j u at' i k there' e =
      let is : IsHook v.passes.sizes s.words k = (h.links.hooks j u at').each i k there' in
      omega (
        arith,
        no_link k.link is.some e,
        total_term (hooks_at k.link) s.views j u at',
        total_term (λ (x : Hook). bit (x.link == k.link)) u.buckets.hooks i k there',
        same_bit k.link k.link refl,
      )

  -- nor has another live record the place
  other_places : Each (λ x. x.place ≢ r.place) (records_after made)
  other_places i x at' e = omega (
    arith,
    weighs (of_place r.place),
    one_live,
    same_bit r.place r.place refl,
    total_term (of_place r.place) (records_after made) i x at',
    same_bit x.place r.place e,
  )

  -- a link weighs, once it names no id, what that of the pass weighs
  weighs_loose : (b : ℕ) (f : ChainLink → ℕ)
      → links_in v.passes.sizes b (λ x. f (told r.place None x)) r
      ≡ side v.passes.sizes b f (chain_link (loose_hook (1 + 2 * r.place) r.original)) + side v.passes.sizes b f (chain_link (loose_hook (2 + 2 * r.place) r.reply))
  weighs_loose b f = omega (
    arith,
    ap (λ (x : ChainLink). if bucket_of v.passes.sizes (pair_of r.original) == b then f x else 0) (named_here r.place None (original_of r) (omega arith)),
    ap (λ (x : ChainLink). if bucket_of v.passes.sizes (pair_of r.reply) == b then f x else 0) (named_here r.place None (reply_of r) (omega arith)),
  )

  -- a chain that is told
  told_weighs : (b : ℕ) → b < v.passes.sizes.buckets → (f : ChainLink → ℕ)
      → total f (map (told r.place None) (l.chains b)) ≡ total (links_in v.passes.sizes b f) (records_after made) + total (loose_of v.passes.sizes b f) (set s.views id after_it)
  told_weighs b below f =
      let z : Sizes = v.passes.sizes in
      omega (
        arith,
        total_map f (told r.place None) (l.chains b),
        h.chains.chained b below (λ e. f (told r.place None e)),
        weighs (links_in z b (λ e. f (told r.place None e))),
        records_else r.place None z b f (records_after made) other_places,
        weighs_loose b f,
        total_alike (loose_of z b (λ e. f (told r.place None e))) (loose_of z b f) s.views
            (λ j u at'. hooks_else r.place None z b f u.buckets.hooks (hooks_elsewhere j u at')),
        total_set (loose_of z b f) s.views id v after_it at,
      )

  -- one that is not
  else_weighs : (b : ℕ) → b < v.passes.sizes.buckets → shuts_of b v ≡ 0 → (f : ChainLink → ℕ)
      → total f (l.chains b) ≡ total (links_in v.passes.sizes b f) (records_after made) + total (loose_of v.passes.sizes b f) (set s.views id after_it)
  else_weighs b below off f =
      let z : Sizes = v.passes.sizes in
      omega (
        arith,
        h.chains.chained b below f,
        weighs (links_in z b f),
        shut_else z b r.original v commit.original off f (original_of r) refl,
        shut_else z b r.reply v commit.reply off f (reply_of r) refl,
        shut_else z b r.original v commit.original off f (chain_link (loose_hook (1 + 2 * r.place) r.original)) refl,
        shut_else z b r.reply v commit.reply off f (chain_link (loose_hook (2 + 2 * r.place) r.reply)) refl,
        total_set (loose_of z b f) s.views id v after_it at,
      )

  -- the pass has shut the buckets of its links
  still_home : (c : ℕ) → c < v.passes.sizes.buckets → 0 < loose_of v.passes.sizes c each_link after_it → 0 < shuts_of c v
  still_home c below any =
      let z : Sizes = v.passes.sizes in
      ⊎_elim (λ (e : bucket_of z (pair_of r.original) ≡ c). subst (λ (k : ℕ). 0 < shuts_of k v) e commit.original)
      (λ (e : bucket_of z (pair_of r.original) ≢ c).
      ⊎_elim (λ (f : bucket_of z (pair_of r.reply) ≡ c). subst (λ (k : ℕ). 0 < shuts_of k v) f commit.reply)
      (λ (f : bucket_of z (pair_of r.reply) ≢ c).
      h.chains.home id v at c below (omega (
        arith,
        any,
        ap {B = ℕ} (λ (k : Bool). if k then 1 else 0) (ne_eqb (bucket_of z (pair_of r.original)) c e),
        ap {B = ℕ} (λ (k : Bool). if k then 1 else 0) (ne_eqb (bucket_of z (pair_of r.reply)) c f),
      )))
      (cases_eq (bucket_of z (pair_of r.reply)) c))
      (cases_eq (bucket_of z (pair_of r.original)) c)

  ended_chains : AreChains v.passes.sizes made words (set s.views id after_it) (named_chains r.place None v l.chains)
  ended_chains =
      let z : Sizes = v.passes.sizes in
      let same : SameChains z s.words words = word_same z s.words (packed made) in
      let shuts = told_shuts z l s id v after_it h at r.place None refl in
      record {
        linked = told_linked z l s id v after_it h at r.place None refl words same;
        ordered = told_ordered z l s id v after_it h at r.place None refl;
        gens = λ b below.
            ap (λ (k : ℕ). k % 2) (same.gens b below) ∙ h.chains.gens b below ∙ sym (total_same (shuts_of b) s.views id v after_it at (shuts b));
        mine = told_mine z l s id v after_it h at r.place None refl;
        chained = λ b below f.
            chains_both r.place None v l.chains b (λ es. total f es ≡ total (links_in z b f) (records_after made) + total (loose_of z b f) (set s.views id after_it))
            (λ off. else_weighs b below off f) (λ on. told_weighs b below f);
        home = each_put (λ (u : View). (c : ℕ) → c < z.buckets → 0 < loose_of z c each_link u → 0 < shuts_of c u) s.views id after_it h.chains.home
            (λ c below any. omega (arith, shuts c, still_home c below any));
        lone = λ link any. omega (
          arith,
          h.chains.lone link any,
          weighs (of_place (place_of link)),
          two_links r.place link any,
          total_set (hooks_at link) s.views id v after_it at,
        );
      }

  -- a link of the record stands in its chain, and the words of its tuple are there
  loose_stands : (link : ℕ) (t : Tuple) → 0 < link → link ≤ last_link v.passes.sizes
      → 1 ≤ links_in v.passes.sizes (bucket_of v.passes.sizes (pair_of t)) (is_link link (pair_of t)) r → IsHook v.passes.sizes s.words (loose_hook link t)
  loose_stands link t any below_last weight =
      let z : Sizes = v.passes.sizes in
      let b : ℕ = bucket_of z (pair_of t) in
      let below : b < z.buckets = bucket_low z (pair_of t) h.limits in
      let found = counted_there (is_link_at link (pair_of t)) (l.chains b) (omega (
        arith,
        h.chains.chained b below (is_link link (pair_of t)),
        total_term (links_in z b (is_link link (pair_of t))) (records_after l.log) there.0 r there.1,
        weight,
      )) in
      let e : ChainLink = found.1 in
      let parts = and_parts (found.1.link == link) (found.1.pair.first == (pair_of t).first && found.1.pair.second == (pair_of t).second) found.3 in
      let words_are = and_parts (found.1.pair.first == (pair_of t).first) (found.1.pair.second == (pair_of t).second) parts.1 in
      let same : found.1.link ≡ link = eqb-true found.1.link link parts.0 in
      let k = chain_each z s.words b (slice_index s.words (head_word z b)) (l.chains b) (h.chains.linked b below) found.0 found.1 found.2 in
      record {
        some = any;
        below = below_last;
        first = ap (λ (n : ℕ). slice_index s.words (first_word z n)) (sym same) ∙ k.first ∙ eqb-true found.1.pair.first (pair_of t).first words_are.0;
        second = ap (λ (n : ℕ). slice_index s.words (second_word z n)) (sym same) ∙ k.second ∙ eqb-true found.1.pair.second (pair_of t).second words_are.1;
        next = λ n down. absurd (false≢true (sym down));
      }

  first_stands : IsHook v.passes.sizes s.words (loose_hook (1 + 2 * r.place) r.original)
  first_stands =
      loose_stands (1 + 2 * r.place) r.original (omega arith) (omega (arith, place_below))
      (omega (arith, link_weighs v.passes.sizes (original_of r)))

  second_stands : IsHook v.passes.sizes s.words (loose_hook (2 + 2 * r.place) r.reply)
  second_stands =
      loose_stands (2 + 2 * r.place) r.reply (omega arith) (omega (arith, place_below))
      (omega (arith, link_weighs v.passes.sizes (reply_of r)))

  ended_hooks : HasHooks v.passes.sizes s.words after_it.places after_it.buckets.hooks
  ended_hooks =
      let k = h.links.hooks id v at in
      record {
        each = each_two (IsHook v.passes.sizes s.words) (loose_hook (1 + 2 * r.place) r.original) (loose_hook (2 + 2 * r.place) r.reply) v.buckets.hooks first_stands second_stands k.each;
        held = λ link any.
            ⊎_elim
            (λ (e : r.place ≡ place_of link). subst (λ (q : ℕ). 0 < held_times q v.places.held) e some_held)
            (λ (e : r.place ≢ place_of link).
            k.held link (omega (
              arith,
              any,
              other_bit (1 + 2 * r.place) link (λ x. e (omega (arith, x))),
              other_bit (2 + 2 * r.place) link (λ x. e (omega (arith, x))),
            )))
            (cases_eq r.place (place_of link));
        linked = each_two (IsOwned after_it.places) (loose_hook (1 + 2 * r.place) r.original) (loose_hook (2 + 2 * r.place) r.reply) v.buckets.hooks
            (λ up. omega (arith, same_bit r.place (place_of (1 + 2 * r.place)) (omega arith)))
            (λ up. omega (arith, same_bit r.place (place_of (2 + 2 * r.place)) (omega arith)))
            (λ i x at' up. omega (arith, k.linked i x at' up));
        one = one_only r.place after_it.buckets.hooks
            (up_two r.place (loose_hook (1 + 2 * r.place) r.original) (loose_hook (2 + 2 * r.place) r.reply) v.buckets.hooks (omega arith) (omega arith) may.down);
      }

  ended_links : AreLinks v.passes.sizes words (set s.views id after_it)
  ended_links =
      let z : Sizes = v.passes.sizes in
      let same : SameChains z s.words words = word_same z s.words (packed made) in
      links_stay z s.words words same s.views (set s.views id after_it)
      (each_put (λ u. HasHooks z words u.places u.buckets.hooks) s.views id after_it
      (λ i u at'. hooks_stay z s.words words same.links u.places u.buckets.hooks (h.links.hooks i u at'))
      (hooks_stay z s.words words same.links after_it.places after_it.buckets.hooks ended_hooks)) h.links

  -- WHAT IS EXPECTED

  -- where the pass has not the turn, nothing was expected for the entry
  expects_stay : has_expected v ≡ 0 → (state_after made).expects ≡ (state_after l.log).expects
  expects_stay none_has =
      expects_on
      ∙ none_expected (state_after l.log) d.id r (state_after l.log).expects known_before
      (⊎_elim (λ (e : r.helper ≡ true). absurd (omega (arith, none_has, some_turn v.expected (middle.1 e)))) (λ (e : r.helper ≡ false). e) (cases_Bool r.helper))
      (helped v.passes.sizes l.log (length l.log) h.history.legal)

  ended_expected : AreExpected v.passes.sizes made words s.homes (set s.views id after_it)
  ended_expected =
      let expected : slice_index words 2 ≡ slice_index s.words 2 = word_other v.passes.sizes s.words (packed made) 2 (omega arith) in
      record {
        turn = expected ∙ h.expected.turn ∙ sym (total_same has_expected s.views id v after_it at (same_turn d.id v.expected));
        single = omega (arith, expected, h.expected.single);
        home = λ calm.
            let k = h.expected.home (sym expected ∙ calm) in
            let none_has : has_expected v ≡ 0 = omega (arith, calm, expected, h.expected.turn, total_term has_expected s.views id v at) in
            record { table = k.table; there = k.there; same = k.same ∙ sym (expects_stay none_has); room = k.room };
        away = each_other (λ (u : View). (list : List Expectation) → u.expected ≡ Some list → list ≡ (state_after made).expects) s.views id after_it
            (λ j u apart at' list e.
            h.expected.away j u at' list e ∙ sym (expects_stay (omega (
              arith,
              h.expected.turn,
              h.expected.single,
              total_two has_expected s.views id j v u at at' apart,
              ap expected_turn e,
            ))))
            (λ list e.
            let k = its_list d.id v.expected list e in
            k.2 ∙ ap (without_master d.id) (h.expected.away id v at k.0 k.1) ∙ sym expects_on);
      }

  -- no record comes to be live
  stays_only : (q : ℕ) → StaysOnly l.log made q
  stays_only q i o = omega (
    arith,
    o,
    weighs (of_place q),
    weighs (of_both q i),
    bit_both (r.place == q) (r.id == i),
    total_le (of_both q i) (of_place q) (records_after made) (λ j x there'. bit_both (x.place == q) (x.id == i)),
  )

  pub ended_kept : IsKept v.passes.sizes (ended_ledger l d r v)
      (record { words = slice_set s.words 0 (packed (with_destroy l.log d)); homes = s.homes; views = set s.views id (destroyed l.log d r v) })
  ended_kept =
      let z : Sizes = v.passes.sizes in
      event_added l (ended_ledger l d r v) s id v after_it event h at has_some may.few end_legal refl refl refl
      (record { reading = stored 0 (packed made); more = refl; word = refl; value = refl }) (record {
        references = ended_references;
        free_list = ended_free;
        records = ended_records;
        phases = ended_phases;
        commits = ended_commits;
        chains = ended_chains;
        links = ended_links;
        walks = told_walks z l s id v after_it h at r.place None refl words (word_same z s.words (packed made)) refl;
        expected = ended_expected;
        kept_words = words_left z l.log s.words s.views id v after_it at made words (λ i x at'. get_append l.log (event ∷ []) i x at') stays_only (word_same z s.words (packed made)).links refl h.kept_words;
      })
