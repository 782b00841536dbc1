-- A Confirm keeps the rule: the record is live from then on, and its links are those of a live record.
use Rattle.std.proofs.Common.{◌≡◌, ◌≢◌, ℕ, ◌+◌, ◌-◌, ◌*◌, ◌%◌, ◌<◌, ◌≤◌, Bool, true, false, Some, List, [], ◌∷◌, ◌++◌, length, map, refl, sym, ap, subst, ◌∙◌, ⊎_elim, arith, set, eq-eqb, ne_eqb}
use Rattle.std.specs.Prelude.{slice_index, slice_set, ◌&&◌, ◌==◌, ◌||◌, if◌then◌else◌, find, min}
use Rattle.std.specs.List.{All}
use Rattle.std.proofs.lemmas.Bool.{cases_eq}
use mathlib.Core.Option.{some}
use lib.ListN.{get_elem?}
use Rattle.atomic_table.specs.Table.{State}
use Rattle.expect_table.specs.declared.expectation.Expectation.{Expectation}
use Rattle.history_book.specs.Laws.{LegalHistoriesGoOn, LiveRecordsAreConfirmed, StatesFollow}
use Rattle.history_book.specs.Record.{has_id}
use Rattle.history_book.specs.State.{record_of}
use Rattle.history_book.specs.declared.event.Event.{Event}
use Rattle.history_book.specs.declared.event.Event.TheVariants.{Confirm}
use Rattle.history_book.specs.declared.record.Record.{Record}
use Rattle.history_book.specs.declared.sizes.Sizes.{Sizes}
use Rattle.tuple_core.specs.declared.Tuple.{Tuple}
use Rattle.track_rule.specs.declared.slot.Slot.{Slot}
use Rattle.track_rule.specs.declared.view.ChainLink.{ChainLink}
use Rattle.track_rule.specs.declared.view.Hand.{Hand}
use Rattle.track_rule.specs.declared.view.Hook.{Hook}
use Rattle.track_rule.specs.declared.view.Middle.{Middle}
use Rattle.track_rule.specs.declared.view.Middle.TheVariants.{Calm, Born, Dying}
use Rattle.track_rule.specs.declared.view.Pair.{Pair}
use Rattle.track_rule.specs.declared.view.View.{View}
use Rattle.track_rule.specs.Chains.{AreChains, bucket_of, each_link, chain_link, hooks_at, links_in, loose_of, original_of, pair_of, reply_of, shuts_of, side}
use Rattle.track_rule.specs.CommitSteps.{CanConfirm, HasLink, born, confirmed, dropped, named, with_confirm}
use Rattle.track_rule.specs.Commits.{IsMiddle, IsMiddleOf}
use Rattle.track_rule.specs.Expected.{has_expected}
use Rattle.track_rule.specs.Free.{IsFreeList, has_turn, owes}
use Rattle.track_rule.specs.History.{packed, records_after, state_after}
use Rattle.track_rule.specs.Layout.{first_word, phase_at, place_of, second_word}
use Rattle.track_rule.specs.Links.{AreLinks, HasHooks, IsHook, IsOwned, hook_of, hooks_of}
use Rattle.track_rule.specs.Phases.{ArePhases, IsMiddlePhase, middle_of, middle_weight, of_both, of_place, shows, table_keeps}
use Rattle.track_rule.specs.Readings.{stored}
use Rattle.track_rule.specs.Records.{AreRecords, IsHand, has_hand, record_in}
use Rattle.track_rule.specs.References.{AreKept, AreReferences, ends, held_times, is_at, is_for_new, keeps, takes}
use Rattle.track_rule.specs.Rule.{IsKept, Ledger}
use Rattle.track_rule.specs.Sums.{Each, bit, times, total}
use Rattle.track_rule.specs.Walks.{AreWalks}
use Rattle.track_rule.proofs.Adding.{event_added}
use Rattle.track_rule.proofs.Confirming.{each_dropped, find_last, find_more, find_same, held_kept, held_long, held_taken, hook_else, kept_for, low_both, low_ids, total_dropped, words_for}
use Rattle.track_rule.proofs.KeptWords.{GrowsTo, SamePairs, links_pairs, tuples_stay, words_stay, StaysOnly}
use Rattle.track_rule.specs.KeptWords.{AreKeptWords, HasPair, HasTuples, link_of, pair_in, shows_held}
use Rattle.tuple_core.specs.declared.Direction.{Direction}
use Rattle.tuple_core.specs.declared.Direction.TheVariants.{Original, Reply}
use Rattle.track_rule.proofs.Confirms.{lawful, none_there, state_on}
use Rattle.track_rule.proofs.Events.{get_append, get_last, kept_on}
use Rattle.track_rule.proofs.Frames.{SameChains, hooks_stay, links_stay, middle_same}
use Rattle.track_rule.proofs.HookLists.{hook_test, hook_there, some_hook}
use Rattle.track_rule.proofs.Named.{born_ledger, chains_both, hooks_else, named_chains, named_here, records_else, shut_else, told_linked, told_mine, told_ordered, told_shuts, told_walks, two_links}
use Rattle.track_rule.proofs.HistoryWord.{word_other, word_phase, word_refs, word_same, word_turn}
use Rattle.track_rule.proofs.Lists.{other_bit, same_bit, total_some, unlisted_less, unlisted_out, bit_both}
use Rattle.track_rule.proofs.UpHooks.{one_fewer, up_dropped}
use Rattle.track_rule.proofs.Sums.{each_put, total_append, total_but, total_map, total_same, total_set, total_term, total_two, total_le}
use Rattle.track_rule.proofs.LivePlaces.{own_both}

module _ (l : Ledger) (s : State Slot View) (id : ℕ) (v : View) (r : Record) (h : IsKept v.passes.sizes l s) (at : get_elem? s.views id ≡ some v)
    (has_some : 0 < v.passes.shares) (can : CanConfirm r v) (follow : StatesFollow) (go_on : LegalHistoriesGoOn) (confirmed_low : LiveRecordsAreConfirmed) where
  abbrev subject : Record
  subject = born (length l.log) r

  abbrev made : List Event
  made = with_confirm l.log r

  abbrev after_it : View
  after_it = confirmed l.log r v

  abbrev words : List ℕ
  words = slice_set s.words 0 (packed (with_confirm l.log r))

  records_on : records_after made ≡ records_after l.log ++ subject ∷ []
  records_on = ap (λ st. st.records) (state_on follow l.log (Confirm subject))

  expects_on : (state_after made).expects ≡ (state_after l.log).expects
  expects_on = ap (λ st. st.expects) (state_on follow l.log (Confirm subject))

  -- a sum over the live records has one more
  weighs : (f : Record → ℕ) → total f (records_after made) ≡ total f (records_after l.log) + f subject
  weighs f = omega (arith, ap (total f) records_on, total_append f (records_after l.log) (subject ∷ []))

  low : All (λ x. x.id < length l.log) (records_after l.log)
  low = (confirmed_low v.passes.sizes l.log (length l.log) h.history.legal).1

  -- a record that was live with another id is
  record_stays : (i : ℕ) → i < length l.log → record_of i (state_after made) ≡ record_of i (state_after l.log)
  record_stays i small =
      ap (find (has_id i)) records_on
      ∙ find_same (has_id i) (records_after l.log) subject (ne_eqb (length l.log) i (λ e. omega (arith, small, e)))

  record_more : (i : ℕ) (x : Record) → record_of i (state_after l.log) ≡ Some x → record_of i (state_after made) ≡ Some x
  record_more i x live = ap (find (has_id i)) records_on ∙ find_more (has_id i) (records_after l.log) (subject ∷ []) x live

  -- ids that phases show are low
  shown_low : (p : ℕ) → p < v.passes.sizes.entries → 3 ≤ phase_at v.passes.sizes s.words p → phase_at v.passes.sizes s.words p - 3 < length l.log
  shown_low p below shown =
      let ph : ℕ = phase_at v.passes.sizes s.words p in
      low_both (length l.log) p (ph - 3) (records_after l.log) low (omega (
        arith,
        h.phases.shown p (ph - 3) below,
        same_bit ph (3 + (ph - 3)) (omega (arith, shown)),
      ))

  -- THE LINKS

  raised_hook : (link : ℕ) (t : Tuple) → HasLink link t v → 0 < link
      → (0 < hooks_of link v.buckets.hooks) × (hooks_of link v.buckets.hooks ≤ 1) × ((hook_of link v.buckets.hooks).up ≡ true) × ((hook_of link v.buckets.hooks).link ≡ link)
  raised_hook link t has some_link =
      let any : 0 < hooks_of link v.buckets.hooks = some_hook link (λ (k : Hook). k.up) v.buckets.hooks has.up in
      let one : hooks_of link v.buckets.hooks ≤ 1 = omega (arith, h.chains.lone link some_link, total_term (hooks_at link) s.views id v at) in (
        any,
        one,
        hook_test link (λ (k : Hook). k.up) v.buckets.hooks one has.up,
        (hook_there link (IsHook v.passes.sizes s.words) v.buckets.hooks any (h.links.hooks id v at).each).1,
      )

  abbrev first_link : ℕ
  first_link = 1 + 2 * r.place

  abbrev second_link : ℕ
  second_link = 2 + 2 * r.place

  one_hook : (0 < hooks_of (1 + 2 * r.place) v.buckets.hooks) × (hooks_of (1 + 2 * r.place) v.buckets.hooks ≤ 1)
      × ((hook_of (1 + 2 * r.place) v.buckets.hooks).up ≡ true) × ((hook_of (1 + 2 * r.place) v.buckets.hooks).link ≡ 1 + 2 * r.place)
  one_hook = raised_hook (1 + 2 * r.place) r.original can.original (omega arith)

  two_hook : (0 < hooks_of (2 + 2 * r.place) v.buckets.hooks) × (hooks_of (2 + 2 * r.place) v.buckets.hooks ≤ 1)
      × ((hook_of (2 + 2 * r.place) v.buckets.hooks).up ≡ true) × ((hook_of (2 + 2 * r.place) v.buckets.hooks).link ≡ 2 + 2 * r.place)
  two_hook = raised_hook (2 + 2 * r.place) r.reply can.reply (omega arith)

  -- a sum over the hooks without these two
  total_left : (f : Hook → ℕ)
      → total f after_it.buckets.hooks + f (hook_of (1 + 2 * r.place) v.buckets.hooks) + f (hook_of (2 + 2 * r.place) v.buckets.hooks) ≡ total f v.buckets.hooks
  total_left f =
      let hooks : List Hook = v.buckets.hooks in
      let left : List Hook = dropped (1 + 2 * r.place) v.buckets.hooks in
      let other : hook_of (2 + 2 * r.place) (dropped (1 + 2 * r.place) v.buckets.hooks) ≡ hook_of (2 + 2 * r.place) v.buckets.hooks =
      hook_else (1 + 2 * r.place) (2 + 2 * r.place) (λ e. omega (arith, e)) v.buckets.hooks in
      let still : 0 < hooks_of (2 + 2 * r.place) (dropped (1 + 2 * r.place) v.buckets.hooks) = omega (
        arith,
        two_hook.0,
        total_dropped (λ (k : Hook). bit (k.link == 2 + 2 * r.place)) (1 + 2 * r.place) v.buckets.hooks one_hook.0,
        other_bit (hook_of (1 + 2 * r.place) v.buckets.hooks).link (2 + 2 * r.place) (λ e. omega (arith, e, one_hook.3)),
      ) in
      omega (
        arith,
        total_dropped f (1 + 2 * r.place) v.buckets.hooks one_hook.0,
        total_dropped f (2 + 2 * r.place) (dropped (1 + 2 * r.place) v.buckets.hooks) still,
        ap f other,
      )

  -- a link of the place weighs, once it is told the id, what that of the record weighs
  weighs_up : (b : ℕ) (f : ChainLink → ℕ) (k : Hook) (e : ChainLink) → k.up ≡ true → k.link ≡ e.link → k.pair ≡ e.pair → e.id ≡ Some (length l.log) → place_of e.link ≡ r.place
      → (if k.up then side v.passes.sizes b (λ x. f (named r.place (length l.log) x)) (chain_link k) else 0) ≡ side v.passes.sizes b f e
  weighs_up b f k e up link pair its_id here =
      ap (λ (t : Bool). if t then side v.passes.sizes b (λ x. f (named r.place (length l.log) x)) (chain_link k) else 0) up
      ∙ ap (λ (x : ChainLink). if bucket_of v.passes.sizes k.pair == b then f x else 0) (named_here r.place (Some (length l.log)) (chain_link k) (ap place_of link ∙ here))
      ∙ (λ i. side v.passes.sizes b f (record { link = link i; pair = pair i; id = sym its_id i }))

  loose_left : (b : ℕ) (f : ChainLink → ℕ)
      → loose_of v.passes.sizes b (λ x. f (named r.place (length l.log) x)) after_it + links_in v.passes.sizes b f subject
      ≡ loose_of v.passes.sizes b (λ x. f (named r.place (length l.log) x)) v
  loose_left b f = omega (
    arith,
    total_left (λ (k : Hook). (if k.up then side v.passes.sizes b (λ x. f (named r.place (length l.log) x)) (chain_link k) else 0)),
    weighs_up b f (hook_of (1 + 2 * r.place) v.buckets.hooks) (original_of subject) one_hook.2 one_hook.3 can.original.pair refl (omega arith),
    weighs_up b f (hook_of (2 + 2 * r.place) v.buckets.hooks) (reply_of subject) two_hook.2 two_hook.3 can.reply.pair refl (omega arith),
  )

  hooks_left : (link : ℕ) → 0 < link → hooks_at link after_it + bit (r.place == place_of link) ≡ hooks_at link v
  hooks_left link some_link = omega (
    arith,
    total_left (λ (k : Hook). bit (k.link == link)),
    ap (λ (n : ℕ). bit (n == link)) one_hook.3,
    ap (λ (n : ℕ). bit (n == link)) two_hook.3,
    two_links r.place link some_link,
  )

  fewer_hooks : (link : ℕ) → hooks_of link after_it.buckets.hooks ≤ hooks_of link v.buckets.hooks
  fewer_hooks link = omega (arith, total_left (λ (k : Hook). bit (k.link == link)))

  each_left : (F : Hook → Type 0) → Each F v.buckets.hooks → Each F after_it.buckets.hooks
  each_left F all = each_dropped F (2 + 2 * r.place) (dropped (1 + 2 * r.place) v.buckets.hooks) (each_dropped F (1 + 2 * r.place) v.buckets.hooks all)

  -- no link of the place is left, and no other pass has one; nor has another live record the place
  no_link : (link : ℕ) → 0 < link → r.place ≡ place_of link → hooks_of link after_it.buckets.hooks ≡ 0
  no_link link some_link e = omega (
    arith,
    hooks_left link some_link,
    same_bit r.place (place_of link) e,
    h.chains.lone link some_link,
    total_term (hooks_at link) s.views id v at,
  )

  left_others : Each (λ k. place_of k.link ≢ r.place) after_it.buckets.hooks
  left_others i k at' e =
      let is : IsHook v.passes.sizes s.words k = each_left (IsHook v.passes.sizes s.words) (h.links.hooks id v at).each i k at' in
      omega (
        arith,
        no_link k.link is.some (sym e),
        total_term (λ (x : Hook). bit (x.link == k.link)) after_it.buckets.hooks i k at',
        same_bit k.link k.link refl,
      )

  other_links : (j : ℕ) (u : View) → j ≢ id → get_elem? s.views j ≡ some u → Each (λ k. place_of k.link ≢ r.place) u.buckets.hooks
  other_links j u other there i k at' e =
      let is : IsHook v.passes.sizes s.words k = (h.links.hooks j u there).each i k at' in
      omega (
        arith,
        hooks_left k.link is.some,
        same_bit r.place (place_of k.link) (sym e),
        h.chains.lone k.link is.some,
        total_two (hooks_at k.link) s.views id j v u at there other,
        total_term (λ (x : Hook). bit (x.link == k.link)) u.buckets.hooks i k at',
        same_bit k.link k.link refl,
      )

  other_places : Each (λ x. x.place ≢ r.place) (records_after l.log)
  other_places i x at' e = omega (
    arith,
    none_there l s id v r h at has_some can,
    total_term (of_place r.place) (records_after l.log) i x at',
    same_bit x.place r.place e,
  )

  -- WHAT CHAINS WEIGH

  -- a chain that is told the id
  told_weighs : (b : ℕ) → b < v.passes.sizes.buckets → (f : ChainLink → ℕ)
      → total f (map (named r.place (length l.log)) (l.chains b)) ≡ total (links_in v.passes.sizes b f) (records_after made) + total (loose_of v.passes.sizes b f) (set s.views id after_it)
  told_weighs b below f =
      let z : Sizes = v.passes.sizes in
      let n : ℕ = length l.log in
      omega (
        arith,
        total_map f (named r.place n) (l.chains b),
        h.chains.chained b below (λ e. f (named r.place (length l.log) e)),
        records_else r.place (Some n) z b f (records_after l.log) other_places,
        weighs (links_in z b f),
        loose_left b f,
        hooks_else r.place (Some n) z b f after_it.buckets.hooks left_others,
        total_but (loose_of z b (λ e. f (named r.place (length l.log) e))) (loose_of z b f) s.views id v at
            (λ j u other there. hooks_else r.place (Some n) z b f u.buckets.hooks (other_links j u other there)),
        total_set (loose_of z b f) s.views id v after_it at,
      )

  -- one that is not
  else_weighs : (b : ℕ) → b < v.passes.sizes.buckets → shuts_of b v ≡ 0 → (f : ChainLink → ℕ)
      → total f (l.chains b) ≡ total (links_in v.passes.sizes b f) (records_after made) + total (loose_of v.passes.sizes b f) (set s.views id after_it)
  else_weighs b below off f =
      let z : Sizes = v.passes.sizes in
      omega (
        arith,
        h.chains.chained b below f,
        weighs (links_in z b f),
        shut_else z b r.original v can.original.shut off f (original_of subject) refl,
        shut_else z b r.reply v can.reply.shut off f (reply_of subject) refl,
        total_left (λ (k : Hook). (if k.up then side z b f (chain_link k) else 0)),
        up_weighs (hook_of (1 + 2 * r.place) v.buckets.hooks).up (side z b f (chain_link (hook_of (1 + 2 * r.place) v.buckets.hooks)))
            (shut_else z b r.original v can.original.shut off f (chain_link (hook_of (1 + 2 * r.place) v.buckets.hooks)) can.original.pair),
        up_weighs (hook_of (2 + 2 * r.place) v.buckets.hooks).up (side z b f (chain_link (hook_of (2 + 2 * r.place) v.buckets.hooks)))
            (shut_else z b r.reply v can.reply.shut off f (chain_link (hook_of (2 + 2 * r.place) v.buckets.hooks)) can.reply.pair),
        total_set (loose_of z b f) s.views id v after_it at,
      )
    where
      up_weighs : (k : Bool) (n : ℕ) → n ≡ 0 → (if k then n else 0) ≡ 0
      up_weighs true n e = e
      up_weighs false n e = refl

  same_shuts : (b : ℕ) → shuts_of b after_it ≡ shuts_of b v
  same_shuts = told_shuts v.passes.sizes l s id v after_it h at r.place (Some (length l.log)) refl

  -- THE PARTS

  born_chains : AreChains v.passes.sizes made words (set s.views id after_it) (named_chains r.place (Some (length l.log)) v l.chains)
  born_chains =
      let z : Sizes = v.passes.sizes in
      let n : ℕ = length l.log in
      let same : SameChains z s.words words = word_same z s.words (packed made) in
      record {
        linked = told_linked z l s id v after_it h at r.place (Some (length l.log)) refl words same;
        ordered = told_ordered z l s id v after_it h at r.place (Some (length l.log)) refl;
        gens = λ b below.
            ap (λ (k : ℕ). k % 2) (same.gens b below) ∙ h.chains.gens b below ∙ sym (total_same (shuts_of b) s.views id v after_it at (same_shuts b));
        mine = told_mine z l s id v after_it h at r.place (Some (length l.log)) refl;
        chained = λ b below f.
            chains_both r.place (Some n) v l.chains b (λ es. total f es ≡ total (links_in z b f) (records_after made) + total (loose_of z b f) (set s.views id after_it))
            (λ off. else_weighs b below off f) (λ on. told_weighs b below f);
        home = each_put (λ (u : View). (c : ℕ) → c < z.buckets → 0 < loose_of z c each_link u → 0 < shuts_of c u) s.views id after_it h.chains.home
            (λ c below some_loose. omega (
              arith,
              same_shuts c,
              h.chains.home id v at c below (omega (
                arith,
                some_loose,
                total_left (λ (k : Hook). (if k.up then side z c each_link (chain_link k) else 0)),
              )),
            ));
        lone = λ link some_link. omega (
          arith,
          h.chains.lone link some_link,
          weighs (of_place (place_of link)),
          hooks_left link some_link,
          total_set (hooks_at link) s.views id v after_it at,
        );
      }

  -- links in chains are of places that the pass still owns
  born_linked : Each (IsOwned after_it.places) after_it.buckets.hooks
  born_linked i k at' up =
      let is : IsHook v.passes.sizes s.words k = each_left (IsHook v.passes.sizes s.words) (h.links.hooks id v at).each i k at' in
      let owned : 0 < times (place_of k.link) v.places.owned + times (place_of k.link) v.places.ended =
      each_left (IsOwned v.places) (h.links.hooks id v at).linked i k at' up in
      ⊎_elim
      (λ (e : r.place ≡ place_of k.link).
      absurd (omega (arith, no_link k.link is.some e, total_term (λ (x : Hook). bit (x.link == k.link)) after_it.buckets.hooks i k at', same_bit k.link k.link refl)))
      (λ (e : r.place ≢ place_of k.link).
      omega (arith, owned, unlisted_out (r.place ∷ []) (place_of k.link) v.places.owned (ap (λ b. b || false) (ne_eqb r.place (place_of k.link) e))))
      (cases_eq r.place (place_of k.link))

  born_links : AreLinks v.passes.sizes words (set s.views id after_it)
  born_links =
      let z : Sizes = v.passes.sizes in
      let same : SameChains z s.words words = word_same z s.words (packed made) in
      let mine = h.links.hooks id v at in
      links_stay z s.words words same s.views (set s.views id after_it)
      (each_put (λ u. HasHooks z words u.places u.buckets.hooks) s.views id after_it
      (λ i u at'. hooks_stay z s.words words same.links u.places u.buckets.hooks (h.links.hooks i u at'))
      (hooks_stay z s.words words same.links after_it.places after_it.buckets.hooks (record {
        each = each_left (IsHook z s.words) mine.each;
        held = λ link any. omega (
          arith,
          mine.held link (omega (arith, any, fewer_hooks link)),
          held_kept r.place (length l.log) (place_of link) v.places.held,
        );
        linked = born_linked;
        one = one_fewer v.buckets.hooks after_it.buckets.hooks
            (λ q e. up_dropped (1 + 2 * r.place) q v.buckets.hooks (up_dropped (2 + 2 * r.place) q (dropped (1 + 2 * r.place) v.buckets.hooks) e)) mine.one;
      }))) h.links

  born_references : AreReferences v.passes.sizes made words (set s.views id after_it)
  born_references =
      let z : Sizes = v.passes.sizes in
      let same : (q : ℕ) → keeps q after_it ≡ keeps q v = λ q. omega (arith, held_kept r.place (length l.log) q v.places.held) in
      record {
        counted = λ q below. omega (
          arith,
          h.references.counted q below,
          word_refs z s.words (packed made) q,
          ap table_keeps (word_phase z s.words (packed made) q),
          total_same (keeps q) s.views id v after_it at (same q),
        );
        beyond = λ q above. total_same (keeps q) s.views id v after_it at (same q) ∙ h.references.beyond q above;
        carried = each_put (λ u. (q : ℕ) → times q u.places.carried ≤ held_times q u.places.held) s.views id after_it h.references.carried
            (λ q. omega (arith, h.references.carried id v at q, held_kept r.place (length l.log) q v.places.held));
        carried_for = each_put (λ u. (q : ℕ) → times q u.places.carried ≤ takes q u + middle_of (of_place q) u + ends q u) s.views id after_it h.references.carried_for
            (λ q. omega (
              arith,
              h.references.carried_for id v at q,
              held_taken r.place (length l.log) q v.places.held can.taken,
              ap (middle_weight (of_place q)) can.calm,
            ));
        taken = λ q. omega (
          arith,
          h.references.taken q,
          total_same (ends q) s.views id v after_it at refl,
          weighs (of_place q),
          held_taken r.place (length l.log) q v.places.held can.taken,
          total_set (takes q) s.views id v after_it at,
        );
        purposes = each_put (λ u. AreKept made u.places.held) s.views id after_it
            (λ i u at'. kept_on l.log (Confirm subject) u.places.held (h.references.purposes i u at'))
            (kept_for made r.place (length l.log) v.places.held subject (get_last l.log (Confirm subject)) refl
            (kept_on l.log (Confirm subject) v.places.held (h.references.purposes id v at)));
      }

  born_free : IsFreeList v.passes.sizes words s.homes (set s.views id after_it) l.free
  born_free =
      let z : Sizes = v.passes.sizes in
      let turn : slice_index words 1 ≡ slice_index s.words 1 = word_other z s.words (packed made) 1 (omega arith) in
      record {
        once = λ q below. omega (
          arith,
          h.free_list.once q below,
          ap (λ (k : ℕ). min k 1) (word_refs z s.words (packed made) q),
          total_same (owes q) s.views id v after_it at refl,
        );
        beyond = λ q above. omega (arith, h.free_list.beyond q above, total_same (owes q) s.views id v after_it at refl);
        idle = λ q on. word_phase z s.words (packed made) q ∙ h.free_list.idle q on;
        turn = turn ∙ h.free_list.turn ∙ sym (total_same has_turn s.views id v after_it at refl);
        single = omega (arith, turn, h.free_list.single);
        home = λ calm. h.free_list.home (sym turn ∙ calm);
        away = each_put (λ u. (list : List ℕ) → u.free ≡ Some list → list ≡ l.free) s.views id after_it h.free_list.away (h.free_list.away id v at);
        few = each_put (λ u. length u.places.held + length u.places.owed ≤ 4) s.views id after_it h.free_list.few
            (omega (arith, h.free_list.few id v at, held_long r.place (length l.log) v.places.held));
        clear = each_put (λ u. (q : ℕ) → 0 < times q u.places.clear → (0 < times q u.places.owed) × (phase_at z words q ≡ 0)) s.views id after_it
            (λ i u at' q on. let c = h.free_list.clear i u at' q on in (c.0, word_phase z s.words (packed made) q ∙ c.1))
            (λ q on. let c = h.free_list.clear id v at q on in (c.0, word_phase z s.words (packed made) q ∙ c.1));
        owned = each_put (λ u. (q : ℕ) → 0 < times q u.places.owned → (0 < takes q u) × (phase_at z words q ≡ 1)) s.views id after_it
            (λ i u at' q on. let c = h.free_list.owned i u at' q on in (c.0, word_phase z s.words (packed made) q ∙ c.1))
            (λ q on.
            let o = unlisted_less r.place q v.places.owned on in
            let c = h.free_list.owned id v at q o.0 in (
              omega (arith, c.0, held_taken r.place (length l.log) q v.places.held can.taken, other_bit r.place q (λ e. o.1 (sym e))),
              word_phase z s.words (packed made) q ∙ c.1,
            ));
        ended = each_put (λ u. (q : ℕ) → 0 < times q u.places.ended → (0 < times q u.places.carried) × (phase_at z words q ≡ 2)) s.views id after_it
            (λ i u at' q on. let c = h.free_list.ended i u at' q on in (c.0, word_phase z s.words (packed made) q ∙ c.1))
            (λ q on. let c = h.free_list.ended id v at q on in (c.0, word_phase z s.words (packed made) q ∙ c.1));
      }

  -- the place is OWNED, since its links are in chains
  phase_is : phase_at v.passes.sizes s.words r.place ≡ 1
  phase_is =
      let owned : IsOwned v.places (hook_of (1 + 2 * r.place) v.buckets.hooks) =
      (hook_there (1 + 2 * r.place) (IsOwned v.places) v.buckets.hooks one_hook.0 (h.links.hooks id v at).linked).0 in
      let here : place_of (hook_of (1 + 2 * r.place) v.buckets.hooks).link ≡ r.place = omega (arith, one_hook.3) in
      (h.free_list.owned id v at r.place (omega (
        arith,
        subst (λ (q : ℕ). 0 < times q v.places.owned + times q v.places.ended) here (owned one_hook.2),
        h.references.taken r.place,
        total_term (takes r.place) s.views id v at,
        total_term (ends r.place) s.views id v at,
        total_some (λ k. is_at r.place k && is_for_new k.purpose) v.places.held can.taken,
      ))).1

  born_phases : ArePhases v.passes.sizes made words (set s.views id after_it)
  born_phases =
      let z : Sizes = v.passes.sizes in
      let calm : (f : Record → ℕ) → middle_of f v ≡ 0 = λ f. ap (middle_weight f) can.calm in
      record {
        shown = λ q i below. omega (
          arith,
          h.phases.shown q i below,
          ap (λ (ph : ℕ). shows ph i) (word_phase z s.words (packed made) q),
          weighs (of_both q i),
          calm (of_both q i),
          total_set (middle_of (of_both q i)) s.views id v after_it at,
        );
        used = λ q below. omega (
          arith,
          h.phases.used q below,
          ap table_keeps (word_phase z s.words (packed made) q),
          weighs (of_place q),
          calm (of_place q),
          total_set (middle_of (of_place q)) s.views id v after_it at,
        );
        middle = each_put (λ u. IsMiddlePhase z words u.commit.middle) s.views id after_it
            (λ i u at'. middle_same z s.words words (word_phase z s.words (packed made)) u.commit.middle (h.phases.middle i u at'))
            (word_phase z s.words (packed made) r.place ∙ phase_is);
      }

  -- what a pass knows of a record
  hand_on : (x : Hand) → IsHand v.passes.sizes l.log s.words x → IsHand v.passes.sizes made words x
  hand_on x k = record {
    below = k.below;
    shown = λ some_shown. word_phase v.passes.sizes s.words (packed made) x.place ∙ k.shown some_shown;
    idle = λ idle. omega (arith, k.idle idle, word_phase v.passes.sizes s.words (packed made) x.place);
    live = λ live.
        k.live live ∙ sym (record_stays (x.phase - 3) (omega (
          arith,
          live,
          k.shown (omega (arith, live)),
          shown_low x.place k.below (omega (arith, live, k.shown (omega (arith, live)))),
        )));
  }

  born_records : AreRecords v.passes.sizes made words s.homes (set s.views id after_it)
  born_records =
      let z : Sizes = v.passes.sizes in
      record {
        turn = λ q below. word_turn z s.words (packed made) q ∙ h.records.turn q below ∙ sym (total_same (has_hand q) s.views id v after_it at refl);
        single = λ q. omega (arith, h.records.single q, total_same (has_hand q) s.views id v after_it at refl);
        home = λ q below calm.
            let k = h.records.home q below (sym (word_turn z s.words (packed made) q) ∙ calm) in
            record {
              slot = k.slot;
              there = k.there;
              kind = k.kind;
              live = subst (λ (ph : ℕ). 3 ≤ ph → record_in k.slot ≡ record_of (ph - 3) (state_after made)) (sym (word_phase z s.words (packed made) q))
                  (λ live. k.live live ∙ sym (record_stays (phase_at z s.words q - 3) (shown_low q below live)));
            };
        away = each_put (λ u. (x : Hand) → u.commit.hand ≡ Some x → IsHand z made words x) s.views id after_it
            (λ i u at' x e. hand_on x (h.records.away i u at' x e)) (λ x e. hand_on x (h.records.away id v at x e));
      }

  -- other passes are where they were
  middle_on : (u : View) (m : Middle) → IsMiddle v.passes.sizes l.log m u.commit.hand u.places.carried u.buckets.shut u.expected
      → IsMiddle v.passes.sizes made m u.commit.hand u.places.carried u.buckets.shut u.expected
  middle_on u Calm k = tt
  middle_on u (Born x) k = record { turn = k.turn; reference = k.reference; original = k.original; reply = k.reply; live = record_more x.id x k.live }
  middle_on u (Dying x) k = (record { turn = k.0.turn; reference = k.0.reference; original = k.0.original; reply = k.0.reply; live = record_more x.id x k.0.live }, k.1)

  born_commits : Each (IsMiddleOf v.passes.sizes made) (set s.views id after_it)
  born_commits = each_put (IsMiddleOf v.passes.sizes made) s.views id after_it (λ i u at'. middle_on u u.commit.middle (h.commits i u at')) (record {
    turn = can.turn;
    reference = can.reference;
    original = omega (arith, can.original.shut, same_shuts (bucket_of v.passes.sizes (pair_of r.original)));
    reply = omega (arith, can.reply.shut, same_shuts (bucket_of v.passes.sizes (pair_of r.reply)));
    live = ap (find (has_id (length l.log))) records_on
        ∙ find_last (has_id (length l.log)) (records_after l.log) subject (low_ids (length l.log) (records_after l.log) low) (eq-eqb (length l.log) (length l.log) refl);
  })

  born_walks : AreWalks v.passes.sizes words (set s.views id after_it) (named_chains r.place (Some (length l.log)) v l.chains)
  born_walks =
      told_walks v.passes.sizes l s id v after_it h at r.place (Some (length l.log)) refl words (word_same v.passes.sizes s.words (packed made)) refl

  -- no live record had the place
  none_before : total (of_place r.place) (records_after l.log) ≡ 0
  none_before = omega (
    arith,
    h.references.taken r.place,
    total_term (takes r.place) s.views id v at,
    total_some (λ k. is_at r.place k && is_for_new k.purpose) v.places.held can.taken,
  )

  -- nor does the new one come to a place that is held for an id
  stays_only : (q : ℕ) → 0 < total (shows_held q) s.views → StaysOnly l.log made q
  stays_only q any i o =
      ⊎_elim
      (λ (e : r.place ≡ q).
      absurd (omega (
        arith,
        any,
        h.kept_words.apart q (omega (
          arith,
          ap (λ (k : ℕ). takes k v) e,
          total_term (takes q) s.views id v at,
          total_some (λ k. is_at r.place k && is_for_new k.purpose) v.places.held can.taken,
        )),
      )))
      (λ (e : r.place ≢ q).
      omega (
        arith,
        o,
        weighs (of_place q),
        weighs (of_both q i),
        other_bit r.place q e,
        bit_both (r.place == q) (length l.log == i),
      ))
      (cases_eq r.place q)

  -- both tuples stand in the words of the place, as the pass knows of its links
  born_tuples : HasTuples v.passes.sizes made s.words (length l.log) r.place
  born_tuples = record {
    was = record { subject = subject; event = get_last l.log (Confirm subject); its_place = refl };
    stand = λ d. stands d;
    only = omega (
      arith,
      weighs (of_place r.place),
      weighs (of_both r.place (length l.log)),
      none_before,
      total_le (of_both r.place (length l.log)) (of_place r.place) (records_after l.log) (λ j x at'. bit_both (x.place == r.place) (x.id == length l.log)),
      own_both subject,
      same_bit r.place r.place refl,
    );
  }
    where
      of_link : (link : ℕ) (t : Tuple) → HasLink link t v → 0 < hooks_of link v.buckets.hooks → HasPair v.passes.sizes s.words link (pair_of t)
      of_link link t has any =
          let there = hook_there link (IsHook v.passes.sizes s.words) v.buckets.hooks any (h.links.hooks id v at).each in
          record {
            first = ap (λ (k : ℕ). slice_index s.words (first_word v.passes.sizes k)) (sym there.1) ∙ there.0.first ∙ ap (λ (p : Pair). p.first) has.pair;
            second = ap (λ (k : ℕ). slice_index s.words (second_word v.passes.sizes k)) (sym there.1) ∙ there.0.second ∙ ap (λ (p : Pair). p.second) has.pair;
          }

      stands : (d : Direction) → HasPair v.passes.sizes s.words (link_of d r.place) (pair_in d subject)
      stands Original = of_link (1 + 2 * r.place) r.original can.original one_hook.0
      stands Reply = of_link (2 + 2 * r.place) r.reply can.reply two_hook.0

  born_words : AreKeptWords v.passes.sizes made words (set s.views id after_it)
  born_words =
      let z : Sizes = v.passes.sizes in
      let grows : GrowsTo l.log made = λ i e at'. get_append l.log (Confirm subject ∷ []) i e at' in
      let same : (p : ℕ) → SamePairs z s.words words p = links_pairs z s.words words (word_same z s.words (packed made)).links in
      words_for z made words s.views id r.place (length l.log) v after_it at can.taken refl (omega (arith, h.references.taken r.place))
      (tuples_stay z made made s.words words (length l.log) r.place (λ i e at'. at') (λ i o. o) (same r.place) born_tuples)
      (words_stay z l.log made s.words words s.views grows stays_only (λ p any. same p) h.kept_words)

  pub born_kept : IsKept v.passes.sizes (born_ledger l r v)
      (record { words = slice_set s.words 0 (packed (with_confirm l.log r)); homes = s.homes; views = set s.views id (confirmed l.log r v) })
  born_kept =
      let z : Sizes = v.passes.sizes in
      let expected : slice_index words 2 ≡ slice_index s.words 2 = word_other z s.words (packed made) 2 (omega arith) in
      event_added l (born_ledger l r v) s id v after_it (Confirm subject) h at has_some can.few
      (go_on z l.log (Confirm subject) h.history.legal (lawful l s id v r h at has_some can)) refl refl refl
      (record { reading = stored 0 (packed made); more = refl; word = refl; value = refl }) (record {
        references = born_references;
        free_list = born_free;
        records = born_records;
        phases = born_phases;
        commits = born_commits;
        chains = born_chains;
        links = born_links;
        walks = born_walks;
        kept_words = born_words;
        expected = record {
          turn = expected ∙ h.expected.turn ∙ sym (total_same has_expected s.views id v after_it at refl);
          single = omega (arith, expected, h.expected.single);
          home = λ calm.
              let k = h.expected.home (sym expected ∙ calm) in
              record { table = k.table; there = k.there; same = k.same ∙ sym expects_on; room = k.room };
          away = each_put (λ (u : View). (list : List Expectation) → u.expected ≡ Some list → list ≡ (state_after made).expects) s.views id after_it
              (λ i u at' list e. h.expected.away i u at' list e ∙ sym expects_on) (λ list e. h.expected.away id v at list e ∙ sym expects_on);
        };
      })
