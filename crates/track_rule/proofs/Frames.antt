-- The parts of the rule that a step leaves. Steps on the pool change references words and the turn of the free list alone.
use Rattle.std.proofs.Common.{length, ◌-◌, ◌%◌, ◌==◌, ◌≡◌, ◌≢◌, ℕ, ◌+◌, ◌<◌, ◌≤◌, Option, Some, None, List, [], ◌∷◌, refl, sym, ap, subst, ◌∙◌, arith}
use Rattle.std.specs.Prelude.{slice_index}
use mathlib.Core.Option.{Option as Slotted}
use lib.ListN.{get_elem?}
use Rattle.expect_table.specs.declared.expectation.Expectation.{Expectation}
use Rattle.history_book.specs.declared.event.Event.{Event}
use Rattle.history_book.specs.declared.sizes.Sizes.{Sizes}
use Rattle.track_rule.specs.declared.view.Places.{Places}
use Rattle.track_rule.specs.declared.slot.Slot.{Slot}
use Rattle.track_rule.specs.declared.view.Commit.{Commit}
use Rattle.track_rule.specs.declared.view.ChainLink.{ChainLink}
use Rattle.track_rule.specs.declared.view.Middle.{Middle}
use Rattle.track_rule.specs.declared.view.Middle.TheVariants.{Calm, Born, Dying}
use Rattle.track_rule.specs.declared.view.HeldBuckets.{HeldBuckets}
use Rattle.track_rule.specs.declared.view.View.{View}
use Rattle.track_rule.specs.declared.view.Walk.{Walk}
use Rattle.track_rule.specs.Chains.{AreChains, IsChain, chain_in, bucket_of, each_link, hooks_at, links_in, loose_of, pair_of, shuts_of}
use Rattle.track_rule.specs.Commits.{AreCommits, IsCommitting, IsMiddle, IsMiddleOf, shuts_in}
use Rattle.history_book.specs.State.{record_of}
use Rattle.history_book.specs.declared.record.Record.{Record}
use Rattle.track_rule.specs.declared.view.Hand.{Hand}
use Rattle.track_rule.specs.declared.view.Hook.{Hook}
use Rattle.track_rule.specs.declared.view.Shut.{Shut}
use Rattle.track_rule.specs.Expected.{AreExpected, expected_turn}
use Rattle.track_rule.specs.History.{IsHistory, records_after, state_after}
use Rattle.track_rule.specs.KeptWords.{AreKeptWords}
use Rattle.track_rule.specs.Layout.{first_word, gen_at, gen_word, head_word, next_word, phase_at, phase_word, place_of, record_slot, refs_word, second_word, turn_at, turn_word}
use Rattle.track_rule.specs.Passes.{ArePasses}
use Rattle.track_rule.specs.Phases.{ArePhases, IsMiddlePhase, middle_of, middle_weight, of_both, of_place, shows, table_keeps}
use Rattle.track_rule.specs.Readings.{AreRead}
use Rattle.track_rule.specs.Records.{AreRecords, IsHand, has_hand, is_hand_of, record_in}
use Rattle.track_rule.specs.References.{AreReferences}
use Rattle.track_rule.specs.Free.{IsFreeList}
use Rattle.track_rule.specs.Rule.{IsKept, Ledger}
use Rattle.track_rule.specs.Sums.{Each, bit, times, total}
use Rattle.track_rule.specs.Links.{AreLinks, HasHooks}
use Rattle.track_rule.specs.Walks.{AreWalks, IsWalk}
use Rattle.std.proofs.lemmas.Option.{none-some}
use Rattle.track_rule.proofs.Carried.{Carries}
use Rattle.atomic_table.specs.Table.{State}

-- all words but the references and the turn of the free list are as they were
abbrev pub Quiet : Sizes → List ℕ → List ℕ → Type 0
Quiet z ws ws' = (k : ℕ) → k ≢ 1 → ((p : ℕ) → k ≢ refs_word z p) → slice_index ws' k ≡ slice_index ws k

-- all slots but that of the free list
abbrev pub Stays : List (Slotted Slot) → List (Slotted Slot) → Type 0
Stays hs hs' = (k : ℕ) → k ≢ 0 → get_elem? hs' k ≡ get_elem? hs k

abbrev pub no_buckets : HeldBuckets
no_buckets = record { shut = []; hooks = [] }

abbrev pub no_commit : Commit
no_commit = record { hand = None; middle = Calm }

-- what of a view the pool's steps leave
pub record Leaves (vs vs' : List View) : Type 1 where
  pub commit : Carries (λ (v : View). v.commit) no_commit vs vs'
  pub expected : Carries (λ (v : View). v.expected) None vs vs'

-- the words of the history, of the phases, of the records' turns and of the expectations' turn
pub record Still (z : Sizes) (ws ws' : List ℕ) : Type 0 where
  pub history : slice_index ws' 0 ≡ slice_index ws 0
  pub expected : slice_index ws' 2 ≡ slice_index ws 2
  pub phases : (p : ℕ) → phase_at z ws' p ≡ phase_at z ws p
  pub turns : (p : ℕ) → turn_at z ws' p ≡ turn_at z ws p

-- the words of the heads and of the links, and besides the generations
pub record SameLinks (z : Sizes) (ws ws' : List ℕ) : Type 0 where
  pub heads : (b : ℕ) → b < z.buckets → slice_index ws' (head_word z b) ≡ slice_index ws (head_word z b)
  pub firsts : (x : ℕ) → slice_index ws' (first_word z x) ≡ slice_index ws (first_word z x)
  pub seconds : (x : ℕ) → slice_index ws' (second_word z x) ≡ slice_index ws (second_word z x)
  pub nexts : (x : ℕ) → slice_index ws' (next_word z x) ≡ slice_index ws (next_word z x)

pub record SameChains (z : Sizes) (ws ws' : List ℕ) : Type 0 where
  pub gens : (b : ℕ) → b < z.buckets → gen_at z ws' b ≡ gen_at z ws b
  pub links : SameLinks z ws ws'

module _ (z : Sizes) (ws ws' : List ℕ) (quiet : Quiet z ws ws') where
  pub quiet_still : Still z ws ws'
  quiet_still = record {
    history = quiet 0 (λ e. omega (arith, e)) (λ q e. omega (arith, e));
    expected = quiet 2 (λ e. omega (arith, e)) (λ q e. omega (arith, e));
    phases = λ p. quiet (phase_word z p) (λ e. omega (arith, e)) (λ q e. omega (arith, e));
    turns = λ p. quiet (turn_word z p) (λ e. omega (arith, e)) (λ q e. omega (arith, e));
  }

  pub quiet_chains : SameChains z ws ws'
  quiet_chains = record {
    gens = λ b below. quiet (gen_word z b) (λ e. omega (arith, e)) (λ q e. omega (arith, e, below));
    links = record {
      heads = λ b below. quiet (head_word z b) (λ e. omega (arith, e)) (λ q e. omega (arith, e, below));
      firsts = λ x. quiet (first_word z x) (λ e. omega (arith, e)) (λ q e. omega (arith, e));
      seconds = λ x. quiet (second_word z x) (λ e. omega (arith, e)) (λ q e. omega (arith, e));
      nexts = λ x. quiet (next_word z x) (λ e. omega (arith, e)) (λ q e. omega (arith, e));
    };
  }

-- The phase of a pass in the middle of a commit, where that of its record's place stays.
pub middle_on : (z : Sizes) (log : List Event) (ws ws' : List ℕ) (m : Middle) (hand : Option Hand) (carried : List ℕ) (shut : List Shut) (expected : Option (List Expectation))
    → IsMiddle z log m hand carried shut expected
    → ((x : Record) (n : ℕ) → n ≤ 2 → IsCommitting z log hand carried shut x → ((f : Record → ℕ) → middle_weight f m ≡ f x) → phase_at z ws x.place ≡ n → phase_at z ws' x.place ≡ n)
    → IsMiddlePhase z ws m → IsMiddlePhase z ws' m
middle_on z log ws ws' Calm hand carried shut expected is stays h = tt
middle_on z log ws ws' (Born r) hand carried shut expected is stays h = stays r 1 (omega arith) is (λ f. refl) h
middle_on z log ws ws' (Dying r) hand carried shut expected is stays h = stays r 2 (omega arith) is.0 (λ f. refl) h

-- and where all phases do
pub middle_same : (z : Sizes) (ws ws' : List ℕ) → ((p : ℕ) → phase_at z ws' p ≡ phase_at z ws p) → (m : Middle) → IsMiddlePhase z ws m → IsMiddlePhase z ws' m
middle_same z ws ws' same Calm h = tt
middle_same z ws ws' same (Born r) h = same r.place ∙ h
middle_same z ws ws' same (Dying r) h = same r.place ∙ h

module _ (z : Sizes) (ws ws' : List ℕ) (still : Still z ws ws') where
  history_stays : (log : List Event) → IsHistory z log ws → IsHistory z log ws'
  history_stays log h = record { legal = h.legal; word = still.history ∙ h.word }

  -- what a pass knows under a record's turn
  pub hand_stays : (log : List Event) (x : Hand) → IsHand z log ws x → IsHand z log ws' x
  hand_stays log x h = record {
    below = h.below;
    shown = λ some. still.phases x.place ∙ h.shown some;
    idle = λ low. omega (arith, h.idle low, still.phases x.place);
    live = h.live;
  }

  records_stay : (log : List Event) (hs hs' : List (Slotted Slot)) (vs vs' : List View) → Stays hs hs' → Leaves vs vs'
      → AreRecords z log ws hs vs → AreRecords z log ws' hs' vs'
  records_stay log hs hs' vs vs' homes leaves h = record {
    turn = λ p below. still.turns p ∙ h.turn p below ∙ sym (hands p);
    single = λ p. omega (arith, h.single p, hands p);
    home = λ p below calm.
        let r = h.home p below (sym (still.turns p) ∙ calm) in
        record {
          slot = r.slot;
          there = homes (record_slot p) (λ e. omega (arith, e)) ∙ r.there;
          kind = r.kind;
          live = subst (λ (ph : ℕ). 3 ≤ ph → record_in r.slot ≡ record_of (ph - 3) (state_after log)) (sym (still.phases p)) r.live;
        };
    away = leaves.commit.each (λ (c : Commit). (x : Hand) → c.hand ≡ Some x → IsHand z log ws' x) (λ x e. absurd (none-some x e))
        (λ i v at x e. hand_stays log x (h.away i v at x e));
  }
    where
      hands : (p : ℕ) → total (has_hand p) vs' ≡ total (has_hand p) vs
      hands p = leaves.commit.sums (λ (c : Commit). is_hand_of p c.hand) refl

  phases_stay : (log : List Event) (vs vs' : List View) → Leaves vs vs' → ArePhases z log ws vs → ArePhases z log ws' vs'
  phases_stay log vs vs' leaves h = record {
    shown = λ p id below.
        h.shown p id below
        ∙ ap (λ (ph : ℕ). shows ph id + total (middle_of (of_both p id)) vs) (sym (still.phases p))
        ∙ ap (λ (n : ℕ). shows (phase_at z ws' p) id + n) (sym (middles (of_both p id)));
    used = λ p below.
        h.used p below
        ∙ ap (λ (ph : ℕ). table_keeps ph + total (middle_of (of_place p)) vs) (sym (still.phases p))
        ∙ ap (λ (n : ℕ). table_keeps (phase_at z ws' p) + n) (sym (middles (of_place p)));
    middle = leaves.commit.each (λ (c : Commit). IsMiddlePhase z ws' c.middle) tt
        (λ i v at. middle_same z ws ws' still.phases v.commit.middle (h.middle i v at));
  }
    where
      middles : (weight : Record → ℕ) → total (middle_of weight) vs' ≡ total (middle_of weight) vs
      middles weight = leaves.commit.sums (λ (c : Commit). middle_weight weight c.middle) refl

  expected_stay : (log : List Event) (hs hs' : List (Slotted Slot)) (vs vs' : List View) → Stays hs hs' → Leaves vs vs'
      → AreExpected z log ws hs vs → AreExpected z log ws' hs' vs'
  expected_stay log hs hs' vs vs' homes leaves h = record {
    turn = still.expected ∙ h.turn ∙ sym (leaves.expected.sums expected_turn refl);
    single = omega (arith, h.single, still.expected);
    home = λ calm.
        let r = h.home (sym still.expected ∙ calm) in
        record { table = r.table; there = homes 1 (λ e. omega (arith, e)) ∙ r.there; same = r.same; room = r.room };
    away = leaves.expected.each (λ (o : Option (List Expectation)). (list : List Expectation) → o ≡ Some list → list ≡ (state_after log).expects)
        (λ list e. absurd (none-some list e)) h.away;
  }

module _ (z : Sizes) (ws ws' : List ℕ) (same : SameLinks z ws ws') where
  pub chain_stays : (b link : ℕ) (es : List ChainLink) → IsChain z ws b link es → IsChain z ws' b link es
  chain_stays b link [] h = h
  chain_stays b link (e ∷ es) h = (
    h.0,
    record {
      some = h.1.some;
      below = h.1.below;
      first = same.firsts e.link ∙ h.1.first;
      second = same.seconds e.link ∙ h.1.second;
      placed = h.1.placed;
    },
    subst (λ (n : ℕ). IsChain z ws' b n es) (sym (same.nexts e.link)) (chain_stays b (slice_index ws (next_word z e.link)) es h.2),
  )

  pub hooks_stay : (places : Places) (hooks : List Hook) → HasHooks z ws places hooks → HasHooks z ws' places hooks
  hooks_stay places hooks h = record {
    each = λ i x at.
        let k = h.each i x at in
        record {
          some = k.some;
          below = k.below;
          first = same.firsts x.link ∙ k.first;
          second = same.seconds x.link ∙ k.second;
          next = λ n down e. same.nexts x.link ∙ k.next n down e;
        };
    held = h.held;
    linked = h.linked;
    one = h.one;
  }

module _ (z : Sizes) (ws ws' : List ℕ) (same : SameChains z ws ws') where
  -- the chains, where all views together have shut the same, and as much of links that no record has
  pub chains_stay : (log : List Event) (vs vs' : List View) (chains : ℕ → List ChainLink) → Carries (λ (v : View). v.buckets.shut) [] vs vs'
      → ((b : ℕ) (weight : ChainLink → ℕ) → total (loose_of z b weight) vs' ≡ total (loose_of z b weight) vs)
      → Each (λ v. (b : ℕ) → b < z.buckets → 0 < loose_of z b each_link v → 0 < shuts_of b v) vs'
      → ((link : ℕ) → 0 < link → total (hooks_at link) vs' + total (of_place (place_of link)) (records_after log) ≤ 1)
      → AreChains z log ws vs chains → AreChains z log ws' vs' chains
  chains_stay log vs vs' chains shut loose home lone h = record {
    linked = λ b below.
        subst (λ (n : ℕ). IsChain z ws' b n (chains b)) (sym (same.links.heads b below))
        (chain_stays z ws ws' same.links b (slice_index ws (head_word z b)) (chains b) (h.linked b below));
    ordered = h.ordered;
    gens = λ b below.
        ap (λ (n : ℕ). n % 2) (same.gens b below) ∙ h.gens b below
        ∙ sym (shut.sums (λ (xs : List Shut). total (λ (x : Shut). bit (x.bucket == b)) xs) refl);
    mine = λ b below.
        shut.each (λ (xs : List Shut). 0 < total (λ (x : Shut). bit (x.bucket == b)) xs → chain_in b xs ≡ chains b)
        (λ some. absurd (omega (arith, some))) (h.mine b below);
    chained = λ b below weight.
        h.chained b below weight ∙ ap (λ (n : ℕ). total (links_in z b weight) (records_after log) + n) (sym (loose b weight));
    home = home;
    lone = lone;
  }

  pub walk_stays : (chains : ℕ → List ChainLink) (front : List Event) (n : Walk) → IsWalk z ws chains front n → IsWalk z ws' chains front n
  walk_stays chains front n w = record {
    bucket = w.bucket;
    least = omega (arith, w.least, same.gens n.bucket w.bucket);
    stands = λ here even. w.stands (sym (same.gens n.bucket w.bucket) ∙ here) even;
    known = λ point at.
        let k = w.known point at in
        record { seen = k.seen; live = λ here even. k.live (sym (same.gens n.bucket w.bucket) ∙ here) even };
    gone = λ passed even. omega (arith, w.gone passed even, same.gens n.bucket w.bucket);
  }

  pub links_stay : (vs vs' : List View) → Each (λ v. HasHooks z ws' v.places v.buckets.hooks) vs' → AreLinks z ws vs → AreLinks z ws' vs'
  links_stay vs vs' hooks h = record {
    heads = λ b below. omega (arith, h.heads b below, same.links.heads b below);
    nexts = λ x some below. omega (arith, h.nexts x some below, same.links.nexts x);
    gens = λ b below. omega (arith, h.gens b below, same.gens b below);
    hooks = hooks;
  }

-- A step that leaves the history, the phases, the turns of records and of the expectations: what the other parts say.
pub kept : (z : Sizes) (l : Ledger) (s : State Slot View) (ws' : List ℕ) (hs' : List (Slotted Slot)) (vs' : List View) (free' : List ℕ) (chains' : ℕ → List ChainLink)
    → IsKept z l s → Still z s.words ws' → length ws' ≡ length s.words → Stays s.homes hs' → Leaves s.views vs'
    → ArePasses z l.log vs' → AreReferences z l.log ws' vs' → IsFreeList z ws' hs' vs' free'
    → AreChains z l.log ws' vs' chains' → AreLinks z ws' vs' → AreWalks z ws' vs' chains' → AreRead z ws' vs' → AreCommits z l.log vs'
    → AreKeptWords z l.log ws' vs'
    → IsKept z (record l { free = free'; chains = chains' }) (record { words = ws'; homes = hs'; views = vs' })
kept z l s ws' hs' vs' free' chains' h still long homes leaves passes references free_list chains links walks readings commits words = record {
  limits = h.limits;
  count = long ∙ h.count;
  passes = passes;
  history = history_stays z s.words ws' still l.log h.history;
  references = references;
  free_list = free_list;
  records = records_stay z s.words ws' still l.log s.homes hs' s.views vs' homes leaves h.records;
  phases = phases_stay z s.words ws' still l.log s.views vs' leaves h.phases;
  commits = commits;
  chains = chains;
  links = links;
  walks = walks;
  readings = readings;
  expected = expected_stay z s.words ws' still l.log s.homes hs' s.views vs' homes leaves h.expected;
  kept_words = words;
}

-- the middle of a commit, where the pass has the same turn, carries no less and has no fewer buckets shut
pub middle_more : (z : Sizes) (log : List Event) (v w : View) → w.commit ≡ v.commit → w.expected ≡ v.expected → ((p : ℕ) → times p v.places.carried ≤ times p w.places.carried)
    → ((b : ℕ) → shuts_of b v ≤ shuts_of b w) → IsMiddleOf z log v → IsMiddleOf z log w
middle_more z log v w commit expected carried shut h =
    subst (λ (o : Option (List Expectation)). IsMiddle z log w.commit.middle w.commit.hand w.places.carried w.buckets.shut o) (sym expected)
    (subst (λ (c : Commit). IsMiddle z log c.middle c.hand w.places.carried w.buckets.shut v.expected) (sym commit) (by_middle v.commit.middle h))
  where
    more : (r : Record) → IsCommitting z log v.commit.hand v.places.carried v.buckets.shut r → IsCommitting z log v.commit.hand w.places.carried w.buckets.shut r
    more r k = record {
      turn = k.turn;
      reference = omega (arith, k.reference, carried r.place);
      original = omega (arith, k.original, shut (bucket_of z (pair_of r.original)));
      reply = omega (arith, k.reply, shut (bucket_of z (pair_of r.reply)));
      live = k.live;
    }

    by_middle : (m : Middle) → IsMiddle z log m v.commit.hand v.places.carried v.buckets.shut v.expected
        → IsMiddle z log m v.commit.hand w.places.carried w.buckets.shut v.expected
    by_middle Calm k = tt
    by_middle (Born r) k = more r k
    by_middle (Dying r) k = (more r k.0, k.1)

pub middle_left : (z : Sizes) (log : List Event) (v w : View) → w.commit ≡ v.commit → w.expected ≡ v.expected → w.places.carried ≡ v.places.carried → w.buckets.shut ≡ v.buckets.shut
    → IsMiddleOf z log v → IsMiddleOf z log w
middle_left z log v w commit expected carried shut h =
    middle_more z log v w commit expected (λ p. omega (arith, ap (times p) carried)) (λ b. omega (arith, ap (shuts_in b) shut)) h

-- a pass that has no turn of a record is in the middle of no commit
pub middle_calm : (z : Sizes) (log : List Event) (m : Middle) (carried : List ℕ) (shut : List Shut) (expected : Option (List Expectation)) (hand : Option Hand) → hand ≡ None
    → IsMiddle z log m hand carried shut expected → m ≡ Calm
middle_calm z log Calm carried shut expected hand none h = refl
middle_calm z log (Born r) carried shut expected hand none h = absurd (omega (arith, h.turn, ap (is_hand_of r.place) none))
middle_calm z log (Dying r) carried shut expected hand none h = absurd (omega (arith, h.0.turn, ap (is_hand_of r.place) none))
