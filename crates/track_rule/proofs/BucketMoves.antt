-- Steps that change a word of a bucket or of a link: what they leave. A generation is made odd, and even again.
use Rattle.track_rule.specs.declared.view.Commit.{Commit}
use Rattle.std.proofs.Common.{◌≡◌, ◌≢◌, ℕ, ◌+◌, ◌%◌, ◌^◌, ◌<◌, ◌≤◌, Bool, eqb, Option, Some, None, List, [], ◌∷◌, length, refl, sym, ap, subst, ◌∙◌, ⊎_elim, arith, set}
use Rattle.std.specs.Prelude.{slice_index, slice_set, ◌==◌, if◌then◌else◌}
use Rattle.std.proofs.lemmas.Bool.{cases_eq, cond_both, eq-eqb, eqb-true, ne_eqb}
use Rattle.std.proofs.lemmas.List.{get_or-set_other, get_or-set_same, length-set}
use prog.Atomic.{either}
use mathlib.Core.Option.{none, some}
use lib.ListN.{get_elem?}
use Rattle.atomic_table.specs.Table.{Act, Allows, State, Valid, carried_after, keeps as unchanged, step, stepped}
use Rattle.atomic_table.proofs.Lists.{exchanged}
use Rattle.history_book.specs.declared.event.Event.{Event}
use Rattle.history_book.specs.Point.{StartsWith}
use Rattle.history_book.specs.declared.sizes.Sizes.{Sizes}
use Rattle.track_rule.specs.declared.slot.Slot.{Slot}
use Rattle.track_rule.specs.declared.view.ChainLink.{ChainLink}
use Rattle.track_rule.specs.declared.view.Hook.{Hook}
use Rattle.track_rule.specs.declared.view.Places.{Places}
use Rattle.track_rule.specs.declared.view.Seen.{Seen}
use Rattle.track_rule.specs.declared.view.Shut.{Shut}
use Rattle.track_rule.specs.declared.view.View.{View}
use Rattle.track_rule.specs.declared.view.Walk.{Walk}
use Rattle.track_rule.specs.BucketSteps.{IsChainOf, OpenGenStep, OpensGen, ShutGenStep, ShutsGen, ShutsOrMisses, opened_of, shut_now}
use Rattle.track_rule.specs.Chains.{AreChains, IsChain, chain_in, chain_link, hooks_at, links_in, loose_of, shuts_of, side, each_link}
use Rattle.track_rule.specs.History.{records_after}
use Rattle.track_rule.specs.Layout.{first_word, gen_at, gen_word, head_word, next_word, phase_word, refs_at, refs_word, second_word, turn_word}
use Rattle.track_rule.specs.Links.{AreLinks, HasHooks, last_gen}
use Rattle.track_rule.specs.Passes.{AreFronts, IsPass}
use Rattle.track_rule.specs.Readings.{found, noted, stored}
use Rattle.track_rule.specs.Rule.{RuleHolds, IsKept, Ledger}
use Rattle.track_rule.specs.KeptWords.{shows_held}
use Rattle.track_rule.specs.Sums.{bit, total}
use Rattle.track_rule.specs.Walks.{AreWalks, IsWalk}
use Rattle.track_rule.proofs.Balance.{Moves, free_left, pass_moved, passes_moved, references_left}
use Rattle.track_rule.specs.Readings.{AreRead}
use Rattle.track_rule.proofs.Loads.{others_there}
use Rattle.track_rule.proofs.LastRead.{ReadsAt, stored_on}
use Rattle.track_rule.proofs.BucketLoads.{note_read, one_gen}
use Rattle.track_rule.proofs.Carried.{carries_set}
use Rattle.track_rule.proofs.ChainLists.{chain_of}
use Rattle.track_rule.proofs.Frames.{SameLinks, Still, chain_stays, hooks_stay, kept, no_commit, middle_more}
use Rattle.track_rule.proofs.KeptWords.{SamePairs, links_pairs, words_same, words_stay}
use Rattle.track_rule.proofs.Lists.{other_bit, same_bit}
use Rattle.track_rule.specs.declared.view.Middle.{Middle}
use Rattle.track_rule.specs.declared.view.Middle.TheVariants.{Calm}
use Rattle.track_rule.specs.Commits.{IsMiddle, IsMiddleOf}
use Rattle.track_rule.proofs.Sums.{each_put, total_same, total_set, total_term}

-- the words that are neither of a bucket nor of a link
pub record SameRest (z : Sizes) (ws ws' : List ℕ) : Type 0 where
  pub still : Still z ws ws'
  pub free : slice_index ws' 1 ≡ slice_index ws 1
  pub refs : (p : ℕ) → refs_at z ws' p ≡ refs_at z ws p

-- a step of one pass on the buckets or links
pub bucket_moved : (z : Sizes) (l : Ledger) (s : State Slot View) (id : ℕ) (v w : View) (ws' : List ℕ) (chains' : ℕ → List ChainLink)
    → IsKept z l s → get_elem? s.views id ≡ some v → Moves v w → 0 < v.passes.shares → w.seen ≡ v.seen → w.places ≡ v.places → w.free ≡ v.free
    → SameRest z s.words ws' → length ws' ≡ length s.words
    → ((p : ℕ) → 0 < total (shows_held p) s.views → SamePairs z s.words ws' p)
    → AreChains z l.log ws' (set s.views id w) chains' → AreLinks z ws' (set s.views id w) → AreWalks z ws' (set s.views id w) chains' → AreRead z ws' (set s.views id w) → IsMiddleOf z l.log w
    → IsKept z (record l { chains = chains' }) (record { words = ws'; homes = s.homes; views = set s.views id w })
bucket_moved z l s id v w ws' chains' h at m has_some seen places free rest long pairs chains links walks readings middle =
    let one : IsPass z l.log v = h.passes.each id v at in
    kept z l s ws' s.homes (set s.views id w) l.free chains' h rest.still long (λ k other. refl)
    (record {
      commit = carries_set (λ (u : View). u.commit) no_commit s.views id v w at m.commit;
      expected = carries_set (λ (u : View). u.expected) None s.views id v w at m.expected;
    })
    (passes_moved z l.log s.views id v w at m.made
    (pass_moved z l.log v w one m.made has_some (subst (StartsWith l.log) (sym (ap (λ (x : Seen). x.front) seen)) one.front)
    (subst (AreFronts l.log) (sym (ap (λ (x : Seen). x.told) seen)) one.told)) h.passes)
    (references_left z l.log s.words ws' s.views id v w at (ap (λ (x : Places). x.held) places) (ap (λ (x : Places). x.carried) places) (ap (λ (x : Places). x.ended) places) (ap (λ (x : Commit). x.middle) m.commit) rest.refs
    rest.still.phases h.references)
    (free_left z s.words ws' s.homes s.homes s.views id v w l.free at places free rest.refs rest.still.phases rest.free refl h.free_list)
    chains links walks readings (each_put (IsMiddleOf z l.log) s.views id w h.commits middle)
    (words_same z l.log ws' s.views id v w at (ap (λ (x : Places). x.held) places)
    (words_stay z l.log l.log s.words ws' s.views (λ i e at'. at') (λ p any i o. o) pairs h.kept_words))

-- one generation changes
module _ (z : Sizes) (ws : List ℕ) (b n : ℕ) (below : b < z.buckets) where
  gen_rest : SameRest z ws (slice_set ws (gen_word z b) n)
  gen_rest = record {
    still = record {
      history = get_or-set_other ws (gen_word z b) 0 n 0 (λ e. omega (arith, e));
      expected = get_or-set_other ws (gen_word z b) 2 n 0 (λ e. omega (arith, e));
      phases = λ p. get_or-set_other ws (gen_word z b) (phase_word z p) n 0 (λ e. omega (arith, e, below));
      turns = λ p. get_or-set_other ws (gen_word z b) (turn_word z p) n 0 (λ e. omega (arith, e, below));
    };
    free = get_or-set_other ws (gen_word z b) 1 n 0 (λ e. omega (arith, e));
    refs = λ p. get_or-set_other ws (gen_word z b) (refs_word z p) n 0 (λ e. omega (arith, e, below));
  }

  gen_links : SameLinks z ws (slice_set ws (gen_word z b) n)
  gen_links = record {
    heads = λ c under. get_or-set_other ws (gen_word z b) (head_word z c) n 0 (λ e. omega (arith, e, below));
    firsts = λ x. get_or-set_other ws (gen_word z b) (first_word z x) n 0 (λ e. omega (arith, e, below));
    seconds = λ x. get_or-set_other ws (gen_word z b) (second_word z x) n 0 (λ e. omega (arith, e, below));
    nexts = λ x. get_or-set_other ws (gen_word z b) (next_word z x) n 0 (λ e. omega (arith, e, below));
  }

  gen_else : (c : ℕ) → c ≢ b → gen_at z (slice_set ws (gen_word z b) n) c ≡ gen_at z ws c
  gen_else c other = get_or-set_other ws (gen_word z b) (gen_word z c) n 0 (λ e. other (one_gen z c b e))

  gen_here : gen_word z b < length ws → gen_at z (slice_set ws (gen_word z b) n) b ≡ n
  gen_here low = get_or-set_same ws (gen_word z b) n 0 low

-- A generation rises to a value at which no note can stand: then all notes stay true.
walk_raised : (z : Sizes) (ws ws' : List ℕ) (chains : ℕ → List ChainLink) (b : ℕ) (front : List Event) (m : Walk)
    → ((c : ℕ) → c ≢ b → gen_at z ws' c ≡ gen_at z ws c) → gen_at z ws b ≤ gen_at z ws' b
    → (m.generation ≤ gen_at z ws b → gen_at z ws' b ≡ m.generation → m.generation % 2 ≡ 0 → ⊥)
    → IsWalk z ws chains front m → IsWalk z ws' chains front m
walk_raised z ws ws' chains b front m others more never w =
    ⊎_elim
    (λ (e : m.bucket ≡ b).
    let no_more : gen_at z ws' m.bucket ≡ m.generation → m.generation % 2 ≡ 0 → ⊥ =
    λ here even. never (omega (arith, w.least, ap (gen_at z ws) e)) (sym (ap (gen_at z ws') e) ∙ here) even in
    record {
      bucket = w.bucket;
      least = omega (arith, w.least, ap (gen_at z ws) e, ap (gen_at z ws') e, more);
      stands = λ here even. absurd (no_more here even);
      known = λ point at. record { seen = (w.known point at).seen; live = λ here even. absurd (no_more here even) };
      gone = λ passed even. omega (arith, w.gone passed even, ap (gen_at z ws) e, ap (gen_at z ws') e, more);
    })
    (λ (e : m.bucket ≢ b).
    record {
      bucket = w.bucket;
      least = omega (arith, w.least, others m.bucket e);
      stands = λ here even. w.stands (sym (others m.bucket e) ∙ here) even;
      known = λ point at. let k = w.known point at in record { seen = k.seen; live = λ here even. k.live (sym (others m.bucket e) ∙ here) even };
      gone = λ passed even. omega (arith, w.gone passed even, others m.bucket e);
    })
    (cases_eq m.bucket b)

-- how often the other buckets are shut, and what is known of them, where one was opened
module _ (b : ℕ) where
  opened_less : (shut : List Shut) → 0 < total (λ (s : Shut). bit (s.bucket == b)) shut
      → total (λ (s : Shut). bit (s.bucket == b)) (opened_of b shut) + 1 ≡ total (λ (s : Shut). bit (s.bucket == b)) shut
  opened_less [] any = absurd (omega (arith, any))
  opened_less (s ∷ rest) any =
      cond_both (s.bucket == b) rest (s ∷ opened_of b rest) (λ xs. total (λ (s : Shut). bit (s.bucket == b)) xs + 1 ≡ bit (s.bucket == b) + total (λ (s : Shut). bit (s.bucket == b)) rest)
      (λ e. omega (arith, ap bit e))
      (λ e. omega (arith, ap bit e, opened_less rest (omega (arith, any, ap bit e))))

  opened_else : (c : ℕ) → c ≢ b → (shut : List Shut) → total (λ (s : Shut). bit (s.bucket == c)) (opened_of b shut) ≡ total (λ (s : Shut). bit (s.bucket == c)) shut
  opened_else c other [] = refl
  opened_else c other (s ∷ rest) =
      cond_both (s.bucket == b) rest (s ∷ opened_of b rest) (λ xs. total (λ (s : Shut). bit (s.bucket == c)) xs ≡ bit (s.bucket == c) + total (λ (s : Shut). bit (s.bucket == c)) rest)
      (λ e. omega (arith, other_bit s.bucket c (λ k. other (sym k ∙ eqb-true s.bucket b e))))
      (λ e. omega (arith, opened_else c other rest))

  chain_else : (c : ℕ) → c ≢ b → (shut : List Shut) → chain_in c (opened_of b shut) ≡ chain_in c shut
  chain_else c other [] = refl
  chain_else c other (s ∷ rest) =
      cond_both (s.bucket == b) rest (s ∷ opened_of b rest) (λ xs. chain_in c xs ≡ (if s.bucket == c then s.chain else chain_in c rest))
      (λ e. sym (ap (λ (k : Bool). if k then s.chain else chain_in c rest) (ne_eqb s.bucket c (λ k. other (sym k ∙ eqb-true s.bucket b e)))))
      (λ e. ap (λ (es : List ChainLink). if s.bucket == c then s.chain else es) (chain_else c other rest))

-- the chains where a generation changed
module _ (l : Ledger) (s : State Slot View) (id b : ℕ) (v : View) (h : IsKept v.passes.sizes l s) (at : get_elem? s.views id ≡ some v)
    (has_some : 0 < v.passes.shares) (below : b < v.passes.sizes.buckets) where
  long : gen_word v.passes.sizes b < length s.words
  long = omega (arith, h.count, below)

  -- a generation becomes n, and the pass has shut these buckets
  regen : (n : ℕ) (w : View) → Moves v w → w.seen ≡ v.seen → w.places ≡ v.places → w.free ≡ v.free → w.buckets.hooks ≡ v.buckets.hooks → w.walk ≡ v.walk
      → gen_at v.passes.sizes s.words b ≤ n → n ≤ last_gen → n % 2 + shuts_of b v ≡ gen_at v.passes.sizes s.words b % 2 + shuts_of b w
      → ((c : ℕ) → c ≢ b → shuts_of c w ≡ shuts_of c v)
      → ((c : ℕ) → c < v.passes.sizes.buckets → 0 < shuts_of c w → chain_in c w.buckets.shut ≡ l.chains c)
      → ((m : Walk) → m.generation ≤ gen_at v.passes.sizes s.words b → n ≡ m.generation → m.generation % 2 ≡ 0 → ⊥)
      → ReadsAt (gen_word v.passes.sizes b) n v w
      → ((c : ℕ) → c < v.passes.sizes.buckets → 0 < loose_of v.passes.sizes c each_link w → 0 < shuts_of c w) → IsMiddleOf v.passes.sizes l.log w
      → IsKept v.passes.sizes l (record { words = slice_set s.words (gen_word v.passes.sizes b) n; homes = s.homes; views = set s.views id w })
  regen n w m seen places free hooks walk more low parity others mine never read home middle =
      let z : Sizes = v.passes.sizes in
      let new : List ℕ = slice_set s.words (gen_word z b) n in
      let here : gen_at z new b ≡ n = gen_here z s.words b n below long in
      let same : SameLinks z s.words new = gen_links z s.words b n below in
      bucket_moved z l s id v w new l.chains h at m has_some seen places free (gen_rest z s.words b n below) (length-set s.words (gen_word z b) n)
      (λ p any. links_pairs z s.words new same p)
      (record {
        linked = λ c under.
            subst (λ (k : ℕ). IsChain z new c k (l.chains c)) (sym (same.heads c under))
            (chain_stays z s.words new same c (slice_index s.words (head_word z c)) (l.chains c) (h.chains.linked c under));
        ordered = h.chains.ordered;
        gens = λ c under.
            ⊎_elim
            (λ (e : c ≡ b).
            subst (λ (k : ℕ). gen_at z new k % 2 ≡ total (shuts_of k) (set s.views id w)) (sym e)
            (omega (arith, ap (λ (k : ℕ). k % 2) here, parity, h.chains.gens b below, total_set (shuts_of b) s.views id v w at)))
            (λ (e : c ≢ b).
            omega (
              arith,
              ap (λ (k : ℕ). k % 2) (gen_else z s.words b n below c e),
              h.chains.gens c under,
              total_same (shuts_of c) s.views id v w at (others c e),
            ))
            (cases_eq c b);
        mine = λ c under. each_put (λ u. 0 < shuts_of c u → chain_in c u.buckets.shut ≡ l.chains c) s.views id w (h.chains.mine c under) (mine c under);
        chained = λ c under weight.
            h.chains.chained c under weight
            ∙ ap (λ (k : ℕ). total (links_in z c weight) (records_after l.log) + k)
            (sym (total_same (loose_of z c weight) s.views id v w at (ap (λ (xs : List Hook). total (λ (x : Hook). (if x.up then side z c weight (chain_link x) else 0)) xs) hooks)));
        lone = λ link any. omega (
          arith,
          h.chains.lone link any,
          total_same (hooks_at link) s.views id v w at (ap (λ (xs : List Hook). total (λ (x : Hook). bit (x.link == link)) xs) hooks),
        );
        home = each_put (λ (u : View). (c : ℕ) → c < z.buckets → 0 < loose_of z c each_link u → 0 < shuts_of c u) s.views id w h.chains.home home;
      })
      (record {
        heads = λ c under. omega (arith, h.links.heads c under, same.heads c under);
        nexts = λ x any under. omega (arith, h.links.nexts x any under, same.nexts x);
        gens = λ c under.
            ⊎_elim (λ (e : c ≡ b). omega (arith, ap (gen_at z new) e, here, low))
            (λ (e : c ≢ b). omega (arith, gen_else z s.words b n below c e, h.links.gens c under)) (cases_eq c b);
        hooks = each_put (λ u. HasHooks z new u.places u.buckets.hooks) s.views id w
            (λ i u at'. hooks_stay z s.words new same u.places u.buckets.hooks (h.links.hooks i u at'))
            (subst (HasHooks z new w.places) (sym hooks)
            (subst (λ (x : Places). HasHooks z new x v.buckets.hooks) (sym places)
            (hooks_stay z s.words new same v.places v.buckets.hooks (h.links.hooks id v at))));
      })
      (record {
        each = each_put (λ (u : View). (m : Walk) → u.walk ≡ Some m → IsWalk z new l.chains u.seen.front m) s.views id w
            (λ i u at' m e. raised m u.seen.front (h.walks.each i u at' m e))
            (subst (λ (o : Option Walk). (m : Walk) → o ≡ Some m → IsWalk z new l.chains w.seen.front m) (sym walk)
            (subst (λ (x : Seen). (m : Walk) → v.walk ≡ Some m → IsWalk z new l.chains x.front m) (sym seen)
            (λ m e. raised m v.seen.front (h.walks.each id v at m e))));
      })
      (stored_on z l.log s.words s.views id (gen_word z b) n v w h.passes at has_some long read h.readings) middle
    where
      raised : (m : Walk) (front : List Event) → IsWalk v.passes.sizes s.words l.chains front m
          → IsWalk v.passes.sizes (slice_set s.words (gen_word v.passes.sizes b) n) l.chains front m
      raised m front w =
          let here : gen_at v.passes.sizes (slice_set s.words (gen_word v.passes.sizes b) n) b ≡ n = gen_here v.passes.sizes s.words b n below long in
          walk_raised v.passes.sizes s.words (slice_set s.words (gen_word v.passes.sizes b) n) l.chains b front m (gen_else v.passes.sizes s.words b n below)
          (omega (arith, here, more)) (λ least same even. never m least (sym here ∙ same) even) w

  -- an even generation becomes odd
  none_shut : (even : ℕ) → gen_at v.passes.sizes s.words b ≡ even → even % 2 ≡ 0 → shuts_of b v ≡ 0
  none_shut even hit half = omega (arith, h.chains.gens b below, hit, half, total_term (shuts_of b) s.views id v at)

  shuts : (even : ℕ) → gen_at v.passes.sizes s.words b ≡ even → even % 2 ≡ 0 → even < last_gen
      → IsKept v.passes.sizes l (record {
        words = slice_set s.words (gen_word v.passes.sizes b) (even + 1);
        homes = s.homes;
        views = set s.views id (noted (stored (gen_word v.passes.sizes b) (even + 1)) (record v { buckets = shut_now b (l.chains b) v.buckets }));
      })
  shuts even hit half low =
      let w : View = noted (stored (gen_word v.passes.sizes b) (even + 1)) (record v { buckets = shut_now b (l.chains b) v.buckets }) in
      regen (even + 1) w (record { made = record { passes = refl; own = refl; gathered = refl }; commit = refl; expected = refl }) refl refl refl refl refl
      (omega (arith, hit)) (omega (arith, low)) (omega (arith, hit, half, same_bit b b refl)) (λ c other. omega (arith, other_bit b c (λ e. other (sym e))))
      (λ c under any.
      cond_both (b == c) (l.chains b) (chain_in c v.buckets.shut) (λ es. es ≡ l.chains c)
      (λ e. ap l.chains (eqb-true b c e))
      (λ e. h.chains.mine c under id v at (omega (arith, any, ap bit e))))
      (λ m least same even_half. omega (arith, same, even_half, half))
      (record { reading = stored (gen_word v.passes.sizes b) (even + 1); more = refl; word = refl; value = refl })
      (λ c under any. omega (arith, h.chains.home id v at c under any))
      (middle_more v.passes.sizes l.log v w refl refl (λ p. omega arith) (λ c. omega arith) (h.commits id v at))

  shuts_told : (even : ℕ) → gen_at v.passes.sizes s.words b ≡ even → even % 2 ≡ 0
      → ShutsGen b even v (noted (stored (gen_word v.passes.sizes b) (even + 1)) (record v { buckets = shut_now b (l.chains b) v.buckets }))
  shuts_told even hit half =
      let own : (if b == b then l.chains b else chain_in b v.buckets.shut) ≡ l.chains b =
      ap (λ (k : Bool). if k then l.chains b else chain_in b v.buckets.shut) (eq-eqb b b refl) in
      record {
        view = ap (λ (es : List ChainLink). noted (stored (gen_word v.passes.sizes b) (even + 1)) (record v { buckets = shut_now b es v.buckets })) (sym own);
        chain = subst (IsChainOf v.passes.sizes b) (sym own) (chain_of v.passes.sizes l.log s.words s.views l.chains h.chains b below);
        before = none_shut even hit half;
        sole = λ one. sym hit ∙ h.readings one id v at has_some (gen_word v.passes.sizes b);
      }

  -- an odd one becomes even
  once_shut : 0 < shuts_of b v → (gen_at v.passes.sizes s.words b % 2 ≡ 1) × (shuts_of b v ≡ 1)
  once_shut any =
      let all = h.chains.gens b below in
      let term = total_term (shuts_of b) s.views id v at in
      (omega (arith, all, term, any, half (gen_at v.passes.sizes s.words b)), omega (arith, all, term, any, half (gen_at v.passes.sizes s.words b)))
    where
      half : (n : ℕ) → n % 2 < 2
      half n = omega arith

  opens : 0 < shuts_of b v → loose_of v.passes.sizes b each_link v ≡ 0 → v.commit.middle ≡ Calm
      → IsKept v.passes.sizes l (record {
        words = slice_set s.words (gen_word v.passes.sizes b) (gen_at v.passes.sizes s.words b + 1);
        homes = s.homes;
        views = set s.views id (noted (stored (gen_word v.passes.sizes b) (gen_at v.passes.sizes s.words b + 1)) (record v { buckets = record v.buckets { shut = opened_of b v.buckets.shut } }));
      })
  opens any nothing calm =
      let n : ℕ = gen_at v.passes.sizes s.words b in
      let w : View = noted (stored (gen_word v.passes.sizes b) (n + 1)) (record v { buckets = record v.buckets { shut = opened_of b v.buckets.shut } }) in
      let once = once_shut any in
      let less = opened_less b v.buckets.shut any in
      regen (n + 1) w (record { made = record { passes = refl; own = refl; gathered = refl }; commit = refl; expected = refl }) refl refl refl refl refl
      (omega arith) (omega (arith, h.links.gens b below, once.0)) (omega (arith, once.0, once.1, less)) (λ c other. opened_else b c other v.buckets.shut)
      (λ c under more.
      ⊎_elim
      (λ (e : c ≡ b). absurd (omega (arith, more, less, once.1, ap (λ (k : ℕ). total (λ (x : Shut). bit (x.bucket == k)) (opened_of b v.buckets.shut)) e)))
      (λ (e : c ≢ b). chain_else b c e v.buckets.shut ∙ h.chains.mine c under id v at (omega (arith, more, opened_else b c e v.buckets.shut)))
      (cases_eq c b))
      (λ m least same even. omega (arith, least, same)) (record { reading = stored (gen_word v.passes.sizes b) (n + 1); more = refl; word = refl; value = refl })
      (λ c under loose.
      ⊎_elim
      (λ (e : c ≡ b). absurd (omega (arith, loose, nothing, ap (λ (k : ℕ). loose_of v.passes.sizes k each_link v) e)))
      (λ (e : c ≢ b). omega (arith, h.chains.home id v at c under loose, opened_else b c e v.buckets.shut))
      (cases_eq c b))
      (subst (λ (m : Middle). IsMiddle v.passes.sizes l.log m v.commit.hand v.places.carried (opened_of b v.buckets.shut) v.expected) (sym calm) tt)

-- shutting a bucket keeps the rule
pub shutting : (slots id b even : ℕ) (v : View) (c : List (ℕ × Slot)) → b < v.passes.sizes.buckets → 0 < v.passes.shares → even % 2 ≡ 0 → even < last_gen
    → Allows (RuleHolds v.passes.sizes) slots id (v, c) (gen_word v.passes.sizes b) (λ n. either (eqb n even) (even + 1) n)
    (ShutGenStep (step slots (gen_word v.passes.sizes b) even (even + 1) none) (v, c))
shutting slots id b even v c below has_some half low s (l, h) long at range =
    let z : Sizes = v.passes.sizes in
    let n : ℕ = gen_at z s.words b in
    exchanged n even (even + 1)
    (λ (k : ℕ). (w : View) × (a : Act Slot) × Valid s.homes c a × RuleHolds z (stepped s (gen_word z b) k id c w a)
    × ShutGenStep (step slots (gen_word z b) even (even + 1) none) (v, c) n (w, carried_after c a))
    (λ (hit : n ≡ even).
    let w : View = noted (stored (gen_word z b) (even + 1)) (record v { buckets = shut_now b (l.chains b) v.buckets }) in (
      w,
      unchanged,
      tt,
      (l, shuts l s id b v h at has_some below even hit half low),
      λ a same. subst (λ (k : ℕ). ShutsOrMisses (n == even) k even v n w × (c ≡ c) × (even + 1 ≡ even + 1)) (one_gen z b a same)
          (subst (λ (t : Bool). ShutsOrMisses t b even v n w) (sym (eq-eqb n even hit)) (shuts_told l s id b v h at has_some below even hit half), refl, refl),
    ))
    (λ (miss : n ≢ even).
    let w : View = noted (found (gen_word z b) n) v in (
      w,
      unchanged,
      tt,
      (l, note_read z l s id (gen_word z b) v v.walk h at has_some (h.walks.each id v at)),
      λ a same. subst (λ (k : ℕ). ShutsOrMisses (n == even) k even v n w × (c ≡ c) × (even + 1 ≡ even + 1)) (one_gen z b a same) (
        subst (λ (t : Bool). ShutsOrMisses t b even v n w) (sym (ne_eqb n even miss))
            (record {
              view = refl;
              other = ne_eqb n even miss;
              last = h.links.gens b below;
              others = λ odd mine.
                  others_there l s id v h at has_some (shuts_of b) (λ u k. ap (λ (xs : List Shut). total (λ (x : Shut). bit (x.bucket == b)) xs) k.shut)
                  (omega (arith, odd, mine, h.chains.gens b below));
              sole = λ one. h.readings one id v at has_some (gen_word z b);
            }),
        refl,
        refl,
      ),
    ))

-- opening it keeps the rule
pub opening_gen : (slots id b : ℕ) (v : View) (c : List (ℕ × Slot)) → b < v.passes.sizes.buckets → 0 < v.passes.shares → 0 < shuts_of b v
    → loose_of v.passes.sizes b each_link v ≡ 0 → v.commit.middle ≡ Calm
    → Allows (RuleHolds v.passes.sizes) slots id (v, c) (gen_word v.passes.sizes b) (λ n. (n + 1) % 2 ^ 64)
    (OpenGenStep (step slots (gen_word v.passes.sizes b) 1 0 none) (v, c))
opening_gen slots id b v c below has_some any nothing calm s (l, h) long at range =
    let z : Sizes = v.passes.sizes in
    let n : ℕ = gen_at z s.words b in
    let w : View = noted (stored (gen_word z b) (n + 1)) (record v { buckets = record v.buckets { shut = opened_of b v.buckets.shut } }) in
    let once = once_shut l s id b v h at has_some below any in
    let next : (n + 1) % 2 ^ 64 ≡ n + 1 = omega (arith, h.links.gens b below) in
    let told : OpensGen b v w = record {
      generation = n;
      odd = once.0;
      sole = λ one. h.readings one id v at has_some (gen_word z b);
      view = refl;
      after = omega (arith, once.1, opened_less b v.buckets.shut any);
      others = λ a other. (opened_else b a other v.buckets.shut, chain_else b a other v.buckets.shut);
    } in (
      w,
      unchanged,
      tt,
      (
        l,
        subst (λ (k : ℕ). IsKept z l (record { words = slice_set s.words (gen_word z b) k; homes = s.homes; views = set s.views id w })) (sym next)
            (opens l s id b v h at has_some below any nothing calm),
      ),
      λ a same. subst (λ (k : ℕ). OpensGen k v w × (c ≡ c)) (one_gen z b a same) (told, refl),
    )
