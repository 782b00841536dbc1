-- A Confirm tells the links of its place the id: what that leaves of chains, and what it changes of what they weigh.
use Rattle.track_rule.proofs.Lists.{other_bit, same_bit}
use Rattle.tuple_core.specs.declared.Tuple.{Tuple}
use Rattle.track_rule.proofs.Frames.{SameChains, chain_stays, walk_stays}
use Rattle.track_rule.specs.Walks.{AreWalks, HasLive, IsWalk, Stands}
use Rattle.track_rule.specs.Commits.{shuts_in}
use Rattle.track_rule.specs.declared.view.Walk.{Walk}
use Rattle.track_rule.specs.declared.slot.Slot.{Slot}
use Rattle.history_book.specs.declared.event.Event.{Event}
use Rattle.atomic_table.specs.Table.{State}
use Rattle.std.proofs.lemmas.Option.{none-some}
use lib.ListN.{get_elem?}
use mathlib.Core.Option.{some}
use Rattle.std.proofs.Common.{Bool, List, None, Option, Some, [], ap, arith, eq-eqb, length, map, ne_eqb, refl, set, subst, sym, ℕ, ⊎_elim, ◌%◌, ◌*◌, ◌+◌, ◌-◌, ◌<◌, ◌∙◌, ◌∷◌, ◌≡◌, ◌≢◌}
use Rattle.std.specs.Prelude.{slice_index, ◌==◌, if◌then◌else◌}
use Rattle.std.proofs.lemmas.Bool.{cases_eq, cond_both, eqb-true, false≢true}
use Rattle.history_book.specs.declared.record.Record.{Record}
use Rattle.history_book.specs.declared.sizes.Sizes.{Sizes}
use Rattle.track_rule.specs.declared.view.ChainLink.{ChainLink}
use Rattle.track_rule.specs.declared.view.Hook.{Hook}
use Rattle.track_rule.specs.declared.view.Shut.{Shut}
use Rattle.track_rule.specs.declared.view.View.{View}
use Rattle.track_rule.specs.Chains.{IsChain, IsOrdered, bucket_of, chain_in, chain_link, is_at_link, links_in, original_of, pair_of, reply_of, shuts_of, side}
use Rattle.track_rule.specs.CommitSteps.{told, told_in, with_confirm}
use Rattle.track_rule.specs.Layout.{gen_at, head_word, next_word, place_of}
use Rattle.track_rule.specs.Rule.{IsKept, Ledger}
use Rattle.track_rule.specs.Sums.{Each, bit, total}
use Rattle.track_rule.proofs.Sums.{each_other, each_put, total_alike, total_map, total_term, total_two}

module _ (p : ℕ) (o : Option ℕ) where
  -- a chain in words stays one, and in order
  pub named_chain : (z : Sizes) (ws : List ℕ) (b n : ℕ) (es : List ChainLink) → IsChain z ws b n es → IsChain z ws b n (map (told p o) es)
  named_chain z ws b n [] h = h
  named_chain z ws b n (e ∷ es) h = (
    h.0,
    record { some = h.1.some; below = h.1.below; first = h.1.first; second = h.1.second; placed = h.1.placed },
    named_chain z ws b (slice_index ws (next_word z e.link)) es h.2,
  )

  pub named_ordered : (es : List ChainLink) → IsOrdered es → IsOrdered (map (told p o) es)
  named_ordered [] h = tt
  named_ordered (e ∷ es) h = (λ reply. total_map (is_at_link (e.link - 1)) (told p o) es ∙ h.0 reply, named_ordered es h.1)

  -- the buckets that are shut stay so, with the chains changed
  pub named_shuts : (b : ℕ) (shut : List Shut) → total (λ (s : Shut). bit (s.bucket == b)) (told_in p o shut) ≡ total (λ (s : Shut). bit (s.bucket == b)) shut
  named_shuts b shut = total_map (λ (s : Shut). bit (s.bucket == b)) (λ (s : Shut). record s { chain = map (told p o) s.chain }) shut

  pub named_in_chain : (b : ℕ) (shut : List Shut) → chain_in b (told_in p o shut) ≡ map (told p o) (chain_in b shut)
  named_in_chain b [] = refl
  named_in_chain b (s ∷ rest) =
      cond_both (s.bucket == b) s.chain (chain_in b rest) (λ es. (if s.bucket == b then map (told p o) s.chain else chain_in b (told_in p o rest)) ≡ map (told p o) es)
      (λ e. ap (λ (k : Bool). if k then map (told p o) s.chain else chain_in b (told_in p o rest)) e)
      (λ e. ap (λ (k : Bool). if k then map (told p o) s.chain else chain_in b (told_in p o rest)) e ∙ named_in_chain b rest)

  -- a link of another place is told nothing
  named_else : (e : ChainLink) → place_of e.link ≢ p → told p o e ≡ e
  named_else e other = ap (λ (k : Bool). record e { id = (if k then o else e.id) }) (ne_eqb (place_of e.link) p other)

  pub named_here : (e : ChainLink) → place_of e.link ≡ p → told p o e ≡ record e { id = o }
  named_here e here = ap (λ (k : Bool). record e { id = (if k then o else e.id) }) (eq-eqb (place_of e.link) p here)

  module _ (z : Sizes) (b : ℕ) (f : ChainLink → ℕ) where
    side_else : (e : ChainLink) → place_of e.link ≢ p → side z b (λ x. f (told p o x)) e ≡ side z b f e
    side_else e other = ap (λ (x : ChainLink). if bucket_of z e.pair == b then f x else 0) (named_else e other)

    -- so records and links of other places weigh what they did
    pub records_else : (rs : List Record) → Each (λ r. r.place ≢ p) rs → total (links_in z b (λ x. f (told p o x))) rs ≡ total (links_in z b f) rs
    records_else rs others = total_alike (links_in z b (λ x. f (told p o x))) (links_in z b f) rs (λ j r at. omega (
      arith,
      side_else (original_of r) (λ e. others j r at (omega (arith, e))),
      side_else (reply_of r) (λ e. others j r at (omega (arith, e))),
    ))

    pub hooks_else : (hooks : List Hook) → Each (λ h. place_of h.link ≢ p) hooks
        → total (λ (h : Hook). (if h.up then side z b (λ x. f (told p o x)) (chain_link h) else 0)) hooks
        ≡ total (λ (h : Hook). (if h.up then side z b f (chain_link h) else 0)) hooks
    hooks_else hooks others =
        total_alike (λ (h : Hook). (if h.up then side z b (λ x. f (told p o x)) (chain_link h) else 0)) (λ (h : Hook). (if h.up then side z b f (chain_link h) else 0)) hooks
        (λ j h at. ap (λ (n : ℕ). if h.up then n else 0) (side_else (chain_link h) (others j h at)))

-- in a bucket that a pass has not shut, a tuple of which it has shut the bucket weighs nothing
pub shut_else : (z : Sizes) (b : ℕ) (t : Tuple) (v : View) → 0 < shuts_of (bucket_of z (pair_of t)) v → shuts_of b v ≡ 0 → (f : ChainLink → ℕ) (e : ChainLink)
    → e.pair ≡ pair_of t → side z b f e ≡ 0
shut_else z b t v shut off f e pair =
    ap (λ (k : Bool). if k then f e else 0)
    (ne_eqb (bucket_of z e.pair) b (λ same. omega (arith, off, shut, ap (λ (c : ℕ). shuts_of c v) (sym (ap (bucket_of z) pair) ∙ same))))

-- the two links of a place
pub two_links : (p link : ℕ) → 0 < link → bit (1 + 2 * p == link) + bit (2 + 2 * p == link) ≡ bit (p == place_of link)
two_links p link some_link =
    ⊎_elim
    (λ (e : 1 + 2 * p ≡ link).
    omega (arith, same_bit (1 + 2 * p) link e, other_bit (2 + 2 * p) link (λ x. omega (arith, x, e)), same_bit p (place_of link) (omega (arith, e))))
    (λ (e : 1 + 2 * p ≢ link).
    ⊎_elim
    (λ (f : 2 + 2 * p ≡ link). omega (arith, other_bit (1 + 2 * p) link e, same_bit (2 + 2 * p) link f, same_bit p (place_of link) (omega (arith, f))))
    (λ (f : 2 + 2 * p ≢ link).
    omega (arith, other_bit (1 + 2 * p) link e, other_bit (2 + 2 * p) link f, other_bit p (place_of link) (λ x. neither p link some_link e f x)))
    (cases_eq (2 + 2 * p) link))
    (cases_eq (1 + 2 * p) link)
  where
    neither : (p link : ℕ) → 0 < link → 1 + 2 * p ≢ link → 2 + 2 * p ≢ link → p ≡ place_of link → ⊥
    neither p link some_link e f x = omega (arith, some_link, e, f, x)

-- the chains, with the id told in buckets that the pass has shut
abbrev pub named_chains : ℕ → Option ℕ → View → (ℕ → List ChainLink) → ℕ → List ChainLink
named_chains p o v chains b = (if shuts_of b v == 0 then chains b else map (told p o) (chains b))

module _ (p : ℕ) (o : Option ℕ) (v : View) (chains : ℕ → List ChainLink) (b : ℕ) where
  pub chains_both : (P : List ChainLink → Type 0) → (shuts_of b v ≡ 0 → P (chains b)) → (shuts_of b v ≢ 0 → P (map (told p o) (chains b))) → P (named_chains p o v chains b)
  chains_both P off on =
      cond_both (shuts_of b v == 0) (chains b) (map (told p o) (chains b)) P (λ e. off (eqb-true (shuts_of b v) 0 e))
      (λ e. on (λ same. false≢true (sym e ∙ eq-eqb (shuts_of b v) 0 same)))

  pub chains_off : shuts_of b v ≡ 0 → named_chains p o v chains b ≡ chains b
  chains_off off = ap (λ (k : Bool). if k then chains b else map (told p o) (chains b)) (eq-eqb (shuts_of b v) 0 off)

  pub chains_on : shuts_of b v ≢ 0 → named_chains p o v chains b ≡ map (told p o) (chains b)
  chains_on on = ap (λ (k : Bool). if k then chains b else map (told p o) (chains b)) (ne_eqb (shuts_of b v) 0 on)

-- what no word shows, after a Confirm
abbrev pub born_ledger : Ledger → Record → View → Ledger
born_ledger l r v = record l { log = with_confirm l.log r; chains = named_chains r.place (Some (length l.log)) v l.chains }

-- a pass tells the links of a place the id of an entry, or that they are of none, in the buckets that it has shut
module _ (z : Sizes) (l : Ledger) (s : State Slot View) (id : ℕ) (v w : View) (h : IsKept z l s) (at : get_elem? s.views id ≡ some v)
    (p : ℕ) (o : Option ℕ) (shut : w.buckets.shut ≡ told_in p o v.buckets.shut) where
  pub told_shuts : (b : ℕ) → shuts_of b w ≡ shuts_of b v
  told_shuts b = ap (shuts_in b) shut ∙ named_shuts p o b v.buckets.shut

  -- no other pass has a bucket that this one has shut
  shut_alone : (b : ℕ) → b < z.buckets → (j : ℕ) (u : View) → j ≢ id → get_elem? s.views j ≡ some u → 0 < shuts_of b u → shuts_of b v ≡ 0
  shut_alone b below j u other there any = omega (arith, any, h.chains.gens b below, total_two (shuts_of b) s.views id j v u at there other)

  pub told_linked : (ws : List ℕ) → SameChains z s.words ws → (b : ℕ) → b < z.buckets
      → IsChain z ws b (slice_index ws (head_word z b)) (named_chains p o v l.chains b)
  told_linked ws same b below =
      chains_both p o v l.chains b (IsChain z ws b (slice_index ws (head_word z b))) (λ off. was)
      (λ on. named_chain p o z ws b (slice_index ws (head_word z b)) (l.chains b) was)
    where
      was : IsChain z ws b (slice_index ws (head_word z b)) (l.chains b)
      was =
          subst (λ (n : ℕ). IsChain z ws b n (l.chains b)) (sym (same.links.heads b below))
          (chain_stays z s.words ws same.links b (slice_index s.words (head_word z b)) (l.chains b) (h.chains.linked b below))

  pub told_ordered : (b : ℕ) → b < z.buckets → IsOrdered (named_chains p o v l.chains b)
  told_ordered b below =
      chains_both p o v l.chains b IsOrdered (λ off. h.chains.ordered b below) (λ on. named_ordered p o (l.chains b) (h.chains.ordered b below))

  pub told_mine : (b : ℕ) → b < z.buckets → Each (λ u. 0 < shuts_of b u → chain_in b u.buckets.shut ≡ named_chains p o v l.chains b) (set s.views id w)
  told_mine b below =
      each_other (λ (u : View). 0 < shuts_of b u → chain_in b u.buckets.shut ≡ named_chains p o v l.chains b) s.views id w
      (λ j u other there any.
      h.chains.mine b below j u there any ∙ sym (chains_off p o v l.chains b (shut_alone b below j u other there any)))
      (λ any.
      let was : 0 < shuts_of b v = omega (arith, any, told_shuts b) in
      ap (chain_in b) shut ∙ named_in_chain p o b v.buckets.shut ∙ ap (map (told p o)) (h.chains.mine b below id v at was)
      ∙ sym (chains_on p o v l.chains b (λ e. omega (arith, was, e))))

  -- a note speaks of even generations, and so of chains that are told nothing
  told_walk : (front : List Event) (n : Walk) → IsWalk z s.words l.chains front n → IsWalk z s.words (named_chains p o v l.chains) front n
  told_walk front n k = record {
    bucket = k.bucket;
    least = k.least;
    stands = λ here even. subst (λ es. Stands es n) (sym (untold here even)) (k.stands here even);
    known = λ point e.
        let j = k.known point e in
        record { seen = j.seen; live = λ here even. subst (HasLive z n.bucket front) (sym (untold here even)) (j.live here even) };
    gone = k.gone;
  }
    where
      untold : gen_at z s.words n.bucket ≡ n.generation → n.generation % 2 ≡ 0 → named_chains p o v l.chains n.bucket ≡ l.chains n.bucket
      untold here even =
          chains_off p o v l.chains n.bucket (omega (arith, here, even, h.chains.gens n.bucket k.bucket, total_term (shuts_of n.bucket) s.views id v at))

  -- the pass that tells has no note of a walk then
  pub told_walks : (ws : List ℕ) → SameChains z s.words ws → w.walk ≡ None → AreWalks z ws (set s.views id w) (named_chains p o v l.chains)
  told_walks ws same none = record {
    each = each_put (λ (u : View). (n : Walk) → u.walk ≡ Some n → IsWalk z ws (named_chains p o v l.chains) u.seen.front n) s.views id w
        (λ i u at' n e. walk_stays z s.words ws same (named_chains p o v l.chains) u.seen.front n (told_walk u.seen.front n (h.walks.each i u at' n e)))
        (λ n e. absurd (none-some n (sym none ∙ e)));
  }
