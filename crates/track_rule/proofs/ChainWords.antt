-- Words of heads and of links apart from all others, and a chain in words of which one changes.
use Rattle.std.proofs.Common.{◌≡◌, ◌≢◌, ℕ, zero, suc, ◌<◌, ◌≤◌, List, [], ◌∷◌, refl, sym, ap, subst, ◌∙◌, ⊎_elim, arith, length}
use Rattle.std.specs.Prelude.{slice_index, slice_set}
use Rattle.std.proofs.lemmas.Bool.{cases_eq}
use Rattle.std.proofs.lemmas.List.{get_or-set_other, get_or-set_same}
use mathlib.Core.Option.{some-injective, some-ne-none}
use Rattle.history_book.specs.declared.sizes.Sizes.{Sizes}
use Rattle.track_rule.specs.declared.view.ChainLink.{ChainLink}
use Rattle.track_rule.specs.BucketSteps.{end_word}
use Rattle.track_rule.specs.Chains.{IsChain, IsLinked, bucket_of, is_at_link}
use Rattle.track_rule.specs.Layout.{first_word, gen_at, gen_word, head_word, next_word, phase_word, refs_word, second_word, turn_word}
use Rattle.track_rule.specs.Sums.{Each, total}
use Rattle.track_rule.specs.Walks.{rev_onto}
use Rattle.track_rule.proofs.BucketMoves.{SameRest}
use Rattle.track_rule.proofs.Lists.{other_bit, same_bit}

-- the word is of a head, of a tuple, or of a next link
pub record IsString (z : Sizes) (word : ℕ) : Type 0 where
  pub high : 2 < word
  pub gens : (b : ℕ) → b < z.buckets → gen_word z b ≢ word
  pub refs : (p : ℕ) → refs_word z p ≢ word
  pub phases : (p : ℕ) → phase_word z p ≢ word
  pub turns : (p : ℕ) → turn_word z p ≢ word

pub string_head : (z : Sizes) (b : ℕ) → b < z.buckets → IsString z (head_word z b)
string_head z b below = record {
  high = omega arith;
  gens = λ c under e. omega (arith, e, under);
  refs = λ p e. omega (arith, e, below);
  phases = λ p e. omega (arith, e, below);
  turns = λ p e. omega (arith, e, below);
}

pub string_next : (z : Sizes) (x : ℕ) → IsString z (next_word z x)
string_next z x = record {
  high = omega arith;
  gens = λ c under e. omega (arith, e, under);
  refs = λ p e. omega (arith, e);
  phases = λ p e. omega (arith, e);
  turns = λ p e. omega (arith, e);
}

pub string_first : (z : Sizes) (x : ℕ) → IsString z (first_word z x)
string_first z x = record {
  high = omega arith;
  gens = λ c under e. omega (arith, e, under);
  refs = λ p e. omega (arith, e);
  phases = λ p e. omega (arith, e);
  turns = λ p e. omega (arith, e);
}

pub string_second : (z : Sizes) (x : ℕ) → IsString z (second_word z x)
string_second z x = record {
  high = omega arith;
  gens = λ c under e. omega (arith, e, under);
  refs = λ p e. omega (arith, e);
  phases = λ p e. omega (arith, e);
  turns = λ p e. omega (arith, e);
}

-- two links have two words of each kind
pub one_next : (z : Sizes) (x y : ℕ) → 0 < x → 0 < y → next_word z x ≡ next_word z y → x ≡ y
one_next z x y some_x some_y e = omega (arith, e, some_x, some_y)

pub one_first : (z : Sizes) (x y : ℕ) → 0 < x → 0 < y → first_word z x ≡ first_word z y → x ≡ y
one_first z x y some_x some_y e = omega (arith, e, some_x, some_y)

pub one_second : (z : Sizes) (x y : ℕ) → 0 < x → 0 < y → second_word z x ≡ second_word z y → x ≡ y
one_second z x y some_x some_y e = omega (arith, e, some_x, some_y)

pub one_head : (z : Sizes) (b c : ℕ) → head_word z b ≡ head_word z c → b ≡ c
one_head z b c e = omega (arith, e)

-- words of different kinds are different ones
pub next_head : (z : Sizes) (x b : ℕ) → b < z.buckets → next_word z x ≢ head_word z b
next_head z x b below e = omega (arith, e, below)

pub first_head : (z : Sizes) (x b : ℕ) → b < z.buckets → first_word z x ≢ head_word z b
first_head z x b below e = omega (arith, e, below)

pub second_head : (z : Sizes) (x b : ℕ) → b < z.buckets → second_word z x ≢ head_word z b
second_head z x b below e = omega (arith, e, below)

pub first_next : (z : Sizes) (x y : ℕ) → first_word z x ≢ next_word z y
first_next z x y e = omega (arith, e)

pub second_next : (z : Sizes) (x y : ℕ) → second_word z x ≢ next_word z y
second_next z x y e = omega (arith, e)

pub first_second : (z : Sizes) (x y : ℕ) → first_word z x ≢ second_word z y
first_second z x y e = omega (arith, e)

-- one such word changes
module _ (z : Sizes) (ws : List ℕ) (word to : ℕ) where
  pub string_rest : IsString z word → SameRest z ws (slice_set ws word to)
  string_rest s = record {
    still = record {
      history = get_or-set_other ws word 0 to 0 (λ e. omega (arith, e, s.high));
      expected = get_or-set_other ws word 2 to 0 (λ e. omega (arith, e, s.high));
      phases = λ p. get_or-set_other ws word (phase_word z p) to 0 (s.phases p);
      turns = λ p. get_or-set_other ws word (turn_word z p) to 0 (s.turns p);
    };
    free = get_or-set_other ws word 1 to 0 (λ e. omega (arith, e, s.high));
    refs = λ p. get_or-set_other ws word (refs_word z p) to 0 (s.refs p);
  }

  pub string_gens : IsString z word → (b : ℕ) → b < z.buckets → gen_at z (slice_set ws word to) b ≡ gen_at z ws b
  string_gens s b below = get_or-set_other ws word (gen_word z b) to 0 (s.gens b below)

  pub word_else : (k : ℕ) → k ≢ word → slice_index (slice_set ws word to) k ≡ slice_index ws k
  word_else k other = get_or-set_other ws word k to 0 other

  pub word_here : word < length ws → slice_index (slice_set ws word to) word ≡ to
  word_here low = get_or-set_same ws word to 0 low

-- the words of a link are as they were
pub record SameAt (z : Sizes) (ws ws' : List ℕ) (x : ℕ) : Type 0 where
  pub first : slice_index ws' (first_word z x) ≡ slice_index ws (first_word z x)
  pub second : slice_index ws' (second_word z x) ≡ slice_index ws (second_word z x)
  pub next : slice_index ws' (next_word z x) ≡ slice_index ws (next_word z x)

module _ (z : Sizes) (ws ws' : List ℕ) (b : ℕ) where
  pub chain_local : (link : ℕ) (es : List ChainLink) → IsChain z ws b link es → Each (λ e. SameAt z ws ws' e.link) es → IsChain z ws' b link es
  chain_local link [] h same = h
  chain_local link (e ∷ es) h same =
      let here : SameAt z ws ws' e.link = same 0 e refl in (
        h.0,
        record { some = h.1.some; below = h.1.below; first = here.first ∙ h.1.first; second = here.second ∙ h.1.second; placed = h.1.placed },
        subst (λ (n : ℕ). IsChain z ws' b n es) (sym here.next)
            (chain_local (slice_index ws (next_word z e.link)) es h.2 (λ i x at. same (suc i) x at)),
      )

-- entries that were passed, the newest first, stand in the words one after another
abbrev pub IsPassed : Sizes → List ℕ → ℕ → List ChainLink → Type 0
IsPassed z ws b [] = Unit {0}
IsPassed z ws b (p ∷ ps) = (slice_index ws (end_word z b ps) ≡ p.link) × IsLinked z ws b p × IsPassed z ws b ps

module _ (z : Sizes) (ws : List ℕ) (b : ℕ) where
  -- a chain is what was passed, and what comes after it
  pub chain_split : (passed rest : List ChainLink) → IsChain z ws b (slice_index ws (head_word z b)) (rev_onto passed rest)
      → IsPassed z ws b passed × IsChain z ws b (slice_index ws (end_word z b passed)) rest
  chain_split [] rest h = (tt, h)
  chain_split (p ∷ ps) rest h = let t = chain_split ps (p ∷ rest) h in ((t.1.0, t.1.1, t.0), t.1.2)

  pub chain_join : (passed rest : List ChainLink) → IsPassed z ws b passed → IsChain z ws b (slice_index ws (end_word z b passed)) rest
      → IsChain z ws b (slice_index ws (head_word z b)) (rev_onto passed rest)
  chain_join [] rest p h = h
  chain_join (q ∷ qs) rest p h = chain_join qs (q ∷ rest) p.2 (p.0, p.1, h)

-- words in which of heads and links only the next link of one link changes, or another head than this one
pub record NextElse (z : Sizes) (ws ws' : List ℕ) (b y : ℕ) : Type 0 where
  pub firsts : (x : ℕ) → slice_index ws' (first_word z x) ≡ slice_index ws (first_word z x)
  pub seconds : (x : ℕ) → slice_index ws' (second_word z x) ≡ slice_index ws (second_word z x)
  pub head : slice_index ws' (head_word z b) ≡ slice_index ws (head_word z b)
  pub nexts : (x : ℕ) → 0 < x → x ≢ y → slice_index ws' (next_word z x) ≡ slice_index ws (next_word z x)

module _ (z : Sizes) (ws ws' : List ℕ) (b y : ℕ) (other : NextElse z ws ws' b y) where
  -- what was passed before it stands there still
  pub end_kept : (ps : List ChainLink) → total (is_at_link y) ps ≡ 0 → IsPassed z ws b ps → slice_index ws' (end_word z b ps) ≡ slice_index ws (end_word z b ps)
  end_kept [] none p = other.head
  end_kept (q ∷ qs) none p = other.nexts q.link p.1.some (λ e. omega (arith, none, same_bit q.link y e))

  linked_kept : (e : ChainLink) → IsLinked z ws b e → IsLinked z ws' b e
  linked_kept e p = record { some = p.some; below = p.below; first = other.firsts e.link ∙ p.first; second = other.seconds e.link ∙ p.second; placed = p.placed }

  pub passed_kept : (ps : List ChainLink) → total (is_at_link y) ps ≡ 0 → IsPassed z ws b ps → IsPassed z ws' b ps
  passed_kept [] none p = tt
  passed_kept (q ∷ qs) none p =
      (end_kept qs (omega (arith, none)) p.2 ∙ p.0, linked_kept q p.1, passed_kept qs (omega (arith, none)) p.2)

  -- and so does that link itself
  pub passed_to : (p : ChainLink) (ps : List ChainLink) → total (is_at_link y) ps ≡ 0 → IsPassed z ws b (p ∷ ps) → IsPassed z ws' b (p ∷ ps)
  passed_to p ps none t = (end_kept ps none t.2 ∙ t.0, linked_kept p t.1, passed_kept ps none t.2)

-- entries whose link is not this one
pub each_other_link : (x : ℕ) (es : List ChainLink) → total (is_at_link x) es ≡ 0 → Each (λ e. e.link ≢ x) es
each_other_link x [] none i e at = absurd (some-ne-none e (sym at))
each_other_link x (y ∷ ys) none zero e at = λ same. omega (arith, none, same_bit y.link x (ap (λ (k : ChainLink). k.link) (some-injective y e at) ∙ same))
each_other_link x (y ∷ ys) none (suc i) e at = each_other_link x ys (omega (arith, none)) i e at

-- the bucket of a link that stands in a chain
pub bucket_there : (z : Sizes) (ws : List ℕ) (b y : ℕ) (es : List ChainLink) → Each (IsLinked z ws b) es → 1 ≤ total (is_at_link y) es
    → bucket_of z (record { first = slice_index ws (first_word z y); second = slice_index ws (second_word z y) }) ≡ b
bucket_there z ws b y [] each any = absurd (omega (arith, any))
bucket_there z ws b y (e ∷ es) each any =
    ⊎_elim
    (λ (same : e.link ≡ y).
    let k : IsLinked z ws b e = each 0 e refl in
    subst (λ (x : ℕ). bucket_of z (record { first = slice_index ws (first_word z x); second = slice_index ws (second_word z x) }) ≡ b) same
    ((λ i. bucket_of z (record { first = k.first i; second = k.second i })) ∙ k.placed))
    (λ (other : e.link ≢ y). bucket_there z ws b y es (λ i x at. each (suc i) x at) (omega (arith, any, other_bit e.link y other)))
    (cases_eq e.link y)
