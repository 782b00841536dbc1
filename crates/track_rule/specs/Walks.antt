-- What a pass noted on a walk along a chain without a lock. A noted generation is at most the present one. Where it still
-- is that one, and even, what was met begins the chain, and the chain is the tuples of this bucket of all entries that were
-- live at the noted point, and no other. Otherwise the note says nothing. Where something was met that shows that the generation has
-- passed, it has. A note speaks of the words, of the history and of the chains alone, and of no other pass.
use Rattle.std.specs.Prelude.{◌≡◌, ℕ, ◌<◌, ◌≤◌, ◌%◌, true, Option, Some, None, List, [], ◌∷◌, length}
use Rattle.history_book.specs.declared.event.Event.{Event}
use Rattle.history_book.specs.declared.sizes.Sizes.{Sizes}
use Rattle.track_rule.specs.declared.view.ChainLink.{ChainLink}
use Rattle.track_rule.specs.declared.view.MetLink.{MetLink}
use Rattle.track_rule.specs.declared.view.View.{View}
use Rattle.track_rule.specs.declared.view.Walk.{Walk}
use Rattle.track_rule.specs.Chains.{links_in}
use Rattle.track_rule.specs.History.{records_after}
use Rattle.track_rule.specs.Layout.{gen_at}
use Rattle.track_rule.specs.Sums.{Each, total}

-- links that were passed, the newest first, and those after them
abbrev pub rev_onto : List ChainLink → List ChainLink → List ChainLink
rev_onto [] es = es
rev_onto (p ∷ ps) es = rev_onto ps (p ∷ es)

-- a word was not read, or it is this one
abbrev pub IsRead : Option ℕ → ℕ → Type 0
IsRead None n = Unit {0}
IsRead (Some m) n = m ≡ n

-- what was met is these links, as far as it was read
abbrev pub Matches : List MetLink → List ChainLink → Type 0
Matches [] [] = Unit {0}
Matches [] (e ∷ es) = ⊥
Matches (m ∷ ms) [] = ⊥
Matches (m ∷ ms) (e ∷ es) = (m.link ≡ e.link) × IsRead m.first e.pair.first × IsRead m.second e.pair.second × Matches ms es

-- what was met begins the chain, and is all of it where the end was met
pub record Stands (chain : List ChainLink) (n : Walk) : Type 0 where
  pub passed : List ChainLink
  pub rest : List ChainLink
  pub all : chain ≡ rev_onto passed rest
  pub matches : Matches n.met passed
  pub ended : n.ended ≡ true → rest ≡ []

-- the chain is the tuples of the bucket that were live after these events, and no other
abbrev pub HasLive : Sizes → ℕ → List Event → List ChainLink → Type 0
HasLive z bucket front chain = (weight : ChainLink → ℕ) → total weight chain ≡ total (links_in z bucket weight) (records_after front)

-- the pass has seen the events up to the noted point, and the chain is what was live there
pub record IsKnown (z : Sizes) (words : List ℕ) (chain : List ChainLink) (front : List Event) (n : Walk) (point : ℕ) : Type 0 where
  pub seen : point ≡ length front
  pub live : gen_at z words n.bucket ≡ n.generation → n.generation % 2 ≡ 0 → HasLive z n.bucket front chain

pub record IsWalk (z : Sizes) (words : List ℕ) (chains : ℕ → List ChainLink) (front : List Event) (n : Walk) : Type 0 where
  pub bucket : n.bucket < z.buckets
  pub least : n.generation ≤ gen_at z words n.bucket
  pub stands : gen_at z words n.bucket ≡ n.generation → n.generation % 2 ≡ 0 → Stands (chains n.bucket) n
  pub known : (point : ℕ) → n.at ≡ Some point → IsKnown z words (chains n.bucket) front n point
  pub gone : n.passed ≡ true → n.generation % 2 ≡ 0 → n.generation < gen_at z words n.bucket

pub record AreWalks (z : Sizes) (words : List ℕ) (views : List View) (chains : ℕ → List ChainLink) : Type 0 where
  pub each : Each (λ v. (n : Walk) → v.walk ≡ Some n → IsWalk z words chains v.seen.front n) views
