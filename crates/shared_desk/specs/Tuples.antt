-- The tuples of a place that a pass has taken, before its links come into their chains.
use Rattle.std.specs.Prelude.{◌≡◌, ◌≢◌, ℕ, ◌<◌, Bool, true, false, List, map}
use Rattle.history_book.specs.declared.record.Flow.{Flow}
use Rattle.tuple_core.specs.declared.Tuple.{Tuple}
use Rattle.track_rule.specs.Chains.{pair_of}
use Rattle.track_rule.specs.Free.{is_among}
use Rattle.track_rule.specs.Links.{hook_of, hooks_of, is_up}
use Rattle.track_rule.specs.Sights.{PassSight, sizes_of}
use Rattle.track_rule.specs.declared.view.Hook.{Hook}
use Rattle.track_rule.specs.declared.view.Pair.{Pair}
use Rattle.bucket_table.specs.LockedChain.{original_link, reply_link}

-- the links of hooks, and whether they are in their chains
abbrev pub standing : List Hook → List (ℕ × Bool)
standing hooks = map (λ (h : Hook). (h.link, h.up)) hooks

-- the tuple of the hook at a link
abbrev pub pair_at : ℕ → List Hook → Pair
pair_at link hooks = (hook_of link hooks).pair

-- The pass owns the place and has one hook at either link of it, and neither is in a chain.
pub record IsFresh (place : ℕ) (v : PassSight) : Type 0 where
  pub below : place < (sizes_of v).entries
  pub owned : is_among place v.view.places.owned ≡ true
  pub original : hooks_of (original_link place) v.view.buckets.hooks ≡ 1
  pub reply : hooks_of (reply_link place) v.view.buckets.hooks ≡ 1
  pub low : is_up place v.view.buckets.hooks ≡ false

-- The link has this tuple, and others have those that they had. All else is as it was, but the readings.
pub record StoresTuple (link : ℕ) (t : Tuple) (v w : PassSight) : Type 0 where
  pub same : w ≡ record v { view = record v.view { buckets = record v.view.buckets { hooks = w.view.buckets.hooks }; readings = w.view.readings } }
  pub stands : standing w.view.buckets.hooks ≡ standing v.view.buckets.hooks
  pub pair : pair_at link w.view.buckets.hooks ≡ pair_of t
  pub others : (x : ℕ) → 0 < x → x ≢ link → pair_at x w.view.buckets.hooks ≡ pair_at x v.view.buckets.hooks

-- Both links have the tuples of the flow. All else is as it was, but the readings.
pub record StoresTuples (place : ℕ) (flow : Flow) (v w : PassSight) : Type 0 where
  pub same : w ≡ record v { view = record v.view { buckets = record v.view.buckets { hooks = w.view.buckets.hooks }; readings = w.view.readings } }
  pub stands : standing w.view.buckets.hooks ≡ standing v.view.buckets.hooks
  pub original : pair_at (original_link place) w.view.buckets.hooks ≡ pair_of flow.original
  pub reply : pair_at (reply_link place) w.view.buckets.hooks ≡ pair_of flow.reply
