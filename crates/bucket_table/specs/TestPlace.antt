-- The place that a test links and unlinks, in a table of one bucket.
use Rattle.std.specs.Prelude.{◌≡◌, ℕ, ◌<◌, Bool, true, false, [], ◌∷◌}
use Rattle.track_rule.specs.declared.view.Hook.{Hook}
use Rattle.track_rule.specs.declared.view.Middle.TheVariants.{Calm}
use Rattle.tuple_core.specs.declared.Tuple.{Tuple}
use Rattle.track_rule.specs.Chains.{pair_of}
use Rattle.track_rule.specs.Free.{is_among}
use Rattle.track_rule.specs.Sights.{PassSight, sizes_of}
use Rattle.bucket_table.specs.LockedChain.{IsTuple, original_link, reply_link}
use Rattle.bucket_table.specs.Locks.{Buckets, buckets_of}

-- the only bucket, locked
abbrev pub only_bucket : Buckets
only_bucket = buckets_of 0 0

-- The pass owns the place, and has both its links and no other; both are in chains, or neither is.
pub record HasLinks (up : Bool) (place : ℕ) (v : PassSight) : Type 0 where
  pub below : place < (sizes_of v).entries
  pub buckets : (sizes_of v).buckets ≡ 1
  pub owned : is_among place v.view.places.owned ≡ true
  pub calm : v.view.commit.middle ≡ Calm
  pub original : Hook
  pub reply : Hook
  pub all : v.view.buckets.hooks ≡ original ∷ reply ∷ []
  pub links : (original.link ≡ original_link place) × (reply.link ≡ reply_link place)
  pub ups : (original.up ≡ up) × (reply.up ≡ up)

-- The original link has this tuple.
pub record HasOriginal (t : Tuple) (place : ℕ) (v : PassSight) : Type 0 where
  pub has : HasLinks false place v
  pub pair : has.original.pair ≡ pair_of t

-- Both links have valid tuples besides.
pub record HasTestPlace (up : Bool) (place : ℕ) (v : PassSight) : Type 0 where
  pub has : HasLinks up place v
  pub original : IsTuple has.original.pair.first has.original.pair.second
  pub reply : IsTuple has.reply.pair.first has.reply.pair.second
