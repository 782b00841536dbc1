-- One try to lock a bucket.
use Rattle.std.specs.Prelude.{ℕ, Bool, MatchBool}
use Rattle.track_rule.specs.Sights.{PassSight}
use Rattle.bucket_table.specs.LockedChain.{OnlyLoads}
use Rattle.bucket_table.specs.Locks.{Locks}

-- the bucket is locked, or the pass has only loaded
abbrev pub TriesLock : Bool → ℕ → PassSight → PassSight → Type 0
TriesLock locked bucket v w = MatchBool locked (Locks bucket v w) (OnlyLoads v w)
