-- What the states for all keys know of the pieces so far.
use Rattle.std.specs.Prelude.{◌≡◌, ℕ, true, false, cond, List, Option, Some, None, IfSome}
use Rattle.std.specs.BTreeMap.{BTreeMap, get, is_at}
use Rattle.std.specs.Ordering.{nat_cmp, ordering_then}
use Rattle.std.specs.declared.cmp.Ordering.{Ordering}
use Rattle.ip_reassembly.specs.declared.piece.Key.{Key}
use Rattle.ip_reassembly.specs.declared.piece.Piece.{Piece}
use Rattle.ip_reassembly.specs.declared.gathering.Gathering.{Gathering}
use Rattle.ip_reassembly.specs.Group.{group_of, is_complete, leads}
use Rattle.ip_reassembly.specs.Internal.Gathering.{Gathers, IsSound}

-- the order of the keys
abbrev pub key_cmp : Key → Key → Ordering
key_cmp a b =
    ordering_then (nat_cmp a.source b.source) (ordering_then (nat_cmp a.destination b.destination)
    (ordering_then (nat_cmp a.protocol b.protocol) (nat_cmp a.identification b.identification)))

-- what the state for a key, or that there is none, tells of the key's latest group
abbrev pub Tells : List ℕ → List Piece → Option Gathering → Type 0
Tells bytes group None = (piece : Piece) → leads bytes group piece ≡ true
Tells bytes group (Some g) = Gathers bytes group g × (is_complete bytes group ≡ false)

abbrev pub Knows : List ℕ → List Piece → BTreeMap Key Gathering → Type 0
Knows bytes pieces groups = (key : Key) → Tells bytes (group_of bytes key pieces) (get key_cmp groups key)

abbrev pub AreSound : ℕ → BTreeMap Key Gathering → Type 0
AreSound size groups = (key : Key) → IfSome (get key_cmp groups key) (IsSound size)

-- another map that has this at one key, and else what the first has
abbrev pub Puts : BTreeMap Key Gathering → BTreeMap Key Gathering → Key → Option Gathering → Type 0
Puts old new key now = (q : Key) → get key_cmp new q ≡ cond (is_at (key_cmp key) q) now (get key_cmp old q)

-- whether the group is complete now
abbrev pub Completes : List ℕ → List Piece → Option Gathering → Type 0
Completes bytes group None = is_complete bytes group ≡ false
Completes bytes group (Some g) = Gathers bytes group g × (is_complete bytes group ≡ true)
