-- A tuple as two words of 64 bits, as a table of atomic words keeps it.
use Rattle.std.specs.Prelude.{ℕ, ◌+◌, ◌*◌, ◌^◌, List, [], ◌∷◌}
use Rattle.tuple_core.specs.Tuple.{number_of}
use Rattle.tuple_core.specs.declared.Tuple.{Tuple}

-- the addresses: the source above the destination, 32 bits each
abbrev pub address_word : Tuple → ℕ
address_word t = t.src * 2 ^ 32 + t.dst

-- what tells the flows between two addresses apart: the zone above the protocol's number of 8 bits, above the two
-- numbers of 16 bits
abbrev pub flow_word : Tuple → ℕ
flow_word t = t.zone * 2 ^ 40 + number_of t.proto * 2 ^ 32 + t.a * 2 ^ 16 + t.b

abbrev pub words_of : Tuple → List ℕ
words_of t = address_word t ∷ flow_word t ∷ []
