-- The bucket of a tuple in a hash table: a multiplicative hash of its two words and a seed.
use Rattle.std.specs.Prelude.{ℕ, ◌*◌, ◌/◌, ◌%◌, ◌^◌, bit_xor}
use Rattle.tuple_core.specs.Words.{address_word, flow_word}
use Rattle.tuple_core.specs.declared.Tuple.{Tuple}

-- the product with the odd number next to 2 ^ 64 over the golden ratio, in 64 bits
abbrev pub spread : ℕ → ℕ
spread x = (x * 0x9E3779B97F4A7C15) % 2 ^ 64

-- that product, its upper half folded into its lower half
unfoldable pub mix : ℕ → ℕ
mix x = bit_xor (spread x) (spread x / 2 ^ 32)

-- of the tuple with these words
abbrev pub bucket_of_words : ℕ → ℕ → ℕ → ℕ → ℕ
bucket_of_words addresses flow seed buckets = mix (bit_xor (mix (bit_xor addresses seed)) flow) % buckets

abbrev pub hash_of : Tuple → ℕ → ℕ
hash_of t seed = mix (bit_xor (mix (bit_xor (address_word t) seed)) (flow_word t))

abbrev pub bucket_of : Tuple → ℕ → ℕ → ℕ
bucket_of t seed buckets = hash_of t seed % buckets
