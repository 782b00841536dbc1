-- Numbers in a list of bytes, by the order of the bytes and the place of the first.
use Rattle.std.specs.Prelude.{ℕ, ◌+◌, ◌*◌, List, slice_index}
use Rattle.packet_headers.specs.declared.byte_order.Endian.{Endian}
use Rattle.packet_headers.specs.declared.byte_order.Endian.TheVariants.{Little, Big}

-- two bytes, the lowest first
abbrev pub little_u16_at : List ℕ → ℕ → ℕ
little_u16_at bytes at = slice_index bytes at + 256 * slice_index bytes (at + 1)

-- four bytes, the lowest first
abbrev pub little_u32_at : List ℕ → ℕ → ℕ
little_u32_at bytes at = little_u16_at bytes at + 65536 * little_u16_at bytes (at + 2)

-- two bytes, the highest first, as the headers of the Internet have them (RFC 791, appendix B)
abbrev pub big_u16_at : List ℕ → ℕ → ℕ
big_u16_at bytes at = 256 * slice_index bytes at + slice_index bytes (at + 1)

-- four bytes, the highest first
abbrev pub big_u32_at : List ℕ → ℕ → ℕ
big_u32_at bytes at = 65536 * big_u16_at bytes at + big_u16_at bytes (at + 2)

-- two bytes in an order
abbrev pub u16_at : Endian → List ℕ → ℕ → ℕ
u16_at Little bytes at = little_u16_at bytes at
u16_at Big bytes at = big_u16_at bytes at

-- four bytes in an order
abbrev pub u32_at : Endian → List ℕ → ℕ → ℕ
u32_at Little bytes at = little_u32_at bytes at
u32_at Big bytes at = big_u32_at bytes at
