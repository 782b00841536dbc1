-- How great the numbers are that texts write.
use Rattle.std.specs.Prelude.{ℕ, ◌≤◌, ◌<◌, ◌^◌, List, Option, IfSome}
use Rattle.file_text.specs.Text.{address_of, port_of, within}

-- a number within bounds is no greater than the upper one
abbrev pub NumbersStayWithin : Type 0
NumbersStayWithin = (low high : ℕ) (read : Option ℕ) → IfSome (within low high read) (λ n. n ≤ high)

-- a port fits two bytes
abbrev pub PortsAreSmall : Type 0
PortsAreSmall = (least : ℕ) (text : List ℕ) → IfSome (port_of least text) (λ n. n < 2 ^ 16)

-- an address fits four bytes
abbrev pub AddressesAreSmall : Type 0
AddressesAreSmall = (text : List ℕ) → IfSome (address_of text) (λ n. n < 2 ^ 32)
