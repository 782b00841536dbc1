-- Which flows a rule is for.
use Rattle.std.specs.Prelude.{◌≡◌, ℕ, ◌-◌, ◌/◌, ◌^◌, ◌≤◌, Bool, true, ◌==◌, ◌&&◌, ◌||◌, Option, Some, None, is_none, List, find}
use Rattle.tuple_core.specs.declared.Tuple.{Tuple}
use Rattle.file_text.specs.Protocols.{has_ports}
use Rattle.history_book.specs.Filter.{is_number, is_proto}
use Rattle.nat_setup.specs.declared.rule.Block.{Block}
use Rattle.nat_setup.specs.declared.rule.PortRange.{PortRange}
use Rattle.nat_setup.specs.declared.rule.Rule.{Rule}

-- the first bits of the address, as many as the block's length, are the block's
abbrev pub is_in_block : Block → ℕ → Bool
is_in_block block address = block.address / 2 ^ (32 - block.length) == address / 2 ^ (32 - block.length)

-- a rule without an option is for all flows that its other options allow
abbrev pub is_from : Option Block → ℕ → Bool
is_from None address = true
is_from (Some block) address = is_in_block block address

-- each option of the rule allows the original tuple
abbrev pub matches : Tuple → Rule → Bool
matches t rule =
    is_proto rule.proto t.proto && is_from rule.src t.src && is_from rule.dst t.dst
    && is_number rule.sport t.a && is_number rule.dport t.b

-- the first of the rules that is for flows with this original tuple
abbrev pub rule_for : List Rule → Tuple → Option Rule
rule_for rules t = find (matches t) rules

-- a block has a length of at most 32
abbrev pub IsBlock : Option Block → Type 0
IsBlock None = Unit {0}
IsBlock (Some block) = block.length ≤ 32

-- ports go up
abbrev pub IsRange : Option PortRange → Type 0
IsRange None = Unit {0}
IsRange (Some range) = range.low ≤ range.high

-- the rule names no port
abbrev pub is_portless : Rule → Bool
is_portless rule = is_none rule.sport && is_none rule.dport && is_none rule.ports

-- a rule that a file can have: its blocks and its range are such, and ports stand only beside TCP or UDP
pub record IsLawfulRule (rule : Rule) : Type 0 where
  pub src : IsBlock rule.src
  pub dst : IsBlock rule.dst
  pub ports : IsRange rule.ports
  pub beside : (has_ports rule.proto || is_portless rule) ≡ true
