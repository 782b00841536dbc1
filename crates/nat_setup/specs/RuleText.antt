-- What a line of a rules file says, word by word.
use Rattle.std.specs.Prelude.{ℕ, ◌||◌, Bool, nat_le, if◌then◌else◌, List, [], ◌∷◌, Option, Some, None, Result, Ok, Err, codes, bytes_eq}
use Rattle.nat_setup.specs.declared.rule.Side.{Side}
use Rattle.nat_setup.specs.declared.rule.Side.TheVariants.{Source, Destination}
use Rattle.nat_setup.specs.declared.rule.Block.{Block}
use Rattle.nat_setup.specs.declared.rule.PortRange.{PortRange}
use Rattle.nat_setup.specs.declared.rule.Rule.{Rule}
use Rattle.nat_setup.specs.declared.read.RuleKind.{RuleKind}
use Rattle.nat_setup.specs.declared.read.RuleKind.TheVariants.{Word, Address, Prefix, Range, TooMany}
use Rattle.nat_setup.specs.Rule.{is_portless}
use Rattle.file_text.specs.Protocols.{has_ports, proto_named}
use Rattle.file_text.specs.Reading.{◌>>=◌, once, required}
use Rattle.file_text.specs.Text.{address_of, halves_at, number_in, port_of}

-- `snat` changes the source, `dnat` the destination
unfoldable pub side_of : List ℕ → Option Side
side_of word = if bytes_eq word (codes "snat") then Some Source else (if bytes_eq word (codes "dnat") then Some Destination else None)

-- a length is a number from 0 to 32
unfoldable pub length_of : List ℕ → Option ℕ
length_of text = number_in 2 0 32 text

-- a block is an address, or an address, a slash and a length
abbrev pub block_of_halves : List ℕ → Option (List ℕ × List ℕ) → Result Block RuleKind
block_of_halves text None = required Address (address_of text) >>= λ a. Ok (record { address = a; length = 32 })
block_of_halves text (Some halves) =
    required Address (address_of halves.0) >>= λ a. required Prefix (length_of halves.1) >>= λ n. Ok (record { address = a; length = n })

unfoldable pub block_of : List ℕ → Result Block RuleKind
block_of text = block_of_halves text (halves_at 47 text)

-- ports are one port, or a low and a high one with a hyphen between them
abbrev pub rising : ℕ → ℕ → Result PortRange RuleKind
rising low high = if nat_le low high then Ok (record { low = low; high = high }) else Err Range

abbrev pub ports_of_halves : List ℕ → Option (List ℕ × List ℕ) → Result PortRange RuleKind
ports_of_halves text None = required Range (port_of 1 text) >>= λ p. Ok (record { low = p; high = p })
ports_of_halves text (Some halves) = required Range (port_of 1 halves.0) >>= λ low. required Range (port_of 1 halves.1) >>= λ high. rising low high

unfoldable pub ports_of : List ℕ → Result PortRange RuleKind
ports_of text = ports_of_halves text (halves_at 45 text)

-- a target is an address, or an address, a colon and ports
abbrev pub target_of_halves : Rule → List ℕ → Option (List ℕ × List ℕ) → Result Rule RuleKind
target_of_halves rule text None = required Address (address_of text) >>= λ a. Ok (record rule { target = a })
target_of_halves rule text (Some halves) =
    required Address (address_of halves.0) >>= λ a. ports_of halves.1 >>= λ range. Ok (record rule { target = a; ports = Some range })

unfoldable pub with_target : Rule → List ℕ → Result Rule RuleKind
with_target rule text = target_of_halves rule text (halves_at 58 text)

-- an option that the line has already is a wrong word
abbrev pub with_proto : Rule → List ℕ → Result Rule RuleKind
with_proto rule value = once Word rule.proto (required Word (proto_named value)) >>= λ proto. Ok (record rule { proto = proto })

abbrev pub with_src : Rule → List ℕ → Result Rule RuleKind
with_src rule value = once Word rule.src (block_of value) >>= λ src. Ok (record rule { src = src })

abbrev pub with_dst : Rule → List ℕ → Result Rule RuleKind
with_dst rule value = once Word rule.dst (block_of value) >>= λ dst. Ok (record rule { dst = dst })

abbrev pub with_sport : Rule → List ℕ → Result Rule RuleKind
with_sport rule value = once Word rule.sport (required Range (port_of 1 value)) >>= λ sport. Ok (record rule { sport = sport })

abbrev pub with_dport : Rule → List ℕ → Result Rule RuleKind
with_dport rule value = once Word rule.dport (required Range (port_of 1 value)) >>= λ dport. Ok (record rule { dport = dport })

-- the rule with the option of this name; there are no other options
unfoldable pub with_option : Rule → List ℕ → List ℕ → Result Rule RuleKind
with_option rule name value =
    if bytes_eq name (codes "-p") then with_proto rule value else
    (if bytes_eq name (codes "-s") then with_src rule value else
    (if bytes_eq name (codes "-d") then with_dst rule value else
    (if bytes_eq name (codes "--sport") then with_sport rule value else
    (if bytes_eq name (codes "--dport") then with_dport rule value else Err Word))))

-- no word stands behind the target, and ports stand beside TCP or UDP
abbrev pub ended : Rule → List (List ℕ) → Result Rule RuleKind
ended rule [] = if has_ports rule.proto || is_portless rule then Ok rule else Err Word
ended rule (word ∷ words) = Err Word

-- the rule so far, and the words behind: options with their values, then `to` and the target
unfoldable pub rule_from : Rule → List (List ℕ) → Result Rule RuleKind
rule_from rule [] = Err Word
rule_from rule (name ∷ []) = Err Word
rule_from rule (name ∷ value ∷ words) =
    if bytes_eq name (codes "to") then (with_target rule value >>= λ r. ended r words)
    else (with_option rule name value >>= λ r. rule_from r words)

-- a rule of which only the side is read
abbrev pub new_rule : Side → Rule
new_rule side = record { side = side; proto = None; src = None; dst = None; sport = None; dport = None; target = 0; ports = None }

-- a rule is its side, and the words behind
abbrev pub rule_of : List ℕ → List (List ℕ) → Result (Option Rule) RuleKind
rule_of word words = required Word (side_of word) >>= λ side. rule_from (new_rule side) words >>= λ rule. Ok (Some rule)

-- a line that is skipped says nothing, others a rule; where the file is full, none may follow
unfoldable pub line_of : Bool → List (List ℕ) → Result (Option Rule) RuleKind
line_of full [] = Ok None
line_of full (word ∷ words) = if full then Err TooMany else rule_of word words
