-- The rules of a file are lawful, and at most 256.
use Rattle.std.proofs.Common.{◌≡◌, ℕ, ◌+◌, ◌<◌, ◌≤◌, ◌||◌, Bool, true, false, nat_le, List, [], ◌∷◌, ◌++◌, length, Option, Some, None, Result, Ok, Err, IfOk, IfSome, option_to_list, codes, bytes_eq, arith, refl, sym, subst}
use Rattle.std.proofs.lemmas.Bool.Decides.{nat_tests}
use Rattle.std.proofs.lemmas.Result.{IfOk-at_ok}
use Rattle.std.specs.List.{AllByRecursion}
use Rattle.nat_setup.specs.declared.rule.Block.{Block}
use Rattle.nat_setup.specs.declared.rule.PortRange.{PortRange}
use Rattle.nat_setup.specs.declared.rule.Rule.{Rule}
use Rattle.nat_setup.specs.declared.rule.Side.{Side}
use Rattle.nat_setup.specs.declared.read.RuleKind.{RuleKind}
use Rattle.nat_setup.specs.declared.read.RuleKind.TheVariants.{Word, Address, Prefix, Range}
use Rattle.nat_setup.specs.Rule.{IsBlock, IsLawfulRule, IsRange, is_portless}
use Rattle.file_text.specs.Protocols.{has_ports, proto_named}
use Rattle.nat_setup.specs.RuleFile.{IsRulesFile, fault_at, rules_from}
use Rattle.nat_setup.specs.RuleText.{block_of, block_of_halves, ended, length_of, line_of, new_rule, ports_of, ports_of_halves, rising, rule_from, rule_of, side_of, target_of_halves, with_dport, with_dst, with_option, with_proto, with_sport, with_src, with_target}
use Rattle.file_text.specs.Laws.{NumbersStayWithin}
use Rattle.file_text.specs.ReadingLaws.{needed, was_located, was_once, went_on, went_on_with, where_read}
use Rattle.file_text.specs.Reading.{located, once, required}
use Rattle.file_text.specs.Text.{address_of, decimal_of, halves_at, lines_of, port_of, words_of_line}

-- a rule whose target is not read yet
record IsUnaimed (rule : Rule) : Type 0 where
  src : IsBlock rule.src
  dst : IsBlock rule.dst
  ports : rule.ports ≡ None

module _ (numbers : NumbersStayWithin) where
  short_length : (text : List ℕ) → IfSome (length_of text) (λ n. n ≤ 32)
  unfolding length_of
  short_length text = numbers 0 32 (decimal_of 2 text)

  short_halves : (text : List ℕ) (halves : Option (List ℕ × List ℕ)) → IfOk (block_of_halves text halves) (λ block. block.length ≤ 32)
  short_halves text None = went_on_with {A = ℕ} {B = Block} (λ (block : Block). block.length ≤ 32) (required Address (address_of text)) _ (λ a. omega arith)
  short_halves text (Some halves) =
      went_on_with {A = ℕ} {B = Block} (λ (block : Block). block.length ≤ 32) (required Address (address_of halves.0)) _
      (λ a. went_on {A = ℕ} {B = Block} (λ n. n ≤ 32) (λ (block : Block). block.length ≤ 32) (required Prefix (length_of halves.1)) _
      (needed (λ n. n ≤ 32) Prefix (length_of halves.1) (short_length halves.1)) (λ n short. short))

  -- a block has a length of at most 32
  short_block : (text : List ℕ) → IfOk (block_of text) (λ block. block.length ≤ 32)
  unfolding block_of
  short_block text = short_halves text (halves_at 47 text)

  ordered : (low high : ℕ) → IfOk (rising low high) (λ range. range.low ≤ range.high)
  ordered low high = where_read (λ (range : PortRange). range.low ≤ range.high) (nat_le low high) _ (Err Range) (λ is. grind (arith, nat_tests, is)) (λ _. tt)

  rising_halves : (text : List ℕ) (halves : Option (List ℕ × List ℕ)) → IfOk (ports_of_halves text halves) (λ range. range.low ≤ range.high)
  rising_halves text None = went_on_with {A = ℕ} {B = PortRange} (λ (range : PortRange). range.low ≤ range.high) (required Range (port_of 1 text)) _ (λ p. omega arith)
  rising_halves text (Some halves) =
      went_on_with {A = ℕ} {B = PortRange} (λ (range : PortRange). range.low ≤ range.high) (required Range (port_of 1 halves.0)) _
      (λ low. went_on_with {A = ℕ} {B = PortRange} (λ (range : PortRange). range.low ≤ range.high) (required Range (port_of 1 halves.1)) _ (λ high. ordered low high))

  -- ports go up
  rising_ports : (text : List ℕ) → IfOk (ports_of text) (λ range. range.low ≤ range.high)
  unfolding ports_of
  rising_ports text = rising_halves text (halves_at 45 text)

  -- an option more leaves a rule without a target lawful
  module _ (rule : Rule) (value : List ℕ) (is : IsUnaimed rule) where
    kept_proto : IfOk (with_proto rule value) IsUnaimed
    kept_proto = went_on_with IsUnaimed (once Word rule.proto (required Word (proto_named value))) _ (λ p. record { src = is.src; dst = is.dst; ports = is.ports })

    short_once : (old : Option Block) → IfOk (once Word old (block_of value)) IsBlock
    short_once old = blocks (once Word old (block_of value)) (was_once (λ (block : Block). block.length ≤ 32) Word old (block_of value) (short_block value))
      where
        blocks : (read : Result (Option Block) RuleKind) → IfOk read (λ block. IfSome block (λ b. b.length ≤ 32)) → IfOk read IsBlock
        blocks (Ok None) h = tt
        blocks (Ok (Some block)) h = h
        blocks (Err k) h = tt

    kept_src : IfOk (with_src rule value) IsUnaimed
    kept_src =
        went_on {A = Option Block} {B = Rule} IsBlock IsUnaimed (once Word rule.src (block_of value)) _ (short_once rule.src)
        (λ block short. record { src = short; dst = is.dst; ports = is.ports })

    kept_dst : IfOk (with_dst rule value) IsUnaimed
    kept_dst =
        went_on {A = Option Block} {B = Rule} IsBlock IsUnaimed (once Word rule.dst (block_of value)) _ (short_once rule.dst)
        (λ block short. record { src = is.src; dst = short; ports = is.ports })

    kept_sport : IfOk (with_sport rule value) IsUnaimed
    kept_sport = went_on_with IsUnaimed (once Word rule.sport (required Range (port_of 1 value))) _ (λ p. record { src = is.src; dst = is.dst; ports = is.ports })

    kept_dport : IfOk (with_dport rule value) IsUnaimed
    kept_dport = went_on_with IsUnaimed (once Word rule.dport (required Range (port_of 1 value))) _ (λ p. record { src = is.src; dst = is.dst; ports = is.ports })

    kept : (name : List ℕ) → IfOk (with_option rule name value) IsUnaimed
    unfolding with_option
    kept name =
        where_read IsUnaimed (bytes_eq name (codes "-p")) _ _ (λ _. kept_proto)
        (λ _. where_read IsUnaimed (bytes_eq name (codes "-s")) _ _ (λ _. kept_src)
        (λ _. where_read IsUnaimed (bytes_eq name (codes "-d")) _ _ (λ _. kept_dst)
        (λ _. where_read IsUnaimed (bytes_eq name (codes "--sport")) _ _ (λ _. kept_sport)
        (λ _. where_read IsUnaimed (bytes_eq name (codes "--dport")) _ (Err Word) (λ _. kept_dport) (λ _. tt)))))

  -- a rule whose target is read
  record IsAimed (rule : Rule) : Type 0 where
    src : IsBlock rule.src
    dst : IsBlock rule.dst
    ports : IsRange rule.ports

  aimed_halves : (rule : Rule) (text : List ℕ) (halves : Option (List ℕ × List ℕ)) → IsUnaimed rule → IfOk (target_of_halves rule text halves) IsAimed
  aimed_halves rule text None is =
      went_on_with IsAimed (required Address (address_of text)) _ (λ a. record { src = is.src; dst = is.dst; ports = subst IsRange (sym is.ports) tt })
  aimed_halves rule text (Some halves) is =
      went_on_with {A = ℕ} {B = Rule} IsAimed (required Address (address_of halves.0)) _
      (λ a. went_on {A = PortRange} {B = Rule} (λ (range : PortRange). range.low ≤ range.high) IsAimed (ports_of halves.1) _ (rising_ports halves.1)
      (λ range up. record { src = is.src; dst = is.dst; ports = up }))

  aimed : (rule : Rule) (text : List ℕ) → IsUnaimed rule → IfOk (with_target rule text) IsAimed
  unfolding with_target
  aimed rule text is = aimed_halves rule text (halves_at 58 text) is

  lawful_end : (rule : Rule) (words : List (List ℕ)) → IsAimed rule → IfOk (ended rule words) IsLawfulRule
  lawful_end rule [] is =
      where_read IsLawfulRule (has_ports rule.proto || is_portless rule) (Ok rule) (Err Word)
      (λ beside. record { src = is.src; dst = is.dst; ports = is.ports; beside = beside }) (λ _. tt)
  lawful_end rule (word ∷ words) is = tt

  -- words make a lawful rule
  lawful_words : (rule : Rule) (words : List (List ℕ)) → IsUnaimed rule → IfOk (rule_from rule words) IsLawfulRule
  unfolding rule_from
  lawful_words rule [] is = tt
  lawful_words rule (name ∷ []) is = tt
  lawful_words rule (name ∷ value ∷ words) is =
      where_read IsLawfulRule (bytes_eq name (codes "to")) _ _
      (λ _. went_on IsAimed IsLawfulRule (with_target rule value) _ (aimed rule value is) (λ r a. lawful_end r words a))
      (λ _. went_on IsUnaimed IsLawfulRule (with_option rule name value) _ (kept rule value is name) (λ r u. lawful_words r words u))

  unaimed : (side : Side) → IsUnaimed (new_rule side)
  unaimed side = record { src = tt; dst = tt; ports = refl }

  -- a rule that a line says is lawful, and the file was not full
  record Fits (full : Bool) (rule : Option Rule) : Type 0 where
    lawful : IfSome rule IsLawfulRule
    room : IfSome rule (λ _. full ≡ false)

  nothing_fits : (full : Bool) → Fits full None
  nothing_fits full = record { lawful = tt; room = tt }

  rule_fits : (word : List ℕ) (words : List (List ℕ)) → IfOk (rule_of word words) (Fits false)
  rule_fits word words =
      went_on_with {A = Side} {B = Option Rule} (Fits false) (required Word (side_of word)) _
      (λ side. went_on {A = Rule} {B = Option Rule} IsLawfulRule (Fits false) (rule_from (new_rule side) words) _ (lawful_words (new_rule side) words (unaimed side))
      (λ rule lawful. record { lawful = lawful; room = refl }))

  line_fits : (full : Bool) (words : List (List ℕ)) → IfOk (line_of full words) (Fits full)
  unfolding line_of
  line_fits full [] = nothing_fits full
  line_fits true (word ∷ words) = tt
  line_fits false (word ∷ words) = rule_fits word words

  -- rules are lawful, and with those before them at most 256
  record AreLawful (count : ℕ) (rules : List Rule) : Type 0 where
    lawful : AllByRecursion IsLawfulRule rules
    few : count ≤ 256 → count + length rules ≤ 256

  joined : (count : ℕ) (rule : Option Rule) (rules : List Rule) → Fits (nat_le 256 count) rule → AreLawful (count + length (option_to_list rule)) rules
      → AreLawful count (option_to_list rule ++ rules)
  joined count None rules one more = record { lawful = more.lawful; few = λ below. omega (arith, more.few (omega arith)) }
  joined count (Some rule) rules one more =
      let room : nat_le 256 count ≡ false = one.room in
      let below : count < 256 = grind (arith, nat_tests, room) in
      record { lawful = (one.lawful, more.lawful); few = λ _. omega (arith, more.few (omega arith)) }

  lawful_lines : (number count : ℕ) (lines : List (List ℕ)) → IfOk (rules_from number count lines) (AreLawful count)
  unfolding rules_from
  lawful_lines number count [] = record { lawful = tt; few = λ below. omega arith }
  lawful_lines number count (line ∷ lines) =
      went_on {A = Option Rule} {B = List Rule} (Fits (nat_le 256 count)) (AreLawful count) (located fault_at number (line_of (nat_le 256 count) (words_of_line line))) _
      (was_located (Fits (nat_le 256 count)) fault_at number (line_of (nat_le 256 count) (words_of_line line)) (line_fits (nat_le 256 count) (words_of_line line)))
      (λ rule one. went_on {A = List Rule} {B = List Rule} (AreLawful (count + length (option_to_list rule))) (AreLawful count)
      (rules_from (number + 1) (count + length (option_to_list rule)) lines) _ (lawful_lines (number + 1) (count + length (option_to_list rule)) lines)
      (λ rules more. joined count rule rules one more))

  pub lawful_file : (bytes : List ℕ) (rules : List Rule) → IsRulesFile bytes rules → AllByRecursion IsLawfulRule rules × (length rules ≤ 256)
  lawful_file bytes rules read =
      let are = IfOk-at_ok (AreLawful 0) read (lawful_lines 1 0 (lines_of bytes)) in
      (are.lawful, omega (arith, are.few (omega arith)))
