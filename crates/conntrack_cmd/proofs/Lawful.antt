-- The commands of a script are lawful.
use Rattle.std.proofs.Common.{◌≡◌, ℕ, ◌+◌, ◌≤◌, ◌<◌, ◌^◌, nat_lt, arith, ◌&&◌, ◌||◌, Bool, true, false, is_none, nat_le, List, [], ◌∷◌, ◌++◌, length, Option, Some, None, Ok, Err, IfOk, IfSome, codes, bytes_eq, refl, sym, subst, unwrap_or}
use Rattle.std.proofs.lemmas.Result.{IfOk-at_ok}
use Rattle.std.proofs.lemmas.Bool.Decides.{nat_tests}
use Rattle.std.specs.List.{AllByRecursion}
use Rattle.tuple_core.specs.declared.Proto.{Proto}
use Rattle.tuple_core.specs.declared.Proto.TheVariants.{Icmp, Tcp, Udp}
use Rattle.tuple_core.specs.declared.Tuple.{Tuple}
use Rattle.tuple_core.specs.Tuple.{is_valid}
use Rattle.history_book.specs.declared.filter.Filter.{Filter}
use Rattle.file_text.specs.Reading.{◌>>=◌, located, once, required}
use Rattle.file_text.specs.Protocols.{has_ports, proto_named}
use Rattle.file_text.specs.Text.{address_of, decimal_of, lines_of, port_of, words_of_line}
use Rattle.file_text.specs.Laws.{AddressesAreSmall, NumbersStayWithin, PortsAreSmall}
use Rattle.file_text.specs.ReadingLaws.{needed, was_located, was_once, went_on, went_on_with, where_read}
use Rattle.conntrack_cmd.specs.declared.command.Command.{Command}
use Rattle.conntrack_cmd.specs.declared.command.Command.TheVariants as command
use Rattle.conntrack_cmd.specs.declared.command.LineMeaning.{LineMeaning}
use Rattle.conntrack_cmd.specs.declared.command.LineMeaning.TheVariants as meaning
use Rattle.conntrack_cmd.specs.declared.read.ScriptKind.TheVariants as kind
use Rattle.conntrack_cmd.specs.Options.{beside_ports, everything, filter_of, flow_of, options_from, taken_proto, tuple_of, with_dport, with_dst, with_option, with_proto, with_sport, with_src, with_zone}
use Rattle.conntrack_cmd.specs.Line.{alone, command_of, expire_of, is_expect, line_of, list_of, moment_in, wait_of}
use Rattle.conntrack_cmd.specs.Script.{commands_of, fault_at, has_wait, next_of, meanings_from, IsScript}
use Rattle.conntrack_cmd.specs.ScriptLaws.{IsLawful, IsLawfulFilter}
use Rattle.conntrack_cmd.proofs.LineLaws.{meanings}

-- a command for one flow names no protocol without ports
ported : (proto : Option Proto) → IfSome (taken_proto true proto) (λ p. has_ports (Some p) ≡ true)
ported None = tt
ported (Some Icmp) = tt
ported (Some Tcp) = refl
ported (Some Udp) = refl

-- what is named of one flow
record IsOfFlow (f : Filter) : Type 0 where
  proto : IfSome f.proto (λ p. has_ports (Some p) ≡ true)
  src : IfSome f.src (λ n. n < 2 ^ 32)
  dst : IfSome f.dst (λ n. n < 2 ^ 32)
  sport : IfSome f.sport (λ n. n < 2 ^ 16)
  dport : IfSome f.dport (λ n. n < 2 ^ 16)
  zone : IfSome f.zone (λ n. n < 2 ^ 16)

-- an option that is read, with its value
option_read : {A : Type 0} (P : A → Type 0) (old value : Option A) (f : Option A → Filter) → IfSome value P
    → ((x : Option A) → IfSome x P → IsOfFlow (f x)) → IfOk (once kind.Repeat old (required kind.Value value) >>= λ x. Ok (f x)) IsOfFlow
option_read P old value f is next =
    went_on (λ x. IfSome x P) IsOfFlow (once kind.Repeat old (required kind.Value value)) _
    (was_once P kind.Repeat old (required kind.Value value) (needed P kind.Value value is)) next

module _ (numbers : NumbersStayWithin) (ports : PortsAreSmall) (addresses : AddressesAreSmall) where
  module _ (f : Filter) (value : List ℕ) (is : IsOfFlow f) where
    kept_proto : IfOk (with_proto true f value) IsOfFlow
    kept_proto =
        option_read {A = Proto} (λ (p : Proto). has_ports (Some p) ≡ true) f.proto (taken_proto true (proto_named value)) (λ (p : Option Proto). record f { proto = p }) (ported (proto_named value))
        (λ p has. record { proto = has; src = is.src; dst = is.dst; sport = is.sport; dport = is.dport; zone = is.zone })

    kept_src : IfOk (with_src f value) IsOfFlow
    kept_src =
        option_read {A = ℕ} (λ n. n < 2 ^ 32) f.src (address_of value) (λ (a : Option ℕ). record f { src = a }) (addresses value)
        (λ a small. record { proto = is.proto; src = small; dst = is.dst; sport = is.sport; dport = is.dport; zone = is.zone })

    kept_dst : IfOk (with_dst f value) IsOfFlow
    kept_dst =
        option_read {A = ℕ} (λ n. n < 2 ^ 32) f.dst (address_of value) (λ (a : Option ℕ). record f { dst = a }) (addresses value)
        (λ a small. record { proto = is.proto; src = is.src; dst = small; sport = is.sport; dport = is.dport; zone = is.zone })

    kept_sport : IfOk (with_sport f value) IsOfFlow
    kept_sport =
        option_read {A = ℕ} (λ n. n < 2 ^ 16) f.sport (port_of 0 value) (λ (p : Option ℕ). record f { sport = p }) (ports 0 value)
        (λ p small. record { proto = is.proto; src = is.src; dst = is.dst; sport = small; dport = is.dport; zone = is.zone })

    kept_dport : IfOk (with_dport f value) IsOfFlow
    kept_dport =
        option_read {A = ℕ} (λ n. n < 2 ^ 16) f.dport (port_of 0 value) (λ (p : Option ℕ). record f { dport = p }) (ports 0 value)
        (λ p small. record { proto = is.proto; src = is.src; dst = is.dst; sport = is.sport; dport = small; zone = is.zone })

    kept_zone : IfOk (with_zone f value) IsOfFlow
    kept_zone =
        option_read {A = ℕ} (λ n. n < 2 ^ 16) f.zone (port_of 0 value) (λ (z : Option ℕ). record f { zone = z }) (ports 0 value)
        (λ z small. record { proto = is.proto; src = is.src; dst = is.dst; sport = is.sport; dport = is.dport; zone = small })

    kept : (name : List ℕ) → IfOk (with_option true f name value) IsOfFlow
    unfolding with_option
    kept name =
        where_read IsOfFlow (bytes_eq name (codes "-p")) _ _ (λ _. kept_proto)
        (λ _. where_read IsOfFlow (bytes_eq name (codes "-s")) _ _ (λ _. kept_src)
        (λ _. where_read IsOfFlow (bytes_eq name (codes "-d")) _ _ (λ _. kept_dst)
        (λ _. where_read IsOfFlow (bytes_eq name (codes "--sport")) _ _ (λ _. kept_sport)
        (λ _. where_read IsOfFlow (bytes_eq name (codes "--dport")) _ _ (λ _. kept_dport)
        (λ _. where_read IsOfFlow (bytes_eq name (codes "-w")) _ (Err kind.Option) (λ _. kept_zone) (λ _. tt))))))

  flow_words : (f : Filter) (words : List (List ℕ)) → IsOfFlow f → IfOk (options_from true f words) IsOfFlow
  unfolding options_from
  flow_words f [] is = is
  flow_words f (name ∷ []) is = kept f [] is name
  flow_words f (name ∷ value ∷ words) is =
      went_on {A = Filter} {B = Filter} IsOfFlow IsOfFlow (with_option true f name value) _ (kept f value is name) (λ g of. flow_words g words of)

  in_range : (zone src dst a b : ℕ) → zone < 2 ^ 16 → src < 2 ^ 32 → dst < 2 ^ 32 → a < 2 ^ 16 → b < 2 ^ 16
      → (nat_lt zone (2 ^ 16) && nat_lt src (2 ^ 32) && nat_lt dst (2 ^ 32) && nat_lt a (2 ^ 16) && nat_lt b (2 ^ 16)) ≡ true
  in_range zone src dst a b in_zone first second third fourth = grind (arith, nat_tests)

  valid : (proto : Proto) (zone src dst a b : ℕ) → has_ports (Some proto) ≡ true → zone < 2 ^ 16 → src < 2 ^ 32 → dst < 2 ^ 32 → a < 2 ^ 16 → b < 2 ^ 16
      → is_valid (record { proto = proto; zone = zone; src = src; dst = dst; a = a; b = b }) ≡ true
  valid Icmp zone src dst a b is in_zone first second third fourth = absurd (cc)
  valid Tcp zone src dst a b is in_zone first second third fourth = rw (in_range zone src dst a b in_zone first second third fourth)
  valid Udp zone src dst a b is in_zone first second third fourth = rw (in_range zone src dst a b in_zone first second third fourth)

  -- the zone that is told, or zone 0
  told_or_first : (zone : Option ℕ) → IfSome zone (λ n. n < 2 ^ 16) → unwrap_or zone 0 < 2 ^ 16
  told_or_first None low = omega arith
  told_or_first (Some zone) low = low

  valid_flow : (f : Filter) → IsOfFlow f → IfOk (flow_of f) (λ t. is_valid t ≡ true)
  valid_flow f is =
      went_on {A = Proto} {B = Tuple} (λ (p : Proto). has_ports (Some p) ≡ true) (λ (t : Tuple). is_valid t ≡ true) (required kind.Option f.proto) _ (needed (λ (p : Proto). has_ports (Some p) ≡ true) kind.Option f.proto is.proto)
      (λ p has. went_on {A = ℕ} {B = Tuple} (λ n. n < 2 ^ 32) (λ (t : Tuple). is_valid t ≡ true) (required kind.Option f.src) _ (needed (λ n. n < 2 ^ 32) kind.Option f.src is.src)
      (λ src first. went_on {A = ℕ} {B = Tuple} (λ n. n < 2 ^ 32) (λ (t : Tuple). is_valid t ≡ true) (required kind.Option f.dst) _ (needed (λ n. n < 2 ^ 32) kind.Option f.dst is.dst)
      (λ dst second. went_on {A = ℕ} {B = Tuple} (λ n. n < 2 ^ 16) (λ (t : Tuple). is_valid t ≡ true) (required kind.Option f.sport) _ (needed (λ n. n < 2 ^ 16) kind.Option f.sport is.sport)
      (λ a third. went_on {A = ℕ} {B = Tuple} (λ n. n < 2 ^ 16) (λ (t : Tuple). is_valid t ≡ true) (required kind.Option f.dport) _ (needed (λ n. n < 2 ^ 16) kind.Option f.dport is.dport)
      (λ b fourth. valid p (unwrap_or f.zone 0) src dst a b has (told_or_first f.zone is.zone) first second third fourth)))))

  none_named : IsOfFlow everything
  none_named = record { proto = tt; src = tt; dst = tt; sport = tt; dport = tt; zone = tt }

  valid_tuple : (words : List (List ℕ)) → IfOk (tuple_of words) (λ t. is_valid t ≡ true)
  valid_tuple words =
      went_on {A = Filter} {B = Tuple} IsOfFlow (λ (t : Tuple). is_valid t ≡ true) (options_from true everything words) flow_of (flow_words everything words none_named) valid_flow

  lawful_filter : (words : List (List ℕ)) → IfOk (filter_of words) IsLawfulFilter
  lawful_filter words =
      went_on_with {A = Filter} {B = Filter} IsLawfulFilter (options_from false everything words) beside_ports
      (λ f. where_read IsLawfulFilter (has_ports f.proto || (is_none f.sport && is_none f.dport)) (Ok f) (Err kind.Option) (λ is. is) (λ _. tt))

  lawful_alone : (c : Command) (words : List (List ℕ)) → IsLawful c → IfOk (alone c words) IsLawful
  lawful_alone c [] is = is
  lawful_alone c (word ∷ words) is = tt

  early : (text : List ℕ) → IfSome (moment_in text) (λ n. n ≤ 10 ^ 16)
  unfolding moment_in
  early text = numbers 0 (10 ^ 16) (decimal_of 17 text)

  lawful_expire : (words : List (List ℕ)) → IfOk (expire_of words) IsLawful
  unfolding expire_of
  lawful_expire [] = tt
  lawful_expire (word ∷ words) =
      went_on {A = ℕ} {B = Command} (λ n. n ≤ 10 ^ 16) IsLawful (required kind.Value (moment_in word)) _ (needed (λ n. n ≤ 10 ^ 16) kind.Value (moment_in word) (early word))
      (λ n low. lawful_alone (command.Expire n) words low)

  lawful_list : (words : List (List ℕ)) → IfOk (list_of words) IsLawful
  unfolding list_of
  lawful_list words =
      where_read IsLawful (is_expect words) (Ok command.ListExpect) _ (λ _. tt)
      (λ _. went_on {A = Filter} {B = Command} IsLawfulFilter IsLawful (filter_of words) _ (lawful_filter words) (λ f is. is))

  lawful_command : (word : List ℕ) (words : List (List ℕ)) → IfOk (command_of word words) IsLawful
  unfolding command_of
  lawful_command word words =
      where_read IsLawful (bytes_eq word (codes "-L")) _ _ (λ _. lawful_list words)
      (λ _. where_read IsLawful (bytes_eq word (codes "-G")) _ _ (λ _. went_on {A = Tuple} {B = Command} (λ (t : Tuple). is_valid t ≡ true) IsLawful (tuple_of words) _ (valid_tuple words) (λ t is. is))
      (λ _. where_read IsLawful (bytes_eq word (codes "-D")) _ _ (λ _. went_on {A = Filter} {B = Command} IsLawfulFilter IsLawful (filter_of words) _ (lawful_filter words) (λ f is. is))
      (λ _. where_read IsLawful (bytes_eq word (codes "-F")) _ _ (λ _. lawful_alone command.Flush words tt)
      (λ _. where_read IsLawful (bytes_eq word (codes "-C")) _ _ (λ _. lawful_alone command.Count words tt)
      (λ _. where_read IsLawful (bytes_eq word (codes "expire")) _ (Err kind.Command) (λ _. lawful_expire words) (λ _. tt))))))

  -- a command that a line says is lawful
  abbrev IsLawfulMeaning : LineMeaning → Type 0
  IsLawfulMeaning next = AllByRecursion IsLawful (commands_of (next ∷ []))

  lawful_wait : (waited : Bool) (words : List (List ℕ)) → IfOk (wait_of waited words) IsLawfulMeaning
  lawful_wait true [] = tt
  lawful_wait false [] = tt
  lawful_wait true (word ∷ words) = tt
  lawful_wait false (word ∷ words) = tt

  lawful_line : (full waited : Bool) (words : List (List ℕ)) → IfOk (line_of full waited words) IsLawfulMeaning
  unfolding line_of
  lawful_line full waited [] = tt
  lawful_line full waited (word ∷ words) =
      where_read IsLawfulMeaning (bytes_eq word (codes "wait")) (wait_of waited words) _ (λ _. lawful_wait waited words)
      (λ _. where_read IsLawfulMeaning full (Err kind.TooMany) _ (λ _. tt)
      (λ _. went_on {A = Command} {B = LineMeaning} IsLawful IsLawfulMeaning (command_of word words) _ (lawful_command word words) (λ c is. (is, tt))))

  lawful_more : (said : List LineMeaning) (next : LineMeaning) → AllByRecursion IsLawful (commands_of said) → IsLawfulMeaning next → AllByRecursion IsLawful (commands_of (said ++ next ∷ []))
  lawful_more [] next all one = one
  lawful_more (meaning.Nothing ∷ said) next all one = lawful_more said next all one
  lawful_more (meaning.Command c ∷ said) next all one = (all.0, lawful_more said next all.1 one)
  lawful_more (meaning.Wait ∷ said) next all one = lawful_more said next all one

  lawful_lines : (said : List LineMeaning) (lines : List (List ℕ)) → AllByRecursion IsLawful (commands_of said) → IfOk (meanings_from said lines) (λ all. AllByRecursion IsLawful (commands_of all))
  unfolding meanings_from
  lawful_lines said [] all = all
  lawful_lines said (line ∷ lines) all =
      went_on {A = LineMeaning} {B = List LineMeaning} IsLawfulMeaning (λ (s : List LineMeaning). AllByRecursion IsLawful (commands_of s)) (located fault_at (length said + 1) (next_of said line)) _
      (was_located IsLawfulMeaning fault_at (length said + 1) (next_of said line) (lawful_line (nat_le 256 (length (commands_of said))) (has_wait said) (words_of_line line)))
      (λ next one. lawful_lines (said ++ next ∷ []) lines (lawful_more said next all one))

  pub lawful_script : (bytes : List ℕ) (commands : List Command) (wait : ℕ) → IsScript bytes commands wait → AllByRecursion IsLawful commands
  lawful_script bytes commands wait is =
      let s = meanings bytes commands wait is in
      subst (λ (cs : List Command). AllByRecursion IsLawful cs) (sym s.2) (IfOk-at_ok (λ (all : List LineMeaning). AllByRecursion IsLawful (commands_of all)) s.1 (lawful_lines [] (lines_of bytes) tt))
