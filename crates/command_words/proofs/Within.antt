-- What holds of all that words may ask for.
use Rattle.std.proofs.Common.{◌≡◌, ℕ, suc, zero, ◌≤◌, ◌<◌, ◌==◌, ◌&&◌, not, nat_le, nat_lt, Bool, true, false, if◌then◌else◌, List, [], ◌∷◌, length, replicate, Option, Some, None, Result, Ok, Err, IfOk, IfSome, ap, arith, refl, subst}
use Rattle.std.specs.Int.{is_power_of_two}
use Rattle.std.specs.List.{All}
use Rattle.std.proofs.lemmas.Bool.Decides.{nat_tests}
use Rattle.std.proofs.lemmas.List.Elements.{All-cons, All-nil}
use Rattle.std.proofs.lemmas.List.Splits.{length-slice_split}
use Rattle.file_text.specs.ReadingLaws.{needed, went_on, went_on_with}
use Rattle.file_text.specs.Reading.{required}
use Rattle.file_text.specs.Text.{decimal_of, parts_at, port_of, within}
use Rattle.command_words.specs.Asked.{IsOrNoMemory, asked_as}
use Rattle.command_words.specs.Words.{AreZonesOf, FoundWords, IsOriginWithin, IsWithin, IsWorkloadWithin, Names, Origin, Request, Workload, asked_of, capture_count, flows_of, found_in, if_power_of_two, made, named, names_nothing, number_of, number_or, numbers_in, numbers_of, origin_of, past_limit, past_origin, past_workload, ports_in, ports_or, unless_past, with_number, with_values, within_limits, workload_of, zone_of, zones_for, zones_in}
use Rattle.command_words.specs.declared.Asked.{Asked}
use Rattle.command_words.specs.declared.WordsError.{WordsError}
use Rattle.command_words.specs.declared.WordsError.TheVariants.{Usage}
use Rattle.command_words.specs.declared.WordsLimit.{WordsLimit}
use Rattle.command_words.specs.declared.WordsLimit.TheVariants.{Buckets, Captures, Entries, Flows, Packets, Seed, Threads}

above_low : (low high : ℕ) (read : Option ℕ) → IfSome (within low high read) (λ n. low ≤ n)
above_low low high None = tt
above_low low high (Some n) = tested (nat_le low n && nat_le n high) (λ is. grind (arith, nat_tests, is))
  where
    tested : (test : Bool) → (test ≡ true → low ≤ n) → IfSome (if test then Some n else None) (λ m. low ≤ m)
    tested true above = above refl
    tested false above = tt

some_port : (text : List ℕ) → IfSome (port_of 1 text) (λ port. 1 ≤ port)
unfolding port_of
some_port text = above_low 1 65535 (decimal_of 5 text)

below_high : (low high : ℕ) (read : Option ℕ) → IfSome (within low high read) (λ n. n ≤ high)
below_high low high None = tt
below_high low high (Some n) = tested (nat_le low n && nat_le n high) (λ is. grind (arith, nat_tests, is))
  where
    tested : (test : Bool) → (test ≡ true → n ≤ high) → IfSome (if test then Some n else None) (λ m. m ≤ high)
    tested true below = below refl
    tested false below = tt

low_zone : (text : List ℕ) → IfSome (zone_of text) (λ zone. zone ≤ 65535)
unfolding port_of
low_zone text = below_high 0 65535 (decimal_of 5 text)

-- so many numbers, and this of each of them
abbrev AreOf : (ℕ → Type 0) → ℕ → List ℕ → Type 0
AreOf P count numbers = (length numbers ≡ count) × All P numbers

numbers_are : (P : ℕ → Type 0) (read : List ℕ → Option ℕ) → ((text : List ℕ) → IfSome (read text) P)
    → (parts : List (List ℕ)) → IfSome (numbers_of read parts) (AreOf P (length parts))
numbers_are P read each [] = (refl, All-nil P)
numbers_are P read each (part ∷ parts) = both (read part) (numbers_of read parts) (each part) (numbers_are P read each parts)
  where
    both : (number : Option ℕ) (numbers : Option (List ℕ)) → IfSome number P → IfSome numbers (AreOf P (length parts)) → IfSome (with_number number numbers) (AreOf P (length (part ∷ parts)))
    both None numbers is are = tt
    both (Some number) None is are = tt
    both (Some number) (Some numbers) is are =
        let one : length (number ∷ numbers) ≡ length (part ∷ parts) = omega (arith, are.0) in
        (one, All-cons P number numbers is are.1)

abbrev HasPorts : List ℕ → Type 0
HasPorts ports = (0 < length ports) × (length ports ≤ 8) × All (λ port. 1 ≤ port) ports

ports_have : (text : List ℕ) → IfSome (ports_in text) HasPorts
unfolding numbers_in
ports_have text = tested (nat_le (length (parts_at 44 text)) 8) refl (numbers_of (port_of 1) (parts_at 44 text)) (numbers_are (λ port. 1 ≤ port) (port_of 1) some_port (parts_at 44 text))
  where
    some : 0 < length (parts_at 44 text)
    some = omega (arith, length-slice_split (λ (b : ℕ). b == 44) text)

    tested : (test : Bool) → nat_le (length (parts_at 44 text)) 8 ≡ test → (ports : Option (List ℕ)) → IfSome ports (AreOf (λ port. 1 ≤ port) (length (parts_at 44 text))) → IfSome (if test then ports else None) HasPorts
    tested true few None are = tt
    tested true few (Some ports) are = (grind (arith, some, are.0), grind (arith, nat_tests, few, are.0), are.1)
    tested false more ports are = tt

-- zone 0 for each capture
all_zeros : (count : ℕ) → AreOf (λ zone. zone ≤ 65535) count (replicate count 0)
all_zeros zero = (refl, All-nil (λ zone. zone ≤ 65535))
all_zeros (suc count) =
    let rest = all_zeros count in
    (ap suc rest.0, All-cons (λ zone. zone ≤ 65535) 0 (replicate count 0) (omega arith) rest.1)

zones_have : (count : ℕ) (text : List ℕ) → IfSome (zones_in count text) (AreOf (λ zone. zone ≤ 65535) count)
unfolding zones_in
zones_have count text = tested (length (parts_at 44 text) == count) refl (numbers_of zone_of (parts_at 44 text)) (numbers_are (λ zone. zone ≤ 65535) zone_of low_zone (parts_at 44 text))
  where
    tested : (test : Bool) → (length (parts_at 44 text) == count) ≡ test → (zones : Option (List ℕ)) → IfSome zones (AreOf (λ zone. zone ≤ 65535) (length (parts_at 44 text))) → IfSome (if test then zones else None) (AreOf (λ zone. zone ≤ 65535) count)
    tested true as_many None are = tt
    tested true as_many (Some zones) are = (grind (arith, nat_tests, as_many, are.0), are.1)
    tested false other zones are = tt

as_zones : (origin : Origin) (zones : Option (List ℕ)) → IfSome zones (AreOf (λ zone. zone ≤ 65535) (capture_count origin)) → IfSome zones (AreZonesOf origin)
as_zones origin None are = tt
as_zones origin (Some zones) are = record { one_each = are.0; highest = are.1 }

zones_are : (origin : Origin) (text : Option (List ℕ)) → IfSome (zones_for origin text) (AreZonesOf origin)
zones_are origin None = as_zones origin (Some (replicate (capture_count origin) 0)) (all_zeros (capture_count origin))
zones_are (named names) (Some text) = as_zones (named names) (zones_in (length names.captures) text) (zones_have (length names.captures) text)
zones_are (made workload) (Some text) = tt

usual_or : (text : Option (List ℕ)) → IfSome (ports_or 21 text) HasPorts
usual_or None = (omega arith, omega arith, All-cons (λ port. 1 ≤ port) 21 [] (omega arith) (All-nil (λ port. 1 ≤ port)))
usual_or (Some text) = ports_have text

is_power : (number : Option ℕ) → IfSome (if_power_of_two number) (λ n. is_power_of_two n ≡ true)
is_power None = tt
is_power (Some n) = tested (is_power_of_two n) refl
  where
    tested : (test : Bool) → is_power_of_two n ≡ test → IfSome (if test then Some n else None) (λ n. is_power_of_two n ≡ true)
    tested true is = is
    tested false is = tt

-- named files have a capture among them
abbrev HasCaptures : Origin → Type 0
HasCaptures (named names) = 0 < length names.captures
HasCaptures (made workload) = Unit {0}

made_has : (seed packets threads : Option ℕ) → IfSome (workload_of seed packets threads) HasCaptures
made_has None packets threads = tt
made_has (Some seed) None threads = tt
made_has (Some seed) (Some packets) None = tt
made_has (Some seed) (Some packets) (Some threads) = tt

alone_has : (alone : Bool) (read : Option Origin) → IfSome read HasCaptures → IfSome (if alone then read else None) HasCaptures
alone_has true read has = has
alone_has false read has = tt

named_has : (names : Names) (some : Bool) → nat_lt 0 (length names.captures) ≡ some → IfSome (if some then Some (named names) else None) HasCaptures
named_has names true is = grind (arith, nat_tests, is)
named_has names false is = tt

origin_has : (names : Names) (make packets threads : Option (List ℕ)) → IfSome (origin_of names make packets threads) HasCaptures
origin_has names None None None = named_has names (nat_lt 0 (length names.captures)) refl
origin_has names None None (Some threads) = tt
origin_has names None (Some packets) threads = tt
origin_has names (Some make) None threads = tt
origin_has names (Some make) (Some packets) None = tt
origin_has names (Some make) (Some packets) (Some threads) =
    alone_has (names_nothing names) _ (made_has (number_of make) (number_of packets) (number_of threads))

record IsFormed (asked : Request) : Type 0 where
  captures : HasCaptures asked.origin
  zones : AreZonesOf asked.origin asked.zones
  power : is_power_of_two asked.buckets ≡ true
  ports : HasPorts asked.ftp

are_formed : (given : FoundWords) → IfOk (with_values given) IsFormed
are_formed given =
    let origin = origin_of given.names given.make given.packets given.threads in
    went_on HasCaptures IsFormed (required Usage origin) _ (needed _ Usage origin (origin_has given.names given.make given.packets given.threads)) (λ origin has.
    went_on (AreZonesOf origin) IsFormed (required Usage (zones_for origin given.zones)) _ (needed (AreZonesOf origin) Usage (zones_for origin given.zones) (zones_are origin given.zones)) (λ zones are.
    went_on_with IsFormed (required Usage (number_or 65536 given.entries)) _ (λ entries.
    went_on (λ buckets. is_power_of_two buckets ≡ true) IsFormed (required Usage (if_power_of_two (number_or 16384 given.buckets))) _ (needed _ Usage (if_power_of_two (number_or 16384 given.buckets)) (is_power (number_or 16384 given.buckets))) (λ buckets is.
    went_on HasPorts IsFormed (required Usage (ports_or 21 given.ftp)) _ (needed HasPorts Usage (ports_or 21 given.ftp) (usual_or given.ftp)) (λ ports have.
    record { captures = has; zones = are; power = is; ports = have })))))

-- where no limit is passed, not this one, and none behind it
unpassed : (test : Bool) (limit : WordsLimit) (rest : Option WordsLimit) → (if test then Some limit else rest) ≡ None → (test ≡ false) × (rest ≡ None)
unpassed true limit rest none = absurd (cc none)
unpassed false limit rest none = (refl, none)

workload_within : (entries : ℕ) (workload : Workload) → past_workload entries workload ≡ None → IsWorkloadWithin entries workload
workload_within entries workload none =
    let seed = unpassed (nat_lt 4294967295 workload.seed) Seed _ none in
    let packets = unpassed (not (nat_le 1 workload.packets && nat_le workload.packets 262144)) Packets _ seed.1 in
    let threads = unpassed (not (nat_le 1 workload.threads && nat_le workload.threads 63)) Threads _ packets.1 in
    let flows = unpassed (nat_lt entries (flows_of workload)) Flows None threads.1 in
    record {
      seed = grind (arith, nat_tests, seed.0);
      some_packets = grind (arith, nat_tests, packets.0);
      few_packets = grind (arith, nat_tests, packets.0);
      some_threads = grind (arith, nat_tests, threads.0);
      few_threads = grind (arith, nat_tests, threads.0);
      few_flows = grind (arith, nat_tests, flows.0);
    }

origin_within : (entries : ℕ) (origin : Origin) → HasCaptures origin → past_origin entries origin ≡ None → IsOriginWithin entries origin
origin_within entries (named names) has none =
    let few = unpassed (nat_lt 63 (length names.captures)) Captures None none in
    record { some_captures = has; few_captures = grind (arith, nat_tests, few.0) }
origin_within entries (made workload) has none = workload_within entries workload none

all_limits : (asked : Request) → IsFormed asked → past_limit asked ≡ None → IsWithin asked
all_limits asked is none =
    let entries = unpassed (not (nat_le 1 asked.entries && nat_le asked.entries 65536)) Entries _ none in
    let buckets = unpassed (nat_lt 65536 asked.buckets) Buckets _ entries.1 in
    record {
      origin = origin_within asked.entries asked.origin is.captures buckets.1;
      zones = is.zones;
      some_entries = grind (arith, nat_tests, entries.0);
      few_entries = grind (arith, nat_tests, entries.0);
      power = is.power;
      few_buckets = grind (arith, nat_tests, buckets.0);
      some_ports = is.ports.0;
      few_ports = is.ports.1;
      ports = is.ports.2;
    }

are_limited : (asked : Request) → IsFormed asked → IfOk (within_limits asked) IsWithin
are_limited asked is = by_limit (past_limit asked) (all_limits asked is)
  where
    by_limit : (past : Option WordsLimit) → (past ≡ None → IsWithin asked) → IfOk (unless_past past asked) IsWithin
    by_limit None holds = holds refl
    by_limit (Some limit) holds = tt

pub all_within : (words : List (List ℕ)) → IfOk (asked_of words) IsWithin
unfolding asked_of
all_within words = went_on_with IsWithin (required Usage (found_in words)) _ (λ given. went_on IsFormed IsWithin (with_values given) within_limits (are_formed given) are_limited)

pub answered : (wanted : Result Request WordsError) (result : Result Asked WordsError) → IfOk wanted IsWithin → IsOrNoMemory asked_as wanted result → IfOk result (λ asked. IsWithin (asked_as asked))
answered wanted (Err why) is same = tt
answered wanted (Ok x) is same = subst (λ (read : Result Request WordsError). IfOk read IsWithin) same is
