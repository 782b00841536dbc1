-- What the words of the command line ask for.
use Rattle.std.specs.Prelude.{◌≡◌, ℕ, ◌+◌, ◌*◌, ◌/◌, ◌<◌, ◌≤◌, ◌==◌, ◌&&◌, Bool, true, false, not, nat_lt, nat_le, if◌then◌else◌, codes, List, [], ◌∷◌, length, replicate, Option, Some, None, is_none, unwrap_or, Result, Ok, Err}
use Rattle.std.specs.List.{All}
use Rattle.std.specs.Int.{is_power_of_two}
use Rattle.std.specs.Str.{bytes_eq}
use Rattle.clap.specs.Words.{App, Kinds, Row, Rule, all_of, fault_of, first_of, matches_of, new_app, new_rule, with_rule}
use Rattle.clap.specs.declared.builder.action.ArgAction.TheVariants.{Append, SetTrue}
use Rattle.file_text.specs.Reading.{◌>>=◌, required}
use Rattle.file_text.specs.Text.{number_in, parts_at, port_of}
use Rattle.command_words.specs.declared.WordsError.{WordsError}
use Rattle.command_words.specs.declared.WordsError.TheVariants.{Limit, Usage}
use Rattle.command_words.specs.declared.WordsLimit.{WordsLimit}
use Rattle.command_words.specs.declared.WordsLimit.TheVariants.{Buckets, Captures, Entries, Flows, Packets, Seed, Threads}

-- ---- the command, as clap reads one

-- an option that takes one value
abbrev pub option_rule : List ℕ → Rule
option_rule name = record (new_rule name) { long = Some name }

-- an option that takes none
abbrev pub flag_rule : List ℕ → Rule
flag_rule name = record (new_rule name) { long = Some name; action = Some SetTrue }

-- the captures: all words that are no option and no option's value, and all words behind `--`
abbrev pub captures_rule : Rule
captures_rule = record (new_rule (codes "captures")) { action = Some Append }

-- the program, without options of clap's own
abbrev pub bare_app : App
bare_app = record {
  top = record (new_app (codes "ctreplay")).top { disable_help_flag = true; disable_version_flag = true };
  subs = [];
}

-- six options: two files, the zones of captures, and what the tracker has room for
unfoldable pub table_app : App
table_app = with_rule
    (with_rule
    (with_rule
    (with_rule
    (with_rule
    (with_rule bare_app
    (option_rule (codes "rules")))
    (option_rule (codes "script")))
    (option_rule (codes "zones")))
    (option_rule (codes "entries")))
    (option_rule (codes "buckets")))
    (option_rule (codes "ftp"))

-- three more: those of a made workload
unfoldable pub workload_app : App
workload_app = with_rule
    (with_rule
    (with_rule table_app
    (option_rule (codes "make")))
    (option_rule (codes "packets")))
    (option_rule (codes "threads"))

-- the command: all of these, four flags, which take no value, and the captures
unfoldable pub app : App
app = with_rule
    (with_rule
    (with_rule
    (with_rule
    (with_rule workload_app
    (flag_rule (codes "summary")))
    (flag_rule (codes "defrag")))
    (flag_rule (codes "listen")))
    (flag_rule (codes "rewrite")))
    captures_rule

-- ---- what clap finds in the words

-- the files that the words name
pub record Names : Type 0 where
  pub rules : Option (List ℕ)
  pub script : Option (List ℕ)
  pub captures : List (List ℕ)

-- the values of the options that stand there, which of the flags do, and the captures
pub record FoundWords : Type 0 where
  pub names : Names
  pub zones : Option (List ℕ)
  pub make : Option (List ℕ)
  pub packets : Option (List ℕ)
  pub threads : Option (List ℕ)
  pub entries : Option (List ℕ)
  pub buckets : Option (List ℕ)
  pub ftp : Option (List ℕ)
  pub summary : Bool
  pub defrag : Bool
  pub listen : Bool
  pub rewrite : Bool

-- clap gives a flag that stands the value `true`, and another one the value `false`
abbrev pub is_set : Option (List ℕ) → Bool
is_set None = false
is_set (Some value) = bytes_eq value (codes "true")

abbrev pub found_by : List Row → FoundWords
found_by rows = record {
  names = record {
    rules = first_of (codes "rules") rows;
    script = first_of (codes "script") rows;
    captures = unwrap_or (all_of (codes "captures") rows) [];
  };
  zones = first_of (codes "zones") rows;
  make = first_of (codes "make") rows;
  packets = first_of (codes "packets") rows;
  threads = first_of (codes "threads") rows;
  entries = first_of (codes "entries") rows;
  buckets = first_of (codes "buckets") rows;
  ftp = first_of (codes "ftp") rows;
  summary = is_set (first_of (codes "summary") rows);
  defrag = is_set (first_of (codes "defrag") rows);
  listen = is_set (first_of (codes "listen") rows);
  rewrite = is_set (first_of (codes "rewrite") rows);
}

-- nothing is given where clap finds a fault
abbrev pub found_from : Kinds → List Row → Option FoundWords
found_from [] rows = Some (found_by rows)
found_from (kind ∷ kinds) rows = None

unfoldable pub found_in : List (List ℕ) → Option FoundWords
found_in words = found_from (fault_of app words) (matches_of app words)

-- ---- what the values say

-- the number of a text of one to ten decimal digits
abbrev pub number_of : List ℕ → Option ℕ
number_of text = number_in 10 0 9999999999 text

-- without a text, the usual number
abbrev pub number_or : ℕ → Option (List ℕ) → Option ℕ
number_or usual None = Some usual
number_or usual (Some text) = number_of text

-- the number is a power of two, which 0 is not
abbrev pub if_power_of_two : Option ℕ → Option ℕ
if_power_of_two None = None
if_power_of_two (Some n) = if is_power_of_two n then Some n else None

abbrev pub with_number : Option ℕ → Option (List ℕ) → Option (List ℕ)
with_number None numbers = None
with_number (Some number) None = None
with_number (Some number) (Some numbers) = Some (number ∷ numbers)

-- the numbers that these texts write, where each of them writes one
abbrev pub numbers_of : (List ℕ → Option ℕ) → List (List ℕ) → Option (List ℕ)
numbers_of read [] = Some []
numbers_of read (text ∷ texts) = with_number (read text) (numbers_of read texts)

-- at most so many numbers, between commas
unfoldable pub numbers_in : ℕ → (List ℕ → Option ℕ) → List ℕ → Option (List ℕ)
numbers_in most read text = if nat_le (length (parts_at 44 text)) most then numbers_of read (parts_at 44 text) else None

-- one port to eight, none of them 0
abbrev pub ports_in : List ℕ → Option (List ℕ)
ports_in text = numbers_in 8 (port_of 1) text

-- without a text, the usual port
abbrev pub ports_or : ℕ → Option (List ℕ) → Option (List ℕ)
ports_or usual None = Some (usual ∷ [])
ports_or usual (Some text) = ports_in text

-- a zone is a number from 0 to 65535, of one to five digits as a port's
abbrev pub zone_of : List ℕ → Option ℕ
zone_of text = port_of 0 text

-- exactly so many zones, between commas
unfoldable pub zones_in : ℕ → List ℕ → Option (List ℕ)
zones_in count text = if length (parts_at 44 text) == count then numbers_of zone_of (parts_at 44 text) else None

-- ---- what is asked

-- a workload to be made: a number from which it follows, the packets of each capture, and the captures, each of
-- which is a thread
pub record Workload : Type 0 where
  pub seed : ℕ
  pub packets : ℕ
  pub threads : ℕ

-- what is worked through: the files that are named, or a made workload
pub data Origin : Type 0 where
  named : (names : Names) → Origin
  made : (workload : Workload) → Origin

-- what the words ask for; with one zone for each capture, in their order
pub record Request : Type 0 where
  pub origin : Origin
  pub zones : List ℕ
  pub entries : ℕ
  pub buckets : ℕ
  pub ftp : List ℕ
  pub summary : Bool
  pub defrag : Bool
  pub listen : Bool
  pub rewrite : Bool

-- how many captures there are
abbrev pub capture_count : Origin → ℕ
capture_count (named names) = length names.captures
capture_count (made workload) = workload.threads

-- there is a capture
abbrev pub some_captures : Names → Option Origin
some_captures names = if nat_lt 0 (length names.captures) then Some (named names) else None

-- no file is named
abbrev pub names_nothing : Names → Bool
names_nothing names = is_none names.rules && is_none names.script && not (nat_lt 0 (length names.captures))

-- the three numbers of a workload are there
abbrev pub workload_of : Option ℕ → Option ℕ → Option ℕ → Option Origin
workload_of None packets threads = None
workload_of (Some seed) None threads = None
workload_of (Some seed) (Some packets) None = None
workload_of (Some seed) (Some packets) (Some threads) =
    Some (made (record { seed = seed; packets = packets; threads = threads }))

-- the workload of three texts, without a file beside it
abbrev pub workload_in : Names → List ℕ → List ℕ → List ℕ → Option Origin
workload_in names make packets threads =
    if names_nothing names then workload_of (number_of make) (number_of packets) (number_of threads) else None

-- none of the three options of a workload stands, and there is a capture; or all of them do, and no file is named
abbrev pub origin_of : Names → Option (List ℕ) → Option (List ℕ) → Option (List ℕ) → Option Origin
origin_of names None None None = some_captures names
origin_of names None None (Some threads) = None
origin_of names None (Some packets) threads = None
origin_of names (Some make) None threads = None
origin_of names (Some make) (Some packets) None = None
origin_of names (Some make) (Some packets) (Some threads) = workload_in names make packets threads

-- One zone for each capture: those that a text lists, which stands beside no made workload. Without it each zone is 0.
abbrev pub zones_for : Origin → Option (List ℕ) → Option (List ℕ)
zones_for origin None = Some (replicate (capture_count origin) 0)
zones_for (named names) (Some text) = zones_in (length names.captures) text
zones_for (made workload) (Some text) = None

-- the values are of their form
abbrev pub with_values : FoundWords → Result Request WordsError
with_values given =
    required Usage (origin_of given.names given.make given.packets given.threads) >>= λ origin.
    required Usage (zones_for origin given.zones) >>= λ zones.
    required Usage (number_or 65536 given.entries) >>= λ entries.
    required Usage (if_power_of_two (number_or 16384 given.buckets)) >>= λ buckets.
    required Usage (ports_or 21 given.ftp) >>= λ ports.
    Ok (record {
      origin = origin;
      zones = zones;
      entries = entries;
      buckets = buckets;
      ftp = ports;
      summary = given.summary;
      defrag = given.defrag;
      listen = given.listen;
      rewrite = given.rewrite;
    })

-- ---- the limits

-- the flows of a workload: each of its captures has one for every four packets, and for those that are left
abbrev pub flows_of : Workload → ℕ
flows_of workload = workload.threads * ((workload.packets + 3) / 4)

-- the first limit that the workload passes, with a table of so many entries
abbrev pub past_workload : ℕ → Workload → Option WordsLimit
past_workload entries workload =
    if nat_lt 4294967295 workload.seed then Some Seed
    else (if not (nat_le 1 workload.packets && nat_le workload.packets 262144) then Some Packets
    else (if not (nat_le 1 workload.threads && nat_le workload.threads 63) then Some Threads
    else (if nat_lt entries (flows_of workload) then Some Flows
    else None)))

-- the first limit that the captures pass
abbrev pub past_origin : ℕ → Origin → Option WordsLimit
past_origin entries (named names) = if nat_lt 63 (length names.captures) then Some Captures else None
past_origin entries (made workload) = past_workload entries workload

-- the first limit that is passed
abbrev pub past_limit : Request → Option WordsLimit
past_limit asked =
    if not (nat_le 1 asked.entries && nat_le asked.entries 65536) then Some Entries
    else (if nat_lt 65536 asked.buckets then Some Buckets
    else past_origin asked.entries asked.origin)

-- the limit that is passed is told
abbrev pub unless_past : Option WordsLimit → Request → Result Request WordsError
unless_past None asked = Ok asked
unless_past (Some limit) asked = Err (Limit limit)

abbrev pub within_limits : Request → Result Request WordsError
within_limits asked = unless_past (past_limit asked) asked

-- what the words ask for, or what is wrong with them
unfoldable pub asked_of : List (List ℕ) → Result Request WordsError
asked_of words = required Usage (found_in words) >>= λ given. with_values given >>= within_limits

-- ---- what holds of all that words may ask for

-- of a made workload, with a table of so many entries
pub record IsWorkloadWithin (entries : ℕ) (workload : Workload) : Type 0 where
  pub seed : workload.seed ≤ 4294967295
  pub some_packets : 1 ≤ workload.packets
  pub few_packets : workload.packets ≤ 262144
  pub some_threads : 1 ≤ workload.threads
  pub few_threads : workload.threads ≤ 63
  pub few_flows : flows_of workload ≤ entries

-- of the files that are named
pub record AreNamesWithin (names : Names) : Type 0 where
  pub some_captures : 0 < length names.captures
  pub few_captures : length names.captures ≤ 63

abbrev pub IsOriginWithin : ℕ → Origin → Type 0
IsOriginWithin entries (named names) = AreNamesWithin names
IsOriginWithin entries (made workload) = IsWorkloadWithin entries workload

-- of the zones: there is one for each capture
pub record AreZonesOf (origin : Origin) (zones : List ℕ) : Type 0 where
  pub one_each : length zones ≡ capture_count origin
  pub highest : All (λ zone. zone ≤ 65535) zones

pub record IsWithin (asked : Request) : Type 0 where
  pub origin : IsOriginWithin asked.entries asked.origin
  pub zones : AreZonesOf asked.origin asked.zones
  pub some_entries : 1 ≤ asked.entries
  pub few_entries : asked.entries ≤ 65536
  pub power : is_power_of_two asked.buckets ≡ true
  pub few_buckets : asked.buckets ≤ 65536
  pub some_ports : 0 < length asked.ftp
  pub few_ports : length asked.ftp ≤ 8
  pub ports : All (λ port. 1 ≤ port) asked.ftp
