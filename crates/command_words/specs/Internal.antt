-- How the code keeps what it reads.
use Rattle.std.specs.Prelude.{◌≡◌, ℕ, ◌++◌, ◌∷◌, [], nat_lt, if◌then◌else◌, List, length, replicate, Option, None, Some, option_map, Result, Ok, Err}
use Rattle.command_words.specs.Asked.{names_as}
use Rattle.command_words.specs.Words.{FoundWords, capture_count, made, named, Origin, Request, Workload}
use Rattle.command_words.specs.declared.WordsLimit.{WordsLimit}
use Rattle.command_words.specs.declared.by_clap.Found.{Found}
use Rattle.command_words.specs.declared.values.Formed.{Formed}
use Rattle.command_words.specs.declared.values.FormedOrigin.{FormedOrigin}
use Rattle.command_words.specs.declared.values.FormedOrigin.TheVariants as formed
use Rattle.command_words.specs.declared.values.Wide.{Wide}

abbrev pub given_as : Found → FoundWords
given_as found = record {
  names = names_as found.names;
  zones = option_map (λ s. s.now) found.zones;
  make = option_map (λ s. s.now) found.make;
  packets = option_map (λ s. s.now) found.packets;
  threads = option_map (λ s. s.now) found.threads;
  entries = option_map (λ s. s.now) found.entries;
  buckets = option_map (λ s. s.now) found.buckets;
  ftp = option_map (λ s. s.now) found.ftp;
  summary = found.summary;
  defrag = found.defrag;
  listen = found.listen;
  rewrite = found.rewrite;
}

abbrev pub wide_as : Wide → Workload
wide_as wide = record { seed = wide.seed; packets = wide.packets; threads = wide.threads }

abbrev pub formed_origin_as : FormedOrigin → Origin
formed_origin_as (formed.Named names) = named (names_as names)
formed_origin_as (formed.Made wide) = made (wide_as wide)

-- the zones that are listed, or zone 0 for each of so many captures
abbrev pub zones_or : ℕ → Option (List ℕ) → List ℕ
zones_or count None = replicate count 0
zones_or count (Some zones) = zones

abbrev pub formed_as : Formed → Request
formed_as formed = record {
  origin = formed_origin_as formed.origin;
  zones = zones_or (capture_count (formed_origin_as formed.origin)) (option_map (λ z. z.items) formed.zones);
  entries = formed.entries;
  buckets = formed.buckets;
  ftp = formed.ftp.items;
  summary = formed.summary;
  defrag = formed.defrag;
  listen = formed.listen;
  rewrite = formed.rewrite;
}

-- it is the value that no limit is passed with, or the limit
abbrev pub IsOrPast : {A B : Type 0} → (A → B) → B → Option WordsLimit → Result A WordsLimit → Type 0
IsOrPast view wanted past (Ok x) = (past ≡ None) × (view x ≡ wanted)
IsOrPast view wanted past (Err limit) = past ≡ Some limit

-- these numbers and that of the text, where there are at most so many
unfoldable pub numbers_after : ℕ → (List ℕ → Option ℕ) → List ℕ → List ℕ → Option (List ℕ)
numbers_after most read numbers text = if nat_lt (length numbers) most then option_map (λ number. numbers ++ number ∷ []) (read text) else None
