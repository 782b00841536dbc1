-- What an answer to the words says.
use Rattle.std.specs.Prelude.{◌≡◌, ℕ, List, map, option_map, Result, Ok, Err}
use Rattle.std.specs.Borrow.{Bor}
use Rattle.command_words.specs.Words.{made, named, Names, Origin, Request, Workload}
use Rattle.command_words.specs.declared.Asked.{Asked}
use Rattle.command_words.specs.declared.Named.{Named}
use Rattle.command_words.specs.declared.Origin as code_origin
use Rattle.command_words.specs.declared.Origin.TheVariants as origin
use Rattle.command_words.specs.declared.Workload as code_workload
use Rattle.command_words.specs.declared.WordsError.{WordsError}
use Rattle.command_words.specs.declared.WordsError.TheVariants.{Limit, NoMemory, Usage}

abbrev pub texts : List (Bor (List ℕ)) → List (List ℕ)
texts = map (λ (s : Bor (List ℕ)). s.now)

-- the files that are named, as the code keeps them
abbrev pub names_as : Named → Names
names_as names = record {
  rules = option_map (λ s. s.now) names.rules;
  script = option_map (λ s. s.now) names.script;
  captures = texts names.captures.items;
}

-- a workload, as the code keeps one
abbrev pub workload_as : code_workload.Workload → Workload
workload_as workload =
    record { seed = workload.seed; packets = workload.packets; threads = workload.threads }

-- what is worked through, as the code keeps it
abbrev pub origin_as : code_origin.Origin → Origin
origin_as (origin.Named names) = named (names_as names)
origin_as (origin.Made workload) = made (workload_as workload)

-- what is asked, as the code keeps it
abbrev pub asked_as : Asked → Request
asked_as asked = record {
  origin = origin_as asked.origin;
  zones = asked.zones.items;
  entries = asked.entries;
  buckets = asked.buckets;
  ftp = asked.ftp.items;
  summary = asked.summary;
  defrag = asked.defrag;
  listen = asked.listen;
  rewrite = asked.rewrite;
}

-- the answer is the one that is wanted, or want of memory
abbrev pub IsOrNoMemory : {A B : Type 0} → (A → B) → Result B WordsError → Result A WordsError → Type 0
IsOrNoMemory view wanted (Ok x) = wanted ≡ Ok (view x)
IsOrNoMemory view wanted (Err NoMemory) = Unit {0}
IsOrNoMemory view wanted (Err Usage) = wanted ≡ Err Usage
IsOrNoMemory view wanted (Err (Limit limit)) = wanted ≡ Err (Limit limit)
