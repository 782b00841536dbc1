-- What words ask for, whatever the names in them are.
use Rattle.std.specs.Prelude.{◌≡◌, ℕ, ◌==◌, Bool, false, true, codes, List, [], ◌∷◌, ◌++◌, length, replicate, Some, None, Ok, Err}
use Rattle.command_words.specs.Words.{named, Names, Request, asked_of}
use Rattle.command_words.specs.declared.WordsError.TheVariants.{NoMemory, Usage}

-- the word begins with `-`
abbrev pub begins_with_dash : List ℕ → Bool
begins_with_dash [] = false
begins_with_dash (c ∷ cs) = c == 45

-- these files, in zone 0, and all else as usual
abbrev pub usual : Names → Request
usual names = record {
  origin = named names;
  zones = replicate (length names.captures) 0;
  entries = 65536;
  buckets = 16384;
  ftp = 21 ∷ [];
  summary = false;
  defrag = false;
  listen = false;
  rewrite = false;
}

-- a capture, and no other file
abbrev pub captured : List ℕ → Names
captured capture = record { rules = None; script = None; captures = capture ∷ [] }

-- behind the program's name stands a capture's
abbrev pub CapturesAlone : Type 0
CapturesAlone = (program capture : List ℕ) → begins_with_dash capture ≡ false
    → asked_of (program ∷ capture ∷ []) ≡ Ok (usual (captured capture))

-- any name may stand behind `--`
abbrev pub CapturesOfAnyName : Type 0
CapturesOfAnyName = (program capture : List ℕ) → asked_of (program ∷ codes "--" ∷ capture ∷ []) ≡ Ok (usual (captured capture))

-- the same with a file of rules, of any name too
abbrev pub CapturesWithRules : Type 0
CapturesWithRules = (program rules capture : List ℕ)
    → asked_of (program ∷ (codes "--rules=" ++ rules) ∷ codes "--" ∷ capture ∷ []) ≡ Ok (usual (record (captured capture) { rules = Some rules }))

-- with the flag a summary is asked for
abbrev pub SummaryOfCaptures : Type 0
SummaryOfCaptures = (program capture : List ℕ)
    → asked_of (program ∷ codes "--summary" ∷ codes "--" ∷ capture ∷ []) ≡ Ok (record (usual (captured capture)) { summary = true })

-- with another flag its fragments are put together
abbrev pub DefragOfCaptures : Type 0
DefragOfCaptures = (program capture : List ℕ)
    → asked_of (program ∷ codes "--defrag" ∷ codes "--" ∷ capture ∷ []) ≡ Ok (record (usual (captured capture)) { defrag = true })

-- with a third one a listener is
abbrev pub ListenOfCaptures : Type 0
ListenOfCaptures = (program capture : List ℕ)
    → asked_of (program ∷ codes "--listen" ∷ codes "--" ∷ capture ∷ []) ≡ Ok (record (usual (captured capture)) { listen = true })

-- with a fourth one its rewritten packets are
abbrev pub RewriteOfCaptures : Type 0
RewriteOfCaptures = (program capture : List ℕ)
    → asked_of (program ∷ codes "--rewrite" ∷ codes "--" ∷ capture ∷ []) ≡ Ok (record (usual (captured capture)) { rewrite = true })

-- a made workload stands beside no capture, whatever its seed is
abbrev pub MadeBesideCaptures : Type 0
MadeBesideCaptures = (program seed capture : List ℕ)
    → asked_of (program ∷ (codes "--make=" ++ seed) ∷ codes "--packets=8" ∷ codes "--threads=2" ∷ codes "--" ∷ capture ∷ []) ≡ Err Usage

-- captures are in the zones that are listed, in the order of both
abbrev pub ZonesOfCaptures : Type 0
ZonesOfCaptures = (program first second : List ℕ)
    → asked_of (program ∷ codes "--zones=1,65535" ∷ codes "--" ∷ first ∷ second ∷ [])
    ≡ Ok (record (usual (record (captured first) { captures = first ∷ second ∷ [] })) { zones = 1 ∷ 65535 ∷ [] })

-- one zone too many is not of the form, and one too few is not either
abbrev pub ZonesOfOtherCaptures : Type 0
ZonesOfOtherCaptures = ((program capture : List ℕ) → asked_of (program ∷ codes "--zones=1,2" ∷ codes "--" ∷ capture ∷ []) ≡ Err Usage)
    × ((program first second : List ℕ) → asked_of (program ∷ codes "--zones=1" ∷ codes "--" ∷ first ∷ second ∷ []) ≡ Err Usage)

-- zones stand beside no made workload, whatever they and its seed are
abbrev pub ZonesBesideMade : Type 0
ZonesBesideMade = (program seed zones : List ℕ)
    → asked_of (program ∷ (codes "--make=" ++ seed) ∷ codes "--packets=8" ∷ codes "--threads=2" ∷ (codes "--zones=" ++ zones) ∷ []) ≡ Err Usage

-- the program's name is not enough, and less is not either
abbrev pub WordsWithoutCaptures : Type 0
WordsWithoutCaptures = (asked_of [] ≡ Err Usage) × ((program : List ℕ) → asked_of (program ∷ []) ≡ Err Usage)

-- no words ask for want of memory: they ask for something, are not of the form, or pass a limit
abbrev pub WordsWantNoMemory : Type 0
WordsWantNoMemory = (words : List (List ℕ)) → asked_of words ≡ Err NoMemory → ⊥
