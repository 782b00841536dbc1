-- What some words ask for, computed from clap's definitions.
use lib.Count.{ones}
use Rattle.std.proofs.Common.{◌≡◌, ◌∙◌, ℕ, false, List, [], ◌∷◌, Option, Some, None, Result, Err, refl, ap, ap₂}
use Rattle.clap.proofs.OnLiterals.{clap_on_literals}
use Rattle.command_words.proofs.PlainWord.{same_faults, same_rows}
use Rattle.file_text.specs.Reading.{◌>>=◌, required}
use Rattle.file_text.specs.Text.{port_of}
use Rattle.command_words.specs.Words.{app, asked_of, found_from, found_in, FoundWords, number_of, Origin, Request, table_app, with_values, within_limits, workload_app, workload_of, zones_for, zones_in}
use Rattle.command_words.specs.declared.WordsError.{WordsError}
use Rattle.command_words.specs.declared.WordsError.TheVariants.{Usage}
use Rattle.command_words.specs.WordsLaws.{CapturesAlone, CapturesOfAnyName, CapturesWithRules, DefragOfCaptures, ListenOfCaptures, MadeBesideCaptures, RewriteOfCaptures, SummaryOfCaptures, WordsWithoutCaptures, ZonesBesideMade, ZonesOfCaptures, ZonesOfOtherCaptures, begins_with_dash}

pub any_name : CapturesOfAnyName
unfolding asked_of found_in app workload_app table_app clap_on_literals ones
any_name program capture = refl

same_found : (program capture : List ℕ) → begins_with_dash capture ≡ false →
    found_in (program ∷ capture ∷ []) ≡ found_in (program ∷ (45 ∷ 45 ∷ []) ∷ capture ∷ [])
unfolding found_in
same_found program capture other = ap₂ found_from (same_faults program capture other) (same_rows program capture other)

pub alone : CapturesAlone
unfolding asked_of
alone program capture other =
    ap (λ (found : Option FoundWords). required Usage found >>= λ given. with_values given >>= within_limits)
    (same_found program capture other) ∙ any_name program capture

pub with_rules : CapturesWithRules
unfolding asked_of found_in app workload_app table_app clap_on_literals ones
with_rules program rules capture = refl

pub summary : SummaryOfCaptures
unfolding asked_of found_in app workload_app table_app clap_on_literals ones
summary program capture = refl

pub defrag : DefragOfCaptures
unfolding asked_of found_in app workload_app table_app clap_on_literals ones
defrag program capture = refl

pub listen : ListenOfCaptures
unfolding asked_of found_in app workload_app table_app clap_on_literals ones
listen program capture = refl

pub rewrite : RewriteOfCaptures
unfolding asked_of found_in app workload_app table_app clap_on_literals ones
rewrite program capture = refl

pub beside : MadeBesideCaptures
unfolding asked_of found_in app workload_app table_app clap_on_literals ones
beside program seed capture = refl

pub zones : ZonesOfCaptures
unfolding asked_of found_in app workload_app table_app zones_in port_of clap_on_literals ones
zones program first second = refl

pub other_zones : ZonesOfOtherCaptures
unfolding asked_of found_in app workload_app table_app zones_in clap_on_literals ones
other_zones = (λ program capture. refl, λ program first second. refl)

-- with such a seed and such zones
refuses : (seed : Option ℕ) (listed : List ℕ) (more : Origin → List ℕ → Result Request WordsError)
    → (required Usage (workload_of seed (Some 8) (Some 2)) >>= λ origin. required Usage (zones_for origin (Some listed)) >>= more origin) ≡ Err Usage
refuses None listed more = refl
refuses (Some seed) listed more = refl

pub beside_made : ZonesBesideMade
unfolding asked_of found_in app workload_app table_app clap_on_literals ones
beside_made program seed listed = ap (λ (asked : Result Request WordsError). asked >>= within_limits) (refuses (number_of seed) listed _)

pub without : WordsWithoutCaptures
unfolding asked_of found_in app workload_app table_app clap_on_literals ones
without = (refl, λ program. refl)
