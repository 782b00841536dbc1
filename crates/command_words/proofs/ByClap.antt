-- What clap's contracts say of the one command.
use Rattle.std.proofs.Common.{◌≡◌, ◌∙◌, ℕ, List, [], ◌∷◌, refl, sym, subst, ap, ap₂, true, option_map, Ok, Err, inl, inr}
use Rattle.clap.specs.Words.{App, HasKind, HasMatchesOf, Kinds, Row, all_of, fault_of, first_of, first_value, found_of, is_simple, is_simple_and_free, kind_of, matched_of, matches_of, raw_values, rows_of}
use Rattle.clap.specs.declared.error.Error.{Error}
use Rattle.clap.specs.declared.error.kind.ErrorKind.TheVariants.{OutOfMemory}
use Rattle.clap.specs.declared.parser.matches.ArgMatches.{ArgMatches}
use Rattle.clap.specs.declared.parser.matches.Found.{Found}
use Rattle.clap.proofs.OnLiterals.{clap_on_literals}
use Rattle.clap.proofs.WalkLemmas.{first_value-rows, raw_values-rows}
use Rattle.file_text.specs.Reading.{required}
use Rattle.command_words.specs.Words.{app, found_by, found_from, found_in, table_app, workload_app}
use Rattle.command_words.specs.declared.WordsError.TheVariants.{Usage}

pub first_found : (f : Found) (id : List ℕ) → first_value f id ≡ first_of id (rows_of f)
first_found = first_value-rows

pub all_found : (f : Found) (id : List ℕ) → option_map raw_values (matched_of f id) ≡ all_of id (rows_of f)
all_found = raw_values-rows

app_is_simple : is_simple app ≡ true
unfolding app workload_app table_app clap_on_literals
app_is_simple = refl

app_is_free : is_simple_and_free app ≡ true
unfolding app workload_app table_app clap_on_literals
app_is_free = refl

-- clap took the words
pub taken : (a : App) (words : List (List ℕ)) (m : ArgMatches) → a ≡ app → HasMatchesOf a words m → (is_simple_and_free a ≡ true → fault_of a words ≡ [])
    → required Usage (found_in words) ≡ Ok (found_by (rows_of (found_of m)))
unfolding found_in
taken a words m is matches kinds =
    let none : fault_of app words ≡ [] = ap (λ (x : App). fault_of x words) (sym is) ∙ kinds (ap is_simple_and_free is ∙ app_is_free) in
    let both = matches (ap is_simple is ∙ app_is_simple) in
    let rows : matches_of app words ≡ rows_of (found_of m) = ap (λ (x : App). matches_of x words) (sym is) ∙ sym both.0 in
    ap (required Usage) (ap₂ found_from none rows)

nothing : (kinds : Kinds) (rows : List Row) (e : Error) → HasKind kinds e → (kind_of e ≡ OutOfMemory → ⊥) → required Usage (found_from kinds rows) ≡ Err Usage
nothing [] rows e (inl memory) other = absurd (other memory)
nothing [] rows e (inr among) other = absurd among
nothing (kind ∷ kinds) rows e has other = refl

-- clap refused the words, and not for want of memory
pub refused : (a : App) (words : List (List ℕ)) (e : Error) → a ≡ app → (is_simple_and_free a ≡ true → HasKind (fault_of a words) e) → (kind_of e ≡ OutOfMemory → ⊥)
    → required Usage (found_in words) ≡ Err Usage
unfolding found_in
refused a words e is kinds other =
    let has : HasKind (fault_of app words) e = subst (λ (x : App). HasKind (fault_of x words) e) is (kinds (ap is_simple_and_free is ∙ app_is_free)) in
    nothing (fault_of app words) (matches_of app words) e has other
