-- Options read word by word.
use Rattle.std.proofs.Common.{◌≡◌, ◌∙◌, Bool, ℕ, List, [], ◌∷◌, drop, get_or, Result, Ok, Err, refl, sym, subst}
use Rattle.file_text.specs.Reading.{◌>>=◌}
use Rattle.history_book.specs.declared.filter.Filter.{Filter}
use Rattle.conntrack_cmd.specs.declared.read.ScriptKind.{ScriptKind}
use Rattle.conntrack_cmd.specs.Options.{options_from, with_option}

read_and_ended : (one : Bool) (read : Result Filter ScriptKind) → (read >>= λ (g : Filter). options_from one g []) ≡ read
unfolding options_from
read_and_ended one (Ok f) = refl
read_and_ended one (Err kind) = refl

-- an option, and the words behind its value
one_option : (one : Bool) (f : Filter) (name : List ℕ) (words : List (List ℕ)) →
    options_from one f (name ∷ words) ≡ (with_option one f name (get_or words 0 []) >>= λ (g : Filter). options_from one g (drop 1 words))
unfolding options_from
one_option one f name [] = sym (read_and_ended one (with_option one f name []))
one_option one f name (value ∷ words) = refl

went_on : (one : Bool) (read : Result Filter ScriptKind) (next : Filter) (words : List (List ℕ)) → read ≡ Ok next →
    (read >>= λ (g : Filter). options_from one g words) ≡ options_from one next words
went_on one read next words is = rw is

pub read_more : (one : Bool) (f next : Filter) (name value : List ℕ) (line words rest : List (List ℕ)) → line ≡ name ∷ words → value ≡ get_or words 0 [] → rest ≡ drop 1 words →
    with_option one f name value ≡ Ok next → options_from one next rest ≡ options_from one f line
read_more one f next name value line words rest first second behind read =
    let here : with_option one f name (get_or words 0 []) ≡ Ok next = subst (λ (v : List ℕ). with_option one f name v ≡ Ok next) second read in
    rw (first, behind) (sym (one_option one f name words ∙ went_on one (with_option one f name (get_or words 0 [])) next (drop 1 words) here))
