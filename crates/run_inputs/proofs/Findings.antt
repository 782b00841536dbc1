-- Of words, and of files with such bytes, one thing holds.
use Rattle.std.proofs.Common.{◌≡◌, ℕ, zero, suc, Option, Some, None, Ok, Err, List, [], ◌∷◌, refl, sym, subst, ◌∙◌}
use Rattle.std.specs.Prelude.{IfSome}
use Rattle.command_words.specs.Words.{asked_of, Request}
use Rattle.command_words.specs.declared.WordsError.{WordsError}
use Rattle.command_words.specs.declared.WordsError.TheVariants as unasked
use Rattle.command_words.specs.declared.WordsLimit.{WordsLimit}
use Rattle.ct_io.specs.Source.{Source}
use Rattle.run_inputs.specs.declared.flaw.Flaw.{Flaw}
use Rattle.run_inputs.specs.Content.{Content, totals_with, IsRead, no_totals, Totals}
use Rattle.run_inputs.specs.Flaw.{HasFlaw}
use Rattle.run_inputs.specs.Inputs.{AreGiven, AreReadFrom, AreTold, FirstFlawFrom}
use Rattle.run_inputs.specs.Laws.{ContentsAreUnique, FlawsAreUnique, GivenIsTold, ReadFilesHaveNoFlaw, WordsSayOne}
use Rattle.run_inputs.specs.Files.{InputFile, AskFor}

-- ---- bytes that are told

-- lists of bytes are the same as far as both go
abbrev pub Agree : List (List ℕ) → List (List ℕ) → Type 0
Agree [] others = Unit {0}
Agree (b ∷ bytes) [] = Unit {0}
Agree (b ∷ bytes) (o ∷ others) = (b ≡ o) × Agree bytes others

pub agree_sym : (bytes others : List (List ℕ)) → Agree bytes others → Agree others bytes
agree_sym [] [] same = tt
agree_sym [] (o ∷ others) same = tt
agree_sym (b ∷ bytes) [] same = tt
agree_sym (b ∷ bytes) (o ∷ others) same = (sym same.0, agree_sym bytes others same.1)

-- what is given of contents is what is told of them
given_told : (told : Option (List ℕ)) (b o : List ℕ) → IfSome told (λ contents. b ≡ contents) → told ≡ Some o → b ≡ o
given_told None b o given is = absurd (subst (λ (t : Option (List ℕ)). IfSome t (λ contents. ⊥)) is tt)
given_told (Some contents) b o given is =
    given ∙ subst (λ (t : Option (List ℕ)). IfSome t (λ found. contents ≡ found)) is refl

pub agree : (files : Source) (inputs : List InputFile) (bytes others : List (List ℕ)) → AreGiven files inputs bytes
    → AreTold files inputs others → Agree bytes others
agree files inputs [] others given told = tt
agree files inputs (b ∷ bytes) [] given told = tt
agree files [] (b ∷ bytes) (o ∷ others) given told = absurd given
agree files (input ∷ inputs) (b ∷ bytes) (o ∷ others) given told =
    (given_told (files.contents input.name) b o given.0 told.0, agree files inputs bytes others given.1 told.1)

-- ---- of files with such bytes, one thing holds

module _ (clean_files : ReadFilesHaveNoFlaw) (one : ContentsAreUnique) where
  -- files that are all read have no first flaw
  pub read_clean : (before : Totals) (inputs : List InputFile) (bytes others : List (List ℕ)) (contents : List Content) (k : ℕ) (f : Flaw)
      → Agree bytes others → AreReadFrom before inputs bytes contents → FirstFlawFrom before inputs others k f → ⊥
  read_clean before [] bytes others contents k f same read found = found
  read_clean before (input ∷ inputs) [] others contents k f same read found = read
  read_clean before (input ∷ inputs) (b ∷ bytes) others [] k f same read found = read
  read_clean before (input ∷ inputs) (b ∷ bytes) [] (c ∷ contents) k f same read found = found
  read_clean before (input ∷ inputs) (b ∷ bytes) (o ∷ others) (c ∷ contents) zero f same read found =
      clean_files input.kind before o c f (subst (λ x. IsRead input.kind before x c) same.0 read.0) found
  read_clean before (input ∷ inputs) (b ∷ bytes) (o ∷ others) (c ∷ contents) (suc k) f same read found =
      let here : IsRead input.kind before o c = subst (λ x. IsRead input.kind before x c) same.0 read.0 in
      let content : c ≡ found.0 = one input.kind before o c found.0 here found.1 in
      let total : totals_with before b c ≡ totals_with before o found.0 = rw (same.0, content) refl in
      read_clean (totals_with before o found.0) inputs bytes others contents k f same.1
      (subst (λ (t : Totals). AreReadFrom t inputs bytes contents) total read.1) found.2

  -- there is one first flaw
  pub one_first : FlawsAreUnique → (before : Totals) (inputs : List InputFile) (bytes others : List (List ℕ)) (k l : ℕ) (f g : Flaw)
      → Agree bytes others → FirstFlawFrom before inputs bytes k f → FirstFlawFrom before inputs others l g → f ≡ g
  one_first unique before [] bytes others k l f g same found also = absurd found
  one_first unique before (input ∷ inputs) [] others k l f g same found also = absurd found
  one_first unique before (input ∷ inputs) (b ∷ bytes) [] k l f g same found also = absurd also
  one_first unique before (input ∷ inputs) (b ∷ bytes) (o ∷ others) zero zero f g same found also =
      unique input.kind before o f g (subst (λ x. HasFlaw input.kind before x f) same.0 found) also
  one_first unique before (input ∷ inputs) (b ∷ bytes) (o ∷ others) zero (suc l) f g same found also =
      absurd (clean_files input.kind before o also.0 f also.1 (subst (λ x. HasFlaw input.kind before x f) same.0 found))
  one_first unique before (input ∷ inputs) (b ∷ bytes) (o ∷ others) (suc k) zero f g same found also =
      absurd (clean_files input.kind before o found.0 g (subst (λ x. IsRead input.kind before x found.0) same.0 found.1) also)
  one_first unique before (input ∷ inputs) (b ∷ bytes) (o ∷ others) (suc k) (suc l) f g same found also =
      let here : IsRead input.kind before o found.0 = subst (λ x. IsRead input.kind before x found.0) same.0 found.1 in
      let content : found.0 ≡ also.0 = one input.kind before o found.0 also.0 here also.1 in
      let total : totals_with before b found.0 ≡ totals_with before o also.0 = rw (same.0, content) refl in
      one_first unique (totals_with before o also.0) inputs bytes others k l f g same.1
      (subst (λ (t : Totals). FirstFlawFrom t inputs bytes k f) total found.2) also.2

-- so bytes that are given are read or flawed as those that are told
pub given_is_told : ReadFilesHaveNoFlaw → ContentsAreUnique → FlawsAreUnique → GivenIsTold
given_is_told clean_files one unique = record {
  read = λ files inputs bytes others contents k f given told read found.
      read_clean clean_files one no_totals inputs bytes others contents k f (agree files inputs bytes others given told) read found;
  flawed = λ files inputs bytes others contents k f given told found read.
      read_clean clean_files one no_totals inputs others bytes contents k f
      (agree_sym bytes others (agree files inputs bytes others given told)) read found;
  one = λ files inputs bytes others k l f g given told found also.
      one_first clean_files one unique no_totals inputs bytes others k l f g (agree files inputs bytes others given told) found also;
}

-- ---- of words, one thing holds

-- the words ask for one thing
pub same_request : (words : List (List ℕ)) (asked other : Request) → asked_of words ≡ Ok asked → asked_of words ≡ Ok other → asked ≡ other
same_request words asked other h k = cc

pub two_errors : (words : List (List ℕ)) (limit : WordsLimit) → asked_of words ≡ Err unasked.Usage → asked_of words ≡ Err (unasked.Limit limit) → ⊥
two_errors words limit misuse past_one = cc

pub at_asked : (words : List (List ℕ)) (asked : Request) (P : Request → Type 0) → asked_of words ≡ Ok asked → AskFor words P → P asked
at_asked words asked P says of = subst P (same_request words of.asked asked of.says says) of.holds

pub not_asked : (words : List (List ℕ)) (asked : Request) (error : WordsError) → asked_of words ≡ Err error → asked_of words ≡ Ok asked → ⊥
not_asked words asked error none some = cc

pub words_say_one : WordsSayOne
words_say_one = record { request = same_request; refused = not_asked; misused = two_errors }
